-- `commands::lists::put_powers` meets its contract. Assumes nothing.
use native.Mathlib.Omega.{arith}
use Rattle.commands.specs.Format.{size, sizes}
use Rattle.commands.proofs.EntriesWritten.{put_none, put_next}
use Rattle.commands.specs.Commands.{link_power_delta_format}
use Rattle.commands.proofs.lists.put_powers.Goals as goal

pub loop-k-init : goal.loop-k-init
loop-k-init c = let a = c.args in put_none _ _ a.n a.out.now a.i

pub loop-k-preserved : goal.loop-k-preserved
unfolding link_power_delta_format size sizes
loop-k-preserved c =
    put_next c.loop-k.invariant (omega arith) (omega arith) c.put_power.auto.out c.put_power.ensures
