-- `put_links` meets its contract. Assumes nothing.
use native.Mathlib.Omega.{arith}
use Rattle.commands.specs.Format.{size, sizes}
use Rattle.commands.proofs.EntriesWritten.{put_none, put_next}
use Rattle.command_records.specs.Lists.{link_record_entry}
use Rattle.command_records.proofs.lists.put_links.Goals as goal

pub loop-k-init : goal.loop-k-init
loop-k-init c = put_none _ _ 31 c.args.out.now c.args.i

pub loop-k-preserved : goal.loop-k-preserved
unfolding link_record_entry size sizes
loop-k-preserved c =
    put_next c.loop-k.invariant (omega arith) (omega arith) c.put_link.auto.out c.put_link.ensures
