-- `commands::lists::put_pan_ids` meets its contract. Assumes nothing.
use native.Mathlib.Omega.{arith}
use mathlib.Core.Path.{sym, ap, ◌∙◌}
use mathlib.Core.List.{append-nil}
use Rattle.octets.specs.Strings.{over}
use Rattle.commands.specs.Format.{size, sizes, width, write_field, write_fields}
use Rattle.commands.proofs.EntriesWritten.{put_none, put_next}
use Rattle.commands.specs.Commands.{network_report_format, pan_id_entry}
use Rattle.commands.proofs.lists.put_pan_ids.Goals as goal

pub loop-k-init : goal.loop-k-init
loop-k-init c = let a = c.args in put_none _ _ a.n a.out.now a.i

pub loop-k-preserved : goal.loop-k-preserved
unfolding network_report_format size sizes width write_field write_fields pan_id_entry
loop-k-preserved c =
    put_next c.loop-k.invariant (omega arith) (omega arith) c.put_u16.auto.out (c.put_u16.ensures ∙ ap (over _ _) (sym (append-nil _)))
