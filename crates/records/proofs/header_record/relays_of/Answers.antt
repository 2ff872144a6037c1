-- `relays_of` meets its contract. Assumes nothing.
use mathlib.Core.Path.{◌≡◌, refl, ap, ◌∙◌}
use native.Mathlib.Omega.{arith}
use Prim.Native.Nat.{◌<◌}
use lib.ListN.{length-set}
use Rattle.octets.specs.Strings.{tab}
use Rattle.octets.proofs.Strings.{fill_turn, filled}
use Rattle.types.specs.Addresses.{nwk}
use Rattle.records.specs.HeaderRecord.{relays_from}
use Rattle.records.proofs.header_record.relays_of.Goals as goal

pub loop-i-init : goal.loop-i-init
unfolding tab
loop-i-init c = (refl, refl)

pub loop-i-preserved : goal.loop-i-preserved
loop-i-preserved c =
    let l = c.loop-i in
    let below : l.i < 54 = c.loop-i-test.true in (
      simp length-set l.invariant.0,
      fill_turn _ l.i _ l.relays _ below (ap nwk c.number_at.ensures) l.invariant.1,
    )

pub returns : goal.returns
unfolding relays_from
returns c =
    let l = c.loop-i in
    let done : l.i ≡ 54 = omega arith in
    filled _ l.i _ l.relays (omega arith) l.invariant.1 ∙ ap (tab _) done
