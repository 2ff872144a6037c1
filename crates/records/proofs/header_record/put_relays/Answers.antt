-- `put_relays` meets its contract. Assumes nothing.
use mathlib.Core.Path.{◌≡◌, sym, ap, ◌∙◌}
use native.Mathlib.Omega.{arith}
use Rattle.octets.specs.Strings.{over}
use Rattle.octets.proofs.Strings.{over_nil}
use Rattle.header.specs.Optional.{relay_bytes}
use Rattle.header.proofs.OptionalFields.{relays_more}
use Rattle.records.proofs.header_record.put_relays.Goals as goal

pub loop-j-init : goal.loop-j-init
unfolding relay_bytes
loop-j-init c = sym (over_nil c.args.out.now 39)

pub loop-j-preserved : goal.loop-j-preserved
loop-j-preserved c =
    let a = c.args in
    let l = c.loop-j in
    c.put_u16.ensures ∙ rw l.invariant (relays_more a.out.now 39 l.j a.relays (omega (arith, c.requires)))

pub returns : goal.returns
returns c =
    let a = c.args in
    let done : c.loop-j.j ≡ 54 = omega arith in
    c.loop-j.invariant ∙ ap (λ k. over a.out.now 39 (relay_bytes k a.relays)) done
