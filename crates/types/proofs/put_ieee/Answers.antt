-- `put_ieee` meets its contract: nothing is written of a field that is missing, and a number of 8 bytes of one that is present.
-- Assumes nothing.
use Rattle.std.specs.Prelude.{Option, None}
use mathlib.Core.Path.{◌≡◌, sym, ap, ◌∙◌}
use mathlib.Core.List.{List}
use Prim.Native.Nat.{ℕ, ◌+◌}
use native.Mathlib.Nat.{add-zero}
use native.Mathlib.Omega.{arith}
use lib.ListN.{length}
use Rattle.types.specs.Optional.{ieee_bytes}
use Rattle.octets.specs.Strings.{over}
use Rattle.octets.proofs.Strings.{over_nil}
use Rattle.octets.proofs.Numbers.{length_le}
use Rattle.types.proofs.put_ieee.Goals as goal

pub put_u64-requires : goal.put_u64-requires
put_u64-requires c =
    let e : length (ieee_bytes c.args.ieee) ≡ 8 = ap (λ (o : Option ℕ). length (ieee_bytes o)) c.in-Some.is ∙ length_le 8 _ in
    omega (arith, c.requires)

pub returns-in-None : goal.returns-in-None
returns-in-None c =
    let a = c.args in
    let e : ieee_bytes a.ieee ≡ ieee_bytes None = ap ieee_bytes c.in-None.is in
    (sym (ap (λ (l : List ℕ). a.i + length l) e ∙ add-zero a.i), sym (ap (over a.out.now a.i) e ∙ over_nil a.out.now a.i))

pub returns-in-Some : goal.returns-in-Some
returns-in-Some c =
    let a = c.args in
    let e = c.in-Some.is in (
      sym (ap (λ (o : Option ℕ). a.i + length (ieee_bytes o)) e ∙ ap (λ (k : ℕ). a.i + k) (length_le 8 _)),
      c.put_u64.ensures ∙ sym (ap (λ (o : Option ℕ). over a.out.now a.i (ieee_bytes o)) e),
    )
