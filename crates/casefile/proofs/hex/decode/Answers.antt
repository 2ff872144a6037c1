-- `casefile::hex::decode` meets its contract. Assumes nothing.
use mathlib.Core.Path.{sym, ◌∙◌}
use mathlib.Core.List.{List}
use Prim.Native.Nat.{ℕ, ◌+◌, ◌*◌, ◌<◌}
use native.Mathlib.Omega.{arith}
use lib.ListN.{length, length-set}
use borrow.Author.Rules.{rules}
use borrow.Author.Tests.{eqb-true, eqb-false}
use Rattle.casefile.proofs.Digits.{digits_more, high_not, low_not, byte_stored, hex_none, hex_not, hex_by, digits_end, bytes_end}
use Rattle.casefile.proofs.hex.decode.Goals as goal
use Rattle.casefile.proofs.hex.decode.Goals.{then-is_empty-via-then-is_empty, then-is_empty-via-else-is_empty+then-digits-out}

pub returns-then-is_empty-clause-value : goal.returns-then-is_empty-clause-value
returns-then-is_empty-clause-value c = elim c.then-is_empty.branch [
  | then-is_empty-via-then-is_empty w ↦ sym (hex_none _ _ (eqb-true _ _ (sym c.is_empty.ensures ∙ w.if-is_empty.true)))
  | then-is_empty-via-else-is_empty+then-digits-out w ↦ sym (hex_not _ _ w.if-digits-out.true)
]

pub returns-in_default-clause-value : goal.returns-in_default-clause-value
returns-in_default-clause-value c =
    let ds : List ℕ = c.args.digits.now in
    let loop = c.loop-i in
    let none = high_not ds loop.i (omega arith) (sym c.in_default.ensures.value) in
    sym (hex_by _ _ loop.i (omega arith) (omega arith) loop.invariant.1 none)

pub returns-in_default-digit-clause-value : goal.returns-in_default-digit-clause-value
returns-in_default-digit-clause-value c =
    let ds : List ℕ = c.args.digits.now in
    let loop = c.loop-i in
    let none = low_not ds loop.i (omega arith) (sym c.in_default-digit.ensures.value) in
    sym (hex_by _ _ loop.i (omega arith) (omega arith) loop.invariant.1 none)

pub loop-i-preserved : goal.loop-i-preserved
loop-i-preserved c =
    let ds : List ℕ = c.args.digits.now in
    let out : List ℕ = c.loop-i.out in
    let i : ℕ = c.loop-i.i in
    let inv = c.loop-i.invariant in
    let high = c.in-Some.ensures in
    let low = c.in-Some-digit.ensures in
    let inside : i < length out = omega arith in
    let pair : 2 * i + 1 < length ds = omega arith in
    simp length-set (
      search rules,
      inv.1 ∙ digits_more ds i pair (omega (arith, high.value, high.below)) (omega (arith, low.value, low.below)),
      inv.2 ∙ byte_stored ds out i (c.in-Some.high * 16 + c.in-Some-digit.low) pair inside (rw (high.value, low.value)),
    )

pub returns-clause-value : goal.returns-clause-value
returns-clause-value c =
    let loop = c.loop-i in
    let some = eqb-false _ _ (sym c.is_empty.ensures ∙ c.if-is_empty.false) in
    sym (hex_by _ _ loop.i (omega arith) (omega arith) loop.invariant.1 (digits_end _ (2 * loop.i) (omega arith)))

pub returns-clause-out_after : goal.returns-clause-out_after
returns-clause-out_after c =
    let loop = c.loop-i in
    λ t. sym (loop.invariant.2 ∙ bytes_end _ loop.out loop.i (omega arith) (omega arith))
