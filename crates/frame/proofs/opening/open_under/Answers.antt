-- `open_under` meets its contract on a sealed frame: refused by 19 with nothing changed, or opened. Assumes nothing.
use mathlib.Core.Path.{sym, ap, ◌∙◌}
use native.Mathlib.Omega.{arith}
use lib.ListN.{drop}
use lib.Seq.{length-take-le}
use Rattle.octets.proofs.Strings.{part_behind}
use Rattle.frame.specs.Opening.{Mark, Run}
use Rattle.frame.proofs.Answers.{ready, split_parts, split_passes, opened_valid, opened_invalid}
use Rattle.frame.proofs.opening.open_under.Goals as goal

pub slice_bounds-front-end : goal.slice_bounds-front-end
slice_bounds-front-end c =
    let o = c.in_ok-header.ensures in
    let r = ready _ _ _ _ _ (λ i. (c.type_inv.bytes i).fits) o.frame.0 o.number o.frame.2 c.in-Some.is in
    sym (length-take-le _ _ (omega (arith, r.within)))

pub returns-in_err-n : goal.returns-in_err-n
returns-in_err-n c =
    let o = c.in_ok-header.ensures in
    let r = ready _ _ _ _ _ (λ i. (c.type_inv.bytes i).fits) o.frame.0 o.number o.frame.2 c.in-Some.is in
    absurd (split_passes _ _ _ r.tag r.tagged (rw part_behind at c.in_err-n.ensures))

pub slice_bounds-open_sealed-end : goal.slice_bounds-open_sealed-end
slice_bounds-open_sealed-end c =
    let o = c.in_ok-header.ensures in
    let r = ready _ _ _ _ _ (λ i. (c.type_inv.bytes i).fits) o.frame.0 o.number o.frame.2 c.in-Some.is in
    let s = split_parts _ _ _ _ r.tag r.tagged (rw part_behind at c.in_ok-n.ensures) in
    rw part_behind (sym (length-take-le _ _ (omega (arith, s.0))))

pub open_sealed-requires : goal.open_sealed-requires
open_sealed-requires c =
    let o = c.in_ok-header.ensures in
    let r = ready _ _ _ _ _ (λ i. (c.type_inv.bytes i).fits) o.frame.0 o.number o.frame.2 c.in-Some.is in
    let s = split_parts _ _ _ _ r.tag r.tagged (rw part_behind at c.in_ok-n.ensures) in
    let size = length-take-le c.in_ok-n.n (drop c.in_ok-header.field-0.length c.args.bytes.now) (omega (arith, s.0)) in
    rw part_behind
    (r.tag, rw c.size.ensures.0 r.front, r.short, omega (arith, size, s.0, r.part), omega (arith, size, s.0, r.fits))

pub returns-then-not-open_sealed : goal.returns-then-not-open_sealed
returns-then-not-open_sealed c =
    let o = c.in_ok-header.ensures in
    let r = ready _ _ _ _ _ (λ i. (c.type_inv.bytes i).fits) o.frame.0 o.number o.frame.2 c.in-Some.is in
    let s = split_parts _ _ _ _ r.tag r.tagged (rw part_behind at c.in_ok-n.ensures) in
    let e = rw part_behind at c.open_sealed.ensures in
    let run =
    opened_invalid _ _ _ _ _ _ _ _ _ _ _ o.frame.0 o.number r.sealed c.in-Some.is s.0 s.1 s.2 e.valid e.buffer c.if-not-open_sealed.true in
    record {
      answer = ap (λ (k : Run). k.answer) run;
      buffer = ap (λ (k : Run). k.out) run;
    }

pub returns : goal.returns
returns c =
    let o = c.in_ok-header.ensures in
    let r = ready _ _ _ _ _ (λ i. (c.type_inv.bytes i).fits) o.frame.0 o.number o.frame.2 c.in-Some.is in
    let s = split_parts _ _ _ _ r.tag r.tagged (rw part_behind at c.in_ok-n.ensures) in
    let e = rw part_behind at c.open_sealed.ensures in
    let run =
    opened_valid _ _ _ _ _ _ _ _ _ _ _ o.frame.0 o.number r.sealed c.in-Some.is s.0 s.1 s.2 e.valid e.buffer c.if-not-open_sealed.false in
    record {
      answer = (λ i. record {
        refusal = 0;
        mark = Mark.Sealed;
        length = c.in_ok-n.n;
        nonce_ieee = c.nonce_ieee.ensures i;
        header = c.in_ok-header.field-0.header;
        aux = sym c.in-Some.is i;
      }) ∙ ap (λ (k : Run). k.answer) run;
      buffer = ap (λ (k : Run). k.out) run;
    }
