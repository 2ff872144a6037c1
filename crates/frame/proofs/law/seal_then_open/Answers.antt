-- `seal_then_open` meets its contract: the run is sealing's and then opening's, and of it the sealing law's first half holds, whose
-- premises on ranges are what every value has.
-- Assumes nothing.
use mathlib.Core.Path.{sym, ap, ◌∙◌}
use native.Mathlib.Omega.{arith}
use lib.Seq.{length-take-le}
use Rattle.frame.specs.Sealing.{FrameSealed}
use Rattle.frame.specs.Opening.{Run}
use Rattle.frame.proofs.SealingLaw.{length_told, seal_within, first_half, seal_then_open_run}
use Rattle.frame.proofs.law.seal_then_open.Goals as goal

pub slice_bounds-open-end : goal.slice_bounds-open-end
slice_bounds-open-end c =
    let a = c.args in
    let e = c.unwrap_or-length.ensures ∙ length_told c.seal.result ∙ ap (λ (r : FrameSealed). r.length) c.seal.ensures.answer in
    omega (arith, seal_within a.level a.key.0 a.h a.aux a.payload.now a.frame.now, e)

pub slice_bounds-open-end-2 : goal.slice_bounds-open-end-2
slice_bounds-open-end-2 c = sym (length-take-le _ _ (slice_bounds-open-end c))

pub returns : goal.returns
returns c =
    let s = c.seal.ensures in
    let o = rw (c.unwrap_or-length.ensures, length_told) at c.open.ensures in
    let run = seal_then_open_run _ _ _ _ _ _ _ _ _ _ _ s.answer s.buffer o.answer o.buffer in record {
      answer = ap (λ (r : Run). r.answer) run;
      frame = s.buffer;
      out = ap (λ (r : Run). r.out) run;
      law = λ accepted room. rw run (first_half _ _ _ _ _ _ _ c.in_range.ensures accepted room);
    }
