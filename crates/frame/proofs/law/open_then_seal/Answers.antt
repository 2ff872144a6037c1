-- `open_then_seal` meets its contract: the run is opening's and then sealing's, and of it the sealing law's second half holds.
-- Assumes nothing.
use mathlib.Core.Path.{◌≡◌, ap, ◌∙◌}
use Rattle.frame.specs.Sealing.{Run}
use Rattle.frame.specs.Opening.{told_opened, open_refused}
use Rattle.frame.proofs.SealingLaw.{second_half, open_then_seal_run}
use Rattle.frame.proofs.law.open_then_seal.Goals as goal
use Rattle.frame.proofs.law.open_then_seal.Goals.{in-Ok, in-Err}

pub returns : goal.returns
unfolding open_refused
returns c =
    let o = c.open-opened.ensures in
    let s = c.seal.ensures in
    let given = told_opened c.open-opened.result in
    let headers : (c.match-opened.aux.0 ≡ given.header) × (c.match-opened.aux.1 ≡ given.aux) = elim c.match-opened.branch [
      | in-Ok w ↦ rw w.in-Ok.is (ap (λ p. p.0) w.aux-is, ap (λ p. p.1) w.aux-is)
      | in-Err w ↦ rw w.in-Err.is (ap (λ p. p.0) w.aux-is ∙ w.blank.ensures, ap (λ p. p.1) w.aux-is)
    ] in
    let run = open_then_seal_run _ _ _ _ _ _ _ _ _ _ o.answer o.buffer c.payload-payload.ensures (rw (headers.0, headers.1) at s.answer) (rw (headers.0, headers.1) at s.buffer) in record {
      answer = ap (λ (r : Run). r.answer) run;
      out = o.buffer;
      again = ap (λ (r : Run). r.out) run;
      law = λ accepted marked control other size.
          rw run (second_half _ _ _ _ _ c.bytes_fit.ensures accepted marked control other size);
    }
