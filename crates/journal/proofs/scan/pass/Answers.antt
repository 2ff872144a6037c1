-- `pass` meets its contract: where no record stands at the front, the pass ends or a kind is not known. Assumes nothing.
use Rattle.std.proofs.Common.{◌≡◌, sym, ◌∙◌, true, ◌<◌, length, get_or, Err, arith}
use Rattle.std.proofs.lemmas.Result.{err_from_is_err_and}
use Rattle.journal.specs.Format.{is_kind}
use Rattle.journal.proofs.Passing.{reached_end, senders_end, reached_unknown}
use Rattle.journal.proofs.Whole.{front_none, front_unknown, kind_known, kind_unknown}
use Rattle.journal.proofs.scan.pass.Goals as goal
use Rattle.journal.proofs.scan.pass.Goals.{in_default-rest, in-len1-up+in_ok-try_from}

pub returns-in_err-try_from-clause-answer : goal.returns-in_err-try_from-clause-answer
returns-in_err-try_from-clause-answer g c =
    let rest = c.loop-record.rest.now in
    let p = err_from_is_err_and c.from_residual.result c.from_residual.ensures.1 in
    let e : c.try_from.result ≡ Err c.in_err-try_from.field-0.0 = c.in_err-try_from.was in
    let k = kind_unknown (get_or rest 0 0) c.in_err-try_from.field-0.0 (sym c.try_from.ensures ∙ e) in
    rw (p.1, p.2, ← k.1) (reached_unknown _ _ rest _ _ _ c.loop-record.invariant (front_unknown rest c.in-len1-up.len_at_least k.0))

pub returns : goal.returns
returns g c =
    let rest = c.loop-record.rest.now in
    let known : 0 < length rest → is_kind (get_or rest 0 0) ≡ true = λ h. elim c.if-rest-lt1.branch [
      | in_default-rest w ↦ absurd (omega (arith, h, w.in_default-rest.len_below))
      | in-len1-up+in_ok-try_from w ↦ (kind_known (get_or rest 0 0) w.in_ok-try_from.field-0 (sym w.try_from.ensures ∙ w.in_ok-try_from.was)).0
    ] in
    let q = front_none rest c.in_default.ensures known in
    record {
      answer = reached_end _ _ rest _ _ _ c.loop-record.invariant q.0 q.1;
      senders = senders_end _ _ rest _ _ _ c.loop-record.invariant q.0 q.1;
    }
