-- `frames::open` meets its contract: refused with nothing changed, or opened into the output and the record. Assumes nothing.
use Rattle.std.proofs.lemmas.Result.{err_from_is_err_and}
use mathlib.Core.Path.{refl, sym, ◌∙◌}
use lib.ListN.{length}
use Rattle.octets.specs.declared.refusals.Refusal.{Refusal}
use Rattle.octets.proofs.Conditions.{accepted_by}
use Rattle.nwk.specs.Frames.{open_record_refusal}
use Rattle.nwk.proofs.Calls.{kept, given_passed}
use Rattle.nwk.proofs.FrameRefusals.{open_stopped, open_no_room, open_refused_by, open_kept, open_passed}
use Rattle.nwk.proofs.frames.open.Goals as goal

pub returns-in_err-check_open : goal.returns-in_err-check_open
returns-in_err-check_open c =
    let a = c.args in
    let p = err_from_is_err_and c.from_residual.result c.from_residual.ensures.1 in
    let r = c.in_err-check_open.field-0.0 in
    let n = open_stopped a.level a.key.0 a.bytes.now (length a.opened.now) (length a.out.now) r c.in_err-check_open.ensures.number in
    rw (p.1, p.2) (record {
      number = n;
      answer = tt;
      opened = kept _ r _ _ n;
      out = kept _ r _ _ n;
    })

pub returns-then-opened-lt-OPENED_RECORD_SIZE : goal.returns-then-opened-lt-OPENED_RECORD_SIZE
returns-then-opened-lt-OPENED_RECORD_SIZE c =
    let a = c.args in
    let n = open_no_room a.level a.key.0 a.bytes.now (length a.opened.now) (length a.out.now) c.in_ok-check_open.ensures.number
    c.if-opened-lt-OPENED_RECORD_SIZE.true in
    record {
      number = n;
      answer = tt;
      opened = kept _ Refusal.NoRoom _ _ n;
      out = kept _ Refusal.NoRoom _ _ n;
    }

pub returns-in_err-given : goal.returns-in_err-given
returns-in_err-given c =
    let a = c.args in
    let p = err_from_is_err_and c.from_residual-in_err-given.result c.from_residual-in_err-given.ensures.1 in
    let r = c.in_err-given.field-0.0 in
    let room = c.if-opened-lt-OPENED_RECORD_SIZE.false in
    let e = c.in_err-given.ensures.answer in
    let n = open_refused_by a.level a.key.0 a.bytes.now a.out.now (length a.opened.now) room r e in
    rw (p.1, p.2) (record {
      number = n;
      answer = tt;
      opened = kept _ r _ _ n;
      out = c.open.ensures.buffer ∙ open_kept a.level a.key.0 a.bytes.now a.out.now (length a.opened.now) room r e ∙ kept _ r _ _ n;
    })

pub returns : goal.returns
returns c =
    let a = c.args in
    let room = c.if-opened-lt-OPENED_RECORD_SIZE.false in
    let e = c.in_ok-given.ensures.answer in
    let z = open_passed a.level a.key.0 a.bytes.now a.out.now (length a.opened.now) room c.in_ok-given.given e in
    let number = open_record_refusal a.level a.key.0 a.bytes.now (length a.opened.now) (length a.out.now) in
    record {
      number = sym z;
      answer = e;
      opened = given_passed _ _ a.opened.now _ z (c.put_opened.ensures ∙ rw e);
      out = c.open.ensures.buffer ∙ accepted_by number number _ _ refl z;
    }
