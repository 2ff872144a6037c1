-- `put` meets its contract: the kind, and the numbers behind it. Assumes nothing.
use Rattle.std.proofs.Common.{◌≡◌, ℕ, refl, ap, ◌∙◌, arith}
use Rattle.octets.specs.Numbers.{le}
use Rattle.octets.specs.Strings.{over}
use Rattle.octets.proofs.Strings.{over_then, over_three}
use Rattle.journal.specs.declared.format.JournalRecord.{JournalRecord}
use Rattle.journal.specs.Format.{record_bytes}
use Rattle.journal.specs.Scan.{byte_of, kind_in}
use Rattle.journal.proofs.format.JournalRecord.put.Goals as goal
use Rattle.journal.proofs.format.JournalRecord.put.Goals.{in-Ceiling, in-Sender, in-KeyNumber}

pub returns-clause-out : goal.returns-clause-out
unfolding record_bytes le
returns-clause-out c =
    let a = c.args in
    let byte : c.byte.result ≡ byte_of (kind_in a.self) = c.byte.ensures ∙ ap byte_of c.kind.ensures in
    let first : c.put_u8.new.out ≡ over a.out.now a.i (le 1 (byte_of (kind_in a.self))) = c.put_u8.ensures ∙ ap (λ (n : ℕ). over a.out.now a.i (le 1 n)) byte in
    let front : (r : JournalRecord) → a.self ≡ r → c.put_u8.new.out ≡ over a.out.now a.i (le 1 (byte_of (kind_in r))) = λ r e. rw e at first in
    elim c.match-self.branch [
      | in-Ceiling w ↦ w.out-is
          ∙ rw w.in-Ceiling.is (over_then a.out.now _ _ a.i _ _ _ (omega arith) refl (front _ w.in-Ceiling.is) w.put_u32.ensures)
      | in-Sender w ↦ w.out-is
          ∙ rw w.in-Sender.is (over_three a.out.now _ _ _ a.i _ _ _ _ _ (omega arith) refl (omega arith) (front _ w.in-Sender.is) w.put_u64.ensures w.put_u32-in-Sender.ensures)
      | in-KeyNumber w ↦ w.out-is
          ∙ rw w.in-KeyNumber.is (over_then a.out.now _ _ a.i _ _ _ (omega arith) refl (front _ w.in-KeyNumber.is) w.put_u8-in-KeyNumber.ensures)
    ]
