-- `shrunk_length` meets its contract: the lengths of the parts. Assumes nothing.
use Rattle.std.proofs.Common.{ℕ, List, length, ap, arith}
use Rattle.journal.specs.declared.format.JournalRecord.{JournalRecord}
use Rattle.journal.specs.Format.{body_length, bytes_of}
use Rattle.journal.proofs.ShrunkBytes.{length_shrunk_of}
use Rattle.journal.proofs.shrunk.shrunk_length.Goals as goal

pub returns : goal.returns
unfolding body_length
returns c =
    let size : List JournalRecord → ℕ = λ rs. length (bytes_of rs) in
    rw c.length.ensures.length (omega (
      arith,
      c.length_of.ensures.length,
      ap size c.key_number_record.ensures,
      c.length_of-2.ensures.length,
      ap size c.ceiling_record.ensures,
      length_shrunk_of c.args.found c.args.senders.now,
    ))
