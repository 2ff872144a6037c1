-- What the C functions over a journal answer (document 02, 6 and 7).
-- Assumes nothing.
use Rattle.std.specs.Prelude.{ℕ, ◌+◌, ◌*◌, ◌^◌, Option, Some, None}
use Rattle.octets.specs.Writing.{Written}
use Rattle.octets.specs.Refusals.{unless}
use Rattle.journal.specs.Recovery.{Recovered}
use Rattle.journal.specs.Writing.{NextCounter}
use Rattle.nwk.specs.Answer.{answer}

-- ---- recovery

-- bit 41 says that there is a key number, which stands in bits 48 to 55
abbrev pub key_number_bits : Option ℕ → ℕ
key_number_bits None = 0
key_number_bits (Some k) = 2 ^ 41 + k * 2 ^ 48

-- the ceiling in the length's place with the key number's bits, or the refusal alone
unfoldable pub recovered_answer : Recovered → ℕ
recovered_answer r = unless r.refusal (r.ceiling + key_number_bits r.key_number) (answer r.refusal 0)

-- the number for the length of the complete records: that length, or as it was
unfoldable pub complete_left : Recovered → ℕ → ℕ
complete_left r o = unless r.refusal r.complete o

-- ---- writing a record, and shrinking: the length of what is written

abbrev pub written_answer : Written → ℕ
written_answer w = answer w.refusal w.length

-- ---- the next counter: in the length's place

abbrev pub next_answer : NextCounter → ℕ
next_answer n = answer n.refusal n.counter
