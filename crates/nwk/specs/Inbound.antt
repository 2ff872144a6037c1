-- What the C functions over a list of senders answer (document 02, 5).
-- Assumes nothing.
use Rattle.std.specs.Prelude.{ℕ, ◌+◌, ◌^◌, List, Option, Some, None}
use Rattle.octets.specs.Refusals.{unless}
use Rattle.types.specs.Keys.{key, key_bytes}
use Rattle.senders.specs.declared.SenderRecord.{SenderRecord}
use Rattle.senders.specs.Senders.{Asked, Noted, inbound_network_key}
use Rattle.nwk.specs.Answer.{answer, answer_by}

-- ---- asking: the active key is two numbers

abbrev pub asked : ℕ → ℕ → ℕ → List SenderRecord → ℕ → ℕ → ℕ → Asked
asked first second active l s k c = inbound_network_key (key (key_bytes first second)) active l s k c

-- the length is the key's, 16
unfoldable pub asked_answer : Asked → ℕ
asked_answer a = answer_by a.refusal 16

-- the 16 bytes for the key: the active key, or as they were
unfoldable pub key_left : Asked → List ℕ → List ℕ
key_left a o = unless a.refusal a.key.0 o

-- ---- noting

-- the earlier counter in the length's place, with bit 41 set; where there is none, the refusal alone
abbrev pub earlier_answer : ℕ → Option ℕ → ℕ
earlier_answer refusal None = answer refusal 0
earlier_answer refusal (Some c) = c + 2 ^ 41

abbrev pub noted_answer : Noted → ℕ
noted_answer n = earlier_answer n.refusal n.earlier
