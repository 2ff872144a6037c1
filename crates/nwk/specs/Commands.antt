-- Reading and writing a command by its record: the refusals in document 01's order.
-- Assumes nothing.
use Rattle.std.specs.Prelude.{ℕ, List, [], ◌∷◌, ltb}
use Rattle.octets.specs.Refusals.{on, by, first_of}
use Rattle.commands.specs.Reading.{read_command}
use Rattle.command_records.specs.CommandRecord.{command_record_size}

-- 12, then 18 where the record lent has fewer than 535 bytes
unfoldable pub read_command_refusal : List ℕ → ℕ → ℕ
read_command_refusal s room = first_of (by (read_command s).refusal ∷ on 18 (ltb room command_record_size) ∷ [])
