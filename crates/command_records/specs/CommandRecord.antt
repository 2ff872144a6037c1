-- The command record, 535 bytes: the identifier and the fields, then the five lists. Only the command's own list counts.
-- Assumes nothing.
use Rattle.std.specs.Prelude.{ℕ, cond, List, [], ◌∷◌, ◌++◌, length, eqb, Option, Some, None}
use Rattle.octets.specs.Refusals.{by, first_of}
use Rattle.commands.specs.Reading.{NwkCommandRead, read_as, read_nothing}
use Rattle.commands.specs.Writing.{write_refusal}
use Rattle.commands.specs.declared.{NwkCommand.NwkCommand, NwkCommandWithLists.NwkCommandWithLists}
use Rattle.command_records.specs.Fields.{fields_record, said}
use Rattle.command_records.specs.Lists.{relays_record, links_record, pan_ids_record, powers_record, with_lists_at}

abbrev pub command_record_size : ℕ
command_record_size = 535

-- ---- the record of a command

-- the lists, from 25 on
unfoldable pub lists_record : NwkCommandWithLists → List ℕ
lists_record f =
    relays_record f.relay_count f.relays
    ++ (links_record f.link_statuses_len f.link_statuses
    ++ (pan_ids_record f.report_information_count f.pan_ids
    ++ (powers_record f.list_count f.power_list
    ++ (f.unparsed_len ∷ f.unparsed))))

unfoldable pub command_record : NwkCommandWithLists → List ℕ
command_record f = fields_record f.command ++ lists_record f

-- ---- the command of a record

-- the command with its lists that a record of 535 bytes encodes
unfoldable pub recorded_by : Option NwkCommand → List ℕ → NwkCommandRead
recorded_by (Some c) r = read_as (with_lists_at c r)
recorded_by None r = read_nothing 13

-- reading a record: document 01, number 13, for another length and for a byte that its field cannot take. The writer looks at
-- the limits of the command's numbers and of its own list.
unfoldable pub read_record : List ℕ → NwkCommandRead
read_record r = recorded_by (cond (eqb (length r) command_record_size) (said r) None) r

-- writing the command of a record: 13 for the record, then the command's own 13, 17 and 18
unfoldable pub write_record_refusal : List ℕ → ℕ → ℕ
write_record_refusal r room = first_of (by (read_record r).refusal ∷ by (write_refusal (read_record r).command room) ∷ [])
