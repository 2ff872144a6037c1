-- The lists of a command record, each with its count before it and every place written: at 25 the relay count and 53
-- relays; at 132 the count of link statuses and 31 of them, an address, an incoming and an outgoing cost; at 257 the
-- count of PAN ids and 31 of them; at 320 the count of the power list and 35 entries, an address and a delta; at 426 the
-- length of an unparsed command and its 108 places.
-- Assumes nothing.
use Rattle.std.specs.Prelude.{ℕ, ◌+◌, ◌*◌, List, [], ◌∷◌, get_or}
use Rattle.octets.specs.Strings.{tab}
use Rattle.types.specs.declared.{Nwk.Nwk, PanId.PanId}
use Rattle.commands.specs.declared.{NwkLinkStatus.NwkLinkStatus, NwkPowerListEntry.NwkPowerListEntry, NwkCommand.NwkCommand, NwkCommandWithLists.NwkCommandWithLists}
use Rattle.commands.specs.Format.{Field, read_fields, write_entries}
use Rattle.commands.specs.Format.Field.{byte, number}
use Rattle.commands.specs.Commands.{route_record_format, relay_entries, relay_at, link_of, link_entries, network_report_format, pan_id_entries, pan_id_at, link_power_delta_format, power_entries, power_at}

-- ---- the record of a list

-- a link status in a record, where each cost has a byte of its own; the other entries are as in a command's bytes
unfoldable pub link_record_entry : List Field
link_record_entry = number 2 ∷ byte ∷ byte ∷ []

-- a count, and the entries of all places
unfoldable pub list_record : List Field → ℕ → List (List ℕ) → List ℕ
list_record fs n es = n ∷ write_entries fs es

abbrev pub relays_record : ℕ → List Nwk → List ℕ
relays_record n relays = list_record route_record_format.entry n (relay_entries relays 53)

abbrev pub links_record : ℕ → List NwkLinkStatus → List ℕ
links_record n links = list_record link_record_entry n (link_entries links 31)

abbrev pub pan_ids_record : ℕ → List PanId → List ℕ
pan_ids_record n pan_ids = list_record network_report_format.entry n (pan_id_entries pan_ids 31)

abbrev pub powers_record : ℕ → List NwkPowerListEntry → List ℕ
powers_record n powers = list_record link_power_delta_format.entry n (power_entries powers 35)

-- ---- and back

unfoldable pub link_record_at : List ℕ → ℕ → NwkLinkStatus
link_record_at r i = link_of (read_fields link_record_entry r i)

-- the command c with the lists of the record r
unfoldable pub with_lists_at : NwkCommand → List ℕ → NwkCommandWithLists
with_lists_at c r =
    record {
      command = c;
      relay_count = get_or r 25 0;
      relays = tab (λ (k : ℕ). relay_at r (26 + k * 2)) 53;
      link_statuses_len = get_or r 132 0;
      link_statuses = tab (λ (k : ℕ). link_record_at r (133 + k * 4)) 31;
      report_information_count = get_or r 257 0;
      pan_ids = tab (λ (k : ℕ). pan_id_at r (258 + k * 2)) 31;
      list_count = get_or r 320 0;
      power_list = tab (λ (k : ℕ). power_at r (321 + k * 3)) 35;
      unparsed_len = get_or r 426 0;
      unparsed = tab (λ (k : ℕ). get_or r (427 + k) 0) 108;
    }
