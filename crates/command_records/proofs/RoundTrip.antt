-- The record of a command says that command again, with its lists, so no two commands have the same record. Every field
-- stands at its own place and is read back by the law of its kind; for the lists that is ListsBack.
-- Assumes nothing.
use Rattle.std.specs.Prelude.{Option, Some, None}
use mathlib.Core.Path.{◌≡◌, refl, sym, ap, ◌∙◌}
use mathlib.Core.Bool.{Bool, true, false, cond}
use mathlib.Core.List.{List, [], ◌∷◌, ◌++◌}
use Prim.Native.Nat.{ℕ}
use borrow.Author.Tests.{eq-eqb}
use lib.Dec.{ltb}
use lib.ListN.{length, get_or}
use Rattle.octets.specs.Numbers.{le, le_at}
use Rattle.octets.proofs.Numbers.{le_at_le}
use Rattle.types.specs.Addresses.{nwk}
use Rattle.octets.specs.Fields.{bit}
use Rattle.commands.specs.Codes.{command_id_of, command_ids, is_set, status_code, association_status_code, update_identifier_code}
use Rattle.commands.specs.Commands.{has, only, address_of, capability_of, capability_values, route_request_by, network_report_by, link_power_delta_by, commissioning_request_by, commissioning_request_values}
use Rattle.commands.specs.Reading.{NwkCommandRead, places, command_of, read_as}
use Rattle.commands.specs.Writing.{wire_of}
use Rattle.commands.proofs.CodeLaws.{many_to_one_back, report_identifier_back, power_type_back, commissioning_type_back}
use Rattle.commands.proofs.Ranges.{InAddress, Ranged}
use Rattle.commands.proofs.Commands.{back}
use Rattle.commands.proofs.Layouts.{contents}
use Rattle.command_records.proofs.Layouts.{layouts}
use Rattle.commands.specs.declared.{NwkCommand.NwkCommand, NwkCommandId.NwkCommandId, NwkCommandWithLists.NwkCommandWithLists}
use Rattle.command_records.specs.Fields.{address_record, field_bytes, fields_record, record_values, are_flags, flags_fit, said_by, said}
use Rattle.command_records.specs.CommandRecord.{lists_record, command_record, recorded_by, read_record}
use Rattle.command_records.proofs.Lengths.{length_command}
use Rattle.command_records.proofs.Fits.{CommandFits}
use Rattle.command_records.proofs.ListsBack.{lists_back}
use Rattle.command_records.proofs.Said.{flags}

-- ---- the optional addresses

address_back : (a : Option ℕ) (rest : List ℕ) → InAddress a → address_of (get_or (address_record a ++ rest) 0 0) (le_at 8 (address_record a ++ rest) 1) ≡ a
unfolding address_of address_record le le_at
address_back None rest h = refl
address_back (Some x) rest h = ap Some (le_at_le 8 x [] h)

-- of a route reply, the second entry is the responder's, and the only one where the originator's is absent
abbrev reply_entries : List ℕ → List (List ℕ)
reply_entries s = cond (is_set (get_or s 0 0)) ((le_at 8 s 1 ∷ []) ∷ (le_at 8 s 10 ∷ []) ∷ []) ((le_at 8 s 10 ∷ []) ∷ [])

originator_back : (a b : Option ℕ) (rest : List ℕ) → InAddress a
    → let s = address_record a ++ (address_record b ++ rest) in address_of (bit (is_set (get_or s 0 0))) (get_or (get_or (reply_entries s) 0 []) 0 0) ≡ a
unfolding address_of address_record le le_at
originator_back None b rest h = refl
originator_back (Some x) b rest h = ap Some (le_at_le 8 x [] h)

responder_back : (a b : Option ℕ) (rest : List ℕ) → InAddress b
    → let s = address_record a ++ (address_record b ++ rest) in address_of (get_or s 9 0) (get_or (get_or (reply_entries s) (bit (is_set (get_or s 0 0))) []) 0 0) ≡ b
unfolding address_record le le_at
responder_back None b rest h = address_back b rest h
responder_back (Some x) b rest h = address_back b rest h

-- ---- the command

-- a record whose flags are 0 or 1 says what its values mean
flagged : (id : NwkCommandId) (r : List ℕ) {t : Option NwkCommand} → flags_fit id r ≡ true → command_of id (record_values id r) ≡ t
    → said_by (Some id) r ≡ t
flagged id r e p = sym (flags r id e) ∙ p

bit_flag : (b : Bool) → ltb (bit b) 2 ≡ true
bit_flag true = refl
bit_flag false = refl

presence_flag : (a : Option ℕ) → ltb (has a) 2 ≡ true
presence_flag None = refl
presence_flag (Some x) = refl

-- the command that the fields of c say, whatever lists follow
fields_back : (c : NwkCommand) (f : NwkCommandWithLists) (rest : List ℕ) → Ranged c → said (fields_record c ++ rest) ≡ Some c
unfolding layouts contents wire_of fields_record places address_record field_bytes said said_by are_flags command_id_of command_ids
    capability_of capability_values le le_at
fields_back (NwkCommand.RouteRequest c) f rest h =
    let r = fields_record (NwkCommand.RouteRequest c) ++ rest in
    flagged NwkCommandId.RouteRequest r (presence_flag c.destination_eui64)
    (ap (λ k. route_request_by k (record_values NwkCommandId.RouteRequest r)) (many_to_one_back c.many_to_one)
    ∙ (λ i. Some (NwkCommand.RouteRequest (record {
      many_to_one = c.many_to_one;
      route_request_identifier = c.route_request_identifier;
      destination_address = nwk (le_at_le 2 c.destination_address.0 [] h.1 i);
      path_cost = c.path_cost;
      destination_eui64 = address_back c.destination_eui64 [] h.3 i;
    }))))
fields_back (NwkCommand.RouteReply c) f rest h =
    flagged NwkCommandId.RouteReply (fields_record (NwkCommand.RouteReply c) ++ rest) (simp presence_flag)
    (λ i. Some (NwkCommand.RouteReply (record {
      route_request_identifier = c.route_request_identifier;
      originator_nwk = nwk (le_at_le 2 c.originator_nwk.0 [] h.1 i);
      responder_nwk = nwk (le_at_le 2 c.responder_nwk.0 [] h.2 i);
      path_cost = c.path_cost;
      originator_eui64 = originator_back c.originator_eui64 c.responder_eui64 [] h.4 i;
      responder_eui64 = responder_back c.originator_eui64 c.responder_eui64 [] h.5 i;
    })))
fields_back (NwkCommand.NetworkStatus c) f rest h =
    (λ i. command_of NwkCommandId.NetworkStatus (only (status_code c.status_code ∷ le_at_le 2 c.network_address.0 [] h i ∷ [])))
    ∙ (back (NwkCommand.NetworkStatus c) f).command
fields_back (NwkCommand.Leave c) f rest h =
    flagged NwkCommandId.Leave (fields_record (NwkCommand.Leave c) ++ rest) (simp bit_flag) (back (NwkCommand.Leave c) f).command
fields_back NwkCommand.RouteRecord f rest h = refl
fields_back (NwkCommand.RejoinRequest c) f rest h =
    flagged NwkCommandId.RejoinRequest (fields_record (NwkCommand.RejoinRequest c) ++ rest) (simp bit_flag) (back (NwkCommand.RejoinRequest c) f).command
fields_back (NwkCommand.RejoinResponse c) f rest h =
    (λ i. command_of NwkCommandId.RejoinResponse (only (le_at_le 2 c.network_address.0 [] h i ∷ association_status_code c.rejoin_status ∷ [])))
    ∙ (back (NwkCommand.RejoinResponse c) f).command
fields_back (NwkCommand.LinkStatus c) f rest h =
    flagged NwkCommandId.LinkStatus (fields_record (NwkCommand.LinkStatus c) ++ rest) (simp bit_flag) (back (NwkCommand.LinkStatus c) f).command
fields_back (NwkCommand.NetworkReport c) f rest h =
    let r = fields_record (NwkCommand.NetworkReport c) ++ rest in
    ap (λ k. network_report_by k (record_values NwkCommandId.NetworkReport r)) (report_identifier_back c.report_command_identifier)
    ∙ (λ i. Some (NwkCommand.NetworkReport (record {
      report_command_identifier = c.report_command_identifier;
      epid = le_at_le 8 c.epid [] h i;
    })))
fields_back (NwkCommand.NetworkUpdate c) f rest h =
    (λ i. command_of NwkCommandId.NetworkUpdate (only (c.update_information_count ∷ update_identifier_code c.update_command_identifier
    ∷ le_at_le 8 c.epid [] h.0 i ∷ c.update_id ∷ le_at_le 2 c.new_pan_id.0 [] h.2 i ∷ [])))
    ∙ (back (NwkCommand.NetworkUpdate c) f).command
fields_back (NwkCommand.EndDeviceTimeoutRequest c) f rest h = (back (NwkCommand.EndDeviceTimeoutRequest c) f).command
fields_back (NwkCommand.EndDeviceTimeoutResponse c) f rest h =
    flagged NwkCommandId.EndDeviceTimeoutResponse (fields_record (NwkCommand.EndDeviceTimeoutResponse c) ++ rest) (simp bit_flag)
    (back (NwkCommand.EndDeviceTimeoutResponse c) f).command
fields_back (NwkCommand.LinkPowerDelta c) f rest h =
    let r = fields_record (NwkCommand.LinkPowerDelta c) ++ rest in
    ap (λ k. link_power_delta_by k (record_values NwkCommandId.LinkPowerDelta r)) (power_type_back c.command_type)
fields_back (NwkCommand.NetworkCommissioningRequest c) f rest h =
    let r = fields_record (NwkCommand.NetworkCommissioningRequest c) ++ rest in
    let known = commissioning_type_back c.commissioning_type in
    flagged NwkCommandId.NetworkCommissioningRequest r (simp bit_flag)
    (ap (λ k. commissioning_request_by k (record_values NwkCommandId.NetworkCommissioningRequest r)) known
    ∙ sym (ap (λ k. commissioning_request_by k (commissioning_request_values c)) known) ∙ (back (NwkCommand.NetworkCommissioningRequest c) f).command)
fields_back (NwkCommand.NetworkCommissioningResponse c) f rest h =
    (λ i. command_of NwkCommandId.NetworkCommissioningResponse (only (le_at_le 2 c.network_address.0 [] h i ∷ association_status_code c.status ∷ [])))
    ∙ (back (NwkCommand.NetworkCommissioningResponse c) f).command
fields_back NwkCommand.Unparsed f rest h = refl

-- ---- the record

-- the record of a command says the command
said_back : (f : NwkCommandWithLists) → Ranged f.command → said (command_record f) ≡ Some f.command
unfolding command_record
said_back f h = fields_back f.command f (lists_record f) h

-- and with the command its lists
pub record_back : (f : NwkCommandWithLists) → CommandFits f → read_record (command_record f) ≡ read_as f
unfolding read_record recorded_by
record_back f w = rw (eq-eqb (length (command_record f)) 535 (length_command f w.bytes), said_back f w.command) (ap read_as (lists_back f w))

pub record_injective : (f g : NwkCommandWithLists) → CommandFits f → CommandFits g → command_record f ≡ command_record g → f ≡ g
record_injective f g v w e = ap (λ (r : NwkCommandRead). r.command) (sym (record_back f v) ∙ ap read_record e ∙ record_back g w)
