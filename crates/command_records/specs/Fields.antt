-- The first 25 bytes of a command record: at 0 the command identifier, 0 for an unparsed command, and behind it the
-- command's own fields in the declared order, each at a fixed place, then 0. A truth value is a byte 0 or 1, a code its
-- number, an optional IEEE address a presence byte and eight bytes that are 0 where it is absent.
-- Assumes nothing.
use Rattle.std.specs.Prelude.{ℕ, zero, suc, ◌+◌, Bool, true, cond, ◌&&◌, List, [], ◌∷◌, ◌++◌, get_or, drop, ltb, eqb, Option, Some, None}
use Rattle.octets.specs.Numbers.{le, le_at}
use Rattle.octets.specs.Fields.{bit}
use Rattle.commands.specs.declared.{NwkCommand.NwkCommand, NwkCommandId.NwkCommandId}
use Rattle.commands.specs.Codes.{is_set, command_id_of, many_to_one_code, status_code, association_status_code, report_identifier_code, update_identifier_code, timeout_code, timeout_status_code, power_type_code, commissioning_type_code}
use Rattle.commands.specs.Format.{Values}
use Rattle.commands.specs.Commands.{has, capability_values, only}
use Rattle.commands.specs.Reading.{places, command_of}

-- ---- the record of a command

abbrev pub address_value : Option ℕ → ℕ
address_value None = 0
address_value (Some x) = x

unfoldable pub address_record : Option ℕ → List ℕ
address_record a = has a ∷ le 8 (address_value a)

-- identifier and fields
unfoldable pub field_bytes : NwkCommand → List ℕ
field_bytes (NwkCommand.RouteRequest c) =
    1 ∷ many_to_one_code c.many_to_one ∷ c.route_request_identifier
    ∷ (le 2 c.destination_address.0 ++ (c.path_cost ∷ address_record c.destination_eui64))
field_bytes (NwkCommand.RouteReply c) =
    2 ∷ c.route_request_identifier
    ∷ (le 2 c.originator_nwk.0 ++ (le 2 c.responder_nwk.0
    ++ (c.path_cost ∷ (address_record c.originator_eui64 ++ address_record c.responder_eui64))))
field_bytes (NwkCommand.NetworkStatus c) = 3 ∷ status_code c.status_code ∷ le 2 c.network_address.0
field_bytes (NwkCommand.Leave c) = 4 ∷ bit c.rejoin ∷ bit c.request ∷ bit c.remove_children ∷ []
field_bytes NwkCommand.RouteRecord = 5 ∷ []
field_bytes (NwkCommand.RejoinRequest c) = 6 ∷ capability_values c.capability_information
field_bytes (NwkCommand.RejoinResponse c) = 7 ∷ (le 2 c.network_address.0 ++ (association_status_code c.rejoin_status ∷ []))
field_bytes (NwkCommand.LinkStatus c) = 8 ∷ bit c.is_first_frame ∷ bit c.is_last_frame ∷ []
field_bytes (NwkCommand.NetworkReport c) = 9 ∷ report_identifier_code c.report_command_identifier ∷ le 8 c.epid
field_bytes (NwkCommand.NetworkUpdate c) =
    10 ∷ c.update_information_count ∷ update_identifier_code c.update_command_identifier
    ∷ (le 8 c.epid ++ (c.update_id ∷ le 2 c.new_pan_id.0))
field_bytes (NwkCommand.EndDeviceTimeoutRequest c) = 11 ∷ timeout_code c.request_timeout_enum ∷ c.end_device_configuration ∷ []
field_bytes (NwkCommand.EndDeviceTimeoutResponse c) =
    12 ∷ timeout_status_code c.status ∷ bit c.mac_data_poll_keepalive_supported
    ∷ bit c.end_device_timeout_request_keepalive_supported ∷ bit c.power_negotation_support ∷ []
field_bytes (NwkCommand.LinkPowerDelta c) = 13 ∷ power_type_code c.command_type ∷ []
field_bytes (NwkCommand.NetworkCommissioningRequest c) =
    14 ∷ commissioning_type_code c.commissioning_type ∷ capability_values c.capability_information
field_bytes (NwkCommand.NetworkCommissioningResponse c) = 15 ∷ (le 2 c.network_address.0 ++ (association_status_code c.status ∷ []))
field_bytes NwkCommand.Unparsed = 0 ∷ []

-- the 25 bytes
unfoldable pub fields_record : NwkCommand → List ℕ
fields_record c = places 0 25 (field_bytes c)

-- ---- the command of a record

-- the values of a command's format (commands/specs/Commands.antt), at their places in the record r
unfoldable pub record_values : NwkCommandId → List ℕ → Values
record_values NwkCommandId.RouteRequest r =
    record { head = get_or r 1 0 ∷ get_or r 6 0 ∷ get_or r 2 0 ∷ le_at 2 r 3 ∷ get_or r 5 0 ∷ []; entries = (le_at 8 r 7 ∷ []) ∷ [] }
record_values NwkCommandId.RouteReply r =
    record {
      head = bit (is_set (get_or r 7 0)) ∷ get_or r 16 0 ∷ get_or r 1 0 ∷ le_at 2 r 2 ∷ le_at 2 r 4 ∷ get_or r 6 0 ∷ [];
      entries = cond (is_set (get_or r 7 0)) ((le_at 8 r 8 ∷ []) ∷ (le_at 8 r 17 ∷ []) ∷ []) ((le_at 8 r 17 ∷ []) ∷ []);
    }
record_values NwkCommandId.NetworkStatus r = only (get_or r 1 0 ∷ le_at 2 r 2 ∷ [])
record_values NwkCommandId.Leave r = only (get_or r 1 0 ∷ get_or r 2 0 ∷ get_or r 3 0 ∷ [])
record_values NwkCommandId.RouteRecord r = only []
record_values NwkCommandId.RejoinRequest r = only (drop 1 r)
record_values NwkCommandId.RejoinResponse r = only (le_at 2 r 1 ∷ get_or r 3 0 ∷ [])
record_values NwkCommandId.LinkStatus r = only (0 ∷ get_or r 1 0 ∷ get_or r 2 0 ∷ [])
record_values NwkCommandId.NetworkReport r = only (0 ∷ get_or r 1 0 ∷ le_at 8 r 2 ∷ [])
record_values NwkCommandId.NetworkUpdate r = only (get_or r 1 0 ∷ get_or r 2 0 ∷ le_at 8 r 3 ∷ get_or r 11 0 ∷ le_at 2 r 12 ∷ [])
record_values NwkCommandId.EndDeviceTimeoutRequest r = only (get_or r 1 0 ∷ get_or r 2 0 ∷ [])
record_values NwkCommandId.EndDeviceTimeoutResponse r = only (get_or r 1 0 ∷ get_or r 2 0 ∷ get_or r 3 0 ∷ get_or r 4 0 ∷ [])
record_values NwkCommandId.LinkPowerDelta r = only (get_or r 1 0 ∷ [])
record_values NwkCommandId.NetworkCommissioningRequest r = only (get_or r 1 0 ∷ drop 2 r)
record_values NwkCommandId.NetworkCommissioningResponse r = only (le_at 2 r 1 ∷ get_or r 3 0 ∷ [])

-- the n bytes from place i are each 0 or 1
unfoldable pub are_flags : ℕ → ℕ → List ℕ → Bool
are_flags i zero r = true
are_flags i (suc n) r = are_flags i n r && ltb (get_or r (i + n) 0) 2

-- the truth values and presence bytes of a command are
abbrev pub flags_fit : NwkCommandId → List ℕ → Bool
flags_fit NwkCommandId.RouteRequest r = are_flags 6 1 r
flags_fit NwkCommandId.RouteReply r = are_flags 7 1 r && are_flags 16 1 r
flags_fit NwkCommandId.NetworkStatus r = true
flags_fit NwkCommandId.Leave r = are_flags 1 3 r
flags_fit NwkCommandId.RouteRecord r = true
flags_fit NwkCommandId.RejoinRequest r = are_flags 1 8 r
flags_fit NwkCommandId.RejoinResponse r = true
flags_fit NwkCommandId.LinkStatus r = are_flags 1 2 r
flags_fit NwkCommandId.NetworkReport r = true
flags_fit NwkCommandId.NetworkUpdate r = true
flags_fit NwkCommandId.EndDeviceTimeoutRequest r = true
flags_fit NwkCommandId.EndDeviceTimeoutResponse r = are_flags 2 3 r
flags_fit NwkCommandId.LinkPowerDelta r = true
flags_fit NwkCommandId.NetworkCommissioningRequest r = are_flags 2 8 r
flags_fit NwkCommandId.NetworkCommissioningResponse r = true

unfoldable pub said_by : Option NwkCommandId → List ℕ → Option NwkCommand
said_by (Some id) r = cond (flags_fit id r) (command_of id (record_values id r)) None
said_by None r = None

-- the command that the fields of r encode, if its identifier and codes are declared and its flags are 0 or 1
unfoldable pub said : List ℕ → Option NwkCommand
said r = cond (eqb (get_or r 0 0) 0) (Some NwkCommand.Unparsed) (said_by (command_id_of (get_or r 0 0)) r)
