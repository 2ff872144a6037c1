-- Writing a command (document 01, "Commands"; refusals 13, 17 and 18), its identifier, and a timeout's seconds.
-- Assumes nothing.
use Rattle.std.specs.Prelude.{ℕ, ◌*◌, ◌^◌, Bool, false, cond, not, ◌||◌, List, [], ◌∷◌, length, get_or, ltb, eqb, Option, Some, None, Result, Ok, Err}
use Rattle.octets.specs.Refusals.{on, by, first_of, number_of}
use Rattle.octets.specs.declared.refusals.Refusal.{Refusal}
use Rattle.octets.specs.Writing.{Run, written}
use Rattle.commands.specs.Codes.{command_id_code, command_id_of}
use Rattle.commands.specs.Format.{Values, body_bytes, held_values}
use Rattle.commands.specs.Commands.{route_request_values, route_reply_values, network_status_values, leave_values, route_record_values, rejoin_request_values, rejoin_response_values, link_status_values, network_report_values, network_update_values, timeout_request_values, timeout_response_values, link_power_delta_values, commissioning_request_values, commissioning_response_values, firsts}
use Rattle.commands.specs.Reading.{max_nsdu_size, format_of, list_of}
use Rattle.commands.specs.declared.{NwkCommandId.NwkCommandId, NwkCommand.NwkCommand, NwkCommandWithLists.NwkCommandWithLists, NwkCommandList.NwkCommandList}

-- a command as it goes out: an identifier with the values of its body, or bytes
pub data Wire : Type 0 where
  body : NwkCommandId → Values → Wire
  raw : List ℕ → Wire

unfoldable pub wire_of : NwkCommand → NwkCommandWithLists → Wire
wire_of (NwkCommand.RouteRequest c) f = body NwkCommandId.RouteRequest (route_request_values c)
wire_of (NwkCommand.RouteReply c) f = body NwkCommandId.RouteReply (route_reply_values c)
wire_of (NwkCommand.NetworkStatus c) f = body NwkCommandId.NetworkStatus (network_status_values c)
wire_of (NwkCommand.Leave c) f = body NwkCommandId.Leave (leave_values c)
wire_of NwkCommand.RouteRecord f = body NwkCommandId.RouteRecord (route_record_values f.relays f.relay_count)
wire_of (NwkCommand.RejoinRequest c) f = body NwkCommandId.RejoinRequest (rejoin_request_values c)
wire_of (NwkCommand.RejoinResponse c) f = body NwkCommandId.RejoinResponse (rejoin_response_values c)
wire_of (NwkCommand.LinkStatus c) f = body NwkCommandId.LinkStatus (link_status_values c f.link_statuses f.link_statuses_len)
wire_of (NwkCommand.NetworkReport c) f = body NwkCommandId.NetworkReport (network_report_values c f.pan_ids f.report_information_count)
wire_of (NwkCommand.NetworkUpdate c) f = body NwkCommandId.NetworkUpdate (network_update_values c)
wire_of (NwkCommand.EndDeviceTimeoutRequest c) f = body NwkCommandId.EndDeviceTimeoutRequest (timeout_request_values c)
wire_of (NwkCommand.EndDeviceTimeoutResponse c) f = body NwkCommandId.EndDeviceTimeoutResponse (timeout_response_values c)
wire_of (NwkCommand.LinkPowerDelta c) f = body NwkCommandId.LinkPowerDelta (link_power_delta_values c f.power_list f.list_count)
wire_of (NwkCommand.NetworkCommissioningRequest c) f = body NwkCommandId.NetworkCommissioningRequest (commissioning_request_values c)
wire_of (NwkCommand.NetworkCommissioningResponse c) f = body NwkCommandId.NetworkCommissioningResponse (commissioning_response_values c)
wire_of NwkCommand.Unparsed f = raw (firsts 0 f.unparsed f.unparsed_len)

unfoldable pub wire : NwkCommandWithLists → Wire
wire f = wire_of f.command f

-- the bytes of a command; those of an unparsed one are its own
unfoldable pub wire_bytes : Wire → List ℕ
wire_bytes (body id v) = command_id_code id ∷ body_bytes (format_of id) v
wire_bytes (raw bs) = bs

unfoldable pub command_bytes : NwkCommandWithLists → List ℕ
command_bytes f = wire_bytes (wire f)

-- the stored count of a network update, 0 for the others
abbrev pub update_count : NwkCommand → ℕ
update_count (NwkCommand.RouteRequest c) = 0
update_count (NwkCommand.RouteReply c) = 0
update_count (NwkCommand.NetworkStatus c) = 0
update_count (NwkCommand.Leave c) = 0
update_count NwkCommand.RouteRecord = 0
update_count (NwkCommand.RejoinRequest c) = 0
update_count (NwkCommand.RejoinResponse c) = 0
update_count (NwkCommand.LinkStatus c) = 0
update_count (NwkCommand.NetworkReport c) = 0
update_count (NwkCommand.NetworkUpdate c) = c.update_information_count
update_count (NwkCommand.EndDeviceTimeoutRequest c) = 0
update_count (NwkCommand.EndDeviceTimeoutResponse c) = 0
update_count (NwkCommand.LinkPowerDelta c) = 0
update_count (NwkCommand.NetworkCommissioningRequest c) = 0
update_count (NwkCommand.NetworkCommissioningResponse c) = 0
update_count NwkCommand.Unparsed = 0

-- the list has more entries than places
unfoldable pub over_places : NwkCommandList → ℕ → Bool
over_places NwkCommandList.NoList n = false
over_places NwkCommandList.Relays n = ltb 53 n
over_places NwkCommandList.LinkStatuses n = ltb 31 n
over_places NwkCommandList.PanIds n = ltb 31 n
over_places NwkCommandList.PowerList n = ltb 35 n
over_places NwkCommandList.Bytes n = false

-- a field exceeds its bits, or the list its places
unfoldable pub misfits : NwkCommandList → Wire → Bool
misfits k (body id v) = over_places k (length v.entries) || not (held_values (format_of id) v)
misfits k (raw bs) = false

-- the refusal of its fields: document 01, number 13
unfoldable pub field_refusal : NwkCommandWithLists → ℕ
field_refusal f = first_of (on 13 (misfits (list_of f.command) (wire f)) ∷ [])

-- writing a command: its fields, then document 01, numbers 17 and 18
unfoldable pub write_refusal : NwkCommandWithLists → ℕ → ℕ
write_refusal f room =
    first_of
    (by (field_refusal f) ∷ on 17 (ltb max_nsdu_size (length (command_bytes f)))
    ∷ on 18 (ltb room (length (command_bytes f))) ∷ [])

-- what writing a command to the output o leaves
unfoldable pub write_command : NwkCommandWithLists → List ℕ → Run
write_command f o = written (write_refusal f (length o)) (command_bytes f) o

-- the identifier of a typed command
abbrev pub typed_id : NwkCommand → Option NwkCommandId
typed_id (NwkCommand.RouteRequest c) = Some NwkCommandId.RouteRequest
typed_id (NwkCommand.RouteReply c) = Some NwkCommandId.RouteReply
typed_id (NwkCommand.NetworkStatus c) = Some NwkCommandId.NetworkStatus
typed_id (NwkCommand.Leave c) = Some NwkCommandId.Leave
typed_id NwkCommand.RouteRecord = Some NwkCommandId.RouteRecord
typed_id (NwkCommand.RejoinRequest c) = Some NwkCommandId.RejoinRequest
typed_id (NwkCommand.RejoinResponse c) = Some NwkCommandId.RejoinResponse
typed_id (NwkCommand.LinkStatus c) = Some NwkCommandId.LinkStatus
typed_id (NwkCommand.NetworkReport c) = Some NwkCommandId.NetworkReport
typed_id (NwkCommand.NetworkUpdate c) = Some NwkCommandId.NetworkUpdate
typed_id (NwkCommand.EndDeviceTimeoutRequest c) = Some NwkCommandId.EndDeviceTimeoutRequest
typed_id (NwkCommand.EndDeviceTimeoutResponse c) = Some NwkCommandId.EndDeviceTimeoutResponse
typed_id (NwkCommand.LinkPowerDelta c) = Some NwkCommandId.LinkPowerDelta
typed_id (NwkCommand.NetworkCommissioningRequest c) = Some NwkCommandId.NetworkCommissioningRequest
typed_id (NwkCommand.NetworkCommissioningResponse c) = Some NwkCommandId.NetworkCommissioningResponse
typed_id NwkCommand.Unparsed = None

-- the identifier of a command; of an unparsed one that of its first byte, if it is known
unfoldable pub wire_id : Wire → Option NwkCommandId
wire_id (body id v) = Some id
wire_id (raw bs) = command_id_of (get_or bs 0 0)

unfoldable pub command_id : NwkCommandWithLists → Option NwkCommandId
command_id f = wire_id (wire f)

-- 3.4.11, Table 3-58: code 0 is 10 seconds, any other code n is 2 to the power n minutes
unfoldable pub seconds : ℕ → ℕ
seconds n = cond (eqb n 0) 10 (60 * 2 ^ n)

-- what is told of a timeout code: the refusal's number, 0 for none, and the seconds
pub record EndDeviceTimeoutSeconds : Type 0 where
  pub refusal : ℕ
  pub seconds : ℕ

-- the same, of the code's answer
abbrev pub told_seconds : Result ℕ Refusal → EndDeviceTimeoutSeconds
told_seconds (Ok n) = record { refusal = 0; seconds = n }
told_seconds (Err r) = record { refusal = number_of r; seconds = 0 }

-- document 01, number 13, above code 14
unfoldable pub timeout_seconds : ℕ → EndDeviceTimeoutSeconds
timeout_seconds n = cond (ltb 14 n) (record { refusal = 13; seconds = 0 }) (record { refusal = 0; seconds = seconds n })
