-- Reading a command (document 01, "Commands"; refusal 12). The first byte is the identifier. An empty payload, an
-- unknown identifier, a body that ends early or an undeclared code leaves the command unparsed with all its bytes;
-- bytes after a typed body are dropped. Places past a count are 0.
-- Assumes nothing.
use Rattle.std.specs.Prelude.{ℕ, cond, List, [], ◌∷◌, ◌++◌, map, length, get_or, drop, replicate, ltb, leb, Option, Some, None, Result, Ok, Err}
use Rattle.octets.specs.Refusals.{on, first_of, unless, number_of}
use Rattle.octets.specs.declared.refusals.Refusal.{Refusal}
use Rattle.types.specs.Addresses.{no_nwk}
use Rattle.commands.specs.Codes.{command_id_of}
use Rattle.commands.specs.Format.{Format, Values, body_end, values}
use Rattle.commands.specs.Commands.{route_request_format, route_request_of, route_reply_format, route_reply_of, network_status_format, network_status_of, leave_format, leave_of, route_record_format, route_record_of, rejoin_request_format, rejoin_request_of, rejoin_response_format, rejoin_response_of, link_status_format, link_status_of, network_report_format, network_report_of, network_update_format, network_update_of, timeout_request_format, timeout_request_of, timeout_response_format, timeout_response_of, link_power_delta_format, link_power_delta_of, commissioning_request_format, commissioning_request_of, commissioning_response_format, commissioning_response_of, relay_of, link_of, no_link, pan_id_of, no_pan_id, power_of, no_power, firsts}
use Rattle.types.specs.declared.{Nwk.Nwk, PanId.PanId}
use Rattle.commands.specs.declared.{NwkCommandId.NwkCommandId, NwkCommand.NwkCommand, NwkCommandWithLists.NwkCommandWithLists, NwkCommandList.NwkCommandList, NwkLinkStatus.NwkLinkStatus, NwkPowerListEntry.NwkPowerListEntry}

-- the most bytes that a command has
abbrev pub max_nsdu_size : ℕ
max_nsdu_size = 108

-- ---- the fifteen formats by identifier

unfoldable pub format_of : NwkCommandId → Format
format_of NwkCommandId.RouteRequest = route_request_format
format_of NwkCommandId.RouteReply = route_reply_format
format_of NwkCommandId.NetworkStatus = network_status_format
format_of NwkCommandId.Leave = leave_format
format_of NwkCommandId.RouteRecord = route_record_format
format_of NwkCommandId.RejoinRequest = rejoin_request_format
format_of NwkCommandId.RejoinResponse = rejoin_response_format
format_of NwkCommandId.LinkStatus = link_status_format
format_of NwkCommandId.NetworkReport = network_report_format
format_of NwkCommandId.NetworkUpdate = network_update_format
format_of NwkCommandId.EndDeviceTimeoutRequest = timeout_request_format
format_of NwkCommandId.EndDeviceTimeoutResponse = timeout_response_format
format_of NwkCommandId.LinkPowerDelta = link_power_delta_format
format_of NwkCommandId.NetworkCommissioningRequest = commissioning_request_format
format_of NwkCommandId.NetworkCommissioningResponse = commissioning_response_format

unfoldable pub command_of : NwkCommandId → Values → Option NwkCommand
command_of NwkCommandId.RouteRequest v = route_request_of v
command_of NwkCommandId.RouteReply v = route_reply_of v
command_of NwkCommandId.NetworkStatus v = network_status_of v
command_of NwkCommandId.Leave v = leave_of v
command_of NwkCommandId.RouteRecord v = route_record_of v
command_of NwkCommandId.RejoinRequest v = rejoin_request_of v
command_of NwkCommandId.RejoinResponse v = rejoin_response_of v
command_of NwkCommandId.LinkStatus v = link_status_of v
command_of NwkCommandId.NetworkReport v = network_report_of v
command_of NwkCommandId.NetworkUpdate v = network_update_of v
command_of NwkCommandId.EndDeviceTimeoutRequest v = timeout_request_of v
command_of NwkCommandId.EndDeviceTimeoutResponse v = timeout_response_of v
command_of NwkCommandId.LinkPowerDelta v = link_power_delta_of v
command_of NwkCommandId.NetworkCommissioningRequest v = commissioning_request_of v
command_of NwkCommandId.NetworkCommissioningResponse v = commissioning_response_of v

-- ---- a command with its lists

-- the m places of an array: the entries xs, then d
unfoldable pub places : {A : Type 0} → A → ℕ → List A → List A
places d m xs = xs ++ drop (length xs) (replicate m d)

-- a command with its five lists
unfoldable pub with_lists : NwkCommand → List Nwk → List NwkLinkStatus → List PanId → List NwkPowerListEntry → List ℕ → NwkCommandWithLists
with_lists c relays links pan_ids powers bytes =
    record {
      command = c;
      relay_count = length relays;
      relays = places no_nwk 53 relays;
      link_statuses_len = length links;
      link_statuses = places no_link 31 links;
      report_information_count = length pan_ids;
      pan_ids = places no_pan_id 31 pan_ids;
      list_count = length powers;
      power_list = places no_power 35 powers;
      unparsed_len = length bytes;
      unparsed = places 0 108 bytes;
    }

-- the list that is a command's own
abbrev pub list_of : NwkCommand → NwkCommandList
list_of (NwkCommand.RouteRequest c) = NwkCommandList.NoList
list_of (NwkCommand.RouteReply c) = NwkCommandList.NoList
list_of (NwkCommand.NetworkStatus c) = NwkCommandList.NoList
list_of (NwkCommand.Leave c) = NwkCommandList.NoList
list_of NwkCommand.RouteRecord = NwkCommandList.Relays
list_of (NwkCommand.RejoinRequest c) = NwkCommandList.NoList
list_of (NwkCommand.RejoinResponse c) = NwkCommandList.NoList
list_of (NwkCommand.LinkStatus c) = NwkCommandList.LinkStatuses
list_of (NwkCommand.NetworkReport c) = NwkCommandList.PanIds
list_of (NwkCommand.NetworkUpdate c) = NwkCommandList.NoList
list_of (NwkCommand.EndDeviceTimeoutRequest c) = NwkCommandList.NoList
list_of (NwkCommand.EndDeviceTimeoutResponse c) = NwkCommandList.NoList
list_of (NwkCommand.LinkPowerDelta c) = NwkCommandList.PowerList
list_of (NwkCommand.NetworkCommissioningRequest c) = NwkCommandList.NoList
list_of (NwkCommand.NetworkCommissioningResponse c) = NwkCommandList.NoList
list_of NwkCommand.Unparsed = NwkCommandList.Bytes

-- a typed command with the list that the bytes s hold
unfoldable pub listed : NwkCommandList → NwkCommand → List ℕ → NwkCommandWithLists
listed NwkCommandList.NoList c s = with_lists c [] [] [] [] []
listed NwkCommandList.Relays c s = with_lists c (map relay_of (values route_record_format s).entries) [] [] [] []
listed NwkCommandList.LinkStatuses c s = with_lists c [] (map link_of (values link_status_format s).entries) [] [] []
listed NwkCommandList.PanIds c s = with_lists c [] [] (map pan_id_of (values network_report_format s).entries) [] []
listed NwkCommandList.PowerList c s = with_lists c [] [] [] (map power_of (values link_power_delta_format s).entries) []
listed NwkCommandList.Bytes c s = with_lists c [] [] [] [] []

-- the same command with the same list, the places past its count and the other lists cleared
unfoldable pub cleared_by : NwkCommandList → NwkCommand → NwkCommandWithLists → NwkCommandWithLists
cleared_by NwkCommandList.NoList c f = with_lists c [] [] [] [] []
cleared_by NwkCommandList.Relays c f = with_lists c (firsts no_nwk f.relays f.relay_count) [] [] [] []
cleared_by NwkCommandList.LinkStatuses c f = with_lists c [] (firsts no_link f.link_statuses f.link_statuses_len) [] [] []
cleared_by NwkCommandList.PanIds c f = with_lists c [] [] (firsts no_pan_id f.pan_ids f.report_information_count) [] []
cleared_by NwkCommandList.PowerList c f = with_lists c [] [] [] (firsts no_power f.power_list f.list_count) []
cleared_by NwkCommandList.Bytes c f = with_lists c [] [] [] [] (firsts 0 f.unparsed f.unparsed_len)

unfoldable pub cleared : NwkCommandWithLists → NwkCommandWithLists
cleared f = cleared_by (list_of f.command) f.command f

-- ---- reading

-- the command that the body of s holds under an identifier, if the body is whole and its codes are declared
unfoldable pub body_of : NwkCommandId → List ℕ → Option NwkCommand
body_of id s = cond (leb (body_end (format_of id) s) (length s)) (command_of id (values (format_of id) s)) None

unfoldable pub typed_by : Option NwkCommandId → List ℕ → Option NwkCommand
typed_by (Some id) s = body_of id s
typed_by None s = None

-- the typed command of s, if it has one; no bytes have the identifier 0, which is unknown
unfoldable pub typed : List ℕ → Option NwkCommand
typed s = typed_by (command_id_of (get_or s 0 0)) s

-- all the bytes, kept as they are
unfoldable pub unparsed : List ℕ → NwkCommandWithLists
unparsed s = with_lists NwkCommand.Unparsed [] [] [] [] s

unfoldable pub parsed : Option NwkCommand → List ℕ → NwkCommandWithLists
parsed (Some c) s = listed (list_of c) c s
parsed None s = unparsed s

-- what reading a command gives: the refusal's number, 0 for none, and the command
pub record NwkCommandRead : Type 0 where
  pub refusal : ℕ
  pub command : NwkCommandWithLists

abbrev pub read_as : NwkCommandWithLists → NwkCommandRead
read_as f = record { refusal = 0; command = f }

-- after a refusal the command is blank: unparsed, with no bytes
abbrev pub read_nothing : ℕ → NwkCommandRead
read_nothing n = record { refusal = n; command = unparsed [] }

-- the same, of the code's answer
abbrev pub told_command : Result NwkCommandWithLists Refusal → NwkCommandRead
told_command (Ok f) = read_as f
told_command (Err r) = read_nothing (number_of r)

-- reading a command: document 01, number 12
unfoldable pub read_refusal : List ℕ → ℕ
read_refusal s = first_of (on 12 (ltb max_nsdu_size (length s)) ∷ [])

unfoldable pub read_command : List ℕ → NwkCommandRead
read_command s = unless (read_refusal s) (read_as (parsed (typed s) s)) (read_nothing (read_refusal s))
