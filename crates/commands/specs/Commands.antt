-- The fifteen commands, in the order of the Zigbee Specification (3.4.1 to 3.4.15): for each its format, which reads
-- beside the declared fields of the Rust, the command that values of the format mean, and the values of a command.
-- Document 01, "Commands": an undeclared code means no command.
-- Assumes nothing.
use Rattle.std.specs.Prelude.{ℕ, cond, List, [], ◌∷◌, ◌++◌, get_or, drop, eqb, Option, Some, None}
use Rattle.octets.specs.Strings.{tab}
use Rattle.octets.specs.Numbers.{le_at}
use Rattle.octets.specs.Fields.{bit}
use Rattle.commands.specs.Codes.{many_to_one_code, many_to_one_of, status_code, status_of, association_status_code, association_status_of, report_identifier_code, report_identifier_of, update_identifier_code, update_identifier_of, timeout_code, timeout_of, timeout_status_code, timeout_status_of, power_type_code, power_type_of, commissioning_type_code, commissioning_type_of, is_set, device_type_bit, device_type_of, power_source_bit, power_source_of}
use Rattle.commands.specs.Format.{Field, Format, Values, read_fields}
use Rattle.commands.specs.Format.Part.{keep, skip}
use Rattle.commands.specs.Format.Field.{byte, number, bits}
use Rattle.types.specs.Addresses.{nwk, pan_id, no_nwk}
use Rattle.types.specs.declared.{Nwk.Nwk, PanId.PanId}
use Rattle.commands.specs.declared.{NwkRouteRequestCommand.NwkRouteRequestCommand, NwkRouteReplyCommand.NwkRouteReplyCommand, NwkNetworkStatusCommand.NwkNetworkStatusCommand, NwkLeaveCommand.NwkLeaveCommand, NwkRejoinCapabilityInformation.NwkRejoinCapabilityInformation, NwkRejoinRequestCommand.NwkRejoinRequestCommand, NwkRejoinResponseCommand.NwkRejoinResponseCommand, NwkLinkStatusCommand.NwkLinkStatusCommand, NwkLinkStatus.NwkLinkStatus, NwkNetworkReportCommand.NwkNetworkReportCommand, NwkNetworkUpdateCommand.NwkNetworkUpdateCommand, NwkEndDeviceTimeoutRequestCommand.NwkEndDeviceTimeoutRequestCommand, NwkEndDeviceTimeoutResponseCommand.NwkEndDeviceTimeoutResponseCommand, NwkLinkPowerDeltaCommand.NwkLinkPowerDeltaCommand, NwkPowerListEntry.NwkPowerListEntry, NwkNetworkCommissioningRequestCommand.NwkNetworkCommissioningRequestCommand, NwkNetworkCommissioningResponseCommand.NwkNetworkCommissioningResponseCommand, NwkCommand.NwkCommand, NwkRouteRequestManyToOne.NwkRouteRequestManyToOne, NwkNetworkStatus.NwkNetworkStatus, Nwk802154AssociationStatus.Nwk802154AssociationStatus, NwkReportCommandIdentifier.NwkReportCommandIdentifier, NwkUpdateCommandIdentifier.NwkUpdateCommandIdentifier, EndDeviceTimeout.EndDeviceTimeout, NwkEndDeviceTimeoutResponseStatus.NwkEndDeviceTimeoutResponseStatus, NwkLinkPowerDeltaType.NwkLinkPowerDeltaType, NwkCommissioningType.NwkCommissioningType}

-- a body without entries
abbrev plain : List Field → Format
plain hs = record { head = hs; counts = []; entry = [] }

-- the value at place k of the head, and the first value of entry k
abbrev pub at : Values → ℕ → ℕ
at v k = get_or v.head k 0

abbrev pub entry_at : Values → ℕ → ℕ
entry_at v k = get_or (get_or v.entries k []) 0 0

-- the values of a command that has no entries
abbrev pub only : List ℕ → Values
only hs = record { head = hs; entries = [] }

-- an optional IEEE address: its presence bit, its entry, and back
abbrev pub has : Option ℕ → ℕ
has None = 0
has (Some x) = 1

abbrev pub address_entry : Option ℕ → List (List ℕ)
address_entry None = []
address_entry (Some x) = (x ∷ []) ∷ []

unfoldable pub address_of : ℕ → ℕ → Option ℕ
address_of b x = cond (eqb b 1) (Some x) None

-- the first n entries of an array, by index, d past its end
unfoldable pub firsts : {A : Type 0} → A → List A → ℕ → List A
firsts d xs n = tab (λ (k : ℕ). get_or xs k d) n

-- the values of the first n entries of an array, each by its own function
abbrev pub entries_of : {A : Type 0} → (A → List ℕ) → A → List A → ℕ → List (List ℕ)
entries_of entry d xs n = tab (λ (k : ℕ). entry (get_or xs k d)) n

-- ---- 3.4.1 Route Request

unfoldable pub route_request_format : Format
route_request_format =
    record {
      head = bits (skip 3 ∷ keep 2 ∷ keep 1 ∷ skip 2 ∷ []) ∷ byte ∷ number 2 ∷ byte ∷ [];
      counts = 1 ∷ [];
      entry = number 8 ∷ [];
    }

-- the values: many-to-one, has destination IEEE, route request identifier, destination address, path cost
unfoldable pub route_request_by : Option NwkRouteRequestManyToOne → Values → Option NwkCommand
route_request_by (Some code) v =
    Some (NwkCommand.RouteRequest (record {
      many_to_one = code;
      route_request_identifier = at v 2;
      destination_address = nwk (at v 3);
      path_cost = at v 4;
      destination_eui64 = address_of (at v 1) (entry_at v 0);
    }))
route_request_by None v = None

unfoldable pub route_request_of : Values → Option NwkCommand
route_request_of v = route_request_by (many_to_one_of (at v 0)) v

unfoldable pub route_request_values : NwkRouteRequestCommand → Values
route_request_values c =
    record {
      head =
          many_to_one_code c.many_to_one ∷ has c.destination_eui64 ∷ c.route_request_identifier ∷ c.destination_address.0
          ∷ c.path_cost ∷ [];
      entries = address_entry c.destination_eui64;
    }

-- ---- 3.4.2 Route Reply

unfoldable pub route_reply_format : Format
route_reply_format =
    record {
      head = bits (skip 4 ∷ keep 1 ∷ keep 1 ∷ skip 2 ∷ []) ∷ byte ∷ number 2 ∷ number 2 ∷ byte ∷ [];
      counts = 0 ∷ 1 ∷ [];
      entry = number 8 ∷ [];
    }

-- the values: has originator IEEE, has responder IEEE, route request identifier, originator, responder, path cost
unfoldable pub route_reply_of : Values → Option NwkCommand
route_reply_of v =
    Some (NwkCommand.RouteReply (record {
      route_request_identifier = at v 2;
      originator_nwk = nwk (at v 3);
      responder_nwk = nwk (at v 4);
      path_cost = at v 5;
      originator_eui64 = address_of (at v 0) (entry_at v 0);
      responder_eui64 = address_of (at v 1) (entry_at v (at v 0));
    }))

unfoldable pub route_reply_values : NwkRouteReplyCommand → Values
route_reply_values c =
    record {
      head =
          has c.originator_eui64 ∷ has c.responder_eui64 ∷ c.route_request_identifier ∷ c.originator_nwk.0
          ∷ c.responder_nwk.0 ∷ c.path_cost ∷ [];
      entries = address_entry c.originator_eui64 ++ address_entry c.responder_eui64;
    }

-- ---- 3.4.3 Network Status

unfoldable pub network_status_format : Format
network_status_format = plain (byte ∷ number 2 ∷ [])

-- the values: status code, network address
unfoldable pub network_status_by : Option NwkNetworkStatus → Values → Option NwkCommand
network_status_by (Some code) v =
    Some (NwkCommand.NetworkStatus (record { status_code = code; network_address = nwk (at v 1) }))
network_status_by None v = None

unfoldable pub network_status_of : Values → Option NwkCommand
network_status_of v = network_status_by (status_of (at v 0)) v

unfoldable pub network_status_values : NwkNetworkStatusCommand → Values
network_status_values c = only (status_code c.status_code ∷ c.network_address.0 ∷ [])

-- ---- 3.4.4 Leave

unfoldable pub leave_format : Format
leave_format = plain (bits (skip 5 ∷ keep 1 ∷ keep 1 ∷ keep 1 ∷ []) ∷ [])

-- the values: rejoin, request, remove children
unfoldable pub leave_of : Values → Option NwkCommand
leave_of v =
    Some (NwkCommand.Leave (record { rejoin = is_set (at v 0); request = is_set (at v 1); remove_children = is_set (at v 2) }))

unfoldable pub leave_values : NwkLeaveCommand → Values
leave_values c = only (bit c.rejoin ∷ bit c.request ∷ bit c.remove_children ∷ [])

-- ---- 3.4.5 Route Record

unfoldable pub route_record_format : Format
route_record_format = record { head = byte ∷ []; counts = 0 ∷ []; entry = number 2 ∷ [] }

-- the values: relay count; an entry is a relay
unfoldable pub route_record_of : Values → Option NwkCommand
route_record_of v = Some NwkCommand.RouteRecord

unfoldable pub relay_of : List ℕ → Nwk
relay_of e = nwk (get_or e 0 0)

unfoldable pub relay_entry : Nwk → List ℕ
relay_entry r = r.0 ∷ []

-- the relay at place i of the bytes s
abbrev pub relay_at : List ℕ → ℕ → Nwk
relay_at s i = nwk (le_at 2 s i)

abbrev pub relay_entries : List Nwk → ℕ → List (List ℕ)
relay_entries = entries_of relay_entry no_nwk

unfoldable pub route_record_values : List Nwk → ℕ → Values
route_record_values relays n = record { head = n ∷ []; entries = relay_entries relays n }

-- ---- 3.4.6 Rejoin Request

-- the capability information: eight parts of one bit, the two reserved ones kept
unfoldable pub capability_field : Field
capability_field = bits (keep 1 ∷ keep 1 ∷ keep 1 ∷ keep 1 ∷ keep 1 ∷ keep 1 ∷ keep 1 ∷ keep 1 ∷ [])

unfoldable pub capability_of : List ℕ → NwkRejoinCapabilityInformation
capability_of vs =
    record {
      alternate_pan_coordinator = is_set (get_or vs 0 0);
      device_type = device_type_of (is_set (get_or vs 1 0));
      power_source = power_source_of (is_set (get_or vs 2 0));
      receiver_on_when_idle = is_set (get_or vs 3 0);
      reserved1 = is_set (get_or vs 4 0);
      reserved2 = is_set (get_or vs 5 0);
      security_capability = is_set (get_or vs 6 0);
      allocate_address = is_set (get_or vs 7 0);
    }

unfoldable pub capability_values : NwkRejoinCapabilityInformation → List ℕ
capability_values c =
    bit c.alternate_pan_coordinator ∷ bit (device_type_bit c.device_type) ∷ bit (power_source_bit c.power_source) ∷ bit c.receiver_on_when_idle
    ∷ bit c.reserved1 ∷ bit c.reserved2 ∷ bit c.security_capability ∷ bit c.allocate_address ∷ []

unfoldable pub rejoin_request_format : Format
rejoin_request_format = plain (capability_field ∷ [])

-- the values: the capability information
unfoldable pub rejoin_request_of : Values → Option NwkCommand
rejoin_request_of v = Some (NwkCommand.RejoinRequest (record { capability_information = capability_of v.head }))

unfoldable pub rejoin_request_values : NwkRejoinRequestCommand → Values
rejoin_request_values c = only (capability_values c.capability_information)

-- ---- 3.4.7 Rejoin Response

unfoldable pub rejoin_response_format : Format
rejoin_response_format = plain (number 2 ∷ byte ∷ [])

-- the values: network address, rejoin status
unfoldable pub rejoin_response_by : Option Nwk802154AssociationStatus → Values → Option NwkCommand
rejoin_response_by (Some code) v =
    Some (NwkCommand.RejoinResponse (record { network_address = nwk (at v 0); rejoin_status = code }))
rejoin_response_by None v = None

unfoldable pub rejoin_response_of : Values → Option NwkCommand
rejoin_response_of v = rejoin_response_by (association_status_of (at v 1)) v

unfoldable pub rejoin_response_values : NwkRejoinResponseCommand → Values
rejoin_response_values c = only (c.network_address.0 ∷ association_status_code c.rejoin_status ∷ [])

-- ---- 3.4.8 Link Status

unfoldable pub link_status_format : Format
link_status_format =
    record {
      head = bits (keep 5 ∷ keep 1 ∷ keep 1 ∷ skip 1 ∷ []) ∷ [];
      counts = 0 ∷ [];
      entry = number 2 ∷ bits (keep 3 ∷ skip 1 ∷ keep 3 ∷ skip 1 ∷ []) ∷ [];
    }

-- the values: entry count, is first frame, is last frame; an entry is an address, an incoming and an outgoing cost
unfoldable pub link_status_of : Values → Option NwkCommand
link_status_of v =
    Some (NwkCommand.LinkStatus (record { is_first_frame = is_set (at v 1); is_last_frame = is_set (at v 2) }))

unfoldable pub link_of : List ℕ → NwkLinkStatus
link_of e = record { address = nwk (get_or e 0 0); incoming_cost = get_or e 1 0; outgoing_cost = get_or e 2 0 }

unfoldable pub link_entry : NwkLinkStatus → List ℕ
link_entry l = l.address.0 ∷ l.incoming_cost ∷ l.outgoing_cost ∷ []

-- the entry at place i of the bytes s
unfoldable pub link_at : List ℕ → ℕ → NwkLinkStatus
link_at s i = link_of (read_fields link_status_format.entry s i)

abbrev pub no_link : NwkLinkStatus
no_link = record { address = no_nwk; incoming_cost = 0; outgoing_cost = 0 }

abbrev pub link_entries : List NwkLinkStatus → ℕ → List (List ℕ)
link_entries = entries_of link_entry no_link

unfoldable pub link_status_values : NwkLinkStatusCommand → List NwkLinkStatus → ℕ → Values
link_status_values c links n =
    record {
      head = n ∷ bit c.is_first_frame ∷ bit c.is_last_frame ∷ [];
      entries = link_entries links n;
    }

-- ---- 3.4.9 Network Report

unfoldable pub network_report_format : Format
network_report_format =
    record { head = bits (keep 5 ∷ keep 3 ∷ []) ∷ number 8 ∷ []; counts = 0 ∷ []; entry = number 2 ∷ [] }

-- the values: PAN id count, report command identifier, extended PAN id; an entry is a PAN id
unfoldable pub network_report_by : Option NwkReportCommandIdentifier → Values → Option NwkCommand
network_report_by (Some code) v =
    Some (NwkCommand.NetworkReport (record { report_command_identifier = code; epid = at v 2 }))
network_report_by None v = None

unfoldable pub network_report_of : Values → Option NwkCommand
network_report_of v = network_report_by (report_identifier_of (at v 1)) v

unfoldable pub pan_id_of : List ℕ → PanId
pan_id_of e = pan_id (get_or e 0 0)

unfoldable pub pan_id_entry : PanId → List ℕ
pan_id_entry p = p.0 ∷ []

abbrev pub no_pan_id : PanId
no_pan_id = pan_id 0

-- the PAN id at place i of the bytes s
abbrev pub pan_id_at : List ℕ → ℕ → PanId
pan_id_at s i = pan_id (le_at 2 s i)

abbrev pub pan_id_entries : List PanId → ℕ → List (List ℕ)
pan_id_entries = entries_of pan_id_entry no_pan_id

unfoldable pub network_report_values : NwkNetworkReportCommand → List PanId → ℕ → Values
network_report_values c pan_ids n =
    record {
      head = n ∷ report_identifier_code c.report_command_identifier ∷ c.epid ∷ [];
      entries = pan_id_entries pan_ids n;
    }

-- ---- 3.4.10 Network Update

unfoldable pub network_update_format : Format
network_update_format = plain (bits (keep 5 ∷ keep 3 ∷ []) ∷ number 8 ∷ byte ∷ number 2 ∷ [])

-- the values: the stored count, update command identifier, extended PAN id, update id, new PAN id
unfoldable pub network_update_by : Option NwkUpdateCommandIdentifier → Values → Option NwkCommand
network_update_by (Some code) v =
    Some (NwkCommand.NetworkUpdate (record {
      update_information_count = at v 0;
      update_command_identifier = code;
      epid = at v 2;
      update_id = at v 3;
      new_pan_id = pan_id (at v 4);
    }))
network_update_by None v = None

unfoldable pub network_update_of : Values → Option NwkCommand
network_update_of v = network_update_by (update_identifier_of (at v 1)) v

unfoldable pub network_update_values : NwkNetworkUpdateCommand → Values
network_update_values c =
    only
    (c.update_information_count ∷ update_identifier_code c.update_command_identifier ∷ c.epid ∷ c.update_id
    ∷ c.new_pan_id.0 ∷ [])

-- ---- 3.4.11 End Device Timeout Request

unfoldable pub timeout_request_format : Format
timeout_request_format = plain (byte ∷ byte ∷ [])

-- the values: timeout code, end device configuration
unfoldable pub timeout_request_by : Option EndDeviceTimeout → Values → Option NwkCommand
timeout_request_by (Some code) v =
    Some (NwkCommand.EndDeviceTimeoutRequest (record { request_timeout_enum = code; end_device_configuration = at v 1 }))
timeout_request_by None v = None

unfoldable pub timeout_request_of : Values → Option NwkCommand
timeout_request_of v = timeout_request_by (timeout_of (at v 0)) v

unfoldable pub timeout_request_values : NwkEndDeviceTimeoutRequestCommand → Values
timeout_request_values c = only (timeout_code c.request_timeout_enum ∷ c.end_device_configuration ∷ [])

-- ---- 3.4.12 End Device Timeout Response

unfoldable pub timeout_response_format : Format
timeout_response_format = plain (byte ∷ bits (keep 1 ∷ keep 1 ∷ keep 1 ∷ skip 5 ∷ []) ∷ [])

-- the values: status, MAC data poll keepalive, timeout request keepalive, power negotiation
unfoldable pub timeout_response_by : Option NwkEndDeviceTimeoutResponseStatus → Values → Option NwkCommand
timeout_response_by (Some code) v =
    Some (NwkCommand.EndDeviceTimeoutResponse (record {
      status = code;
      mac_data_poll_keepalive_supported = is_set (at v 1);
      end_device_timeout_request_keepalive_supported = is_set (at v 2);
      power_negotation_support = is_set (at v 3);
    }))
timeout_response_by None v = None

unfoldable pub timeout_response_of : Values → Option NwkCommand
timeout_response_of v = timeout_response_by (timeout_status_of (at v 0)) v

unfoldable pub timeout_response_values : NwkEndDeviceTimeoutResponseCommand → Values
timeout_response_values c =
    only
    (timeout_status_code c.status ∷ bit c.mac_data_poll_keepalive_supported
    ∷ bit c.end_device_timeout_request_keepalive_supported ∷ bit c.power_negotation_support ∷ [])

-- ---- 3.4.13 Link Power Delta

unfoldable pub link_power_delta_format : Format
link_power_delta_format =
    record { head = bits (keep 2 ∷ skip 6 ∷ []) ∷ byte ∷ []; counts = 1 ∷ []; entry = number 2 ∷ byte ∷ [] }

-- the values: power type, entry count; an entry is a device address and a power delta
unfoldable pub link_power_delta_by : Option NwkLinkPowerDeltaType → Values → Option NwkCommand
link_power_delta_by (Some code) v =
    Some (NwkCommand.LinkPowerDelta (record { command_type = code }))
link_power_delta_by None v = None

unfoldable pub link_power_delta_of : Values → Option NwkCommand
link_power_delta_of v = link_power_delta_by (power_type_of (at v 0)) v

unfoldable pub power_of : List ℕ → NwkPowerListEntry
power_of e = record { device_address = nwk (get_or e 0 0); power_delta = get_or e 1 0 }

unfoldable pub power_entry : NwkPowerListEntry → List ℕ
power_entry p = p.device_address.0 ∷ p.power_delta ∷ []

-- the entry at place i of the bytes s
unfoldable pub power_at : List ℕ → ℕ → NwkPowerListEntry
power_at s i = power_of (read_fields link_power_delta_format.entry s i)

abbrev pub no_power : NwkPowerListEntry
no_power = record { device_address = no_nwk; power_delta = 0 }

abbrev pub power_entries : List NwkPowerListEntry → ℕ → List (List ℕ)
power_entries = entries_of power_entry no_power

unfoldable pub link_power_delta_values : NwkLinkPowerDeltaCommand → List NwkPowerListEntry → ℕ → Values
link_power_delta_values c powers n =
    record {
      head = power_type_code c.command_type ∷ n ∷ [];
      entries = power_entries powers n;
    }

-- ---- 3.4.14 Network Commissioning Request

unfoldable pub commissioning_request_format : Format
commissioning_request_format = plain (byte ∷ capability_field ∷ [])

-- the values: commissioning type, then the capability information
unfoldable pub commissioning_request_by : Option NwkCommissioningType → Values → Option NwkCommand
commissioning_request_by (Some code) v =
    Some (NwkCommand.NetworkCommissioningRequest (record { commissioning_type = code; capability_information = capability_of (drop 1 v.head) }))
commissioning_request_by None v = None

unfoldable pub commissioning_request_of : Values → Option NwkCommand
commissioning_request_of v = commissioning_request_by (commissioning_type_of (at v 0)) v

unfoldable pub commissioning_request_values : NwkNetworkCommissioningRequestCommand → Values
commissioning_request_values c =
    only (commissioning_type_code c.commissioning_type ∷ capability_values c.capability_information)

-- ---- 3.4.15 Network Commissioning Response

unfoldable pub commissioning_response_format : Format
commissioning_response_format = plain (number 2 ∷ byte ∷ [])

-- the values: network address, status
unfoldable pub commissioning_response_by : Option Nwk802154AssociationStatus → Values → Option NwkCommand
commissioning_response_by (Some code) v =
    Some (NwkCommand.NetworkCommissioningResponse (record { network_address = nwk (at v 0); status = code }))
commissioning_response_by None v = None

unfoldable pub commissioning_response_of : Values → Option NwkCommand
commissioning_response_of v = commissioning_response_by (association_status_of (at v 1)) v

unfoldable pub commissioning_response_values : NwkNetworkCommissioningResponseCommand → Values
commissioning_response_values c = only (c.network_address.0 ∷ association_status_code c.status ∷ [])
