-- When a command's fields fit: a value of a Rattle type is within its type's range, so of document 01's number 13 only
-- a count over its places, a cost over 7 and an update count over 31 are left to test. `Ranged` says what a command's
-- types give, and `misfits_is` what is left.
-- Assumes nothing.
use Rattle.std.specs.Prelude.{Option, Some, None}
use mathlib.Core.Path.{◌≡◌, refl, sym, ap, ◌∙◌}
use mathlib.Core.Bool.{Bool, true, false, not, ◌&&◌, ◌||◌, or-false}
use mathlib.Core.List.{List, [], ◌∷◌, ◌++◌}
use Prim.Native.Nat.{ℕ, ◌^◌, ◌≤◌, ◌<◌}
use native.Mathlib.Decide.{dec_lt}
use native.Mathlib.Omega.{arith}
use borrow.Author.Tests.{lt-ltb, le-ltb}
use lib.Dec.{ltb, lit<}
use lib.ListN.{get_or}
use Rattle.octets.proofs.Strings.{length_tab}
use Rattle.types.specs.Addresses.{no_nwk}
use Rattle.commands.specs.Codes.{device_type_bit, power_source_bit}
use Rattle.commands.specs.Format.{Field, Format, Values, held_parts, held_field, held_fields, held_entries, held_values}
use Rattle.commands.specs.Format.Field.{number}
use Rattle.commands.specs.Commands.{route_request_format, route_request_values, route_reply_format, route_reply_values, network_status_format, network_status_values, leave_format, leave_values, route_record_values, rejoin_request_format, rejoin_request_values, rejoin_response_format, rejoin_response_values, link_status_format, link_status_values, network_report_values, network_update_format, network_update_values, timeout_request_format, timeout_request_values, timeout_response_format, timeout_response_values, link_power_delta_values, commissioning_request_format, commissioning_request_values, commissioning_response_format, commissioning_response_values, capability_field, capability_values, has, address_entry, entries_of, relay_entry, link_entry, link_entries, no_link, pan_id_entry, no_pan_id, power_entry, no_power}
use Rattle.commands.specs.Reading.{format_of, list_of}
use Rattle.commands.specs.Writing.{wire_of, over_places, misfits, update_count}
use Rattle.commands.specs.Writing.Wire.{body}
use Rattle.commands.proofs.Format.{both, held_all, ◌&◌, HoldFields, fields_hold}
use Rattle.commands.proofs.Layouts.{formats, contents, shapes}
use Rattle.commands.proofs.CodeLaws.{many_to_one_lt, status_lt, association_status_lt, report_identifier_lt, update_identifier_lt, timeout_lt, timeout_status_lt, power_type_lt, commissioning_type_lt, bit_lt}
use Rattle.commands.specs.declared.{NwkCommandId.NwkCommandId, NwkCommand.NwkCommand, NwkCommandWithLists.NwkCommandWithLists, NwkCommandList.NwkCommandList, NwkRejoinCapabilityInformation.NwkRejoinCapabilityInformation, NwkRouteRequestCommand.NwkRouteRequestCommand, NwkRouteReplyCommand.NwkRouteReplyCommand, NwkNetworkStatusCommand.NwkNetworkStatusCommand, NwkLeaveCommand.NwkLeaveCommand, NwkRejoinRequestCommand.NwkRejoinRequestCommand, NwkRejoinResponseCommand.NwkRejoinResponseCommand, NwkLinkStatusCommand.NwkLinkStatusCommand, NwkNetworkReportCommand.NwkNetworkReportCommand, NwkNetworkUpdateCommand.NwkNetworkUpdateCommand, NwkPowerListEntry.NwkPowerListEntry, NwkEndDeviceTimeoutRequestCommand.NwkEndDeviceTimeoutRequestCommand, NwkEndDeviceTimeoutResponseCommand.NwkEndDeviceTimeoutResponseCommand, NwkLinkPowerDeltaCommand.NwkLinkPowerDeltaCommand, NwkNetworkCommissioningRequestCommand.NwkNetworkCommissioningRequestCommand, NwkNetworkCommissioningResponseCommand.NwkNetworkCommissioningResponseCommand}

-- ---- what the types give

abbrev pub InAddress : Option ℕ → Type 0
InAddress None = Unit {0}
InAddress (Some x) = x < 2 ^ 64

abbrev pub InPower : NwkPowerListEntry → Type 0
InPower p = (p.device_address.0 < 65536) × (p.power_delta < 256)

-- the numbers of a command are within their types
abbrev pub Ranged : NwkCommand → Type 0
Ranged (NwkCommand.RouteRequest c) =
    (c.route_request_identifier < 256) × (c.destination_address.0 < 65536) × (c.path_cost < 256) × InAddress c.destination_eui64
Ranged (NwkCommand.RouteReply c) =
    (c.route_request_identifier < 256) × (c.originator_nwk.0 < 65536) × (c.responder_nwk.0 < 65536) × (c.path_cost < 256)
    × InAddress c.originator_eui64 × InAddress c.responder_eui64
Ranged (NwkCommand.NetworkStatus c) = c.network_address.0 < 65536
Ranged (NwkCommand.Leave c) = Unit {0}
Ranged NwkCommand.RouteRecord = Unit {0}
Ranged (NwkCommand.RejoinRequest c) = Unit {0}
Ranged (NwkCommand.RejoinResponse c) = c.network_address.0 < 65536
Ranged (NwkCommand.LinkStatus c) = Unit {0}
Ranged (NwkCommand.NetworkReport c) = c.epid < 2 ^ 64
Ranged (NwkCommand.NetworkUpdate c) = (c.epid < 2 ^ 64) × (c.update_id < 256) × (c.new_pan_id.0 < 65536)
Ranged (NwkCommand.EndDeviceTimeoutRequest c) = c.end_device_configuration < 256
Ranged (NwkCommand.EndDeviceTimeoutResponse c) = Unit {0}
Ranged (NwkCommand.LinkPowerDelta c) = Unit {0}
Ranged (NwkCommand.NetworkCommissioningRequest c) = Unit {0}
Ranged (NwkCommand.NetworkCommissioningResponse c) = c.network_address.0 < 65536
Ranged NwkCommand.Unparsed = Unit {0}

-- the entries of a command's own list are within theirs
abbrev pub RangedList : NwkCommandList → NwkCommandWithLists → Type 0
RangedList NwkCommandList.NoList f = Unit {0}
RangedList NwkCommandList.Relays f = (k : ℕ) → k < f.relay_count → (get_or f.relays k no_nwk).0 < 65536
RangedList NwkCommandList.LinkStatuses f = Unit {0}
RangedList NwkCommandList.PanIds f = (k : ℕ) → k < f.report_information_count → (get_or f.pan_ids k no_pan_id).0 < 65536
RangedList NwkCommandList.PowerList f =
    (k : ℕ) → k < f.list_count → InPower (get_or f.power_list k no_power)
RangedList NwkCommandList.Bytes f = Unit {0}

-- ---- what is left to test

-- a link status entry's costs fit
abbrev pub links_held : NwkCommandWithLists → Bool
links_held f = held_entries link_status_format.entry (link_entries f.link_statuses f.link_statuses_len)

unfoldable pub too_big : NwkCommandList → NwkCommand → NwkCommandWithLists → Bool
too_big NwkCommandList.NoList c f = ltb 31 (update_count c)
too_big NwkCommandList.Relays c f = ltb 53 f.relay_count
too_big NwkCommandList.LinkStatuses c f = ltb 31 f.link_statuses_len || not (links_held f)
too_big NwkCommandList.PanIds c f = ltb 31 f.report_information_count
too_big NwkCommandList.PowerList c f = ltb 35 f.list_count
too_big NwkCommandList.Bytes c f = false

-- ---- the fields of each command

-- a head whose values hold, and entries that do
all_held : (f : Format) (v : Values) → HoldFields f.head v.head → held_entries f.entry v.entries ≡ true → held_values f v ≡ true
unfolding held_values
all_held f v h e = both (fields_hold f.head v.head h) e

-- so many entries that hold
pub entries_held : {A : Type 0} (fs : List Field) (entry : A → List ℕ) (d : A) (xs : List A) (n : ℕ)
    → ((k : ℕ) → k < n → HoldFields fs (entry (get_or xs k d))) → held_entries fs (entries_of entry d xs n) ≡ true
entries_held fs entry d xs n h = held_all fs (λ (k : ℕ). entry (get_or xs k d)) n (λ k l. fields_hold fs (entry (get_or xs k d)) (h k l))

has_lt : (a : Option ℕ) → has a < 2
has_lt None = lit< tt
has_lt (Some x) = lit< tt

address_held : (a : Option ℕ) → InAddress a → held_entries (number 8 ∷ []) (address_entry a) ≡ true
unfolding held_entries
address_held None r = refl
address_held (Some x) r = both (fields_hold (number 8 ∷ []) (x ∷ []) (r, tt)) refl

addresses_held : (a b : Option ℕ) → InAddress a → InAddress b → held_entries (number 8 ∷ []) (address_entry a ++ address_entry b) ≡ true
unfolding held_entries
addresses_held None b q r = address_held b r
addresses_held (Some x) b q r = both (fields_hold (number 8 ∷ []) (x ∷ []) (q, tt)) (address_held b r)

route_request_held : (c : NwkRouteRequestCommand) → Ranged (NwkCommand.RouteRequest c) → held_values route_request_format (route_request_values c) ≡ true
unfolding formats contents shapes
route_request_held c r =
    all_held route_request_format (route_request_values c) ((many_to_one_lt c.many_to_one & has_lt c.destination_eui64 & tt) & r.0 & r.1 & r.2 & tt)
    (address_held c.destination_eui64 r.3)

route_reply_held : (c : NwkRouteReplyCommand) → Ranged (NwkCommand.RouteReply c) → held_values route_reply_format (route_reply_values c) ≡ true
unfolding formats contents shapes
route_reply_held c r =
    all_held route_reply_format (route_reply_values c) ((has_lt c.originator_eui64 & has_lt c.responder_eui64 & tt) & r.0 & r.1 & r.2 & r.3 & tt)
    (addresses_held c.originator_eui64 c.responder_eui64 r.4 r.5)

network_status_held : (c : NwkNetworkStatusCommand) → Ranged (NwkCommand.NetworkStatus c) → held_values network_status_format (network_status_values c) ≡ true
unfolding formats contents shapes held_entries
network_status_held c r = all_held network_status_format (network_status_values c) (status_lt c.status_code & r & tt) refl

leave_held : (c : NwkLeaveCommand) → Ranged (NwkCommand.Leave c) → held_values leave_format (leave_values c) ≡ true
unfolding formats contents shapes held_entries
leave_held c r = all_held leave_format (leave_values c) ((bit_lt c.rejoin & bit_lt c.request & bit_lt c.remove_children & tt) & tt) refl

-- a truth value for each part of the capability information
capability_held : (c : NwkRejoinCapabilityInformation) (fs : List Field) (vs : List ℕ) → HoldFields fs vs → HoldFields (capability_field ∷ fs) (capability_values c ++ vs)
unfolding formats shapes capability_values
capability_held c fs vs h =
    (bit_lt c.alternate_pan_coordinator & bit_lt (device_type_bit c.device_type) & bit_lt (power_source_bit c.power_source)
    & bit_lt c.receiver_on_when_idle & bit_lt c.reserved1 & bit_lt c.reserved2 & bit_lt c.security_capability
    & bit_lt c.allocate_address & tt)
    & h

rejoin_request_held : (c : NwkRejoinRequestCommand) → Ranged (NwkCommand.RejoinRequest c) → held_values rejoin_request_format (rejoin_request_values c) ≡ true
unfolding formats contents capability_values held_entries
rejoin_request_held c r =
    all_held rejoin_request_format (rejoin_request_values c) (capability_held c.capability_information [] [] tt) refl

rejoin_response_held : (c : NwkRejoinResponseCommand) → Ranged (NwkCommand.RejoinResponse c) → held_values rejoin_response_format (rejoin_response_values c) ≡ true
unfolding formats contents shapes held_entries
rejoin_response_held c r = all_held rejoin_response_format (rejoin_response_values c) (r & association_status_lt c.rejoin_status & tt) refl

timeout_request_held : (c : NwkEndDeviceTimeoutRequestCommand) → Ranged (NwkCommand.EndDeviceTimeoutRequest c) → held_values timeout_request_format (timeout_request_values c) ≡ true
unfolding formats contents shapes held_entries
timeout_request_held c r = all_held timeout_request_format (timeout_request_values c) (timeout_lt c.request_timeout_enum & r & tt) refl

timeout_response_held : (c : NwkEndDeviceTimeoutResponseCommand) → Ranged (NwkCommand.EndDeviceTimeoutResponse c)
    → held_values timeout_response_format (timeout_response_values c) ≡ true
unfolding formats contents shapes held_entries
timeout_response_held c r =
    let poll = bit_lt c.mac_data_poll_keepalive_supported in
    let request = bit_lt c.end_device_timeout_request_keepalive_supported in
    all_held timeout_response_format (timeout_response_values c)
    (timeout_status_lt c.status & (poll & request & bit_lt c.power_negotation_support & tt) & tt) refl

commissioning_request_held : (c : NwkNetworkCommissioningRequestCommand) → Ranged (NwkCommand.NetworkCommissioningRequest c)
    → held_values commissioning_request_format (commissioning_request_values c) ≡ true
unfolding formats contents shapes capability_values held_entries
commissioning_request_held c r =
    all_held commissioning_request_format (commissioning_request_values c)
    (commissioning_type_lt c.commissioning_type & capability_held c.capability_information [] [] tt) refl

commissioning_response_held : (c : NwkNetworkCommissioningResponseCommand) → Ranged (NwkCommand.NetworkCommissioningResponse c)
    → held_values commissioning_response_format (commissioning_response_values c) ≡ true
unfolding formats contents shapes held_entries
commissioning_response_held c r =
    all_held commissioning_response_format (commissioning_response_values c) (r & association_status_lt c.status & tt) refl

-- ---- a count and the rest

not_true : {b : Bool} → b ≡ true → not b ≡ false
not_true {b} e = ap not e

-- over the bound the rest does not matter
over_bound : (m n : ℕ) (b h : Bool) → (n ≤ m → b ≡ h) → (ltb m n || not b) ≡ (ltb m n || not h)
over_bound m n b h e = elim (dec_lt m n) [ yes l ↦ over l | no l ↦ ap (λ (x : Bool). ltb m n || not x) (e (omega arith)) ]
  where
    over : m < n → (ltb m n || not b) ≡ (ltb m n || not h)
    over l = rw (lt-ltb m n l) refl

-- a list of n entries with m places, all of whose fields hold if it is within them: a field misfits exactly if there are more
list_misfits : {A : Type 0} (k : NwkCommandList) (id : NwkCommandId) (head : List ℕ) (entry : A → List ℕ) (d : A) (xs : List A) (m n : ℕ)
    → ((j : ℕ) → over_places k j ≡ ltb m j)
    → (n ≤ m → HoldFields (format_of id).head head)
    → ((j : ℕ) → j < n → HoldFields (format_of id).entry (entry (get_or xs j d)))
    → misfits k (body id (record { head = head; entries = entries_of entry d xs n })) ≡ ltb m n
unfolding misfits
list_misfits k id head entry d xs m n places heads entries =
    let v : Values = record { head = head; entries = entries_of entry d xs n } in
    let held : n ≤ m → held_values (format_of id) v ≡ true = λ h. all_held (format_of id) v (heads h) (entries_held _ entry d xs n entries) in
    ap (λ (b : Bool). b || not (held_values (format_of id) v)) (places _ ∙ ap (ltb m) (length_tab (λ (j : ℕ). entry (get_or xs j d)) n))
    ∙ over_bound m n (held_values (format_of id) v) true held ∙ or-false (ltb m n)

-- a field of so many values
not_below : (n m : ℕ) (b : Bool) → (n ≤ m → b ≡ true) → (m < n → b ≡ false) → not b ≡ ltb m n
not_below n m b small big =
    elim (dec_lt m n) [
      | yes l ↦ ap not (big l) ∙ sym (lt-ltb m n l)
      | no l ↦ ap not (small (omega arith)) ∙ sym (le-ltb m n (omega arith))
    ]

network_update_misfits : (c : NwkNetworkUpdateCommand) → Ranged (NwkCommand.NetworkUpdate c)
    → not (held_values network_update_format (network_update_values c)) ≡ ltb 31 c.update_information_count
unfolding formats contents shapes held_values held_fields held_field held_parts held_entries
network_update_misfits c r =
    let n = c.update_information_count in
    not_below n 31 _
    (λ h. all_held network_update_format (network_update_values c) ((omega arith & update_identifier_lt c.update_command_identifier & tt) & r.0 & r.1 & r.2 & tt) refl)
    (λ h. rw (le-ltb n 32 (omega arith)) refl)

route_record_misfits : (f : NwkCommandWithLists) → RangedList NwkCommandList.Relays f
    → misfits NwkCommandList.Relays (body NwkCommandId.RouteRecord (route_record_values f.relays f.relay_count)) ≡ ltb 53 f.relay_count
unfolding formats contents shapes over_places relay_entry
route_record_misfits f r =
    list_misfits NwkCommandList.Relays NwkCommandId.RouteRecord _ relay_entry no_nwk f.relays 53 f.relay_count (λ j. refl)
    (λ h. (omega arith & tt)) (λ k l. (r k l & tt))

network_report_misfits : (c : NwkNetworkReportCommand) (f : NwkCommandWithLists) → c.epid < 2 ^ 64 → RangedList NwkCommandList.PanIds f
    → misfits NwkCommandList.PanIds (body NwkCommandId.NetworkReport (network_report_values c f.pan_ids f.report_information_count))
    ≡ ltb 31 f.report_information_count
unfolding formats contents shapes over_places pan_id_entry
network_report_misfits c f e r =
    list_misfits NwkCommandList.PanIds NwkCommandId.NetworkReport _ pan_id_entry no_pan_id f.pan_ids 31 f.report_information_count (λ j. refl)
    (λ h. ((omega arith & report_identifier_lt c.report_command_identifier & tt) & e & tt)) (λ k l. (r k l & tt))

link_power_delta_misfits : (c : NwkLinkPowerDeltaCommand) (f : NwkCommandWithLists) → RangedList NwkCommandList.PowerList f
    → misfits NwkCommandList.PowerList (body NwkCommandId.LinkPowerDelta (link_power_delta_values c f.power_list f.list_count))
    ≡ ltb 35 f.list_count
unfolding formats contents shapes over_places power_entry
link_power_delta_misfits c f r =
    list_misfits NwkCommandList.PowerList NwkCommandId.LinkPowerDelta _ power_entry no_power f.power_list 35 f.list_count (λ j. refl)
    (λ h. ((power_type_lt c.command_type & tt) & omega arith & tt)) (λ k l. ((r k l).0 & (r k l).1 & tt))

link_status_misfits : (c : NwkLinkStatusCommand) (f : NwkCommandWithLists)
    → misfits NwkCommandList.LinkStatuses (body NwkCommandId.LinkStatus (link_status_values c f.link_statuses f.link_statuses_len))
    ≡ (ltb 31 f.link_statuses_len || not (links_held f))
unfolding formats contents shapes misfits over_places held_values
link_status_misfits c f =
    let n = f.link_statuses_len in
    let v : Values = link_status_values c f.link_statuses n in
    let first : n ≤ 31 → held_fields link_status_format.head v.head ≡ true =
    λ h. fields_hold link_status_format.head v.head ((omega arith & bit_lt c.is_first_frame & bit_lt c.is_last_frame & tt) & tt) in
    rw (length_tab (λ (k : ℕ). link_entry (get_or f.link_statuses k no_link)) n)
    (over_bound 31 n (held_values link_status_format v) _ (λ h. ap (λ (x : Bool). x && links_held f) (first h)))

-- a field misfits exactly if one of the tests says so
pub misfits_is : (c : NwkCommand) (f : NwkCommandWithLists) → Ranged c → RangedList (list_of c) f
    → misfits (list_of c) (wire_of c f) ≡ too_big (list_of c) c f
unfolding misfits over_places wire_of too_big format_of
misfits_is (NwkCommand.RouteRequest c) f r q = not_true (route_request_held c r)
misfits_is (NwkCommand.RouteReply c) f r q = not_true (route_reply_held c r)
misfits_is (NwkCommand.NetworkStatus c) f r q = not_true (network_status_held c r)
misfits_is (NwkCommand.Leave c) f r q = not_true (leave_held c r)
misfits_is NwkCommand.RouteRecord f r q = route_record_misfits f q
misfits_is (NwkCommand.RejoinRequest c) f r q = not_true (rejoin_request_held c r)
misfits_is (NwkCommand.RejoinResponse c) f r q = not_true (rejoin_response_held c r)
misfits_is (NwkCommand.LinkStatus c) f r q = link_status_misfits c f
misfits_is (NwkCommand.NetworkReport c) f r q = network_report_misfits c f r q
misfits_is (NwkCommand.NetworkUpdate c) f r q = network_update_misfits c r
misfits_is (NwkCommand.EndDeviceTimeoutRequest c) f r q = not_true (timeout_request_held c r)
misfits_is (NwkCommand.EndDeviceTimeoutResponse c) f r q = not_true (timeout_response_held c r)
misfits_is (NwkCommand.LinkPowerDelta c) f r q = link_power_delta_misfits c f q
misfits_is (NwkCommand.NetworkCommissioningRequest c) f r q = not_true (commissioning_request_held c r)
misfits_is (NwkCommand.NetworkCommissioningResponse c) f r q = not_true (commissioning_response_held c r)
misfits_is NwkCommand.Unparsed f r q = refl
