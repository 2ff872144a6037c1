-- Each of the fifteen commands: its values have the shape of its format, they mean the command, and the list that they
-- hold is the command's own. The equations are the codes' laws, one for each coded field.
-- Assumes nothing.
use Rattle.std.specs.Prelude.{Option, Some, None}
use mathlib.Core.Path.{◌≡◌, refl, sym, ap, ◌∙◌}
use mathlib.Core.List.{List, [], ◌∷◌, ◌++◌, map}
use Prim.Native.Nat.{ℕ, zero, suc, ◌+◌}
use native.Mathlib.Omega.{arith}
use native.Mathlib.Nat.{not-suc-le-zero}
use lib.ListN.{length, get_or}
use Rattle.octets.specs.Strings.{tab}
use Rattle.octets.proofs.Strings.{length_tab, get_or_tab, tab_ext}
use Rattle.types.specs.Addresses.{no_nwk}
use Rattle.commands.specs.Format.{Field, Values, widths, summed, values}
use Rattle.commands.specs.Commands.{only, route_request_format, route_request_values, route_reply_format, route_reply_values, network_status_values, leave_values, route_record_format, route_record_values, rejoin_request_values, rejoin_response_values, link_status_format, link_status_values, network_report_format, network_report_values, network_update_values, timeout_request_values, timeout_response_values, link_power_delta_format, link_power_delta_values, commissioning_request_values, commissioning_response_values, route_request_by, network_status_by, rejoin_response_by, network_report_by, network_update_by, timeout_request_by, timeout_response_by, link_power_delta_by, commissioning_request_by, commissioning_response_by, capability_of, capability_values, has, address_entry, address_of, firsts, relay_of, relay_entry, link_of, link_entry, no_link, power_of, power_entry, no_power, entries_of, pan_id_of, pan_id_entry, no_pan_id}
use Rattle.commands.specs.Reading.{format_of, command_of, with_lists, list_of, listed, cleared_by}
use Rattle.commands.specs.Writing.{Wire, wire_of}
use Rattle.commands.specs.Writing.Wire.{body, raw}
use Rattle.commands.proofs.Format.{Fit, Shaped}
use Rattle.commands.proofs.Layouts.{formats, meanings, codings, contents, shapes}
use Rattle.commands.proofs.CodeLaws.{many_to_one_back, status_back, association_status_back, report_identifier_back, update_identifier_back, timeout_back, timeout_status_back, power_type_back, commissioning_type_back, is_set_bit, device_type_back, power_source_back}
use Rattle.types.specs.declared.{Nwk.Nwk, PanId.PanId}
use Rattle.commands.specs.declared.{NwkCommandId.NwkCommandId, NwkCommand.NwkCommand, NwkCommandWithLists.NwkCommandWithLists, NwkCommandList.NwkCommandList, NwkRejoinCapabilityInformation.NwkRejoinCapabilityInformation, NwkRouteRequestCommand.NwkRouteRequestCommand, NwkRouteReplyCommand.NwkRouteReplyCommand, NwkLeaveCommand.NwkLeaveCommand, NwkLinkStatusCommand.NwkLinkStatusCommand, NwkNetworkReportCommand.NwkNetworkReportCommand, NwkLinkPowerDeltaCommand.NwkLinkPowerDeltaCommand, NwkLinkStatus.NwkLinkStatus, NwkPowerListEntry.NwkPowerListEntry, NwkNetworkStatusCommand.NwkNetworkStatusCommand, NwkRejoinRequestCommand.NwkRejoinRequestCommand, NwkRejoinResponseCommand.NwkRejoinResponseCommand, NwkNetworkUpdateCommand.NwkNetworkUpdateCommand, NwkEndDeviceTimeoutRequestCommand.NwkEndDeviceTimeoutRequestCommand, NwkNetworkCommissioningRequestCommand.NwkNetworkCommissioningRequestCommand, NwkNetworkCommissioningResponseCommand.NwkNetworkCommissioningResponseCommand, NwkEndDeviceTimeoutResponseCommand.NwkEndDeviceTimeoutResponseCommand}

-- ---- lists

pub map_tab : {A B : Type 0} (f : A → B) (g : ℕ → A) (n : ℕ) → map f (tab g n) ≡ tab (λ (k : ℕ). f (g k)) n
unfolding tab
map_tab f g zero = refl
map_tab f g (suc n) = map-append f (tab g n) (g n ∷ []) ∙ ap (λ (l : List _). l ++ (f (g n) ∷ [])) (map_tab f g n)
  where
    map-append : {A B : Type 0} (f : A → B) (xs ys : List A) → map f (xs ++ ys) ≡ map f xs ++ map f ys
    map-append f [] ys = refl
    map-append f (x ∷ xs) ys = ap (λ (l : List _). f x ∷ l) (map-append f xs ys)

-- no entries
none_shaped : (fs : List Field) → Shaped fs []
none_shaped fs k h = absurd (not-suc-le-zero h)

-- the first n entries of an array: how many they are, their shape, and what they mean
module _ {A : Type 0} (entry : A → List ℕ) (d : A) (xs : List A) (n : ℕ) where
  entries_count : n ≡ length (entries_of entry d xs n)
  entries_count = sym (length_tab (λ (k : ℕ). entry (get_or xs k d)) n)

  pub entries_shaped : (fs : List Field) → ((x : A) → length (entry x) ≡ widths fs) → Shaped fs (entries_of entry d xs n)
  entries_shaped fs h k l =
      ap length (get_or_tab (λ (j : ℕ). entry (get_or xs j d)) n k [] (rw (length_tab (λ (j : ℕ). entry (get_or xs j d)) n) at l)) ∙ h (get_or xs k d)

  entries_mean : (of : List ℕ → A) → ((x : A) → of (entry x) ≡ x) → (head : List ℕ) {v : Values}
      → v ≡ record { head = head; entries = entries_of entry d xs n } → map of v.entries ≡ firsts d xs n
  unfolding firsts
  entries_mean of h head e =
      ap (λ (w : Values). map of w.entries) e ∙ map_tab of (λ (k : ℕ). entry (get_or xs k d)) n
      ∙ tab_ext _ _ n (λ k l. h (get_or xs k d))

-- ---- optional IEEE addresses

address_shaped : (fs : List Field) (a : Option ℕ) → widths fs ≡ 1 → Shaped fs (address_entry a)
address_shaped fs None w k h = absurd (not-suc-le-zero h)
address_shaped fs (Some x) w zero h = sym w
address_shaped fs (Some x) w (suc k) h = absurd (omega arith)

addresses_shaped : (fs : List Field) (a b : Option ℕ) → widths fs ≡ 1 → Shaped fs (address_entry a ++ address_entry b)
addresses_shaped fs None b w k h = address_shaped fs b w k h
addresses_shaped fs (Some x) b w zero h = sym w
addresses_shaped fs (Some x) b w (suc k) h = address_shaped fs b w k (omega arith)

address_count : (a : Option ℕ) → has a ≡ length (address_entry a)
address_count None = refl
address_count (Some x) = refl

addresses_count : (a b : Option ℕ) → has a + has b ≡ length (address_entry a ++ address_entry b)
addresses_count None None = refl
addresses_count None (Some x) = refl
addresses_count (Some x) None = refl
addresses_count (Some x) (Some y) = refl

first_address : (a : Option ℕ) (es : List (List ℕ)) → address_of (has a) (get_or (get_or (address_entry a ++ es) 0 []) 0 0) ≡ a
unfolding address_of
first_address None es = refl
first_address (Some x) es = refl

second_address : (a b : Option ℕ) → address_of (has b) (get_or (get_or (address_entry a ++ address_entry b) (has a) []) 0 0) ≡ b
unfolding address_of
second_address None None = refl
second_address None (Some y) = refl
second_address (Some x) None = refl
second_address (Some x) (Some y) = refl

only_address : (a : Option ℕ) → address_of (has a) (get_or (get_or (address_entry a) 0 []) 0 0) ≡ a
unfolding address_of
only_address None = refl
only_address (Some x) = refl

-- ---- capability information

capability_back : (c : NwkRejoinCapabilityInformation) → capability_of (capability_values c) ≡ c
unfolding capability_of capability_values
capability_back c =
    λ i. record {
      alternate_pan_coordinator = is_set_bit c.alternate_pan_coordinator i;
      device_type = device_type_back c.device_type i;
      power_source = power_source_back c.power_source i;
      receiver_on_when_idle = is_set_bit c.receiver_on_when_idle i;
      reserved1 = is_set_bit c.reserved1 i;
      reserved2 = is_set_bit c.reserved2 i;
      security_capability = is_set_bit c.security_capability i;
      allocate_address = is_set_bit c.allocate_address i;
    }

-- ---- the fifteen

-- what is written of a command means that command, with its list
pub record Back (c : NwkCommand) (f : NwkCommandWithLists) (id : NwkCommandId) (v : Values) : Type 0 where
  pub fit : Fit (format_of id) v
  pub command : command_of id v ≡ Some c
  pub list : (s : List ℕ) → values (format_of id) s ≡ v → listed (list_of c) c s ≡ cleared_by (list_of c) c f

abbrev pub WireBack : NwkCommand → NwkCommandWithLists → Wire → Type 0
WireBack c f (body id v) = Back c f id v
WireBack c f (raw bs) = c ≡ NwkCommand.Unparsed

-- a command without entries: its values are as many as its format has, and mean it
plain_back : {c : NwkCommand} {id : NwkCommandId} (f : NwkCommandWithLists) (hs : List ℕ) → list_of c ≡ NwkCommandList.NoList → (format_of id).counts ≡ []
    → length hs ≡ widths (format_of id).head → command_of id (only hs) ≡ Some c → Back c f id (only hs)
unfolding listed cleared_by summed
plain_back {c} {id} f hs none uncounted whole means =
    record {
      fit = record { head = whole; count = rw uncounted refl; entries = none_shaped (format_of id).entry };
      command = means;
      list = λ s e. rw none refl;
    }

route_request_back : (c : NwkRouteRequestCommand) (f : NwkCommandWithLists)
    → Back (NwkCommand.RouteRequest c) f NwkCommandId.RouteRequest (route_request_values c)
unfolding formats meanings codings contents shapes listed cleared_by
route_request_back c f =
    let a = c.destination_eui64 in
    record {
      fit = record { head = refl; count = address_count a; entries = address_shaped route_request_format.entry a refl };
      command =
          ap (λ k. route_request_by k (route_request_values c)) (many_to_one_back c.many_to_one)
          ∙ (λ i. Some (NwkCommand.RouteRequest (record {
            many_to_one = c.many_to_one;
            route_request_identifier = c.route_request_identifier;
            destination_address = c.destination_address;
            path_cost = c.path_cost;
            destination_eui64 = only_address a i;
          })));
      list = λ s e. refl;
    }

route_reply_back : (c : NwkRouteReplyCommand) (f : NwkCommandWithLists)
    → Back (NwkCommand.RouteReply c) f NwkCommandId.RouteReply (route_reply_values c)
unfolding formats meanings codings contents shapes listed cleared_by
route_reply_back c f =
    let a = c.originator_eui64 in
    let b = c.responder_eui64 in
    record {
      fit = record { head = refl; count = addresses_count a b; entries = addresses_shaped route_reply_format.entry a b refl };
      command =
          λ i. Some (NwkCommand.RouteReply (record {
            route_request_identifier = c.route_request_identifier;
            originator_nwk = c.originator_nwk;
            responder_nwk = c.responder_nwk;
            path_cost = c.path_cost;
            originator_eui64 = first_address a (address_entry b) i;
            responder_eui64 = second_address a b i;
          }));
      list = λ s e. refl;
    }

network_status_back : (c : NwkNetworkStatusCommand) (f : NwkCommandWithLists)
    → Back (NwkCommand.NetworkStatus c) f NwkCommandId.NetworkStatus (network_status_values c)
unfolding formats meanings codings contents shapes
network_status_back c f =
    plain_back f _ refl refl refl
    (ap (λ k. network_status_by k (network_status_values c)) (status_back c.status_code))

leave_back : (c : NwkLeaveCommand) (f : NwkCommandWithLists) → Back (NwkCommand.Leave c) f NwkCommandId.Leave (leave_values c)
unfolding formats meanings codings contents shapes
leave_back c f =
    plain_back f _ refl refl refl
    (λ i. Some (NwkCommand.Leave (record {
      rejoin = is_set_bit c.rejoin i;
      request = is_set_bit c.request i;
      remove_children = is_set_bit c.remove_children i;
    })))

route_record_back : (f : NwkCommandWithLists)
    → Back NwkCommand.RouteRecord f NwkCommandId.RouteRecord (route_record_values f.relays f.relay_count)
unfolding formats meanings codings contents shapes listed cleared_by relay_of relay_entry
route_record_back f =
    let xs = f.relays in
    let n = f.relay_count in
    record {
      fit = record { head = refl; count = entries_count relay_entry no_nwk xs n; entries = entries_shaped relay_entry no_nwk xs n route_record_format.entry (λ x. refl) };
      command = refl;
      list = λ s e. ap (λ (x : List Nwk). with_lists NwkCommand.RouteRecord x [] [] [] []) (entries_mean relay_entry no_nwk xs n relay_of (λ x. refl) _ e);
    }

rejoin_request_back : (c : NwkRejoinRequestCommand) (f : NwkCommandWithLists)
    → Back (NwkCommand.RejoinRequest c) f NwkCommandId.RejoinRequest (rejoin_request_values c)
unfolding formats meanings codings contents shapes capability_values
rejoin_request_back c f =
    plain_back f _ refl refl refl
    (λ i. Some (NwkCommand.RejoinRequest (record { capability_information = capability_back c.capability_information i })))

rejoin_response_back : (c : NwkRejoinResponseCommand) (f : NwkCommandWithLists)
    → Back (NwkCommand.RejoinResponse c) f NwkCommandId.RejoinResponse (rejoin_response_values c)
unfolding formats meanings codings contents shapes
rejoin_response_back c f =
    plain_back f _ refl refl refl
    (ap (λ k. rejoin_response_by k (rejoin_response_values c)) (association_status_back c.rejoin_status))

link_status_back : (c : NwkLinkStatusCommand) (f : NwkCommandWithLists)
    → Back (NwkCommand.LinkStatus c) f NwkCommandId.LinkStatus (link_status_values c f.link_statuses f.link_statuses_len)
unfolding formats meanings codings contents shapes listed cleared_by link_of link_entry
link_status_back c f =
    let xs = f.link_statuses in
    let n = f.link_statuses_len in
    record {
      fit = record { head = refl; count = entries_count link_entry no_link xs n; entries = entries_shaped link_entry no_link xs n link_status_format.entry (λ x. refl) };
      command =
          λ i. Some (NwkCommand.LinkStatus (record {
            is_first_frame = is_set_bit c.is_first_frame i;
            is_last_frame = is_set_bit c.is_last_frame i;
          }));
      list = λ s e. ap (λ (x : List NwkLinkStatus). with_lists (NwkCommand.LinkStatus c) [] x [] [] []) (entries_mean link_entry no_link xs n link_of (λ x. refl) _ e);
    }

network_report_back : (c : NwkNetworkReportCommand) (f : NwkCommandWithLists)
    → Back (NwkCommand.NetworkReport c) f NwkCommandId.NetworkReport (network_report_values c f.pan_ids f.report_information_count)
unfolding formats meanings codings contents shapes listed cleared_by pan_id_of pan_id_entry
network_report_back c f =
    let xs = f.pan_ids in
    let n = f.report_information_count in
    record {
      fit = record { head = refl; count = entries_count pan_id_entry no_pan_id xs n; entries = entries_shaped pan_id_entry no_pan_id xs n network_report_format.entry (λ x. refl) };
      command = ap (λ k. network_report_by k (network_report_values c xs n)) (report_identifier_back c.report_command_identifier);
      list = λ s e. ap (λ (x : List PanId). with_lists (NwkCommand.NetworkReport c) [] [] x [] []) (entries_mean pan_id_entry no_pan_id xs n pan_id_of (λ x. refl) _ e);
    }

network_update_back : (c : NwkNetworkUpdateCommand) (f : NwkCommandWithLists)
    → Back (NwkCommand.NetworkUpdate c) f NwkCommandId.NetworkUpdate (network_update_values c)
unfolding formats meanings codings contents shapes
network_update_back c f =
    plain_back f _ refl refl refl
    (ap (λ k. network_update_by k (network_update_values c)) (update_identifier_back c.update_command_identifier))

timeout_request_back : (c : NwkEndDeviceTimeoutRequestCommand) (f : NwkCommandWithLists)
    → Back (NwkCommand.EndDeviceTimeoutRequest c) f NwkCommandId.EndDeviceTimeoutRequest (timeout_request_values c)
unfolding formats meanings codings contents shapes
timeout_request_back c f =
    plain_back f _ refl refl refl
    (ap (λ k. timeout_request_by k (timeout_request_values c)) (timeout_back c.request_timeout_enum))

timeout_response_back : (c : NwkEndDeviceTimeoutResponseCommand) (f : NwkCommandWithLists)
    → Back (NwkCommand.EndDeviceTimeoutResponse c) f NwkCommandId.EndDeviceTimeoutResponse (timeout_response_values c)
unfolding formats meanings codings contents shapes
timeout_response_back c f =
    plain_back f _ refl refl refl
    (ap (λ k. timeout_response_by k (timeout_response_values c)) (timeout_status_back c.status)
    ∙ (λ i. Some (NwkCommand.EndDeviceTimeoutResponse (record {
      status = c.status;
      mac_data_poll_keepalive_supported = is_set_bit c.mac_data_poll_keepalive_supported i;
      end_device_timeout_request_keepalive_supported = is_set_bit c.end_device_timeout_request_keepalive_supported i;
      power_negotation_support = is_set_bit c.power_negotation_support i;
    }))))

link_power_delta_back : (c : NwkLinkPowerDeltaCommand) (f : NwkCommandWithLists)
    → Back (NwkCommand.LinkPowerDelta c) f NwkCommandId.LinkPowerDelta (link_power_delta_values c f.power_list f.list_count)
unfolding formats meanings codings contents shapes listed cleared_by power_of power_entry
link_power_delta_back c f =
    let xs = f.power_list in
    let n = f.list_count in
    record {
      fit = record { head = refl; count = entries_count power_entry no_power xs n; entries = entries_shaped power_entry no_power xs n link_power_delta_format.entry (λ x. refl) };
      command = ap (λ k. link_power_delta_by k (link_power_delta_values c xs n)) (power_type_back c.command_type);
      list = λ s e. ap (λ (x : List NwkPowerListEntry). with_lists (NwkCommand.LinkPowerDelta c) [] [] [] x []) (entries_mean power_entry no_power xs n power_of (λ x. refl) _ e);
    }

commissioning_request_back : (c : NwkNetworkCommissioningRequestCommand) (f : NwkCommandWithLists)
    → Back (NwkCommand.NetworkCommissioningRequest c) f NwkCommandId.NetworkCommissioningRequest (commissioning_request_values c)
unfolding formats meanings codings contents shapes capability_values
commissioning_request_back c f =
    plain_back f _ refl refl refl
    (ap (λ k. commissioning_request_by k (commissioning_request_values c)) (commissioning_type_back c.commissioning_type)
    ∙ (λ i. Some (NwkCommand.NetworkCommissioningRequest (record {
      commissioning_type = c.commissioning_type;
      capability_information = capability_back c.capability_information i;
    }))))

commissioning_response_back : (c : NwkNetworkCommissioningResponseCommand) (f : NwkCommandWithLists)
    → Back (NwkCommand.NetworkCommissioningResponse c) f NwkCommandId.NetworkCommissioningResponse (commissioning_response_values c)
unfolding formats meanings codings contents shapes
commissioning_response_back c f =
    plain_back f _ refl refl refl
    (ap (λ k. commissioning_response_by k (commissioning_response_values c)) (association_status_back c.status))

pub back : (c : NwkCommand) (f : NwkCommandWithLists) → WireBack c f (wire_of c f)
unfolding wire_of
back (NwkCommand.RouteRequest c) f = route_request_back c f
back (NwkCommand.RouteReply c) f = route_reply_back c f
back (NwkCommand.NetworkStatus c) f = network_status_back c f
back (NwkCommand.Leave c) f = leave_back c f
back NwkCommand.RouteRecord f = route_record_back f
back (NwkCommand.RejoinRequest c) f = rejoin_request_back c f
back (NwkCommand.RejoinResponse c) f = rejoin_response_back c f
back (NwkCommand.LinkStatus c) f = link_status_back c f
back (NwkCommand.NetworkReport c) f = network_report_back c f
back (NwkCommand.NetworkUpdate c) f = network_update_back c f
back (NwkCommand.EndDeviceTimeoutRequest c) f = timeout_request_back c f
back (NwkCommand.EndDeviceTimeoutResponse c) f = timeout_response_back c f
back (NwkCommand.LinkPowerDelta c) f = link_power_delta_back c f
back (NwkCommand.NetworkCommissioningRequest c) f = commissioning_request_back c f
back (NwkCommand.NetworkCommissioningResponse c) f = commissioning_response_back c f
back NwkCommand.Unparsed f = refl
