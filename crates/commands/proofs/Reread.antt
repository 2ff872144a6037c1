-- What reading gives can be written: the numbers of a command that was read are within their types, its list within its
-- places, and the places past its count are 0 already. Each number is a byte or a number of n bytes of the input.
-- Assumes nothing.
use Rattle.std.specs.Prelude.{Some, None, Option}
use mathlib.Core.Path.{◌≡◌, refl, ap, ◌∙◌}
use mathlib.Core.Bool.{Bool, true, false, not, ◌||◌}
use mathlib.Core.List.{List, [], map}
use Prim.Native.Nat.{ℕ, ◌+◌, ◌*◌, ◌%◌, ◌^◌, ◌≤◌, ◌<◌}
use native.Mathlib.Nat.{mod-lt}
use native.Mathlib.Decide.{dec_lt}
use native.Mathlib.Omega.{arith}
use borrow.Author.Tests.{le-ltb}
use lib.Dec.{ltb, eqb}
use lib.ListN.{length, get_or, drop, replicate, length-map, get_or-append, get_or-eq_default}
use lib.Seq.{take_all}
use Rattle.octets.specs.Strings.{tab, Below}
use Rattle.octets.proofs.Strings.{length_tab, get_or_tab, tab_ext, tab_get_or}
use Rattle.octets.proofs.Numbers.{le_at_lt}
use Rattle.types.specs.Addresses.{no_nwk}
use Rattle.commands.specs.Format.{Format, size, sizes, read_fields, head_end, announced, body_end, values, held_entries, held_fields, held_values}
use Rattle.commands.specs.Commands.{route_request_format, route_reply_format, route_reply_of, network_status_format, leave_format, leave_of, route_record_format, route_record_of, rejoin_request_format, rejoin_request_of, rejoin_response_format, link_status_format, link_status_of, network_report_format, network_update_format, timeout_request_format, timeout_response_format, link_power_delta_format, commissioning_request_format, commissioning_response_format, route_request_by, network_status_by, rejoin_response_by, network_report_by, network_update_by, timeout_request_by, timeout_response_by, link_power_delta_by, commissioning_request_by, commissioning_response_by, address_of, firsts, relay_of, link_of, link_entry, link_entries, no_link, pan_id_of, no_pan_id, power_of, no_power}
use Rattle.commands.specs.Reading.{format_of, command_of, places, with_lists, list_of, listed, cleared_by}
use Rattle.commands.proofs.Format.{values_held, length_entries, second}
use Rattle.commands.proofs.Layouts.{formats, meanings, codings, readings}
use Rattle.commands.proofs.Commands.{map_tab}
use Rattle.commands.proofs.Ranges.{InAddress, InPower, Ranged, RangedList, too_big}
use Rattle.commands.proofs.Lengths.{Typed}
use Rattle.types.specs.declared.{Nwk.Nwk, PanId.PanId}
use Rattle.commands.specs.declared.{NwkCommandId.NwkCommandId, NwkCommand.NwkCommand, NwkCommandList.NwkCommandList, NwkLinkStatus.NwkLinkStatus, NwkPowerListEntry.NwkPowerListEntry, NwkRouteRequestManyToOne.NwkRouteRequestManyToOne, NwkNetworkStatus.NwkNetworkStatus, Nwk802154AssociationStatus.Nwk802154AssociationStatus, NwkReportCommandIdentifier.NwkReportCommandIdentifier, NwkUpdateCommandIdentifier.NwkUpdateCommandIdentifier, EndDeviceTimeout.EndDeviceTimeout, NwkEndDeviceTimeoutResponseStatus.NwkEndDeviceTimeoutResponseStatus, NwkLinkPowerDeltaType.NwkLinkPowerDeltaType, NwkCommissioningType.NwkCommissioningType}

-- ---- the places of an array

pub get_or_places : {A : Type 0} (d : A) (m : ℕ) (xs : List A) (k : ℕ) → k < length xs → get_or (places d m xs) k d ≡ get_or xs k d
unfolding places
get_or_places d m xs k h = get_or-append xs (drop (length xs) (replicate m d)) d k h

pub firsts_places : {A : Type 0} (d : A) (m : ℕ) (xs : List A) → firsts d (places d m xs) (length xs) ≡ xs
unfolding firsts
firsts_places d m xs =
    tab_ext _ (λ (k : ℕ). get_or xs k d) (length xs) (get_or_places d m xs)
    ∙ tab_get_or xs d (length xs) (omega arith) ∙ take_all (length xs) xs (omega arith)

-- an entry that was read
pub entry_read : {A : Type 0} (of : List ℕ → A) (g : ℕ → List ℕ) (n : ℕ) (d : A) (m k : ℕ) → k < length (map of (tab g n))
    → get_or (places d m (map of (tab g n))) k d ≡ of (g k)
entry_read of g n d m k h =
    get_or_places d m (map of (tab g n)) k h ∙ ap (λ (l : List _). get_or l k d) (map_tab of g n)
    ∙ get_or_tab (λ (j : ℕ). of (g j)) n k d (rw (length-map (tab g n) of, length_tab g n) at h)

-- as many as the head announces
pub length_read : {A : Type 0} (of : List ℕ → A) (f : Format) (s : List ℕ) → length (map of (values f s).entries) ≡ announced f s
length_read of f s = length-map (values f s).entries of ∙ length_entries f s

-- what was read is cleared already
pub cleared_read : (k : NwkCommandList) (c : NwkCommand) (s : List ℕ) → cleared_by k c (listed k c s) ≡ listed k c s
unfolding cleared_by listed with_lists firsts tab
cleared_read NwkCommandList.NoList c s = refl
cleared_read NwkCommandList.Relays c s =
    ap (λ (x : List Nwk). with_lists c x [] [] [] []) (firsts_places no_nwk 53 (map relay_of (values route_record_format s).entries))
cleared_read NwkCommandList.LinkStatuses c s =
    ap (λ (x : List NwkLinkStatus). with_lists c [] x [] [] []) (firsts_places no_link 31 (map link_of (values link_status_format s).entries))
cleared_read NwkCommandList.PanIds c s =
    ap (λ (x : List PanId). with_lists c [] [] x [] []) (firsts_places no_pan_id 31 (map pan_id_of (values network_report_format s).entries))
cleared_read NwkCommandList.PowerList c s =
    ap (λ (x : List NwkPowerListEntry). with_lists c [] [] [] x []) (firsts_places no_power 35 (map power_of (values link_power_delta_format s).entries))
cleared_read NwkCommandList.Bytes c s = refl

-- ---- the lists

-- the values of entry k of a format
abbrev pub entry_at : Format → List ℕ → ℕ → List ℕ
entry_at f s k = read_fields f.entry s (head_end f + k * sizes f.entry)

relay_read : (s : List ℕ) (k : ℕ) → Below 256 s → (relay_of (entry_at route_record_format s k)).0 < 65536
unfolding readings relay_of
relay_read s k b = le_at_lt 2 s _ b

pan_id_read : (s : List ℕ) (k : ℕ) → Below 256 s → (pan_id_of (entry_at network_report_format s k)).0 < 65536
unfolding readings pan_id_of
pan_id_read s k b = le_at_lt 2 s _ b

power_read : (s : List ℕ) (k : ℕ) → Below 256 s → InPower (power_of (entry_at link_power_delta_format s k))
unfolding readings power_of
power_read s k b = (le_at_lt 2 s _ b, b _)

few_relays : (s : List ℕ) → body_end route_record_format s ≤ length s → length s ≤ 108 → announced route_record_format s ≤ 53
unfolding body_end head_end route_record_format size sizes
few_relays s w h = omega arith

few_powers : (s : List ℕ) → body_end link_power_delta_format s ≤ length s → length s ≤ 108 → announced link_power_delta_format s ≤ 35
unfolding body_end head_end link_power_delta_format size sizes
few_powers s w h = omega arith

-- a count of five bits
few_links : (s : List ℕ) → announced link_status_format s ≤ 31
unfolding readings
few_links s = let h : get_or s 1 0 % 32 < 32 = mod-lt (get_or s 1 0) (omega arith) in omega arith

few_pan_ids : (s : List ℕ) → announced network_report_format s ≤ 31
unfolding readings
few_pan_ids s = let h : get_or s 1 0 % 32 < 32 = mod-lt (get_or s 1 0) (omega arith) in omega arith

-- a link status entry keeps its three values
link_same : (s : List ℕ) (k : ℕ) → link_entry (link_of (entry_at link_status_format s k)) ≡ entry_at link_status_format s k
unfolding readings link_entry link_of
link_same s k = refl

-- the list is within its places and its entries within their types
abbrev pub Good : NwkCommandList → NwkCommand → List ℕ → Type 0
Good k c s = RangedList k (listed k c s) × (too_big k c (listed k c s) ≡ false)

relays_read : (c : NwkCommand) (s : List ℕ) → Below 256 s → length s ≤ 108 → body_end route_record_format s ≤ length s → Good NwkCommandList.Relays c s
unfolding listed with_lists values too_big
relays_read c s b short whole = (
  (λ k h. rw (entry_read relay_of (entry_at route_record_format s) (announced route_record_format s) no_nwk 53 k h) (relay_read s k b)),
  rw (length_read relay_of route_record_format s) (le-ltb 53 _ (few_relays s whole short)),
)

pan_ids_read : (c : NwkCommand) (s : List ℕ) → Below 256 s → Good NwkCommandList.PanIds c s
unfolding listed with_lists values too_big
pan_ids_read c s b = (
  (λ k h. rw (entry_read pan_id_of (entry_at network_report_format s) (announced network_report_format s) no_pan_id 31 k h) (pan_id_read s k b)),
  rw (length_read pan_id_of network_report_format s) (le-ltb 31 _ (few_pan_ids s)),
)

powers_read : (c : NwkCommand) (s : List ℕ) → Below 256 s → length s ≤ 108 → body_end link_power_delta_format s ≤ length s → Good NwkCommandList.PowerList c s
unfolding listed with_lists values too_big
powers_read c s b short whole = (
  (λ k h. rw (entry_read power_of (entry_at link_power_delta_format s) (announced link_power_delta_format s) no_power 35 k h) (power_read s k b)),
  rw (length_read power_of link_power_delta_format s) (le-ltb 35 _ (few_powers s whole short)),
)

-- the entries to write are those that were read
links_same : (c : NwkCommand) (s : List ℕ) → let f = listed NwkCommandList.LinkStatuses c s in
    link_entries f.link_statuses f.link_statuses_len ≡ (values link_status_format s).entries
unfolding listed with_lists values
links_same c s =
    tab_ext _ (entry_at link_status_format s) (length (map link_of (tab (entry_at link_status_format s) (announced link_status_format s))))
    (λ k h. ap link_entry (entry_read link_of (entry_at link_status_format s) (announced link_status_format s) no_link 31 k h) ∙ link_same s k)
    ∙ ap (tab (entry_at link_status_format s)) (length_read link_of link_status_format s)

held_entries_lem : (f : Format) (s : List ℕ) → Below 256 s → held_entries f.entry (values f s).entries ≡ true
unfolding held_values
held_entries_lem f s b = second (held_fields f.head (values f s).head) _ (values_held f s b)

links_few : (c : NwkCommand) (s : List ℕ) → ltb 31 (listed NwkCommandList.LinkStatuses c s).link_statuses_len ≡ false
unfolding listed with_lists
links_few c s = rw (length_read link_of link_status_format s) (le-ltb 31 _ (few_links s))

links_read : (c : NwkCommand) (s : List ℕ) → Below 256 s → Good NwkCommandList.LinkStatuses c s
unfolding too_big
links_read c s b = (
  tt,
  rw (links_same c s, held_entries_lem link_status_format s b)
      (or-none (links_few c s)),
)
  where
    or-none : {a : Bool} → a ≡ false → (a || not true) ≡ false
    or-none {a} e = ap (λ (x : Bool). x || false) e

-- ---- the fifteen

small : {n : ℕ} → n < 32 → n ≤ 31
small h = omega arith

address_of_in : (h x : ℕ) → x < 2 ^ 64 → InAddress (address_of h x)
unfolding address_of
address_of_in h x l = by_bit (eqb h 1)
  where
    by_bit : (t : Bool) → InAddress (mathlib.Core.Bool.cond t (Some x) None)
    by_bit true = l
    by_bit false = tt

-- an address of an entry, or 0
there : (f : Format) (s : List ℕ) (k : ℕ) → Below 256 s → f.entry ≡ route_request_format.entry → k < announced f s
    → get_or (get_or (values f s).entries k []) 0 0 < 2 ^ 64
unfolding readings
there f s k b e l = rw (get_or_tab (entry_at f s) (announced f s) k [] l, e) (le_at_lt 8 s _ b)

past : (f : Format) (s : List ℕ) (k : ℕ) → announced f s ≤ k → get_or (get_or (values f s).entries k []) 0 0 < 2 ^ 64
unfolding values
past f s k h = rw (get_or-eq_default (tab (entry_at f s) (announced f s)) [] {n = k} (rw (length_tab (entry_at f s) (announced f s)) h)) (omega arith)

address_read : (f : Format) (s : List ℕ) (k : ℕ) → Below 256 s → f.entry ≡ route_request_format.entry → get_or (get_or (values f s).entries k []) 0 0 < 2 ^ 64
address_read f s k b e = elim (dec_lt k (announced f s)) [ yes l ↦ there f s k b e l | no l ↦ past f s k (omega arith) ]

-- what reading a command owes writing it
abbrev pub Writable : List ℕ → Option NwkCommand → Type 0
Writable s (Some c) = Typed (list_of c) × Ranged c × Good (list_of c) c s
Writable s None = Unit {0}

route_request_writable : (k : Option NwkRouteRequestManyToOne) (s : List ℕ) → Below 256 s → Writable s (route_request_by k (values route_request_format s))
unfolding meanings codings readings too_big
route_request_writable (Some k) s b = (tt, (b 2, le_at_lt 2 s 3 b, b 5, address_of_in _ _ (address_read route_request_format s 0 b refl)), (tt, refl))
route_request_writable None s b = tt

route_reply_writable : (s : List ℕ) → Below 256 s → Writable s (route_reply_of (values route_reply_format s))
unfolding meanings codings readings too_big
route_reply_writable s b =
    let first = address_of_in _ _ (address_read route_reply_format s 0 b refl) in
    (tt, (b 2, le_at_lt 2 s 3 b, le_at_lt 2 s 5 b, b 7, first, address_of_in _ _ (address_read route_reply_format s _ b refl)), (tt, refl))

network_status_writable : (k : Option NwkNetworkStatus) (s : List ℕ) → Below 256 s → Writable s (network_status_by k (values network_status_format s))
unfolding meanings codings readings too_big
network_status_writable (Some k) s b = (tt, le_at_lt 2 s 2 b, (tt, refl))
network_status_writable None s b = tt

leave_writable : (s : List ℕ) → Below 256 s → Writable s (leave_of (values leave_format s))
unfolding meanings codings readings too_big
leave_writable s b = (tt, tt, (tt, refl))

route_record_writable : (s : List ℕ) → Below 256 s → length s ≤ 108 → body_end route_record_format s ≤ length s → Writable s (route_record_of (values route_record_format s))
unfolding meanings codings readings
route_record_writable s b short whole = (tt, tt, relays_read _ s b short whole)

rejoin_request_writable : (s : List ℕ) → Below 256 s → Writable s (rejoin_request_of (values rejoin_request_format s))
unfolding meanings codings readings too_big
rejoin_request_writable s b = (tt, tt, (tt, refl))

rejoin_response_writable : (k : Option Nwk802154AssociationStatus) (s : List ℕ) → Below 256 s → Writable s (rejoin_response_by k (values rejoin_response_format s))
unfolding meanings codings readings too_big
rejoin_response_writable (Some k) s b = (tt, le_at_lt 2 s 1 b, (tt, refl))
rejoin_response_writable None s b = tt

link_status_writable : (s : List ℕ) → Below 256 s → Writable s (link_status_of (values link_status_format s))
unfolding meanings codings readings
link_status_writable s b = (tt, tt, links_read _ s b)

network_report_writable : (k : Option NwkReportCommandIdentifier) (s : List ℕ) → Below 256 s → Writable s (network_report_by k (values network_report_format s))
unfolding meanings codings readings
network_report_writable (Some k) s b = (tt, le_at_lt 8 s 2 b, pan_ids_read _ s b)
network_report_writable None s b = tt

network_update_writable : (k : Option NwkUpdateCommandIdentifier) (s : List ℕ) → Below 256 s → Writable s (network_update_by k (values network_update_format s))
unfolding meanings codings readings too_big
network_update_writable (Some k) s b =
    (tt, (le_at_lt 8 s 2 b, b 10, le_at_lt 2 s 11 b), (tt, le-ltb 31 (get_or s 1 0 % 32) (small (mod-lt (get_or s 1 0) (omega arith)))))
network_update_writable None s b = tt

timeout_request_writable : (k : Option EndDeviceTimeout) (s : List ℕ) → Below 256 s → Writable s (timeout_request_by k (values timeout_request_format s))
unfolding meanings codings readings too_big
timeout_request_writable (Some k) s b = (tt, b 2, (tt, refl))
timeout_request_writable None s b = tt

timeout_response_writable : (k : Option NwkEndDeviceTimeoutResponseStatus) (s : List ℕ) → Below 256 s → Writable s (timeout_response_by k (values timeout_response_format s))
unfolding meanings codings readings too_big
timeout_response_writable (Some k) s b = (tt, tt, (tt, refl))
timeout_response_writable None s b = tt

link_power_delta_writable : (k : Option NwkLinkPowerDeltaType) (s : List ℕ) → Below 256 s → length s ≤ 108
    → body_end link_power_delta_format s ≤ length s → Writable s (link_power_delta_by k (values link_power_delta_format s))
unfolding meanings codings readings
link_power_delta_writable (Some k) s b short whole = (tt, tt, powers_read _ s b short whole)
link_power_delta_writable None s b short whole = tt

commissioning_request_writable : (k : Option NwkCommissioningType) (s : List ℕ) → Below 256 s → Writable s (commissioning_request_by k (values commissioning_request_format s))
unfolding meanings codings readings too_big
commissioning_request_writable (Some k) s b = (tt, tt, (tt, refl))
commissioning_request_writable None s b = tt

commissioning_response_writable : (k : Option Nwk802154AssociationStatus) (s : List ℕ) → Below 256 s → Writable s (commissioning_response_by k (values commissioning_response_format s))
unfolding meanings codings readings too_big
commissioning_response_writable (Some k) s b = (tt, le_at_lt 2 s 1 b, (tt, refl))
commissioning_response_writable None s b = tt

pub writable : (id : NwkCommandId) (s : List ℕ) → Below 256 s → length s ≤ 108 → body_end (format_of id) s ≤ length s
    → Writable s (command_of id (values (format_of id) s))
unfolding formats meanings
writable NwkCommandId.RouteRequest s b short whole = route_request_writable _ s b
writable NwkCommandId.RouteReply s b short whole = route_reply_writable s b
writable NwkCommandId.NetworkStatus s b short whole = network_status_writable _ s b
writable NwkCommandId.Leave s b short whole = leave_writable s b
writable NwkCommandId.RouteRecord s b short whole = route_record_writable s b short whole
writable NwkCommandId.RejoinRequest s b short whole = rejoin_request_writable s b
writable NwkCommandId.RejoinResponse s b short whole = rejoin_response_writable _ s b
writable NwkCommandId.LinkStatus s b short whole = link_status_writable s b
writable NwkCommandId.NetworkReport s b short whole = network_report_writable _ s b
writable NwkCommandId.NetworkUpdate s b short whole = network_update_writable _ s b
writable NwkCommandId.EndDeviceTimeoutRequest s b short whole = timeout_request_writable _ s b
writable NwkCommandId.EndDeviceTimeoutResponse s b short whole = timeout_response_writable _ s b
writable NwkCommandId.LinkPowerDelta s b short whole = link_power_delta_writable _ s b short whole
writable NwkCommandId.NetworkCommissioningRequest s b short whole = commissioning_request_writable _ s b
writable NwkCommandId.NetworkCommissioningResponse s b short whole = commissioning_response_writable _ s b
