-- Laws of the codes: a value's number means that value, and fits its field; a timeout code is known up to 14, and then
-- its seconds are those of its number. Value by value, the timeouts by one computed test.
-- Assumes nothing.
use Rattle.std.specs.Prelude.{Some, Option, None}
use mathlib.Core.Path.{◌≡◌, refl, ap, ◌∙◌}
use mathlib.Core.Bool.{Bool, true, false, ◌&&◌}
use Prim.Native.Nat.{ℕ, zero, suc, ◌≤◌, ◌<◌}
use native.Mathlib.Decide.{dec_lt}
use native.Mathlib.Omega.{arith}
use borrow.Author.Tests.{lt-ltb, le-ltb, eqb-true}
use lib.Dec.{eqb, lit<}
use lib.ListN.{get_or}
use Rattle.octets.specs.Fields.{bit}
use Rattle.commands.specs.Codes.{command_id_code, command_id_of, command_ids, many_to_one_code, many_to_one_of, many_to_ones, status_code, status_of, statuses, association_status_code, association_status_of, association_statuses, report_identifier_code, report_identifier_of, update_identifier_code, update_identifier_of, timeout_code, timeout_of, timeouts, timeout_status_code, timeout_status_of, timeout_statuses, power_type_code, power_type_of, power_types, commissioning_type_code, commissioning_type_of, commissioning_types, is_set, device_type_bit, device_type_of, power_source_bit, power_source_of}
use Rattle.commands.specs.Writing.{EndDeviceTimeoutSeconds, seconds, timeout_seconds}
use Rattle.commands.proofs.Format.{first, second}
use Rattle.commands.specs.declared.{NwkCommandId.NwkCommandId, NwkRouteRequestManyToOne.NwkRouteRequestManyToOne, NwkNetworkStatus.NwkNetworkStatus, Nwk802154AssociationStatus.Nwk802154AssociationStatus, NwkReportCommandIdentifier.NwkReportCommandIdentifier, NwkUpdateCommandIdentifier.NwkUpdateCommandIdentifier, EndDeviceTimeout.EndDeviceTimeout, NwkEndDeviceTimeoutResponseStatus.NwkEndDeviceTimeoutResponseStatus, NwkLinkPowerDeltaType.NwkLinkPowerDeltaType, NwkCommissioningType.NwkCommissioningType, NwkRejoinCapabilityInformationDeviceType.NwkRejoinCapabilityInformationDeviceType, NwkRejoinCapabilityInformationPowerSource.NwkRejoinCapabilityInformationPowerSource}

-- ---- NwkCommandId

pub command_id_back : (k : NwkCommandId) → command_id_of (command_id_code k) ≡ Some k
unfolding command_id_of command_ids
command_id_back NwkCommandId.RouteRequest = refl
command_id_back NwkCommandId.RouteReply = refl
command_id_back NwkCommandId.NetworkStatus = refl
command_id_back NwkCommandId.Leave = refl
command_id_back NwkCommandId.RouteRecord = refl
command_id_back NwkCommandId.RejoinRequest = refl
command_id_back NwkCommandId.RejoinResponse = refl
command_id_back NwkCommandId.LinkStatus = refl
command_id_back NwkCommandId.NetworkReport = refl
command_id_back NwkCommandId.NetworkUpdate = refl
command_id_back NwkCommandId.EndDeviceTimeoutRequest = refl
command_id_back NwkCommandId.EndDeviceTimeoutResponse = refl
command_id_back NwkCommandId.LinkPowerDelta = refl
command_id_back NwkCommandId.NetworkCommissioningRequest = refl
command_id_back NwkCommandId.NetworkCommissioningResponse = refl

-- ---- NwkRouteRequestManyToOne

pub many_to_one_back : (k : NwkRouteRequestManyToOne) → many_to_one_of (many_to_one_code k) ≡ Some k
unfolding many_to_one_of many_to_ones
many_to_one_back NwkRouteRequestManyToOne.NotManyToOne = refl
many_to_one_back NwkRouteRequestManyToOne.ManyToOneSenderSupportsRouteRecordTable = refl
many_to_one_back NwkRouteRequestManyToOne.ManyToOneSenderDoesntSupportRouteRecordTable = refl
many_to_one_back NwkRouteRequestManyToOne.Reserved = refl

pub many_to_one_lt : (k : NwkRouteRequestManyToOne) → many_to_one_code k < 4
many_to_one_lt NwkRouteRequestManyToOne.NotManyToOne = lit< tt
many_to_one_lt NwkRouteRequestManyToOne.ManyToOneSenderSupportsRouteRecordTable = lit< tt
many_to_one_lt NwkRouteRequestManyToOne.ManyToOneSenderDoesntSupportRouteRecordTable = lit< tt
many_to_one_lt NwkRouteRequestManyToOne.Reserved = lit< tt

-- ---- NwkNetworkStatus

pub status_back : (k : NwkNetworkStatus) → status_of (status_code k) ≡ Some k
unfolding status_of statuses
status_back NwkNetworkStatus.LegacyNoRouteAvailable = refl
status_back NwkNetworkStatus.LegacyLinkFailure = refl
status_back NwkNetworkStatus.LinkFailure = refl
status_back NwkNetworkStatus.LowBatteryLevel = refl
status_back NwkNetworkStatus.NoRoutingCapacity = refl
status_back NwkNetworkStatus.NoIndirectCapacity = refl
status_back NwkNetworkStatus.IndirectTransactionExpiry = refl
status_back NwkNetworkStatus.TargetDeviceUnavailable = refl
status_back NwkNetworkStatus.TargetAddressUnallocated = refl
status_back NwkNetworkStatus.ParentLinkFailure = refl
status_back NwkNetworkStatus.ValidateRoute = refl
status_back NwkNetworkStatus.SourceRouteFailure = refl
status_back NwkNetworkStatus.ManyToOneRouteFailure = refl
status_back NwkNetworkStatus.AddressConflict = refl
status_back NwkNetworkStatus.VerifyAddresses = refl
status_back NwkNetworkStatus.PanIdentifierUpdate = refl
status_back NwkNetworkStatus.NetworkAddressUpdate = refl
status_back NwkNetworkStatus.BadFrameCounter = refl
status_back NwkNetworkStatus.BadKeySequenceNumber = refl
status_back NwkNetworkStatus.UnknownCommand = refl
status_back NwkNetworkStatus.PanIdConflictReport = refl

pub status_lt : (k : NwkNetworkStatus) → status_code k < 256
status_lt NwkNetworkStatus.LegacyNoRouteAvailable = lit< tt
status_lt NwkNetworkStatus.LegacyLinkFailure = lit< tt
status_lt NwkNetworkStatus.LinkFailure = lit< tt
status_lt NwkNetworkStatus.LowBatteryLevel = lit< tt
status_lt NwkNetworkStatus.NoRoutingCapacity = lit< tt
status_lt NwkNetworkStatus.NoIndirectCapacity = lit< tt
status_lt NwkNetworkStatus.IndirectTransactionExpiry = lit< tt
status_lt NwkNetworkStatus.TargetDeviceUnavailable = lit< tt
status_lt NwkNetworkStatus.TargetAddressUnallocated = lit< tt
status_lt NwkNetworkStatus.ParentLinkFailure = lit< tt
status_lt NwkNetworkStatus.ValidateRoute = lit< tt
status_lt NwkNetworkStatus.SourceRouteFailure = lit< tt
status_lt NwkNetworkStatus.ManyToOneRouteFailure = lit< tt
status_lt NwkNetworkStatus.AddressConflict = lit< tt
status_lt NwkNetworkStatus.VerifyAddresses = lit< tt
status_lt NwkNetworkStatus.PanIdentifierUpdate = lit< tt
status_lt NwkNetworkStatus.NetworkAddressUpdate = lit< tt
status_lt NwkNetworkStatus.BadFrameCounter = lit< tt
status_lt NwkNetworkStatus.BadKeySequenceNumber = lit< tt
status_lt NwkNetworkStatus.UnknownCommand = lit< tt
status_lt NwkNetworkStatus.PanIdConflictReport = lit< tt

-- ---- Nwk802154AssociationStatus

pub association_status_back : (k : Nwk802154AssociationStatus) → association_status_of (association_status_code k) ≡ Some k
unfolding association_status_of association_statuses
association_status_back Nwk802154AssociationStatus.AssociationSuccessful = refl
association_status_back Nwk802154AssociationStatus.PanAtCapacity = refl
association_status_back Nwk802154AssociationStatus.PanAccessDenied = refl
association_status_back Nwk802154AssociationStatus.HoppingSequenceOffsetDuplication = refl
association_status_back Nwk802154AssociationStatus.FastAssociationSuccessful = refl
association_status_back Nwk802154AssociationStatus.ZigbeeAddressConflict = refl

pub association_status_lt : (k : Nwk802154AssociationStatus) → association_status_code k < 256
association_status_lt Nwk802154AssociationStatus.AssociationSuccessful = lit< tt
association_status_lt Nwk802154AssociationStatus.PanAtCapacity = lit< tt
association_status_lt Nwk802154AssociationStatus.PanAccessDenied = lit< tt
association_status_lt Nwk802154AssociationStatus.HoppingSequenceOffsetDuplication = lit< tt
association_status_lt Nwk802154AssociationStatus.FastAssociationSuccessful = lit< tt
association_status_lt Nwk802154AssociationStatus.ZigbeeAddressConflict = lit< tt

-- ---- NwkReportCommandIdentifier

pub report_identifier_back : (k : NwkReportCommandIdentifier) → report_identifier_of (report_identifier_code k) ≡ Some k
unfolding report_identifier_of
report_identifier_back NwkReportCommandIdentifier.PanIdentifierConflict = refl

pub report_identifier_lt : (k : NwkReportCommandIdentifier) → report_identifier_code k < 8
report_identifier_lt NwkReportCommandIdentifier.PanIdentifierConflict = lit< tt

-- ---- NwkUpdateCommandIdentifier

pub update_identifier_back : (k : NwkUpdateCommandIdentifier) → update_identifier_of (update_identifier_code k) ≡ Some k
unfolding update_identifier_of
update_identifier_back NwkUpdateCommandIdentifier.PanIdentifierUpdate = refl

pub update_identifier_lt : (k : NwkUpdateCommandIdentifier) → update_identifier_code k < 8
update_identifier_lt NwkUpdateCommandIdentifier.PanIdentifierUpdate = lit< tt

-- ---- EndDeviceTimeout

pub timeout_back : (k : EndDeviceTimeout) → timeout_of (timeout_code k) ≡ Some k
unfolding timeout_of timeouts
timeout_back EndDeviceTimeout.Seconds10 = refl
timeout_back EndDeviceTimeout.Minutes2 = refl
timeout_back EndDeviceTimeout.Minutes4 = refl
timeout_back EndDeviceTimeout.Minutes8 = refl
timeout_back EndDeviceTimeout.Minutes16 = refl
timeout_back EndDeviceTimeout.Minutes32 = refl
timeout_back EndDeviceTimeout.Minutes64 = refl
timeout_back EndDeviceTimeout.Minutes128 = refl
timeout_back EndDeviceTimeout.Minutes256 = refl
timeout_back EndDeviceTimeout.Minutes512 = refl
timeout_back EndDeviceTimeout.Minutes1024 = refl
timeout_back EndDeviceTimeout.Minutes2048 = refl
timeout_back EndDeviceTimeout.Minutes4096 = refl
timeout_back EndDeviceTimeout.Minutes8192 = refl
timeout_back EndDeviceTimeout.Minutes16384 = refl

pub timeout_lt : (k : EndDeviceTimeout) → timeout_code k < 256
timeout_lt EndDeviceTimeout.Seconds10 = lit< tt
timeout_lt EndDeviceTimeout.Minutes2 = lit< tt
timeout_lt EndDeviceTimeout.Minutes4 = lit< tt
timeout_lt EndDeviceTimeout.Minutes8 = lit< tt
timeout_lt EndDeviceTimeout.Minutes16 = lit< tt
timeout_lt EndDeviceTimeout.Minutes32 = lit< tt
timeout_lt EndDeviceTimeout.Minutes64 = lit< tt
timeout_lt EndDeviceTimeout.Minutes128 = lit< tt
timeout_lt EndDeviceTimeout.Minutes256 = lit< tt
timeout_lt EndDeviceTimeout.Minutes512 = lit< tt
timeout_lt EndDeviceTimeout.Minutes1024 = lit< tt
timeout_lt EndDeviceTimeout.Minutes2048 = lit< tt
timeout_lt EndDeviceTimeout.Minutes4096 = lit< tt
timeout_lt EndDeviceTimeout.Minutes8192 = lit< tt
timeout_lt EndDeviceTimeout.Minutes16384 = lit< tt

-- ---- NwkEndDeviceTimeoutResponseStatus

pub timeout_status_back : (k : NwkEndDeviceTimeoutResponseStatus) → timeout_status_of (timeout_status_code k) ≡ Some k
unfolding timeout_status_of timeout_statuses
timeout_status_back NwkEndDeviceTimeoutResponseStatus.Success = refl
timeout_status_back NwkEndDeviceTimeoutResponseStatus.IncorrectValue = refl
timeout_status_back NwkEndDeviceTimeoutResponseStatus.UnsupportedFeature = refl

pub timeout_status_lt : (k : NwkEndDeviceTimeoutResponseStatus) → timeout_status_code k < 256
timeout_status_lt NwkEndDeviceTimeoutResponseStatus.Success = lit< tt
timeout_status_lt NwkEndDeviceTimeoutResponseStatus.IncorrectValue = lit< tt
timeout_status_lt NwkEndDeviceTimeoutResponseStatus.UnsupportedFeature = lit< tt

-- ---- NwkLinkPowerDeltaType

pub power_type_back : (k : NwkLinkPowerDeltaType) → power_type_of (power_type_code k) ≡ Some k
unfolding power_type_of power_types
power_type_back NwkLinkPowerDeltaType.Notification = refl
power_type_back NwkLinkPowerDeltaType.Request = refl
power_type_back NwkLinkPowerDeltaType.Response = refl

pub power_type_lt : (k : NwkLinkPowerDeltaType) → power_type_code k < 4
power_type_lt NwkLinkPowerDeltaType.Notification = lit< tt
power_type_lt NwkLinkPowerDeltaType.Request = lit< tt
power_type_lt NwkLinkPowerDeltaType.Response = lit< tt

-- ---- NwkCommissioningType

pub commissioning_type_back : (k : NwkCommissioningType) → commissioning_type_of (commissioning_type_code k) ≡ Some k
unfolding commissioning_type_of commissioning_types
commissioning_type_back NwkCommissioningType.InitialJoin = refl
commissioning_type_back NwkCommissioningType.Rejoin = refl

pub commissioning_type_lt : (k : NwkCommissioningType) → commissioning_type_code k < 256
commissioning_type_lt NwkCommissioningType.InitialJoin = lit< tt
commissioning_type_lt NwkCommissioningType.Rejoin = lit< tt

-- ---- bits

pub is_set_bit : (b : Bool) → is_set (bit b) ≡ b
is_set_bit true = refl
is_set_bit false = refl

pub bit_lt : (b : Bool) → bit b < 2
bit_lt true = lit< tt
bit_lt false = lit< tt

pub device_type_back : (d : NwkRejoinCapabilityInformationDeviceType) → device_type_of (is_set (bit (device_type_bit d))) ≡ d
device_type_back NwkRejoinCapabilityInformationDeviceType.EndDevice = refl
device_type_back NwkRejoinCapabilityInformationDeviceType.Router = refl

pub power_source_back : (d : NwkRejoinCapabilityInformationPowerSource) → power_source_of (is_set (bit (power_source_bit d))) ≡ d
power_source_back NwkRejoinCapabilityInformationPowerSource.OtherPowerSource = refl
power_source_back NwkRejoinCapabilityInformationPowerSource.MainsPowered = refl

-- ---- a timeout's seconds

-- a test passed by each number below n
abbrev all_below : (ℕ → Bool) → ℕ → Bool
all_below t zero = true
all_below t (suc n) = t n && all_below t n

one_below : (t : ℕ → Bool) (n k : ℕ) → all_below t n ≡ true → k < n → t k ≡ true
one_below t zero k e h = absurd (omega arith)
one_below t (suc n) k e h = last (dec_lt k n) (λ l. one_below t n k (second (t n) (all_below t n) e) l)
  where
    last : Dec (k < n) → (k < n → t k ≡ true) → t k ≡ true
    last (yes l) ih = ih l
    last (no l) ih = let same : k ≡ n = omega arith in ap t same ∙ first (t n) (all_below t n) e

pub timeout_code_lem : (n : ℕ) → n < 15 → timeout_code (get_or timeouts n EndDeviceTimeout.Seconds10) ≡ n
unfolding timeouts
timeout_code_lem n h = eqb-true _ _ (one_below (λ (k : ℕ). eqb (timeout_code (get_or timeouts k EndDeviceTimeout.Seconds10)) k) 15 n refl h)

-- the answer by a code's value
abbrev pub seconds_by : Option EndDeviceTimeout → EndDeviceTimeoutSeconds
seconds_by (Some t) = record { refusal = 0; seconds = seconds (timeout_code t) }
seconds_by None = record { refusal = 13; seconds = 0 }

declared : (n : ℕ) → n < 15 → seconds_by (timeout_of n) ≡ timeout_seconds n
unfolding timeout_of timeout_seconds
declared n h =
    rw (lt-ltb n 15 h, le-ltb 14 n (omega arith)) (λ i. record { refusal = 0; seconds = seconds (timeout_code_lem n h i) })

undeclared : (n : ℕ) → 15 ≤ n → seconds_by (timeout_of n) ≡ timeout_seconds n
unfolding timeout_of timeout_seconds
undeclared n h = rw (le-ltb n 15 h, lt-ltb 14 n (omega arith)) refl

pub seconds_by_lem : (n : ℕ) → seconds_by (timeout_of n) ≡ timeout_seconds n
seconds_by_lem n = elim (dec_lt n 15) [ yes l ↦ declared n l | no l ↦ undeclared n (omega arith) ]
