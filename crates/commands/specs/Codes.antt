-- The codes of the commands' enums: the number of each value, and the value of each declared number (document 01,
-- "Codes"). A dense code is a list in the order of its numbers.
-- Assumes nothing.
use Rattle.std.specs.Prelude.{◌≡◌, ℕ, ◌-◌, Bool, true, false, cond, List, [], ◌∷◌, get_or, ltb, leb, eqb, Option, Some, None, Result, IfErr}
use Rattle.std.specs.Result.{result_ok}
use Rattle.octets.specs.declared.refusals.Refusal.{Refusal}
use Rattle.commands.specs.declared.{NwkCommandId.NwkCommandId, NwkRouteRequestManyToOne.NwkRouteRequestManyToOne, NwkNetworkStatus.NwkNetworkStatus, NwkRejoinCapabilityInformationDeviceType.NwkRejoinCapabilityInformationDeviceType, NwkRejoinCapabilityInformationPowerSource.NwkRejoinCapabilityInformationPowerSource, Nwk802154AssociationStatus.Nwk802154AssociationStatus, NwkReportCommandIdentifier.NwkReportCommandIdentifier, NwkUpdateCommandIdentifier.NwkUpdateCommandIdentifier, EndDeviceTimeout.EndDeviceTimeout, NwkEndDeviceTimeoutResponseStatus.NwkEndDeviceTimeoutResponseStatus, NwkLinkPowerDeltaType.NwkLinkPowerDeltaType, NwkCommissioningType.NwkCommissioningType}

-- what a number gives: the value of a declared one, else refusal 13
abbrev pub Decodes : {A : Type 0} → (ℕ → Option A) → ℕ → Result A Refusal → Type 0
Decodes value_of n r = (result_ok r ≡ value_of n) × IfErr r (λ e. e ≡ Refusal.Field)

-- 3.4: the command identifier
abbrev pub command_id_code : NwkCommandId → ℕ
command_id_code NwkCommandId.RouteRequest = 0x01
command_id_code NwkCommandId.RouteReply = 0x02
command_id_code NwkCommandId.NetworkStatus = 0x03
command_id_code NwkCommandId.Leave = 0x04
command_id_code NwkCommandId.RouteRecord = 0x05
command_id_code NwkCommandId.RejoinRequest = 0x06
command_id_code NwkCommandId.RejoinResponse = 0x07
command_id_code NwkCommandId.LinkStatus = 0x08
command_id_code NwkCommandId.NetworkReport = 0x09
command_id_code NwkCommandId.NetworkUpdate = 0x0A
command_id_code NwkCommandId.EndDeviceTimeoutRequest = 0x0B
command_id_code NwkCommandId.EndDeviceTimeoutResponse = 0x0C
command_id_code NwkCommandId.LinkPowerDelta = 0x0D
command_id_code NwkCommandId.NetworkCommissioningRequest = 0x0E
command_id_code NwkCommandId.NetworkCommissioningResponse = 0x0F

unfoldable pub command_ids : List NwkCommandId
command_ids =
    NwkCommandId.RouteRequest ∷ NwkCommandId.RouteReply ∷ NwkCommandId.NetworkStatus ∷ NwkCommandId.Leave
    ∷ NwkCommandId.RouteRecord ∷ NwkCommandId.RejoinRequest ∷ NwkCommandId.RejoinResponse ∷ NwkCommandId.LinkStatus
    ∷ NwkCommandId.NetworkReport ∷ NwkCommandId.NetworkUpdate ∷ NwkCommandId.EndDeviceTimeoutRequest
    ∷ NwkCommandId.EndDeviceTimeoutResponse ∷ NwkCommandId.LinkPowerDelta ∷ NwkCommandId.NetworkCommissioningRequest
    ∷ NwkCommandId.NetworkCommissioningResponse ∷ []

unfoldable pub command_id_of : ℕ → Option NwkCommandId
command_id_of n = cond (eqb n 0) None (cond (leb n 15) (Some (get_or command_ids (n - 1) NwkCommandId.RouteRequest)) None)

-- 3.4.1.3.1.1: many-to-one; value 3 is typed
abbrev pub many_to_one_code : NwkRouteRequestManyToOne → ℕ
many_to_one_code NwkRouteRequestManyToOne.NotManyToOne = 0
many_to_one_code NwkRouteRequestManyToOne.ManyToOneSenderSupportsRouteRecordTable = 1
many_to_one_code NwkRouteRequestManyToOne.ManyToOneSenderDoesntSupportRouteRecordTable = 2
many_to_one_code NwkRouteRequestManyToOne.Reserved = 3

unfoldable pub many_to_ones : List NwkRouteRequestManyToOne
many_to_ones =
    NwkRouteRequestManyToOne.NotManyToOne ∷ NwkRouteRequestManyToOne.ManyToOneSenderSupportsRouteRecordTable
    ∷ NwkRouteRequestManyToOne.ManyToOneSenderDoesntSupportRouteRecordTable ∷ NwkRouteRequestManyToOne.Reserved ∷ []

unfoldable pub many_to_one_of : ℕ → Option NwkRouteRequestManyToOne
many_to_one_of n = cond (ltb n 4) (Some (get_or many_to_ones n NwkRouteRequestManyToOne.NotManyToOne)) None

-- 3.4.3: network status
abbrev pub status_code : NwkNetworkStatus → ℕ
status_code NwkNetworkStatus.LegacyNoRouteAvailable = 0x00
status_code NwkNetworkStatus.LegacyLinkFailure = 0x01
status_code NwkNetworkStatus.LinkFailure = 0x02
status_code NwkNetworkStatus.LowBatteryLevel = 0x03
status_code NwkNetworkStatus.NoRoutingCapacity = 0x04
status_code NwkNetworkStatus.NoIndirectCapacity = 0x05
status_code NwkNetworkStatus.IndirectTransactionExpiry = 0x06
status_code NwkNetworkStatus.TargetDeviceUnavailable = 0x07
status_code NwkNetworkStatus.TargetAddressUnallocated = 0x08
status_code NwkNetworkStatus.ParentLinkFailure = 0x09
status_code NwkNetworkStatus.ValidateRoute = 0x0A
status_code NwkNetworkStatus.SourceRouteFailure = 0x0B
status_code NwkNetworkStatus.ManyToOneRouteFailure = 0x0C
status_code NwkNetworkStatus.AddressConflict = 0x0D
status_code NwkNetworkStatus.VerifyAddresses = 0x0E
status_code NwkNetworkStatus.PanIdentifierUpdate = 0x0F
status_code NwkNetworkStatus.NetworkAddressUpdate = 0x10
status_code NwkNetworkStatus.BadFrameCounter = 0x11
status_code NwkNetworkStatus.BadKeySequenceNumber = 0x12
status_code NwkNetworkStatus.UnknownCommand = 0x13
status_code NwkNetworkStatus.PanIdConflictReport = 0x14

unfoldable pub statuses : List NwkNetworkStatus
statuses =
    NwkNetworkStatus.LegacyNoRouteAvailable ∷ NwkNetworkStatus.LegacyLinkFailure ∷ NwkNetworkStatus.LinkFailure
    ∷ NwkNetworkStatus.LowBatteryLevel ∷ NwkNetworkStatus.NoRoutingCapacity ∷ NwkNetworkStatus.NoIndirectCapacity
    ∷ NwkNetworkStatus.IndirectTransactionExpiry ∷ NwkNetworkStatus.TargetDeviceUnavailable
    ∷ NwkNetworkStatus.TargetAddressUnallocated ∷ NwkNetworkStatus.ParentLinkFailure ∷ NwkNetworkStatus.ValidateRoute
    ∷ NwkNetworkStatus.SourceRouteFailure ∷ NwkNetworkStatus.ManyToOneRouteFailure ∷ NwkNetworkStatus.AddressConflict
    ∷ NwkNetworkStatus.VerifyAddresses ∷ NwkNetworkStatus.PanIdentifierUpdate ∷ NwkNetworkStatus.NetworkAddressUpdate
    ∷ NwkNetworkStatus.BadFrameCounter ∷ NwkNetworkStatus.BadKeySequenceNumber ∷ NwkNetworkStatus.UnknownCommand
    ∷ NwkNetworkStatus.PanIdConflictReport ∷ []

unfoldable pub status_of : ℕ → Option NwkNetworkStatus
status_of n = cond (ltb n 21) (Some (get_or statuses n NwkNetworkStatus.LegacyNoRouteAvailable)) None

-- 3.4.7: association status; 4 to 0x7F, 0x81 to 0xEF and above 0xF0 are undeclared
abbrev pub association_status_code : Nwk802154AssociationStatus → ℕ
association_status_code Nwk802154AssociationStatus.AssociationSuccessful = 0x00
association_status_code Nwk802154AssociationStatus.PanAtCapacity = 0x01
association_status_code Nwk802154AssociationStatus.PanAccessDenied = 0x02
association_status_code Nwk802154AssociationStatus.HoppingSequenceOffsetDuplication = 0x03
association_status_code Nwk802154AssociationStatus.FastAssociationSuccessful = 0x80
association_status_code Nwk802154AssociationStatus.ZigbeeAddressConflict = 0xF0

unfoldable pub association_statuses : List Nwk802154AssociationStatus
association_statuses =
    Nwk802154AssociationStatus.AssociationSuccessful ∷ Nwk802154AssociationStatus.PanAtCapacity
    ∷ Nwk802154AssociationStatus.PanAccessDenied ∷ Nwk802154AssociationStatus.HoppingSequenceOffsetDuplication ∷ []

unfoldable pub association_status_of : ℕ → Option Nwk802154AssociationStatus
association_status_of n =
    cond (ltb n 4) (Some (get_or association_statuses n Nwk802154AssociationStatus.AssociationSuccessful))
    (cond (eqb n 0x80) (Some Nwk802154AssociationStatus.FastAssociationSuccessful)
    (cond (eqb n 0xF0) (Some Nwk802154AssociationStatus.ZigbeeAddressConflict)
    None))

-- 3.4.9: report command identifier
abbrev pub report_identifier_code : NwkReportCommandIdentifier → ℕ
report_identifier_code NwkReportCommandIdentifier.PanIdentifierConflict = 0

unfoldable pub report_identifier_of : ℕ → Option NwkReportCommandIdentifier
report_identifier_of n = cond (eqb n 0) (Some NwkReportCommandIdentifier.PanIdentifierConflict) None

-- 3.4.10: update command identifier
abbrev pub update_identifier_code : NwkUpdateCommandIdentifier → ℕ
update_identifier_code NwkUpdateCommandIdentifier.PanIdentifierUpdate = 0

unfoldable pub update_identifier_of : ℕ → Option NwkUpdateCommandIdentifier
update_identifier_of n = cond (eqb n 0) (Some NwkUpdateCommandIdentifier.PanIdentifierUpdate) None

-- 3.4.11: timeout
abbrev pub timeout_code : EndDeviceTimeout → ℕ
timeout_code EndDeviceTimeout.Seconds10 = 0
timeout_code EndDeviceTimeout.Minutes2 = 1
timeout_code EndDeviceTimeout.Minutes4 = 2
timeout_code EndDeviceTimeout.Minutes8 = 3
timeout_code EndDeviceTimeout.Minutes16 = 4
timeout_code EndDeviceTimeout.Minutes32 = 5
timeout_code EndDeviceTimeout.Minutes64 = 6
timeout_code EndDeviceTimeout.Minutes128 = 7
timeout_code EndDeviceTimeout.Minutes256 = 8
timeout_code EndDeviceTimeout.Minutes512 = 9
timeout_code EndDeviceTimeout.Minutes1024 = 10
timeout_code EndDeviceTimeout.Minutes2048 = 11
timeout_code EndDeviceTimeout.Minutes4096 = 12
timeout_code EndDeviceTimeout.Minutes8192 = 13
timeout_code EndDeviceTimeout.Minutes16384 = 14

unfoldable pub timeouts : List EndDeviceTimeout
timeouts =
    EndDeviceTimeout.Seconds10 ∷ EndDeviceTimeout.Minutes2 ∷ EndDeviceTimeout.Minutes4 ∷ EndDeviceTimeout.Minutes8
    ∷ EndDeviceTimeout.Minutes16 ∷ EndDeviceTimeout.Minutes32 ∷ EndDeviceTimeout.Minutes64 ∷ EndDeviceTimeout.Minutes128
    ∷ EndDeviceTimeout.Minutes256 ∷ EndDeviceTimeout.Minutes512 ∷ EndDeviceTimeout.Minutes1024 ∷ EndDeviceTimeout.Minutes2048
    ∷ EndDeviceTimeout.Minutes4096 ∷ EndDeviceTimeout.Minutes8192 ∷ EndDeviceTimeout.Minutes16384 ∷ []

unfoldable pub timeout_of : ℕ → Option EndDeviceTimeout
timeout_of n = cond (ltb n 15) (Some (get_or timeouts n EndDeviceTimeout.Seconds10)) None

-- 3.4.12: timeout response status
abbrev pub timeout_status_code : NwkEndDeviceTimeoutResponseStatus → ℕ
timeout_status_code NwkEndDeviceTimeoutResponseStatus.Success = 0
timeout_status_code NwkEndDeviceTimeoutResponseStatus.IncorrectValue = 1
timeout_status_code NwkEndDeviceTimeoutResponseStatus.UnsupportedFeature = 2

unfoldable pub timeout_statuses : List NwkEndDeviceTimeoutResponseStatus
timeout_statuses =
    NwkEndDeviceTimeoutResponseStatus.Success ∷ NwkEndDeviceTimeoutResponseStatus.IncorrectValue
    ∷ NwkEndDeviceTimeoutResponseStatus.UnsupportedFeature ∷ []

unfoldable pub timeout_status_of : ℕ → Option NwkEndDeviceTimeoutResponseStatus
timeout_status_of n = cond (ltb n 3) (Some (get_or timeout_statuses n NwkEndDeviceTimeoutResponseStatus.Success)) None

-- 3.4.13: power type
abbrev pub power_type_code : NwkLinkPowerDeltaType → ℕ
power_type_code NwkLinkPowerDeltaType.Notification = 0
power_type_code NwkLinkPowerDeltaType.Request = 1
power_type_code NwkLinkPowerDeltaType.Response = 2

unfoldable pub power_types : List NwkLinkPowerDeltaType
power_types =
    NwkLinkPowerDeltaType.Notification ∷ NwkLinkPowerDeltaType.Request ∷ NwkLinkPowerDeltaType.Response ∷ []

unfoldable pub power_type_of : ℕ → Option NwkLinkPowerDeltaType
power_type_of n = cond (ltb n 3) (Some (get_or power_types n NwkLinkPowerDeltaType.Notification)) None

-- 3.4.14: commissioning type
abbrev pub commissioning_type_code : NwkCommissioningType → ℕ
commissioning_type_code NwkCommissioningType.InitialJoin = 0
commissioning_type_code NwkCommissioningType.Rejoin = 1

unfoldable pub commissioning_types : List NwkCommissioningType
commissioning_types =
    NwkCommissioningType.InitialJoin ∷ NwkCommissioningType.Rejoin ∷ []

unfoldable pub commissioning_type_of : ℕ → Option NwkCommissioningType
commissioning_type_of n = cond (ltb n 2) (Some (get_or commissioning_types n NwkCommissioningType.InitialJoin)) None

-- a bit as a truth value
abbrev pub is_set : ℕ → Bool
is_set b = eqb b 1

-- 3.4.6: device type and power source, one bit each
abbrev pub device_type_bit : NwkRejoinCapabilityInformationDeviceType → Bool
device_type_bit NwkRejoinCapabilityInformationDeviceType.EndDevice = false
device_type_bit NwkRejoinCapabilityInformationDeviceType.Router = true

abbrev pub device_type_of : Bool → NwkRejoinCapabilityInformationDeviceType
device_type_of b = cond b NwkRejoinCapabilityInformationDeviceType.Router NwkRejoinCapabilityInformationDeviceType.EndDevice

abbrev pub power_source_bit : NwkRejoinCapabilityInformationPowerSource → Bool
power_source_bit NwkRejoinCapabilityInformationPowerSource.OtherPowerSource = false
power_source_bit NwkRejoinCapabilityInformationPowerSource.MainsPowered = true

abbrev pub power_source_of : Bool → NwkRejoinCapabilityInformationPowerSource
power_source_of b = cond b NwkRejoinCapabilityInformationPowerSource.MainsPowered NwkRejoinCapabilityInformationPowerSource.OtherPowerSource
