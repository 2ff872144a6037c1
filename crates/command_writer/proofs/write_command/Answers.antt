-- `command_writer::write_command` meets its contract, call by call: a command that is not refused is ready for its writer.
-- Assumes nothing.
use borrow.Author.Tests.{ltb-false, not-false}
use mathlib.Core.Path.{◌≡◌, sym}
use native.Mathlib.Omega.{arith}
use Prim.Native.Nat.{ℕ, ◌≤◌}
use native.Mathlib.Nat.{zero-add}
use lib.Dec.{ltb}
use lib.ListN.{length}
use lib.Seq.{length-take-le}
use Rattle.octets.proofs.Strings.{tab_get_or}
use Rattle.octets.proofs.Conditions.{or_false}
use Rattle.commands.specs.Commands.{firsts}
use Rattle.commands.specs.Writing.{wire_of, wire, wire_bytes, command_bytes, write_refusal}
use Rattle.commands.specs.declared.{NwkCommand.NwkCommand, NwkCommandWithLists.NwkCommandWithLists}
use Rattle.commands.proofs.Ranges.{too_big}
use Rattle.commands.proofs.InRange.{InRange, in_range}
use Rattle.command_writer.proofs.Ready.{ready_by, all_low}
use Rattle.command_writer.proofs.write_command.Goals as goal

-- an unparsed command has its bytes
unparsed_in : (f : NwkCommandWithLists) (room : ℕ) → InRange f → write_refusal f room ≡ 0 → f.command ≡ NwkCommand.Unparsed
    → (f.unparsed_len ≤ length f.unparsed) × (f.unparsed_len ≤ room)
unparsed_in f room r e q =
    let ready = ready_by f room r e NwkCommand.Unparsed q in
    let n = r.bytes in
    (omega arith, ready.enough)

pub write_link_status-requires : goal.write_link_status-requires
unfolding too_big
write_link_status-requires c =
    let f = c.args.given in
    let r = ready_by c.args.given _ (in_range c.args.given _ c.well_formed.0) c.requires _ c.in-LinkStatus.is in
    let fits = or_false (ltb 31 f.link_statuses_len) _ r.fits in
    (ltb-false 31 _ fits.0, r.enough, all_low f.link_statuses _ (not-false _ fits.1))

pub slice_bounds-copy_at-end : goal.slice_bounds-copy_at-end
unfolding command_bytes wire wire_of too_big
slice_bounds-copy_at-end c =
    sym (length-take-le _ _ (unparsed_in c.args.given _ (in_range c.args.given _ c.well_formed.0) c.requires c.in-Unparsed.is).0)

pub copy_at-requires : goal.copy_at-requires
unfolding command_bytes wire wire_of too_big
copy_at-requires c =
    let h = unparsed_in c.args.given _ (in_range c.args.given _ c.well_formed.0) c.requires c.in-Unparsed.is in
    rw (zero-add, length-take-le _ _ h.0) h.1

pub returns-in-Unparsed : goal.returns-in-Unparsed
unfolding command_bytes wire wire_of wire_bytes firsts
returns-in-Unparsed c =
    let e = c.in-Unparsed.is in
    let h = unparsed_in c.args.given _ (in_range c.args.given _ c.well_formed.0) c.requires e in
    rw (e, tab_get_or c.args.given.unparsed 0 _ h.0) c.copy_at.ensures

pub write_route_request-requires : goal.write_route_request-requires
unfolding command_bytes wire wire_of too_big
write_route_request-requires c = (ready_by c.args.given _ (in_range c.args.given _ c.well_formed.0) c.requires _ c.in-RouteRequest.is).enough

pub write_route_reply-requires : goal.write_route_reply-requires
unfolding command_bytes wire wire_of too_big
write_route_reply-requires c = (ready_by c.args.given _ (in_range c.args.given _ c.well_formed.0) c.requires _ c.in-RouteReply.is).enough

pub write_network_status-requires : goal.write_network_status-requires
unfolding command_bytes wire wire_of too_big
write_network_status-requires c = (ready_by c.args.given _ (in_range c.args.given _ c.well_formed.0) c.requires _ c.in-NetworkStatus.is).enough

pub write_leave-requires : goal.write_leave-requires
unfolding command_bytes wire wire_of too_big
write_leave-requires c = (ready_by c.args.given _ (in_range c.args.given _ c.well_formed.0) c.requires _ c.in-Leave.is).enough

pub write_route_record-requires : goal.write_route_record-requires
unfolding command_bytes wire wire_of too_big
write_route_record-requires c = let r = ready_by c.args.given _ (in_range c.args.given _ c.well_formed.0) c.requires _ c.in-RouteRecord.is in (ltb-false 53 _ r.fits, r.enough)

pub write_rejoin_request-requires : goal.write_rejoin_request-requires
unfolding command_bytes wire wire_of too_big
write_rejoin_request-requires c = (ready_by c.args.given _ (in_range c.args.given _ c.well_formed.0) c.requires _ c.in-RejoinRequest.is).enough

pub write_rejoin_response-requires : goal.write_rejoin_response-requires
unfolding command_bytes wire wire_of too_big
write_rejoin_response-requires c = (ready_by c.args.given _ (in_range c.args.given _ c.well_formed.0) c.requires _ c.in-RejoinResponse.is).enough

pub write_network_report-requires : goal.write_network_report-requires
unfolding command_bytes wire wire_of too_big
write_network_report-requires c = let r = ready_by c.args.given _ (in_range c.args.given _ c.well_formed.0) c.requires _ c.in-NetworkReport.is in (ltb-false 31 _ r.fits, r.enough)

pub write_network_update-requires : goal.write_network_update-requires
unfolding command_bytes wire wire_of too_big
write_network_update-requires c = let r = ready_by c.args.given _ (in_range c.args.given _ c.well_formed.0) c.requires _ c.in-NetworkUpdate.is in (ltb-false 31 _ r.fits, r.enough)

pub write_timeout_request-requires : goal.write_timeout_request-requires
unfolding command_bytes wire wire_of too_big
write_timeout_request-requires c = (ready_by c.args.given _ (in_range c.args.given _ c.well_formed.0) c.requires _ c.in-EndDeviceTimeoutRequest.is).enough

pub write_timeout_response-requires : goal.write_timeout_response-requires
unfolding command_bytes wire wire_of too_big
write_timeout_response-requires c = (ready_by c.args.given _ (in_range c.args.given _ c.well_formed.0) c.requires _ c.in-EndDeviceTimeoutResponse.is).enough

pub write_link_power_delta-requires : goal.write_link_power_delta-requires
unfolding command_bytes wire wire_of too_big
write_link_power_delta-requires c = let r = ready_by c.args.given _ (in_range c.args.given _ c.well_formed.0) c.requires _ c.in-LinkPowerDelta.is in (ltb-false 35 _ r.fits, r.enough)

pub write_commissioning_request-requires : goal.write_commissioning_request-requires
unfolding command_bytes wire wire_of too_big
write_commissioning_request-requires c = (ready_by c.args.given _ (in_range c.args.given _ c.well_formed.0) c.requires _ c.in-NetworkCommissioningRequest.is).enough

pub write_commissioning_response-requires : goal.write_commissioning_response-requires
unfolding command_bytes wire wire_of too_big
write_commissioning_response-requires c = (ready_by c.args.given _ (in_range c.args.given _ c.well_formed.0) c.requires _ c.in-NetworkCommissioningResponse.is).enough

pub slice_bounds-bytes-end : goal.slice_bounds-bytes-end
unfolding command_bytes wire wire_of too_big
slice_bounds-bytes-end c = (unparsed_in c.args.given _ (in_range c.args.given _ c.well_formed.0) c.requires c.in-Unparsed.is).0
