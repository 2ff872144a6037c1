-- What a command that is not refused gives its writer: its length by its case, its list within its places, and costs of
-- three bits.
-- Assumes nothing.
use Rattle.std.specs.Prelude.{Option, Some, None}
use mathlib.Core.Path.{◌≡◌, refl, sym, subst, ◌∙◌}
use mathlib.Core.Bool.{Bool, true, false, ◌&&◌, true≢false}
use mathlib.Core.List.{List}
use Prim.Native.Nat.{ℕ, ◌+◌, ◌*◌, ◌≤◌}
use native.Mathlib.Omega.{arith}
use borrow.Author.Tests.{ltb-true}
use lib.Dec.{ltb}
use lib.ListN.{length, get_or, length-append}
use Rattle.octets.specs.Numbers.{le}
use Rattle.octets.proofs.Strings.{length_tab}
use Rattle.types.specs.Optional.{ieee_bytes}
use Rattle.commands.specs.Format.{size, sizes, width, kept_count, held_parts, held_field, held_fields, held_entries}
use Rattle.commands.specs.Commands.{address_entry, firsts, link_status_format, link_entry, link_entries, no_link}
use Rattle.commands.specs.Reading.{list_of}
use Rattle.commands.specs.Writing.{wire_of, wire, wire_bytes, command_bytes, write_refusal}
use Rattle.commands.proofs.Format.{first, second, held_not}
use Rattle.commands.proofs.Ranges.{too_big}
use Rattle.commands.proofs.Lengths.{length_wire}
use Rattle.commands.proofs.InRange.{InRange, misfits_test}
use Rattle.commands.proofs.RoundTrip.{Accepted, accepts}
use Rattle.command_writer.specs.Options.{LowCosts}
use Rattle.commands.proofs.Layouts.{formats, contents}
use Rattle.commands.specs.declared.{NwkCommandId.NwkCommandId, NwkCommand.NwkCommand, NwkCommandWithLists.NwkCommandWithLists, NwkLinkStatus.NwkLinkStatus}

-- ---- the length of each command

abbrev pub length_by : NwkCommand → NwkCommandWithLists → ℕ
length_by (NwkCommand.RouteRequest c) f = 6 + length (ieee_bytes c.destination_eui64)
length_by (NwkCommand.RouteReply c) f = 8 + length (ieee_bytes c.originator_eui64) + length (ieee_bytes c.responder_eui64)
length_by (NwkCommand.NetworkStatus c) f = 4
length_by (NwkCommand.Leave c) f = 2
length_by NwkCommand.RouteRecord f = 2 + f.relay_count * 2
length_by (NwkCommand.RejoinRequest c) f = 2
length_by (NwkCommand.RejoinResponse c) f = 4
length_by (NwkCommand.LinkStatus c) f = 2 + f.link_statuses_len * 3
length_by (NwkCommand.NetworkReport c) f = 10 + f.report_information_count * 2
length_by (NwkCommand.NetworkUpdate c) f = 13
length_by (NwkCommand.EndDeviceTimeoutRequest c) f = 3
length_by (NwkCommand.EndDeviceTimeoutResponse c) f = 3
length_by (NwkCommand.LinkPowerDelta c) f = 3 + f.list_count * 3
length_by (NwkCommand.NetworkCommissioningRequest c) f = 3
length_by (NwkCommand.NetworkCommissioningResponse c) f = 4
length_by NwkCommand.Unparsed f = f.unparsed_len

address_length : (a : Option ℕ) → length (address_entry a) * 8 ≡ length (ieee_bytes a)
unfolding le
address_length None = refl
address_length (Some x) = refl

pub length_by_lem : (c : NwkCommand) (f : NwkCommandWithLists) → length (wire_bytes (wire_of c f)) ≡ length_by c f
unfolding formats contents wire_of wire_bytes firsts size sizes
length_by_lem (NwkCommand.RouteRequest c) f = length_wire NwkCommandId.RouteRequest _ ∙ omega (arith, address_length c.destination_eui64)
length_by_lem (NwkCommand.RouteReply c) f =
    length_wire NwkCommandId.RouteReply _
    ∙ rw (length-append (address_entry c.originator_eui64)) (omega (arith, address_length c.originator_eui64, address_length c.responder_eui64))
length_by_lem (NwkCommand.NetworkStatus c) f = length_wire NwkCommandId.NetworkStatus _
length_by_lem (NwkCommand.Leave c) f = length_wire NwkCommandId.Leave _
length_by_lem NwkCommand.RouteRecord f = length_wire NwkCommandId.RouteRecord _ ∙ rw length_tab (omega arith)
length_by_lem (NwkCommand.RejoinRequest c) f = length_wire NwkCommandId.RejoinRequest _
length_by_lem (NwkCommand.RejoinResponse c) f = length_wire NwkCommandId.RejoinResponse _
length_by_lem (NwkCommand.LinkStatus c) f = length_wire NwkCommandId.LinkStatus _ ∙ rw length_tab (omega arith)
length_by_lem (NwkCommand.NetworkReport c) f = length_wire NwkCommandId.NetworkReport _ ∙ rw length_tab (omega arith)
length_by_lem (NwkCommand.NetworkUpdate c) f = length_wire NwkCommandId.NetworkUpdate _
length_by_lem (NwkCommand.EndDeviceTimeoutRequest c) f = length_wire NwkCommandId.EndDeviceTimeoutRequest _
length_by_lem (NwkCommand.EndDeviceTimeoutResponse c) f = length_wire NwkCommandId.EndDeviceTimeoutResponse _
length_by_lem (NwkCommand.LinkPowerDelta c) f = length_wire NwkCommandId.LinkPowerDelta _ ∙ rw length_tab (omega arith)
length_by_lem (NwkCommand.NetworkCommissioningRequest c) f = length_wire NwkCommandId.NetworkCommissioningRequest _
length_by_lem (NwkCommand.NetworkCommissioningResponse c) f = length_wire NwkCommandId.NetworkCommissioningResponse _
length_by_lem NwkCommand.Unparsed f = length_tab _ _

pub length_command : (f : NwkCommandWithLists) → length (command_bytes f) ≡ length_by f.command f
unfolding command_bytes wire
length_command f = length_by_lem f.command f

-- ---- costs of three bits

costs_low : (l : NwkLinkStatus) → held_fields link_status_format.entry (link_entry l) ≡ true → (l.incoming_cost ≤ 7) × (l.outgoing_cost ≤ 7)
unfolding link_status_format link_entry held_fields held_field held_parts width kept_count
costs_low l e =
    let low = first (ltb l.incoming_cost 8 && (ltb l.outgoing_cost 8 && true)) true (second (ltb l.address.0 65536) _ e) in
    let p = ltb-true l.incoming_cost 8 (first (ltb l.incoming_cost 8) _ low) in
    let q = ltb-true l.outgoing_cost 8 (first (ltb l.outgoing_cost 8) true (second (ltb l.incoming_cost 8) _ low)) in
    (omega arith, omega arith)

-- a test holds where its failure would fail one that holds
true_by : (b d : Bool) → (b ≡ false → d ≡ false) → d ≡ true → b ≡ true
true_by true d h e = refl
true_by false d h e = absurd (true≢false (sym e ∙ h refl))

-- entries that fit have low costs
pub all_low : (links : List NwkLinkStatus) (n : ℕ) → held_entries link_status_format.entry (link_entries links n) ≡ true → LowCosts links n
all_low links n e k h =
    costs_low _ (true_by _ _ (held_not link_status_format.entry (λ (j : ℕ). link_entry (get_or links j no_link)) n k h) e)

-- ---- what a writer asks

pub record Ready (c : NwkCommand) (f : NwkCommandWithLists) (room : ℕ) : Type 0 where
  pub fits : too_big (list_of c) c f ≡ false
  pub short : length_by c f ≤ 108
  pub enough : length_by c f ≤ room

-- a command that is not refused is ready to be written, by its case
pub ready_by : (f : NwkCommandWithLists) (room : ℕ) → InRange f → write_refusal f room ≡ 0 → (c : NwkCommand) → f.command ≡ c → Ready c f room
unfolding command_bytes wire
ready_by f room r e c q =
    let a : Accepted f room = accepts f room e in
    let l = length_by_lem f.command f in
    subst (λ (d : NwkCommand). Ready d f room) q
    (record { fits = sym (misfits_test f r) ∙ a.fields_fit; short = rw l at a.short; enough = rw l at a.room_enough })
