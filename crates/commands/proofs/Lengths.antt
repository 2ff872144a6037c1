-- How long a command is: a typed one that fits its fields never passes 108 bytes, so number 17 is met by unparsed bytes
-- alone. Each length is the format's by computation.
-- Assumes nothing.
use Rattle.std.specs.Prelude.{Option, Some, None}
use mathlib.Core.Path.{◌≡◌, sym}
use mathlib.Core.Bool.{Bool, false, ◌||◌}
use mathlib.Core.List.{◌++◌}
use Prim.Native.Nat.{ℕ, ◌+◌, ◌*◌, ◌≤◌}
use native.Mathlib.Omega.{arith}
use borrow.Author.Tests.{ltb-false}
use lib.Dec.{ltb}
use lib.ListN.{length, length-append}
use Rattle.octets.proofs.Conditions.{or_false}
use Rattle.commands.specs.Format.{Values, sizes}
use Rattle.commands.specs.Commands.{address_entry, relay_entries, link_entries, pan_id_entries, power_entries}
use Rattle.commands.specs.Reading.{format_of, list_of}
use Rattle.commands.specs.Writing.{wire_of, wire_bytes, over_places, misfits}
use Rattle.commands.specs.Writing.Wire.{body}
use Rattle.commands.proofs.Format.{length_body_bytes}
use Rattle.commands.proofs.Layouts.{formats, contents, shapes}
use Rattle.commands.specs.declared.{NwkCommandId.NwkCommandId, NwkCommand.NwkCommand, NwkCommandWithLists.NwkCommandWithLists, NwkCommandList.NwkCommandList}

-- the length of a body behind its identifier
abbrev pub wire_length : NwkCommandId → Values → ℕ
wire_length id v = 1 + (sizes (format_of id).head + length v.entries * sizes (format_of id).entry)

pub length_wire : (id : NwkCommandId) (v : Values) → length (wire_bytes (body id v)) ≡ wire_length id v
unfolding wire_bytes
length_wire id v = rw (length_body_bytes (format_of id) v) (sym (native.Mathlib.Numerals.one-add _))

address_few : (a : Option ℕ) → length (address_entry a) ≤ 1
address_few None = omega arith
address_few (Some x) = omega arith

addresses_few : (a b : Option ℕ) → length (address_entry a ++ address_entry b) ≤ 2
addresses_few a b = rw (length-append (address_entry a) (address_entry b)) (let p = address_few a in let q = address_few b in omega arith)

-- a list with its places not exceeded
within : (m n : ℕ) (b : Bool) → (ltb m n || b) ≡ false → n ≤ m
within m n b e = ltb-false m n (or_false (ltb m n) b e).0

-- typed commands
abbrev pub Typed : NwkCommandList → Type 0
Typed NwkCommandList.NoList = Unit {0}
Typed NwkCommandList.Relays = Unit {0}
Typed NwkCommandList.LinkStatuses = Unit {0}
Typed NwkCommandList.PanIds = Unit {0}
Typed NwkCommandList.PowerList = Unit {0}
Typed NwkCommandList.Bytes = ⊥

-- so many bytes behind the identifier
short : (id : NwkCommandId) (v : Values) → wire_length id v ≤ 108 → length (wire_bytes (body id v)) ≤ 108
short id v h = rw (length_wire id v) h

pub typed_short : (c : NwkCommand) (f : NwkCommandWithLists) → Typed (list_of c) → misfits (list_of c) (wire_of c f) ≡ false
    → length (wire_bytes (wire_of c f)) ≤ 108
unfolding formats contents shapes wire_of misfits over_places
typed_short (NwkCommand.RouteRequest c) f t e = short NwkCommandId.RouteRequest _ (let p = address_few c.destination_eui64 in omega arith)
typed_short (NwkCommand.RouteReply c) f t e =
    short NwkCommandId.RouteReply _ (let p = addresses_few c.originator_eui64 c.responder_eui64 in omega arith)
typed_short (NwkCommand.NetworkStatus c) f t e = short NwkCommandId.NetworkStatus _ (omega arith)
typed_short (NwkCommand.Leave c) f t e = short NwkCommandId.Leave _ (omega arith)
typed_short NwkCommand.RouteRecord f t e =
    short NwkCommandId.RouteRecord _ (let p = within 53 (length (relay_entries f.relays f.relay_count)) _ e in omega arith)
typed_short (NwkCommand.RejoinRequest c) f t e = short NwkCommandId.RejoinRequest _ (omega arith)
typed_short (NwkCommand.RejoinResponse c) f t e = short NwkCommandId.RejoinResponse _ (omega arith)
typed_short (NwkCommand.LinkStatus c) f t e =
    short NwkCommandId.LinkStatus _ (let p = within 31 (length (link_entries f.link_statuses f.link_statuses_len)) _ e in omega arith)
typed_short (NwkCommand.NetworkReport c) f t e =
    short NwkCommandId.NetworkReport _ (let p = within 31 (length (pan_id_entries f.pan_ids f.report_information_count)) _ e in omega arith)
typed_short (NwkCommand.NetworkUpdate c) f t e = short NwkCommandId.NetworkUpdate _ (omega arith)
typed_short (NwkCommand.EndDeviceTimeoutRequest c) f t e = short NwkCommandId.EndDeviceTimeoutRequest _ (omega arith)
typed_short (NwkCommand.EndDeviceTimeoutResponse c) f t e = short NwkCommandId.EndDeviceTimeoutResponse _ (omega arith)
typed_short (NwkCommand.LinkPowerDelta c) f t e =
    short NwkCommandId.LinkPowerDelta _ (let p = within 35 (length (power_entries f.power_list f.list_count)) _ e in omega arith)
typed_short (NwkCommand.NetworkCommissioningRequest c) f t e = short NwkCommandId.NetworkCommissioningRequest _ (omega arith)
typed_short (NwkCommand.NetworkCommissioningResponse c) f t e = short NwkCommandId.NetworkCommissioningResponse _ (omega arith)
typed_short NwkCommand.Unparsed f t e = absurd t
