-- A value of a Rattle type is within its type's range: what owning a command tells of its numbers and of its lists.
-- Assumes nothing.
use Rattle.std.specs.Prelude.{Option, Some, None}
use mathlib.Core.Path.{◌≡◌}
use mathlib.Core.List.{List, [], ◌∷◌}
use Prim.Native.Nat.{ℕ, zero, suc, ◌<◌}
use native.Mathlib.Omega.{arith}
use lib.ListN.{length, get_or}
use borrow.Author.Rules.{rules}
use mir.Val.{Val}
use denote.Shadow.{shadow}
use denote.Array.{each}
use Rattle.types.specs.Addresses.{no_nwk}
use Rattle.commands.specs.Commands.{no_pan_id, no_power}
use Rattle.commands.specs.Reading.{list_of}
use Rattle.commands.specs.Writing.{wire, misfits}
use Rattle.commands.proofs.Ranges.{InAddress, InPower, Ranged, RangedList, too_big, misfits_is}
use Rattle.types.specs.contracts.Nwk as nwk
use denote.Builtin.{u64}
use Rattle.std.specs.contracts.option.Option as option
use Rattle.types.specs.contracts.PanId as pan-id
use Rattle.commands.specs.contracts.NwkCommand as nwk-command
use Rattle.commands.specs.contracts.NwkCommandWithLists as nwk-command-with-lists
use Rattle.commands.specs.contracts.NwkPowerListEntry as nwk-power-list-entry
use Rattle.types.specs.declared.{Nwk.Nwk, PanId.PanId}
use Rattle.commands.specs.declared.{NwkCommand.NwkCommand, NwkCommandWithLists.NwkCommandWithLists, NwkCommandList.NwkCommandList, NwkPowerListEntry.NwkPowerListEntry}

address_in : (a : Option ℕ) (vs : List Val) → shadow ((option.the_row u64).own_val a vs) → InAddress a
address_in None vs s = tt
address_in (Some x) vs s = omega arith

command_in : (c : NwkCommand) (vs : List Val) → shadow ((nwk-command.the_row).own_val c vs) → Ranged c
command_in (NwkCommand.RouteRequest c) vs s = (omega arith, omega arith, omega arith, search address_in)
command_in (NwkCommand.RouteReply c) vs s = (omega arith, omega arith, omega arith, omega arith, search address_in, search address_in)
command_in (NwkCommand.NetworkStatus c) vs s = omega arith
command_in (NwkCommand.Leave c) vs s = tt
command_in NwkCommand.RouteRecord vs s = tt
command_in (NwkCommand.RejoinRequest c) vs s = tt
command_in (NwkCommand.RejoinResponse c) vs s = omega arith
command_in (NwkCommand.LinkStatus c) vs s = tt
command_in (NwkCommand.NetworkReport c) vs s = omega arith
command_in (NwkCommand.NetworkUpdate c) vs s = (omega arith, omega arith, omega arith)
command_in (NwkCommand.EndDeviceTimeoutRequest c) vs s = omega arith
command_in (NwkCommand.EndDeviceTimeoutResponse c) vs s = tt
command_in (NwkCommand.LinkPowerDelta c) vs s = tt
command_in (NwkCommand.NetworkCommissioningRequest c) vs s = tt
command_in (NwkCommand.NetworkCommissioningResponse c) vs s = omega arith
command_in NwkCommand.Unparsed vs s = tt

-- each relay, no_nwk past the end
relays_in : (xs : List Nwk) (us : List Val) → shadow (each (nwk.the_row).Denot (nwk.the_row).own_val xs us)
    → (k : ℕ) → (get_or xs k no_nwk).0 < 65536
relays_in [] us s k = omega arith
relays_in (x ∷ xs) [] s k = absurd s
relays_in (x ∷ xs) (u ∷ us) s zero = omega arith
relays_in (x ∷ xs) (u ∷ us) s (suc k) = relays_in xs us s.1 k

-- each PAN id, no_pan_id past the end
pan_ids_in : (xs : List PanId) (us : List Val)
    → shadow (each (pan-id.the_row).Denot (pan-id.the_row).own_val xs us)
    → (k : ℕ) → (get_or xs k no_pan_id).0 < 65536
pan_ids_in [] us s k = omega arith
pan_ids_in (x ∷ xs) [] s k = absurd s
pan_ids_in (x ∷ xs) (u ∷ us) s zero = omega arith
pan_ids_in (x ∷ xs) (u ∷ us) s (suc k) = pan_ids_in xs us s.1 k

-- each entry of the power list, no_power past the end
powers_in : (xs : List NwkPowerListEntry) (us : List Val)
    → shadow (each (nwk-power-list-entry.the_row).Denot (nwk-power-list-entry.the_row).own_val xs us)
    → (k : ℕ) → InPower (get_or xs k no_power)
powers_in [] us s k = omega arith
powers_in (x ∷ xs) [] s k = absurd s
powers_in (x ∷ xs) (u ∷ us) s zero = omega arith
powers_in (x ∷ xs) (u ∷ us) s (suc k) = powers_in xs us s.1 k

-- a command's numbers and lists are within their types
pub record InRange (f : NwkCommandWithLists) : Type 0 where
  pub command : Ranged f.command
  pub relays : (k : ℕ) → (get_or f.relays k no_nwk).0 < 65536
  pub pan_ids : (k : ℕ) → (get_or f.pan_ids k no_pan_id).0 < 65536
  pub powers : (k : ℕ) → InPower (get_or f.power_list k no_power)
  pub bytes : length f.unparsed ≡ 108

pub in_range : (f : NwkCommandWithLists) (vs : List Val) → shadow ((nwk-command-with-lists.the_row).own_val f vs) → InRange f
in_range f vs s =
    record {
      command = search command_in;
      relays = relays_in f.relays _ s.1.1.1.1.0.1.1;
      pan_ids = pan_ids_in f.pan_ids _ s.1.1.1.1.1.1.1.1.0.1.1;
      powers = powers_in f.power_list _ s.1.1.1.1.1.1.1.1.1.1.0.1.1;
      bytes = search rules;
    }

listed_in : (k : NwkCommandList) (f : NwkCommandWithLists) → InRange f → RangedList k f
listed_in NwkCommandList.NoList f r = tt
listed_in NwkCommandList.Relays f r = λ k l. r.relays k
listed_in NwkCommandList.LinkStatuses f r = tt
listed_in NwkCommandList.PanIds f r = λ k l. r.pan_ids k
listed_in NwkCommandList.PowerList f r = λ k l. r.powers k
listed_in NwkCommandList.Bytes f r = tt

-- of a value of the type, a field misfits exactly if one of the tests says so
pub misfits_test : (f : NwkCommandWithLists) → InRange f → misfits (list_of f.command) (wire f) ≡ too_big (list_of f.command) f.command f
unfolding wire
misfits_test f r = misfits_is f.command f r.command (listed_in (list_of f.command) f r)
