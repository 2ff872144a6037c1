-- What every value of a command with its lists has: each number is within its type's range, and each list has its
-- places. The last law reads it off from owning such a value.
-- Assumes nothing.
use mathlib.Core.Path.{◌≡◌, sym, ◌∙◌}
use mathlib.Core.List.{List, [], ◌∷◌, map}
use Prim.Native.Nat.{ℕ, zero, suc, ◌<◌}
use native.Mathlib.Omega.{arith}
use lib.ListN.{length, get_or, length-map}
use mir.Val.{Val}
use denote.Shadow.{shadow}
use denote.Array.{each}
use Rattle.types.specs.Addresses.{no_nwk}
use Rattle.commands.specs.Commands.{no_link, no_pan_id, no_power}
use Rattle.commands.proofs.Ranges.{InPower, Ranged}
use Rattle.commands.proofs.InRange.{InRange, in_range}
use Rattle.commands.specs.contracts.NwkCommandWithLists as nwk-command-with-lists
use Rattle.commands.specs.contracts.NwkLinkStatus as nwk-link-status
use Rattle.types.specs.declared.{Nwk.Nwk, PanId.PanId}
use Rattle.commands.specs.declared.{NwkCommandWithLists.NwkCommandWithLists, NwkLinkStatus.NwkLinkStatus}

abbrev pub RelayFits : Nwk → Type 0
RelayFits a = a.0 < 65536

abbrev pub LinkFits : NwkLinkStatus → Type 0
LinkFits l = (l.address.0 < 65536) × (l.incoming_cost < 256) × (l.outgoing_cost < 256)

abbrev pub PanIdFits : PanId → Type 0
PanIdFits p = p.0 < 65536

-- a list of so many places, d past the end
pub record ListFits {A : Type 0} (Fits : A → Type 0) (d : A) (places : ℕ) (xs : List A) : Type 0 where
  pub length_is : length xs ≡ places
  pub entries : (k : ℕ) → Fits (get_or xs k d)

pub record CommandFits (f : NwkCommandWithLists) : Type 0 where
  pub command : Ranged f.command
  pub relays : ListFits RelayFits no_nwk 53 f.relays
  pub links : ListFits LinkFits no_link 31 f.link_statuses
  pub pan_ids : ListFits PanIdFits no_pan_id 31 f.pan_ids
  pub powers : ListFits InPower no_power 35 f.power_list
  pub bytes : length f.unparsed ≡ 108

-- each entry of the link statuses
links_fit : (xs : List NwkLinkStatus) (us : List Val)
    → shadow (each (nwk-link-status.the_row).Denot (nwk-link-status.the_row).own_val xs us)
    → (k : ℕ) → LinkFits (get_or xs k no_link)
links_fit [] us s k = omega arith
links_fit (x ∷ xs) [] s k = absurd s
links_fit (x ∷ xs) (u ∷ us) s zero = omega arith
links_fit (x ∷ xs) (u ∷ us) s (suc k) = links_fit xs us s.1 k

-- an array of structs has its places
sized : {A B : Type 0} (into : A → B) (xs : List A) {m : ℕ} → length (map into xs) ≡ m → length xs ≡ m
sized into xs e = sym (length-map xs into) ∙ e

-- every value of the type
pub command_fits : (f : NwkCommandWithLists) (vs : List Val) → shadow ((nwk-command-with-lists.the_row).own_val f vs) → CommandFits f
command_fits f vs s =
    let r : InRange f = in_range f vs s in
    let at_links = s.1.1.1.1.1.1.0.1 in
    record {
      command = r.command;
      relays = record { length_is = s.1.1.1.1.0.1.0.1; entries = r.relays };
      links = record {
        length_is = at_links.0.1;
        entries = links_fit f.link_statuses _ at_links.1;
      };
      pan_ids = record { length_is = s.1.1.1.1.1.1.1.1.0.1.0.1; entries = r.pan_ids };
      powers = record {
        length_is = s.1.1.1.1.1.1.1.1.1.1.0.1.0.1;
        entries = r.powers;
      };
      bytes = r.bytes;
    }
