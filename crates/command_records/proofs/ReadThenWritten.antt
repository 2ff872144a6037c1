-- Reading at most 108 bytes into a command record and writing that record is refused by nothing but 18: what was read is
-- within the ranges of its types, so its record says it again, and of what was read only the room can be missing.
-- Assumes nothing.
use Rattle.std.specs.Prelude.{Option, Some, None}
use mathlib.Core.Path.{◌≡◌, refl, ap, ◌∙◌}
use mathlib.Core.Bool.{false}
use mathlib.Core.List.{List, [], ◌∷◌}
use Prim.Native.Nat.{ℕ, ◌+◌, ◌-◌, ◌≤◌, ◌<◌}
use native.Mathlib.Decide.{dec_lt}
use native.Mathlib.Omega.{arith}
use borrow.Author.Tests.{ltb-false}
use lib.Dec.{ltb}
use lib.ListN.{length, get_or, drop, replicate, length-replicate, get_or-replicate, get_or-eq_default}
use lib.Seq.{get_or-append-add, get_or-drop}
use Rattle.octets.specs.Strings.{Below}
use Rattle.octets.specs.Fields.{fields}
use Rattle.octets.specs.Refusals.{on, by, first_of}
use Rattle.octets.proofs.Numbers.{le_at_lt}
use Rattle.octets.proofs.Conditions.{unless_number, skip_by, or_false}
use Rattle.types.specs.Addresses.{no_nwk}
use Rattle.commands.specs.Format.{part_sizes, kept, read_field, read_fields, values, announced}
use Rattle.commands.specs.Commands.{no_link, no_pan_id, no_power, link_status_format, link_of}
use Rattle.commands.specs.Reading.{NwkCommandRead, places, with_lists, list_of, listed, typed, unparsed, parsed, read_command}
use Rattle.commands.specs.Writing.{command_bytes, write_refusal}
use Rattle.commands.proofs.Ranges.{InPower, Ranged, RangedList, too_big}
use Rattle.commands.proofs.Reread.{entry_at, entry_read, Writable}
use Rattle.commands.proofs.RoundTrip.{read_accepts, typed_writable, read_writes}
use Rattle.types.specs.declared.{Nwk.Nwk, PanId.PanId}
use Rattle.commands.specs.declared.{NwkCommand.NwkCommand, NwkCommandList.NwkCommandList, NwkCommandWithLists.NwkCommandWithLists, NwkLinkStatus.NwkLinkStatus, NwkPowerListEntry.NwkPowerListEntry}
use Rattle.command_records.specs.CommandRecord.{command_record, write_record_refusal}
use Rattle.command_records.proofs.Lengths.{length_places}
use Rattle.command_records.proofs.Fits.{RelayFits, LinkFits, PanIdFits, ListFits, CommandFits}
use Rattle.command_records.proofs.RoundTrip.{record_back}

-- ---- the places of a list that was read

get_or_blank : {A : Type 0} (d : A) (m k : ℕ) → get_or (replicate m d) k d ≡ d
get_or_blank d m k =
    elim (dec_lt k m) [
      | yes l ↦ get_or-replicate m k d d l
      | no l ↦ get_or-eq_default (replicate m d) d {n = k} (rw (length-replicate m d) (omega arith))
    ]

-- past the list a place is blank
get_d_past : {A : Type 0} (d : A) (m : ℕ) (xs : List A) (k : ℕ) → length xs ≤ k → get_or (places d m xs) k d ≡ d
unfolding places
get_d_past d m xs k h =
    let e : k ≡ length xs + (k - length xs) = omega arith in
    rw (e, get_or-append-add xs (drop (length xs) (replicate m d)) (k - length xs) d, get_or-drop (length xs) (replicate m d) (k - length xs) d)
    (get_or_blank d m (length xs + (k - length xs)))

-- a list that fits its places and its entries their types
record Filled {A : Type 0} (Fits : A → Type 0) (d : A) (m : ℕ) (xs : List A) : Type 0 where
  few : length xs ≤ m
  each : (k : ℕ) → k < length xs → Fits (get_or (places d m xs) k d)

none : {A : Type 0} {Fits : A → Type 0} {d : A} {m : ℕ} → Filled Fits d m []
none = record { few = omega arith; each = λ k l. absurd (omega arith) }

filled_fits : {A : Type 0} {Fits : A → Type 0} {d : A} {m : ℕ} {xs : List A} → Fits d → Filled Fits d m xs → ListFits Fits d m (places d m xs)
filled_fits {A} {Fits} {d} {m} {xs} z w =
    record {
      length_is = length_places d m xs w.few;
      entries =
          λ k. elim (dec_lt k (length xs)) [ yes l ↦ w.each k l | no l ↦ rw (get_d_past d m xs k (omega arith)) z ];
    }

with_fits : (c : NwkCommand) {r : List Nwk} {l : List NwkLinkStatus} {p : List PanId} {w : List NwkPowerListEntry} (b : List ℕ) → Ranged c
    → Filled RelayFits no_nwk 53 r → Filled LinkFits no_link 31 l → Filled PanIdFits no_pan_id 31 p → Filled InPower no_power 35 w
    → length b ≤ 108 → CommandFits (with_lists c r l p w b)
unfolding with_lists
with_fits c {r} {l} {p} {w} b h fr fl fp fw fb =
    record {
      command = h;
      relays = filled_fits (omega arith) fr;
      links = filled_fits (omega arith) fl;
      pan_ids = filled_fits (omega arith) fp;
      powers = filled_fits (omega arith) fw;
      bytes = length_places 0 108 b fb;
    }

-- ---- what was read

link_read : (s : List ℕ) (k : ℕ) → Below 256 s → LinkFits (link_of (entry_at link_status_format s k))
unfolding link_of link_status_format read_fields read_field kept part_sizes fields
link_read s k b = (le_at_lt 2 s _ b, omega arith, omega arith)

listed_fits : (k : NwkCommandList) (c : NwkCommand) (s : List ℕ) → Below 256 s → Ranged c → RangedList k (listed k c s)
    → too_big k c (listed k c s) ≡ false → CommandFits (listed k c s)
unfolding listed with_lists too_big values
listed_fits NwkCommandList.NoList c s b h r t = with_fits c [] h none none none none (omega arith)
listed_fits NwkCommandList.Relays c s b h r t = with_fits c [] h (record { few = ltb-false 53 _ t; each = r }) none none none (omega arith)
listed_fits NwkCommandList.LinkStatuses c s b h r t =
    let n = announced link_status_format s in
    with_fits c [] h none
    (record { few = ltb-false 31 _ (or_false _ _ t).0; each = λ k l. rw (entry_read link_of (entry_at link_status_format s) n no_link 31 k l) (link_read s k b) })
    none none (omega arith)
listed_fits NwkCommandList.PanIds c s b h r t = with_fits c [] h none none (record { few = ltb-false 31 _ t; each = r }) none (omega arith)
listed_fits NwkCommandList.PowerList c s b h r t = with_fits c [] h none none none (record { few = ltb-false 35 _ t; each = r }) (omega arith)
listed_fits NwkCommandList.Bytes c s b h r t = with_fits c [] h none none none none (omega arith)

parsed_fits : (s : List ℕ) (t : Option NwkCommand) → Writable s t → Below 256 s → length s ≤ 108 → CommandFits (parsed t s)
unfolding parsed unparsed
parsed_fits s (Some c) w b h = listed_fits (list_of c) c s b w.1 w.2.0 w.2.1
parsed_fits s None w b h = with_fits NwkCommand.Unparsed s tt none none none none h

-- every command that was read is within the ranges of its types
pub read_fits : (s : List ℕ) → Below 256 s → length s ≤ 108 → CommandFits (read_command s).command
read_fits s b h = rw (read_accepts s h) (parsed_fits s (typed s) (typed_writable s b h) b h)

only_by : (n : ℕ) → first_of (by n ∷ []) ≡ n
unfolding first_of
only_by n = unless_number n

-- reading at most 108 bytes into a record and writing that record is refused by nothing but 18
pub record_read_is_refused_by_18_alone : (s : List ℕ) (room : ℕ) → Below 256 s → length s ≤ 108
    → let f = (read_command s).command in write_record_refusal (command_record f) room ≡ first_of (on 18 (ltb room (length (command_bytes f))) ∷ [])
unfolding write_record_refusal
record_read_is_refused_by_18_alone s room b h =
    let f : NwkCommandWithLists = (read_command s).command in
    ap (λ (r : NwkCommandRead). first_of (by r.refusal ∷ by (write_refusal r.command room) ∷ [])) (record_back f (read_fits s b h))
    ∙ skip_by 0 _ refl ∙ only_by (write_refusal f room) ∙ read_writes s room b h
