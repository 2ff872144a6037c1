-- Writing undoes reading: the bytes of a header that was read are exactly the bytes that were read, and such a header
-- meets every condition of writing. Each field's bytes are those at its place, and the places are joined from the front.
-- Assumes nothing.
use mathlib.Core.Path.{◌≡◌, refl, sym, ap, ◌∙◌}
use mathlib.Core.Bool.{Bool, true, false, cond}
use mathlib.Core.List.{List, ◌++◌}
use Prim.Native.Nat.{ℕ, ◌+◌, ◌*◌, ◌%◌, ◌/◌, ◌≤◌, ◌<◌}
use native.Mathlib.Omega.{arith}
use lib.ListN.{length, get_or, take}
use lib.Seq.{take-add}
use lib.Dec.{ltb, eqb}
use borrow.Author.Tests.{le-ltb, lt-ltb, ltb-false}
use Rattle.octets.specs.Strings.{Below}
use Rattle.octets.specs.Numbers.{le, le_at}
use Rattle.octets.proofs.Strings.{get_or_tab}
use Rattle.octets.proofs.Numbers.{le_le_at, le_at_lt}
use Rattle.octets.proofs.Conditions.{none}
use Rattle.header.specs.declared.control.NwkFrameControl.{NwkFrameControl}
use Rattle.header.specs.Optional.{multicast_if, multicast_bytes, route_if, route_bytes}
use Rattle.types.specs.Addresses.{nwk, no_nwk}
use Rattle.types.specs.Optional.{ieee_if, ieee_bytes}
use Rattle.octets.specs.Fields.{bit}
use Rattle.header.specs.Control.{control_word}
use Rattle.header.specs.Reading.{control, source_at, multicast_at, route_at, relays_announced, header_end, header_refusal, optional_refusals, relays_of, header_by}
use Rattle.header.specs.Writing.{fixed_bytes, optional_bytes, header_bytes, bad_header}
use Rattle.header.specs.Same.{Agrees}
use Rattle.header.proofs.ControlFields.{word_back, control_good}
use Rattle.header.proofs.OptionalFields.{byte_read, take_join, ieee_read, ieee_has, multicast_read, multicast_has, route_read, route_has, route_count}
use Rattle.header.proofs.ReadBack.{places}

-- what it means that no condition of reading holds
pub record Read (f : List ℕ) : Type 0 where
  pub short : length f ≤ 118
  pub type : eqb (le_at 2 f 0 % 4) 2 ≡ false
  pub discovery : eqb (le_at 2 f 0 / 64 % 4) 3 ≡ false
  pub ends : header_end f (control f) ≤ length f

pub header_read : (f : List ℕ) → header_refusal f ≡ 0 → Read f
unfolding header_refusal optional_refusals
header_read f e =
    let n = none _ e in
    record {
      short = ltb-false 118 (length f) n.0;
      type = n.1.1.0;
      discovery = n.1.1.1.0;
      ends = ltb-false (length f) (header_end f (control f)) n.1.1.1.1.1.1.1.0;
    }

fixed_read : (f : List ℕ) → Below 256 f → Read f → fixed_bytes (header_by f (control f)) ≡ take 8 f
unfolding fixed_bytes header_by
fixed_read f u r =
    let p = places f (control f) in
    let e = r.ends in
    let w : le 2 (control_word (control f)) ≡ take 2 f =
    ap (le 2) (word_back (le_at 2 f 0) (le_at_lt 2 f 0 u) r.type r.discovery) ∙ le_le_at 2 f 0 u (omega arith) in
    (λ i. w i ++ (le_le_at 2 f 2 u (omega arith) i ++ (le_le_at 2 f 4 u (omega arith) i ++ (byte_read f 6 u (omega arith) i ++ byte_read f 7 u (omega arith) i))))
    ∙ take_join f 2 2 _ _ refl ∙ take_join f 4 2 _ _ refl ∙ take_join f 6 1 _ _ refl ∙ sym (take-add 7 1 f)

route_size : (b : Bool) (n : ℕ) → cond b (2 + 2 * cond b n 0) 0 ≡ cond b (2 + 2 * n) 0
route_size true n = refl
route_size false n = refl

few_relays : (b : Bool) (n r l : ℕ) → r + cond b (2 + 2 * cond b n 0) 0 ≤ l → 8 ≤ r → l ≤ 118 → cond b n 0 ≤ 54
few_relays true n r l e p h = omega arith
few_relays false n r l e p h = omega arith

-- a frame has no room for a 55th relay
few : (f : List ℕ) → Read f → relays_announced f (control f) ≤ 54
unfolding header_end relays_announced
few f r =
    let p = places f (control f) in
    few_relays (control f).source_route (get_or f (route_at (control f)) 0) (route_at (control f)) (length f) r.ends (omega arith) r.short

-- a relay below the count is the one at its place
relay_kept : (f : List ℕ) (c : NwkFrameControl) (i : ℕ) → relays_announced f c ≤ 54 → i < relays_announced f c
    → get_or (relays_of f c) i no_nwk ≡ nwk (le_at 2 f (route_at c + 2 + 2 * i))
unfolding relays_of
relay_kept f c i h l =
    get_or_tab _ 54 i no_nwk (omega arith)
    ∙ ap (λ (b : Bool). cond b (nwk (le_at 2 f (route_at c + 2 + 2 * i))) no_nwk) (lt-ltb i (relays_announced f c) l)

pub write_back : (f : List ℕ) → Below 256 f → header_refusal f ≡ 0
    → header_bytes (header_by f (control f)) ≡ take (header_end f (control f)) f
unfolding header_bytes optional_bytes header_by header_end route_at multicast_at source_at relays_announced
write_back f u e =
    let r = header_read f e in
    let c : NwkFrameControl = control f in
    let p = places f c in
    let size = route_size c.source_route (get_or f (route_at c) 0) in
    let ends = r.ends in
    (λ i. fixed_read f u r i ++ (ieee_bytes (ieee_if c.destination (le_at 8 f 8)) ++ (ieee_bytes (ieee_if c.extended_source (le_at 8 f (source_at c)))
    ++ (multicast_bytes (multicast_if c.multicast (get_or f (multicast_at c) 0))
    ++ route_bytes (route_if c.source_route (get_or f (route_at c) 0) (get_or f (route_at c + 1) 0)) (relays_of f c)))))
    ∙ take_join f 8 (8 * bit c.destination) _ _ (ieee_read f c.destination 8 u (omega arith))
    ∙ take_join f (source_at c) (8 * bit c.extended_source) _ _ (ieee_read f c.extended_source (source_at c) u (omega arith))
    ∙ take_join f (multicast_at c) (bit c.multicast) _ _ (multicast_read f c.multicast (multicast_at c) u (omega arith))
    ∙ ap (λ (l : List ℕ). take (route_at c) f ++ l)
    (route_read f c.source_route (route_at c) (relays_of f c) u (rw (← size) ends) (λ i l. relay_kept f c i (few f r) l))
    ∙ sym (take-add (route_at c) (cond c.source_route (2 + 2 * get_or f (route_at c) 0) 0) f)
    ∙ ap (λ (n : ℕ). take (route_at c + n) f) (sym size)

-- ---- a header that was read meets every condition

pub read_good : (f : List ℕ) → header_refusal f ≡ 0 → bad_header (header_by f (control f)) ≡ false
unfolding bad_header header_by relays_announced
read_good f e =
    let n = route_count (control f).source_route (get_or f (route_at (control f)) 0) (get_or f (route_at (control f) + 1) 0) in
    rw (control_good (le_at 2 f 0)) (ap (ltb 54) n ∙ le-ltb 54 _ (few f (header_read f e)))

pub read_agrees : (f : List ℕ) (c : NwkFrameControl) → Agrees (header_by f c)
unfolding header_by
read_agrees f c =
    record {
      destination = sym (ieee_has c.destination _);
      source = sym (ieee_has c.extended_source _);
      multicast = sym (multicast_has c.multicast _);
      route = sym (route_has c.source_route _ _);
    }
