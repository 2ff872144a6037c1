-- The fields that may be missing: how long their bytes are, reading them from those bytes, and the bytes of what was read.
-- Assumes nothing.
use Rattle.std.specs.Prelude.{Option, Some, None}
use Rattle.std.specs.Bool.{then_some}
use mathlib.Core.Path.{◌≡◌, refl, sym, ap, ◌∙◌}
use mathlib.Core.Bool.{Bool, true, false, cond}
use mathlib.Core.List.{List, [], ◌∷◌, ◌++◌, append_assoc}
use mathlib.Core.Logic.{⊎_elim}
use Prim.Native.Nat.{ℕ, zero, suc, ◌+◌, ◌*◌, ◌^◌, ◌≤◌, ◌<◌}
use native.Mathlib.Nat.{mod-eq_of_lt, add_assoc}
use native.Mathlib.Numerals.{add-one}
use native.Mathlib.Omega.{arith}
use lib.ListN.{length, get_or, take, drop, length-append}
use lib.Seq.{drop-drop, take-add, drop-cons}
use Rattle.octets.specs.Strings.{over, Below}
use Rattle.octets.specs.Numbers.{le, le_at}
use Rattle.octets.proofs.Strings.{over_over, below_or_last}
use Rattle.octets.proofs.Numbers.{length_le, le_at_le, le_le_at, le_at_behind}
use Rattle.types.specs.declared.Nwk.{Nwk}
use Rattle.types.specs.Addresses.{nwk, no_nwk}
use Rattle.header.specs.declared.optional.NwkSourceRoute.{NwkSourceRoute}
use Rattle.header.specs.Optional.{has_multicast, multicast_if, multicast_bytes, has_route, route_if, relay_count, relay_bytes, route_bytes}
use Rattle.types.specs.Optional.{has_ieee, ieee_if, ieee_bytes}
use Rattle.octets.specs.Fields.{bit}
use Rattle.header.specs.Same.{IeeeFits, MulticastFits, RouteFits, RelaysFit}

-- ---- a byte is a number of one byte

pub le_byte : (x : ℕ) → x < 2 ^ 8 → le 1 x ≡ x ∷ []
unfolding le
le_byte x h = ap (λ (y : ℕ). y ∷ []) (mod-eq_of_lt h)

pub byte_read : (f : List ℕ) (i : ℕ) → Below 256 f → i < length f → le 1 (get_or f i 0) ≡ take 1 (drop i f)
byte_read f i b h = le_byte (get_or f i 0) (b i) ∙ rw (drop-cons f i 0 h) refl

-- a part of a byte string: the first a + n bytes are the first a and the n behind them
pub take_join : (f : List ℕ) (a n : ℕ) (x r : List ℕ) → x ≡ take n (drop a f) → take a f ++ (x ++ r) ≡ take (a + n) f ++ r
take_join f a n x r e =
    sym (append_assoc (take a f) x r) ∙ ap (λ (l : List ℕ). l ++ r) (ap (λ (l : List ℕ). take a f ++ l) e ∙ sym (take-add a n f))

-- ---- a long address

pub ieee_length : (o : Option ℕ) → length (ieee_bytes o) ≡ 8 * bit (has_ieee o)
ieee_length None = refl
ieee_length (Some x) = length_le 8 x

pub ieee_back : (o : Option ℕ) (r : List ℕ) → IeeeFits o → ieee_if (has_ieee o) (le_at 8 (ieee_bytes o ++ r) 0) ≡ o
ieee_back None r h = refl
ieee_back (Some x) r h = ap Some (le_at_le 8 x r h)

pub ieee_read : (f : List ℕ) (b : Bool) (i : ℕ) → Below 256 f → i + 8 * bit b ≤ length f
    → ieee_bytes (ieee_if b (le_at 8 f i)) ≡ take (8 * bit b) (drop i f)
ieee_read f true i u h = le_le_at 8 f i u h
ieee_read f false i u h = refl

-- what the code makes of a presence bit
pub ieee_when : (b : Bool) (x : ℕ) → then_some b x ≡ ieee_if b x
ieee_when true x = refl
ieee_when false x = refl

pub ieee_has : (b : Bool) (x : ℕ) → has_ieee (ieee_if b x) ≡ b
ieee_has true x = refl
ieee_has false x = refl

-- ---- the multicast control byte

pub multicast_length : (o : Option ℕ) → length (multicast_bytes o) ≡ bit (has_multicast o)
multicast_length None = refl
multicast_length (Some x) = length_le 1 x

pub multicast_back : (o : Option ℕ) (r : List ℕ) → MulticastFits o
    → multicast_if (has_multicast o) (get_or (multicast_bytes o ++ r) 0 0) ≡ o
multicast_back None r h = refl
multicast_back (Some x) r h = ap Some (rw (le_byte x h) refl)

pub multicast_read : (f : List ℕ) (b : Bool) (i : ℕ) → Below 256 f → i + bit b ≤ length f
    → multicast_bytes (multicast_if b (get_or f i 0)) ≡ take (bit b) (drop i f)
multicast_read f true i u h = byte_read f i u (omega arith)
multicast_read f false i u h = refl

pub multicast_when : (b : Bool) (x : ℕ) → then_some b x ≡ multicast_if b x
multicast_when true x = refl
multicast_when false x = refl

pub multicast_has : (b : Bool) (x : ℕ) → has_multicast (multicast_if b x) ≡ b
multicast_has true x = refl
multicast_has false x = refl

-- ---- the relays

pub relay_length : (n : ℕ) (rs : List Nwk) → length (relay_bytes n rs) ≡ 2 * n
unfolding relay_bytes
relay_length zero rs = refl
relay_length (suc n) rs = simp (length-append, relay_length n rs, length_le) (omega arith)

-- each relay stands at its place
pub relay_at_lem : (n : ℕ) (rs : List Nwk) (r : List ℕ) (i : ℕ) → RelaysFit rs → i < n → nwk (le_at 2 (relay_bytes n rs ++ r) (2 * i)) ≡ get_or rs i no_nwk
unfolding relay_bytes
relay_at_lem zero rs r i b h = absurd (omega arith)
relay_at_lem (suc n) rs r i b h =
    rw (append_assoc (relay_bytes n rs) (le 2 (get_or rs n no_nwk).0) r)
    (⊎_elim
    (λ l. relay_at_lem n rs (le 2 (get_or rs n no_nwk).0 ++ r) i b l)
    (λ (e : i ≡ n).
    let place : length (relay_bytes n rs) + 0 ≡ 2 * i = rw (relay_length n rs) (omega arith) in
    ap nwk (ap (λ (k : ℕ). le_at 2 (relay_bytes n rs ++ (le 2 (get_or rs n no_nwk).0 ++ r)) k) (sym place)
    ∙ le_at_behind 2 (relay_bytes n rs) (le 2 (get_or rs n no_nwk).0 ++ r) 0
    ∙ le_at_le 2 (get_or rs n no_nwk).0 r (b n))
    ∙ ap (λ (k : ℕ). get_or rs k no_nwk) (sym e))
    (below_or_last i n h))

-- relays that agree below the count have the same bytes
pub relay_same : (n : ℕ) (rs ss : List Nwk) → ((i : ℕ) → i < n → get_or rs i no_nwk ≡ get_or ss i no_nwk) → relay_bytes n rs ≡ relay_bytes n ss
unfolding relay_bytes
relay_same zero rs ss h = refl
relay_same (suc n) rs ss h = λ i. relay_same n rs ss (λ k l. h k (omega arith)) i ++ le 2 (h n (omega arith) i).0

-- the bytes of relays read from place p
pub relay_read : (f : List ℕ) (n p : ℕ) (rs : List Nwk) → Below 256 f → p + 2 * n ≤ length f
    → ((i : ℕ) → i < n → get_or rs i no_nwk ≡ nwk (le_at 2 f (p + 2 * i))) → relay_bytes n rs ≡ take (2 * n) (drop p f)
unfolding relay_bytes
relay_read f zero p rs b l h = refl
relay_read f (suc n) p rs b l h =
    let more : 2 * suc n ≡ 2 * n + 2 = omega arith in
    rw (more, take-add (2 * n) 2 (drop p f), drop-drop (2 * n) p f)
    (λ i. relay_read f n p rs b (omega arith) (λ k m. h k (omega arith)) i
    ++ (ap (λ (a : Nwk). le 2 a.0) (h n (omega arith)) ∙ le_le_at 2 f (p + 2 * n) b (omega arith)) i)

-- a loop that writes relays: one more stands at its place
pub relays_more : (o : List ℕ) (i j : ℕ) (rs : List Nwk) → i ≤ length o
    → over (over o i (relay_bytes j rs)) (i + 2 * j) (le 2 (get_or rs j no_nwk).0) ≡ over o i (relay_bytes (j + 1) rs)
unfolding relay_bytes
relays_more o i j rs h =
    rw (add-one j) (over_over o i (i + 2 * j) (relay_bytes j rs) (le 2 (get_or rs j no_nwk).0) h (ap (λ (k : ℕ). i + k) (sym (relay_length j rs))))

-- ---- the source route

pub route_length : (o : Option NwkSourceRoute) (rs : List Nwk) → length (route_bytes o rs) ≡ cond (has_route o) (2 + 2 * relay_count o) 0
route_length None rs = refl
route_length (Some r) rs = simp (length-append, length_le, relay_length) (omega arith)

pub route_when : (b : Bool) (r : NwkSourceRoute) → then_some b r ≡ route_if b r.relay_count r.relay_index
route_when true r = refl
route_when false r = refl

pub route_has : (b : Bool) (n i : ℕ) → has_route (route_if b n i) ≡ b
route_has true n i = refl
route_has false n i = refl

pub route_count : (b : Bool) (n i : ℕ) → relay_count (route_if b n i) ≡ cond b n 0
route_count true n i = refl
route_count false n i = refl

pub route_back : (o : Option NwkSourceRoute) (rs : List Nwk) (r : List ℕ) → RouteFits o
    → route_if (has_route o) (get_or (route_bytes o rs ++ r) 0 0) (get_or (route_bytes o rs ++ r) 1 0) ≡ o
route_back None rs r h = refl
route_back (Some o) rs r h = rw (le_byte o.relay_count h.0, le_byte o.relay_index h.1) refl

pub route_relays : (o : Option NwkSourceRoute) (rs : List Nwk) (r : List ℕ) (i : ℕ) → RouteFits o → RelaysFit rs → i < relay_count o
    → nwk (le_at 2 (route_bytes o rs ++ r) (2 + 2 * i)) ≡ get_or rs i no_nwk
route_relays None rs r i h b l = absurd (omega arith)
route_relays (Some o) rs r i h b l =
    rw (le_byte o.relay_count h.0, le_byte o.relay_index h.1)
    (ap nwk (le_at_behind 2 (o.relay_count ∷ o.relay_index ∷ []) (relay_bytes o.relay_count rs ++ r) (2 * i)) ∙ relay_at_lem o.relay_count rs r i b l)

-- relays that agree below the count make the same source route
pub route_same : (o : Option NwkSourceRoute) (rs ss : List Nwk) → ((i : ℕ) → i < relay_count o → get_or rs i no_nwk ≡ get_or ss i no_nwk)
    → route_bytes o rs ≡ route_bytes o ss
route_same None rs ss h = refl
route_same (Some o) rs ss h = ap (λ (l : List ℕ). le 1 o.relay_count ++ (le 1 o.relay_index ++ l)) (relay_same o.relay_count rs ss h)

-- the bytes of a source route read from place p, its relays being those behind
pub route_read : (f : List ℕ) (b : Bool) (p : ℕ) (rs : List Nwk) → Below 256 f
    → p + cond b (2 + 2 * get_or f p 0) 0 ≤ length f
    → ((i : ℕ) → i < cond b (get_or f p 0) 0 → get_or rs i no_nwk ≡ nwk (le_at 2 f (p + 2 + 2 * i)))
    → route_bytes (route_if b (get_or f p 0) (get_or f (p + 1) 0)) rs ≡ take (cond b (2 + 2 * get_or f p 0) 0) (drop p f)
route_read f false p rs u l h = refl
route_read f true p rs u l h =
    let n : ℕ = get_or f p 0 in
    let split : 2 + 2 * n ≡ 1 + (1 + 2 * n) = omega arith in
    let count : le 1 n ≡ take 1 (drop p f) = byte_read f p u (omega arith) in
    let index : le 1 (get_or f (p + 1) 0) ≡ take 1 (drop (p + 1) f) = byte_read f (p + 1) u (omega arith) in
    let relays : relay_bytes n rs ≡ take (2 * n) (drop (p + 2) f) = relay_read f n (p + 2) rs u (omega arith) h in
    rw (split, take-add 1 (1 + 2 * n) (drop p f), take-add 1 (2 * n) (drop 1 (drop p f)), drop-drop 1 p f, drop-drop 1 (p + 1) f, add_assoc p 1 1)
    (λ i. count i ++ (index i ++ relays i))
