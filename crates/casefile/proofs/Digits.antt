-- Two digits more are read, and one byte is stored; the answer at the end.
-- Assumes nothing.
use mathlib.Core.Bool.{Bool, true, false, and-false}
use mathlib.Core.Path.{◌≡◌, refl, ap, ◌∙◌}
use mathlib.Core.List.{List, [], ◌∷◌, ◌++◌, append_assoc, append-nil}
use Prim.Native.Nat.{ℕ, zero, suc, ◌+◌, ◌*◌, ◌≤◌, ◌<◌}
use native.Mathlib.Numerals.{add-one}
use native.Mathlib.Omega.{arith}
use borrow.Author.Tests.{lt-ltb, eq-eqb, ne_eqb}
use lib.ListN.{length, get_or, take, drop, set, drop_of_length-le}
use lib.Seq.{take-suc-set, take_all}
use Rattle.casefile.specs.Hex.{digit_value, hex_bytes, all_digits, is_hex}
use Rattle.casefile.proofs.Texts.{from_here}

-- the digits from pair i on are two digits and those from pair i + 1 on
pair_here : (ds : List ℕ) (i : ℕ) → 2 * i + 1 < length ds
    → drop (2 * i) ds ≡ get_or ds (2 * i) 0 ∷ get_or ds (2 * i + 1) 0 ∷ drop (2 * (i + 1)) ds
pair_here ds i h =
    let next : 2 * (i + 1) ≡ 2 * i + 1 + 1 = omega arith in
    rw next (from_here ds (2 * i) (omega arith) ∙ ap (λ (l : List ℕ). get_or ds (2 * i) 0 ∷ l) (from_here ds (2 * i + 1) h))

pub digits_more : (ds : List ℕ) (i : ℕ) → 2 * i + 1 < length ds → digit_value (get_or ds (2 * i) 0) < 16 → digit_value (get_or ds (2 * i + 1) 0) < 16
    → all_digits (drop (2 * i) ds) ≡ all_digits (drop (2 * (i + 1)) ds)
unfolding all_digits
digits_more ds i h high low = rw (pair_here ds i h, lt-ltb _ _ high, lt-ltb _ _ low)

pub high_not : (ds : List ℕ) (i : ℕ) → 2 * i + 1 < length ds → digit_value (get_or ds (2 * i) 0) ≡ 16 → all_digits (drop (2 * i) ds) ≡ false
unfolding all_digits
high_not ds i h e = rw (pair_here ds i h, e)

pub low_not : (ds : List ℕ) (i : ℕ) → 2 * i + 1 < length ds → digit_value (get_or ds (2 * i + 1) 0) ≡ 16 → all_digits (drop (2 * i) ds) ≡ false
unfolding all_digits
low_not ds i h e = rw (pair_here ds i h, e, and-false)

-- one more byte is stored
pub byte_stored : (ds out : List ℕ) (i v : ℕ) → 2 * i + 1 < length ds → i < length out
    → v ≡ digit_value (get_or ds (2 * i) 0) * 16 + digit_value (get_or ds (2 * i + 1) 0)
    → take i out ++ hex_bytes (drop (2 * i) ds) ≡ take (i + 1) (set out i v) ++ hex_bytes (drop (2 * (i + 1)) ds)
unfolding hex_bytes
byte_stored ds out i v h k e =
    let step : take (i + 1) (set out i v) ≡ take i out ++ (v ∷ []) = rw (add-one i) (take-suc-set out i v k) in
    rw (pair_here ds i h, step, append_assoc, e)

-- ---- the answer

pub hex_none : (ds : List ℕ) (n : ℕ) → length ds ≡ 0 → is_hex ds n ≡ false
unfolding is_hex
hex_none ds zero h = refl
hex_none ds (suc n) h = rw (ne_eqb (length ds) (2 * suc n) (λ e. omega arith), and-false)

pub hex_not : (ds : List ℕ) (n : ℕ) → (length ds ≡ 2 * n → ⊥) → is_hex ds n ≡ false
unfolding is_hex
hex_not ds n h = rw (ne_eqb (length ds) (2 * n) h, and-false)

-- where the digits passed are digits, the answer is that of the pairs left
pub hex_by : (ds : List ℕ) (n i : ℕ) {b : Bool} → 0 < n → length ds ≡ 2 * n → all_digits ds ≡ all_digits (drop (2 * i) ds) → all_digits (drop (2 * i) ds) ≡ b
    → is_hex ds n ≡ b
unfolding is_hex
hex_by ds n i p h e r = rw (lt-ltb 0 n p, eq-eqb (length ds) (2 * n) h) (e ∙ r)

pub digits_end : (ds : List ℕ) (i : ℕ) → length ds ≤ i → all_digits (drop i ds) ≡ true
unfolding all_digits
digits_end ds i h = rw (drop_of_length-le ds h)

pub bytes_end : (ds out : List ℕ) (i : ℕ) → length ds ≤ 2 * i → length out ≤ i → take i out ++ hex_bytes (drop (2 * i) ds) ≡ out
unfolding hex_bytes
bytes_end ds out i h k = rw (drop_of_length-le ds h, take_all i out k, append-nil)
