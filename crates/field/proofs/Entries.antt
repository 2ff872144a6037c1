-- The table of the rounds by its entries: at each byte the four bytes of the entry are the multiples of what the byte is substituted by. The
-- two copies of an entry are one number of eight bytes, and four of them in a row are the multiples turned.
-- Assumes nothing.
use mathlib.Core.Path.{◌≡◌, refl, sym, ap, ◌∙◌}
use mathlib.Core.List.{List, ◌++◌}
use Prim.Native.Nat.{ℕ, zero, suc, ◌+◌, ◌*◌, ◌/◌, ◌%◌, ◌^◌, ◌-◌, ◌<◌, ◌≤◌}
use native.Mathlib.Nat.{le_of_suc-le-suc, not-suc-le-zero, add-zero, zero-add, add-suc, suc-add, pow-suc}
use Rattle.std.proofs.Common.{pow-add}
use native.Mathlib.Omega.{arith}
use lib.ListN.{get_or, take, drop}
use lib.Seq.{take_at, drop_at}
use Rattle.octets.specs.Numbers.{le, le_at}
use Rattle.octets.proofs.Numbers.{length_le, le_le_at_four, le_add, le_mod}
use Rattle.field.specs.Field.{xtime, product}
use Rattle.field.specs.SBox.{sbox}
use Rattle.field.specs.Multiples.{multiples, turned, round_entry, twice_from, round_table}
use Rattle.field.proofs.Bytes.{sbox_byte, double_byte, triple_byte}

-- the multiples of a byte are bytes
multiples_back : (y : ℕ) → y < 256 → le 4 (le_at 4 (multiples y) 0) ≡ multiples y
unfolding multiples
multiples_back y h = le_le_at_four (xtime y) y y (product 3 y) (double_byte y h) h h (triple_byte y h)

copies_from : (f : ℕ → ℕ) (k n i : ℕ) → i < n → (get_or (twice_from f k n) (2 * i) 0 ≡ f (k + i)) × (get_or (twice_from f k n) (2 * i + 1) 0 ≡ f (k + i))
unfolding twice_from
copies_from f k zero i h = absurd (not-suc-le-zero h)
copies_from f k (suc n) zero h = (ap f (sym (add-zero k)), ap f (sym (add-zero k)))
copies_from f k (suc n) (suc i) h =
    let even : 2 * suc i ≡ suc (suc (2 * i)) = omega arith in
    let odd : 2 * suc i + 1 ≡ suc (suc (2 * i + 1)) = omega arith in
    let rest = copies_from f (suc k) n i (le_of_suc-le-suc h) in
    let place = ap f (suc-add k i ∙ sym (add-suc k i)) in
    (rw even (rest.0 ∙ place), rw odd (rest.1 ∙ place))

-- the two copies of an entry
pub copies : (x : ℕ) → x < 256 → (get_or round_table (2 * x) 0 ≡ round_entry x) × (get_or round_table (2 * x + 1) 0 ≡ round_entry x)
unfolding round_table
copies x h =
    let both = copies_from round_entry 0 256 x h in
    (both.0 ∙ ap round_entry (zero-add x), both.1 ∙ ap round_entry (zero-add x))

pub entry_bytes : (x w : ℕ) → w ≡ round_entry x → le 4 w ≡ multiples (sbox x)
unfolding round_entry
entry_bytes x w e = ap (le 4) e ∙ multiples_back (sbox x) (sbox_byte x)

-- an entry is four bytes
entry_below : (x : ℕ) → round_entry x < 2 ^ 32
unfolding le_at multiples round_entry
entry_below x = omega (arith, sbox_byte x, double_byte (sbox x) (sbox_byte x), triple_byte (sbox x) (sbox_byte x))

-- two numbers of four bytes as one of eight
joined : (a b : ℕ) → a < 2 ^ 32 → le 8 (a + b * 4294967296) ≡ le 4 a ++ le 4 b
joined a b h =
    let low : (a + b * 4294967296) % 4294967296 ≡ a = omega arith in
    let high : (a + b * 4294967296) / 4294967296 ≡ b = omega arith in
    le_add 4 4 (a + b * 4294967296) ∙ (λ i. (sym (le_mod 4 (a + b * 4294967296)) ∙ ap (le 4) low) i ++ ap (le 4) high i)

-- four bytes from place k on of a number that has so many
four_from : (k n w : ℕ) (s : List ℕ) → le (k + (4 + n)) w ≡ s → le 4 (w / 256 ^ k % 256 ^ 4) ≡ take 4 (drop k s)
four_from k n w s e =
    let v : ℕ = w / 256 ^ k in
    le_mod 4 v
    ∙ sym (take_at (le 4 v) (le n (v / 256 ^ 4)) 4 (length_le 4 v))
    ∙ ap (take 4) (sym (le_add 4 n v) ∙ sym (drop_at (le k w) (le (4 + n) v) k (length_le k w)))
    ∙ ap (λ (l : List ℕ). take 4 (drop k l)) (sym (le_add k (4 + n) w) ∙ e)

byte_power : (n : ℕ) → 2 ^ (8 * n) ≡ 256 ^ n
byte_power zero = refl
byte_power (suc n) =
    let e : 8 * suc n ≡ 8 * n + 8 = omega arith in
    rw (e, pow-add, byte_power n) (sym (pow-suc 256 n))

-- four bytes of an entry's two copies in a row, from place n on
pub turned_entry : (n x a b : ℕ) → n ≤ 4 → a ≡ round_entry x → b ≡ round_entry x
    → le 4 ((a + b * 4294967296 % 18446744073709551616) / 2 ^ (8 * n) % 4294967296) ≡ turned n (sbox x)
unfolding turned
turned_entry n x a b h ea eb =
    let small : a < 2 ^ 32 = rw ea (entry_below x) in
    let other : b < 2 ^ 32 = rw eb (entry_below x) in
    let whole : a + b * 4294967296 % 18446744073709551616 ≡ a + b * 4294967296 = omega arith in
    let eight : 8 ≡ n + (4 + (4 - n)) = omega arith in
    let copies : le 8 (a + b * 4294967296) ≡ multiples (sbox x) ++ multiples (sbox x) = joined a b small ∙ (λ i. entry_bytes x a ea i ++ entry_bytes x b eb i) in
    rw (whole, byte_power n) (four_from n (4 - n) (a + b * 4294967296) _ (ap (λ (k : ℕ). le k (a + b * 4294967296)) (sym eight) ∙ copies))
