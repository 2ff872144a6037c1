-- Numbers of n bytes, least significant byte first: writing and reading undo each other, and a number is made of its
-- lower and its upper bytes. All by induction on n.
-- Assumes nothing.
use mathlib.Core.Path.{◌≡◌, refl, sym, ap, ◌∙◌}
use mathlib.Core.List.{List, [], ◌∷◌, ◌++◌}
use Prim.Native.Nat.{ℕ, zero, suc, ◌+◌, ◌*◌, ◌/◌, ◌%◌, ◌^◌, ◌≤◌, ◌<◌}
use native.Mathlib.Nat.{mod-lt, mod-add-div', pow-suc, pow-zero, suc-add, zero-add, add-zero, add_assoc, add-mul, mul_assoc, mul_comm, div-div-eq-div-mul, div-lt_iff_lt-mul, div-one, mul-one}
use native.Mathlib.Numerals.{add-one, one-add}
use native.Mathlib.Omega.{arith}
use lib.ListN.{length, get_or, take, drop, get_or-eq_default}
use lib.Seq.{get_or-append-add, drop-cons}
use lib.Arith.{digits_lt, mod-mul}
use Rattle.octets.specs.Strings.{tab, Below}
use Rattle.octets.specs.Numbers.{le, le_at}
use Rattle.octets.proofs.Strings.{tab_cons, tab_ext}

pow_pos : (n : ℕ) → 0 < 256 ^ n
pow_pos zero = omega arith
pow_pos (suc n) = rw pow-suc (let h : 0 < 256 ^ n = pow_pos n in omega arith)

pub length_le : (n x : ℕ) → length (le n x) ≡ n
unfolding le
length_le zero x = refl
length_le (suc n) x = ap suc (length_le n (x / 256))

pub le_below : (n x : ℕ) → Below 256 (le n x)
unfolding le
le_below zero x i = omega arith
le_below (suc n) x zero = mod-lt x (omega arith)
le_below (suc n) x (suc i) = le_below n (x / 256) i

pub le_at_lt : (n : ℕ) (s : List ℕ) (i : ℕ) → Below 256 s → le_at n s i < 256 ^ n
unfolding le_at
le_at_lt zero s i b = omega arith
le_at_lt (suc n) s i b =
    rw (pow-suc, native.Mathlib.Nat.add_comm (get_or s i 0) (le_at n s (i + 1) * 256))
    (digits_lt (le_at_lt n s (i + 1) b) (b i))

-- bytes past the end count 0
pub le_at_past : (n : ℕ) (s : List ℕ) (i : ℕ) → length s ≤ i → le_at n s i ≡ 0
unfolding le_at
le_at_past zero s i h = refl
le_at_past (suc n) s i h = rw (get_or-eq_default s 0 h, le_at_past n s (i + 1) (omega arith)) refl

-- only the n bytes from place i count
pub le_at_same : (n : ℕ) (s t : List ℕ) (i j : ℕ) → ((k : ℕ) → k < n → get_or s (i + k) 0 ≡ get_or t (j + k) 0) → le_at n s i ≡ le_at n t j
unfolding le_at
le_at_same zero s t i j h = refl
le_at_same (suc n) s t i j h =
    let first : get_or s i 0 ≡ get_or t j 0 = simp add-zero at (h 0 (omega arith)) in
    let rest : le_at n s (i + 1) ≡ le_at n t (j + 1) =
    le_at_same n s t (i + 1) (j + 1) (λ k l. rw (add_assoc i 1 k, add_assoc j 1 k, one-add) (h (suc k) (omega arith))) in
    λ m. first m + rest m * 256

-- the number of four bytes that stand one behind the other
pub le_at_four : (s : List ℕ) (i : ℕ) → le_at 4 (get_or s i 0 ∷ get_or s (i + 1) 0 ∷ get_or s (i + 2) 0 ∷ get_or s (i + 3) 0 ∷ []) 0 ≡ le_at 4 s i
unfolding le_at
le_at_four s i =
    let third : i + 2 ≡ i + 1 + 1 = omega arith in
    let fourth : i + 3 ≡ i + 1 + 1 + 1 = omega arith in
    rw (third, fourth)

-- behind a front of known length
pub le_at_behind : (n : ℕ) (p s : List ℕ) (i : ℕ) → le_at n (p ++ s) (length p + i) ≡ le_at n s i
le_at_behind n p s i = le_at_same n (p ++ s) s (length p + i) i (λ k l. rw (add_assoc (length p) i k) (get_or-append-add p s (i + k) 0))

-- reading undoes writing
pub le_at_le : (n x : ℕ) (r : List ℕ) → x < 256 ^ n → le_at n (le n x ++ r) 0 ≡ x
unfolding le_at le
le_at_le zero x r h = omega arith
le_at_le (suc n) x r h =
    let small : x / 256 < 256 ^ n = (div-lt_iff_lt-mul {k = 256} (omega arith)).1 (rw (pow-suc) at h) in
    ap (λ (y : ℕ). x % 256 + y * 256) (le_at_behind n (x % 256 ∷ []) (le n (x / 256) ++ r) 0 ∙ le_at_le n (x / 256) r small)
    ∙ mod-add-div' x 256

-- writing undoes reading
pub le_le_at : (n : ℕ) (s : List ℕ) (i : ℕ) → Below 256 s → i + n ≤ length s → le n (le_at n s i) ≡ take n (drop i s)
unfolding le_at le
le_le_at zero s i b h = refl
le_le_at (suc n) s i b h =
    let small : get_or s i 0 < 256 = b i in
    let low : (get_or s i 0 + le_at n s (i + 1) * 256) % 256 ≡ get_or s i 0 = omega arith in
    let high : (get_or s i 0 + le_at n s (i + 1) * 256) / 256 ≡ le_at n s (i + 1) = omega arith in
    rw (drop-cons s i 0 (omega arith), ← add-one i)
    (λ k. low k ∷ (ap (le n) high ∙ le_le_at n s (i + 1) b (omega arith)) k)

-- the same of the bytes from place i on, those past the end being 0
pub le_le_at_tab : (n : ℕ) (s : List ℕ) (i : ℕ) → Below 256 s → le n (le_at n s i) ≡ tab (λ (k : ℕ). get_or s (i + k) 0) n
unfolding le_at le tab
le_le_at_tab zero s i b = refl
le_le_at_tab (suc n) s i b =
    let small : get_or s i 0 < 256 = b i in
    let low : (get_or s i 0 + le_at n s (i + 1) * 256) % 256 ≡ get_or s i 0 = omega arith in
    let high : (get_or s i 0 + le_at n s (i + 1) * 256) / 256 ≡ le_at n s (i + 1) = omega arith in
    (λ k. low k ∷ (ap (le n) high ∙ le_le_at_tab n s (i + 1) b) k)
    ∙ (λ k. ap (λ (j : ℕ). get_or s j 0) (sym (add-zero i)) k
    ∷ tab_ext (λ (j : ℕ). get_or s (i + 1 + j) 0) (λ (j : ℕ). get_or s (i + suc j) 0) n (λ j l. rw (add_assoc i 1 j, one-add) refl) k)
    ∙ sym (tab_cons (λ (k : ℕ). get_or s (i + k) 0) n)

-- four bytes
pub le_le_at_four : (a b c d : ℕ) → a < 256 → b < 256 → c < 256 → d < 256 → le 4 (le_at 4 (a ∷ b ∷ c ∷ d ∷ []) 0) ≡ a ∷ b ∷ c ∷ d ∷ []
unfolding tab
le_le_at_four a b c d ha hb hc hd = le_le_at_tab 4 (a ∷ b ∷ c ∷ d ∷ []) 0 bytes
  where
    bytes : Below 256 (a ∷ b ∷ c ∷ d ∷ [])
    bytes zero = ha
    bytes (suc zero) = hb
    bytes (suc (suc zero)) = hc
    bytes (suc (suc (suc zero))) = hd
    bytes (suc (suc (suc (suc i)))) = omega arith

-- the lower m bytes and the n above them
pub le_add : (m n x : ℕ) → le (m + n) x ≡ le m x ++ le n (x / 256 ^ m)
unfolding le
le_add zero n x = rw (zero-add, pow-zero, div-one) refl
le_add (suc m) n x = rw (suc-add, pow-suc, mul_comm (256 ^ m) 256) (ap (λ (r : List ℕ). x % 256 ∷ r) (le_add m n (x / 256) ∙ rw (div-div-eq-div-mul x 256 (256 ^ m)) refl))

-- a number's lower bytes are those of its remainder
pub le_mod : (n x : ℕ) → le n (x % 256 ^ n) ≡ le n x
unfolding le
le_mod zero x = refl
le_mod (suc n) x =
    let split : x % 256 ^ suc n ≡ x / 256 % 256 ^ n * 256 + x % 256 = rw pow-suc (mod-mul x {m = 256 ^ n} {c = 256} (pow_pos n) (omega arith)) in
    let low : x % 256 ^ suc n % 256 ≡ x % 256 = omega arith in
    let high : x % 256 ^ suc n / 256 ≡ x / 256 % 256 ^ n = omega arith in
    λ k. low k ∷ (ap (le n) high ∙ le_mod n (x / 256)) k

pub le_at_add : (m n : ℕ) (s : List ℕ) (i : ℕ) → le_at (m + n) s i ≡ le_at m s i + le_at n s (i + m) * 256 ^ m
unfolding le_at
le_at_add zero n s i = rw (zero-add, add-zero, zero-add, pow-zero, mul-one) refl
le_at_add (suc m) n s i =
    rw (suc-add, pow-suc, le_at_add m n s (i + 1), add_assoc i 1 m, one-add, add-mul, mul_assoc, add_assoc) refl
