-- Exclusive or: it is associative, by the numbers' binary digits, so that three may be put in any order and the same number twice is
-- undone, for numbers and so for byte strings by index.
-- Assumes nothing.
use mathlib.Core.Path.{◌≡◌, refl, sym, ap, ◌∙◌}
use mathlib.Core.List.{List}
use Prim.Native.Nat.{ℕ, zero, suc, ◌+◌, ◌*◌, ◌/◌, ◌%◌, ◌≤◌, ◌<◌}
use native.Mathlib.Nat.{mod-lt}
use native.Mathlib.Omega.{arith}
use lib.Arith.{bin_ind}
use lib.Bits.{bit_xor, differ, xor_step, xor_zero_r, xor_self, xor_comm, xor_shr}
use lib.ListN.{length, get_or, take}
use Rattle.octets.specs.Strings.{xored}
use Rattle.octets.proofs.Strings.{length_tab, get_or_tab, tab_ext, tab_get_or}

differ_lt : (x y : ℕ) → x < 2 → y < 2 → differ x y < 2
differ_lt zero y hx hy = hy
differ_lt (suc zero) zero hx hy = hx
differ_lt (suc zero) (suc zero) hx hy = omega arith
differ_lt (suc zero) (suc (suc y)) hx hy = absurd (omega arith)
differ_lt (suc (suc x)) y hx hy = absurd (omega arith)

differ_assoc : (x y z : ℕ) → x < 2 → y < 2 → z < 2 → differ (differ x y) z ≡ differ x (differ y z)
differ_assoc zero y z hx hy hz = refl
differ_assoc (suc zero) zero z hx hy hz = refl
differ_assoc (suc zero) (suc zero) zero hx hy hz = refl
differ_assoc (suc zero) (suc zero) (suc zero) hx hy hz = refl
differ_assoc (suc zero) (suc zero) (suc (suc z)) hx hy hz = absurd (omega arith)
differ_assoc (suc zero) (suc (suc y)) z hx hy hz = absurd (omega arith)
differ_assoc (suc (suc x)) y z hx hy hz = absurd (omega arith)

-- the digits of an exclusive or
xor_half : (a b : ℕ) → bit_xor a b / 2 ≡ bit_xor (a / 2) (b / 2)
xor_half a b = xor_shr a b 1

xor_odd : (a b : ℕ) → bit_xor a b % 2 ≡ differ (a % 2) (b % 2)
xor_odd a b =
    let d : ℕ = differ (a % 2) (b % 2) in
    let small : d < 2 = differ_lt (a % 2) (b % 2) (mod-lt a (omega arith)) (mod-lt b (omega arith)) in
    let q : ℕ = bit_xor (a / 2) (b / 2) in
    let odd : (q * 2 + d) % 2 ≡ d = omega arith in
    ap (λ (x : ℕ). x % 2) (xor_step a b) ∙ odd

pub xor_assoc : (a b c : ℕ) → bit_xor (bit_xor a b) c ≡ bit_xor a (bit_xor b c)
xor_assoc a =
    bin_ind (λ (n : ℕ). (b c : ℕ) → bit_xor (bit_xor n b) c ≡ bit_xor n (bit_xor b c)) (λ b c. refl)
    (λ n ih b c.
    xor_step (bit_xor n b) c
    ∙ (λ i. bit_xor (xor_half n b i) (c / 2) * 2 + differ (xor_odd n b i) (c % 2))
    ∙ (λ i. ih (b / 2) (c / 2) i * 2 + differ_assoc (n % 2) (b % 2) (c % 2) (mod-lt n (omega arith)) (mod-lt b (omega arith)) (mod-lt c (omega arith)) i)
    ∙ (λ i. bit_xor (n / 2) (sym (xor_half b c) i) * 2 + differ (n % 2) (sym (xor_odd b c) i))
    ∙ sym (xor_step n (bit_xor b c)))
    a

-- the same number twice
pub xor_twice : (a b : ℕ) → bit_xor (bit_xor a b) b ≡ a
xor_twice a b = xor_assoc a b b ∙ ap (bit_xor a) (xor_self b) ∙ xor_zero_r a

-- the first two of three exchanged
pub xor_swap : (a b c : ℕ) → bit_xor a (bit_xor b c) ≡ bit_xor b (bit_xor a c)
xor_swap a b c = sym (xor_assoc a b c) ∙ ap (λ (x : ℕ). bit_xor x c) (xor_comm a b) ∙ xor_assoc b a c

pub length_xored : (n : ℕ) (a s : List ℕ) → length (xored n a s) ≡ n
unfolding xored
length_xored n a s = length_tab (λ (i : ℕ). bit_xor (get_or a i 0) (get_or s i 0)) n

pub xored_twice : (n : ℕ) (a s : List ℕ) → n ≤ length a → xored n (xored n a s) s ≡ take n a
unfolding xored
xored_twice n a s h =
    tab_ext _ (λ (i : ℕ). get_or a i 0) n
    (λ i l.
    ap (λ (x : ℕ). bit_xor x (get_or s i 0)) (get_or_tab (λ (k : ℕ). bit_xor (get_or a k 0) (get_or s k 0)) n i 0 l)
    ∙ xor_twice (get_or a i 0) (get_or s i 0))
    ∙ tab_get_or a 0 n h
