-- The key schedule a round key at a time: four steps of the word by word definition give the next four words, by the remainder of the index
-- at each step; and the round keys found so far grow at the front of the array that holds them.
-- Assumes nothing.
use mathlib.Core.Path.{◌≡◌, refl, ap, ◌∙◌}
use mathlib.Core.List.{List, [], ◌∷◌, ◌++◌, append_assoc}
use Prim.Native.Nat.{ℕ, zero, suc, ◌+◌, ◌*◌, ◌/◌, ◌%◌, ◌<◌}
use native.Mathlib.Numerals.{add-one}
use native.Mathlib.Omega.{arith}
use lib.ListN.{length, get_or, drop, set, length-append}
use lib.Seq.{drop-cons, set_at}
use borrow.Author.Tests.{eq-eqb, ne_eqb}
use Rattle.aes.specs.State.{column}
use Rattle.aes.specs.Words.{xor_word, sub_word, rot_word, rcon}
use Rattle.aes.specs.KeyExpansion.{temp, next_word, words_from, round_keys}

-- at a multiple of four
temp_first : (n : ℕ) (w : List ℕ) → temp (4 * n + 4) w ≡ xor_word (sub_word (rot_word w)) (rcon (n + 1))
unfolding temp
temp_first n w =
    let p : (4 * n + 4) / 4 ≡ n + 1 = omega arith in
    rw (eq-eqb ((4 * n + 4) % 4) 0 (omega arith), p)

-- at any other index
temp_other : (i : ℕ) → (i % 4 ≡ 0 → ⊥) → (w : List ℕ) → temp i w ≡ w
unfolding temp
temp_other i h w = rw (ne_eqb (i % 4) 0 h)

-- four words whose first takes t, and each other the one before it
unfoldable pub following : List ℕ → List (List ℕ) → List (List ℕ)
following t w =
    let a : List ℕ = xor_word (column w 0) t in
    let b : List ℕ = xor_word (column w 1) a in
    let c : List ℕ = xor_word (column w 2) b in
    a ∷ b ∷ c ∷ xor_word (column w 3) c ∷ []

pub next_four : (n : ℕ) (w : List (List ℕ))
    → next_word (4 * n + 3) (next_word (4 * n + 2) (next_word (4 * n + 1) (next_word (4 * n) w)))
    ≡ following (xor_word (sub_word (rot_word (column w 3))) (rcon (n + 1))) w
unfolding next_word following
next_four n w =
    let two : (4 * n + 1 + 4) % 4 ≡ 0 → ⊥ = omega arith in
    let three : (4 * n + 2 + 4) % 4 ≡ 0 → ⊥ = omega arith in
    let four : (4 * n + 3 + 4) % 4 ≡ 0 → ⊥ = omega arith in
    simp (temp_first, temp_other (4 * n + 1 + 4) two, temp_other (4 * n + 2 + 4) three, temp_other (4 * n + 3 + 4) four)

pub words_next : (k : List (List ℕ)) (n : ℕ)
    → words_from k (4 * (n + 1)) ≡ next_word (4 * n + 3) (next_word (4 * n + 2) (next_word (4 * n + 1) (next_word (4 * n) (words_from k (4 * n)))))
unfolding words_from
words_next k n =
    let one : 4 * n + 1 ≡ suc (4 * n) = omega arith in
    let two : 4 * n + 2 ≡ suc (suc (4 * n)) = omega arith in
    let three : 4 * n + 3 ≡ suc (suc (suc (4 * n))) = omega arith in
    let four : 4 * (n + 1) ≡ suc (suc (suc (suc (4 * n)))) = omega arith in
    rw (one, two, three, four)

length_round_keys : (k : List (List ℕ)) (n : ℕ) → length (round_keys k n) ≡ n
unfolding round_keys
length_round_keys k zero = refl
length_round_keys k (suc n) = length-append (round_keys k n) (words_from k (4 * n) ∷ []) ∙ add-one (length (round_keys k n)) ∙ ap suc (length_round_keys k n)

-- one more round key is stored
pub round_keys_more : (k : List (List ℕ)) (n : ℕ) (d : List (List (List ℕ))) → n < length d
    → set (round_keys k n ++ drop n d) n (words_from k (4 * n)) ≡ round_keys k (n + 1) ++ drop (n + 1) d
unfolding round_keys
round_keys_more k n d h =
    rw (drop-cons d n [], set_at (round_keys k n) (get_or d n []) (drop (suc n) d) (words_from k (4 * n)) n (length_round_keys k n), add-one n, append_assoc)
