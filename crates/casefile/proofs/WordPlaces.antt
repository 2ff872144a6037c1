-- The start of a word, step by step along a line, and the word between its start and its end.
-- Assumes nothing.
use mathlib.Core.Path.{◌≡◌, refl}
use mathlib.Core.List.{List, [], ◌∷◌}
use Prim.Native.Nat.{ℕ, zero, suc, ◌+◌, ◌-◌, ◌≤◌, ◌<◌}
use native.Mathlib.Omega.{arith}
use borrow.Author.Tests.{eq-eqb, ne_eqb}
use lib.ListN.{length, get_or, take, drop, drop_of_length-le}
use Rattle.casefile.specs.Texts.{before}
use Rattle.casefile.specs.Words.{word_start, word_end, word_of}
use Rattle.casefile.proofs.Texts.{from_here}

first_word : (s : List ℕ) → word_start s 0 ≡ 0
unfolding word_start
first_word [] = refl
first_word (y ∷ s) = refl

pub word_here : (s : List ℕ) (i left : ℕ) → left ≡ 0 → i + word_start (drop i s) left ≡ i
word_here s i left e = rw (e, first_word (drop i s)) (omega arith)

pub word_space : (s : List ℕ) (i left : ℕ) → i < length s → 0 < left → get_or s i 0 ≡ 0x20
    → i + word_start (drop i s) left ≡ i + 1 + word_start (drop (i + 1) s) (left - 1)
unfolding word_start
word_space s i zero h p e = elim p [ ]
word_space s i (suc k) h p e =
    let less : suc k - 1 ≡ k = omega arith in
    rw (from_here s i h, eq-eqb (get_or s i 0) 0x20 e, less) (omega arith)

pub word_letter : (s : List ℕ) (i left : ℕ) → i < length s → 0 < left → (get_or s i 0 ≡ 0x20 → ⊥)
    → i + word_start (drop i s) left ≡ i + 1 + word_start (drop (i + 1) s) left
unfolding word_start
word_letter s i zero h p n = elim p [ ]
word_letter s i (suc k) h p n = rw (from_here s i h, ne_eqb (get_or s i 0) 0x20 n) (omega arith)

pub word_end_lem : (s : List ℕ) (i left : ℕ) → length s ≤ i → i + word_start (drop i s) left ≡ i
unfolding word_start
word_end_lem s i left h = rw (drop_of_length-le s h) (omega arith)

-- the end of a word, from its start
pub the_end : (line : List ℕ) (k start end : ℕ) → start ≡ word_start line k → end ≡ start + before 0x20 (drop start line) → end ≡ word_end line k
unfolding word_end
the_end line k start end s e = rw (← s) e

-- a word, from its start and its end
pub the_word : (line : List ℕ) (k start end : ℕ) → start ≡ word_start line k → end ≡ word_end line k → take (end - start) (drop start line) ≡ word_of line k
unfolding word_of
the_word line k start end s e = rw (s, e)
