-- FIPS 197 (2001), section 5.2: the key expansion, for a key of Nk = 4 words and Nr = 10 rounds.
-- Assumes nothing.
use Rattle.std.specs.Prelude.{List, [], ◌∷◌, ◌++◌, cond, ℕ, zero, suc, ◌+◌, ◌*◌, ◌/◌, ◌%◌, eqb}
use Rattle.aes.specs.State.{column, state_of}
use Rattle.aes.specs.Words.{xor_word, sub_word, rot_word, rcon}

-- temp of the word i, where w is the word i - 1
unfoldable pub temp : ℕ → List ℕ → List ℕ
temp i w = cond (eqb (i % 4) 0) (xor_word (sub_word (rot_word w)) (rcon (i / 4))) w

-- the words i + 1 to i + 4, of the words i to i + 3: w[i + 4] = w[i] ⊕ temp
unfoldable pub next_word : ℕ → List (List ℕ) → List (List ℕ)
next_word i w = column w 1 ∷ column w 2 ∷ column w 3 ∷ xor_word (column w 0) (temp (i + 4) (column w 3)) ∷ []

-- the words i to i + 3, where w[0] to w[3] are the words of k
unfoldable pub words_from : List (List ℕ) → ℕ → List (List ℕ)
words_from k zero = k
words_from k (suc i) = next_word i (words_from k i)

-- the first n round keys, of four words each
unfoldable pub round_keys : List (List ℕ) → ℕ → List (List (List ℕ))
round_keys k zero = []
round_keys k (suc n) = round_keys k n ++ (words_from k (4 * n) ∷ [])

-- KeyExpansion: 44 words, those of the key first
unfoldable pub key_expansion : List ℕ → List (List (List ℕ))
key_expansion key = round_keys (state_of key) 11
