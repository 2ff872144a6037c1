-- FIPS 197 (2001), section 5.1: the cipher, for Nr = 10 rounds.
-- Assumes nothing.
use Rattle.std.specs.Prelude.{List, [], ℕ, zero, suc, get_or}
use Rattle.aes.specs.State.{state_of, block_of}
use Rattle.aes.specs.Rounds.{sub_bytes, shift_rows, mix_columns, add_round_key}
use Rattle.aes.specs.KeyExpansion.{key_expansion}

-- the state s after the rounds 1 to n under the round keys w
unfoldable pub rounds : List (List (List ℕ)) → ℕ → List (List ℕ) → List (List ℕ)
rounds w zero s = s
rounds w (suc n) s = add_round_key (mix_columns (shift_rows (sub_bytes (rounds w n s)))) (get_or w (suc n) [])

-- the last round, which leaves the columns unmixed
unfoldable pub last_round : List (List (List ℕ)) → List (List ℕ) → List (List ℕ)
last_round w s = add_round_key (shift_rows (sub_bytes s)) (get_or w 10 [])

-- Cipher: a block under the round keys w
unfoldable pub cipher : List (List (List ℕ)) → List ℕ → List ℕ
cipher w b = block_of (last_round w (rounds w 9 (add_round_key (state_of b) (get_or w 0 []))))

-- AES-128: a block under a key
unfoldable pub aes128 : List ℕ → List ℕ → List ℕ
aes128 key b = cipher (key_expansion key) b
