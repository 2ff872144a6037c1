-- SP 800-38C, A.3 and 6.1, steps 5 to 7: the counter blocks and the key stream.
-- Assumes nothing.
use Rattle.std.specs.Prelude.{List, [], ◌++◌, ℕ, zero, suc, ◌+◌, length}
use Rattle.octets.specs.Strings.{xored}
use Rattle.ccm.specs.Formatting.{headed, blocks_of}

-- A.3, table 3: Ctr_i, with the flags q - 1 = 1, the nonce and the counter i
unfoldable pub counter_block : List ℕ → ℕ → List ℕ
counter_block nonce i = headed 1 nonce i

-- 6.1, step 6: S_j = CIPH_K (Ctr_j)
unfoldable pub key_block : (List ℕ → List ℕ) → List ℕ → ℕ → List ℕ
key_block ciph nonce j = ciph (counter_block nonce j)

-- a part of the key stream, and how many blocks were encrypted for it
pub record Stream : Type 0 where
  pub bytes : List ℕ
  pub blocks : ℕ

-- 6.1, step 7: S = S_1 ‖ S_2 ‖ .. ‖ S_m
unfoldable pub key_stream : (List ℕ → List ℕ) → List ℕ → ℕ → Stream
key_stream ciph nonce zero = record { bytes = []; blocks = 0 }
key_stream ciph nonce (suc m) =
    record { bytes = (key_stream ciph nonce m).bytes ++ key_block ciph nonce (suc m); blocks = (key_stream ciph nonce m).blocks + 1 }

-- S for the bytes d: m = ⌈d / 16⌉
unfoldable pub stream_for : (List ℕ → List ℕ) → List ℕ → List ℕ → Stream
stream_for ciph nonce d = key_stream ciph nonce (blocks_of (length d))

-- 6.1, step 8, and 6.2, step 5: the bytes d, exclusive or as many of the key stream
unfoldable pub counter_mode : (List ℕ → List ℕ) → List ℕ → List ℕ → List ℕ
counter_mode ciph nonce d = xored (length d) d (stream_for ciph nonce d).bytes
