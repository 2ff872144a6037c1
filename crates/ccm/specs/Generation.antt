-- SP 800-38C, 6.1: the generation-encryption process, for a tag of t bytes.
-- Assumes nothing.
use Rattle.std.specs.Prelude.{List, ℕ, ◌+◌}
use Rattle.octets.specs.Strings.{xored}
use Rattle.ccm.specs.Mac.{mac_chain, mac}
use Rattle.ccm.specs.Counters.{key_block, stream_for, counter_mode}

-- what it gives: the ciphertext C in its two parts, and the number of block encryptions of the run
pub record Generated : Type 0 where
  pub ciphertext : List ℕ
  pub tag : List ℕ
  pub blocks : ℕ

-- step 8, the second part: T ⊕ MSB_t (S_0)
unfoldable pub encrypted_tag : ℕ → (List ℕ → List ℕ) → List ℕ → List ℕ → List ℕ → List ℕ
encrypted_tag t ciph nonce a p = xored t (mac t ciph nonce a p) (key_block ciph nonce 0)

-- the run's block encryptions: the chain's, S_0, and the key stream's
unfoldable pub blocks_of_run : ℕ → (List ℕ → List ℕ) → List ℕ → List ℕ → List ℕ → ℕ
blocks_of_run t ciph nonce a p = (mac_chain t ciph nonce a p).blocks + 1 + (stream_for ciph nonce p).blocks

-- steps 1 to 8: the nonce, the associated data a and the payload p
unfoldable pub generation_encryption : ℕ → (List ℕ → List ℕ) → List ℕ → List ℕ → List ℕ → Generated
generation_encryption t ciph nonce a p =
    record { ciphertext = counter_mode ciph nonce p; tag = encrypted_tag t ciph nonce a p; blocks = blocks_of_run t ciph nonce a p }
