-- SP 800-38C, 6.2: the decryption-verification process, for a tag of t bytes. Step 1, which finds a ciphertext that is not
-- longer than its tag invalid, is not here: document 01 refuses one that is shorter where the tag is split off, and has one
-- of exactly the tag's length verified and opened to nothing (docs/DIFFERENCES.md).
-- Assumes nothing.
use Rattle.std.specs.Prelude.{Bool, true, false, cond, List, ℕ, zero, suc, eqb, get_or}
use Rattle.octets.specs.Strings.{xored}
use Rattle.ccm.specs.Mac.{mac}
use Rattle.ccm.specs.Counters.{key_block, counter_mode}
use Rattle.ccm.specs.Generation.{blocks_of_run}

-- whether the first n bytes are the same, each looked at
unfoldable pub same_bytes : ℕ → List ℕ → List ℕ → Bool
same_bytes zero u v = true
same_bytes (suc n) u v = cond (eqb (get_or u n 0) (get_or v n 0)) (same_bytes n u v) false

-- what it gives: whether the tag is valid, the payload P of step 5, to be given only if it is, and the number of block
-- encryptions of the run
pub record Verified : Type 0 where
  pub valid : Bool
  pub payload : List ℕ
  pub blocks : ℕ

-- steps 6 to 10: the tag u is valid if u ⊕ MSB_t (S_0) is the T of the payload p
unfoldable pub tag_valid : ℕ → (List ℕ → List ℕ) → List ℕ → List ℕ → List ℕ → List ℕ → Bool
tag_valid t ciph nonce a p u = same_bytes t (xored t u (key_block ciph nonce 0)) (mac t ciph nonce a p)

-- steps 2 to 10: the nonce, the associated data a, the ciphertext c and its tag u
unfoldable pub decryption_verification : ℕ → (List ℕ → List ℕ) → List ℕ → List ℕ → List ℕ → List ℕ → Verified
decryption_verification t ciph nonce a c u =
    record
    { valid = tag_valid t ciph nonce a (counter_mode ciph nonce c) u; payload = counter_mode ciph nonce c; blocks = blocks_of_run t ciph nonce a (counter_mode ciph nonce c) }
