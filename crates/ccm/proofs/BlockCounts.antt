-- The number of block encryptions of a run: it goes by the lengths alone, and is 2 + ⌈(2 + a) / 16⌉ + 2 · ⌈p / 16⌉ for a bytes of
-- associated data, a above 0, and p of payload. By induction along the chain and the key stream.
-- Assumes nothing.
use mathlib.Core.Path.{◌≡◌, refl, sym, ◌∙◌}
use mathlib.Core.List.{List}
use Prim.Native.Nat.{ℕ, zero, suc, ◌+◌, ◌*◌, ◌/◌, ◌<◌}
use native.Mathlib.Omega.{arith}
use Rattle.std.proofs.lemmas.Bool.Decides.{nat_tests}
use lib.ListN.{length}
use Rattle.ccm.specs.Formatting.{encoded_data, blocks_of, last_block, formatted}
use Rattle.ccm.specs.Counters.{key_stream, stream_for, counter_mode}
use Rattle.ccm.specs.Mac.{chain, mac_chain}
use Rattle.ccm.specs.Generation.{blocks_of_run, generation_encryption}
use Rattle.ccm.specs.Verification.{decryption_verification}
use Rattle.ccm.proofs.Blocks.{length_data}
use Rattle.ccm.proofs.Opening.{length_counter_mode}

pub chain_blocks : (ciph : List ℕ → List ℕ) (b : ℕ → List ℕ) (i : ℕ) → (chain ciph b i).blocks ≡ i + 1
unfolding chain
chain_blocks ciph b zero = refl
chain_blocks ciph b (suc i) = rw (chain_blocks ciph b i) (omega arith)

pub stream_blocks : (ciph : List ℕ → List ℕ) (nonce : List ℕ) (m : ℕ) → (key_stream ciph nonce m).blocks ≡ m
unfolding key_stream
stream_blocks ciph nonce zero = refl
stream_blocks ciph nonce (suc m) = rw (stream_blocks ciph nonce m) (omega arith)

-- the blocks of the data behind its length
data_blocks : (a : List ℕ) → 0 < length a → length (encoded_data a) ≡ 2 + length a
data_blocks a h = grind (arith, nat_tests, length_data)

module _ (t : ℕ) (ciph : List ℕ → List ℕ) (nonce : List ℕ) where
  pub run_blocks : (a p : List ℕ) → blocks_of_run t ciph nonce a p ≡ last_block a p + 2 + blocks_of (length p)
  unfolding blocks_of_run mac_chain stream_for
  run_blocks a p =
      rw (chain_blocks ciph (formatted t nonce a p) (last_block a p), stream_blocks ciph nonce (blocks_of (length p))) (omega arith)

  -- with associated data
  pub run_blocks_data : (a p : List ℕ) → 0 < length a → blocks_of_run t ciph nonce a p ≡ 2 + (2 + length a + 15) / 16 + 2 * ((length p + 15) / 16)
  unfolding last_block blocks_of
  run_blocks_data a p h = run_blocks a p ∙ rw (data_blocks a h) (omega arith)

  -- with none
  pub run_blocks_none : (a p : List ℕ) → length a ≡ 0 → blocks_of_run t ciph nonce a p ≡ 2 + 2 * ((length p + 15) / 16)
  unfolding last_block blocks_of
  run_blocks_none a p h = run_blocks a p ∙ rw (length_data a, h) (omega arith)

  pub generation_blocks : (a p : List ℕ) → (generation_encryption t ciph nonce a p).blocks ≡ blocks_of_run t ciph nonce a p
  unfolding generation_encryption
  generation_blocks a p = refl

-- the number goes by the lengths alone, whatever the tag's length, the cipher function, the nonce and the bytes
same_data : (a b : List ℕ) → length a ≡ length b → length (encoded_data a) ≡ length (encoded_data b)
same_data a b e = rw (length_data, e) (sym (length_data b))

pub blocks_by_lengths : (t t' : ℕ) (ciph ciph' : List ℕ → List ℕ) (nonce nonce' a a' p p' : List ℕ) → length a ≡ length a' → length p ≡ length p'
    → blocks_of_run t ciph nonce a p ≡ blocks_of_run t' ciph' nonce' a' p'
unfolding last_block
blocks_by_lengths t t' ciph ciph' nonce nonce' a a' p p' ea ep =
    run_blocks t ciph nonce a p
    ∙ rw (same_data a a' ea, ep) (sym (run_blocks t' ciph' nonce' a' p'))

-- opening encrypts as many blocks as sealing
pub verification_blocks : (t : ℕ) (ciph : List ℕ → List ℕ) (nonce a c u p : List ℕ) → length c ≡ length p
    → (decryption_verification t ciph nonce a c u).blocks ≡ blocks_of_run t ciph nonce a p
unfolding decryption_verification
verification_blocks t ciph nonce a c u p e =
    blocks_by_lengths t t ciph ciph nonce nonce a a (counter_mode ciph nonce c) p refl (length_counter_mode ciph nonce c ∙ e)
