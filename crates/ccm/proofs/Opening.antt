-- The two laws of CCM, for every cipher function, nonce, associated data, payload and tag length: opening what was sealed
-- gives the payload, and whatever opens is what sealing the opened payload makes. Counter mode twice is the identity, and a
-- tag masked twice is the tag.
-- Assumes nothing.
use mathlib.Core.Path.{◌≡◌, refl, sym, ap, ◌∙◌}
use mathlib.Core.Bool.{Bool, true, false, cond}
use mathlib.Core.List.{List}
use Prim.Native.Nat.{ℕ, zero, suc, ◌<◌}
use native.Mathlib.Omega.{arith}
use mathlib.Core.Logic.{⊎_elim}
use borrow.Author.Tests.{eq-eqb, eqb-true}
use lib.Bits.{bit_xor}
use lib.Dec.{eqb}
use lib.ListN.{length, get_or}
use lib.Seq.{take-length, ext_get_or}
use Rattle.octets.specs.Strings.{xored}
use Rattle.octets.proofs.Strings.{get_or_tab, below_or_last}
use Rattle.octets.proofs.Xor.{xor_twice, length_xored, xored_twice}
use Rattle.ccm.specs.Formatting.{blocks_of}
use Rattle.ccm.specs.Counters.{key_block, key_stream, stream_for, counter_mode}
use Rattle.ccm.specs.Mac.{mac}
use Rattle.ccm.specs.Generation.{encrypted_tag, generation_encryption}
use Rattle.ccm.specs.Verification.{same_bytes, tag_valid, decryption_verification}

-- ---- the comparison of tags

both : (x y : ℕ) (b : Bool) → cond (eqb x y) b false ≡ true → (x ≡ y) × (b ≡ true)
both x y b h = go (eqb x y) refl h
  where
    go : (t : Bool) → eqb x y ≡ t → cond t b false ≡ true → (x ≡ y) × (b ≡ true)
    go true e h = (eqb-true x y e, h)
    go false e h = absurd (mathlib.Core.Bool.true≢false (sym h))

-- it holds where the bytes are equal
pub same_from : (n : ℕ) (u v : List ℕ) → ((i : ℕ) → i < n → get_or u i 0 ≡ get_or v i 0) → same_bytes n u v ≡ true
unfolding same_bytes
same_from zero u v h = refl
same_from (suc n) u v h = rw (eq-eqb _ _ (h n (omega arith))) (same_from n u v (λ i l. h i (omega arith)))

-- and only there
pub same_means : (n : ℕ) (u v : List ℕ) → same_bytes n u v ≡ true → (i : ℕ) → i < n → get_or u i 0 ≡ get_or v i 0
unfolding same_bytes
same_means zero u v h i l = absurd (omega arith)
same_means (suc n) u v h i l =
    let r = both (get_or u n 0) (get_or v n 0) (same_bytes n u v) h in
    ⊎_elim (λ k. same_means n u v r.1 i k) (λ e. rw e r.0) (below_or_last i n l)

-- ---- a mask twice

masked_at : (n : ℕ) (u s : List ℕ) (i : ℕ) → i < n → get_or (xored n u s) i 0 ≡ bit_xor (get_or u i 0) (get_or s i 0)
unfolding xored
masked_at n u s i l = get_or_tab (λ (k : ℕ). bit_xor (get_or u k 0) (get_or s k 0)) n i 0 l

unmasked_at : (n : ℕ) (u s : List ℕ) (i : ℕ) → i < n → get_or (xored n (xored n u s) s) i 0 ≡ get_or u i 0
unmasked_at n u s i l =
    masked_at n (xored n u s) s i l ∙ ap (λ (x : ℕ). bit_xor x (get_or s i 0)) (masked_at n u s i l) ∙ xor_twice (get_or u i 0) (get_or s i 0)

-- a mask on one side of the comparison may stand on the other
mask_over : (n : ℕ) (y u s : List ℕ) → same_bytes n (xored n y s) u ≡ true → same_bytes n (xored n u s) y ≡ true
mask_over n y u s h =
    same_from n _ y
    (λ i l.
    masked_at n u s i l ∙ ap (λ (x : ℕ). bit_xor x (get_or s i 0)) (sym (same_means n (xored n y s) u h i l))
    ∙ sym (masked_at n (xored n y s) s i l) ∙ unmasked_at n y s i l)

pub same_masked : (n : ℕ) (y u s : List ℕ) → same_bytes n (xored n y s) u ≡ same_bytes n (xored n u s) y
same_masked n y u s = bool_ext _ _ (mask_over n y u s) (mask_over n u y s)
  where
    bool_ext : (a b : Bool) → (a ≡ true → b ≡ true) → (b ≡ true → a ≡ true) → a ≡ b
    bool_ext true b f g = sym (f refl)
    bool_ext false true f g = g refl
    bool_ext false false f g = refl

module _ (ciph : List ℕ → List ℕ) (nonce : List ℕ) where
  pub length_counter_mode : (d : List ℕ) → length (counter_mode ciph nonce d) ≡ length d
  unfolding counter_mode
  length_counter_mode d = length_xored (length d) d (stream_for ciph nonce d).bytes

  -- the key stream goes by the length alone
  stream_for_lem : (d e : List ℕ) → length d ≡ length e → stream_for ciph nonce d ≡ stream_for ciph nonce e
  unfolding stream_for
  stream_for_lem d e h = ap (λ (n : ℕ). key_stream ciph nonce (blocks_of n)) h

  pub counter_mode_twice : (d : List ℕ) → counter_mode ciph nonce (counter_mode ciph nonce d) ≡ d
  unfolding counter_mode
  counter_mode_twice d =
      let x : List ℕ = xored (length d) d (stream_for ciph nonce d).bytes in
      let l : length x ≡ length d = length_xored (length d) d (stream_for ciph nonce d).bytes in
      rw (l, stream_for_lem x d l) (xored_twice (length d) d (stream_for ciph nonce d).bytes (omega arith) ∙ take-length d)

-- ---- the two laws

module _ (t : ℕ) (ciph : List ℕ → List ℕ) (nonce a : List ℕ) where
  pub length_ciphertext : (p : List ℕ) → length (generation_encryption t ciph nonce a p).ciphertext ≡ length p
  unfolding generation_encryption
  length_ciphertext p = length_counter_mode ciph nonce p

  pub length_tag : (p : List ℕ) → length (generation_encryption t ciph nonce a p).tag ≡ t
  unfolding generation_encryption encrypted_tag
  length_tag p = length_xored t (mac t ciph nonce a p) (key_block ciph nonce 0)

  pub length_payload : (c u : List ℕ) → length (decryption_verification t ciph nonce a c u).payload ≡ length c
  unfolding decryption_verification
  length_payload c u = length_counter_mode ciph nonce c

  -- the tag that sealing makes is valid
  made_valid : (p : List ℕ) → tag_valid t ciph nonce a p (encrypted_tag t ciph nonce a p) ≡ true
  unfolding tag_valid encrypted_tag
  made_valid p =
      same_from t _ (mac t ciph nonce a p) (λ i l. unmasked_at t (mac t ciph nonce a p) (key_block ciph nonce 0) i l)

  -- a valid tag is the one that sealing makes
  valid_made : (p u : List ℕ) → length u ≡ t → tag_valid t ciph nonce a p u ≡ true → encrypted_tag t ciph nonce a p ≡ u
  unfolding tag_valid encrypted_tag
  valid_made p u e h =
      ext_get_or 0 _ u (length_xored t (mac t ciph nonce a p) (key_block ciph nonce 0) ∙ sym e)
      (λ i l.
      let k : i < t = rw (length_xored t (mac t ciph nonce a p) (key_block ciph nonce 0)) at l in
      masked_at t (mac t ciph nonce a p) (key_block ciph nonce 0) i k
      ∙ ap (λ (x : ℕ). bit_xor x (get_or (key_block ciph nonce 0) i 0)) (sym (same_means t _ (mac t ciph nonce a p) h i k))
      ∙ sym (masked_at t (xored t u (key_block ciph nonce 0)) (key_block ciph nonce 0) i k)
      ∙ unmasked_at t u (key_block ciph nonce 0) i k)

  -- opening what was sealed gives the payload
  pub opened_sealed : (p : List ℕ)
      → ((decryption_verification t ciph nonce a (generation_encryption t ciph nonce a p).ciphertext (generation_encryption t ciph nonce a p).tag).valid ≡ true)
      × ((decryption_verification t ciph nonce a (generation_encryption t ciph nonce a p).ciphertext (generation_encryption t ciph nonce a p).tag).payload ≡ p)
  unfolding decryption_verification generation_encryption
  opened_sealed p = (
    ap (λ (x : List ℕ). tag_valid t ciph nonce a x (encrypted_tag t ciph nonce a p)) (counter_mode_twice ciph nonce p) ∙ made_valid p,
    counter_mode_twice ciph nonce p,
  )

  -- whatever opens is exactly what sealing the opened payload makes
  pub sealed_opened : (c u : List ℕ) → length u ≡ t → (decryption_verification t ciph nonce a c u).valid ≡ true
      → ((generation_encryption t ciph nonce a (decryption_verification t ciph nonce a c u).payload).ciphertext ≡ c)
      × ((generation_encryption t ciph nonce a (decryption_verification t ciph nonce a c u).payload).tag ≡ u)
  unfolding decryption_verification generation_encryption
  sealed_opened c u e h = (counter_mode_twice ciph nonce c, valid_made (counter_mode ciph nonce c) u e h)
