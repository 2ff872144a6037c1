-- The key stream as the code's loop makes it, a block at a time, and counter mode by it.
-- Assumes nothing.
use mathlib.Core.Path.{◌≡◌, refl, sym, ap, ◌∙◌}
use mathlib.Core.List.{List, [], ◌∷◌, ◌++◌}
use Prim.Native.Nat.{ℕ, zero, suc, ◌+◌, ◌*◌, ◌≤◌, ◌<◌}
use native.Mathlib.Nat.{zero-add}
use native.Mathlib.Numerals.{add-one}
use native.Mathlib.Omega.{arith}
use lib.Bits.{bit_xor}
use lib.ListN.{length, get_or, take, drop, set, length-append}
use lib.Seq.{get_or-take, take-take}
use Rattle.octets.specs.Strings.{over, xored}
use Rattle.octets.specs.Numbers.{bytes_of}
use Rattle.octets.proofs.Strings.{tab_ext, fill_turn, over_front, over_then, take_over}
use Rattle.octets.proofs.Xor.{length_xored}
use Rattle.octets.proofs.Words.{bytes_xor}
use Rattle.ccm.specs.Formatting.{blocks_of}
use Rattle.ccm.proofs.Opening.{length_counter_mode}
use Rattle.ccm.specs.Counters.{counter_block, key_block, key_stream, stream_for, counter_mode}

-- n bytes are at most as many as their blocks hold
pub blocks_hold : (n : ℕ) → n ≤ blocks_of n * 16
unfolding blocks_of
blocks_hold n = omega arith

-- four words, each exclusive or another
pub xored_words : (b s : List ℕ)
    → bytes_of (bit_xor (get_or b 0 0) (get_or s 0 0) ∷ bit_xor (get_or b 1 0) (get_or s 1 0) ∷ bit_xor (get_or b 2 0) (get_or s 2 0) ∷ bit_xor (get_or b 3 0) (get_or s 3 0) ∷ [])
    ≡ xored 16 (bytes_of b) (bytes_of s)
unfolding bytes_of
xored_words b s = bytes_xor (get_or b 0 0) (get_or b 1 0) (get_or b 2 0) (get_or b 3 0) (get_or s 0 0) (get_or s 1 0) (get_or s 2 0) (get_or s 3 0)

-- one byte more is masked
pub mask_more : (d s o o₁ : List ℕ) (i : ℕ) → i < length o → o₁ ≡ xored i d s ++ drop i o
    → set o₁ i (bit_xor (get_or d i 0) (get_or s i 0)) ≡ xored (i + 1) d s ++ drop (i + 1) o
unfolding xored
mask_more d s o o₁ i h e = fill_turn (λ (k : ℕ). bit_xor (get_or d k 0) (get_or s k 0)) i o o₁ _ h refl e

-- and all are
pub masked_all : (d s o o₁ : List ℕ) (i : ℕ) → i ≡ length d → o₁ ≡ xored i d s ++ drop i o → o₁ ≡ over o 0 (xored (length d) d s)
masked_all d s o o₁ i e h =
    h ∙ (λ k. xored (e k) d s ++ drop ((e ∙ sym (length_xored (length d) d s)) k) o) ∙ sym (over_front o (xored (length d) d s))

-- masks that agree on the first n bytes
pub xored_same : (n : ℕ) (d s t : List ℕ) → take n s ≡ take n t → xored n d s ≡ xored n d t
unfolding xored
xored_same n d s t e =
    tab_ext _ _ n
    (λ i l. ap (bit_xor (get_or d i 0)) (sym (get_or-take n s i 0 l) ∙ ap (λ (u : List ℕ). get_or u i 0) e ∙ get_or-take n t i 0 l))

module _ (ciph : List ℕ → List ℕ) (nonce : List ℕ) (sixteen : (b : List ℕ) → length (ciph b) ≡ 16) where
  length_stream : (m : ℕ) → length (key_stream ciph nonce m).bytes ≡ m * 16
  unfolding key_stream key_block
  length_stream zero = omega arith
  length_stream (suc m) =
      let h : length (key_stream ciph nonce m).bytes ≡ m * 16 = length_stream m in
      rw (length-append, sixteen (counter_block nonce (suc m)), h) (omega arith)

  -- the loop's turn: one block more
  pub stream_more : (o o₁ o₂ b : List ℕ) (i : ℕ) → o₁ ≡ over o 0 (key_stream ciph nonce i).bytes → b ≡ key_block ciph nonce (i + 1) → o₂ ≡ over o₁ (i * 16) b
      → o₂ ≡ over o 0 (key_stream ciph nonce (i + 1)).bytes
  unfolding key_stream
  stream_more o o₁ o₂ b i e₁ eb e₂ =
      over_then o o₁ o₂ 0 (i * 16) _ _ (omega arith) (sym (zero-add _ ∙ length_stream i)) e₁ (e₂ ∙ ap (over o₁ (i * 16)) eb) ∙ rw add-one refl

  -- its end: they are the first bytes
  pub stream_taken : (o s : List ℕ) (m : ℕ) → s ≡ over o 0 (key_stream ciph nonce m).bytes → take (m * 16) s ≡ (key_stream ciph nonce m).bytes
  stream_taken o s m e = (λ i. take (sym (length_stream m) i) (e i)) ∙ take_over o (key_stream ciph nonce m).bytes

  -- counter mode by an array that begins with the key stream
  pub mode_by : (d s : List ℕ) → take (blocks_of (length d) * 16) s ≡ (key_stream ciph nonce (blocks_of (length d))).bytes → xored (length d) d s ≡ counter_mode ciph nonce d
  unfolding counter_mode stream_for
  mode_by d s e =
      let m : ℕ = blocks_of (length d) * 16 in
      let h : length d ≤ m = blocks_hold (length d) in
      xored_same (length d) d s _ (sym (take-take (length d) m s h) ∙ ap (take (length d)) e)

-- what counter mode left at the front of an array
pub mode_taken : (ciph : List ℕ → List ℕ) (nonce d o p : List ℕ) → p ≡ over o 0 (counter_mode ciph nonce d) → take (length d) p ≡ counter_mode ciph nonce d
mode_taken ciph nonce d o p h =
    ap (take (length d)) h ∙ ap (λ (n : ℕ). take n (over o 0 (counter_mode ciph nonce d))) (sym (length_counter_mode ciph nonce d))
    ∙ take_over o (counter_mode ciph nonce d)
