-- Words of four bytes: the bytes of an exclusive or are the exclusive or of the bytes, for one word and for a block of four.
-- Assumes nothing.
use mathlib.Core.Path.{◌≡◌, refl, sym, ap, ◌∙◌}
use mathlib.Core.List.{[], ◌∷◌, ◌++◌}
use Prim.Native.Nat.{ℕ, zero, suc, ◌/◌}
use lib.Bits.{bit_xor, xor_mod, xor_shr}
use lib.ListN.{get_or}
use Rattle.octets.specs.Strings.{tab, xored}
use Rattle.octets.specs.Numbers.{le, bytes_of}
use Rattle.octets.proofs.Strings.{tab_cons}

pub le_xor : (n a b : ℕ) → le n (bit_xor a b) ≡ xored n (le n a) (le n b)
unfolding le xored tab
le_xor zero a b = refl
le_xor (suc n) a b =
    (λ i. xor_mod a b 8 i ∷ (ap (le n) (xor_shr a b 8) ∙ le_xor n (a / 256) (b / 256)) i)
    ∙ sym (tab_cons (λ (k : ℕ). bit_xor (get_or (le (suc n) a) k 0) (get_or (le (suc n) b) k 0)) n)

module _ (a b c d p q r s : ℕ) where
  word_by_word : bytes_of (bit_xor a p ∷ bit_xor b q ∷ bit_xor c r ∷ bit_xor d s ∷ [])
      ≡ xored 4 (le 4 a) (le 4 p) ++ (xored 4 (le 4 b) (le 4 q) ++ (xored 4 (le 4 c) (le 4 r) ++ xored 4 (le 4 d) (le 4 s)))
  unfolding bytes_of
  word_by_word = λ i. le_xor 4 a p i ++ (le_xor 4 b q i ++ (le_xor 4 c r i ++ le_xor 4 d s i))

  pub bytes_xor : bytes_of (bit_xor a p ∷ bit_xor b q ∷ bit_xor c r ∷ bit_xor d s ∷ [])
      ≡ xored 16 (bytes_of (a ∷ b ∷ c ∷ d ∷ [])) (bytes_of (p ∷ q ∷ r ∷ s ∷ []))
  unfolding le bytes_of tab xored
  bytes_xor = word_by_word
