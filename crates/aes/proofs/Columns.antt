-- A column of a round from the table's entries: with the entries turned to their places, the exclusive or of four of them is the mixed
-- column. Each byte is a sum of four, in an order that begins elsewhere.
-- Assumes nothing.
use mathlib.Core.Path.{◌≡◌, refl, ap, ◌∙◌}
use mathlib.Core.List.{List, [], ◌∷◌}
use Prim.Native.Nat.{ℕ, ◌<◌}
use lib.Bits.{bit_xor, xor_comm}
use Rattle.octets.specs.Strings.{tab, xored}
use Rattle.octets.specs.Numbers.{le}
use Rattle.octets.proofs.Words.{le_xor}
use Rattle.octets.proofs.Xor.{xor_assoc}
use Rattle.field.specs.Field.{◌⊕◌, xtime, product}
use Rattle.field.specs.Multiples.{multiples, turned}
use Rattle.field.proofs.Bytes.{double_product}
use Rattle.aes.specs.State.{byte, four}
use Rattle.aes.specs.Words.{xor_word}
use Rattle.aes.specs.Rounds.{mix_column}

-- the bytes of an exclusive or of words
pub le_xor_word : (a b : ℕ) → le 4 (bit_xor a b) ≡ xor_word (le 4 a) (le 4 b)
unfolding four xor_word tab xored
le_xor_word a b = le_xor 4 a b

-- the first of four put last
first_last : (w x y z : ℕ) → w ⊕ x ⊕ y ⊕ z ≡ x ⊕ y ⊕ z ⊕ w
first_last w x y z = xor_comm w (x ⊕ y ⊕ z) ∙ xor_assoc x (y ⊕ z) w ∙ ap (λ (u : ℕ). x ⊕ u) (xor_assoc y z w)

module _ (a b c d : ℕ) (ha : a < 256) (hb : b < 256) (hc : c < 256) (hd : d < 256) where
  -- the rows of the column, as the code adds them and as MixColumns has them
  row_0 : xtime a ⊕ product 3 b ⊕ c ⊕ d ≡ product 2 a ⊕ product 3 b ⊕ c ⊕ d
  row_0 = λ i. double_product a ha i ⊕ product 3 b ⊕ c ⊕ d

  row_1 : a ⊕ xtime b ⊕ product 3 c ⊕ d ≡ product 2 b ⊕ product 3 c ⊕ d ⊕ a
  row_1 = first_last a (xtime b) (product 3 c) d ∙ (λ i. double_product b hb i ⊕ product 3 c ⊕ d ⊕ a)

  row_2 : a ⊕ b ⊕ xtime c ⊕ product 3 d ≡ product 2 c ⊕ product 3 d ⊕ a ⊕ b
  row_2 =
      first_last a b (xtime c) (product 3 d) ∙ first_last b (xtime c) (product 3 d) a
      ∙ (λ i. double_product c hc i ⊕ product 3 d ⊕ a ⊕ b)

  row_3 : product 3 a ⊕ b ⊕ c ⊕ xtime d ≡ product 2 d ⊕ product 3 a ⊕ b ⊕ c
  row_3 =
      first_last (product 3 a) b c (xtime d) ∙ first_last b c (xtime d) (product 3 a) ∙ first_last c (xtime d) (product 3 a) b
      ∙ (λ i. double_product d hd i ⊕ product 3 a ⊕ b ⊕ c)

  pub mixed : xor_word (multiples a) (xor_word (turned 3 b) (xor_word (turned 2 c) (turned 1 d))) ≡ mix_column (a ∷ b ∷ c ∷ d ∷ [])
  unfolding four xor_word mix_column multiples turned
  mixed = λ i. row_0 i ∷ row_1 i ∷ row_2 i ∷ row_3 i ∷ []

-- a word is the four bytes of itself
pub same_word : (w k : List ℕ) → xor_word w (four (byte k)) ≡ xor_word w k
unfolding four xor_word
same_word w k = refl
