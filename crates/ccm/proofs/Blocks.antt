-- The formatted input by its bytes and blocks, as the code makes them: each by the cases of the definition.
-- Assumes nothing.
use mathlib.Core.Path.{◌≡◌, refl, ap, ◌∙◌}
use mathlib.Core.Bool.{cond}
use lib.Dec.{eqb}
use mathlib.Core.List.{List, [], ◌∷◌, ◌++◌}
use Prim.Native.Nat.{ℕ, suc, ◌+◌, ◌≤◌}
use native.Mathlib.Omega.{arith}
use borrow.Author.Tests.{ne_eqb}
use native.Mathlib.Nat.{add_assoc}
use lib.ListN.{length, get_or, length-append}
use lib.Seq.{take_all}
use Rattle.octets.specs.Strings.{tab, Below}
use Rattle.octets.specs.Numbers.{le, le_at, bytes_of}
use Rattle.octets.proofs.Strings.{tab_ext, tab_get_or}
use Rattle.octets.proofs.Numbers.{le_le_at_tab}
use Rattle.ccm.specs.Formatting.{two_bytes, headed, first_block, encoded_data}

-- a block of a first byte, the thirteen bytes of the nonce, and two bytes
pub headed_bytes : (first : ℕ) (n : List ℕ) (x : ℕ) → length n ≡ 13 → first ∷ (tab (λ (i : ℕ). get_or n i 0) 13 ++ two_bytes x) ≡ headed first n x
unfolding headed
headed_bytes first n x e = ap (λ (l : List ℕ). first ∷ (l ++ two_bytes x)) (tab_get_or n 0 13 (omega arith) ∙ take_all 13 n (omega arith))

-- a block of the bytes from place p on, word by word
word_at : (s : List ℕ) (p q : ℕ) → Below 256 s → le 4 (le_at 4 s (p + q)) ≡ tab (λ (k : ℕ). get_or s (p + (q + k)) 0) 4
word_at s p q b = le_le_at_tab 4 s (p + q) b ∙ tab_ext _ _ 4 (λ k l. ap (λ (j : ℕ). get_or s j 0) (add_assoc p q k))

pub block_words : (s : List ℕ) (p w x y z : ℕ) → Below 256 s
    → w ≡ le_at 4 s p → x ≡ le_at 4 s (p + 4) → y ≡ le_at 4 s (p + 8) → z ≡ le_at 4 s (p + 12)
    → bytes_of (w ∷ x ∷ y ∷ z ∷ []) ≡ tab (λ (k : ℕ). get_or s (p + k) 0) 16
unfolding bytes_of tab
block_words s p w x y z b ew ex ey ez =
    λ i. (ap (le 4) ew ∙ le_le_at_tab 4 s p b) i
    ++ ((ap (le 4) ex ∙ word_at s p 4 b) i ++ ((ap (le 4) ey ∙ word_at s p 8 b) i ++ (ap (le 4) ez ∙ word_at s p 12 b) i))

-- ---- the associated data behind its length

-- none, or the two bytes and the data
pub data_is : (a : List ℕ) → encoded_data a ≡ cond (eqb (length a) 0) [] (two_bytes (length a) ++ a)
unfolding encoded_data
data_is [] = refl
data_is (x ∷ a) = rw (ne_eqb (length (x ∷ a)) 0 (λ e. omega arith)) refl

pub length_data : (a : List ℕ) → length (encoded_data a) ≡ cond (eqb (length a) 0) 0 (length a + 2)
unfolding encoded_data two_bytes
length_data [] = refl
length_data (x ∷ a) = rw (ne_eqb (length (x ∷ a)) 0 (λ e. omega arith)) (omega arith)

-- at most 127 bytes with their length are at most 129
pub data_short : (a : List ℕ) → length a ≤ 127 → length (encoded_data a) ≤ 129
unfolding encoded_data two_bytes
data_short [] h = omega arith
data_short (x ∷ a) h = omega arith

-- B_0 has sixteen bytes
pub length_first : (t : ℕ) (nonce : List ℕ) (a p : ℕ) → length nonce ≡ 13 → length (first_block t nonce a p) ≡ 16
unfolding first_block headed two_bytes
length_first t nonce a p e = ap suc (length-append nonce _) ∙ rw e refl
