-- Texts: lists of bytes.
-- Assumes nothing.
use Rattle.std.specs.Prelude.{◌≡◌, Bool, true, false, cond, ◌&&◌, List, [], ◌∷◌, ℕ, suc, ◌≤◌, eqb, length, take}

-- whether n counts bytes at the front of s: `&s[..n]` is within s, and has n bytes
abbrev pub IsPrefixLen : ℕ → List ℕ → Type 0
IsPrefixLen n s = (n ≤ length s) × (n ≡ length (take n s))

-- whether two texts are the same
unfoldable pub same_text : List ℕ → List ℕ → Bool
same_text [] [] = true
same_text [] (y ∷ t) = false
same_text (x ∷ s) [] = false
same_text (x ∷ s) (y ∷ t) = eqb x y && same_text s t

-- how many bytes of s stand before its first byte b: all of them where it has none
unfoldable pub before : ℕ → List ℕ → ℕ
before b [] = 0
before b (y ∷ s) = cond (eqb y b) 0 (suc (before b s))
