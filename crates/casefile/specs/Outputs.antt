-- What a lent output holds after a call: it is full of the filler before.
-- Assumes nothing.
use Rattle.std.specs.Prelude.{Bool, true, ◌&&◌, List, [], ◌∷◌, ℕ, eqb, length, take, drop}
use Rattle.casefile.specs.Texts.{same_text}

-- whether every byte of s is the filler
unfoldable pub all_filler : List ℕ → Bool
all_filler [] = true
all_filler (y ∷ s) = eqb y 0xa5 && all_filler s

-- whether the output starts with the text, and every byte after it is the filler
unfoldable pub text_then_filler : List ℕ → List ℕ → Bool
text_then_filler text out = same_text (take (length text) out) text && all_filler (drop (length text) out)
