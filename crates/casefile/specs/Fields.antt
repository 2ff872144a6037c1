-- The fields of a line: words of hexadecimal digits, "-" for nothing.
-- Assumes nothing.
use Rattle.std.specs.Prelude.{true, cond, List, [], ◌∷◌, ℕ, ◌/◌, min, length, Bool, false, Result, Ok, Err}
use Rattle.casefile.specs.declared.fields.Malformed.{Malformed}
use Rattle.casefile.specs.Hex.{hex_bytes, is_hex}
use Rattle.casefile.specs.Texts.{same_text}

-- what reading a word gives: whether it is a field, and how many bytes it is read as
pub record FieldRead : Type 0 where
  pub good : Bool
  pub n : ℕ

abbrev pub field_read : Bool → ℕ → FieldRead
field_read good n = record { good = good; n = n }

-- the same, of the code's answer
abbrev pub told_field : Result ℕ Malformed → FieldRead
told_field (Ok n) = record { good = true; n = n }
told_field (Err e) = record { good = false; n = e.touched }

-- whether a word is "-" (0x2d)
abbrev pub is_dash : List ℕ → Bool
is_dash w = same_text w (0x2d ∷ [])

-- how many bytes of digits a word is read as, at most as many as there is room for
abbrev pub field_count : List ℕ → ℕ → ℕ
field_count w room = min (length w / 2) room

-- what reading a word gives where there is room for so many bytes
unfoldable pub field_of : List ℕ → ℕ → FieldRead
field_of w room = cond (is_dash w) (record { good = true; n = 0 }) (record { good = is_hex w (field_count w room); n = field_count w room })

-- the bytes that a word stands for
unfoldable pub field_bytes : List ℕ → List ℕ
field_bytes w = cond (is_dash w) [] (hex_bytes w)
