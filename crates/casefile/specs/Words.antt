-- The words of a line, one space (0x20) between two.
-- Assumes nothing.
use Rattle.std.specs.Prelude.{Bool, cond, ◌&&◌, List, [], ◌∷◌, ℕ, zero, suc, ◌+◌, ◌*◌, ◌-◌, ltb, eqb, length, get_or, take, drop}
use Rattle.casefile.specs.Hex.{digit_value}
use Rattle.casefile.specs.Texts.{before}

-- where word k of a line starts: behind its k-th space, or at the end where it has fewer
unfoldable pub word_start : List ℕ → ℕ → ℕ
word_start [] k = 0
word_start (y ∷ line) zero = 0
word_start (y ∷ line) (suc k) = suc (word_start line (cond (eqb y 0x20) k (suc k)))

-- where word k of a line ends: at the next space, or at the end of the line
unfoldable pub word_end : List ℕ → ℕ → ℕ
word_end line k = word_start line k + before 0x20 (drop (word_start line k) line)

-- word k of a line
unfoldable pub word_of : List ℕ → ℕ → List ℕ
word_of line k = take (word_end line k - word_start line k) (drop (word_start line k) line)

-- whether word k is the last of the line, and not empty
unfoldable pub is_last : List ℕ → ℕ → Bool
is_last line k = ltb (word_start line k) (word_end line k) && eqb (word_end line k) (length line)

-- the one byte of a word, and 0 where it has another length
unfoldable pub letter_of : List ℕ → ℕ
letter_of w = cond (eqb (length w) 1) (get_or w 0 0) 0

-- the value of a digit 0 to 9, and 1000 for any other byte
unfoldable pub decimal_value : ℕ → ℕ
decimal_value b = cond (ltb (digit_value b) 10) (digit_value b) 1000

-- the value of the decimal digit at place i of a word
abbrev pub decimal_at : List ℕ → ℕ → ℕ
decimal_at w i = decimal_value (get_or w i 0)

-- the number that one to three digits stand for, and 1000 or more for any other word
unfoldable pub decimal_of : List ℕ → ℕ
decimal_of w =
    cond (eqb (length w) 1) (decimal_at w 0)
    (cond (eqb (length w) 2) (10 * decimal_at w 0 + decimal_at w 1)
    (cond (eqb (length w) 3) (100 * decimal_at w 0 + 10 * decimal_at w 1 + decimal_at w 2) 1000))
