-- The answer of a C function, and what it leaves in a lent buffer. A refusal is its number with length 0 and changes no
-- lent byte; where nothing is refused, each result stands at the front of its buffer and the rest stays.
-- Assumes nothing.
use Rattle.std.specs.Prelude.{ℕ, ◌+◌, ◌*◌, ◌/◌, ◌%◌, ◌^◌, List}
use Rattle.octets.specs.Strings.{over}
use Rattle.octets.specs.Refusals.{unless}
use Rattle.octets.specs.Writing.{Written}
use Rattle.frame.specs.Opening.{Mark}

-- the length in bits 0 to 31, the refusal number in bits 32 to 39, the other bits 0
unfoldable pub answer : ℕ → ℕ → ℕ
answer refusal length = length % 2 ^ 32 + refusal * 2 ^ 32

-- the answer of an opened frame, whose payload has n bytes: bit 40 is set if the frame was clear
abbrev pub clear_bit : Mark → ℕ
clear_bit Mark.Unmarked = 0
clear_bit Mark.Clear = 1
clear_bit Mark.Sealed = 0

unfoldable pub opened_answer : Mark → ℕ → ℕ
opened_answer mark n = n % 2 ^ 32 + clear_bit mark * 2 ^ 40

-- what a caller reads in an answer, as nwk.h's macros do: the refusal's number, the length, whether the frame was clear (or its
-- payload is in the frame), and the place of a payload's first byte
abbrev pub refusal_in : ℕ → ℕ
refusal_in a = a / 2 ^ 32 % 2 ^ 8

abbrev pub length_in : ℕ → ℕ
length_in a = a % 2 ^ 32

abbrev pub clear_in : ℕ → ℕ
clear_in a = a / 2 ^ 40 % 2

abbrev pub first_in : ℕ → ℕ
first_in a = a / 2 ^ 48 % 2 ^ 8

-- the answer by the refusal number, where n bytes are given
abbrev pub answer_by : ℕ → ℕ → ℕ
answer_by refusal n = unless refusal (answer 0 n) (answer refusal 0)

-- the same, as what an operation gives
abbrev pub told_by : ℕ → ℕ → Written
told_by refusal n = unless refusal (record { refusal = 0; length = n }) (record { refusal = refusal; length = 0 })

-- the buffer o by the refusal number, where the bytes bs are given
abbrev pub given : ℕ → List ℕ → List ℕ → List ℕ
given refusal bs o = unless refusal (over o 0 bs) o
