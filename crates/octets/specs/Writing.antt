-- What an operation leaves that writes bytes to the front of a lent output.
-- Assumes nothing.
use Rattle.std.specs.Prelude.{ℕ, List, length, take, Result, Ok, Err}
use Rattle.octets.specs.declared.refusals.Refusal.{Refusal}
use Rattle.octets.specs.Strings.{over}
use Rattle.octets.specs.Refusals.{unless, number_of}

-- what a writer answers: a refusal's number with length 0, or 0 and how many bytes it wrote
pub record Written : Type 0 where
  pub refusal : ℕ
  pub length : ℕ

-- the same, of the code's answer
abbrev pub told : Result ℕ Refusal → Written
told (Ok n) = record { refusal = 0; length = n }
told (Err r) = record { refusal = number_of r; length = 0 }

-- its answer, and the whole of the output
pub record Run : Type 0 where
  pub answer : Written
  pub out : List ℕ

-- accepted: the bytes at the front, and the rest as it was
abbrev pub wrote : List ℕ → List ℕ → Run
wrote bs o = record { answer = record { refusal = 0; length = length bs }; out = over o 0 bs }

-- refused by a number: nothing changed
abbrev pub wrote_nothing : ℕ → List ℕ → Run
wrote_nothing n o = record { answer = record { refusal = n; length = 0 }; out = o }

unfoldable pub written : ℕ → List ℕ → List ℕ → Run
written n bs o = unless n (wrote bs o) (wrote_nothing n o)

-- the bytes that were written: the output's first n, n being the length given
abbrev pub written_bytes : Run → List ℕ
written_bytes r = take r.answer.length r.out
