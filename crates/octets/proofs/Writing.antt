-- What a writer leaves, by its refusal's number.
-- Assumes nothing.
use mathlib.Core.Path.{◌≡◌, refl, sym, ap, ◌∙◌}
use mathlib.Core.List.{List}
use Prim.Native.Nat.{ℕ, ◌≤◌}
use native.Mathlib.Omega.{arith}
use lib.ListN.{length}
use Rattle.octets.specs.Writing.{Run, wrote, wrote_nothing, written, written_bytes}
use Rattle.octets.proofs.Strings.{take_over}
use Rattle.octets.proofs.Conditions.{accepted_by, refused_by, unless_either, answer_number}

pub write_accepted : (k n : ℕ) (bs o : List ℕ) → n ≡ k → n ≡ 0 → wrote bs o ≡ written k bs o
unfolding written
write_accepted k n bs o e z = accepted_by k n (wrote bs o) (wrote_nothing k o) e z

pub write_refused : (k n : ℕ) (bs o : List ℕ) → n ≡ k → (n ≡ 0 → ⊥) → wrote_nothing n o ≡ written k bs o
unfolding written
write_refused k n bs o e h = refused_by k n (wrote bs o) (λ (m : ℕ). wrote_nothing m o) e h

-- the answer bears the number
pub written_number : (n : ℕ) (bs o : List ℕ) → (written n bs o).answer.refusal ≡ n
unfolding written
written_number n bs o = answer_number (λ (r : Run). r.answer.refusal) n (wrote bs o) (λ (m : ℕ). wrote_nothing m o) refl refl

-- the bytes of a writer that was not refused
pub bytes_written_lem : (n : ℕ) (bs o : List ℕ) → n ≡ 0 → written_bytes (written n bs o) ≡ bs
bytes_written_lem n bs o e = ap written_bytes (sym (write_accepted n n bs o refl e)) ∙ take_over o bs

-- a writer's length is within the output, if its bytes are where it accepts
pub written_within : (n : ℕ) (bs o : List ℕ) → (n ≡ 0 → length bs ≤ length o) → (written n bs o).answer.length ≤ length o
unfolding written
written_within n bs o h = unless_either (λ (r : Run). r.answer.length ≤ length o) n (wrote bs o) (wrote_nothing n o) h (omega arith)
