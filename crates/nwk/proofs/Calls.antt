-- What a C function answers and leaves in a buffer where its refusal number is known: refused, or passed. And the answer's
-- parts can be read back.
-- Assumes nothing.
use Rattle.std.specs.Prelude.{Some, None, Result, Ok, Err}
use mathlib.Core.Path.{◌≡◌, refl, ◌∙◌}
use mathlib.Core.List.{List}
use Prim.Native.Nat.{ℕ, zero, suc, ◌/◌, ◌%◌, ◌^◌, ◌<◌}
use native.Mathlib.Omega.{arith}
use lib.ListN.{length}
use Rattle.octets.specs.declared.refusals.Refusal.{Refusal}
use Rattle.octets.specs.Strings.{over}
use Rattle.octets.specs.Refusals.{unless, number_of}
use Rattle.octets.specs.Writing.{Written, told, written}
use Rattle.octets.proofs.Conditions as conditions
use Rattle.frame.specs.Opening.{Mark}
use Rattle.frame.specs.Sealing.{told_sealed, seal_refused, seal_by}
use Rattle.frame.proofs.Levels.{refusal_above}
use Rattle.journal.specs.Recovery.{recover_nothing}
use Rattle.nwk.specs.Answer.{answer, clear_bit, opened_answer, answer_by, told_by, given}
use Rattle.nwk.specs.Inbound.{earlier_answer}
use Rattle.nwk.specs.Recovery.{recovered_answer, next_answer}

-- ---- the clauses of a function that answers and writes

-- two facts, each as the clause of its name
pub clauses : {A B : Type 0} → A × B → record { answer : A; out : B }
clauses p = record { answer = p.0; out = p.1 }

-- ---- reading the answer

pub answer_length : (refusal n : ℕ) → n < 2 ^ 32 → answer refusal n % 2 ^ 32 ≡ n
unfolding answer
answer_length refusal n h = omega arith

pub answer_refusal : (refusal n : ℕ) → answer refusal n / 2 ^ 32 ≡ refusal
unfolding answer
answer_refusal refusal n = omega arith

pub answer_bits : (refusal n : ℕ) → refusal < 2 ^ 8 → answer refusal n < 2 ^ 40
unfolding answer
answer_bits refusal n h = omega arith

-- of an opened frame: the length, no refusal, and bit 40, set exactly if it was clear
pub opened_length : (m : Mark) (n : ℕ) → n < 2 ^ 32 → opened_answer m n % 2 ^ 32 ≡ n
unfolding opened_answer
opened_length m n h = omega arith

pub opened_refusal : (m : Mark) (n : ℕ) → opened_answer m n / 2 ^ 32 % 2 ^ 8 ≡ 0
unfolding opened_answer
opened_refusal m n = omega arith

pub opened_clear_bit : (m : Mark) (n : ℕ) → opened_answer m n / 2 ^ 40 ≡ clear_bit m
unfolding opened_answer
opened_clear_bit m n = omega arith

-- of noting a known sender: its earlier counter, no refusal, and bit 41 set; else no counter, the refusal, and bit 41 off
pub noted_known : (n c : ℕ) → c < 2 ^ 32 → let a = earlier_answer n (Some c) in (a % 2 ^ 32 ≡ c) × ((a / 2 ^ 32 % 2 ^ 8 ≡ 0) × (a / 2 ^ 41 ≡ 1))
noted_known n c h = (omega (arith, h), (omega (arith, h), omega (arith, h)))

pub noted_new : (n : ℕ) → n < 2 ^ 8 → let a = earlier_answer n None in (a % 2 ^ 32 ≡ 0) × ((a / 2 ^ 32 % 2 ^ 8 ≡ n) × (a / 2 ^ 41 ≡ 0))
unfolding answer
noted_new n h = (omega (arith, h), (omega (arith, h), omega (arith, h)))

-- of recovery: the ceiling, no refusal, and where there is a key number bit 41 set and that number; else bit 41 off and 0
pub recovered_known : (c k m : ℕ) → c < 2 ^ 32 → let a = recovered_answer (record { refusal = 0; ceiling = c; key_number = Some k; complete = m }) in
    (a % 2 ^ 32 ≡ c) × ((a / 2 ^ 32 % 2 ^ 8 ≡ 0) × ((a / 2 ^ 41 % 2 ≡ 1) × (a / 2 ^ 48 ≡ k)))
unfolding recovered_answer unless
recovered_known c k m h = (omega (arith, h), (omega (arith, h), (omega (arith, h), omega (arith, h))))

pub recovered_none : (c m : ℕ) → c < 2 ^ 32 → let a = recovered_answer (record { refusal = 0; ceiling = c; key_number = None; complete = m }) in
    (a % 2 ^ 32 ≡ c) × ((a / 2 ^ 32 % 2 ^ 8 ≡ 0) × ((a / 2 ^ 41 % 2 ≡ 0) × (a / 2 ^ 48 ≡ 0)))
unfolding recovered_answer unless
recovered_none c m h = (omega (arith, h), (omega (arith, h), (omega (arith, h), omega (arith, h))))

-- refused by a number: that number alone
pub recovered_refused : (n : ℕ) → (n ≡ 0 → ⊥) → n < 2 ^ 8 → let a = recovered_answer (recover_nothing n) in
    (a % 2 ^ 32 ≡ 0) × ((a / 2 ^ 32 % 2 ^ 8 ≡ n) × ((a / 2 ^ 41 % 2 ≡ 0) × (a / 2 ^ 48 ≡ 0)))
unfolding recovered_answer unless answer
recovered_refused zero h g = absurd (h refl)
recovered_refused (suc n) h g = (omega (arith, g), (omega (arith, g), (omega (arith, g), omega (arith, g))))

-- of the next counter: the counter, and no refusal
pub next_given_lem : (c : ℕ) → c < 2 ^ 32 → let a = next_answer (record { refusal = 0; counter = c }) in (a % 2 ^ 32 ≡ c) × (a / 2 ^ 32 ≡ 0)
next_given_lem c h = (answer_length 0 c h, answer_refusal 0 c)

-- ---- what an operation gives, by its refusal's number n

pub told_answer : (n len : ℕ) (w : Written) → w ≡ told_by n len → answer w.refusal w.length ≡ answer_by n len
unfolding unless
told_answer zero len w e = λ i. answer (e i).refusal (e i).length
told_answer (suc n) len w e = λ i. answer (e i).refusal (e i).length

-- whatever is answered where nothing is refused
pub refused_answer : (n a : ℕ) (r : Refusal) → number_of r ≡ n → answer (number_of r) 0 ≡ unless n a (answer n 0)
refused_answer n a r e = conditions.refused_by n (number_of r) a (λ (m : ℕ). answer m 0) e (refusal_above r)

pub kept : {A : Type 0} (n : ℕ) (r : Refusal) (x o : A) → number_of r ≡ n → o ≡ unless n x o
kept n r x o e = conditions.refused_by n (number_of r) x (λ (m : ℕ). o) e (refusal_above r)

pub told_refused : (n len : ℕ) (r : Refusal) → number_of r ≡ n → told (Err r) ≡ told_by n len
told_refused n len r e =
    conditions.refused_by n (number_of r) (record { refusal = 0; length = len }) (λ (m : ℕ). record { refusal = m; length = 0 }) e (refusal_above r)

-- passed: the length, and the bytes at the front
pub told_passed : (n len : ℕ) → n ≡ 0 → told (Ok len) ≡ told_by n len
told_passed n len e = conditions.accepted_by n n (record { refusal = 0; length = len }) (record { refusal = n; length = 0 }) refl e

pub given_passed : (n : ℕ) (bs o o' : List ℕ) → n ≡ 0 → o' ≡ over o 0 bs → o' ≡ given n bs o
given_passed n bs o o' e p = p ∙ conditions.accepted_by n n (over o 0 bs) o refl e

-- a writer's own answer, refused or not
pub told_written : (n k : ℕ) (bs o o' : List ℕ) (w : Written) → k ≡ n → w ≡ (written k bs o).answer → o' ≡ (written k bs o).out
    → (w ≡ told_by n (length bs)) × (o' ≡ given n bs o)
unfolding written unless
told_written n zero bs o o' w e p q = rw (← e) (p, q)
told_written n (suc k) bs o o' w e p q = rw (← e) (p, q)

-- the same of sealing
as_written : (r : Result ℕ Refusal) → told r ≡ record { refusal = (told_sealed r).refusal; length = (told_sealed r).length }
unfolding seal_refused
as_written (Ok n) = refl
as_written (Err r) = refl

pub told_sealing : (n k : ℕ) (bs o o' : List ℕ) (r : Result ℕ Refusal) → k ≡ n → told_sealed r ≡ (seal_by k bs o).answer → o' ≡ (seal_by k bs o).out
    → (told r ≡ told_by n (length bs)) × (o' ≡ given n bs o)
unfolding seal_by seal_refused unless
told_sealing n zero bs o o' r e p q = rw (← e) (as_written r ∙ (λ i. record { refusal = (p i).refusal; length = (p i).length }), q)
told_sealing n (suc k) bs o o' r e p q = rw (← e) (as_written r ∙ (λ i. record { refusal = (p i).refusal; length = (p i).length }), q)
