-- A byte is one of the three kinds, or it is none and fixes no body. Assumes nothing.
use mathlib.Core.Path.{◌≡◌, refl, sym, subst, ◌∙◌}
use mathlib.Core.Bool.{true, false, true≢false}
use Prim.Native.Nat.{ℕ, ◌<◌}
use native.Mathlib.Omega.{arith}
use lib.Dec.{eqb}
use borrow.Author.Tests.{eqb-true}
use borrow.Table.Steps.{cases}
use Rattle.journal.specs.Format.{is_kind, body_length}

-- what holds of each kind, and of a byte that is none, holds of every byte
pub by_kind : (P : ℕ → Type 0) → P 1 → P 2 → P 3 → (k : ℕ) → (is_kind k ≡ false → body_length k ≡ 0 → P k) → P k
unfolding body_length
by_kind P ceiling sender number k none =
    cases (eqb k 1) (λ e. subst P (sym (eqb-true k 1 e)) ceiling)
    (λ e. cases (eqb k 2) (λ f. subst P (sym (eqb-true k 2 f)) sender)
    (λ f. cases (eqb k 3) (λ g. subst P (sym (eqb-true k 3 g)) number) (λ g. none (rw (e, f, g)) (rw (e, f, g)))))

pub kind_body : (k : ℕ) → is_kind k ≡ true → 0 < body_length k
unfolding body_length
kind_body =
    λ k. by_kind (λ (n : ℕ). is_kind n ≡ true → 0 < body_length n) (λ _. omega arith) (λ _. omega arith) (λ _. omega arith) k
    (λ e _ h. absurd (true≢false (sym h ∙ e)))

pub body_kind : (k : ℕ) → 0 < body_length k → is_kind k ≡ true
unfolding body_length
body_kind =
    λ k. by_kind (λ (n : ℕ). 0 < body_length n → is_kind n ≡ true) (λ _. refl) (λ _. refl) (λ _. refl) k (λ _ e h. absurd (omega (arith, e, h)))

pub no_body : (k : ℕ) → body_length k ≡ 0 → is_kind k ≡ false
unfolding body_length
no_body =
    λ k. by_kind (λ (n : ℕ). body_length n ≡ 0 → is_kind n ≡ false) (λ h. absurd (omega (arith, h))) (λ h. absurd (omega (arith, h)))
    (λ h. absurd (omega (arith, h))) k (λ e _ _. e)
