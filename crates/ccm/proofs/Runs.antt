-- The operations by their refusals: what is known where nothing is refused, and the run that is refused by a number.
-- Assumes nothing.
use mathlib.Core.Path.{◌≡◌, sym, ◌∙◌}
use mathlib.Core.List.{List}
use Prim.Native.Nat.{ℕ, ◌≤◌}
use native.Mathlib.Omega.{arith}
use borrow.Author.Tests.{ltb-false, le-ltb}
use lib.ListN.{length}
use Rattle.octets.specs.Writing.{wrote_nothing}
use Rattle.octets.proofs.Conditions.{none, none_refuse, accepted, refused_by, stop_by}
use Rattle.octets.proofs.Writing.{write_refused}
use Rattle.types.specs.declared.level.Level.{Level}
use Rattle.types.specs.Levels.{tag_length}
use Rattle.types.proofs.Levels.{tag_least, tag_known}
use Rattle.ccm.specs.Operations.{seal_refusal, seal_refused, encrypt_ccm, open_refusal, decrypt_ccm, split_refusal, split_refused, split_given, split_mic}

-- ---- encrypt_ccm

-- no refusal: the level is one of the three, and the lengths are within their limits
pub within : (l : Level) (a n room : ℕ) → seal_refusal l a n room ≡ 0 → (2 ≤ tag_length l) × (a ≤ 127) × (n ≤ 127) × (n ≤ room)
unfolding seal_refusal
within l a n₀ room e =
    let n = none _ e in
    let least = tag_least l n.0 in
    (omega arith, ltb-false 127 a n.1.0, ltb-false 127 n₀ n.1.1.0, ltb-false room n₀ n.1.1.1.0)

module _ (l : Level) (key nonce a p out : List ℕ) where
  pub encrypt_refused : (n : ℕ) → n ≡ seal_refusal l (length a) (length p) (length out) → (n ≡ 0 → ⊥) → seal_refused n out ≡ encrypt_ccm l key nonce a p out
  unfolding encrypt_ccm
  encrypt_refused n e h = refused_by _ n _ (λ (m : ℕ). seal_refused m out) e h

-- ---- decrypt_ccm

module _ (l : Level) (key nonce a c mic out : List ℕ) where
  -- 1 and 18, whatever the MIC
  pub decrypt_refused : (n : ℕ) → n ≡ seal_refusal l (length a) (length c) (length out) → (n ≡ 0 → ⊥)
      → wrote_nothing n out ≡ decrypt_ccm l key nonce a c mic out
  unfolding decrypt_ccm open_refusal
  decrypt_refused n e h = write_refused _ n _ out (e ∙ sym (stop_by _ _ (λ z. h (e ∙ z)))) h

-- ---- split_mic

-- no refusal: the tag is there
pub split_tagged : (l : Level) (n : ℕ) → split_refusal l n ≡ 0 → tag_length l ≤ n
unfolding split_refusal
split_tagged l n e = ltb-false n (tag_length l) (none _ e).1.0

-- and where it is, nothing is refused
pub split_accepted : (l : Level) (s : List ℕ) → 2 ≤ tag_length l → tag_length l ≤ length s → split_mic l s ≡ split_given (tag_length l) s
unfolding split_mic split_refusal
split_accepted l s good h = accepted _ _ _ (none_refuse _ (tag_known l good, (le-ltb (length s) (tag_length l) h, tt)))

pub split_refused_lem : (l : Level) (s : List ℕ) (n : ℕ) → n ≡ split_refusal l (length s) → (n ≡ 0 → ⊥) → split_refused n ≡ split_mic l s
unfolding split_mic
split_refused_lem l s n e h = refused_by _ n _ split_refused e h
