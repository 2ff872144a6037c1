-- Setting the level of an auxiliary header twice is setting it once, and nothing else of it changes.
-- Assumes nothing.
use Rattle.std.specs.Prelude.{Option, Some, None, unwrap_or, ℕ, ◌+◌}
use mathlib.Core.Path.{◌≡◌, refl, sym, ap, ◌∙◌}
use mathlib.Core.Bool.{not, ◌||◌}
use native.Mathlib.Omega.{arith}
use mathlib.Core.List.{List, ◌++◌}
use lib.ListN.{length, take, length-append}
use Rattle.octets.specs.Strings.{over}
use Rattle.octets.proofs.Strings.{take_over}
use Rattle.octets.specs.declared.refusals.Refusal.{Refusal}
use Rattle.octets.specs.Refusals.{number_of}
use Rattle.octets.specs.Numbers.{le}
use Rattle.header.specs.declared.{auxiliary.NwkSecurityLevel.NwkSecurityLevel, auxiliary.NwkAuxHeader.NwkAuxHeader, nwk.NwkHeader.NwkHeader}
use Rattle.types.specs.declared.level.Level.{Level}
use Rattle.types.specs.Optional.{has_ieee}
use Rattle.header.specs.AuxiliaryControl.{security_byte, with_level}
use Rattle.header.specs.Auxiliary.{aux_bytes}
use Rattle.header.specs.Writing.{header_bytes}
use Rattle.header.specs.Same.{AuxAgrees, AuxFits, SameHeader}
use Rattle.header.proofs.AuxiliaryLaws.{aux_length}
use Rattle.header.proofs.ReadBack.{same_bytes}
use Rattle.frame.specs.Security.{field_level, at_level, ieee_of, nonce_ieee, no_ieee, nonce, authenticated}

-- no level takes more bytes than another
pub level_length : (l : NwkSecurityLevel) (a : NwkAuxHeader) → length (aux_bytes (at_level l a)) ≡ length (aux_bytes a)
unfolding at_level
level_length l a = aux_length (at_level l a) ∙ sym (aux_length a)

pub auth_length : (l : Level) (h : NwkHeader) (x : NwkAuxHeader) → length (authenticated l h x) ≡ length (header_bytes h) + length (aux_bytes x)
unfolding authenticated
auth_length l h x =
    length-append (header_bytes h) (aux_bytes (at_level (field_level l) x)) ∙ ap (λ (n : ℕ). length (header_bytes h) + n) (level_length (field_level l) x)

-- the front of an array that two byte strings were put to, the second as long as another
pub front_taken : (o xs ys zs : List ℕ) → length ys ≡ length zs → take (length xs + length zs) (over o 0 (xs ++ ys)) ≡ xs ++ ys
front_taken o xs ys zs e = rw (← e, ← length-append xs ys) (take_over o (xs ++ ys))

-- no refusal has the number 0
pub refusal_above : (r : Refusal) → number_of r ≡ 0 → ⊥
refusal_above r e = grind arith

-- the address that the code's nonce begins with
pub address_or_zero : (a s : Option ℕ) → unwrap_or (nonce_ieee a s) 0 ≡ ieee_of a s
address_or_zero (Some x) s = refl
address_or_zero None (Some x) = refl
address_or_zero None None = refl

module _ (l m : NwkSecurityLevel) (a : NwkAuxHeader) where
  level_twice : at_level l (at_level m a) ≡ at_level l a
  unfolding at_level with_level
  level_twice = refl

  pub level_agrees : AuxAgrees a → AuxAgrees (at_level l a)
  unfolding at_level with_level
  level_agrees e = e

  pub level_fits : AuxFits a → AuxFits (at_level l a)
  unfolding at_level
  level_fits e = record { counter = e.counter; ieee = e.ieee; key_sequence = e.key_sequence }

-- the level that is sent enters neither the nonce nor the authenticated bytes, nor do the places past the relay count
module _ (l : Level) (m : NwkSecurityLevel) (a : NwkAuxHeader) (h k : NwkHeader) (same : SameHeader h k) where
  pub level_nonce : nonce l k (at_level m a) ≡ nonce l h a
  unfolding nonce at_level with_level
  level_nonce =
      ap (λ (o : Option ℕ). le 8 (ieee_of a.extended_source o) ++ (le 4 a.frame_counter ++ le 1 (security_byte (with_level a.security_control (field_level l)))))
      (sym same.source_ieee)

  pub level_authenticated : authenticated l k (at_level m a) ≡ authenticated l h a
  unfolding authenticated
  level_authenticated = λ i. sym (same_bytes h k same) i ++ aux_bytes (level_twice (field_level l) m a i)

  pub level_ieee : no_ieee k (at_level m a) ≡ no_ieee h a
  unfolding at_level
  level_ieee = ap (λ (o : Option ℕ). not (has_ieee a.extended_source || has_ieee o)) (sym same.source_ieee)
