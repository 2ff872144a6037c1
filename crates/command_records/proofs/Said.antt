-- The tests of a record's fields: bytes that are each 0 or 1, looked at one by one, and the command that is said past the
-- tests of identifier and flags.
-- Assumes nothing.
use Rattle.std.specs.Prelude.{Option, Some, None}
use mathlib.Core.Path.{◌≡◌, refl, sym, ap}
use mathlib.Core.Bool.{Bool, true, false, cond}
use mathlib.Core.List.{List}
use mathlib.Core.Logic.{⊎_elim}
use Prim.Native.Nat.{ℕ, zero, suc, ◌+◌, ◌≤◌, ◌<◌}
use native.Mathlib.Omega.{arith}
use borrow.Author.Tests.{lt-ltb, le-ltb, eq-eqb, ne_eqb}
use lib.ListN.{get_or}
use Rattle.octets.proofs.Strings.{below_or_last}
use Rattle.commands.specs.Codes.{command_id_of}
use Rattle.commands.specs.Reading.{command_of}
use Rattle.commands.specs.declared.{NwkCommand.NwkCommand, NwkCommandId.NwkCommandId}
use Rattle.command_records.specs.Fields.{record_values, are_flags, flags_fit, said_by, said}

not_both : (a : Bool) → mathlib.Core.Bool.◌&&◌ a false ≡ false
not_both true = refl
not_both false = refl

pub flags_not : (i n k : ℕ) (r : List ℕ) → k < n → 1 < get_or r (i + k) 0 → are_flags i n r ≡ false
unfolding are_flags
flags_not i zero k r h l = absurd (omega arith)
flags_not i (suc n) k r h l =
    ⊎_elim (λ g. rw (flags_not i n k r g l) refl) (λ (e : k ≡ n). rw (le-ltb (get_or r (i + n) 0) 2 (rw e at l)) (not_both (are_flags i n r))) (below_or_last k n h)

pub flags_all : (i n : ℕ) (r : List ℕ) → ((k : ℕ) → k < n → get_or r (i + k) 0 ≤ 1) → are_flags i n r ≡ true
unfolding are_flags
flags_all i zero r h = refl
flags_all i (suc n) r h =
    let last = h n (omega arith) in
    rw (flags_all i n r (λ k l. h k (omega arith)), lt-ltb (get_or r (i + n) 0) 2 (omega arith)) refl

-- ---- what is said

module _ (r : List ℕ) where
  pub said_unparsed : get_or r 0 0 ≡ 0 → Some NwkCommand.Unparsed ≡ said r
  unfolding said
  said_unparsed e = rw (eq-eqb (get_or r 0 0) 0 e) refl

  pub said_by_lem : (k : Option NwkCommandId) → (get_or r 0 0 ≡ 0 → ⊥) → command_id_of (get_or r 0 0) ≡ k → said_by k r ≡ said r
  unfolding said
  said_by_lem k h e = rw (ne_eqb (get_or r 0 0) 0 h, e) refl

  pub no_flags : (id : NwkCommandId) → flags_fit id r ≡ false → None ≡ said_by (Some id) r
  unfolding said_by
  no_flags id e = sym (ap (λ (b : Bool). cond b (command_of id (record_values id r)) None) e)

  pub flags : (id : NwkCommandId) → flags_fit id r ≡ true → command_of id (record_values id r) ≡ said_by (Some id) r
  unfolding said_by
  flags id e = sym (ap (λ (b : Bool). cond b (command_of id (record_values id r)) None) e)
