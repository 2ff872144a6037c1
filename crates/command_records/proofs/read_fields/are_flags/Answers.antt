-- `command_records::read_fields::are_flags` meets its contract: they are flags if none of the bytes is above 1. Assumes nothing.
use Rattle.std.specs.Bool.{MatchBool}
use Rattle.std.specs.List.{HoldsAt, AllWithin, range_with_len}
use Rattle.std.proofs.lemmas.Iterator.{cases_from_all, YieldsList-from_range}
use Rattle.std.proofs.lemmas.List.FromFn.{length-range_with_len, get_or-range_with_len}
use mathlib.Core.Path.{◌≡◌, refl}
use mathlib.Core.Bool.{Bool, true, false}
use mathlib.Core.List.{List}
use Prim.Native.Nat.{ℕ, ◌+◌, ◌≤◌, ◌<◌}
use native.Mathlib.Omega.{arith}
use borrow.Author.Rules.{rules}
use borrow.Author.Tests.{tests}
use lib.ListN.{length, get_or}
use Rattle.command_records.specs.Fields.{are_flags}
use Rattle.command_records.proofs.Said.{flags_not, flags_all}
use Rattle.command_records.proofs.read_fields.are_flags.Goals as goal

-- by what `all` tells of the places
by_all : (s : List ℕ) (i n : ℕ) (r : Bool)
    → MatchBool r (AllWithin (λ k. get_or s k 0 ≤ 1) (range_with_len i n) 0 (length (range_with_len i n)))
    ((k : ℕ) × (k < length (range_with_len i n)) × HoldsAt (λ k. 1 < get_or s k 0) (range_with_len i n) k)
    → r ≡ are_flags i n s
by_all s i n true p =
    rw (flags_all i n s (λ k l. rw (get_or-range_with_len i n k 0 l) at (p k 0 (omega arith) (rw (length-range_with_len i n) l))))
by_all s i n false p =
    let k = p.0 in
    let l : k < n = rw (length-range_with_len i n) at p.1 in
    rw (flags_not i n k s l (rw (get_or-range_with_len i n k 0 l) at (p.2 0)))

pub returns : goal.returns
returns c =
    let s = c.args.bytes.now in
    let i = c.args.i in
    let n = c.args.n in
    by_all s i n c.all.result
    (cases_from_all _ _ _ (λ k. get_or s k 0 ≤ 1) (λ k. 1 < get_or s k 0) c.all.ensures.ran
    (YieldsList-from_range i (i + n) n refl (omega arith)) (λ x q k. search (rules, tests)) (λ x q k. search (rules, tests)))
