-- `command_writer::checks::link_status_misfits` meets its contract: within its places, the list misfits if one of its entries does.
-- Assumes nothing.
use Rattle.std.specs.Bool.{MatchBool}
use Rattle.std.specs.List.{HoldsAt, AllWithin}
use Rattle.std.proofs.lemmas.Iterator.{cases_from_any, YieldsList-from_slice}
use mathlib.Core.Path.{◌≡◌}
use mathlib.Core.Bool.{Bool, true, false, not}
use mathlib.Core.List.{List}
use Prim.Native.Nat.{ℕ, ◌≤◌, ◌<◌}
use native.Mathlib.Omega.{arith}
use borrow.Author.Rules.{rules}
use borrow.Author.Tests.{tests, le-ltb}
use lib.ListN.{length, get_or, take}
use Rattle.std.proofs.Common.{get_or-take}
use lib.Seq.{length-take-le}
use Rattle.commands.specs.Format.{held_fields, held_entries}
use Rattle.commands.specs.Commands.{link_status_format, link_entry, link_entries, no_link}
use Rattle.commands.specs.declared.NwkLinkStatus.{NwkLinkStatus}
use Rattle.commands.proofs.Format.{held_all, held_not}
use Rattle.command_writer.proofs.checks.link_status_misfits.Goals as goal

abbrev fits : NwkLinkStatus → Bool
fits link = held_fields link_status_format.entry (link_entry link)

-- by what `any` tells of the first n entries
by_any : (links : List NwkLinkStatus) (n : ℕ) (r : Bool) → n ≤ length links
    → MatchBool r ((k : ℕ) × (k < length (take n links)) × HoldsAt (λ l. fits l ≡ false) (take n links) k) (AllWithin (λ l. fits l ≡ true) (take n links) 0 (length (take n links)))
    → r ≡ not (held_entries link_status_format.entry (link_entries links n))
by_any links n true h p =
    let k = p.0 in
    let below : k < n = omega (arith, length-take-le n links h, p.1) in
    rw (held_not link_status_format.entry (λ (j : ℕ). link_entry (get_or links j no_link)) n k below (rw (get_or-take) at (p.2 no_link)))
by_any links n false h p =
    rw (held_all link_status_format.entry (λ (j : ℕ). link_entry (get_or links j no_link)) n
    (λ k below. rw (get_or-take) at (p k no_link (omega arith) (omega (arith, length-take-le n links h)))))

pub returns-else-n-gt31 : goal.returns-else-n-gt31
returns-else-n-gt31 c =
    let links = c.args.links in
    let n = c.args.n in
    rw (le-ltb 31 n c.if-n-gt31.false)
    (by_any links n c.any.result (omega arith)
    (cases_from_any _ _ _ (λ l. fits l ≡ false) (λ l. fits l ≡ true) c.any.ensures.ran
    (YieldsList-from_slice (take n links) cc) (λ x q k. search (rules, tests)) (λ x q k. search (rules, tests))))
