-- `command_reader::with_list` meets its contract: the list is the command's own, and a typed list is within its places.
-- Assumes nothing.
use Rattle.std.specs.Prelude.{Some}
use borrow.Author.Tests.{ltb-false}
use mathlib.Core.Path.{◌≡◌, sym, subst, ◌∙◌}
use mathlib.Core.Bool.{false}
use mathlib.Core.List.{List}
use mathlib.Core.Logic.{inl, inr}
use Prim.Native.Nat.{ℕ, ◌≤◌}
use lib.ListN.{length}
use Rattle.octets.proofs.Strings.{length_tab}
use Rattle.octets.specs.Strings.{Below}
use Rattle.commands.specs.Reading.{with_lists, listed, list_of, typed}
use Rattle.commands.specs.declared.{NwkCommand.NwkCommand, NwkCommandList.NwkCommandList}
use Rattle.commands.proofs.Commands.{map_tab}
use Rattle.commands.proofs.Ranges.{too_big}
use Rattle.commands.proofs.Reread.{Good, Writable}
use Rattle.commands.proofs.RoundTrip.{typed_writable}
use Rattle.command_reader.proofs.Layouts.{layouts}
use Rattle.command_reader.proofs.with_list.Goals as goal

-- a typed list is within its places
within : (command : NwkCommand) (s : List ℕ) (k : NwkCommandList) → Below 256 s → typed s ≡ Some command → length s ≤ 108
    → list_of command ≡ k → too_big k command (listed k command s) ≡ false
within command s k b t short e = (subst (λ (j : NwkCommandList). Good j command s) e (subst (Writable s) t (typed_writable s b short)).2).1

pub with_relays-requires : goal.with_relays-requires
unfolding listed layouts with_lists too_big
with_relays-requires c =
    let own : list_of c.args.command ≡ NwkCommandList.Relays = sym c.list.ensures ∙ c.in-Relays.is in
    ltb-false 53 _ (rw (map_tab, length_tab) at (within _ _ _ (λ i. (c.type_inv.s i).fits) c.requires.0 c.requires.1 own))

pub with_power_list-requires : goal.with_power_list-requires
unfolding listed layouts with_lists too_big
with_power_list-requires c =
    let own : list_of c.args.command ≡ NwkCommandList.PowerList = sym c.list.ensures ∙ c.in-PowerList.is in
    ltb-false 35 _ (rw (map_tab, length_tab) at (within _ _ _ (λ i. (c.type_inv.s i).fits) c.requires.0 c.requires.1 own))

pub returns-in-NoList : goal.returns-in-NoList
unfolding listed layouts with_lists too_big
returns-in-NoList c =
    elim c.in-NoList.is [ inl e ↦ rw (← c.list.ensures, e) c.blank.ensures | inr e ↦ rw (← c.list.ensures, e) c.blank.ensures ]
