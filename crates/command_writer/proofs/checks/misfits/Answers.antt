-- `command_writer::checks::misfits` meets its contract: by the command, of the tests that the types leave. Assumes nothing.
use mathlib.Core.Path.{◌≡◌, refl, sym, ap, ◌∙◌}
use mathlib.Core.Bool.{false}
use Rattle.commands.specs.Reading.{list_of}
use Rattle.commands.specs.Writing.{wire, misfits}
use Rattle.commands.specs.declared.{NwkCommand.NwkCommand, NwkLinkStatusCommand.NwkLinkStatusCommand, NwkNetworkReportCommand.NwkNetworkReportCommand, NwkNetworkUpdateCommand.NwkNetworkUpdateCommand, NwkLinkPowerDeltaCommand.NwkLinkPowerDeltaCommand, NwkCommandWithLists.NwkCommandWithLists}
use Rattle.commands.proofs.Ranges.{too_big}
use Rattle.commands.proofs.InRange.{InRange, in_range, misfits_test}
use Rattle.command_writer.proofs.checks.misfits.Goals as goal

-- the test of the command
test : (f : NwkCommandWithLists) (c : NwkCommand) → InRange f → f.command ≡ c → too_big (list_of c) c f ≡ misfits (list_of f.command) (wire f)
test f c r e = ap (λ (d : NwkCommand). too_big (list_of d) d f) (sym e) ∙ sym (misfits_test f r)

-- the other commands pass
passed : (f : NwkCommandWithLists) (c : NwkCommand)
    → (c ≡ NwkCommand.RouteRecord → ⊥)
    → ((x : NwkLinkStatusCommand) → c ≡ NwkCommand.LinkStatus x → ⊥)
    → ((x : NwkNetworkReportCommand) → c ≡ NwkCommand.NetworkReport x → ⊥)
    → ((x : NwkNetworkUpdateCommand) → c ≡ NwkCommand.NetworkUpdate x → ⊥)
    → ((x : NwkLinkPowerDeltaCommand) → c ≡ NwkCommand.LinkPowerDelta x → ⊥)
    → false ≡ too_big (list_of c) c f
unfolding too_big
passed f NwkCommand.RouteRecord relays links pan_ids update powers = absurd (relays refl)
passed f (NwkCommand.LinkStatus x) relays links pan_ids update powers = absurd (links x refl)
passed f (NwkCommand.NetworkReport x) relays links pan_ids update powers = absurd (pan_ids x refl)
passed f (NwkCommand.NetworkUpdate x) relays links pan_ids update powers = absurd (update x refl)
passed f (NwkCommand.LinkPowerDelta x) relays links pan_ids update powers = absurd (powers x refl)
passed f _ relays links pan_ids update powers = refl

pub returns-in-RouteRecord : goal.returns-in-RouteRecord
unfolding too_big
returns-in-RouteRecord c = test _ _ (in_range c.args.given _ c.well_formed.0) c.in-RouteRecord.is

pub returns-in-LinkStatus : goal.returns-in-LinkStatus
unfolding too_big
returns-in-LinkStatus c = c.link_status_misfits.ensures ∙ test _ _ (in_range c.args.given _ c.well_formed.0) c.in-LinkStatus.is

pub returns-in-NetworkReport : goal.returns-in-NetworkReport
unfolding too_big
returns-in-NetworkReport c = test _ _ (in_range c.args.given _ c.well_formed.0) c.in-NetworkReport.is

pub returns-in-NetworkUpdate : goal.returns-in-NetworkUpdate
unfolding too_big
returns-in-NetworkUpdate c = test _ _ (in_range c.args.given _ c.well_formed.0) c.in-NetworkUpdate.is

pub returns-in-LinkPowerDelta : goal.returns-in-LinkPowerDelta
unfolding too_big
returns-in-LinkPowerDelta c = test _ _ (in_range c.args.given _ c.well_formed.0) c.in-LinkPowerDelta.is

pub returns-in_default : goal.returns-in_default
returns-in_default c =
    let f = c.args.given in
    let d = c.in_default in
    passed f f.command d.not-RouteRecord d.not-LinkStatus d.not-NetworkReport d.not-NetworkUpdate d.not-LinkPowerDelta
    ∙ test _ _ (in_range f _ c.well_formed.0) refl
