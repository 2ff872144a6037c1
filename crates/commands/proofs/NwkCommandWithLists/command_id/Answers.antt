-- `commands::NwkCommandWithLists::command_id` meets its contract: the identifier goes by the typed command's, else by the first byte
-- (`by_command`). Assumes nothing.
use Rattle.std.specs.Prelude.{Option, Some, None}
use mathlib.Core.Path.{◌≡◌, refl}
use native.Mathlib.Omega.{arith}
use lib.ListN.{get_or}
use Rattle.octets.specs.Strings.{tab}
use Rattle.octets.proofs.Strings.{get_or_tab}
use Rattle.commands.specs.Codes.{command_id_of}
use Rattle.commands.specs.Commands.{firsts}
use Rattle.commands.specs.Writing.{wire_of, wire, wire_id, typed_id, command_id}
use Rattle.commands.specs.declared.{NwkCommandId.NwkCommandId, NwkCommand.NwkCommand, NwkCommandWithLists.NwkCommandWithLists}
use Rattle.commands.proofs.NwkCommandWithLists.command_id.Goals as goal

-- by the typed identifier, else by x
abbrev known : Option NwkCommandId → Option NwkCommandId → Option NwkCommandId
known (Some id) x = Some id
known None x = x

by_command : (c : NwkCommand) (f : NwkCommandWithLists) → wire_id (wire_of c f) ≡ known (typed_id c) (command_id_of (get_or (firsts 0 f.unparsed f.unparsed_len) 0 0))
unfolding wire_id wire_of
by_command (NwkCommand.RouteRequest c) f = refl
by_command (NwkCommand.RouteReply c) f = refl
by_command (NwkCommand.NetworkStatus c) f = refl
by_command (NwkCommand.Leave c) f = refl
by_command NwkCommand.RouteRecord f = refl
by_command (NwkCommand.RejoinRequest c) f = refl
by_command (NwkCommand.RejoinResponse c) f = refl
by_command (NwkCommand.LinkStatus c) f = refl
by_command (NwkCommand.NetworkReport c) f = refl
by_command (NwkCommand.NetworkUpdate c) f = refl
by_command (NwkCommand.EndDeviceTimeoutRequest c) f = refl
by_command (NwkCommand.EndDeviceTimeoutResponse c) f = refl
by_command (NwkCommand.LinkPowerDelta c) f = refl
by_command (NwkCommand.NetworkCommissioningRequest c) f = refl
by_command (NwkCommand.NetworkCommissioningResponse c) f = refl
by_command NwkCommand.Unparsed f = refl

pub returns-in-Some : goal.returns-in-Some
unfolding command_id wire
returns-in-Some c = let f = c.args.self in rw (by_command f.command f, ← c.typed_id.ensures, c.in-Some.is)

pub returns-in-None : goal.returns-in-None
unfolding command_id wire firsts tab command_id_of
returns-in-None c = let f = c.args.self in rw (by_command f.command f, ← c.typed_id.ensures, c.in-None.is, c.if-self-eq0.true)

pub returns-in-None-2 : goal.returns-in-None-2
unfolding command_id wire firsts
returns-in-None-2 c =
    let f = c.args.self in
    rw (by_command f.command f, ← c.typed_id.ensures, c.in-None.is, get_or_tab (λ k. get_or f.unparsed k 0) f.unparsed_len 0 0 (omega arith), c.ok.ensures.value) c.try_from.ensures.0
