-- `route_reply_at` meets its contract: the fields stand at their places in the record. Assumes nothing.
use Rattle.std.specs.Prelude.{Some, None}
use mathlib.Core.Path.{◌≡◌, refl, ◌∙◌}
use Prim.Native.Nat.{ℕ}
use lib.Dec.{eqb}
use mathlib.Core.Bool.{Bool, true, false, cond}
use mathlib.Core.List.{[], ◌∷◌}
use lib.ListN.{get_or}
use Rattle.octets.specs.Fields.{bit}
use Rattle.commands.specs.declared.NwkCommand.{NwkCommand}
use Rattle.commands.specs.Reading.{command_of}
use Rattle.command_records.specs.Fields.{record_values}
use Rattle.octets.specs.Numbers.{le_at}
use Rattle.types.specs.Addresses.{nwk}
use Rattle.commands.specs.Format.{Values}
use Rattle.commands.specs.Commands.{address_of, entry_at, route_reply_of}
use Rattle.command_records.proofs.read_fields.route_reply_at.Goals as goal

-- the entries of a route reply, whose first optional address is present or not
abbrev entries : Bool → ℕ → ℕ → Values
entries b x y = record { head = []; entries = cond b ((x ∷ []) ∷ (y ∷ []) ∷ []) ((y ∷ []) ∷ []) }

originator : (b : Bool) (x y : ℕ) → cond b (Some x) None ≡ address_of (bit b) (entry_at (entries b x y) 0)
unfolding address_of
originator true x y = refl
originator false x y = refl

responder : (b : Bool) (p x y : ℕ) → address_of p y ≡ address_of p (entry_at (entries b x y) (bit b))
responder true p x y = refl
responder false p x y = refl

pub returns : goal.returns
unfolding command_of record_values route_reply_of address_of
returns c =
    let r = c.args.bytes.now in
    let b = eqb (get_or r 7 0) 1 in
    λ i. Some (NwkCommand.RouteReply (record {
      route_request_identifier = c.byte_at.ensures i;
      originator_nwk = nwk (c.read_u16.ensures i);
      responder_nwk = nwk (c.read_u16-2.ensures i);
      path_cost = c.byte_at-2.ensures i;
      originator_eui64 = (c.address_at-originator_eui64.ensures ∙ originator b (le_at 8 r 8) (le_at 8 r 17)) i;
      responder_eui64 = (c.address_at-responder_eui64.ensures ∙ responder b (get_or r 16 0) (le_at 8 r 8) (le_at 8 r 17)) i;
    }))
