-- `link_at` meets its contract, field by field. Assumes nothing.
use mathlib.Core.Path.{◌≡◌, ap, ◌∙◌}
use Prim.Native.Nat.{ℕ, ◌+◌}
use native.Mathlib.Omega.{arith}
use lib.ListN.{get_or}
use Rattle.types.specs.Addresses.{nwk}
use Rattle.commands.specs.Format.{read_fields, read_field, size}
use Rattle.commands.specs.Commands.{link_of}
use Rattle.command_records.specs.Lists.{link_record_entry, link_record_at}
use Rattle.command_records.proofs.read_lists.link_at.Goals as goal

pub returns : goal.returns
unfolding link_record_at link_of link_record_entry read_fields read_field size
returns c =
    let place : c.args.i + 3 ≡ c.args.i + 2 + 1 = omega arith in
    λ i. record {
      address = nwk (c.read_u16.ensures i);
      incoming_cost = c.byte_at.ensures i;
      outgoing_cost = (c.byte_at-2.ensures ∙ ap (λ (n : ℕ). get_or c.args.bytes.now n 0) place) i;
    }
