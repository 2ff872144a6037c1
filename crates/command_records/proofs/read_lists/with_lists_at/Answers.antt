-- `with_lists_at` meets its contract, field by field; every place of a list is read. Assumes nothing.
use mathlib.Core.Path.{◌∙◌}
use Rattle.types.specs.Addresses.{no_nwk}
use Rattle.commands.specs.Commands.{no_pan_id, no_power}
use Rattle.commands.proofs.Filling.{places_whole}
use Rattle.command_records.specs.Lists.{with_lists_at}
use Rattle.command_records.proofs.read_lists.with_lists_at.Goals as goal

pub returns : goal.returns
unfolding with_lists_at
returns c =
    λ i. record {
      command = c.args.command;
      relay_count = c.byte_at.ensures i;
      relays = (c.read_relays.ensures ∙ places_whole _ no_nwk 53) i;
      link_statuses_len = c.byte_at-2.ensures i;
      link_statuses = c.links_at.ensures i;
      report_information_count = c.byte_at-3.ensures i;
      pan_ids = (c.read_pan_ids.ensures ∙ places_whole _ no_pan_id 31) i;
      list_count = c.byte_at-4.ensures i;
      power_list = (c.read_power_list.ensures ∙ places_whole _ no_power 35) i;
      unparsed_len = c.byte_at-5.ensures i;
      unparsed = c.unparsed_at.ensures i;
    }
