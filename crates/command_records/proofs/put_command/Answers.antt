-- `put_command` meets its contract: six parts, each right behind the one before. Assumes nothing.
use Rattle.command_records.proofs.Lengths.{parts_put}
use Rattle.command_records.proofs.put_command.Goals as goal

pub returns : goal.returns
returns c =
    parts_put _ _ _ _ _ _ _ _ c.put_fields.ensures c.put_relays.ensures c.put_link_statuses.ensures
    c.put_pan_ids.ensures c.put_power_list.ensures c.put_unparsed.ensures
