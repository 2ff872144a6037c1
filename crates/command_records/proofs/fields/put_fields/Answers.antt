-- `command_records::fields::put_fields` meets its contract: the fields over a front of zeros. Assumes nothing.
use Rattle.command_records.specs.Fields.{fields_record}
use Rattle.command_records.proofs.Lengths.{length_fields, over_places_lem}
use Rattle.command_records.proofs.fields.put_fields.Goals as goal

pub returns : goal.returns
unfolding fields_record
returns c = rw (c.put_own_fields.ensures, c.copy_at.ensures) (over_places_lem 25 _ _ (length_fields c.args.command))
