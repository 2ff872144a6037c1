-- `put_aux` meets its contract: the five bytes of presence and security control, and the rest behind them. Assumes nothing.
use mathlib.Core.Path.{refl}
use native.Mathlib.Omega.{arith}
use Rattle.octets.proofs.Strings.{over_then}
use Rattle.records.specs.AuxiliaryRecord.{counter_record, aux_record}
use Rattle.records.proofs.auxiliary_record.put_aux.Goals as goal

pub returns : goal.returns
unfolding aux_record counter_record
returns c =
    over_then _ _ _ 0 5 _ _ (omega arith) refl c.put_security.ensures c.put_counter.ensures
