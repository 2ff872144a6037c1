-- Every row of the table of levels holds, by computing the definitions: one claim, in which a wrong row fails.
-- Assumes nothing.
use mathlib.Core.Path.{refl}
use Rattle.octets.specs.Strings.{tab}
use Rattle.octets.specs.Numbers.{le}
use Rattle.octets.specs.Fields.{packed}
use Rattle.octets.specs.Refusals.{unless, first_of}
use Rattle.types.specs.Levels.{tag_length}
use Rattle.ccm.specs.Formatting.{flags}
use Rattle.header.specs.Control.{control_word}
use Rattle.header.specs.Optional.{relay_bytes}
use Rattle.header.specs.Writing.{fixed_bytes, optional_bytes, header_bytes, bad_control, bad_header, field_refusal}
use Rattle.header.specs.Same.{agrees, aux_agrees}
use Rattle.header.specs.AuxiliaryControl.{security_byte}
use Rattle.header.specs.Auxiliary.{aux_bytes}
use Rattle.frame.specs.Writing.{length_refusals}
use Rattle.frame.specs.Sealing.{sealed_length, headers_refusal, seal_refusals, seal_refusal}
use Rattle.boundary.specs.Rows.{All}
use Rattle.boundary.specs.Starred.{from_probe}
use Rattle.worked_frames.specs.LastCounter.{probe, counted, probe_ieee}
use Rattle.worked_frames.specs.Levels.{Holds, cases}

pub cases_hold : All Holds cases
unfolding unless first_of tab le packed control_word relay_bytes fixed_bytes optional_bytes header_bytes bad_control bad_header agrees aux_agrees field_refusal
    security_byte aux_bytes tag_length flags sealed_length headers_refusal length_refusals seal_refusals seal_refusal from_probe probe counted probe_ieee cases
cases_hold =
    (refl, (refl, (refl, ((refl, refl), ((refl, refl), ((refl, refl), ((refl, refl), ((refl, refl), ((refl, refl), (refl, (refl, (refl, (refl, (refl, (refl, (refl, tt))))))))))))))))
