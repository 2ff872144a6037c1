-- Every row of the tables of the presence bits holds, by computing the definitions: one claim, in which a wrong row fails.
-- Assumes nothing.
use mathlib.Core.Path.{refl}
use Rattle.octets.specs.Strings.{tab}
use Rattle.octets.specs.Numbers.{le}
use Rattle.octets.specs.Fields.{packed}
use Rattle.octets.specs.Refusals.{unless, first_of}
use Rattle.octets.specs.Writing.{written}
use Rattle.types.specs.Levels.{tag_length}
use Rattle.header.specs.Control.{control_word}
use Rattle.header.specs.Optional.{relay_bytes}
use Rattle.header.specs.Writing.{fixed_bytes, optional_bytes, header_bytes, bad_control, bad_header, field_refusal, header_write_refusal, write_header}
use Rattle.header.specs.Same.{agrees, aux_agrees}
use Rattle.header.specs.AuxiliaryControl.{security_byte}
use Rattle.header.specs.Auxiliary.{blank_aux, aux_bytes}
use Rattle.frame.specs.Writing.{length_refusals, frame_write_refusal, write_frame}
use Rattle.frame.specs.Sealing.{sealed_length, headers_refusal, seal_refusals, seal_refusal, seal_refused, seal_by, seal_frame}
use Rattle.boundary.specs.Rows.{All}
use Rattle.worked_frames.specs.PresenceBits.{Holds, made, auxiliary, agreeing, each, written_bits, sealed_bits, in_order, cases}

bits_written : All Holds written_bits
unfolding unless first_of tab le packed written control_word relay_bytes fixed_bytes optional_bytes header_bytes bad_control bad_header agrees field_refusal header_write_refusal
    write_header
    length_refusals frame_write_refusal write_frame made each written_bits
bits_written =
    ((refl, refl), ((refl, refl), ((refl, refl), ((refl, refl), ((refl, refl), ((refl, refl), ((refl, refl), ((refl, refl), ((refl, refl), ((refl, refl), ((refl, refl), ((refl, refl), tt))))))))))))

bits_sealed : All Holds sealed_bits
unfolding unless first_of tab le packed control_word relay_bytes fixed_bytes optional_bytes header_bytes bad_control bad_header agrees aux_agrees field_refusal security_byte aux_bytes
    length_refusals tag_length sealed_length headers_refusal seal_refusals seal_refusal seal_refused seal_by seal_frame made auxiliary agreeing each sealed_bits
bits_sealed = (refl, (refl, (refl, (refl, (refl, (refl, (refl, (refl, (refl, (refl, (refl, (refl, tt))))))))))))

order_kept : All Holds in_order
unfolding unless first_of tab le packed written control_word relay_bytes fixed_bytes optional_bytes header_bytes bad_control bad_header agrees aux_agrees field_refusal header_write_refusal
    write_header
    security_byte aux_bytes blank_aux length_refusals frame_write_refusal write_frame tag_length sealed_length headers_refusal seal_refusals seal_refusal seal_refused seal_by seal_frame
    made auxiliary agreeing each in_order
order_kept =
    ((refl, refl), (refl, (refl, (refl, (refl, (refl, (refl, (refl, (refl, (refl, (refl, (refl, (refl, ((refl, refl), (refl, (refl, (refl, tt)))))))))))))))))

pub cases_hold : All (All Holds) cases
unfolding cases
cases_hold = (bits_written, (bits_sealed, (order_kept, tt)))
