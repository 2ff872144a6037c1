-- Every row of the table of starred cases holds, by computing the definitions: one claim, in which a wrong row fails.
-- Assumes nothing.
use mathlib.Core.Path.{refl}
use Rattle.octets.specs.Strings.{tab, over}
use Rattle.octets.specs.Numbers.{le, le_at}
use Rattle.octets.specs.Fields.{fields, packed}
use Rattle.octets.specs.Refusals.{unless, first_of}
use Rattle.octets.specs.Writing.{written}
use Rattle.field.specs.Field.{xtime, product_of_bits, product, bit_power, power, inverse}
use Rattle.field.specs.SBox.{bit, affine_bit, of_bits, affine, sbox}
use Rattle.header.specs.Control.{control_of}
use Rattle.header.specs.Reading.{source_at, multicast_at, route_at, relays_announced, header_end, optional_refusals, header_refusal, relays_of, header_by, blank_header, read_header}
use Rattle.commands.specs.Codes.{command_id_of, command_ids, timeout_of, timeouts}
use Rattle.commands.specs.Format.{held_parts, held_field, held_fields, held_entries, held_values, part_sizes, kept_count, kept, filled, size, width, read_field, write_field, sizes, widths, read_fields, write_fields, plus, summed, head_end, announced, body_end, values, write_entries, body_bytes}
use Rattle.commands.specs.Commands.{leave_format, leave_of, leave_values, timeout_request_format, timeout_request_by, timeout_request_of, timeout_request_values, link_status_format, link_status_of, link_status_values, link_of, link_entry, firsts}
use Rattle.commands.specs.Reading.{format_of, command_of, places, with_lists, listed, body_of, typed_by, typed, unparsed, parsed, read_refusal, read_command}
use Rattle.commands.specs.Writing.{wire_of, wire, wire_bytes, command_bytes, over_places, misfits, field_refusal, write_refusal, write_command, seconds, timeout_seconds}
use Rattle.boundary.specs.Rows.{All}
use Rattle.boundary.specs.Starred.{Holds, starred, plain_bytes, data_control, routed_control, from_probe, routed_bytes, leave_with_request, timeout14, one_link}

pub starred_hold : All Holds starred
unfolding tab over held_parts held_field held_fields held_entries held_values le le_at fields packed unless first_of written
    xtime product_of_bits product bit_power power inverse bit affine_bit of_bits affine sbox control_of source_at multicast_at
    route_at relays_announced header_end optional_refusals header_refusal relays_of header_by blank_header read_header
    command_id_of command_ids timeout_of timeouts part_sizes kept_count kept filled size width read_field write_field sizes
    widths read_fields write_fields plus summed head_end announced body_end values write_entries body_bytes leave_format
    leave_of leave_values timeout_request_format timeout_request_by timeout_request_of timeout_request_values link_status_format
    link_status_of link_status_values link_of link_entry firsts format_of command_of places with_lists listed body_of typed_by
    typed unparsed parsed read_refusal read_command wire_of wire wire_bytes command_bytes over_places misfits field_refusal
    write_refusal write_command seconds timeout_seconds starred plain_bytes data_control routed_control from_probe routed_bytes
    leave_with_request timeout14 one_link
starred_hold = (
  (refl, refl),
  (refl, (refl, (refl, (refl, ((refl, refl), (refl, (refl, (refl, ((refl, refl), (refl, (refl, (refl, (refl, tt))))))))))))),
)
