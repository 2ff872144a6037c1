-- Names for what the fifteen commands compute by: to unfold one of these is to unfold all that it unfolds.
-- Assumes nothing.
use Rattle.octets.specs.Fields.{fields}
use Rattle.commands.specs.Format.{part_sizes, kept_count, kept, size, width, sizes, widths, read_field, read_fields, plus, summed, head_end, announced, body_end, values}
use Rattle.commands.specs.Commands.{route_request_format, route_reply_format, network_status_format, leave_format, route_record_format, rejoin_request_format, rejoin_response_format, link_status_format, network_report_format, network_update_format, timeout_request_format, timeout_response_format, link_power_delta_format, commissioning_request_format, commissioning_response_format, capability_field, route_request_of, route_request_by, route_reply_of, network_status_of, network_status_by, leave_of, route_record_of, rejoin_request_of, rejoin_response_of, rejoin_response_by, link_status_of, network_report_of, network_report_by, network_update_of, network_update_by, timeout_request_of, timeout_request_by, timeout_response_of, timeout_response_by, link_power_delta_of, link_power_delta_by, commissioning_request_of, commissioning_request_by, commissioning_response_of, commissioning_response_by, route_request_values, route_reply_values, network_status_values, leave_values, route_record_values, rejoin_request_values, rejoin_response_values, link_status_values, network_report_values, network_update_values, timeout_request_values, timeout_response_values, link_power_delta_values, commissioning_request_values, commissioning_response_values}
use Rattle.commands.specs.Reading.{format_of, command_of}

-- the formats
unfoldable pub formats : Unit {0}
unfolding format_of route_request_format route_reply_format network_status_format leave_format route_record_format
    rejoin_request_format rejoin_response_format link_status_format network_report_format network_update_format
    timeout_request_format timeout_response_format link_power_delta_format commissioning_request_format
    commissioning_response_format capability_field
formats = tt

-- the command that values mean, by the meaning of their code where they have one
unfoldable pub meanings : Unit {0}
unfolding command_of route_request_of route_reply_of network_status_of leave_of route_record_of rejoin_request_of rejoin_response_of
    link_status_of network_report_of network_update_of timeout_request_of timeout_response_of link_power_delta_of
    commissioning_request_of commissioning_response_of
meanings = tt

-- and that meaning
unfoldable pub codings : Unit {0}
unfolding route_request_by network_status_by rejoin_response_by network_report_by network_update_by timeout_request_by
    timeout_response_by link_power_delta_by commissioning_request_by commissioning_response_by
codings = tt

-- the values of a command
unfoldable pub contents : Unit {0}
unfolding route_request_values route_reply_values network_status_values leave_values route_record_values rejoin_request_values
    rejoin_response_values link_status_values network_report_values network_update_values timeout_request_values
    timeout_response_values link_power_delta_values commissioning_request_values commissioning_response_values
contents = tt

-- how many bytes and values a format has
unfoldable pub shapes : Unit {0}
unfolding part_sizes kept_count size width sizes widths plus summed
shapes = tt

-- the values at their places in the bytes
unfoldable pub readings : Unit {0}
unfolding formats fields part_sizes kept size sizes read_field read_fields plus summed head_end announced body_end values
readings = tt
