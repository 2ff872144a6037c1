-- How long the parts of the records are.
-- Assumes nothing.
use Rattle.std.specs.Prelude.{Option}
use mathlib.Core.Path.{◌≡◌}
use mathlib.Core.Bool.{Bool, not}
use Prim.Native.Nat.{ℕ}
use lib.ListN.{length, length-append}
use Rattle.octets.proofs.Numbers.{length_le}
use Rattle.header.specs.declared.{optional.NwkSourceRoute.NwkSourceRoute, nwk.NwkHeader.NwkHeader, auxiliary.NwkAuxHeader.NwkAuxHeader}
use Rattle.header.proofs.OptionalFields.{relay_length}
use Rattle.records.specs.Optional.{ieee_record, multicast_record, route_record}
use Rattle.records.specs.HeaderRecord.{address_record, optional_record, header_record}
use Rattle.records.specs.OpenedRecord.{option_record, opened_front, opened_record}
use Rattle.frame.specs.Opening.{FrameOpened}
use Rattle.frame.specs.Security.{is_absent, or_blank}
use Rattle.records.specs.AuxiliaryRecord.{counter_record, aux_record}

pub length_ieee : (o : Option ℕ) → length (ieee_record o) ≡ 9
unfolding ieee_record
length_ieee o = simp (length-append, length_le)

pub length_multicast : (o : Option ℕ) → length (multicast_record o) ≡ 2
unfolding multicast_record
length_multicast o = simp (length-append, length_le)

pub length_route : (o : Option NwkSourceRoute) → length (route_record o) ≡ 3
unfolding route_record
length_route o = simp (length-append, length_le)

pub length_address : (d s r n : ℕ) → length (address_record d s r n) ≡ 6
unfolding address_record
length_address d s r n = simp (length-append, length_le)

pub length_optional : (h : NwkHeader) → length (optional_record h) ≡ 20
unfolding optional_record
length_optional h = simp (length-append, length_ieee, length_multicast)

pub length_header : (h : NwkHeader) → length (header_record h) ≡ 147
unfolding header_record
length_header h = simp (length-append, length_address, length_optional, length_route, relay_length)

pub length_counter : (a : NwkAuxHeader) → length (counter_record a) ≡ 14
unfolding counter_record
length_counter a = simp (length-append, length_le, length_ieee)

pub length_aux : (p : Bool) (a : NwkAuxHeader) → length (aux_record p a) ≡ 19
unfolding aux_record
length_aux p a = simp length_counter

pub length_option : (o : Option NwkAuxHeader) → length (option_record o) ≡ 19
unfolding option_record
length_option o = length_aux (not (is_absent o)) (or_blank o)

pub length_front : (refusal mark n : ℕ) (ieee : Option ℕ) → length (opened_front refusal mark n ieee) ≡ 16
unfolding opened_front
length_front refusal mark n ieee = simp (length-append, length_le, length_ieee)

pub length_opened : (o : FrameOpened) → length (opened_record o) ≡ 182
unfolding opened_record
length_opened o = simp (length-append, length_front, length_header, length_option)
