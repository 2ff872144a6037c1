-- The cases that document 01, "At the boundaries", marks with a star, as one table. What a row says of the definitions is
-- `Holds`; that every row holds is one claim, in proofs/Starred.antt.
-- Assumes nothing.
use Rattle.std.specs.Prelude.{◌≡◌, true, false, List, [], ◌∷◌, ◌++◌, ℕ, length, drop, take, replicate, None, Option, Some}
use Rattle.header.specs.declared.{control.NwkFrameControl.NwkFrameControl, control.NwkFrameType.NwkFrameType, control.NwkRouteDiscovery.NwkRouteDiscovery, optional.NwkSourceRoute.NwkSourceRoute, nwk.NwkHeader.NwkHeader}
use Rattle.types.specs.Addresses.{nwk, no_nwk}
use Rattle.types.specs.declared.Nwk.{Nwk}
use Rattle.header.specs.Reading.{read_header, blank_header}
use Rattle.commands.specs.declared.{NwkCommand.NwkCommand, NwkCommandWithLists.NwkCommandWithLists, NwkEndDeviceTimeoutRequestCommand.NwkEndDeviceTimeoutRequestCommand, EndDeviceTimeout.EndDeviceTimeout}
use Rattle.commands.specs.Codes.{timeout_code}
use Rattle.commands.specs.Reading.{with_lists, unparsed, read_command}
use Rattle.commands.specs.Writing.{write_command, timeout_seconds}
use Rattle.field.specs.SBox.{sbox}

-- ---- the rows

pub data Case : Type 0 where
  -- a byte string reads as a header of so many bytes, and leaves the bytes behind it
  reads : List ℕ → ℕ → NwkHeader → List ℕ → Case
  -- reading a header refuses a byte string by a number
  refuses : List ℕ → ℕ → Case
  -- a byte string reads as a command
  is_command : List ℕ → NwkCommandWithLists → Case
  -- a byte string reads as a timeout request, and the code that it asks for has so many seconds
  asks : List ℕ → NwkEndDeviceTimeoutRequestCommand → ℕ → Case
  -- a command is written as a byte string
  is_written : NwkCommandWithLists → List ℕ → Case
  -- the S-box of a byte
  substitutes : ℕ → ℕ → Case

-- a command without a list
abbrev pub alone : NwkCommand → NwkCommandWithLists
alone c = with_lists c [] [] [] [] []

-- an output of eight bytes that are not 0, so that what stays of it is seen
abbrev pub lent : List ℕ
lent = replicate 8 0xA5

-- what a row says: the operation's whole answer and, where one is lent, its whole output
abbrev pub Holds : Case → Type 0
Holds (reads f n h rest) = (read_header f ≡ record { refusal = 0; length = n; header = h }) × (drop n f ≡ rest)
Holds (refuses f n) = read_header f ≡ record { refusal = n; length = 0; header = blank_header }
Holds (is_command s c) = read_command s ≡ record { refusal = 0; command = c }
Holds (asks s c n) =
    (read_command s ≡ record { refusal = 0; command = alone (NwkCommand.EndDeviceTimeoutRequest c) })
    × (timeout_seconds (timeout_code c.request_timeout_enum) ≡ record { refusal = 0; seconds = n })
Holds (is_written c s) =
    write_command c lent ≡ record { answer = record { refusal = 0; length = length s }; out = s ++ drop (length s) lent }
Holds (substitutes x y) = sbox x ≡ y

-- ---- what the rows name

-- `08 00 00 00 34 12 1E 07`: data, version 2, source 0x1234, radius 30, sequence 7; and the same with a source route bit
unfoldable pub plain_bytes : ℕ → List ℕ
plain_bytes first = first ∷ 0x00 ∷ 0x00 ∷ 0x00 ∷ 0x34 ∷ 0x12 ∷ 0x1E ∷ 0x07 ∷ []

unfoldable pub data_control : NwkFrameControl
data_control =
    record {
      frame_type = NwkFrameType.Data;
      protocol_version = 2;
      discover_route = NwkRouteDiscovery.Suppress;
      multicast = false;
      security = false;
      source_route = false;
      destination = false;
      extended_source = false;
      end_device_initiator = false;
      reserved1 = 0;
    }

unfoldable pub routed_control : NwkFrameControl
routed_control =
    record {
      frame_type = NwkFrameType.Data;
      protocol_version = 2;
      discover_route = NwkRouteDiscovery.Suppress;
      multicast = false;
      security = false;
      source_route = true;
      destination = false;
      extended_source = false;
      end_device_initiator = false;
      reserved1 = 0;
    }

-- a header from source 0x1234 to 0, radius 30, sequence 7, with a source route or none
unfoldable pub from_probe : NwkFrameControl → Option NwkSourceRoute → List Nwk → NwkHeader
from_probe c route relays =
    record {
      frame_control = c;
      destination = nwk 0;
      source = nwk 0x1234;
      radius = 30;
      sequence_number = 7;
      destination_ieee = None;
      source_ieee = None;
      multicast_control = None;
      source_route = route;
      relays = relays;
    }

-- the source route of relays 0x1234 and 0x5678, index 1
unfoldable pub routed_bytes : List ℕ
routed_bytes =
    0x08 ∷ 0x04 ∷ 0x00 ∷ 0x00 ∷ 0x34 ∷ 0x12 ∷ 0x1E ∷ 0x07 ∷ 0x02 ∷ 0x01 ∷ 0x34 ∷ 0x12 ∷ 0x78 ∷ 0x56 ∷ []

-- Leave with request; a request for timeout 14; link status, first and last, address 0x1234, costs in 1, out 3
unfoldable pub leave_with_request : NwkCommandWithLists
leave_with_request = alone (NwkCommand.Leave (record { rejoin = false; request = true; remove_children = false }))

unfoldable pub timeout14 : NwkEndDeviceTimeoutRequestCommand
timeout14 = record { request_timeout_enum = EndDeviceTimeout.Minutes16384; end_device_configuration = 0 }

unfoldable pub one_link : NwkCommandWithLists
one_link =
    with_lists (NwkCommand.LinkStatus (record { is_first_frame = true; is_last_frame = true }))
    [] (record { address = nwk 0x1234; incoming_cost = 1; outgoing_cost = 3 } ∷ []) [] [] []

-- ---- the table, in document 01's order

unfoldable pub starred : List Case
starred =
    reads (plain_bytes 0x08 ++ (0xAA ∷ [])) 8 (from_probe data_control None (replicate 54 no_nwk)) (0xAA ∷ [])
    ∷ refuses (take 7 (plain_bytes 0x08)) 2
    ∷ refuses (plain_bytes 0x0A ++ (0xAA ∷ [])) 3
    ∷ refuses (plain_bytes 0xC8 ++ (0xAA ∷ [])) 4
    ∷ refuses (plain_bytes 0xCA ++ (0xAA ∷ [])) 3
    ∷ reads routed_bytes 14 (from_probe routed_control (Some (record { relay_count = 2; relay_index = 1 })) (nwk 0x1234 ∷ nwk 0x5678 ∷ replicate 52 no_nwk)) []
    ∷ refuses (take 13 routed_bytes) 8
    ∷ is_command (0x04 ∷ 0x40 ∷ []) leave_with_request
    ∷ is_command (0x04 ∷ []) (unparsed (0x04 ∷ []))
    ∷ asks (0x0B ∷ 0x0E ∷ 0x00 ∷ []) timeout14 983040
    ∷ is_command (0x0B ∷ 0x0F ∷ 0x00 ∷ []) (unparsed (0x0B ∷ 0x0F ∷ 0x00 ∷ []))
    ∷ is_command (0x08 ∷ 0xE1 ∷ 0x34 ∷ 0x12 ∷ 0xB9 ∷ []) one_link
    ∷ is_written one_link (0x08 ∷ 0x61 ∷ 0x34 ∷ 0x12 ∷ 0x31 ∷ [])
    ∷ substitutes 0x00 0x63
    ∷ []
