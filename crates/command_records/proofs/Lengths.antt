-- Where the parts of the command record begin, and that fields written over a blank front are filled up with zeros.
-- Assumes nothing.
use Rattle.std.specs.Prelude.{Option}
use mathlib.Core.Path.{◌≡◌, refl, sym, ap, ◌∙◌}
use mathlib.Core.List.{List, ◌∷◌, ◌++◌, append_assoc}
use Prim.Native.Nat.{ℕ, suc, ◌+◌, ◌*◌, ◌≤◌}
use native.Mathlib.Omega.{arith}
use lib.ListN.{length, get_or, drop, replicate, length-append, length-drop, length-replicate}
use lib.Seq.{drop-append-le}
use Rattle.octets.specs.Strings.{over}
use Rattle.octets.proofs.Strings.{over_front, over_then, length_tab}
use Rattle.octets.proofs.Numbers.{length_le}
use Rattle.types.specs.Addresses.{no_nwk}
use Rattle.commands.specs.Format.{Field, size, sizes}
use Rattle.commands.specs.Commands.{entries_of, capability_values, route_record_format, relay_entry, link_entry, no_link, network_report_format, pan_id_entry, no_pan_id, link_power_delta_format, power_entry, no_power}
use Rattle.commands.specs.Reading.{places}
use Rattle.commands.proofs.Format.{length_write_entries}
use Rattle.commands.specs.declared.{NwkCommand.NwkCommand, NwkCommandWithLists.NwkCommandWithLists}
use Rattle.command_records.specs.Fields.{address_record, field_bytes, fields_record}
use Rattle.command_records.specs.Lists.{link_record_entry, list_record, relays_record, links_record, pan_ids_record, powers_record}
use Rattle.command_records.specs.CommandRecord.{lists_record, command_record}

-- ---- the fields

length_address : (a : Option ℕ) → length (address_record a) ≡ 9
unfolding address_record
length_address a = simp length_le

-- the fields of every command have their place
pub length_fields : (c : NwkCommand) → length (field_bytes c) ≤ 25
unfolding field_bytes capability_values
length_fields (NwkCommand.RouteRequest c) = simp (length-append, length_le, length_address) (omega arith)
length_fields (NwkCommand.RouteReply c) = simp (length-append, length_le, length_address) (omega arith)
length_fields (NwkCommand.NetworkStatus c) = simp length_le (omega arith)
length_fields (NwkCommand.Leave c) = omega arith
length_fields NwkCommand.RouteRecord = omega arith
length_fields (NwkCommand.RejoinRequest c) = omega arith
length_fields (NwkCommand.RejoinResponse c) = simp (length-append, length_le) (omega arith)
length_fields (NwkCommand.LinkStatus c) = omega arith
length_fields (NwkCommand.NetworkReport c) = simp length_le (omega arith)
length_fields (NwkCommand.NetworkUpdate c) = simp (length-append, length_le) (omega arith)
length_fields (NwkCommand.EndDeviceTimeoutRequest c) = omega arith
length_fields (NwkCommand.EndDeviceTimeoutResponse c) = omega arith
length_fields (NwkCommand.LinkPowerDelta c) = omega arith
length_fields (NwkCommand.NetworkCommissioningRequest c) = omega arith
length_fields (NwkCommand.NetworkCommissioningResponse c) = simp (length-append, length_le) (omega arith)
length_fields NwkCommand.Unparsed = omega arith

pub length_places : {A : Type 0} (d : A) (m : ℕ) (xs : List A) → length xs ≤ m → length (places d m xs) ≡ m
unfolding places
length_places d m xs h = simp (length-append, length-drop, length-replicate) (omega arith)

-- written over m zeros at the front, the rest of them stays
pub over_places_lem : (m : ℕ) (o bs : List ℕ) → length bs ≤ m → over (over o 0 (replicate m 0)) 0 bs ≡ over o 0 (places 0 m bs)
unfolding places
over_places_lem m o bs h =
    let z : length {A = ℕ} (replicate m 0) ≡ m = length-replicate m 0 in
    let whole : length (bs ++ drop (length bs) (replicate m 0)) ≡ m = length_places 0 m bs h in
    over_front (over o 0 (replicate m 0)) bs
    ∙ ap (λ (l : List ℕ). bs ++ drop (length bs) l) (over_front o (replicate m 0))
    ∙ ap (λ (l : List ℕ). bs ++ l) (drop-append-le (length bs) (replicate m 0) (drop (length (replicate m 0)) o) (rw z h))
    ∙ sym (append_assoc bs (drop (length bs) (replicate m 0)) (drop (length (replicate m 0)) o))
    ∙ ap (λ (n : ℕ). (bs ++ drop (length bs) (replicate m 0)) ++ drop n o) (z ∙ sym whole)
    ∙ sym (over_front o (bs ++ drop (length bs) (replicate m 0)))

-- ---- the lists

-- a count and m entries
length_list : {A : Type 0} (fs : List Field) (entry : A → List ℕ) (d : A) (xs : List A) (m n : ℕ)
    → length (list_record fs n (entries_of entry d xs m)) ≡ suc (m * sizes fs)
unfolding list_record
length_list fs entry d xs m n =
    ap suc (length_write_entries fs (entries_of entry d xs m) ∙ ap (λ (k : ℕ). k * sizes fs) (length_tab (λ (k : ℕ). entry (get_or xs k d)) m))

joined_length : (p s : List ℕ) {i n : ℕ} → length p ≡ i → length s ≡ n → length (p ++ s) ≡ i + n
joined_length p s e l = rw (length-append p s, e, l) refl

module _ (f : NwkCommandWithLists) where
  -- what stands before each list
  abbrev pub to_relays : List ℕ
  to_relays = fields_record f.command

  abbrev pub to_links : List ℕ
  to_links = to_relays ++ relays_record f.relay_count f.relays

  abbrev pub to_pan_ids : List ℕ
  to_pan_ids = to_links ++ links_record f.link_statuses_len f.link_statuses

  abbrev pub to_powers : List ℕ
  to_powers = to_pan_ids ++ pan_ids_record f.report_information_count f.pan_ids

  abbrev pub to_bytes : List ℕ
  to_bytes = to_powers ++ powers_record f.list_count f.power_list

  -- and what from each list on
  abbrev pub from_bytes : List ℕ
  from_bytes = f.unparsed_len ∷ f.unparsed

  abbrev pub from_powers : List ℕ
  from_powers = powers_record f.list_count f.power_list ++ from_bytes

  abbrev pub from_pan_ids : List ℕ
  from_pan_ids = pan_ids_record f.report_information_count f.pan_ids ++ from_powers

  abbrev pub from_links : List ℕ
  from_links = links_record f.link_statuses_len f.link_statuses ++ from_pan_ids

  -- how long it is before each list
  pub at_relays : length to_relays ≡ 25
  unfolding fields_record
  at_relays = length_places 0 25 (field_bytes f.command) (length_fields f.command)

  pub at_links : length to_links ≡ 132
  unfolding route_record_format size sizes
  at_links = joined_length to_relays _ at_relays (length_list route_record_format.entry relay_entry no_nwk f.relays 53 f.relay_count)

  pub at_pan_ids : length to_pan_ids ≡ 257
  unfolding link_record_entry size sizes
  at_pan_ids = joined_length to_links _ at_links (length_list link_record_entry link_entry no_link f.link_statuses 31 f.link_statuses_len)

  pub at_powers : length to_powers ≡ 320
  unfolding network_report_format size sizes
  at_powers =
      joined_length to_pan_ids _ at_pan_ids
      (length_list network_report_format.entry pan_id_entry no_pan_id f.pan_ids 31 f.report_information_count)

  pub at_bytes : length to_bytes ≡ 426
  unfolding link_power_delta_format size sizes
  at_bytes =
      joined_length to_powers _ at_powers (length_list link_power_delta_format.entry power_entry no_power f.power_list 35 f.list_count)

  pub whole : to_bytes ++ from_bytes ≡ command_record f
  unfolding command_record lists_record
  whole = simp append_assoc

  pub length_command : length f.unparsed ≡ 108 → length (command_record f) ≡ 535
  length_command l =
      ap length (sym whole) ∙ joined_length to_bytes from_bytes at_bytes (ap suc l)

  -- the six parts, each written right behind the one before
  pub parts_put : (o o₁ o₂ o₃ o₄ o₅ o₆ : List ℕ) → o₁ ≡ over o 0 to_relays
      → o₂ ≡ over o₁ 25 (relays_record f.relay_count f.relays)
      → o₃ ≡ over o₂ 132 (links_record f.link_statuses_len f.link_statuses)
      → o₄ ≡ over o₃ 257 (pan_ids_record f.report_information_count f.pan_ids)
      → o₅ ≡ over o₄ 320 (powers_record f.list_count f.power_list)
      → o₆ ≡ over o₅ 426 from_bytes → o₆ ≡ over o 0 (command_record f)
  parts_put o o₁ o₂ o₃ o₄ o₅ o₆ p₁ p₂ p₃ p₄ p₅ p₆ =
      let q₂ = over_then o o₁ o₂ 0 25 _ _ (omega arith) (rw at_relays refl) p₁ p₂ in
      let q₃ = over_then o o₂ o₃ 0 132 _ _ (omega arith) (rw at_links refl) q₂ p₃ in
      let q₄ = over_then o o₃ o₄ 0 257 _ _ (omega arith) (rw at_pan_ids refl) q₃ p₄ in
      let q₅ = over_then o o₄ o₅ 0 320 _ _ (omega arith) (rw at_powers refl) q₄ p₅ in
      over_then o o₅ o₆ 0 426 _ _ (omega arith) (rw at_bytes refl) q₅ p₆ ∙ ap (over o 0) whole
