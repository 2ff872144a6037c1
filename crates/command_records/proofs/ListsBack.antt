-- The lists that a command's record says are the command's own: each stands with its count behind parts of known
-- length, and its entries are read back by the one inverse law of the formats.
-- Assumes nothing.
use mathlib.Core.Path.{◌≡◌, refl, sym, ap, ◌∙◌}
use mathlib.Core.List.{List, [], ◌∷◌, ◌++◌, append_assoc}
use Prim.Native.Nat.{ℕ, ◌+◌, ◌*◌, ◌<◌}
use lib.ListN.{length, get_or, length-append}
use lib.Seq.{get_or_at, get_or-append-add}
use Rattle.octets.specs.Strings.{tab}
use Rattle.octets.proofs.Strings.{length_tab, get_or_tab, tab_ext}
use Rattle.types.specs.Addresses.{no_nwk}
use Rattle.commands.specs.Format.{Field, size, width, sizes, widths, read_field, read_fields, write_entries}
use Rattle.commands.specs.Commands.{entries_of, route_record_format, relay_of, relay_entry, link_of, link_entry, no_link, network_report_format, pan_id_of, pan_id_entry, no_pan_id, link_power_delta_format, power_of, power_entry, power_at, no_power}
use Rattle.commands.proofs.Format.{HoldFields, entry_back}
use Rattle.commands.proofs.Commands.{entries_shaped}
use Rattle.commands.proofs.Ranges.{entries_held}
use Rattle.commands.proofs.Filling.{tab_whole}
use Rattle.commands.specs.declared.NwkCommandWithLists.{NwkCommandWithLists}
use Rattle.command_records.specs.Lists.{link_record_entry, list_record, link_record_at, with_lists_at}
use Rattle.command_records.specs.CommandRecord.{lists_record, command_record}
use Rattle.command_records.proofs.Lengths.{to_relays, to_links, to_pan_ids, to_powers, to_bytes, from_links, from_pan_ids, from_powers, from_bytes, at_relays, at_links, at_pan_ids, at_powers, at_bytes, whole}
use Rattle.command_records.proofs.Fits.{CommandFits}

-- ---- a list with its count

-- the entries of a kind: written, and read again
module _ {A : Type 0} (fs : List Field) (entry : A → List ℕ) (of : List ℕ → A) (d : A) where
  -- at place i of r stand a count n and behind it the m entries xs
  abbrev Stands : ℕ → ℕ → List A → List ℕ → ℕ → Type 0
  Stands m n xs r i = (get_or r i 0 ≡ n) × (tab (λ (k : ℕ). of (read_fields fs r (i + 1 + k * sizes fs))) m ≡ xs)

  list_back : ((x : A) → length (entry x) ≡ widths fs) → ((x : A) → of (entry x) ≡ x) → (m n : ℕ) (xs : List A) → length xs ≡ m
      → ((k : ℕ) → HoldFields fs (entry (get_or xs k d))) → (p rest r : List ℕ) (i : ℕ) → length p ≡ i
      → p ++ (list_record fs n (entries_of entry d xs m) ++ rest) ≡ r → Stands m n xs r i
  unfolding list_record
  list_back shape means m n xs full holds p rest r i l e =
      let es = entries_of entry d xs m in
      let w = write_entries fs es in
      let front : (p ++ (n ∷ [])) ++ (w ++ rest) ≡ r = append_assoc p (n ∷ []) (w ++ rest) ∙ e in
      let here : length (p ++ (n ∷ [])) ≡ i + 1 = rw (length-append p (n ∷ []), l) refl in
      let count : length es ≡ m = length_tab (λ (k : ℕ). entry (get_or xs k d)) m in
      let one : (k : ℕ) → k < m → of (read_fields fs r (i + 1 + k * sizes fs)) ≡ get_or xs k d = λ k h. (
      ap (λ (s : List ℕ). of (read_fields fs s (i + 1 + k * sizes fs))) (sym front)
      ∙ ap (λ (j : ℕ). of (read_fields fs ((p ++ (n ∷ [])) ++ (w ++ rest)) (j + k * sizes fs))) (sym here)
      ∙ ap of (entry_back fs es k (p ++ (n ∷ [])) rest (rw count h) (entries_shaped entry d xs m fs shape) (entries_held fs entry d xs m (λ j g. holds j))
      ∙ get_or_tab (λ (j : ℕ). entry (get_or xs j d)) m k [] h)
      ∙ means (get_or xs k d)
      ) in (
        ap (λ (s : List ℕ). get_or s i 0) (sym e) ∙ get_or_at p n (w ++ rest) 0 i l,
        tab_ext _ (λ (k : ℕ). get_or xs k d) m one ∙ ap (tab (λ (k : ℕ). get_or xs k d)) (sym full) ∙ tab_whole xs d,
      )

-- ---- the five lists

module _ (f : NwkCommandWithLists) (w : CommandFits f) where
  relays_stand : Stands route_record_format.entry relay_entry relay_of no_nwk 53 f.relay_count f.relays (command_record f) 25
  unfolding command_record lists_record route_record_format relay_of relay_entry widths width
  relays_stand =
      list_back route_record_format.entry relay_entry relay_of no_nwk (λ x. refl) (λ x. refl) 53 f.relay_count f.relays w.relays.length_is
      (λ k. (w.relays.entries k, tt)) (to_relays f) (from_links f) (command_record f) 25 (at_relays f) refl

  links_stand : Stands link_record_entry link_entry link_of no_link 31 f.link_statuses_len f.link_statuses (command_record f) 132
  unfolding command_record lists_record link_record_entry link_of link_entry widths width
  links_stand =
      list_back link_record_entry link_entry link_of no_link (λ x. refl) (λ x. refl) 31 f.link_statuses_len f.link_statuses w.links.length_is
      (λ k. let h = w.links.entries k in (h.0, (h.1, (h.2, tt)))) (to_links f) (from_pan_ids f) (command_record f) 132
      (at_links f) (simp append_assoc)

  pan_ids_stand : Stands network_report_format.entry pan_id_entry pan_id_of no_pan_id 31 f.report_information_count f.pan_ids (command_record f) 257
  unfolding command_record lists_record network_report_format pan_id_of pan_id_entry widths width
  pan_ids_stand =
      list_back network_report_format.entry pan_id_entry pan_id_of no_pan_id (λ x. refl) (λ x. refl) 31 f.report_information_count f.pan_ids
      w.pan_ids.length_is (λ k. (w.pan_ids.entries k, tt)) (to_pan_ids f) (from_powers f) (command_record f) 257 (at_pan_ids f)
      (simp append_assoc)

  powers_stand : Stands link_power_delta_format.entry power_entry power_of no_power 35 f.list_count f.power_list (command_record f) 320
  unfolding command_record lists_record link_power_delta_format power_of power_entry widths width
  powers_stand =
      list_back link_power_delta_format.entry power_entry power_of no_power (λ x. refl) (λ x. refl) 35 f.list_count f.power_list w.powers.length_is
      (λ k. let h = w.powers.entries k in (h.0, (h.1, tt))) (to_powers f) (from_bytes f) (command_record f) 320 (at_powers f)
      (simp append_assoc)

  -- the bytes of an unparsed command stand as they are
  bytes_stand : (get_or (command_record f) 426 0 ≡ f.unparsed_len) × (tab (λ (k : ℕ). get_or (command_record f) (427 + k) 0) 108 ≡ f.unparsed)
  bytes_stand =
      let n = f.unparsed_len in
      let xs = f.unparsed in
      let front : (to_bytes f ++ (n ∷ [])) ++ xs ≡ command_record f = append_assoc (to_bytes f) (n ∷ []) xs ∙ whole f in
      let here : length (to_bytes f ++ (n ∷ [])) ≡ 427 = rw (length-append (to_bytes f) (n ∷ []), at_bytes f) refl in (
        ap (λ (s : List ℕ). get_or s 426 0) (sym (whole f)) ∙ get_or_at (to_bytes f) n xs 0 426 (at_bytes f),
        tab_ext _ (λ (k : ℕ). get_or xs k 0) 108 (λ k h. rw (← front, ← here) (get_or-append-add (to_bytes f ++ (n ∷ [])) xs k 0))
            ∙ ap (tab (λ (k : ℕ). get_or xs k 0)) (sym w.bytes) ∙ tab_whole xs 0,
      )

  -- the lists of a command's record, under the command that it says
  pub lists_back : with_lists_at f.command (command_record f) ≡ f
  unfolding with_lists_at link_record_at power_at route_record_format link_record_entry network_report_format link_power_delta_format relay_of pan_id_of read_fields read_field size sizes
  lists_back =
      λ i. record {
        command = f.command;
        relay_count = relays_stand.0 i;
        relays = relays_stand.1 i;
        link_statuses_len = links_stand.0 i;
        link_statuses = links_stand.1 i;
        report_information_count = pan_ids_stand.0 i;
        pan_ids = pan_ids_stand.1 i;
        list_count = powers_stand.0 i;
        power_list = powers_stand.1 i;
        unparsed_len = bytes_stand.0 i;
        unparsed = bytes_stand.1 i;
      }
