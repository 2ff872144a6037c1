-- The inbound counters (document 02, 5; Zigbee Specification 4.3.1.2): `inbound_network_key` and `note_inbound_frame_counter`
-- of security.rs over a list of sender records, and forgetting a sender. The first 64 places of a list count: a
-- recursion along a list carries how many places still count, and stops there.
-- Assumes nothing.
use Rattle.std.specs.Prelude.{ℕ, zero, suc, Bool, false, cond, not, ◌&&◌, ◌||◌, List, [], ◌∷◌, eqb, leb, ltb, Option, Some, None, Result, Ok, Err}
use Rattle.octets.specs.Strings.{tab}
use Rattle.octets.specs.declared.refusals.Refusal.{Refusal}
use Rattle.octets.specs.Refusals.{unless, on, first_of, number_of}
use Rattle.types.specs.declared.Key.{Key}
use Rattle.types.specs.Counters.{last_counter}
use Rattle.types.specs.Keys.{key}
use Rattle.senders.specs.declared.{SenderRecord.SenderRecord, Found.Found}
use Rattle.senders.specs.Records.{is_free, names, record_of, kept}

abbrev pub counted_places : ℕ
counted_places = 64

-- how many of n places count
unfoldable pub counted : ℕ → ℕ
counted n = cond (ltb n counted_places) n counted_places

-- ---- along a list, of which n places still count

-- whether one of its records meets p
unfoldable pub some_of : (SenderRecord → Bool) → ℕ → List SenderRecord → Bool
some_of p zero l = false
some_of p (suc n) [] = false
some_of p (suc n) (r ∷ l) = p r || some_of p n l

-- the place of the first of its records that meets p, where one does
unfoldable pub first_place : (SenderRecord → Bool) → ℕ → List SenderRecord → ℕ
first_place p zero l = 0
first_place p (suc n) [] = 0
first_place p (suc n) (r ∷ l) = cond (p r) 0 (suc (first_place p n l))

-- the list with x for the first of its records that meets p
unfoldable pub first_replaced : (SenderRecord → Bool) → SenderRecord → ℕ → List SenderRecord → List SenderRecord
first_replaced p x zero l = l
first_replaced p x (suc n) [] = []
first_replaced p x (suc n) (r ∷ l) = cond (p r) (x ∷ l) (r ∷ first_replaced p x n l)

-- the counter of the first of its records that names s
unfoldable pub stored_in : ℕ → ℕ → List SenderRecord → Option ℕ
stored_in s zero l = None
stored_in s (suc n) [] = None
stored_in s (suc n) (r ∷ l) = cond (names s r) (Some r.counter) (stored_in s n l)

-- its records that name s made free
unfoldable pub forgotten_in : ℕ → ℕ → List SenderRecord → List SenderRecord
forgotten_in s zero l = l
forgotten_in s (suc n) [] = []
forgotten_in s (suc n) (r ∷ l) = kept s r ∷ forgotten_in s n l

-- ---- a whole list

-- whether it names s
abbrev pub knows : ℕ → List SenderRecord → Bool
knows s l = some_of (names s) counted_places l

-- whether a counted place is free
abbrev pub has_free : List SenderRecord → Bool
has_free l = some_of is_free counted_places l

-- the counter that it stores for s; of two records that name s the first counts
abbrev pub stored : ℕ → List SenderRecord → Option ℕ
stored s l = stored_in s counted_places l

-- what it says of s: the first counted place whose record names s, else the first free place, if there is one; and the counter that
-- it stores for s
unfoldable pub found : ℕ → List SenderRecord → Found
found s l =
    record {
      place =
          cond (knows s l) (Some (first_place (names s) counted_places l))
          (cond (has_free l) (Some (first_place is_free counted_places l)) None);
      counter = stored s l;
    }

-- ---- asking for the key

-- what asking answers: a refusal's number with a key of zeros, or 0 and the active key
pub record Asked : Type 0 where
  pub refusal : ℕ
  pub key : Key

-- a counter is compared with a stored one only
abbrev pub not_above : ℕ → Option ℕ → Bool
not_above c None = false
not_above c (Some x) = leb c x

unfoldable pub ask_refused : ℕ → Asked
ask_refused n = record { refusal = n; key = key (tab (λ (i : ℕ). 0) 16) }

-- the same, of the code's answer
abbrev pub told_asked : Result Key Refusal → Asked
told_asked (Ok k) = record { refusal = 0; key = k }
told_asked (Err r) = ask_refused (number_of r)

-- for the active key and its number, the stored counter, and the key sequence number and counter asked with
unfoldable pub ask_refusal : ℕ → Option ℕ → ℕ → ℕ → ℕ
ask_refusal active o k c = first_of (on 22 (not (eqb k active)) ∷ on 23 (eqb c last_counter || not_above c o) ∷ [])

unfoldable pub asked_by : Key → ℕ → Option ℕ → ℕ → ℕ → Asked
asked_by ak active o k c = unless (ask_refusal active o k c) (record { refusal = 0; key = ak }) (ask_refused (ask_refusal active o k c))

unfoldable pub inbound_network_key : Key → ℕ → List SenderRecord → ℕ → ℕ → ℕ → Asked
inbound_network_key ak active l s k c = asked_by ak active (stored s l) k c

-- ---- noting a counter

-- what noting answers: a refusal's number and none, or 0 and the sender's earlier counter or none
pub record Noted : Type 0 where
  pub refusal : ℕ
  pub earlier : Option ℕ

-- the same, of the code's answer
abbrev pub told_noted : Result (Option ℕ) Refusal → Noted
told_noted (Ok o) = record { refusal = 0; earlier = o }
told_noted (Err r) = record { refusal = number_of r; earlier = None }

-- what noting leaves: its answer, and the whole list
pub record Run : Type 0 where
  pub answer : Noted
  pub list : List SenderRecord

-- a new sender, and no counted place is free
unfoldable pub note_refusal : ℕ → List SenderRecord → ℕ
note_refusal s l = first_of (on 24 (not (knows s l) && not (has_free l)) ∷ [])

-- over the first record that names s; a new sender takes the first free place
abbrev pub note_given : ℕ → ℕ → List SenderRecord → Run
note_given s c l =
    record {
      answer = record { refusal = 0; earlier = stored s l };
      list = cond (knows s l) (first_replaced (names s) (record_of s c) counted_places l) (first_replaced is_free (record_of s c) counted_places l);
    }

-- refused by a number, nothing changed
abbrev pub note_nothing : ℕ → List SenderRecord → Run
note_nothing n l = record { answer = record { refusal = n; earlier = None }; list = l }

unfoldable pub note : ℕ → ℕ → List SenderRecord → Run
note s c l = unless (note_refusal s l) (note_given s c l) (note_nothing (note_refusal s l) l)

-- ---- forgetting a sender

unfoldable pub forget : ℕ → List SenderRecord → List SenderRecord
forget s l = forgotten_in s counted_places l
