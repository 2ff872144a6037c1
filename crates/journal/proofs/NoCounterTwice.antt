-- No counter is handed out twice: in every life each one handed out is up to the largest complete ceiling of the store, which no event makes
-- lower, and up to the last counter after a recovery. A recovery starts from that ceiling, and a marked journal beside has the same.
-- Assumes nothing.
use Rattle.std.specs.Prelude.{Option, Some, None}
use mathlib.Core.Path.{◌≡◌, refl, sym, ap, subst, ◌∙◌}
use mathlib.Core.Bool.{Bool, true, false, cond, not}
use mathlib.Core.List.{List, [], ◌∷◌, ◌++◌, append-nil}
use Prim.Native.Nat.{ℕ, zero, suc, ◌<◌, ◌≤◌}
use native.Mathlib.Nat.{mod-lt}
use native.Mathlib.Omega.{arith}
use lib.Dec.{ltb}
use lib.ListN.{length, take}
use lib.Seq.{take-length}
use borrow.Author.Tests.{leb-false, ltb-true, not-false}
use borrow.Table.Steps.{cases}
use Rattle.octets.specs.Refusals.{unless}
use Rattle.octets.specs.Strings.{Below}
use Rattle.octets.specs.Writing.{written}
use Rattle.octets.proofs.Conditions.{none as no-condition, unless_either}
use Rattle.octets.proofs.Strings.{take_over, take_below, append_below}
use Rattle.journal.specs.declared.format.JournalRecord.{JournalRecord}
use Rattle.journal.specs.Format.{record_bytes, records_from, records, complete_length}
use Rattle.journal.specs.Recovery.{State, blank, ceiling_after, applied, applied_all, state_of, recover_refusal, recover_given, recover_nothing, recover_answer}
use Rattle.journal.specs.Writing.{record_of_kind, write_refusal, write_record, some_ceiling, next_refusal, next_given, next_nothing, next_counter}
use Rattle.journal.specs.Shrinking.{shrink}
use Rattle.journal.specs.Life.{Gateway, begun, Writing, Event, recovers, shortens, appends, fails_appending, cuts_appending, garbles, hands, cuts, shrinks, fails_shrinking, cuts_shrinking, replaces, complete_part, writes, given, off, recovered, storing, behind, appended, as_bytes, handed_out, shrunk_beside, after_recovery, after, after_all, life}
use Rattle.journal.specs.Claims.{AllBelow, NoCounterTwice, EachCanBeSealed, OneMoreIfCovered}
use Rattle.journal.proofs.Appending.{records_append, applied_append}
use Rattle.journal.proofs.Gathered.{covered}
use Rattle.journal.proofs.ShrunkState.{record_below, shrunk_alike, shrunk_below}
use Rattle.journal.proofs.ShrinkingClaims.{given_shrunk}

-- ---- the ceiling is never lower than before

abbrev ceiling_of : List ℕ → ℕ
ceiling_of j = (state_of j).ceiling

one_higher : (r : JournalRecord) (x : ℕ) → x ≤ ceiling_after r x
unfolding ceiling_after
one_higher (JournalRecord.Ceiling c) x = cases (ltb x c) (λ e. rw e (omega (arith, ltb-true x c e))) (λ e. rw e (omega arith))
one_higher (JournalRecord.Sender s c) x = omega arith
one_higher (JournalRecord.KeyNumber k) x = omega arith

all_higher : (rs : List JournalRecord) (g : State) → g.ceiling ≤ (applied_all rs g).ceiling
unfolding applied_all
all_higher [] g = omega arith
all_higher (r ∷ rs) g = omega (arith, one_higher r g.ceiling, all_higher rs (applied r g))

-- whatever bytes t stand behind the complete records
higher : (j t : List ℕ) → ceiling_of j ≤ ceiling_of (complete_part j ++ t)
unfolding state_of
higher j t =
    let e = ap (λ (rs : List JournalRecord). applied_all rs blank) (records_append j t) ∙ applied_append (records j) (records t) blank in
    subst (λ (g : State). (applied_all (records j) blank).ceiling ≤ g.ceiling) (sym e) (all_higher (records t) (applied_all (records j) blank))

-- nor is it higher for the complete records alone
complete_same : (j : List ℕ) → ceiling_of (complete_part j) ≡ ceiling_of j
unfolding state_of records_from
complete_same j =
    ap (λ (rs : List JournalRecord). (applied_all rs blank).ceiling)
    (ap records (sym (append-nil (complete_part j))) ∙ records_append j [] ∙ append-nil (records j))

-- ---- what holds in every life

-- each counter of a list is up to c
abbrev UpTo : ℕ → List ℕ → Type 0
UpTo c [] = Unit {0}
UpTo c (x ∷ xs) = (x ≤ c) × UpTo c xs

up_to_more : (c d : ℕ) (xs : List ℕ) → c ≤ d → UpTo c xs → UpTo d xs
up_to_more c d [] h u = tt
up_to_more c d (x ∷ xs) h u = (omega (arith, h, u.0), up_to_more c d xs h u.1)

up_to_snoc : (c : ℕ) (xs : List ℕ) (x : ℕ) → UpTo c xs → x ≤ c → UpTo c (xs ++ (x ∷ []))
up_to_snoc c [] x u h = (h, tt)
up_to_snoc c (y ∷ xs) x u h = (u.0, up_to_snoc c xs x u.1 h)

-- above lo, each is larger than the one before it
abbrev Rises : ℕ → List ℕ → Type 0
Rises lo [] = Unit {0}
Rises lo (x ∷ xs) = (lo < x) × Rises x xs

rises_snoc : (lo c : ℕ) (xs : List ℕ) → Rises lo xs → lo ≤ c → UpTo c xs → Rises lo (xs ++ (suc c ∷ []))
rises_snoc lo c [] r h u = (omega (arith, h), tt)
rises_snoc lo c (x ∷ xs) r h u = (r.0, rises_snoc x c xs r.1 u.0 u.1)

rises_split : (lo c : ℕ) (before behind : List ℕ) → Rises lo (before ++ (c ∷ behind)) → (lo < c) × AllBelow c before
rises_split lo c [] behind r = (r.0, tt)
rises_split lo c (x ∷ before) behind r = let s = rises_split x c before behind r.1 in (omega (arith, r.0, s.0), (s.0, s.1))

up_to_split : (d c : ℕ) (before behind : List ℕ) → UpTo d (before ++ (c ∷ behind)) → c ≤ d
up_to_split d c [] behind u = u.0
up_to_split d c (x ∷ before) behind u = up_to_split d c before behind u.1

-- the last counter, after a recovery
abbrev UpToLast : Option ℕ → List ℕ → Type 0
UpToLast None xs = Unit {0}
UpToLast (Some c) xs = UpTo c xs

-- what is beside the journal j, with the mark, may take its place: bytes, whose ceiling is no lower
abbrev StandsIn : Bool → List ℕ → List ℕ → Type 0
StandsIn true b j = (ceiling_of j ≤ ceiling_of b) × Below 256 b
StandsIn false b j = Unit {0}

-- handed out so far: one larger than the other, all to be sealed, all up to the ceiling of the store and to the last one
record Safe (g : Gateway) : Type 0 where
  rising : Rises 0 g.handed
  sealable : UpTo 0xFFFFFFFE g.handed
  covered : UpTo (ceiling_of g.stored) g.handed
  up_to_last : UpToLast g.last g.handed
  bytes : Below 256 g.stored
  stands_in : StandsIn g.marked g.beside g.stored

-- ---- what a call that is not refused says

module _ (j : List ℕ) where
  recovered_ceiling : (places : ℕ) → (recover_answer j places).refusal ≡ 0 → (recover_answer j places).ceiling ≡ ceiling_of j
  unfolding recover_answer unless
  recovered_ceiling places = by (recover_refusal j places)
    where
      by : (n : ℕ) → (unless n (recover_given j) (recover_nothing n)).refusal ≡ 0 → (unless n (recover_given j) (recover_nothing n)).ceiling ≡ ceiling_of j
      by zero h = refl
      by (suc n) h = absurd (omega (arith, h))

  -- not refused: no number, and one more than the last
  next_number : (last n : ℕ) → (unless n (next_given last) (next_nothing n)).refusal ≡ 0 → (n ≡ 0) × ((unless n (next_given last) (next_nothing n)).counter ≡ suc last)
  unfolding unless
  next_number last zero h = (refl, refl)
  next_number last (suc n) h = absurd (omega (arith, h))

  next_given_lem : (last : ℕ) → (next_counter j last).refusal ≡ 0
      → ((next_counter j last).counter ≡ suc last) × ((last < 0xFFFFFFFE) × (some_ceiling (suc last) (records j) ≡ true))
  unfolding next_counter next_refusal
  next_given_lem last h =
      let n = next_number last (next_refusal j last) h in
      let cs = no-condition _ n.0 in
      (n.1, (leb-false 0xFFFFFFFE last cs.1.0, not-false (some_ceiling (suc last) (records j)) cs.1.1.0))

  next_covered : (last : ℕ) → some_ceiling (suc last) (records j) ≡ true → suc last ≤ ceiling_of j
  next_covered last h = omega (arith, leb-false (ceiling_of j) last (covered j last ∙ ap not h))

-- what the writer gave is bytes, all of a record or none
given_below : (j : List ℕ) (w : Writing) → Below 256 (given (writes j w))
unfolding write_record written unless
given_below j w = by (write_refusal j w.kind r (length w.out))
  where
    r : JournalRecord
    r = record_of_kind w.kind w.sender w.counter w.key_number

    by : (n : ℕ) → Below 256 (given (written n (record_bytes r) w.out))
    by zero = subst (Below 256) (sym (take_over w.out (record_bytes r))) (record_below r)
    by (suc n) = λ i. omega arith

-- garbage is bytes
as_bytes_below : (t : List ℕ) → Below 256 (as_bytes t)
as_bytes_below [] i = omega arith
as_bytes_below (b ∷ t) zero = mod-lt b (omega arith)
as_bytes_below (b ∷ t) (suc i) = as_bytes_below t i

-- ---- each event keeps a gateway safe

module _ (g : Gateway) (safe : Safe g) where
  off_safe : Safe (off g)
  off_safe =
      record {
        rising = safe.rising;
        sealable = safe.sealable;
        covered = safe.covered;
        up_to_last = tt;
        bytes = safe.bytes;
        stands_in = tt;
      }

  -- with a journal whose ceiling is no lower
  storing_safe : (j b : List ℕ) (m : Bool) → ceiling_of g.stored ≤ ceiling_of j → Below 256 j → StandsIn m b j → Safe (storing j b m g)
  storing_safe j b m h bytes s =
      record {
        rising = safe.rising;
        sealable = safe.sealable;
        covered = up_to_more (ceiling_of g.stored) (ceiling_of j) g.handed h safe.covered;
        up_to_last = safe.up_to_last;
        bytes = bytes;
        stands_in = s;
      }

  recovered_safe : (places : ℕ) → Safe (recovered (recover_answer g.stored places) g)
  recovered_safe places =
      unless_either Safe (recover_answer g.stored places).refusal _ g
      (λ z. record {
        rising = safe.rising;
        sealable = safe.sealable;
        covered = safe.covered;
        up_to_last = subst (λ (c : ℕ). UpTo c g.handed) (sym (recovered_ceiling g.stored places z)) safe.covered;
        bytes = safe.bytes;
        stands_in = safe.stands_in;
      }) safe

  complete_below : Below 256 (complete_part g.stored)
  complete_below = take_below g.stored (complete_length g.stored) 256 (omega arith) safe.bytes

  shortened_safe : Safe (storing (complete_part g.stored) g.beside g.marked g)
  shortened_safe =
      let e = complete_same g.stored in
      storing_safe (complete_part g.stored) g.beside g.marked (omega (arith, e)) complete_below (by g.marked e safe.stands_in)
    where
      by : (m : Bool) → ceiling_of (complete_part g.stored) ≡ ceiling_of g.stored → StandsIn m g.beside g.stored
          → StandsIn m g.beside (complete_part g.stored)
      by true e s = (omega (arith, e, s.0), s.1)
      by false e s = tt

  behind_safe : (t : List ℕ) → Below 256 t → Safe (behind t g)
  behind_safe t h = storing_safe _ g.beside false (higher g.stored t) (append_below (complete_part g.stored) t 256 complete_below h) tt

  appended_safe : (w : Writing) (n : ℕ) → Safe (appended (writes g.stored w) n g)
  appended_safe w n =
      unless_either Safe (writes g.stored w).answer.refusal _ g
      (λ _. behind_safe _ (take_below _ n 256 (omega arith) (given_below g.stored w))) safe

  handed_safe : (c : ℕ) → UpTo c g.handed → Safe (handed_out (next_counter g.stored c) g)
  handed_safe c u =
      unless_either Safe (next_counter g.stored c).refusal _ g
      (λ z. let n = next_given_lem g.stored c z in
      subst
      (λ (x : ℕ). Safe (record { stored = g.stored; beside = g.beside; marked = g.marked; last = Some x; handed = g.handed ++ (x ∷ []) }))
      (sym n.0)
      (record {
        rising = rises_snoc 0 c g.handed safe.rising (omega arith) u;
        sealable = up_to_snoc 0xFFFFFFFE g.handed (suc c) safe.sealable (omega (arith, n.1.0));
        covered = up_to_snoc (ceiling_of g.stored) g.handed (suc c) safe.covered (next_covered g.stored c n.1.1);
        up_to_last = up_to_snoc (suc c) g.handed (suc c) (up_to_more c (suc c) g.handed (omega arith) u) (omega arith);
        bytes = safe.bytes;
        stands_in = safe.stands_in;
      })) safe

  beside_safe : (o : List ℕ) (n : ℕ) (m : Bool) → ((shrink g.stored o).answer.refusal ≡ 0 → StandsIn m (take n (given (shrink g.stored o))) g.stored)
      → Safe (shrunk_beside (shrink g.stored o) n m g)
  beside_safe o n m s =
      unless_either Safe (shrink g.stored o).answer.refusal _ g (λ z. storing_safe g.stored _ m (omega arith) safe.bytes (s z)) safe

  -- a whole shrunk journal may take the place: it has the same ceiling
  shrunk_stands_in : (o : List ℕ) → let k = given (shrink g.stored o) in (shrink g.stored o).answer.refusal ≡ 0 → StandsIn true (take (length k) k) g.stored
  shrunk_stands_in o z =
      let j = g.stored in
      subst (λ (k : List ℕ). StandsIn true k j) (sym (given_shrunk j o z) ∙ sym (take-length (given (shrink j o)))) (omega (arith, (shrunk_alike j safe.bytes).ceiling), shrunk_below j)

  replaced_safe : g.marked ≡ true → Safe (storing g.beside [] false g)
  replaced_safe e =
      let s = subst (λ (m : Bool). StandsIn m g.beside g.stored) e safe.stands_in in
      storing_safe g.beside [] false s.0 s.1 tt

-- after a recovery
after_recovery_lem : (P : Gateway → Type 0) (o : Option ℕ) (f : ℕ → Gateway) (g : Gateway) → P g → ((c : ℕ) → o ≡ Some c → P (f c))
    → P (after_recovery o f g)
after_recovery_lem P None f g p q = p
after_recovery_lem P (Some c) f g p q = q c refl

safe_after : (e : Event) (g : Gateway) → Safe g → Safe (after e g)
unfolding after
safe_after (recovers l) g safe = recovered_safe g safe (length l)
safe_after shortens g safe = shortened_safe g safe
safe_after (appends w) g safe = appended_safe g safe w (length (given (writes g.stored w)))
safe_after (fails_appending w n) g safe = appended_safe g safe w n
safe_after (cuts_appending w n) g safe = off_safe (appended (writes g.stored w) n g) (appended_safe g safe w n)
safe_after (garbles t) g safe = behind_safe g safe (as_bytes t) (as_bytes_below t)
safe_after hands g safe =
    after_recovery_lem Safe g.last (λ c. handed_out (next_counter g.stored c) g) g safe
    (λ c e. handed_safe g safe c (subst (λ (o : Option ℕ). UpToLast o g.handed) e safe.up_to_last))
safe_after cuts g safe = off_safe g safe
safe_after (shrinks o) g safe = beside_safe g safe o (length (given (shrink g.stored o))) true (shrunk_stands_in g safe o)
safe_after (fails_shrinking o n) g safe = beside_safe g safe o n false (λ _. tt)
safe_after (cuts_shrinking o n) g safe = off_safe (shrunk_beside (shrink g.stored o) n false g) (beside_safe g safe o n false (λ _. tt))
safe_after replaces g safe = by g.marked refl
  where
    by : (m : Bool) → g.marked ≡ m → Safe (cond m (storing g.beside [] false g) g)
    by true e = replaced_safe g safe e
    by false e = safe

safe_all : (es : List Event) (g : Gateway) → Safe g → Safe (after_all es g)
unfolding after_all
safe_all [] g safe = safe
safe_all (e ∷ es) g safe = safe_all es (after e g) (safe_after e g safe)

safe_life : (es : List Event) → Safe (life es)
safe_life es = safe_all es begun (record { rising = tt; sealable = tt; covered = tt; up_to_last = tt; bytes = λ i. omega arith; stands_in = tt })

-- ---- the claims

pub no_counter_twice : NoCounterTwice
no_counter_twice es before behind c e = (rises_split 0 c before behind (subst (Rises 0) e (safe_life es).rising)).1

pub each_can_be_sealed : EachCanBeSealed
each_can_be_sealed es before behind c e = (
  (rises_split 0 c before behind (subst (Rises 0) e (safe_life es).rising)).0,
  omega (arith, up_to_split 0xFFFFFFFE c before behind (subst (UpTo 0xFFFFFFFE) e (safe_life es).sealable)),
)

pub one_more_if_covered : OneMoreIfCovered
one_more_if_covered j last h = let n = next_given_lem j last h in (n.0, n.1.1)
