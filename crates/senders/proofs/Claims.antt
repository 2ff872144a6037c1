-- The claims of specs/Claims.antt: a value of each. What is asked depends on a list by the counter that it stores only, and
-- noting has three cases.
-- Assumes nothing.
use Rattle.std.specs.Prelude.{Option, Some, None}
use mathlib.Core.Path.{◌≡◌, refl, sym, ap, subst, ◌∙◌}
use mathlib.Core.Bool.{Bool, true, false, true≢false}
use mathlib.Core.List.{List, [], ◌∷◌, ◌++◌}
use Prim.Native.Nat.{ℕ, ◌≤◌, ◌<◌}
use native.Mathlib.Decide.{ℕ_discrete}
use native.Mathlib.Omega.{arith}
use lib.Dec.{eqb}
use lib.ListN.{length, get_or, set, length-set}
use lib.Seq.{get_or-set_same, get_or-set_other}
use borrow.Author.Tests.{eq-eqb, ne_eqb, le-leb, lt-leb}
use borrow.Table.Steps.{cases}
use Rattle.octets.specs.Refusals.{unless, first_of}
use Rattle.types.specs.Counters.{last_counter}
use Rattle.types.specs.declared.Key.{Key}
use Rattle.senders.specs.declared.SenderRecord.{SenderRecord}
use Rattle.senders.specs.Records.{is_free, names, record_of}
use Rattle.senders.specs.Senders.{some_of, first_place, stored, knows, has_free, ask_refused, ask_refusal, asked_by, inbound_network_key, Run, note, forget}
use Rattle.senders.specs.Claims as claims
use Rattle.senders.proofs.Naming.{names_its_sender, names_no_other, names_one, free_names_none, unknown_stored, stored_unknown, known_stored}
use Rattle.senders.proofs.Firsts.{first_below, first_meets, first_set, stored_other, stored_new, stored_own, some_there, replaced_there, stored_there}
use Rattle.senders.proofs.Forgetting.{length_forgotten, get_or_forgotten, zeros_forgotten, stored_forgotten, other_forgotten, forgotten_twice, unknown_forgotten, forgotten_free}
use Rattle.senders.proofs.Places.{none_of, of_none, some_past, replaced_past, stored_past, forgotten_past}
use Rattle.senders.proofs.Noting.{answer, refusal, list, placing, note_known, note_new, note_full, not_full, note_cases}

-- ---- asking, by the counter stored

module _ (key : Key) (active : ℕ) where
  ask_by : (s k x : ℕ) (l : List SenderRecord) {o : Option ℕ} → stored s l ≡ o → inbound_network_key key active l s k x ≡ asked_by key active o k x
  unfolding inbound_network_key
  ask_by s k x l e = ap (λ (o : Option ℕ). asked_by key active o k x) e

  ask_below : (c x : ℕ) → x ≤ c → asked_by key active (Some c) active x ≡ ask_refused 23
  unfolding asked_by ask_refusal first_of unless
  ask_below c x h =
      rw (eq-eqb active active refl, le-leb x c h) (cases (eqb x last_counter) (λ e. rw e refl) (λ e. rw e refl))

  ask_above : (c x : ℕ) → c < x → x < last_counter → asked_by key active (Some c) active x ≡ record { refusal = 0; key = key }
  unfolding asked_by ask_refusal first_of unless
  ask_above c x h b = rw (eq-eqb active active refl, lt-leb x c h, ne_eqb x last_counter (omega arith)) refl

  ask_absent : (x : ℕ) → x < last_counter → asked_by key active None active x ≡ record { refusal = 0; key = key }
  unfolding asked_by ask_refusal first_of unless
  ask_absent x b = rw (eq-eqb active active refl, ne_eqb x last_counter (omega arith)) refl

  ask_last : (o : Option ℕ) → asked_by key active o active last_counter ≡ ask_refused 23
  unfolding asked_by ask_refusal first_of unless
  ask_last o = rw (eq-eqb active active refl) refl

  ask_wrong : (o : Option ℕ) (k x : ℕ) → (k ≡ active → ⊥) → asked_by key active o k x ≡ ask_refused 22
  unfolding asked_by ask_refusal first_of unless
  ask_wrong o k x h = rw (ne_eqb k active h) refl

pub refused_by_number : claims.RefusedByNumber
refused_by_number key active s k c l = (
  λ h. ask_by key active s k c l refl ∙ ask_wrong key active (stored s l) k c h,
  (
    λ e f. ask_by key active s k c l refl ∙ asked-with (stored s l) e ∙ ap (asked_by key active (stored s l) active) f ∙ ask_last key active (stored s l),
    λ x e f h. ask_by key active s k c l f ∙ asked-with (Some x) e ∙ ask_below key active x c h,
  ),
)
  where
    -- the key sequence number is the active one
    asked-with : (o : Option ℕ) → k ≡ active → asked_by key active o k c ≡ asked_by key active o active c
    asked-with o e = ap (λ (m : ℕ). asked_by key active o m c) e

pub else_the_active_key : claims.ElseTheActiveKey
else_the_active_key key active s c l b =
    (λ x e h. ask_by key active s active c l e ∙ ask_above key active x c h b, λ e. ask_by key active s active c l e ∙ ask_absent key active c b)

-- ---- which place

pub first_record_counts : claims.FirstRecordCounts
first_record_counts s c before behind r h k e =
    let l = before ++ (r ∷ behind) in (
      stored_there s r e behind 64 before h k,
      ap list (note_known s c l (some_there (names s) r e behind 64 before h)) ∙ replaced_there (names s) r e behind (record_of s c) 64 before h k,
    )

pub first_free_place : claims.FirstFreePlace
first_free_place s c before behind r h k e u =
    let l = before ++ (r ∷ behind) in
    note_new s c l u (some_there is_free r e behind 64 before h)
    ∙ (λ i. record {
      answer = record { refusal = 0; earlier = stored_unknown s 64 l u i };
      list = replaced_there is_free r e behind (record_of s c) 64 before h k i;
    })

-- ---- 1: what noting changes

-- both parts of the first claim
abbrev Only : ℕ → List SenderRecord → List SenderRecord → Type 0
Only s before after = claims.OnlyAt s before after × claims.OthersAsBefore s before after

set_only : (s c : ℕ) (l : List SenderRecord) (i : ℕ) → i < length l → claims.OnlyAt s l (set l i (record_of s c))
set_only s c l i h = (
  length-set l i (record_of s c),
  λ j d before after.
      elim (ℕ_discrete j i) [
        | yes e ↦ absurd (true≢false (sym (names_its_sender s c)
            ∙ ap (names s) (sym (get_or-set_same l i (record_of s c) d h)) ∙ ap (λ (q : ℕ). names s (get_or (set l i (record_of s c)) q d)) (sym e) ∙ after))
        | no n ↦ get_or-set_other l i j (record_of s c) d n
      ],
)

-- a record put over the first that meets p
module _ (s c : ℕ) (l : List SenderRecord) (p : SenderRecord → Bool) (some : some_of p 64 l ≡ true) (run : note s c l ≡ placing p s c l) where
  list_set : (note s c l).list ≡ set l (first_place p 64 l) (record_of s c)
  list_set = ap list run ∙ first_set p (record_of s c) 64 l some

  -- of another sender neither the new record nor the one that was there speaks
  placing_only : ((t : ℕ) (r : SenderRecord) → (t ≡ s → ⊥) → p r ≡ true → names t r ≡ false) → Only s l (note s c l).list
  placing_only others = (
    subst (claims.OnlyAt s l) (sym list_set) (set_only s c l (first_place p 64 l) (first_below p 64 l some).1),
    λ key active t k x h.
        ask_by key active t k x _ (ap (stored t) (ap list run) ∙ stored_other p t (record_of s c) (names_no_other s t c h) (λ r e. others t r h e) 64 l)
        ∙ sym (ask_by key active t k x l refl),
  )

pub noting_changes_only_the_sender : claims.NotingChangesOnlyTheSender
noting_changes_only_the_sender s c l =
    note_cases s l
    (λ k. placing_only s c l (names s) k (note_known s c l k) (names_one s))
    (λ k h. placing_only s c l is_free h (note_new s c l k h) (λ t r n. free_names_none t r))
    (λ k h. subst (Only s l) (sym (ap list (note_full s c l k h))) ((refl, λ i d b a. refl), λ key active t k x n. refl))

pub noting_takes_one_place : claims.NotingTakesOnePlace
noting_takes_one_place s c l ok =
    note_cases s l
    (λ k. (
      first_place (names s) 64 l,
      first_below (names s) 64 l k,
      λ d. rw k (first_meets (names s) 64 l d k),
      list_set s c l (names s) k (note_known s c l k),
    ))
    (λ k h. (first_place is_free 64 l, first_below is_free 64 l h, λ d. rw k (first_meets is_free 64 l d h), list_set s c l is_free h (note_new s c l k h)))
    (λ k h. absurd (not_full s c l ok k h))

pub forgetting_changes_only_the_sender : claims.ForgettingChangesOnlyTheSender
unfolding forget
forgetting_changes_only_the_sender s l = (
  (length_forgotten s 64 l, λ i d before after. get_or_forgotten s 64 l i d before),
  λ key active t k x h. ask_by key active t k x _ (other_forgotten s t h 64 l) ∙ sym (ask_by key active t k x l refl),
)

-- ---- 2

stored_noted : (s c : ℕ) (l : List SenderRecord) → (note s c l).answer.refusal ≡ 0 → stored s (note s c l).list ≡ Some c
stored_noted s c l ok =
    note_cases s l
    (λ k. ap (stored s) (ap list (note_known s c l k)) ∙ stored_own s (record_of s c) (names_its_sender s c) 64 l k)
    (λ k h. ap (stored s) (ap list (note_new s c l k h)) ∙ stored_new is_free s (record_of s c) (names_its_sender s c) 64 l k h)
    (λ k h. absurd (not_full s c l ok k h))

pub after_noting : claims.AfterNoting
after_noting key active s c x l ok =
    let e = stored_noted s c l ok in
    let then = (note s c l).list in (
      λ h. ask_by key active s active x then e ∙ ask_below key active c x h,
      (
        λ h b. ask_by key active s active x then e ∙ ask_above key active c x h b,
        ap answer (note_known s x then (known_stored s c 64 then e)) ∙ λ i. record { refusal = 0; earlier = e i },
      ),
    )

-- ---- 3

pub after_forgetting : claims.AfterForgetting
unfolding forget
after_forgetting key active s x l =
    let then = forget s l in
    let e : stored s then ≡ None = stored_forgotten s 64 l in
    let earlier : Run → Option ℕ = λ r. r.answer.earlier in (
      λ b. ask_by key active s active x then e ∙ ask_absent key active x b,
      note_cases s then
          (λ k. ap earlier (note_known s x then k) ∙ e)
          (λ k h. ap earlier (note_new s x then k h) ∙ e)
          (λ k h. ap earlier (note_full s x then k h)),
    )

pub forgetting_leaves_zeros : claims.ForgettingLeavesZeros
unfolding forget
forgetting_leaves_zeros s i d l h b e = zeros_forgotten s 64 l i d h b e

pub forgetting_twice : claims.ForgettingTwice
unfolding forget
forgetting_twice s l = forgotten_twice s 64 l

pub forgetting_the_unknown : claims.ForgettingTheUnknown
unfolding forget
forgetting_the_unknown s l e = unknown_forgotten s 64 l (unknown_stored s 64 l e)

pub forgetting_frees : claims.ForgettingFrees
unfolding forget
forgetting_frees s t c l e =
    let then = forget s l in
    note_cases t then
    (λ k. ap refusal (note_known t c then k))
    (λ k h. ap refusal (note_new t c then k h))
    (λ k h. absurd (true≢false (sym (forgotten_free s 64 l e) ∙ h)))

-- ---- 4

pub only_the_first_64 : claims.OnlyTheFirst64
unfolding forget
only_the_first_64 key active s k c l past e =
    let n : 64 ≤ length l = omega arith in
    let more : Run → Run = λ r. record { answer = r.answer; list = r.list ++ past } in
    let known = some_past (names s) past 64 l n in
    let free = some_past is_free past 64 l n in
    let held = stored_past s past 64 l n in (
      ask_by key active s k c (l ++ past) held ∙ sym (ask_by key active s k c l refl),
      (
        note_cases s l
            (λ q. note_known s c (l ++ past) (known ∙ q)
            ∙ (λ i. record { answer = record { refusal = 0; earlier = held i }; list = replaced_past (names s) (record_of s c) past 64 l n i })
            ∙ ap more (sym (note_known s c l q)))
            (λ q h. note_new s c (l ++ past) (known ∙ q) (free ∙ h)
            ∙ (λ i. record { answer = record { refusal = 0; earlier = held i }; list = replaced_past is_free (record_of s c) past 64 l n i })
            ∙ ap more (sym (note_new s c l q h)))
            (λ q h. note_full s c (l ++ past) (known ∙ q) (free ∙ h) ∙ ap more (sym (note_full s c l q h))),
        forgotten_past s past 64 l n,
      ),
    )

-- ---- 5

pub refused_exactly_if_full : claims.RefusedExactlyIfFull
refused_exactly_if_full s c l =
    let full : knows s l ≡ false → has_free l ≡ false → claims.FullOf s l = λ k h i d a b. (none_of is_free 64 l h i d a b, none_of (names s) 64 l k i d a b) in (
      (
        λ f. note_full s c l (of_none (names s) 64 l (λ i d a b. (f i d a b).1)) (of_none is_free 64 l (λ i d a b. (f i d a b).0)),
        λ f. note_cases s l (λ k. ap refusal (note_known s c l k)) (λ k h. ap refusal (note_new s c l k h)) (λ k h. absurd (f (full k h))),
      ),
      λ e. note_cases s l
          (λ k. absurd (omega (arith, e, ap refusal (note_known s c l k))))
          (λ k h. absurd (omega (arith, e, ap refusal (note_new s c l k h))))
          full,
    )

pub empty_list_refuses : claims.EmptyListRefuses
unfolding some_of
empty_list_refuses s c = note_full s c [] refl refl
