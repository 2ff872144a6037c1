-- A value of each claim in specs/Levels.antt.
-- Assumes nothing.
use mathlib.Core.Path.{◌≡◌, refl, sym, ap, ◌∙◌}
use mathlib.Core.Bool.{Bool, true, false, true≢false, cond}
use mathlib.Core.List.{List, [], ◌++◌}
use mathlib.Core.Logic.{⊎_elim}
use Prim.Native.Nat.{ℕ, ◌+◌, ◌-◌, ◌≤◌}
use native.Mathlib.Omega.{arith}
use lib.Dec.{ltb}
use lib.ListN.{length, get_or, drop, length-drop}
use lib.Seq.{get_or-drop, get_or-append-add}
use Rattle.octets.specs.Refusals.{unless, first_of}
use Rattle.octets.specs.Writing.{written}
use Rattle.octets.proofs.Strings.{length_over, over_front, take_over}
use Rattle.octets.proofs.Conditions.{accepted, refused, answer_number, stop, gives}
use Rattle.octets.proofs.Writing.{written_number}
use Rattle.types.specs.declared.level.Level.{Level}
use Rattle.types.specs.Levels.{is_other, tag_length}
use Rattle.types.proofs.Levels.{tag_most}
use Rattle.aes.specs.Cipher.{aes128}
use Rattle.ccm.specs.Operations.{blank_mic, in_places, sealed_by, opened_by, opened_at, seal_refusal, SealRun, seal_refused, seal_passed, encrypt_ccm, open_refusal, decrypt_ccm, split_refusal, split_refused, split_given, split_mic}
use Rattle.ccm.specs.Levels.{InPlaces, TagsGiven, RestNotRead, OtherLevel, OnlyOther, LevelFive, encrypt_formerly, decrypt_formerly, split_formerly}
use Rattle.ccm.proofs.Opening.{length_tag}
use Rattle.ccm.proofs.ZeroFill.{zero_at}
use Rattle.ccm.proofs.Runs.{encrypt_refused, decrypt_refused, split_tagged, split_refused_lem}

-- ---- the places

in_places_lem : (tag : List ℕ) → length tag ≤ 16 → InPlaces tag (in_places tag)
unfolding in_places
in_places_lem tag h =
    record {
      places = length_over blank_mic 0 tag (omega arith);
      front = take_over blank_mic tag;
      zeros = λ i l.
          let e : length tag + (i - length tag) ≡ i = omega arith in
          ap (λ (s : List ℕ). get_or s i 0) (over_front blank_mic tag) ∙ ap (λ (n : ℕ). get_or (tag ++ drop (length tag) blank_mic) n 0) (sym e)
          ∙ get_or-append-add tag (drop (length tag) blank_mic) (i - length tag) 0
          ∙ get_or-drop (length tag) blank_mic (i - length tag) 0 ∙ zero_at 16 (length tag + (i - length tag));
    }

no_tag : InPlaces [] blank_mic
no_tag = record { places = refl; front = refl; zeros = λ i l. zero_at 16 i }

-- ---- the numbers

seal_number : (l : Level) (key nonce a p out : List ℕ) → (encrypt_ccm l key nonce a p out).answer.refusal ≡ seal_refusal l (length a) (length p) (length out)
unfolding encrypt_ccm
seal_number l key nonce a p out =
    answer_number (λ (r : SealRun). r.answer.refusal) (seal_refusal l (length a) (length p) (length out)) (seal_passed (sealed_by (tag_length l) key nonce a p) out)
    (λ (n : ℕ). seal_refused n out) refl refl

split_number : (l : Level) (s : List ℕ) → (split_mic l s).refusal ≡ split_refusal l (length s)
unfolding split_mic
split_number l s = answer_number (λ r. r.refusal) (split_refusal l (length s)) (split_given (tag_length l) s) split_refused refl refl

pub tags_given : TagsGiven
unfolding encrypt_ccm split_mic
tags_given l key nonce a p out s =
    let most = tag_most l in
    record {
      sealed = λ e.
          let size = length_tag (tag_length l) (aes128 key) nonce a p in
          rw (accepted (seal_refusal l (length a) (length p) (length out)) (seal_passed (sealed_by (tag_length l) key nonce a p) out)
          (seal_refused (seal_refusal l (length a) (length p) (length out)) out) (sym (seal_number l key nonce a p out) ∙ e))
          (in_places_lem (sealed_by (tag_length l) key nonce a p).tag (omega (arith, size)));
      unsealed = λ h.
          rw (refused (seal_refusal l (length a) (length p) (length out)) (seal_passed (sealed_by (tag_length l) key nonce a p) out)
          (seal_refused (seal_refusal l (length a) (length p) (length out)) out) (λ z. h (seal_number l key nonce a p out ∙ z))) no_tag;
      split = λ e.
          let n = sym (split_number l s) ∙ e in
          let there = split_tagged l (length s) n in
          rw (accepted (split_refusal l (length s)) (split_given (tag_length l) s) (split_refused (split_refusal l (length s))) n)
          (in_places_lem (drop (length s - tag_length l) s) (omega (arith, length-drop (length s - tag_length l) s)));
      unsplit = λ h.
          rw (refused (split_refusal l (length s)) (split_given (tag_length l) s) (split_refused (split_refusal l (length s))) (λ z. h (split_number l s ∙ z))) no_tag;
    }

pub rest_not_read : RestNotRead
unfolding decrypt_ccm
rest_not_read l key nonce a c mic mic' out e =
    λ i. written (open_refusal l (length a) (length c) (length out) (opened_by (tag_length l) key nonce a c (e i)).valid) (opened_by (tag_length l) key nonce a c (e i)).payload out

-- ---- 29

first_29 : (l : Level) (a n room : ℕ) → is_other l ≡ true → 29 ≡ seal_refusal l a n room
unfolding seal_refusal
first_29 l a n room e = sym (stop 29 (is_other l) _ e)

pub other_level : OtherLevel
unfolding split_refusal
other_level l key nonce a x mic out e =
    record {
      sealing = sym (encrypt_refused l key nonce a x out 29 (first_29 l (length a) (length x) (length out) e) (λ z. omega arith));
      opening = sym (decrypt_refused l key nonce a x mic out 29 (first_29 l (length a) (length x) (length out) e) (λ z. omega arith));
      splitting = sym (split_refused_lem l x 29 (sym (stop 29 (is_other l) _ e)) (λ z. omega arith));
    }

never_29 : (l : Level) (a n room : ℕ) → is_other l ≡ false → seal_refusal l a n room ≡ 29 → ⊥
unfolding seal_refusal
never_29 l a n room e k = ⊎_elim (λ t. true≢false (sym t ∙ e)) (λ z. z) (gives 29 _ (λ z. omega arith) k)

pub only_other : OnlyOther
unfolding decrypt_ccm open_refusal split_refusal
only_other l key nonce a x mic out e =
    record {
      sealing = λ k. never_29 l (length a) (length x) (length out) e (sym (seal_number l key nonce a x out) ∙ k);
      opening = λ k.
          ⊎_elim (never_29 l (length a) (length x) (length out) e) (λ z. z) (gives 29 _ (λ z. omega arith) (sym (written_number _ (opened_at l key nonce a x mic).payload out) ∙ k));
      splitting = λ k. ⊎_elim (λ t. true≢false (sym t ∙ e)) (λ z. z) (gives 29 _ (λ z. omega arith) (sym (split_number l x) ∙ k));
    }

-- ---- level 5

split_five : (b : Bool) (s : List ℕ) → unless (cond b 16 0) (split_given 4 s) (split_refused (cond b 16 0)) ≡ cond b (split_refused 16) (split_given 4 s)
unfolding unless
split_five true s = refl
split_five false s = refl

pub level_five : LevelFive
unfolding tag_length first_of encrypt_ccm seal_refusal decrypt_ccm open_refusal split_mic split_refusal encrypt_formerly decrypt_formerly split_formerly
level_five key nonce a x mic out = record { sealing = refl; opening = refl; splitting = split_five (ltb (length x) 4) x }
