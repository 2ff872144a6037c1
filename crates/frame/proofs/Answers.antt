-- What the functions return, over plain values: each lemma turns what the calls promised into the answer of one `return`.
-- Assumes nothing.
use Rattle.std.specs.Prelude.{Some, Ok}
use mathlib.Core.Path.{◌≡◌, sym, ap, ◌∙◌}
use mathlib.Core.Bool.{Bool, true, false, not}
use mathlib.Core.List.{List, ◌++◌, append_assoc}
use Prim.Native.Nat.{ℕ, ◌+◌, ◌-◌, ◌≤◌}
use lib.ListN.{length, drop, take, length-drop, length-take}
use lib.Seq.{length-take-le}
use native.Mathlib.Nat.{zero-add}
use native.Mathlib.Omega.{arith}
use Rattle.octets.specs.Strings.{over, Below}
use Rattle.octets.proofs.Strings.{over_three, drop_below}
use Rattle.octets.specs.declared.refusals.Refusal.{Refusal}
use Rattle.octets.specs.Refusals.{first_of, number_of}
use Rattle.octets.proofs.Conditions.{refused_by, stop, skip, skip_by, empty}
use Rattle.types.specs.Levels.{tag_length}
use Rattle.header.specs.declared.{auxiliary.NwkAuxHeader.NwkAuxHeader, nwk.NwkHeader.NwkHeader}
use Rattle.types.specs.declared.level.Level.{Level}
use Rattle.header.specs.Reading.{read_header}
use Rattle.header.specs.Writing.{header_bytes}
use Rattle.header.specs.Auxiliary.{aux_bytes}
use Rattle.header.proofs.ReadFacts.{header_facts, aux_facts}
use Rattle.ccm.specs.Verification.{Verified}
use Rattle.ccm.specs.Operations.{Split, ciph_under, sealed_by, opened_under, split_refused, split_mic, given_if}
use Rattle.ccm.proofs.Tags.{front_places}
use Rattle.ccm.proofs.Runs.{split_accepted}
use Rattle.frame.specs.Security.{is_absent, sent_level, at_level, or_blank, nonce_ieee, nonce, authenticated}
use Rattle.frame.specs.Sealing.{generated, sealed_bytes}
use Rattle.frame.specs.Opening.{Mark, is_sealed, behind, ciphertext_of, mic_of, verified, open_refusals, open_refusal, Run, opened_given, open_nothing, open_by, open_with, open_under}
use Rattle.frame.proofs.Accepted.{counts, keyless, openable, sealed_run}
use Rattle.types.proofs.Levels.{tag_least}
use Rattle.frame.specs.declared.Frame.{Frame}
use Rattle.frame.proofs.Levels.{level_length, refusal_above}
use Rattle.frame.proofs.SecondHalf.{secured_facts, payload_length}
use Rattle.frame.specs.Reading.{FrameRead, told_frame, aux_behind, read_frame}

-- ---- splitting and opening

-- what splitting gives are the ciphertext and the MIC, as many of its 16 places as the tag has bytes
pub split_parts : (l : Level) (s : List ℕ) (n : ℕ) (mic : List ℕ) → 2 ≤ tag_length l → tag_length l ≤ length s
    → ◌≡◌ {A = Split} (record { refusal = 0; length = n; mic = mic }) (split_mic l s)
    → (n ≡ length s - tag_length l) × (take n s ≡ ciphertext_of (tag_length l) s) × (take (tag_length l) mic ≡ mic_of (tag_length l) s)
unfolding ciphertext_of mic_of
split_parts l s n mic good h e =
    let done = e ∙ split_accepted l s good h in
    let size = ap (λ (k : Split). k.length) done in (
      size,
      ap (λ (k : ℕ). take k s) size,
      ap (λ (k : Split). take (tag_length l) k.mic) done
          ∙ front_places (tag_length l) (drop (length s - tag_length l) s) (length-drop (length s - tag_length l) s ∙ omega arith),
    )

-- splitting refuses no part that has a tag
pub split_passes : (l : Level) (s : List ℕ) (r : Refusal) → 2 ≤ tag_length l → tag_length l ≤ length s → split_refused (number_of r) ≡ split_mic l s → ⊥
split_passes l s r good h e = refusal_above r (ap (λ (k : Split). k.refusal) (e ∙ split_accepted l s good h))

-- what opening needs of a frame that was read and is sealed
pub open_facts : (f : List ℕ) → Below 256 f → (read_frame f).refusal ≡ 0 → is_sealed (read_frame f).header ≡ true
    → (take (length (header_bytes (read_frame f).header)) f ≡ header_bytes (read_frame f).header)
    × (length (header_bytes (read_frame f).header) + length (aux_bytes (or_blank (read_frame f).aux)) ≤ 118)
    × (length (drop (read_frame f).length f) ≤ 127)
open_facts f u e sealed =
    let s = secured_facts f e sealed in
    let hf = header_facts f u s.header in
    let af = aux_facts (drop (read_header f).length f) (drop_below f (read_header f).length 256 u) s.aux in
    let short = hf.short in
    let within = hf.within in
    let inside = af.within in
    let size = af.size in
    let header : length (header_bytes (read_header f).header) ≡ (read_header f).length = ap length hf.bytes ∙ length-take-le _ f within in
    let part = length-drop (read_header f).length f in
    let rest = length-drop ((read_header f).length + (aux_behind f (read_header f)).length) f in
    rw s.read (ap (λ (n : ℕ). take n f) header ∙ sym hf.bytes, omega arith, omega arith)

-- ---- sealing

-- header, auxiliary header, then ciphertext and MIC, each right behind what is before it
pub sealed_done : (l : Level) (key : List ℕ) (h : NwkHeader) (x y : NwkAuxHeader) (p o o₁ o₂ o₃ : List ℕ) (behind start : ℕ) (n a : List ℕ)
    → behind ≡ length (header_bytes h) → start ≡ length (header_bytes h) + length (aux_bytes x) → y ≡ at_level sent_level x
    → n ≡ nonce l h x → a ≡ authenticated l h x → o₁ ≡ over o 0 (header_bytes h) → o₂ ≡ over o₁ behind (aux_bytes y)
    → o₃ ≡ over o₂ start ((sealed_by (tag_length l) key n a p).ciphertext ++ (sealed_by (tag_length l) key n a p).tag) → o₃ ≡ over o 0 (sealed_bytes l key h x p)
unfolding sealed_bytes generated
sealed_done l key h x y p o o₁ o₂ o₃ behind start n a header size sent en ea first second third =
    let place : start ≡ behind + length (aux_bytes (at_level sent_level x)) =
    size ∙ (λ i. sym header i + sym (level_length sent_level x) i) in
    over_three o o₁ o₂ o₃ 0 behind start (header_bytes h) (aux_bytes (at_level sent_level x)) _ (omega arith) (header ∙ sym (zero-add _)) place first
    (second ∙ (λ i. over o₁ behind (aux_bytes (sent i))))
    (third ∙ (λ i. over o₂ start ((sealed_by (tag_length l) key (en i) (ea i) p).ciphertext ++ (sealed_by (tag_length l) key (en i) (ea i) p).tag)))
    ∙ ap (over o 0) (sym (append_assoc (header_bytes h) (aux_bytes (at_level sent_level x)) _))

-- ---- opening, by what the calls gave

-- what opening needs of a frame that meets no refusal but perhaps 19 and has the auxiliary header x
pub record Ready (l : Level) (f : List ℕ) (r : Frame) (x : NwkAuxHeader) (room : ℕ) : Type 0 where
  pub sealed : is_sealed r.header ≡ true
  pub tag : 2 ≤ tag_length l
  pub front : take (length (header_bytes r.header)) f ≡ header_bytes r.header
  pub within : length (header_bytes r.header) ≤ length f
  pub short : length (header_bytes r.header) + length (aux_bytes x) ≤ 118
  pub part : length (drop r.length f) ≤ 127
  pub tagged : tag_length l ≤ length (drop r.length f)
  pub fits : length (drop r.length f) - tag_length l ≤ room

pub ready : (l : Level) (f : List ℕ) (r : Frame) (x : NwkAuxHeader) (room : ℕ) → Below 256 f → told_frame (Ok r) ≡ read_frame f
    → 0 ≡ first_of (open_refusals l (read_frame f).refusal (read_frame f).header (read_frame f).aux (length (drop (read_frame f).length f)) room)
    → is_sealed r.header ≡ not (is_absent r.aux) → r.aux ≡ Some x → Ready l f r x room
ready l f r x room u read number bit present =
    let sealed : is_sealed r.header ≡ true = rw present at bit in
    let k = keyless l 0 r.header r.aux (length (drop r.length f)) room (sym (rw (← read) at number)) in
    let o = open_facts f u (ap (λ (z : FrameRead). z.refusal) (sym read)) (ap (λ (z : FrameRead). is_sealed z.header) (sym read) ∙ sealed) in
    let facts = rw (← read) at o in
    let front = facts.0 in
    record {
      sealed = sealed;
      tag = omega (arith, tag_least l k.level);
      front = front;
      within = omega (arith, simp length-take at (ap length front));
      short = rw present at facts.1;
      part = facts.2;
      tagged = k.tagged sealed;
      fits = k.fits sealed;
    }

-- no other refusal of a sealed frame holds, and CCM found the MIC valid or not (b), and left o' for o
module _ (l : Level) (w : List (List (List ℕ))) (f o o' c mic : List ℕ) (r : Frame) (x : NwkAuxHeader) (n : ℕ) (b : Bool)
    (read : told_frame (Ok r) ≡ read_frame f)
    (number : 0 ≡ first_of (open_refusals l (read_frame f).refusal (read_frame f).header (read_frame f).aux (length (drop (read_frame f).length f)) (length o)))
    (sealed : is_sealed r.header ≡ true) (present : r.aux ≡ Some x)
    (size : n ≡ length (drop r.length f) - tag_length l) (cipher : c ≡ ciphertext_of (tag_length l) (drop r.length f))
    (split : take (tag_length l) mic ≡ mic_of (tag_length l) (drop r.length f))
    (valid : b ≡ (opened_under (tag_length l) w (nonce l r.header x) (authenticated l r.header x) c (take (tag_length l) mic)).valid)
    (given : o' ≡ given_if b (opened_under (tag_length l) w (nonce l r.header x) (authenticated l r.header x) c (take (tag_length l) mic)) o) where
  same : opened_under (tag_length l) w (nonce l r.header x) (authenticated l r.header x) c (take (tag_length l) mic)
      ≡ verified l (ciph_under w) f (told_frame (Ok r))
  unfolding verified behind
  same =
      λ i. opened_under (tag_length l) w (nonce l r.header (or_blank (sym present i))) (authenticated l r.header (or_blank (sym present i))) (cipher i) (split i)

  found : b ≡ (verified l (ciph_under w) f (told_frame (Ok r))).valid
  found = valid ∙ ap (λ (v : Verified). v.valid) same

  passed : first_of (open_refusals l 0 r.header r.aux (length (behind f (told_frame (Ok r)))) (length o)) ≡ 0
  unfolding behind
  passed = sym (rw (← read) at number)

  run : open_by l (ciph_under w) f (told_frame (Ok r)) o ≡ open_under l w f o
  unfolding open_with
  run = ap (λ (k : FrameRead). open_by l (ciph_under w) f k o) read

  pub opened_invalid : b ≡ false → open_nothing 19 o' ≡ open_under l w f o
  unfolding open_by open_refusal given_if
  opened_invalid t =
      ap (open_nothing 19) (rw t at given)
      ∙ refused_by _ 19 _ (λ (m : ℕ). open_nothing m o)
      (sym (skip_by _ _ passed ∙ stop 19 _ _ (counts (is_sealed r.header) _ sealed ∙ ap not (sym found ∙ t)))) (λ z. omega arith) ∙ run

  pub opened_valid : b ≡ true
      → ◌≡◌ {A = Run} (record { answer = opened_given (told_frame (Ok r)) Mark.Sealed n (nonce_ieee x.extended_source r.header.source_ieee); out = o' }) (open_under l w f o)
  unfolding open_refusal given_if behind
  opened_valid t =
      let none : open_refusal l (ciph_under w) f (told_frame (Ok r)) (length o) ≡ 0 =
      skip_by _ _ passed ∙ skip 19 _ _ (counts (is_sealed r.header) _ sealed ∙ ap not (sym found ∙ t)) ∙ empty in
      let long = size ∙ sym (payload_length l (ciph_under w) f (told_frame (Ok r))) in
      (λ i. record {
        answer = opened_given (told_frame (Ok r)) Mark.Sealed (long i) (nonce_ieee (or_blank (sym present i)).extended_source r.header.source_ieee);
        out = (rw (t, same) at given) i;
      })
      ∙ sym (sealed_run l (ciph_under w) f (told_frame (Ok r)) o (openable l (ciph_under w) f (told_frame (Ok r)) (length o) none sealed)) ∙ run
