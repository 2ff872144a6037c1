-- What it means that writing, sealing, reading or opening a frame is accepted. For each list of refusals one lemma turns "nothing is
-- refused" into a record that names each condition, and one turns it back; every other law goes by the names.
-- Assumes nothing.
use Rattle.std.specs.Prelude.{Option, Some, None}
use mathlib.Core.Path.{◌≡◌, refl, sym, ap, ◌∙◌}
use mathlib.Core.Bool.{Bool, true, false, true≢false, cond, not, ◌&&◌, ◌||◌}
use mathlib.Core.List.{List}
use Prim.Native.Nat.{ℕ, ◌+◌, ◌-◌, ◌≤◌}
use native.Mathlib.Omega.{arith}
use lib.ListN.{length}
use lib.Dec.{ltb}
use borrow.Author.Tests.{ltb-false, le-ltb, not-false}
use Rattle.octets.specs.Refusals.{first_of}
use Rattle.octets.proofs.Strings.{take_over}
use Rattle.octets.proofs.Conditions.{accepted, refused, accepted_by, refused_by, answer_number, unless_either, none, none_refuse, or_false}
use Rattle.types.specs.declared.level.Level.{Level}
use Rattle.types.specs.Levels.{is_other, tag_length}
use Rattle.types.specs.Optional.{has_ieee}
use Rattle.header.specs.declared.{auxiliary.NwkAuxHeader.NwkAuxHeader, nwk.NwkHeader.NwkHeader}
use Rattle.header.specs.Writing.{header_bytes}
use Rattle.header.specs.Same.{AuxAgrees, aux_agrees}
use Rattle.header.proofs.Writable.{FieldsGood, fields_good, fields_accepted, aux_test}
use Rattle.ccm.specs.Verification.{Verified}
use Rattle.frame.specs.Reading.{FrameRead, secured, frame_refusal, frame_refused, frame_given, frame_number, frame_by}
use Rattle.frame.specs.Security.{is_absent, or_blank, ieee_of, nonce_ieee, no_ieee}
use Rattle.frame.specs.Writing.{length_refusals, frame_write_refusal}
use Rattle.frame.specs.Sealing as sealing
use Rattle.frame.specs.Sealing.{sealed_length, headers_refusal, seal_refusals, seal_given, seal_refused, seal_nothing, seal_by}
use Rattle.frame.specs.SealingLaw.{bytes_written}
use Rattle.frame.specs.Marks.{Openable}
use Rattle.frame.specs.Opening.{Mark, is_sealed, behind, verified, open_refusals, open_refusal, open_refused, Run, sealed_given, clear_given, open_given, open_nothing, open_by}
use Rattle.header.specs.Auxiliary.{AuxRead}
use Rattle.header.specs.Reading.{HeaderRead}

-- ---- writing

pub record ClearWritable (h : NwkHeader) (n room : ℕ) : Type 0 where
  pub fields : FieldsGood h
  pub payload : n ≤ 108
  pub whole : length (header_bytes h) + n ≤ 118
  pub fits : length (header_bytes h) + n ≤ room

pub clear_writable : (h : NwkHeader) (n room : ℕ) → frame_write_refusal h n room ≡ 0 → ClearWritable h n room
unfolding frame_write_refusal length_refusals
clear_writable h p room e =
    let n = none _ e in
    let long = or_false (ltb 108 p) (ltb 118 (length (header_bytes h) + p)) n.1.0 in
    record {
      fields = fields_good h n.0;
      payload = ltb-false 108 p long.0;
      whole = ltb-false 118 (length (header_bytes h) + p) long.1;
      fits = ltb-false room (length (header_bytes h) + p) n.1.1.0;
    }

-- ---- sealing

-- no condition of the two headers holds
pub record GoodHeaders (h : NwkHeader) (a : Option NwkAuxHeader) : Type 0 where
  pub fields : FieldsGood h
  pub secured : h.frame_control.security ≡ true
  pub present : is_absent a ≡ false
  pub nonce : AuxAgrees (or_blank a)
  pub ieee : no_ieee h (or_blank a) ≡ false

pub good_headers : (h : NwkHeader) (a : Option NwkAuxHeader) → headers_refusal h a ≡ 0 → GoodHeaders h a
unfolding headers_refusal
good_headers h a e =
    let n = none _ e in
    record {
      fields = fields_good h n.0;
      secured = not-false h.frame_control.security n.1.0;
      present = n.1.1.0;
      nonce = (aux_test (or_blank a)).0 (not-false (aux_agrees (or_blank a)) n.1.1.1.0);
      ieee = n.1.1.1.1.0;
    }

pub headers_accepted : (h : NwkHeader) (a : Option NwkAuxHeader) → GoodHeaders h a → headers_refusal h a ≡ 0
unfolding headers_refusal
headers_accepted h a g =
    none_refuse _ (
      fields_accepted h g.fields,
      (ap not g.secured, (g.present, (ap not ((aux_test (or_blank a)).1 g.nonce), (g.ieee, tt)))),
    )

-- no condition of sealing's list holds, for n bytes of payload; is_last says whether the counter is the last one
pub record Sealable (is_last : Bool) (l : Level) (h : NwkHeader) (a : Option NwkAuxHeader) (n room : ℕ) : Type 0 where
  pub level : is_other l ≡ false
  pub headers : GoodHeaders h a
  pub counter : is_last ≡ false
  pub payload : n ≤ 108
  pub whole : sealed_length l h (or_blank a) n ≤ 118
  pub fits : sealed_length l h (or_blank a) n ≤ room

module _ (is_last : Bool) (l : Level) (h : NwkHeader) (a : Option NwkAuxHeader) (n room : ℕ) where
  pub sealable : first_of (seal_refusals is_last l h a n room) ≡ 0 → Sealable is_last l h a n room
  unfolding seal_refusals length_refusals
  sealable e =
      let all = none _ e in
      let long = or_false (ltb 108 n) (ltb 118 (sealed_length l h (or_blank a) n)) all.1.1.1.0 in
      record {
        level = all.0;
        headers = good_headers h a all.1.0;
        counter = all.1.1.0;
        payload = ltb-false 108 n long.0;
        whole = ltb-false 118 (sealed_length l h (or_blank a) n) long.1;
        fits = ltb-false room (sealed_length l h (or_blank a) n) all.1.1.1.1.0;
      }

  pub seal_accepts : Sealable is_last l h a n room → first_of (seal_refusals is_last l h a n room) ≡ 0
  unfolding seal_refusals length_refusals
  seal_accepts s =
      none_refuse _ (
        s.level,
        (
          headers_accepted h a s.headers,
          (
            s.counter,
            (rw (le-ltb 108 n s.payload) (le-ltb 118 (sealed_length l h (or_blank a) n) s.whole), (le-ltb room (sealed_length l h (or_blank a) n) s.fits, tt)),
          ),
        ),
      )

-- what sealing leaves, by its number
module _ (n : ℕ) (bs o : List ℕ) where
  pub seal_accepted : (m : ℕ) → m ≡ n → m ≡ 0 → seal_given bs o ≡ seal_by n bs o
  unfolding seal_by
  seal_accepted m e z = accepted_by n m (seal_given bs o) (seal_nothing n o) e z

  pub seal_refused_lem : (m : ℕ) → m ≡ n → (m ≡ 0 → ⊥) → seal_nothing m o ≡ seal_by n bs o
  unfolding seal_by
  seal_refused_lem m e h = refused_by n m (seal_given bs o) (λ (k : ℕ). seal_nothing k o) e h

  -- the answer bears the number
  pub sealed_number : (seal_by n bs o).answer.refusal ≡ n
  unfolding seal_by seal_refused
  sealed_number = answer_number (λ (r : sealing.Run). r.answer.refusal) n (seal_given bs o) (λ (m : ℕ). seal_nothing m o) refl refl

  -- the bytes that were sealed
  pub bytes_sealed_lem : n ≡ 0 → bytes_written (seal_by n bs o) ≡ bs
  bytes_sealed_lem e = ap bytes_written (sym (seal_accepted n refl e)) ∙ take_over o bs

-- ---- reading

pub frame_refusal_lem : (f : List ℕ) (h : HeaderRead) (a : AuxRead) → (frame_by f h a).refusal ≡ frame_number f h a
unfolding frame_by frame_refused
frame_refusal_lem f h a = answer_number (λ (r : FrameRead). r.refusal) (frame_number f h a) (frame_given h a) frame_refused refl refl

-- no condition of reading's list holds
pub record Readable (f : List ℕ) (h : HeaderRead) (a : AuxRead) : Type 0 where
  pub header : h.refusal ≡ 0
  pub aux : cond (secured h) a.refusal 0 ≡ 0
  pub payload : (not (secured h) && ltb 108 (length f - h.length)) ≡ false

module _ (f : List ℕ) (h : HeaderRead) (a : AuxRead) where
  pub readable : frame_number f h a ≡ 0 → Readable f h a
  unfolding frame_number frame_refusal
  readable e =
      let n = none _ e in
      record { header = n.0; aux = n.1.0; payload = n.1.1.0 }

  pub read_accepts : Readable f h a → frame_number f h a ≡ 0
  unfolding frame_number frame_refusal
  read_accepts r = none_refuse _ (r.header, (r.aux, (r.payload, tt)))

-- ---- opening

-- what holds of both cases holds of the case that a bit decides
cond_either : {A : Type 0} (P : A → Type 0) (b : Bool) (x y : A) → (b ≡ true → P x) → (b ≡ false → P y) → P (cond b x y)
cond_either P true x y p q = p refl
cond_either P false x y p q = q refl

-- a condition that counts only where a bit is set
pub counts : (b x : Bool) → b ≡ true → (b && x) ≡ x
counts true x e = refl
counts false x e = absurd (true≢false (sym e))

not_both : {A : Type 0} {b : Bool} → b ≡ true → b ≡ false → A
not_both x y = absurd (true≢false (sym x ∙ y))

off_if : (b x : Bool) → (b ≡ true → x ≡ false) → (b && x) ≡ false
off_if true x h = h refl
off_if false x h = refl

-- where there is an address, it is the one that the nonce uses
pub ieee_there : (a s : Option ℕ) → not (has_ieee a || has_ieee s) ≡ false → nonce_ieee a s ≡ Some (ieee_of a s)
ieee_there (Some x) s e = refl
ieee_there None (Some x) e = refl
ieee_there None None e = absurd (true≢false e)

-- a frame that is not refused, sealed or clear
given_either : (P : Run → Type 0) (f : List ℕ) (r : FrameRead) (v : Verified) (o : List ℕ)
    → (is_sealed r.header ≡ true → P (sealed_given r v o)) → (is_sealed r.header ≡ false → P (clear_given f r o)) → P (open_given f r v o)
given_either P f r v o p q = cond_either P (is_sealed r.header) (sealed_given r v o) (clear_given f r o) p q

-- no condition of opening's list holds that needs no key: those of a sealed frame count where the security bit is set
pub record Keyless (l : Level) (number : ℕ) (h : NwkHeader) (a : Option NwkAuxHeader) (part room : ℕ) : Type 0 where
  pub level : is_other l ≡ false
  pub reads : number ≡ 0
  pub ieee : is_sealed h ≡ true → no_ieee h (or_blank a) ≡ false
  pub tagged : is_sealed h ≡ true → tag_length l ≤ part
  pub fits : is_sealed h ≡ true → part - tag_length l ≤ room

module _ (l : Level) (number : ℕ) (h : NwkHeader) (a : Option NwkAuxHeader) (part room : ℕ) where
  pub keyless : first_of (open_refusals l number h a part room) ≡ 0 → Keyless l number h a part room
  unfolding open_refusals
  keyless e =
      let n = none _ e in
      let so : (x : Bool) → (is_sealed h && x) ≡ false → is_sealed h ≡ true → x ≡ false = λ x z s. sym (counts (is_sealed h) x s) ∙ z in
      record {
        level = n.0;
        reads = n.1.0;
        ieee = so _ n.1.1.0;
        tagged = λ s. ltb-false part (tag_length l) (so _ n.1.1.1.0 s);
        fits = λ s. ltb-false room (part - tag_length l) (so _ n.1.1.1.1.0 s);
      }

  keyless_accepts : Keyless l number h a part room → first_of (open_refusals l number h a part room) ≡ 0
  unfolding open_refusals
  keyless_accepts k =
      none_refuse _ (
        k.level,
        (
          k.reads,
          (
            off_if (is_sealed h) _ k.ieee,
            (off_if (is_sealed h) _ (λ s. le-ltb part (tag_length l) (k.tagged s)), (off_if (is_sealed h) _ (λ s. le-ltb room (part - tag_length l) (k.fits s)), tt)),
          ),
        ),
      )

module _ (l : Level) (ciph : List ℕ → List ℕ) (f : List ℕ) (r : FrameRead) where
  pub open_number_lem : (o : List ℕ) → (open_by l ciph f r o).answer.refusal ≡ open_refusal l ciph f r (length o)
  unfolding open_by open_refused
  open_number_lem o =
      answer_number (λ (x : Run). x.answer.refusal) (open_refusal l ciph f r (length o)) (open_given f r (verified l ciph f r) o) (λ (n : ℕ). open_nothing n o)
      (given_either (λ (x : Run). x.answer.refusal ≡ 0) f r (verified l ciph f r) o (λ s. refl) (λ s. refl)) refl

  -- no condition at all holds
  opens : (room : ℕ) → open_refusal l ciph f r room ≡ 0
      → Keyless l r.refusal r.header r.aux (length (behind f r)) room × (is_sealed r.header ≡ true → (verified l ciph f r).valid ≡ true)
  unfolding open_refusal
  opens room e =
      let n = none _ e in
      (keyless _ _ _ _ _ _ n.0, λ s. not-false _ (sym (counts (is_sealed r.header) _ s) ∙ n.1.0))

  open_accepts : (room : ℕ) → Keyless l r.refusal r.header r.aux (length (behind f r)) room
      → (is_sealed r.header ≡ true → (verified l ciph f r).valid ≡ true) → open_refusal l ciph f r room ≡ 0
  unfolding open_refusal
  open_accepts room k valid = none_refuse _ (keyless_accepts _ _ _ _ _ _ k, (off_if (is_sealed r.header) _ (λ s. ap not (valid s)), tt))

  pub openable : (room : ℕ) → open_refusal l ciph f r room ≡ 0 → is_sealed r.header ≡ true → Openable l ciph f r room
  openable room e s =
      let o = opens room e in
      let k = o.0 in
      record { level = k.level; reads = k.reads; on = s; ieee = k.ieee s; tagged = k.tagged s; fits = k.fits s; valid = o.1 s }

  -- what opening leaves of a frame that it accepts, sealed or clear
  pub sealed_run : (o : List ℕ) → Openable l ciph f r (length o) → open_by l ciph f r o ≡ sealed_given r (verified l ciph f r) o
  unfolding open_by
  sealed_run o s =
      let k : Keyless l r.refusal r.header r.aux (length (behind f r)) (length o) =
      record { level = s.level; reads = s.reads; ieee = λ x. s.ieee; tagged = λ x. s.tagged; fits = λ x. s.fits } in
      accepted (open_refusal l ciph f r (length o)) _ _ (open_accepts (length o) k (λ x. s.valid))
      ∙ ap (λ (b : Bool). cond b (sealed_given r (verified l ciph f r) o) (clear_given f r o)) s.on

  pub clear_run : (o : List ℕ) → is_other l ≡ false → r.refusal ≡ 0 → is_sealed r.header ≡ false → open_by l ciph f r o ≡ clear_given f r o
  unfolding open_by
  clear_run o level e off =
      let k : Keyless l r.refusal r.header r.aux (length (behind f r)) (length o) =
      record { level = level; reads = e; ieee = λ x. not_both x off; tagged = λ x. not_both x off; fits = λ x. not_both x off } in
      accepted (open_refusal l ciph f r (length o)) _ _ (open_accepts (length o) k (λ x. not_both x off))
      ∙ ap (λ (b : Bool). cond b (sealed_given r (verified l ciph f r) o) (clear_given f r o)) off

-- ---- the marks

-- a place for each mark, so that no two are the same
abbrev place : Mark → ℕ
place Mark.Unmarked = 0
place Mark.Clear = 1
place Mark.Sealed = 2

apart : (m n : Mark) → (place m ≡ place n → ⊥) → m ≡ n → ⊥
apart m n h e = h (ap place e)

module _ (l : Level) (ciph : List ℕ → List ℕ) (f : List ℕ) (r : FrameRead) (o : List ℕ) where
  -- what holds of an opened frame, of a clear one and of a refusal holds of what opening leaves
  pub run_either : (P : Run → Type 0)
      → (Openable l ciph f r (length o) → P (sealed_given r (verified l ciph f r) o))
      → (is_other l ≡ false → r.refusal ≡ 0 → is_sealed r.header ≡ false → P (clear_given f r o))
      → P (open_nothing (open_refusal l ciph f r (length o)) o)
      → P (open_by l ciph f r o)
  unfolding open_by
  run_either P opened clear refused =
      unless_either P (open_refusal l ciph f r (length o)) _ _
      (λ e. given_either P f r (verified l ciph f r) o (λ s. opened (openable l ciph f r (length o) e s)) (clear (opens l ciph f r (length o) e).0.level (opens l ciph f r (length o) e).0.reads))
      refused

  -- what each mark says of the frame
  pub marked_sealed : (open_by l ciph f r o).answer.mark ≡ Mark.Sealed → Openable l ciph f r (length o)
  unfolding open_refused
  marked_sealed =
      run_either (λ (x : Run). x.answer.mark ≡ Mark.Sealed → Openable l ciph f r (length o)) (λ w m. w)
      (λ level e off m. absurd (apart Mark.Clear Mark.Sealed (λ z. omega arith) m)) (λ m. absurd (apart Mark.Unmarked Mark.Sealed (λ z. omega arith) m))

  pub marked_clear : (open_by l ciph f r o).answer.mark ≡ Mark.Clear → (is_other l ≡ false) × (r.refusal ≡ 0) × (is_sealed r.header ≡ false)
  unfolding open_refused
  marked_clear =
      run_either (λ (x : Run). x.answer.mark ≡ Mark.Clear → (is_other l ≡ false) × (r.refusal ≡ 0) × (is_sealed r.header ≡ false))
      (λ w m. absurd (apart Mark.Sealed Mark.Clear (λ z. omega arith) m)) (λ level e off m. (level, e, off)) (λ m. absurd (apart Mark.Unmarked Mark.Clear (λ z. omega arith) m))

  -- there is one exactly where nothing is refused
  pub marked : open_refusal l ciph f r (length o) ≡ 0 → (open_by l ciph f r o).answer.mark ≡ Mark.Unmarked → ⊥
  unfolding open_by
  marked e =
      rw (accepted (open_refusal l ciph f r (length o)) (open_given f r (verified l ciph f r) o) (open_nothing (open_refusal l ciph f r (length o)) o) e)
      (given_either (λ (x : Run). x.answer.mark ≡ Mark.Unmarked → ⊥) f r (verified l ciph f r) o
      (λ s. apart Mark.Sealed Mark.Unmarked (λ z. omega arith)) (λ s. apart Mark.Clear Mark.Unmarked (λ z. omega arith)))

  pub unmarked : (open_refusal l ciph f r (length o) ≡ 0 → ⊥) → (open_by l ciph f r o).answer.mark ≡ Mark.Unmarked
  unfolding open_by open_refused
  unmarked h = ap (λ (x : Run). x.answer.mark) (refused (open_refusal l ciph f r (length o)) (open_given f r (verified l ciph f r) o) _ h)
