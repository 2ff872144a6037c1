-- The second half of the sealing law: the bytes of the headers that were read are the frame's first bytes, CCM seals again what
-- it opened to the ciphertext and MIC that follow them, and the two parts are the whole frame. For every level, its tag length being a variable.
-- Assumes nothing.
use Rattle.std.specs.Prelude.{Some}
use mathlib.Core.Path.{◌≡◌, refl, sym, ap, ◌∙◌}
use mathlib.Core.Bool.{Bool, true, false, cond}
use mathlib.Core.List.{List, ◌++◌}
use Prim.Native.Nat.{ℕ, ◌+◌, ◌-◌, ◌%◌, ◌≤◌, ◌<◌}
use native.Mathlib.Nat.{add-zero}
use native.Mathlib.Omega.{arith}
use lib.ListN.{length, get_or, take, drop, length-drop, take-append-drop}
use lib.Seq.{take-add, get_or-drop, length-take-le}
use Rattle.octets.proofs.Strings.{drop_below}
use Rattle.octets.specs.Strings.{Below}
use Rattle.octets.proofs.Conditions.{accepted}
use Rattle.types.specs.declared.level.Level.{Level}
use Rattle.types.specs.Levels.{tag_length}
use Rattle.header.specs.declared.{auxiliary.NwkSecurityLevel.NwkSecurityLevel, auxiliary.NwkAuxHeader.NwkAuxHeader}
use Rattle.header.specs.Reading.{read_header}
use Rattle.header.specs.Auxiliary.{aux_bytes}
use Rattle.header.specs.AuxiliaryControl.{with_level}
use Rattle.header.specs.Writing.{header_bytes}
use Rattle.header.proofs.ReadFacts.{HeaderFacts, header_facts, AuxFacts, aux_facts}
use Rattle.header.proofs.AuxiliaryLaws.{aux_length}
use Rattle.header.proofs.PresenceBits.{reading_agrees}
use Rattle.ccm.specs.Operations.{ciph_of}
use Rattle.ccm.proofs.Opening.{length_payload, sealed_opened}
use Rattle.frame.specs.Reading.{FrameRead, secured, aux_behind, frame_refused, frame_given, frame_number, frame_by, read_frame}
use Rattle.frame.specs.Security.{sent_level, at_level, or_blank, no_ieee, nonce, authenticated}
use Rattle.frame.specs.Sealing.{generated, sealed_bytes, sealed_length}
use Rattle.frame.specs.Opening.{is_sealed, behind, ciphertext_of, mic_of, verified}
use Rattle.frame.specs.Marks.{Openable}
use Rattle.frame.proofs.Accepted.{GoodHeaders, Sealable, frame_refusal_lem, readable}
use Rattle.frame.proofs.FirstHalf.{secured_frame}

-- ---- a frame that was read and has an auxiliary header

-- what reading a secured frame gives, by its parts
abbrev pub whole_read : List ℕ → FrameRead
whole_read f =
    record {
      refusal = 0;
      length = (read_header f).length + (aux_behind f (read_header f)).length;
      header = (read_header f).header;
      aux = Some (aux_behind f (read_header f)).aux;
    }

pub record SecuredFacts (f : List ℕ) : Type 0 where
  pub header : (read_header f).refusal ≡ 0
  pub aux : (aux_behind f (read_header f)).refusal ≡ 0
  pub read : read_frame f ≡ whole_read f

pub secured_facts : (f : List ℕ) → (read_frame f).refusal ≡ 0 → is_sealed (read_frame f).header ≡ true → SecuredFacts f
unfolding read_frame frame_by
secured_facts f e sealed =
    let h = read_header f in
    let a = aux_behind f h in
    let z : frame_number f h a ≡ 0 = sym (frame_refusal_lem f h a) ∙ e in
    let s : secured h ≡ true = rw (accepted (frame_number f h a) (frame_given h a) (frame_refused (frame_number f h a)) z) at sealed in
    let r = readable f h a z in
    let aux : a.refusal ≡ 0 = sym (ap (λ (b : Bool). cond b a.refusal 0) s) ∙ r.aux in
    record { header = r.header; aux = aux; read = secured_frame f h a s r.header aux }

-- ---- sealing again

-- the headers of a sealed frame that was read meet every condition of sealing's
pub good_again : (f : List ℕ) → Below 256 f → SecuredFacts f → is_sealed (whole_read f).header ≡ true
    → no_ieee (whole_read f).header (or_blank (whole_read f).aux) ≡ false → GoodHeaders (whole_read f).header (whole_read f).aux
good_again f u s on ieee =
    record {
      fields = (header_facts f u s.header).fields;
      secured = on;
      present = refl;
      nonce = (reading_agrees (drop (read_header f).length f)).1;
      ieee = ieee;
    }

-- a header at level 0 is the one that is sent
sent_already : (a : NwkAuxHeader) → a.security_control.security_level ≡ NwkSecurityLevel.NoSecurity → at_level sent_level a ≡ a
unfolding at_level with_level
sent_already a e =
    λ i. record {
      security_control = record {
        security_level = sym e i;
        key_id = a.security_control.key_id;
        extended_nonce = a.security_control.extended_nonce;
        require_verified_frame_counter = a.security_control.require_verified_frame_counter;
      };
      frame_counter = a.frame_counter;
      extended_source = a.extended_source;
      key_sequence_number = a.key_sequence_number;
    }

-- the payload that CCM opened, and what sealing it makes
pub payload_length : (l : Level) (ciph : List ℕ → List ℕ) (f : List ℕ) (r : FrameRead)
    → length (verified l ciph f r).payload ≡ length (behind f r) - tag_length l
unfolding verified ciphertext_of
payload_length l ciph f r = length_payload (tag_length l) _ _ _ _ _ ∙ length-take-le _ (behind f r) (omega arith)

module _ (l : Level) (key f : List ℕ) (r : FrameRead) where
  made_again : tag_length l ≤ length (behind f r) → (verified l (ciph_of key) f r).valid ≡ true
      → (generated l key r.header (or_blank r.aux) (verified l (ciph_of key) f r).payload).ciphertext
      ++ (generated l key r.header (or_blank r.aux) (verified l (ciph_of key) f r).payload).tag ≡ behind f r
  unfolding verified generated ciphertext_of mic_of
  made_again tagged valid =
      let u : length (drop (length (behind f r) - tag_length l) (behind f r)) ≡ tag_length l = simp length-drop (omega arith) in
      let s = sealed_opened (tag_length l) _ (nonce l r.header (or_blank r.aux)) (authenticated l r.header (or_blank r.aux))
      (take (length (behind f r) - tag_length l) (behind f r)) (drop (length (behind f r) - tag_length l) (behind f r)) u valid in
      (λ i. s.0 i ++ s.1 i) ∙ take-append-drop (length (behind f r) - tag_length l) (behind f r)

module _ (l : Level) (key f : List ℕ) (u : Below 256 f) (s : SecuredFacts f)
    (low : get_or f (read_header f).length 0 < 128) (zero-level : get_or f (read_header f).length 0 % 8 ≡ 0) where
  part : List ℕ
  part = drop (read_header f).length f

  first_behind : get_or part 0 0 ≡ get_or f (read_header f).length 0
  unfolding part
  first_behind = get_or-drop (read_header f).length f 0 0 ∙ ap (λ (k : ℕ). get_or f k 0) (add-zero (read_header f).length)

  hf : HeaderFacts f (read_header f)
  hf = header_facts f u s.header

  af : AuxFacts part (aux_behind f (read_header f))
  unfolding part
  af = aux_facts (drop (read_header f).length f) (drop_below f (read_header f).length 256 u) s.aux

  headers_again : header_bytes (read_header f).header ++ aux_bytes (at_level sent_level (aux_behind f (read_header f)).aux)
      ≡ take ((read_header f).length + (aux_behind f (read_header f)).length) f
  unfolding part
  headers_again =
      (λ i. hf.bytes i ++ (ap aux_bytes (sent_already _ (af.plain (rw first_behind zero-level))) ∙ af.exact (rw first_behind low)) i)
      ∙ sym (take-add (read_header f).length (aux_behind f (read_header f)).length f)

  pub frame_again : tag_length l ≤ length (behind f (whole_read f)) → (verified l (ciph_of key) f (whole_read f)).valid ≡ true
      → sealed_bytes l key (read_header f).header (aux_behind f (read_header f)).aux (verified l (ciph_of key) f (whole_read f)).payload ≡ f
  unfolding sealed_bytes behind
  frame_again tagged valid =
      (λ i. headers_again i ++ made_again l key f (whole_read f) tagged valid i)
      ∙ take-append-drop ((read_header f).length + (aux_behind f (read_header f)).length) f

  size_behind : length (behind f (whole_read f)) ≡ length f - ((read_header f).length + (aux_behind f (read_header f)).length)
  unfolding behind
  size_behind = length-drop ((read_header f).length + (aux_behind f (read_header f)).length) f

  size_part : length part ≡ length f - (read_header f).length
  unfolding part
  size_part = length-drop (read_header f).length f

  pub sealable_again : (room : ℕ) (is_last : Bool) → Openable l (ciph_of key) f (whole_read f) room → is_last ≡ false
      → Sealable is_last l (read_header f).header (Some (aux_behind f (read_header f)).aux)
      (length (verified l (ciph_of key) f (whole_read f)).payload) 118
  unfolding sealed_length
  sealable_again room is_last o other =
      let short = hf.short in
      let least = hf.least in
      let within = hf.within in
      let inside = af.within in
      let tagged = o.tagged in
      let size = payload_length l (ciph_of key) f (whole_read f) in
      let header : length (header_bytes (read_header f).header) ≡ (read_header f).length = ap length hf.bytes ∙ length-take-le _ f within in
      let aux = af.size in
      let six = aux_length (aux_behind f (read_header f)).aux in
      let b = size_behind in
      let p = size_part in
      record {
        level = o.level;
        headers = good_again f u s o.on o.ieee;
        counter = other;
        payload = omega arith;
        whole = omega arith;
        fits = omega arith;
      }
