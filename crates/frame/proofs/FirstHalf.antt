-- The first half of the sealing law: reading the sealed bytes gives the headers back, CCM opens what it sealed, and so opening
-- gives exactly one record, from which the claim is read off. For every level, its tag length being a variable.
-- Assumes nothing.
use Rattle.std.specs.Prelude.{Some}
use mathlib.Core.Path.{◌≡◌, refl, sym, ap, ◌∙◌}
use mathlib.Core.Bool.{Bool, true, false, cond, not, ◌&&◌}
use mathlib.Core.List.{List, ◌++◌, append_assoc}
use Prim.Native.Nat.{ℕ, ◌+◌, ◌-◌, ◌≤◌}
use native.Mathlib.Omega.{arith}
use lib.ListN.{length, drop, length-append}
use lib.Seq.{take_at, drop_at}
use lib.Dec.{ltb}
use Rattle.octets.specs.Strings.{over}
use Rattle.octets.proofs.Conditions.{accepted}
use Rattle.types.specs.declared.level.Level.{Level}
use Rattle.types.specs.Levels.{is_other, tag_length}
use Rattle.header.specs.declared.{auxiliary.NwkAuxHeader.NwkAuxHeader, control.NwkFrameControl.NwkFrameControl, nwk.NwkHeader.NwkHeader}
use Rattle.header.specs.Reading.{HeaderRead, read_header}
use Rattle.header.specs.Auxiliary.{AuxRead, aux_bytes, read_aux}
use Rattle.header.specs.Writing.{header_bytes}
use Rattle.header.specs.Same.{SameHeader, cleared, HeaderFits, AuxFits}
use Rattle.header.proofs.ReadBack.{read_back as header_read_back, same_cleared}
use Rattle.header.proofs.AuxiliaryLaws.{aux_read_back}
use Rattle.ccm.specs.Verification.{Verified}
use Rattle.ccm.specs.Operations.{ciph_of, opened_by}
use Rattle.ccm.proofs.Opening.{length_ciphertext, length_tag, opened_sealed}
use Rattle.frame.specs.Reading.{FrameRead, secured, aux_if, aux_behind, frame_given, frame_number, frame_by, read_frame}
use Rattle.frame.specs.Security.{sent_level, at_level, or_blank, nonce_ieee, nonce, authenticated}
use Rattle.frame.specs.Sealing.{generated, sealed_bytes, sealed_length}
use Rattle.frame.specs.Opening.{Mark, behind, ciphertext_of, mic_of, verified, open_by}
use Rattle.frame.specs.Marks.{Openable}
use Rattle.frame.proofs.Levels.{level_agrees, level_fits, level_length, level_nonce, level_authenticated, level_ieee}
use Rattle.frame.proofs.Accepted.{GoodHeaders, Readable, read_accepts, sealed_run}

-- ---- reading a secured frame from its parts

-- the frame whose headers have been read, the security bit being set
pub secured_frame : (f : List ℕ) (h : HeaderRead) (a : AuxRead) → secured h ≡ true → h.refusal ≡ 0 → a.refusal ≡ 0
    → frame_by f h a ≡ record { refusal = 0; length = h.length + a.length; header = h.header; aux = Some a.aux }
unfolding frame_by
secured_frame f h a s e g =
    let able : Readable f h a =
    record { header = e; aux = ap (λ (b : Bool). cond b a.refusal 0) s ∙ g; payload = ap (λ (b : Bool). not b && ltb 108 (length f - h.length)) s } in
    accepted (frame_number f h a) (frame_given h a) _ (read_accepts f h a able)
    ∙ (λ i. record { refusal = 0; length = h.length + cond (s i) a.length 0; header = h.header; aux = aux_if (s i) a.aux })

-- ---- the sealed bytes

module _ (l : Level) (key : List ℕ) (h : NwkHeader) (x : NwkAuxHeader) (p : List ℕ) where
  -- ciphertext and MIC
  pub sealed_part : List ℕ
  sealed_part = (generated l key h x p).ciphertext ++ (generated l key h x p).tag

  in_two : sealed_bytes l key h x p ≡ (header_bytes h ++ aux_bytes (at_level sent_level x)) ++ sealed_part
  unfolding sealed_bytes sealed_part
  in_two = refl

  in_three : sealed_bytes l key h x p ≡ header_bytes h ++ (aux_bytes (at_level sent_level x) ++ sealed_part)
  in_three = in_two ∙ append_assoc (header_bytes h) (aux_bytes (at_level sent_level x)) sealed_part

  pub ciphertext_length : length (generated l key h x p).ciphertext ≡ length p
  unfolding generated
  ciphertext_length = length_ciphertext (tag_length l) _ (nonce l h x) (authenticated l h x) p

  pub mic_length : length (generated l key h x p).tag ≡ tag_length l
  unfolding generated
  mic_length = length_tag (tag_length l) _ (nonce l h x) (authenticated l h x) p

  part_length : length sealed_part ≡ length p + tag_length l
  unfolding sealed_part
  part_length = length-append (generated l key h x p).ciphertext (generated l key h x p).tag ∙ (λ i. ciphertext_length i + mic_length i)

  pub sealed_length_lem : length (sealed_bytes l key h x p) ≡ sealed_length l h x (length p)
  unfolding sealed_length
  sealed_length_lem =
      ap length in_three ∙ length-append (header_bytes h) _
      ∙ ap (λ (n : ℕ). length (header_bytes h) + n) (length-append (aux_bytes (at_level sent_level x)) sealed_part)
      ∙ (λ i. length (header_bytes h) + (level_length sent_level x i + part_length i))
      ∙ omega arith

  -- ---- reading them

  read_back : FrameRead
  read_back =
      record {
        refusal = 0;
        length = length (header_bytes h) + length (aux_bytes (at_level sent_level x));
        header = cleared h;
        aux = Some (at_level sent_level x);
      }

  module _ (good : is_other l ≡ false) (fits : HeaderFits h) (afits : AuxFits x) (able : GoodHeaders h (Some x)) (whole : sealed_length l h x (length p) ≤ 118) where
    same : SameHeader h (cleared h)
    same = same_cleared h able.fields.good

    short : length (header_bytes h ++ (aux_bytes (at_level sent_level x) ++ sealed_part)) ≤ 118
    short = rw (← in_three, sealed_length_lem) whole

    header_part : read_header (sealed_bytes l key h x p) ≡ record { refusal = 0; length = length (header_bytes h); header = cleared h }
    header_part = ap read_header in_three ∙ header_read_back h _ fits able.fields short

    behind-header : drop (length (header_bytes h)) (sealed_bytes l key h x p) ≡ aux_bytes (at_level sent_level x) ++ sealed_part
    behind-header = ap (drop (length (header_bytes h))) in_three ∙ drop_at (header_bytes h) _ (length (header_bytes h)) refl

    short-behind : length (aux_bytes (at_level sent_level x) ++ sealed_part) ≤ 118
    short-behind = omega (arith, short, length-append (header_bytes h) (aux_bytes (at_level sent_level x) ++ sealed_part))

    aux_part : aux_behind (sealed_bytes l key h x p) (read_header (sealed_bytes l key h x p))
        ≡ record { refusal = 0; length = length (aux_bytes (at_level sent_level x)); aux = at_level sent_level x }
    aux_part =
        ap (λ (r : HeaderRead). read_aux (drop r.length (sealed_bytes l key h x p))) header_part
        ∙ ap read_aux behind-header
        ∙ aux_read_back (at_level sent_level x) sealed_part (level_fits sent_level sent_level x afits) (level_agrees sent_level sent_level x able.nonce) short-behind

    -- the security bit came back with the header
    back-secured : (cleared h).frame_control.security ≡ true
    back-secured = ap (λ (k : NwkFrameControl). k.security) (sym same.control) ∙ able.secured

    frame-read : read_frame (sealed_bytes l key h x p) ≡ read_back
    unfolding read_frame read_back
    frame-read =
        (λ i. frame_by (sealed_bytes l key h x p) (header_part i) (aux_part i))
        ∙ secured_frame (sealed_bytes l key h x p) _ _ back-secured refl refl

    -- ---- opening them

    same-nonce : nonce l read_back.header (or_blank read_back.aux) ≡ nonce l h x
    unfolding read_back
    same-nonce = level_nonce l sent_level x h (cleared h) same

    same-authenticated : authenticated l read_back.header (or_blank read_back.aux) ≡ authenticated l h x
    unfolding read_back
    same-authenticated = level_authenticated l sent_level x h (cleared h) same

    behind-headers : behind (sealed_bytes l key h x p) read_back ≡ sealed_part
    unfolding behind read_back
    behind-headers =
        ap (drop (length (header_bytes h) + length (aux_bytes (at_level sent_level x)))) in_two
        ∙ drop_at (header_bytes h ++ aux_bytes (at_level sent_level x)) sealed_part _ (length-append (header_bytes h) (aux_bytes (at_level sent_level x)))

    front_size : length sealed_part - tag_length l ≡ length p
    front_size = omega (arith, part_length)

    ciphertext-back : ciphertext_of (tag_length l) sealed_part ≡ (generated l key h x p).ciphertext
    unfolding ciphertext_of sealed_part
    ciphertext-back = take_at (generated l key h x p).ciphertext (generated l key h x p).tag _ (ciphertext_length ∙ sym front_size)

    mic-back : mic_of (tag_length l) sealed_part ≡ (generated l key h x p).tag
    unfolding mic_of sealed_part
    mic-back = drop_at (generated l key h x p).ciphertext (generated l key h x p).tag _ (ciphertext_length ∙ sym front_size)

    opened_back : verified l (ciph_of key) (sealed_bytes l key h x p) read_back
        ≡ opened_by (tag_length l) key (nonce l h x) (authenticated l h x) (generated l key h x p).ciphertext (generated l key h x p).tag
    unfolding verified
    opened_back =
        λ i. opened_by (tag_length l) key (same-nonce i) (same-authenticated i)
        ((ap (ciphertext_of (tag_length l)) behind-headers ∙ ciphertext-back) i) ((ap (mic_of (tag_length l)) behind-headers ∙ mic-back) i)

    made : ((verified l (ciph_of key) (sealed_bytes l key h x p) read_back).valid ≡ true) × ((verified l (ciph_of key) (sealed_bytes l key h x p) read_back).payload ≡ p)
    unfolding generated
    made =
        let o = opened_sealed (tag_length l) _ (nonce l h x) (authenticated l h x) p in
        (ap (λ (v : Verified). v.valid) opened_back ∙ o.0, ap (λ (v : Verified). v.payload) opened_back ∙ o.1)

    openable-back : (room : ℕ) → length p ≤ room
        → Openable l (ciph_of key) (sealed_bytes l key h x p) read_back room
    unfolding read_back
    openable-back room fits-room =
        let size : length (behind (sealed_bytes l key h x p) read_back) ≡ length p + tag_length l = ap length behind-headers ∙ part_length in
        record {
          level = good;
          reads = refl;
          on = back-secured;
          ieee = level_ieee l sent_level x h (cleared h) same ∙ able.ieee;
          tagged = omega (arith, size);
          fits = omega (arith, size);
          valid = made.0;
        }

    -- opening the sealed bytes gives exactly this
    pub reopened : (out : List ℕ) → length p ≤ length out
        → open_by l (ciph_of key) (sealed_bytes l key h x p) (read_frame (sealed_bytes l key h x p)) out
        ≡ record {
          answer = record {
            refusal = 0;
            mark = Mark.Sealed;
            length = length p;
            nonce_ieee = nonce_ieee (at_level sent_level x).extended_source (cleared h).source_ieee;
            header = cleared h;
            aux = Some (at_level sent_level x);
          };
          out = over out 0 p;
        }
    unfolding read_back
    reopened out room =
        ap (λ (r : FrameRead). open_by l (ciph_of key) (sealed_bytes l key h x p) r out) frame-read
        ∙ sealed_run l (ciph_of key) (sealed_bytes l key h x p) read_back out (openable-back (length out) room)
        ∙ (λ i. record {
          answer = record {
            refusal = 0;
            mark = Mark.Sealed;
            length = length (made.1 i);
            nonce_ieee = nonce_ieee (at_level sent_level x).extended_source (cleared h).source_ieee;
            header = cleared h;
            aux = Some (at_level sent_level x);
          };
          out = over out 0 (made.1 i);
        })
