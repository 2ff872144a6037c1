-- A value of each claim in specs/NetworkLevel.antt.
-- Assumes nothing.
use Rattle.std.specs.Prelude.{Some}
use mathlib.Core.Path.{◌≡◌, refl, sym, ap, ◌∙◌}
use mathlib.Core.List.{List, [], ◌∷◌, ◌++◌, append_assoc, append-nil}
use Prim.Native.Nat.{ℕ, ◌+◌, ◌*◌, ◌%◌, ◌<◌}
use native.Mathlib.Omega.{arith}
use lib.Dec.{eqb}
use lib.ListN.{length, get_or, drop}
use lib.Seq.{drop_at}
use Rattle.octets.specs.Strings.{tab}
use Rattle.octets.specs.Numbers.{le}
use Rattle.octets.specs.Fields.{packed}
use Rattle.octets.specs.Refusals.{first_of, on, by}
use Rattle.octets.proofs.Conditions.{refused, stop, stop_by}
use Rattle.types.specs.declared.level.Level.{Level}
use Rattle.types.specs.Counters.{last_counter}
use Rattle.types.specs.Levels.{is_other, tag_length}
use Rattle.header.specs.declared.{auxiliary.NwkSecurityLevel.NwkSecurityLevel, auxiliary.NwkAuxHeader.NwkAuxHeader, nwk.NwkHeader.NwkHeader}
use Rattle.header.specs.AuxiliaryControl.{level_code, security_byte, with_level}
use Rattle.header.specs.Auxiliary.{aux_bytes}
use Rattle.header.specs.Writing.{header_bytes}
use Rattle.header.specs.Same.{aux_agrees}
use Rattle.ccm.specs.Operations.{ciph_of}
use Rattle.frame.specs.Reading.{read_frame}
use Rattle.frame.specs.Writing.{length_refusals}
use Rattle.frame.specs.Security.{field_level, sent_level, at_level, or_blank, nonce, authenticated}
use Rattle.frame.specs.Sealing.{generated, sealed_bytes, sealed_length, headers_refusal, seal_refusals, seal_refusal, seal_by, seal_frame}
use Rattle.frame.specs.Opening.{verified, open_refusals, open_refusal, open_nothing, open_by, open_with}
use Rattle.frame.specs.NetworkLevel.{LevelUsed, LevelInNonce, SentIsZero, HandedLevel, OtherLevel, LevelFive, seal_formerly, open_formerly}
use Rattle.frame.proofs.Accepted.{seal_refused_lem}
use Rattle.frame.proofs.Levels.{level_length}
use Rattle.frame.proofs.SealingLaw.{seal_number, seal_bytes}

-- ---- the level in a security control byte

low_bits : (l n : ℕ) → l < 8 → (l + n * 8) % 256 % 8 ≡ l
low_bits l n h = omega arith

-- its three lowest bits, at the front of an auxiliary header's bytes
first_of_lem : (m : NwkSecurityLevel) (a : NwkAuxHeader) (rest : List ℕ) → level_code m < 8 → get_or (aux_bytes (at_level m a) ++ rest) 0 0 % 8 ≡ level_code m
unfolding aux_bytes at_level with_level security_byte packed le tab
first_of_lem m a rest h = low_bits (level_code m) _ h

used : (l : Level) (n : ℕ) (h : NwkHeader) (a : NwkAuxHeader) → level_code (field_level l) ≡ n → n < 8 → LevelUsed l n h a
unfolding nonce authenticated with_level security_byte packed le tab
used l n h a e small =
    let fits : level_code (field_level l) < 8 = omega (arith, e) in
    record {
      nonce = low_bits (level_code (field_level l)) _ fits ∙ e;
      authenticated = ap (λ (s : List ℕ). get_or s 0 0 % 8)
          (drop_at (header_bytes h) (aux_bytes (at_level (field_level l) a)) (length (header_bytes h)) refl ∙ sym (append-nil (aux_bytes (at_level (field_level l) a))))
          ∙ first_of_lem (field_level l) a [] fits ∙ e;
    }

pub level_in_nonce : LevelInNonce
level_in_nonce h a =
    (used Level.EncMic32 5 h a refl (omega arith), used Level.EncMic64 6 h a refl (omega arith), used Level.EncMic128 7 h a refl (omega arith))

pub sent_is_zero : SentIsZero
unfolding sealed_bytes
sent_is_zero l key h a p o accepted =
    let e = sym (seal_number l key h a p o) ∙ accepted in
    ap (λ (s : List ℕ). get_or (drop (length (header_bytes h)) s) 0 0 % 8) (seal_bytes l key h a p o e ∙ append_assoc (header_bytes h) (aux_bytes (at_level sent_level (or_blank a))) _)
    ∙ ap (λ (s : List ℕ). get_or s 0 0 % 8) (drop_at (header_bytes h) _ (length (header_bytes h)) refl)
    ∙ first_of_lem sent_level (or_blank a) _ (omega arith)

pub handed_level : HandedLevel
unfolding seal_frame seal_refusal seal_refusals sealed_length sealed_bytes generated nonce authenticated headers_refusal aux_agrees at_level with_level
handed_level l m key h a p o =
    ap (λ (n : ℕ). seal_by (first_of (on 29 (is_other l) ∷ by (headers_refusal h (Some a)) ∷ on 21 (eqb a.frame_counter last_counter)
    ∷ length_refusals (length p) (length (header_bytes h) + n + tag_length l + length p) (length o))) (sealed_bytes l key h a p) o) (level_length m a)

-- ---- 29

pub other_level : OtherLevel
unfolding seal_frame seal_refusal seal_refusals open_with open_by open_refusal open_refusals
other_level l key h a p f o e =
    let keyless : first_of (open_refusals l (read_frame f).refusal (read_frame f).header (read_frame f).aux _ (length o)) ≡ 29 = stop 29 (is_other l) _ e in
    let number : open_refusal l (ciph_of key) f (read_frame f) (length o) ≡ 29 = stop_by _ _ (λ z. omega (arith, keyless)) ∙ keyless in
    record {
      sealing = sym (seal_refused_lem _ _ o 29 (sym (stop 29 (is_other l) _ e)) (λ z. omega arith));
      opening = refused _ _ _ (λ z. omega (arith, number)) ∙ ap (λ (n : ℕ). open_nothing n o) number;
    }

-- ---- level 5

pub level_five : LevelFive
unfolding tag_length first_of seal_frame seal_refusal seal_refusals sealed_length sealed_bytes generated
    open_with open_by open_refusal open_refusals verified nonce authenticated seal_formerly open_formerly
level_five key h a p f o = record { sealing = refl; opening = refl }
