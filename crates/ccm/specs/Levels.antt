-- Document 02, 9, of CCM and the tag splitter called alone, sentence by sentence. Each is one claim over all keys, nonces, data, payloads,
-- MICs and earlier output contents. The figures are a table in crates/worked_frames/specs/Levels.antt; that opening undoes sealing, for
-- every tag length, is in proofs/Opening.antt.
-- Assumes nothing.
use Rattle.std.specs.Prelude.{◌≡◌, true, false, cond, not, List, [], ◌∷◌, ℕ, ◌-◌, ◌≤◌, ltb, length, get_or, take, drop}
use Rattle.octets.specs.Refusals.{unless, on, by, first_of}
use Rattle.octets.specs.Writing.{Run, written, wrote_nothing}
use Rattle.types.specs.declared.level.Level.{Level}
use Rattle.types.specs.Levels.{is_other, tag_length}
use Rattle.ccm.specs.Operations.{sealed_by, opened_by, Split, SealRun, seal_refused, seal_passed, encrypt_ccm, decrypt_ccm, split_refused, split_given, split_mic}

-- ---- "a tag .. given by these alone has 16 places; those past its length are given as 0"

-- a MIC has 16 places: the tag, and zeros behind it
pub record InPlaces (tag mic : List ℕ) : Type 0 where
  pub places : length mic ≡ 16
  pub front : take (length tag) mic ≡ tag
  pub zeros : (i : ℕ) → length tag ≤ i → get_or mic i 0 ≡ 0

-- of what sealing and splitting accept, the tag is CCM's and the last bytes; of what they refuse there is none
pub record Given (l : Level) (key nonce a p out s : List ℕ) : Type 0 where
  pub sealed : (encrypt_ccm l key nonce a p out).answer.refusal ≡ 0 → InPlaces (sealed_by (tag_length l) key nonce a p).tag (encrypt_ccm l key nonce a p out).answer.mic
  pub unsealed : ((encrypt_ccm l key nonce a p out).answer.refusal ≡ 0 → ⊥) → InPlaces [] (encrypt_ccm l key nonce a p out).answer.mic
  pub split : (split_mic l s).refusal ≡ 0 → InPlaces (drop (length s - tag_length l) s) (split_mic l s).mic
  pub unsplit : ((split_mic l s).refusal ≡ 0 → ⊥) → InPlaces [] (split_mic l s).mic

abbrev pub TagsGiven : Type 0
TagsGiven = (l : Level) (key nonce a p out s : List ℕ) → Given l key nonce a p out s

-- ---- "and not read"

-- MICs that agree on the tag's length are one to opening
abbrev pub RestNotRead : Type 0
RestNotRead =
    (l : Level) (key nonce a c mic mic' out : List ℕ) → take (tag_length l) mic ≡ take (tag_length l) mic'
    → decrypt_ccm l key nonce a c mic out ≡ decrypt_ccm l key nonce a c mic' out

-- ---- "29, before all .. if the level is another"

pub record AllBy29 (l : Level) (key nonce a x mic out : List ℕ) : Type 0 where
  pub sealing : encrypt_ccm l key nonce a x out ≡ seal_refused 29 out
  pub opening : decrypt_ccm l key nonce a x mic out ≡ wrote_nothing 29 out
  pub splitting : split_mic l x ≡ split_refused 29

abbrev pub OtherLevel : Type 0
OtherLevel = (l : Level) (key nonce a x mic out : List ℕ) → is_other l ≡ true → AllBy29 l key nonce a x mic out

-- and 29 is answered for no level of the three
pub record NoneBy29 (l : Level) (key nonce a x mic out : List ℕ) : Type 0 where
  pub sealing : (encrypt_ccm l key nonce a x out).answer.refusal ≡ 29 → ⊥
  pub opening : (decrypt_ccm l key nonce a x mic out).answer.refusal ≡ 29 → ⊥
  pub splitting : (split_mic l x).refusal ≡ 29 → ⊥

abbrev pub OnlyOther : Type 0
OnlyOther = (l : Level) (key nonce a x mic out : List ℕ) → is_other l ≡ false → NoneBy29 l key nonce a x mic out

-- ---- "level 5 .. answers as before"

-- the operations as they were without a level, with a tag of 4 bytes and the lists without 29; only the MIC has 16 places now
abbrev pub former_number : ℕ → ℕ → ℕ → ℕ
former_number a n room = first_of (on 1 (ltb 127 a) ∷ on 1 (ltb 127 n) ∷ on 18 (ltb room n) ∷ [])

unfoldable pub encrypt_formerly : List ℕ → List ℕ → List ℕ → List ℕ → List ℕ → SealRun
encrypt_formerly key nonce a p out =
    unless (former_number (length a) (length p) (length out)) (seal_passed (sealed_by 4 key nonce a p) out)
    (seal_refused (former_number (length a) (length p) (length out)) out)

unfoldable pub decrypt_formerly : List ℕ → List ℕ → List ℕ → List ℕ → List ℕ → List ℕ → Run
decrypt_formerly key nonce a c mic out =
    written (first_of (by (former_number (length a) (length c) (length out)) ∷ on 19 (not (opened_by 4 key nonce a c (take 4 mic)).valid) ∷ []))
    (opened_by 4 key nonce a c (take 4 mic)).payload out

unfoldable pub split_formerly : List ℕ → Split
split_formerly s = cond (ltb (length s) 4) (split_refused 16) (split_given 4 s)

-- at level 5 they are these
pub record Former (key nonce a x mic out : List ℕ) : Type 0 where
  pub sealing : encrypt_ccm Level.EncMic32 key nonce a x out ≡ encrypt_formerly key nonce a x out
  pub opening : decrypt_ccm Level.EncMic32 key nonce a x mic out ≡ decrypt_formerly key nonce a x mic out
  pub splitting : split_mic Level.EncMic32 x ≡ split_formerly x

abbrev pub LevelFive : Type 0
LevelFive = (key nonce a x mic out : List ℕ) → Former key nonce a x mic out
