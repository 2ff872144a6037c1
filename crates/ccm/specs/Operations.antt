-- The operations (document 01, CCM and the refusal list; document 02, 9): each gives its whole answer and what the lent output holds
-- after, refusals included. The MIC is the tag of the network's level l, in 16 places. A refusal is its number, with length 0, zeros for
-- a MIC and the output as it was.
-- Assumes nothing.
use Rattle.std.specs.Prelude.{Bool, cond, not, List, [], ◌∷◌, ℕ, ◌-◌, ltb, length, take, drop, replicate, Result, Ok, Err}
use Rattle.octets.specs.declared.refusals.Refusal.{Refusal}
use Rattle.octets.specs.Strings.{over}
use Rattle.octets.specs.Refusals.{unless, on, by, first_of, number_of}
use Rattle.octets.specs.Writing.{Run, written}
use Rattle.types.specs.declared.level.Level.{Level}
use Rattle.types.specs.Levels.{is_other, tag_length}
use Rattle.aes.specs.KeyExpansion.{key_expansion}
use Rattle.aes.specs.Cipher.{cipher, aes128}
use Rattle.ccm.specs.Generation.{Generated, generation_encryption}
use Rattle.ccm.specs.Verification.{Verified, decryption_verification}

-- the 16 places of a MIC, and a tag at their front: those past its length are 0
abbrev pub blank_mic : List ℕ
blank_mic = replicate 16 0

unfoldable pub in_places : List ℕ → List ℕ
in_places tag = over blank_mic 0 tag

-- CIPH_K of a key, and of any eleven round keys: what the crates above hand to the two processes
abbrev pub ciph_of : List ℕ → List ℕ → List ℕ
ciph_of key = aes128 key

abbrev pub ciph_under : List (List (List ℕ)) → List ℕ → List ℕ
ciph_under w = cipher w

-- the two processes under a key
abbrev pub sealed_by : ℕ → List ℕ → List ℕ → List ℕ → List ℕ → Generated
sealed_by t key nonce a p = generation_encryption t (ciph_of key) nonce a p

abbrev pub opened_by : ℕ → List ℕ → List ℕ → List ℕ → List ℕ → List ℕ → Verified
opened_by t key nonce a c mic = decryption_verification t (ciph_of key) nonce a c mic

-- the second one under round keys, whatever they are
abbrev pub opened_under : ℕ → List (List (List ℕ)) → List ℕ → List ℕ → List ℕ → List ℕ → Verified
opened_under t w nonce a c mic = decryption_verification t (ciph_under w) nonce a c mic

-- the round keys of a key, for a caller that opens more than once under it
unfoldable pub expanded : List ℕ → List (List (List ℕ))
expanded key = key_expansion key

-- ---- encrypt_ccm

-- 29 for another level; 1 for the authenticated data, a bytes, and for the payload, p bytes; 18 for the output's room
unfoldable pub seal_refusal : Level → ℕ → ℕ → ℕ → ℕ
seal_refusal l a p room = first_of (on 29 (is_other l) ∷ on 1 (ltb 127 a) ∷ on 1 (ltb 127 p) ∷ on 18 (ltb room p) ∷ [])

-- what sealing gives: the refusal's number or 0, how many bytes of the output are the ciphertext, and the MIC beside it
pub record Sealed : Type 0 where
  pub refusal : ℕ
  pub length : ℕ
  pub mic : List ℕ

-- the same, of the code's answer
abbrev pub told_sealed : Result (ℕ × List ℕ) Refusal → Sealed
told_sealed (Ok a) = record { refusal = 0; length = a.0; mic = a.1 }
told_sealed (Err r) = record { refusal = number_of r; length = 0; mic = blank_mic }

-- a whole run of encrypt_ccm
pub record SealRun : Type 0 where
  pub answer : Sealed
  pub out : List ℕ

-- the run that is refused by the number n
abbrev pub seal_refused : ℕ → List ℕ → SealRun
seal_refused n out = record { answer = record { refusal = n; length = 0; mic = blank_mic }; out = out }

-- the ciphertext, as long as the payload, stands at the front of the output
abbrev pub seal_passed : Generated → List ℕ → SealRun
seal_passed g out =
    record { answer = record { refusal = 0; length = length g.ciphertext; mic = in_places g.tag }; out = over out 0 g.ciphertext }

-- the level, the key, the nonce, the authenticated data a, the payload p, and what the output holds before
unfoldable pub encrypt_ccm : Level → List ℕ → List ℕ → List ℕ → List ℕ → List ℕ → SealRun
encrypt_ccm l key nonce a p out =
    unless (seal_refusal l (length a) (length p) (length out)) (seal_passed (sealed_by (tag_length l) key nonce a p) out)
    (seal_refused (seal_refusal l (length a) (length p) (length out)) out)

-- ---- decrypt_ccm

-- the same for the ciphertext, c bytes; then 19 where the MIC is not the one computed
unfoldable pub open_refusal : Level → ℕ → ℕ → ℕ → Bool → ℕ
open_refusal l a c room valid = first_of (by (seal_refusal l a c room) ∷ on 19 (not valid) ∷ [])

-- what the output holds: the payload at its front if the MIC is valid, else what it held
unfoldable pub given_if : Bool → Verified → List ℕ → List ℕ
given_if valid v out = cond valid (over out 0 v.payload) out

-- what CCM makes of the ciphertext c and the MIC in 16 places, of which as many are read as the tag has bytes
abbrev pub opened_at : Level → List ℕ → List ℕ → List ℕ → List ℕ → List ℕ → Verified
opened_at l key nonce a c mic = opened_by (tag_length l) key nonce a c (take (tag_length l) mic)

-- the level, the key, the nonce, the authenticated data a, the ciphertext c with its MIC, and what the output holds before
unfoldable pub decrypt_ccm : Level → List ℕ → List ℕ → List ℕ → List ℕ → List ℕ → List ℕ → Run
decrypt_ccm l key nonce a c mic out =
    written (open_refusal l (length a) (length c) (length out) (opened_at l key nonce a c mic).valid) (opened_at l key nonce a c mic).payload out

-- ---- split_mic

-- 29 for another level; 16 for fewer bytes than the tag
unfoldable pub split_refusal : Level → ℕ → ℕ
split_refusal l n = first_of (on 29 (is_other l) ∷ on 16 (ltb n (tag_length l)) ∷ [])

-- what splitting gives: the refusal's number or 0, the length of the ciphertext in front, and the MIC behind it
pub record Split : Type 0 where
  pub refusal : ℕ
  pub length : ℕ
  pub mic : List ℕ

-- the same, of the code's answer
abbrev pub told_split : Result (ℕ × List ℕ) Refusal → Split
told_split (Ok a) = record { refusal = 0; length = a.0; mic = a.1 }
told_split (Err r) = record { refusal = number_of r; length = 0; mic = blank_mic }

abbrev pub split_refused : ℕ → Split
split_refused n = record { refusal = n; length = 0; mic = blank_mic }

-- the length of the ciphertext in front, and the MIC, the last bytes
abbrev pub split_given : ℕ → List ℕ → Split
split_given t s = record { refusal = 0; length = length s - t; mic = in_places (drop (length s - t) s) }

unfoldable pub split_mic : Level → List ℕ → Split
split_mic l s = unless (split_refusal l (length s)) (split_given (tag_length l) s) (split_refused (split_refusal l (length s)))
