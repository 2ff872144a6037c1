-- The round keys of a key: under them the cipher is that of the key, and so is opening.
-- Assumes nothing.
use mathlib.Core.Path.{◌≡◌, refl, ap, fun_ext}
use mathlib.Core.List.{List}
use Prim.Native.Nat.{ℕ}
use Rattle.aes.proofs.Block.{cipher_aes128}
use Rattle.ccm.specs.Verification.{decryption_verification}
use Rattle.ccm.specs.Operations.{ciph_of, ciph_under, opened_by, opened_under, expanded}

-- the cipher under expanded round keys is AES-128
pub cipher_is : (key : List ℕ) (w : List (List (List ℕ))) → w ≡ expanded key → ciph_under w ≡ ciph_of key
unfolding expanded
cipher_is key w e = fun_ext (λ b. cipher_aes128 key b e refl)

-- opening under the round keys of a key is opening under the key
pub opened_under_lem : (t : ℕ) (key : List ℕ) (w : List (List (List ℕ))) (nonce a c mic : List ℕ) → w ≡ expanded key
    → opened_under t w nonce a c mic ≡ opened_by t key nonce a c mic
opened_under_lem t key w nonce a c mic e = ap (λ (f : List ℕ → List ℕ). decryption_verification t f nonce a c mic) (cipher_is key w e)
