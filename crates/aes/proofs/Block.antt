-- Laws of the cipher for its callers: a block under expanded round keys is AES-128's, and has sixteen bytes.
-- Assumes nothing.
use mathlib.Core.Path.{◌≡◌, refl}
use mathlib.Core.List.{List}
use Prim.Native.Nat.{ℕ}
use lib.ListN.{length}
use Rattle.aes.specs.State.{four, block_of}
use Rattle.aes.specs.KeyExpansion.{key_expansion}
use Rattle.aes.specs.Cipher.{cipher, aes128}

-- CCM expands a key once, and runs the cipher on many blocks
pub cipher_aes128 : (key b : List ℕ) {w : List (List (List ℕ))} {r : List ℕ} → w ≡ key_expansion key → r ≡ cipher w b → r ≡ aes128 key b
unfolding aes128
cipher_aes128 key b p q = rw (← p) q

pub length_cipher : (w : List (List (List ℕ))) (b : List ℕ) → length (cipher w b) ≡ 16
unfolding cipher block_of four
length_cipher w b = refl
