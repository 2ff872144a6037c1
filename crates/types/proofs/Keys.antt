-- Keys: reading undoes writing, and a key as two numbers is the key again. Each is a law of byte strings at its length.
-- Assumes nothing.
use Rattle.std.specs.Prelude.{Some}
use mathlib.Core.Path.{◌≡◌, refl, sym, ap, ◌∙◌}
use mathlib.Core.List.{List, [], ◌++◌, append-nil}
use Prim.Native.Nat.{ℕ, ◌+◌, ◌^◌, ◌<◌}
use native.Mathlib.Omega.{arith}
use native.Mathlib.Nat.{add-zero}
use borrow.Author.Tests.{eq-eqb}
use lib.ListN.{length, take, drop, take-append-drop, length-drop}
use lib.Seq.{take_all}
use Rattle.octets.specs.Strings.{Below}
use Rattle.octets.specs.Numbers.{le, le_at}
use Rattle.octets.proofs.Numbers.{length_le, le_at_le, le_le_at, le_at_behind}
use Rattle.types.specs.Keys.{key, read_key, key_bytes}

-- the bytes of a key read as that key
pub read_key_written : (s : List ℕ) → length s ≡ 16 → read_key s ≡ Some (key s)
unfolding read_key
read_key_written s e = rw (eq-eqb _ _ e) refl

-- the two numbers of a key made of two numbers
pub key_first : (first second : ℕ) → first < 256 ^ 8 → le_at 8 (key_bytes first second) 0 ≡ first
unfolding key_bytes
key_first first second h = le_at_le 8 first (le 8 second) h

pub key_second : (first second : ℕ) → second < 256 ^ 8 → le_at 8 (key_bytes first second) 8 ≡ second
unfolding key_bytes
key_second first second h =
    ap (λ (s : List ℕ). le_at 8 (le 8 first ++ s) 8) (sym (append-nil (le 8 second)))
    ∙ ap (λ (n : ℕ). le_at 8 (le 8 first ++ (le 8 second ++ [])) n) (sym (add-zero 8) ∙ ap (λ (n : ℕ). n + 0) (sym (length_le 8 first)))
    ∙ le_at_behind 8 (le 8 first) (le 8 second ++ []) 0
    ∙ le_at_le 8 second [] h

-- the key made of a key's two numbers
pub key_bytes_halves : (s : List ℕ) → Below 256 s → length s ≡ 16 → key_bytes (le_at 8 s 0) (le_at 8 s 8) ≡ s
unfolding key_bytes
key_bytes_halves s b e =
    let first : le 8 (le_at 8 s 0) ≡ take 8 s = le_le_at 8 s 0 b (omega arith) in
    let second : le 8 (le_at 8 s 8) ≡ drop 8 s = le_le_at 8 s 8 b (omega arith) ∙ take_all 8 (drop 8 s) (simp length-drop (omega arith)) in
    rw (first, second) (take-append-drop 8 s)
