-- Addresses: reading undoes writing and writing undoes reading, and display order twice is wire order.
-- Each is a law of byte strings at its length.
-- Assumes nothing.
use Rattle.std.specs.Prelude.{Some, MatchOption, reverse}
use mathlib.Core.Path.{◌≡◌, refl, sym, ap, ◌∙◌}
use mathlib.Core.List.{List, ◌++◌}
use Prim.Native.Nat.{ℕ, ◌-◌, ◌^◌, ◌≤◌, ◌<◌}
use native.Mathlib.Omega.{arith}
use borrow.Author.Tests.{le-ltb}
use lib.ListN.{length, get_or, take, length-append}
use lib.Seq.{take_all}
use Rattle.std.proofs.lemmas.List.{get_or-reverse, length-reverse}
use Rattle.octets.specs.Strings.{Below}
use Rattle.octets.specs.Numbers.{le}
use Rattle.octets.proofs.Strings.{get_or_tab, tab_ext, tab_get_or}
use Rattle.octets.proofs.Numbers.{length_le, le_at_le, le_le_at}
use Rattle.types.specs.Addresses.{nwk, pan_id, eui64, read_nwk, read_pan_id, read_eui64, reversed}

-- a written number and what is behind it are long enough to read
enough : (n x : ℕ) (rest : List ℕ) → n ≤ length (le n x ++ rest)
enough n x rest = simp (length-append, length_le) (omega arith)

pub read_nwk_written : (x : ℕ) (rest : List ℕ) → x < 256 ^ 2 → read_nwk (le 2 x ++ rest) ≡ Some (nwk x, 2)
unfolding read_nwk
read_nwk_written x rest h = rw (le-ltb _ _ (enough 2 x rest), le_at_le 2 x rest h) refl

pub written_read_nwk : (s : List ℕ) → Below 256 s → 2 ≤ length s → MatchOption (read_nwk s) ⊥ (λ (a, _). le 2 a.0 ≡ take 2 s)
unfolding read_nwk
written_read_nwk s b h = rw (le-ltb _ _ h) (le_le_at 2 s 0 b h)

pub read_pan_id_written : (x : ℕ) (rest : List ℕ) → x < 256 ^ 2 → read_pan_id (le 2 x ++ rest) ≡ Some (pan_id x, 2)
unfolding read_pan_id
read_pan_id_written x rest h = rw (le-ltb _ _ (enough 2 x rest), le_at_le 2 x rest h) refl

pub written_read_pan_id : (s : List ℕ) → Below 256 s → 2 ≤ length s → MatchOption (read_pan_id s) ⊥ (λ (a, _). le 2 a.0 ≡ take 2 s)
unfolding read_pan_id
written_read_pan_id s b h = rw (le-ltb _ _ h) (le_le_at 2 s 0 b h)

pub read_eui64_written : (s rest : List ℕ) → length s ≡ 8 → read_eui64 (s ++ rest) ≡ Some (eui64 s, 8)
unfolding read_eui64
read_eui64_written s rest e =
    let l : 8 ≤ length (s ++ rest) = simp (length-append) (omega arith) in
    let t : take 8 (s ++ rest) ≡ s = lib.Seq.take_at s rest 8 e in
    rw (le-ltb _ _ l, t) refl

pub written_read_eui64 : (s : List ℕ) → 8 ≤ length s → MatchOption (read_eui64 s) ⊥ (λ (a, _). a.0 ≡ take 8 s)
unfolding read_eui64
written_read_eui64 s h = rw (le-ltb _ _ h) refl

-- the library's order of eight bytes the other way round
pub reverse_eight : (s : List ℕ) → length s ≡ 8 → reverse s ≡ reversed s
unfolding reversed
reverse_eight s e =
    sym (take_all 8 (reverse s) (omega (arith, length-reverse s))) ∙ sym (tab_get_or (reverse s) 0 8 (omega (arith, length-reverse s)))
    ∙ tab_ext _ (λ (i : ℕ). get_or s (7 - i) 0) 8 (λ i l. get_or-reverse s i 0 (omega arith) ∙ ap (λ (k : ℕ). get_or s k 0) (omega arith))

-- display order, and back to wire order
pub reversed_twice : (s : List ℕ) → length s ≡ 8 → reversed (reversed s) ≡ s
unfolding reversed
reversed_twice s e =
    tab_ext _ (λ (i : ℕ). get_or s i 0) 8
    (λ i l. get_or_tab (λ (k : ℕ). get_or s (7 - k) 0) 8 (7 - i) 0 (omega arith) ∙ ap (λ (k : ℕ). get_or s k 0) (omega arith))
    ∙ tab_get_or s 0 8 (omega arith) ∙ take_all 8 s (omega arith)
