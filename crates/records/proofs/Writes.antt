-- Four parts of an output written one right behind the other are one part.
-- Assumes nothing.
use mathlib.Core.Path.{◌≡◌, refl, ap, ◌∙◌}
use mathlib.Core.List.{List, ◌++◌, append_assoc}
use Prim.Native.Nat.{ℕ, ◌+◌, ◌≤◌}
use native.Mathlib.Nat.{add_assoc}
use lib.ListN.{length, length-append}
use Rattle.octets.specs.Strings.{over}
use Rattle.octets.proofs.Strings.{over_then, over_three}

pub over_four : {A : Type 0} (o o₁ o₂ o₃ o₄ : List A) (i j k l : ℕ) (xs ys zs ws : List A) → i ≤ length o
    → j ≡ i + length xs → k ≡ j + length ys → l ≡ k + length zs
    → o₁ ≡ over o i xs → o₂ ≡ over o₁ j ys → o₃ ≡ over o₂ k zs → o₄ ≡ over o₃ l ws
    → o₄ ≡ over o i (xs ++ (ys ++ (zs ++ ws)))
over_four o o₁ o₂ o₃ o₄ i j k l xs ys zs ws h e e' e'' p q r s =
    over_then o o₃ o₄ i l (xs ++ (ys ++ zs)) ws h
    (rw (e'', e', e, length-append xs (ys ++ zs), length-append ys zs, add_assoc, add_assoc) refl)
    (over_three o o₁ o₂ o₃ i j k xs ys zs h e e' p q r) s
    ∙ ap (over o i) (append_assoc xs (ys ++ zs) ws ∙ ap (λ (t : List _). xs ++ t) (append_assoc ys zs ws))
