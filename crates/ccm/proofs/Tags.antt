-- The tag by its bytes: the first t bytes of a block, masked, in the 16 places of a MIC; and only as many are compared.
-- Assumes nothing.
use mathlib.Core.Path.{◌≡◌, refl, sym, ap, ◌∙◌}
use mathlib.Core.Bool.{Bool, true, false, cond, ◌&&◌}
use mathlib.Core.List.{List}
use Prim.Native.Nat.{ℕ, zero, suc, ◌+◌}
use native.Mathlib.Omega.{arith}
use native.Mathlib.Numerals.{add-one}
use lib.Dec.{eqb}
use lib.ListN.{length, get_or, take}
use lib.Seq.{get_or-take, take-take, take_all}
use Rattle.octets.specs.Strings.{over}
use Rattle.octets.proofs.Strings.{take_over}
use Rattle.ccm.specs.Verification.{same_bytes}
use Rattle.ccm.specs.Operations.{blank_mic, in_places}

and_cond : (s t : Bool) → (s && t) ≡ cond t s false
and_cond true true = refl
and_cond true false = refl
and_cond false true = refl
and_cond false false = refl

pub same_next : (i : ℕ) (u v : List ℕ) → (same_bytes i u v && eqb (get_or u i 0) (get_or v i 0)) ≡ same_bytes (i + 1) u v
unfolding same_bytes
same_next i u v = and_cond (same_bytes i u v) (eqb (get_or u i 0) (get_or v i 0)) ∙ rw add-one refl

-- only the first n bytes count
pub same_front : (n : ℕ) (u v u' v' : List ℕ) → take n u ≡ take n u' → take n v ≡ take n v' → same_bytes n u v ≡ same_bytes n u' v'
unfolding same_bytes
same_front zero u v u' v' eu ev = refl
same_front (suc n) u v u' v' eu ev =
    let at : (w w' : List ℕ) → take (suc n) w ≡ take (suc n) w' → get_or w n 0 ≡ get_or w' n 0 =
    λ w w' e. sym (get_or-take (suc n) w n 0 (omega arith)) ∙ ap (λ (x : List ℕ). get_or x n 0) e ∙ get_or-take (suc n) w' n 0 (omega arith) in
    let less : (w w' : List ℕ) → take (suc n) w ≡ take (suc n) w' → take n w ≡ take n w' =
    λ w w' e. sym (take-take n (suc n) w (omega arith)) ∙ ap (take n) e ∙ take-take n (suc n) w' (omega arith) in
    (λ i. cond (eqb (at u u' eu i) (at v v' ev i)) (same_front n u v u' v' (less u u' eu) (less v v' ev) i) false)

-- a tag in 16 places is their first bytes
pub front_places : (t : ℕ) (tag : List ℕ) → length tag ≡ t → take t (in_places tag) ≡ tag
unfolding in_places
front_places t tag size = ap (λ (n : ℕ). take n (over blank_mic 0 tag)) (sym size) ∙ take_over blank_mic tag

-- so the tag u in 16 places is compared with the first t bytes of a block
pub same_places : (t : ℕ) (u y : List ℕ) → length u ≡ t → same_bytes t (in_places u) y ≡ same_bytes t u (take t y)
same_places t u y size =
    same_front t (in_places u) y u (take t y) (front_places t u size ∙ sym (take_all t u (omega arith))) (sym (take-take t t y (omega arith)))
