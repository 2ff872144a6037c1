-- `octets::copy_at` meets its contract: the part of the output is the source afterwards. Assumes nothing.
use mathlib.Core.Path.{◌≡◌, ap, ◌∙◌}
use mathlib.Core.List.{◌++◌}
use Prim.Native.Nat.{ℕ, ◌+◌, ◌-◌}
use native.Mathlib.Omega.{arith}
use lib.ListN.{length, take, drop}
use lib.Seq.{drop-drop}
use Rattle.octets.specs.Strings.{over}
use Rattle.octets.proofs.copy_at.Goals as goal

pub returns : goal.returns
unfolding over
returns c =
    let a = c.args in
    let src = a.src.now in
    let o = a.out.now in
    let behind : drop (a.i + length src - a.i) (drop a.i o) ≡ drop (a.i + length src) o =
    ap (λ (n : ℕ). drop n (drop a.i o)) (omega arith) ∙ drop-drop (length src) a.i o in
    λ k. take a.i o ++ (c.copy_from_slice.ensures.after k ++ behind k)
