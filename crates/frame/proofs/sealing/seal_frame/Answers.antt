-- `seal_frame` meets its contract: nonce and authenticated bytes are those of the definition, and the parts stand one behind the other.
-- Assumes nothing.
use mathlib.Core.Path.{ap, ◌∙◌}
use Prim.Native.Nat.{ℕ}
use lib.ListN.{take}
use Rattle.frame.proofs.Answers.{sealed_done}
use Rattle.frame.proofs.sealing.seal_frame.Goals as goal

pub returns : goal.returns
returns c =
    let auth = c.authenticated-auth in
    let taken = ap (λ (n : ℕ). take n auth.result) c.size-start.ensures.0 ∙ auth.ensures in
    sealed_done _ _ _ _ _ _ _ _ _ _ _ _ _ _ c.size-header.ensures.0 c.size-start.ensures.0 c.at_level.ensures
    c.nonce.ensures taken c.put.ensures c.put-2.ensures c.put_sealed.ensures
