-- `types::Eui64::deserialize` meets its contract: below eight bytes nothing, else what the front gives. Assumes nothing.
use mathlib.Core.Path.{refl}
use borrow.Author.Tests.{lt-ltb, le-ltb}
use Rattle.types.specs.Addresses.{read_eui64}
use Rattle.types.proofs.Eui64.deserialize.Goals as goal

pub returns-in_err-first : goal.returns-in_err-first
unfolding read_eui64
returns-in_err-first c = rw (lt-ltb _ _ c.in_err-first.ensures.cases) c.from_residual.ensures

pub returns : goal.returns
unfolding read_eui64
returns c =
    let h = c.in_ok-first.ensures.cases in
    rw (le-ltb _ _ h.enough, h.same) refl
