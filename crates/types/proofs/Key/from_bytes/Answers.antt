-- `types::Key::from_bytes` meets its contract: sixteen bytes are the key. Assumes nothing.
use borrow.Author.Tests.{eq-eqb, ne_eqb}
use mathlib.Core.Path.{refl}
use Rattle.types.specs.Keys.{read_key}
use Rattle.types.proofs.Key.from_bytes.Goals as goal

pub returns-in_default : goal.returns-in_default
unfolding read_key
returns-in_default c = rw (ne_eqb _ _ c.in_default.ensures.1) refl

pub returns : goal.returns
unfolding read_key
returns c =
    let h = c.in-Ok.ensures.1 in
    rw (eq-eqb _ _ h.long, h.same) refl
