-- `types::Nwk::deserialize` meets its contract: below two bytes nothing, else what the front gives. Assumes nothing.
use mathlib.Core.Path.{refl}
use borrow.Author.Tests.{lt-ltb, le-ltb}
use Rattle.octets.proofs.Conversions.{from_front}
use Rattle.types.specs.Addresses.{read_nwk}
use Rattle.types.proofs.Nwk.deserialize.Goals as goal

pub returns-in_err-first : goal.returns-in_err-first
unfolding read_nwk
returns-in_err-first c = rw (lt-ltb _ _ c.in_err-first.ensures.cases) c.from_residual.ensures

pub returns : goal.returns
unfolding read_nwk
returns c =
    let h = c.in_ok-first.ensures.cases in
    rw (le-ltb _ _ h.enough, c.from_le_bytes.ensures, h.same, from_front _ h.enough) refl
