-- The address that the nonce used: a value of each claim in specs/NonceIeee.antt. A frame marked sealed has one of the two
-- addresses, so the one that its nonce uses is there.
-- Assumes nothing.
use Rattle.std.specs.Prelude.{Option, Some, None, ℕ}
use mathlib.Core.Path.{◌≡◌, refl, sym, ap, ◌∙◌}
use Rattle.header.specs.declared.{auxiliary.NwkAuxHeader.NwkAuxHeader, nwk.NwkHeader.NwkHeader}
use Rattle.frame.specs.Reading.{read_frame}
use Rattle.frame.specs.Security.{at_level, or_blank, ieee_of, nonce}
use Rattle.frame.specs.Opening.{FrameOpened, verified, open_refused, Run}
use Rattle.frame.specs.SealingLaw.{level_zero, seal_then_open}
use Rattle.frame.specs.NonceIeee.{address_of, SealedGivesAddress, ClearGivesNone, RefusedGivesNone, AddressComesBack}
use Rattle.frame.proofs.Accepted.{ieee_there}
use Rattle.frame.proofs.Opened.{open_refused_lem}
use Rattle.frame.proofs.SealingLaw.{first_half}
use Rattle.frame.proofs.Marks.{clear_accepted, clear_only, marked_level, sealed_accepted, sealed_only}

pub sealed_gives_address : SealedGivesAddress
unfolding verified nonce
sealed_gives_address l key f o m =
    let w = sealed_only l key f o m in
    let run = sealed_accepted l key f o w in
    record {
      address = address_of (read_frame f).header (read_frame f).aux;
      given = ap (λ (r : Run). r.answer.nonce_ieee) run ∙ ieee_there (or_blank (read_frame f).aux).extended_source (read_frame f).header.source_ieee w.ieee;
      rule = ap (λ (r : Run). address_of r.answer.header r.answer.aux) (sym run);
      used = refl;
    }

pub clear_gives_none : ClearGivesNone
clear_gives_none l key f o m = ap (λ (r : Run). r.answer.nonce_ieee) (clear_accepted l key f o (marked_level l key f o m) (clear_only l key f o m)).run

pub refused_gives_none : RefusedGivesNone
unfolding open_refused
refused_gives_none l key f o h = ap (λ (a : FrameOpened). a.nonce_ieee) (open_refused_lem l _ f o _ refl h)

-- the level is no part of it
level_address : (h k : NwkHeader) (a : Option NwkAuxHeader) → h.source_ieee ≡ k.source_ieee → address_of k (level_zero a) ≡ address_of h a
unfolding at_level
level_address h k None e = ap (λ (s : Option ℕ). ieee_of (or_blank None).extended_source s) (sym e)
level_address h k (Some x) e = ap (λ (s : Option ℕ). ieee_of x.extended_source s) (sym e)

pub address_comes_back : AddressComesBack
address_comes_back l key h a p out out₂ fits accepted within =
    let back = first_half l key h a p out out₂ fits accepted within in
    let n = sealed_gives_address l key _ out₂ back.marked in
    let r = (seal_then_open l key h a p out out₂).answer in
    n.given
    ∙ ap Some (n.rule ∙ ap (address_of r.header) back.auxiliary ∙ level_address h r.header a back.header.source_ieee)
