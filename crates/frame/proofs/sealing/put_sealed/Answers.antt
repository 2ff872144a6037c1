-- `put_sealed` meets its contract: the ciphertext in the part behind the headers, and the MIC behind it. Assumes nothing.
use mathlib.Core.Path.{◌≡◌, sym, ap, ◌∙◌}
use mathlib.Core.List.{List}
use Prim.Native.Nat.{ℕ, ◌+◌}
use native.Mathlib.Omega.{arith}
use lib.ListN.{length, take}
use Rattle.octets.specs.Strings.{over}
use Rattle.octets.proofs.Strings.{over_then, part_over}
use Rattle.types.specs.Levels.{tag_length}
use Rattle.ccm.specs.Operations.{sealed_by, in_places}
use Rattle.ccm.proofs.Opening.{length_ciphertext, length_tag}
use Rattle.ccm.proofs.Tags.{front_places}
use Rattle.frame.proofs.sealing.put_sealed.Goals as goal

-- the first places of the MIC, as many as the tag has bytes, are the tag
taken : (t tag : ℕ) (key nonce auth payload mic : List ℕ) → tag ≡ t → mic ≡ in_places (sealed_by t key nonce auth payload).tag
    → take tag mic ≡ (sealed_by t key nonce auth payload).tag
taken t tag key nonce auth payload mic size same =
    (λ i. take (size i) (same i)) ∙ front_places t _ (length_tag t _ nonce auth payload)

pub returns : goal.returns
returns c =
    let a = c.args in
    let t = tag_length a.level in
    let g = sealed_by t a.key a.nonce a.auth.now a.payload.now in
    over_then a.out.now _ _ a.start (a.start + length a.payload.now) g.ciphertext g.tag (omega arith)
    (ap (λ (n : ℕ). a.start + n) (sym (length_ciphertext t _ a.nonce a.auth.now a.payload.now)))
    (part_over a.out.now _ g.ciphertext a.start (omega arith) c.seal-mic.ensures.buffer)
    (c.copy_at.ensures ∙ ap (over _ (a.start + length a.payload.now)) (taken _ _ _ _ _ _ _ c.tag_length.ensures.0 c.seal-mic.ensures.mic))
