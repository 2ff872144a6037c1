-- `HeaderBytes::relays` meets its contract: what stands at each place of the array makes it the list of the definition. Assumes nothing.
use Rattle.std.proofs.Common.{◌≡◌, refl, sym, ◌∙◌, ℕ, zero, suc, ◌<◌, List, length, get_or, replicate, arith}
use borrow.Author.Tests.{lt-ltb, le-ltb}
use lib.Seq.{take_all}
use native.Mathlib.Decide.{dec_lt}
use Rattle.octets.specs.Strings.{tab}
use Rattle.octets.proofs.Strings.{tab_ext, tab_get_or}
use Rattle.types.specs.Addresses.{no_nwk}
use Rattle.header.specs.Reading.{relays_of}
use Rattle.header.proofs.nwk.HeaderBytes.relays.Goals as goal

-- a list that has n entries, each given by its index
by_entries : {A : Type 0} (f : ℕ → A) (s : List A) (d : A) (n : ℕ) → length s ≡ n → ((k : ℕ) → k < n → get_or s k d ≡ f k) → s ≡ tab f n
by_entries f s d n size each = sym (tab_get_or s d n (omega arith) ∙ take_all n s (omega arith)) ∙ tab_ext _ f n each

all_blank : {A : Type 0} (d : A) (n k : ℕ) → get_or (replicate n d) k d ≡ d
all_blank d zero k = refl
all_blank d (suc n) zero = refl
all_blank d (suc n) (suc k) = all_blank d n k

pub loop-i-init : goal.loop-i-init
loop-i-init c = (refl, λ k h. absurd (omega arith), λ k h. all_blank no_nwk 54 k)

pub returns : goal.returns
unfolding relays_of
returns c =
    let l = c.loop-i in
    let first = c.route_at-first.ensures.0 in
    rw (← c.relays_announced-announced.ensures.0, ← first)
    (by_entries _ l.relays no_nwk 54 l.invariant.0 (λ k h.
    elim (dec_lt k c.relays_announced-announced.result) [
      | yes b ↦ rw (lt-ltb k c.relays_announced-announced.result b) (l.invariant.1 k (omega arith))
      | no b ↦ rw (le-ltb k c.relays_announced-announced.result (omega arith)) (l.invariant.2 k (omega arith))
    ]))
