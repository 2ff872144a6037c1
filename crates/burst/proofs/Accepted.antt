-- What it means that a burst is accepted: none of the four conditions holds. Then each frame lies within the bytes lent, and each
-- part within the output.
-- Assumes nothing.
use mathlib.Core.Path.{◌≡◌, ◌∙◌}
use mathlib.Core.List.{List}
use Prim.Native.Nat.{ℕ, ◌*◌, ◌≤◌, ◌<◌}
use native.Mathlib.Omega.{arith}
use lib.ListN.{length}
use borrow.Author.Tests.{ltb-false, eqb-true, not-false}
use Rattle.octets.proofs.Conditions.{none}
use Rattle.types.specs.declared.level.Level.{Level}
use Rattle.frame.proofs.Opened.{open_length}
use Rattle.burst.specs.Burst.{total, frame_at, part_at, alone, burst_refusal}
use Rattle.burst.proofs.Parts.{length_part}

pub record Ready (ns : List ℕ) (bytes room places : ℕ) : Type 0 where
  pub few : length ns ≤ 16
  pub sum : total ns ≡ bytes
  pub fits : 108 * length ns ≤ room
  pub listed : length ns ≤ places

pub ready : (ns : List ℕ) (bytes room places : ℕ) → burst_refusal ns bytes room places ≡ 0 → Ready ns bytes room places
unfolding burst_refusal
ready ns bytes room places e =
    let n = none _ e in
    record {
      few = ltb-false 16 (length ns) n.0;
      sum = eqb-true (total ns) bytes (not-false _ n.1.0);
      fits = ltb-false room (108 * length ns) n.1.1.0;
      listed = ltb-false places (length ns) n.1.1.1.0;
    }

-- a part has 108 bytes after its frame is opened
pub alone_size : (level : Level) (ciph : List ℕ → List ℕ) (fs ns o : List ℕ) → 108 * length ns ≤ length o
    → (k : ℕ) → k < length ns → length (alone level ciph fs ns o k).out ≡ 108
unfolding alone
alone_size level ciph fs ns o fits k h = open_length level ciph (frame_at fs ns k) (part_at o k) ∙ length_part o k (omega arith)
