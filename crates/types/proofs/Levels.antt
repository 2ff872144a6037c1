-- The bounds of a tag: at least 4 bytes where the level is not another, and at most 16.
-- Assumes nothing.
use mathlib.Core.Path.{◌≡◌, refl}
use mathlib.Core.Bool.{false, true≢false}
use Prim.Native.Nat.{◌≤◌}
use native.Mathlib.Omega.{arith}
use Rattle.types.specs.declared.level.Level.{Level}
use Rattle.types.specs.Levels.{is_other, tag_length}

pub tag_least : (l : Level) → is_other l ≡ false → 4 ≤ tag_length l
unfolding tag_length
tag_least Level.EncMic32 e = omega arith
tag_least Level.EncMic64 e = omega arith
tag_least Level.EncMic128 e = omega arith
tag_least Level.Other e = absurd (true≢false e)

-- and only its tag
pub tag_known : (l : Level) → 2 ≤ tag_length l → is_other l ≡ false
unfolding tag_length
tag_known Level.EncMic32 h = refl
tag_known Level.EncMic64 h = refl
tag_known Level.EncMic128 h = refl
tag_known Level.Other h = absurd (omega arith)

pub tag_most : (l : Level) → tag_length l ≤ 16
unfolding tag_length
tag_most Level.EncMic32 = omega arith
tag_most Level.EncMic64 = omega arith
tag_most Level.EncMic128 = omega arith
tag_most Level.Other = omega arith
