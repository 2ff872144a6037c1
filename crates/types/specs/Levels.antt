-- The network's security level (document 02, 9): 5, 6 or 7, with a tag of 4, 8 or 16 bytes, or another.
-- Assumes nothing.
use Rattle.std.specs.Prelude.{ℕ, Bool, true, false, cond, eqb}
use Rattle.types.specs.declared.level.Level.{Level}

-- the level of a number
abbrev pub network_level : ℕ → Level
network_level n = cond (eqb n 5) Level.EncMic32 (cond (eqb n 6) Level.EncMic64 (cond (eqb n 7) Level.EncMic128 Level.Other))

-- it is another (refusal 29)
abbrev pub is_other : Level → Bool
is_other Level.EncMic32 = false
is_other Level.EncMic64 = false
is_other Level.EncMic128 = false
is_other Level.Other = true

-- the length of a tag
unfoldable pub tag_length : Level → ℕ
tag_length Level.EncMic32 = 4
tag_length Level.EncMic64 = 8
tag_length Level.EncMic128 = 16
tag_length Level.Other = 0
