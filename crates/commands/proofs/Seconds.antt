-- A timeout code's seconds at code 6, where the old gateway's table held 32 minutes and Zigbee has 64, and past the last code.
-- By computation.
-- Assumes nothing.
use mathlib.Core.Path.{◌≡◌, refl}
use Rattle.commands.specs.Writing.{seconds, timeout_seconds}

-- 64 minutes
pub code_6 : timeout_seconds 6 ≡ record { refusal = 0; seconds = 3840 }
unfolding timeout_seconds seconds
code_6 = refl

pub code_15 : timeout_seconds 15 ≡ record { refusal = 13; seconds = 0 }
unfolding timeout_seconds
code_15 = refl
