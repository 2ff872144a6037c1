-- The last frame counter: before it a sender stops, and a receiver refuses it (Zigbee Specification 4.3.1.1 and 4.3.1.2).
-- Assumes nothing.
use Rattle.std.specs.Prelude.{ℕ}

abbrev pub last_counter : ℕ
last_counter = 0xFFFFFFFF
