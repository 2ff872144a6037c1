-- The capability information as a byte (3.4.6), and what writing link status entries asks of their costs (3.4.8).
-- Assumes nothing.
use Rattle.std.specs.Prelude.{ℕ, ◌≤◌, ◌<◌, List, [], ◌∷◌, get_or}
use Rattle.octets.specs.Fields.{packed}
use Rattle.commands.specs.Commands.{capability_values, no_link}
use Rattle.commands.specs.declared.{NwkRejoinCapabilityInformation.NwkRejoinCapabilityInformation, NwkLinkStatus.NwkLinkStatus}

unfoldable pub capability_byte : NwkRejoinCapabilityInformation → ℕ
capability_byte c = packed (1 ∷ 1 ∷ 1 ∷ 1 ∷ 1 ∷ 1 ∷ 1 ∷ 1 ∷ []) (capability_values c)

-- the first n entries have costs of three bits
abbrev pub LowCosts : List NwkLinkStatus → ℕ → Type 0
LowCosts links n = (k : ℕ) → k < n → ((get_or links k no_link).incoming_cost ≤ 7) × ((get_or links k no_link).outgoing_cost ≤ 7)
