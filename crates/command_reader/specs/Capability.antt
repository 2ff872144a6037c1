-- The capability information of a byte (3.4.6): eight bits, lowest first.
-- Assumes nothing.
use Rattle.std.specs.Prelude.{ℕ, [], ◌∷◌}
use Rattle.octets.specs.Fields.{fields}
use Rattle.commands.specs.Commands.{capability_of}
use Rattle.commands.specs.declared.NwkRejoinCapabilityInformation.{NwkRejoinCapabilityInformation}

unfoldable pub capability_of_byte : ℕ → NwkRejoinCapabilityInformation
capability_of_byte b = capability_of (fields (1 ∷ 1 ∷ 1 ∷ 1 ∷ 1 ∷ 1 ∷ 1 ∷ 1 ∷ []) b)
