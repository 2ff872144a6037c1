-- A table of cases: every row holds.
-- Assumes nothing.
use Rattle.std.specs.Prelude.{List, [], ◌∷◌}

abbrev pub All : {A : Type 0} → (A → Type 0) → List A → Type 0
All Holds [] = Unit {0}
All Holds (c ∷ cs) = Holds c × All Holds cs
