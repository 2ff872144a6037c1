-- Bit fields of a word, lowest first: a word is read and put together by the list of its fields' sizes in bits.
-- Assumes nothing.
use Rattle.std.specs.Prelude.{ℕ, ◌+◌, ◌*◌, ◌/◌, ◌%◌, ◌^◌, ◌<◌, Bool, cond, List, [], ◌∷◌}

-- a bit as a number
abbrev pub bit : Bool → ℕ
bit b = cond b 1 0

-- the fields of the word w
unfoldable pub fields : List ℕ → ℕ → List ℕ
fields [] w = []
fields (k ∷ ks) w = w % 2 ^ k ∷ fields ks (w / 2 ^ k)

-- the word whose fields are vs
unfoldable pub packed : List ℕ → List ℕ → ℕ
packed [] vs = 0
packed (k ∷ ks) [] = 0
packed (k ∷ ks) (v ∷ vs) = v + packed ks vs * 2 ^ k

-- how many bits the fields have together
unfoldable pub bits_of : List ℕ → ℕ
bits_of [] = 0
bits_of (k ∷ ks) = k + bits_of ks

-- each value has a field and fits it
abbrev pub Held : List ℕ → List ℕ → Type 0
Held [] [] = Unit {0}
Held [] (v ∷ vs) = ⊥
Held (k ∷ ks) [] = ⊥
Held (k ∷ ks) (v ∷ vs) = (v < 2 ^ k) × Held ks vs
