-- The format of a command's body: one description, one way to read it and one way to write it, for all commands. A
-- body is a head and repeated entries, each a list of fields, and some of the head's values count the entries; an
-- optional IEEE address is an entry of eight bytes that is counted by its presence bit.
-- Assumes nothing.
use Rattle.std.specs.Prelude.{ℕ, ◌+◌, ◌*◌, ◌^◌, Bool, true, ◌&&◌, List, [], ◌∷◌, ◌++◌, get_or, drop, ltb}
use Rattle.octets.specs.Strings.{tab}
use Rattle.octets.specs.Numbers.{le, le_at}
use Rattle.octets.specs.Fields.{fields, packed}

-- a part of a byte, so many bits: a value that is kept, or a reserved part that is skipped on reading and written 0
pub data Part : Type 0 where
  keep : ℕ → Part
  skip : ℕ → Part

-- a field: a byte, a number of n bytes with the least significant first, or a byte of parts with the lowest first
pub data Field : Type 0 where
  byte : Field
  number : ℕ → Field
  bits : List Part → Field

-- a body: its head, the places of the head's values that count the entries, and an entry
pub record Format : Type 0 where
  pub head : List Field
  pub counts : List ℕ
  pub entry : List Field

-- the values of a body: those of its head, and those of each entry
pub record Values : Type 0 where
  pub head : List ℕ
  pub entries : List (List ℕ)

-- ---- the parts of a byte

unfoldable pub part_sizes : List Part → List ℕ
part_sizes [] = []
part_sizes (keep k ∷ ps) = k ∷ part_sizes ps
part_sizes (skip k ∷ ps) = k ∷ part_sizes ps

-- how many values the parts keep
unfoldable pub kept_count : List Part → ℕ
kept_count [] = 0
kept_count (keep k ∷ ps) = 1 + kept_count ps
kept_count (skip k ∷ ps) = kept_count ps

-- the values kept, of the values of all parts
unfoldable pub kept : List Part → List ℕ → List ℕ
kept [] ws = []
kept (keep k ∷ ps) ws = get_or ws 0 0 ∷ kept ps (drop 1 ws)
kept (skip k ∷ ps) ws = kept ps (drop 1 ws)

-- the values of all parts, a skipped one 0
unfoldable pub filled : List Part → List ℕ → List ℕ
filled [] vs = []
filled (keep k ∷ ps) vs = get_or vs 0 0 ∷ filled ps (drop 1 vs)
filled (skip k ∷ ps) vs = 0 ∷ filled ps vs

-- each value fits its part
unfoldable pub held_parts : List Part → List ℕ → Bool
held_parts [] vs = true
held_parts (keep k ∷ ps) vs = ltb (get_or vs 0 0) (2 ^ k) && held_parts ps (drop 1 vs)
held_parts (skip k ∷ ps) vs = held_parts ps vs

-- ---- a field

-- how many bytes it has
unfoldable pub size : Field → ℕ
size byte = 1
size (number n) = n
size (bits ps) = 1

-- how many values it has
unfoldable pub width : Field → ℕ
width byte = 1
width (number n) = 1
width (bits ps) = kept_count ps

-- its values in s from place i
unfoldable pub read_field : Field → List ℕ → ℕ → List ℕ
read_field byte s i = get_or s i 0 ∷ []
read_field (number n) s i = le_at n s i ∷ []
read_field (bits ps) s i = kept ps (fields (part_sizes ps) (get_or s i 0))

-- its bytes, of the first values of vs
unfoldable pub write_field : Field → List ℕ → List ℕ
write_field byte vs = get_or vs 0 0 ∷ []
write_field (number n) vs = le n (get_or vs 0 0)
write_field (bits ps) vs = packed (part_sizes ps) (filled ps vs) ∷ []

-- the first values of vs fit it
unfoldable pub held_field : Field → List ℕ → Bool
held_field byte vs = ltb (get_or vs 0 0) 256
held_field (number n) vs = ltb (get_or vs 0 0) (256 ^ n)
held_field (bits ps) vs = held_parts ps vs

-- ---- a list of fields, one behind the other

unfoldable pub sizes : List Field → ℕ
sizes [] = 0
sizes (f ∷ fs) = size f + sizes fs

unfoldable pub widths : List Field → ℕ
widths [] = 0
widths (f ∷ fs) = width f + widths fs

unfoldable pub read_fields : List Field → List ℕ → ℕ → List ℕ
read_fields [] s i = []
read_fields (f ∷ fs) s i = read_field f s i ++ read_fields fs s (i + size f)

unfoldable pub write_fields : List Field → List ℕ → List ℕ
write_fields [] vs = []
write_fields (f ∷ fs) vs = write_field f vs ++ write_fields fs (drop (width f) vs)

unfoldable pub held_fields : List Field → List ℕ → Bool
held_fields [] vs = true
held_fields (f ∷ fs) vs = held_field f vs && held_fields fs (drop (width f) vs)

-- ---- a body, behind the command identifier

-- the sum of a first value and of the values at the places ks
unfoldable pub plus : ℕ → List ℕ → List ℕ → ℕ
plus n [] vs = n
plus n (k ∷ ks) vs = plus (n + get_or vs k 0) ks vs

-- the sum of the values at the places ks
unfoldable pub summed : List ℕ → List ℕ → ℕ
summed [] vs = 0
summed (k ∷ ks) vs = plus (get_or vs k 0) ks vs

-- where the head ends; the command identifier is at place 0
unfoldable pub head_end : Format → ℕ
head_end f = 1 + sizes f.head

-- how many entries the bytes s announce
unfoldable pub announced : Format → List ℕ → ℕ
announced f s = summed f.counts (read_fields f.head s 1)

-- where the body ends
unfoldable pub body_end : Format → List ℕ → ℕ
body_end f s = head_end f + announced f s * sizes f.entry

-- the values of the body of s
unfoldable pub values : Format → List ℕ → Values
values f s =
    record {
      head = read_fields f.head s 1;
      entries = tab (λ (k : ℕ). read_fields f.entry s (head_end f + k * sizes f.entry)) (announced f s);
    }

-- the bytes of entries, one behind the other
unfoldable pub write_entries : List Field → List (List ℕ) → List ℕ
write_entries fs [] = []
write_entries fs (e ∷ es) = write_fields fs e ++ write_entries fs es

-- the bytes of a body
unfoldable pub body_bytes : Format → Values → List ℕ
body_bytes f v = write_fields f.head v.head ++ write_entries f.entry v.entries

-- every entry fits
unfoldable pub held_entries : List Field → List (List ℕ) → Bool
held_entries fs [] = true
held_entries fs (e ∷ es) = held_fields fs e && held_entries fs es

-- every value fits its field
unfoldable pub held_values : Format → Values → Bool
held_values f v = held_fields f.head v.head && held_entries f.entry v.entries
