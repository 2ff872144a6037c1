-- Reading a field: what its word is read as, and what is at the front of the output then.
-- Assumes nothing.
use mathlib.Core.Bool.{Bool, true, false}
use mathlib.Core.Path.{◌≡◌, sym}
use mathlib.Core.List.{List, ◌++◌}
use Prim.Native.Nat.{ℕ, ◌/◌, ◌≤◌, min}
use lib.ListN.{length, take, drop}
use lib.Seq.{length_front, length-take-le}
use Rattle.casefile.specs.Fields.{is_dash, field_of, field_bytes}
use Rattle.casefile.specs.Hex.{hex_bytes, is_hex}
use Rattle.casefile.specs.Texts.{IsPrefixLen}

-- a count of bytes at the front of a list is one still where the front was written anew
pub front_counts : (n : ℕ) (e d : List ℕ) → n ≤ length d → length e ≡ length (take n d) → IsPrefixLen n (e ++ drop n d)
front_counts n e d h l =
    let k : n ≤ length (e ++ drop n d) = rw (length_front d e n l) h in
    (k, sym (length-take-le n (e ++ drop n d) k))

pub field_dash : (w : List ℕ) (room : ℕ) → is_dash w ≡ true → field_of w room ≡ record { good = true; n = 0 }
unfolding field_of
field_dash w room h = rw h

pub bytes_dash : (w out : List ℕ) → is_dash w ≡ true → field_bytes w ++ out ≡ out
unfolding field_bytes
bytes_dash w out h = rw h

pub field_digits : (w : List ℕ) (room n m : ℕ) (g : Bool) → is_dash w ≡ false → n ≡ min (length w / 2) room → m ≡ n → g ≡ is_hex w m
    → field_of w room ≡ record { good = g; n = n }
unfolding field_of
field_digits w room n m g h e l i = rw (h, i, l, e)

pub bytes_digits : (w : List ℕ) → is_dash w ≡ false → field_bytes w ≡ hex_bytes w
unfolding field_bytes
bytes_digits w h = rw h
