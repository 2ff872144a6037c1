-- Addresses: a 16-bit address or PAN identifier is its number, written least significant byte first; an IEEE address is
-- its eight bytes in wire order. Reading gives the value and how many bytes
-- it took, or nothing.
-- Assumes nothing.
use Rattle.std.specs.Prelude.{ℕ, ◌-◌, cond, List, ltb, length, get_or, take, Option, Some, None}
use Rattle.octets.specs.Strings.{tab}
use Rattle.octets.specs.Numbers.{le_at}
use Rattle.types.specs.declared.{Nwk.Nwk, PanId.PanId, Eui64.Eui64}

-- the address of a number
abbrev pub nwk : ℕ → Nwk
nwk x = record { 0 = x }

-- what stands in a list of addresses past its count
abbrev pub no_nwk : Nwk
no_nwk = nwk 0

-- the PAN identifier of a number
abbrev pub pan_id : ℕ → PanId
pan_id x = record { 0 = x }

-- the IEEE address of eight bytes
abbrev pub eui64 : List ℕ → Eui64
eui64 s = record { 0 = s }

-- reading an address: nothing below two bytes
unfoldable pub read_nwk : List ℕ → Option (Nwk × ℕ)
read_nwk s = cond (ltb (length s) 2) None (Some (nwk (le_at 2 s 0), 2))

-- reading a PAN identifier: nothing below two bytes
unfoldable pub read_pan_id : List ℕ → Option (PanId × ℕ)
read_pan_id s = cond (ltb (length s) 2) None (Some (pan_id (le_at 2 s 0), 2))

-- reading an IEEE address: nothing below eight bytes
unfoldable pub read_eui64 : List ℕ → Option (Eui64 × ℕ)
read_eui64 s = cond (ltb (length s) 8) None (Some (eui64 (take 8 s), 8))

-- eight bytes the other way round: wire order to display order and back
unfoldable pub reversed : List ℕ → List ℕ
reversed s = tab (λ (i : ℕ). get_or s (7 - i) 0) 8
