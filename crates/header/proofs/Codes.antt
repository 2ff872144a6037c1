-- Code and enum undo each other: frame types, discoveries, security levels, key identifiers and single bits.
-- Assumes nothing.
use mathlib.Core.Path.{◌≡◌, refl}
use mathlib.Core.Bool.{Bool, true, false}
use Prim.Native.Nat.{ℕ, zero, suc, ◌<◌}
use native.Mathlib.Omega.{arith}
use lib.Dec.{eqb}
use Rattle.header.specs.declared.{control.NwkFrameType.NwkFrameType, control.NwkRouteDiscovery.NwkRouteDiscovery, auxiliary.NwkSecurityLevel.NwkSecurityLevel, auxiliary.NwkSecurityHeaderKeyId.NwkSecurityHeaderKeyId}
use Rattle.octets.specs.Fields.{bit}
use Rattle.header.specs.Control.{type_code, type_of, discovery_code, discovery_of}
use Rattle.header.specs.AuxiliaryControl.{level_code, level_of, key_id_code, key_id_of}

pub bit_back : (b : Bool) → eqb (bit b) 1 ≡ b
bit_back true = refl
bit_back false = refl

pub bit_lt : (b : Bool) → bit b < 2
bit_lt true = omega arith
bit_lt false = omega arith

pub bit_of : (n : ℕ) → n < 2 → bit (eqb n 1) ≡ n
bit_of zero h = refl
bit_of (suc zero) h = refl
bit_of (suc (suc n)) h = absurd (omega arith)

pub type_back : (t : NwkFrameType) → type_of (type_code t) ≡ t
type_back NwkFrameType.Data = refl
type_back NwkFrameType.Command = refl
type_back NwkFrameType.Interpan = refl

pub type_lt : (t : NwkFrameType) → type_code t < 4
type_lt NwkFrameType.Data = omega arith
type_lt NwkFrameType.Command = omega arith
type_lt NwkFrameType.Interpan = omega arith

-- no type has the code 2
pub type_declared : (t : NwkFrameType) → eqb (type_code t) 2 ≡ false
type_declared NwkFrameType.Data = refl
type_declared NwkFrameType.Command = refl
type_declared NwkFrameType.Interpan = refl

pub type_of_lem : (n : ℕ) → n < 4 → eqb n 2 ≡ false → type_code (type_of n) ≡ n
type_of_lem zero h e = refl
type_of_lem (suc zero) h e = refl
type_of_lem (suc (suc zero)) h e = absurd (mathlib.Core.Bool.true≢false e)
type_of_lem (suc (suc (suc zero))) h e = refl
type_of_lem (suc (suc (suc (suc n)))) h e = absurd (omega arith)

-- a code that is neither 0 nor 1
pub type_rest : (n : ℕ) → (n ≡ 0 → ⊥) → (n ≡ 1 → ⊥) → NwkFrameType.Interpan ≡ type_of n
type_rest zero h k = absurd (h refl)
type_rest (suc zero) h k = absurd (k refl)
type_rest (suc (suc n)) h k = refl

pub discovery_back : (d : NwkRouteDiscovery) → discovery_of (discovery_code d) ≡ d
discovery_back NwkRouteDiscovery.Suppress = refl
discovery_back NwkRouteDiscovery.Enable = refl
discovery_back NwkRouteDiscovery.WithMulticast = refl

pub discovery_lt : (d : NwkRouteDiscovery) → discovery_code d < 4
discovery_lt NwkRouteDiscovery.Suppress = omega arith
discovery_lt NwkRouteDiscovery.Enable = omega arith
discovery_lt NwkRouteDiscovery.WithMulticast = omega arith

-- no discovery has the code 3
pub discovery_declared : (d : NwkRouteDiscovery) → eqb (discovery_code d) 3 ≡ false
discovery_declared NwkRouteDiscovery.Suppress = refl
discovery_declared NwkRouteDiscovery.Enable = refl
discovery_declared NwkRouteDiscovery.WithMulticast = refl

pub discovery_of_lem : (n : ℕ) → n < 4 → eqb n 3 ≡ false → discovery_code (discovery_of n) ≡ n
discovery_of_lem zero h e = refl
discovery_of_lem (suc zero) h e = refl
discovery_of_lem (suc (suc zero)) h e = refl
discovery_of_lem (suc (suc (suc zero))) h e = absurd (mathlib.Core.Bool.true≢false e)
discovery_of_lem (suc (suc (suc (suc n)))) h e = absurd (omega arith)

pub discovery_rest : (n : ℕ) → (n ≡ 0 → ⊥) → (n ≡ 1 → ⊥) → NwkRouteDiscovery.WithMulticast ≡ discovery_of n
discovery_rest zero h k = absurd (h refl)
discovery_rest (suc zero) h k = absurd (k refl)
discovery_rest (suc (suc n)) h k = refl

pub level_back : (l : NwkSecurityLevel) → level_of (level_code l) ≡ l
level_back NwkSecurityLevel.NoSecurity = refl
level_back NwkSecurityLevel.Mic32 = refl
level_back NwkSecurityLevel.Mic64 = refl
level_back NwkSecurityLevel.Mic128 = refl
level_back NwkSecurityLevel.Enc = refl
level_back NwkSecurityLevel.EncMic32 = refl
level_back NwkSecurityLevel.EncMic64 = refl
level_back NwkSecurityLevel.EncMic128 = refl

pub level_lt : (l : NwkSecurityLevel) → level_code l < 8
level_lt NwkSecurityLevel.NoSecurity = omega arith
level_lt NwkSecurityLevel.Mic32 = omega arith
level_lt NwkSecurityLevel.Mic64 = omega arith
level_lt NwkSecurityLevel.Mic128 = omega arith
level_lt NwkSecurityLevel.Enc = omega arith
level_lt NwkSecurityLevel.EncMic32 = omega arith
level_lt NwkSecurityLevel.EncMic64 = omega arith
level_lt NwkSecurityLevel.EncMic128 = omega arith

pub level_of_lem : (n : ℕ) → n < 8 → level_code (level_of n) ≡ n
level_of_lem zero h = refl
level_of_lem (suc zero) h = refl
level_of_lem (suc (suc zero)) h = refl
level_of_lem (suc (suc (suc zero))) h = refl
level_of_lem (suc (suc (suc (suc zero)))) h = refl
level_of_lem (suc (suc (suc (suc (suc zero))))) h = refl
level_of_lem (suc (suc (suc (suc (suc (suc zero)))))) h = refl
level_of_lem (suc (suc (suc (suc (suc (suc (suc zero))))))) h = refl
level_of_lem (suc (suc (suc (suc (suc (suc (suc (suc n)))))))) h = absurd (omega arith)

-- a code that is none of 0 to 6
pub level_rest : (n : ℕ)
    → ((((((Unit {0} × (n ≡ 0 → ⊥)) × (n ≡ 1 → ⊥)) × (n ≡ 2 → ⊥)) × (n ≡ 3 → ⊥)) × (n ≡ 4 → ⊥)) × (n ≡ 5 → ⊥)) × (n ≡ 6 → ⊥)
    → NwkSecurityLevel.EncMic128 ≡ level_of n
level_rest zero h = absurd (h.0.0.0.0.0.0.1 refl)
level_rest (suc zero) h = absurd (h.0.0.0.0.0.1 refl)
level_rest (suc (suc zero)) h = absurd (h.0.0.0.0.1 refl)
level_rest (suc (suc (suc zero))) h = absurd (h.0.0.0.1 refl)
level_rest (suc (suc (suc (suc zero)))) h = absurd (h.0.0.1 refl)
level_rest (suc (suc (suc (suc (suc zero))))) h = absurd (h.0.1 refl)
level_rest (suc (suc (suc (suc (suc (suc zero)))))) h = absurd (h.1 refl)
level_rest (suc (suc (suc (suc (suc (suc (suc n))))))) h = refl

pub key_id_back : (k : NwkSecurityHeaderKeyId) → key_id_of (key_id_code k) ≡ k
key_id_back NwkSecurityHeaderKeyId.DataKey = refl
key_id_back NwkSecurityHeaderKeyId.NetworkKey = refl
key_id_back NwkSecurityHeaderKeyId.KeyTransportKey = refl
key_id_back NwkSecurityHeaderKeyId.KeyLoadKey = refl

pub key_id_lt : (k : NwkSecurityHeaderKeyId) → key_id_code k < 4
key_id_lt NwkSecurityHeaderKeyId.DataKey = omega arith
key_id_lt NwkSecurityHeaderKeyId.NetworkKey = omega arith
key_id_lt NwkSecurityHeaderKeyId.KeyTransportKey = omega arith
key_id_lt NwkSecurityHeaderKeyId.KeyLoadKey = omega arith

pub key_id_of_lem : (n : ℕ) → n < 4 → key_id_code (key_id_of n) ≡ n
key_id_of_lem zero h = refl
key_id_of_lem (suc zero) h = refl
key_id_of_lem (suc (suc zero)) h = refl
key_id_of_lem (suc (suc (suc zero))) h = refl
key_id_of_lem (suc (suc (suc (suc n)))) h = absurd (omega arith)

-- a code that is none of 0 to 2
pub key_id_rest : (n : ℕ) → ((Unit {0} × (n ≡ 0 → ⊥)) × (n ≡ 1 → ⊥)) × (n ≡ 2 → ⊥) → NwkSecurityHeaderKeyId.KeyLoadKey ≡ key_id_of n
key_id_rest zero h = absurd (h.0.0.1 refl)
key_id_rest (suc zero) h = absurd (h.0.1 refl)
key_id_rest (suc (suc zero)) h = absurd (h.1 refl)
key_id_rest (suc (suc (suc n))) h = refl
