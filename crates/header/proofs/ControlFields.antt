-- Frame control and security control: the word of a record and the record of a word undo each other, by the shared law
-- of bit fields and the codes' inverses.
-- Assumes nothing.
use mathlib.Core.Path.{◌≡◌, refl, sym, ap, ◌∙◌}
use mathlib.Core.Bool.{false}
use mathlib.Core.List.{List, [], ◌∷◌}
use Prim.Native.Nat.{ℕ, ◌+◌, ◌*◌, ◌/◌, ◌%◌, ◌^◌, ◌≤◌, ◌<◌}
use native.Mathlib.Nat.{mod-lt}
use native.Mathlib.Omega.{arith}
use borrow.Author.Tests.{ltb-false}
use lib.ListN.{get_or}
use lib.Dec.{eqb, ltb}
use Rattle.octets.proofs.Conditions.{or_false}
use Rattle.octets.specs.Fields.{fields, packed, bits_of, Held, bit}
use Rattle.octets.proofs.Fields.{fields_packed, packed_fields, packed_lt}
use Rattle.header.specs.declared.{control.NwkFrameControl.NwkFrameControl, auxiliary.NwkSecurityHeaderControlField.NwkSecurityHeaderControlField}
use Rattle.header.specs.Control.{control_sizes, control_values, control_from, control_word, control_of}
use Rattle.header.specs.AuxiliaryControl.{security_sizes, security_values, security_from, security_byte, security_of}
use Rattle.header.specs.Writing.{bad_control}
use Rattle.header.proofs.Codes.{bit_back, bit_lt, bit_of, type_back, type_lt, type_of_lem, type_declared, discovery_back, discovery_lt, discovery_of_lem, discovery_declared, level_back, level_lt, level_of_lem, key_id_back, key_id_lt, key_id_of_lem}

-- ---- frame control

pub control_held : (c : NwkFrameControl) → bad_control c ≡ false → Held control_sizes (control_values c)
unfolding bad_control
control_held c e =
    let parts = or_false (ltb 15 c.protocol_version) (ltb 3 c.reserved1) e in
    let version : c.protocol_version ≤ 15 = ltb-false 15 c.protocol_version parts.0 in
    let kept : c.reserved1 ≤ 3 = ltb-false 3 c.reserved1 parts.1 in (
      type_lt c.frame_type,
      (
        omega arith,
        (
          discovery_lt c.discover_route,
          (
            bit_lt c.multicast,
            (
              bit_lt c.security,
              (
                bit_lt c.source_route,
                (
                  bit_lt c.destination,
                  (bit_lt c.extended_source, (bit_lt c.end_device_initiator, (omega arith, tt))),
                ),
              ),
            ),
          ),
        ),
      ),
    )

record_back : (c : NwkFrameControl) → control_from (control_values c) ≡ c
record_back c =
    λ i. record {
      frame_type = type_back c.frame_type i;
      protocol_version = c.protocol_version;
      discover_route = discovery_back c.discover_route i;
      multicast = bit_back c.multicast i;
      security = bit_back c.security i;
      source_route = bit_back c.source_route i;
      destination = bit_back c.destination i;
      extended_source = bit_back c.extended_source i;
      end_device_initiator = bit_back c.end_device_initiator i;
      reserved1 = c.reserved1;
    }

-- reading the word of a record gives the record
pub control_back : (c : NwkFrameControl) → bad_control c ≡ false → control_of (control_word c) ≡ c
unfolding control_of control_word
control_back c e = ap control_from (fields_packed control_sizes (control_values c) (control_held c e)) ∙ record_back c

pub control_word_lt : (c : NwkFrameControl) → bad_control c ≡ false → control_word c < 2 ^ 16
unfolding control_word bits_of
control_word_lt c e = packed_lt control_sizes (control_values c) (control_held c e)

-- the type's bits and the discovery's of a written word
pub word_type : (c : NwkFrameControl) → bad_control c ≡ false → eqb (control_word c % 4) 2 ≡ false
unfolding control_word fields
word_type c e =
    ap (λ (v : List ℕ). eqb (get_or v 0 0) 2) (fields_packed control_sizes (control_values c) (control_held c e))
    ∙ type_declared c.frame_type

pub word_discovery : (c : NwkFrameControl) → bad_control c ≡ false → eqb (control_word c / 64 % 4) 3 ≡ false
unfolding control_word fields
word_discovery c e =
    let w : ℕ = packed control_sizes (control_values c) in
    let same : w / 64 % 4 ≡ w / 4 / 16 % 4 = omega arith in
    ap (λ (n : ℕ). eqb n 3) same
    ∙ ap (λ (v : List ℕ). eqb (get_or v 2 0) 3) (fields_packed control_sizes (control_values c) (control_held c e))
    ∙ discovery_declared c.discover_route

-- writing the record of a word gives the word
pub word_back : (w : ℕ) → w < 2 ^ 16 → eqb (w % 4) 2 ≡ false → eqb (w / 64 % 4) 3 ≡ false → control_word (control_of w) ≡ w
unfolding control_of control_word fields bits_of
word_back w h t d =
    let same : w / 64 % 4 ≡ w / 4 / 16 % 4 = omega arith in
    let a1 = type_of_lem (w % 4) (mod-lt w (omega arith)) t in
    let a3 = discovery_of_lem (w / 4 / 16 % 4) (mod-lt (w / 4 / 16) (omega arith)) (ap (λ (n : ℕ). eqb n 3) (sym same) ∙ d) in
    let b : (n : ℕ) → bit (eqb (n % 2) 1) ≡ n % 2 = λ n. bit_of (n % 2) (mod-lt n (omega arith)) in
    let q : ℕ = w / 4 / 16 / 4 in
    ap (packed control_sizes)
    (λ i. a1 i ∷ w / 4 % 16 ∷ a3 i ∷ b q i ∷ b (q / 2) i ∷ b (q / 2 / 2) i ∷ b (q / 2 / 2 / 2) i
    ∷ b (q / 2 / 2 / 2 / 2) i ∷ b (q / 2 / 2 / 2 / 2 / 2) i ∷ q / 2 / 2 / 2 / 2 / 2 / 2 % 4 ∷ [])
    ∙ packed_fields control_sizes w h

-- a record that was read exceeds no field
pub control_good : (w : ℕ) → bad_control (control_of w) ≡ false
unfolding control_of fields bad_control
control_good w =
    let version : w / 4 % 16 < 16 = mod-lt (w / 4) (omega arith) in
    let q : ℕ = w / 4 / 16 / 4 / 2 / 2 / 2 / 2 / 2 / 2 in
    let kept : q % 4 < 4 = mod-lt q (omega arith) in
    rw (borrow.Author.Tests.le-ltb 15 (w / 4 % 16) (omega arith), borrow.Author.Tests.le-ltb 3 (q % 4) (omega arith)) refl

-- ---- security control

pub security_held : (c : NwkSecurityHeaderControlField) → Held security_sizes (security_values c)
security_held c = (
  level_lt c.security_level,
  (
    key_id_lt c.key_id,
    (
      bit_lt c.extended_nonce,
      (bit_lt c.require_verified_frame_counter, (omega arith, tt)),
    ),
  ),
)

pub security_back : (c : NwkSecurityHeaderControlField) → security_of (security_byte c) ≡ c
unfolding security_of security_byte
security_back c =
    ap security_from (fields_packed security_sizes (security_values c) (security_held c))
    ∙ (λ i. record {
      security_level = level_back c.security_level i;
      key_id = key_id_back c.key_id i;
      extended_nonce = bit_back c.extended_nonce i;
      require_verified_frame_counter = bit_back c.require_verified_frame_counter i;
    })

pub security_byte_lt : (c : NwkSecurityHeaderControlField) → security_byte c < 2 ^ 8
unfolding security_byte bits_of
security_byte_lt c = packed_lt security_sizes (security_values c) (security_held c)

-- writing the record of a byte gives the byte with its bit 7 at 0
pub byte_back : (b : ℕ) → security_byte (security_of b) ≡ b % 128
unfolding security_of security_byte fields packed
byte_back b =
    let a1 = level_of_lem (b % 8) (mod-lt b (omega arith)) in
    let a2 = key_id_of_lem (b / 8 % 4) (mod-lt (b / 8) (omega arith)) in
    let one : (n : ℕ) → bit (eqb (n % 2) 1) ≡ n % 2 = λ n. bit_of (n % 2) (mod-lt n (omega arith)) in
    let joined : b % 8 + (b / 8 % 4 + (b / 8 / 4 % 2 + (b / 8 / 4 / 2 % 2 + 0) * 2) * 4) * 8 ≡ b % 128 = omega arith in
    ap (packed security_sizes) (λ i. a1 i ∷ a2 i ∷ one (b / 8 / 4) i ∷ one (b / 8 / 4 / 2) i ∷ 0 ∷ []) ∙ joined
