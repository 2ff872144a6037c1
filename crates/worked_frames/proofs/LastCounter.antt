-- Every row of the table of the last counter holds, by computing the definitions: one claim, in which a wrong row fails. What
-- AES-128 makes of a block is taken from proofs/Blocks.antt, so that each block is computed once.
-- Assumes nothing.
use mathlib.Core.Bool.{true, cond, not}
use mathlib.Core.List.{List, [], ◌∷◌, ◌++◌}
use mathlib.Core.Path.{◌≡◌, refl, ap, ◌∙◌}
use Prim.Native.Nat.{ℕ}
use lib.ListN.{take}
use Rattle.octets.specs.Strings.{tab, over, xored}
use Rattle.octets.specs.Numbers.{le, le_at}
use Rattle.octets.specs.Fields.{fields, packed}
use Rattle.octets.specs.Refusals.{unless, first_of}
use Rattle.types.specs.declared.level.Level.{Level}
use Rattle.types.specs.Levels.{tag_length}
use Rattle.aes.specs.Cipher.{aes128}
use Rattle.ccm.specs.Formatting.{two_bytes, headed, flags, first_block, encoded_data, blocks_of, block_at, last_block, formatted}
use Rattle.ccm.specs.Counters.{counter_block, key_block, key_stream, stream_for, counter_mode}
use Rattle.ccm.specs.Mac.{chain, mac_chain, mac}
use Rattle.ccm.specs.Generation.{Generated, encrypted_tag, blocks_of_run, generation_encryption}
use Rattle.ccm.specs.Verification.{Verified, same_bytes, tag_valid, decryption_verification}
use Rattle.header.specs.Control.{control_word, control_of}
use Rattle.header.specs.Optional.{relay_bytes}
use Rattle.header.specs.Reading.{source_at, multicast_at, route_at, relays_announced, header_end, optional_refusals, header_refusal, relays_of, header_by, blank_header, read_header}
use Rattle.header.specs.Writing.{fixed_bytes, optional_bytes, header_bytes, bad_control, bad_header, field_refusal}
use Rattle.header.specs.Same.{agrees, aux_agrees}
use Rattle.header.specs.AuxiliaryControl.{security_byte, security_of, with_level}
use Rattle.header.specs.Auxiliary.{key_sequence_at, aux_refusal, aux_by, blank_aux, read_aux, aux_bytes}
use Rattle.frame.specs.Reading.{frame_refusal, frame_refused, frame_number, frame_by, read_frame}
use Rattle.frame.specs.Security.{sent_level, at_level, or_blank, nonce, authenticated}
use Rattle.frame.specs.Writing.{length_refusals}
use Rattle.frame.specs.Sealing.{generated, sealed_bytes, sealed_length, headers_refusal, seal_refusals, seal_refusal, seal_refused, seal_by, seal_frame}
use Rattle.frame.specs.Opening.{behind, ciphertext_of, mic_of, verified, open_refusals, open_refusal, open_refused, sealed_given, open_nothing, open_by, open_with}
use Rattle.boundary.specs.Rows.{All}
use Rattle.boundary.specs.Starred.{from_probe}
use Rattle.worked_frames.specs.Bytes.{hex}
use Rattle.worked_frames.specs.LastCounter.{seals, opens, Holds, lent, cases, key, probe, counted, probe_ieee, sealed_before, sealed_last}
use Rattle.worked_frames.proofs.Blocks.{ciphered, under_key, before_front, before_back, before_stream, last_front, last_back, last_stream}

-- ---- CCM from its blocks

-- a chain of four blocks, each known
module _ (ciph : List ℕ → List ℕ) (b : ℕ → List ℕ) (y₀ y₁ y₂ y₃ : List ℕ) where
  chained : ciph (b 0) ≡ y₀ → ciph (xored 16 (b 1) y₀) ≡ y₁ → ciph (xored 16 (b 2) y₁) ≡ y₂ → ciph (xored 16 (b 3) y₂) ≡ y₃
      → (chain ciph b 3).block ≡ y₃
  unfolding chain
  chained e₀ e₁ e₂ e₃ =
      let next : (i : ℕ) → List ℕ → List ℕ = λ i y. ciph (xored 16 (b i) y) in
      ap (next 3) (ap (next 2) (ap (next 1) e₀ ∙ e₁) ∙ e₂) ∙ e₃

-- ---- the two frames

-- nonce and authenticated bytes under a counter
abbrev nonce_of : ℕ → List ℕ
nonce_of counter = nonce Level.EncMic32 probe (or_blank (counted probe_ieee counter))

abbrev data_of : ℕ → List ℕ
data_of counter = authenticated Level.EncMic32 probe (or_blank (counted probe_ieee counter))

sealed : generated Level.EncMic32 key probe (or_blank (counted probe_ieee 0xFFFFFFFE)) (0xAA ∷ [])
    ≡ record { ciphertext = hex 1 0xD9; tag = hex 4 0x6FB00333; blocks = 6 }
unfolding tag_length generated encrypted_tag generation_encryption tab xored le packed two_bytes headed flags first_block encoded_data blocks_of block_at last_block formatted counter_block key_block
    key_stream stream_for counter_mode chain mac_chain mac blocks_of_run
    control_word relay_bytes fixed_bytes optional_bytes header_bytes security_byte with_level aux_bytes at_level nonce authenticated
    from_probe probe counted probe_ieee hex
sealed =
    let y = chained ciphered (formatted 4 (nonce_of 0xFFFFFFFE) (data_of 0xFFFFFFFE) (0xAA ∷ [])) _ _ _ _
    before_front.0 before_front.1 before_back.0 before_back.1 in
    ap (λ (c : List ℕ → List ℕ). generation_encryption 4 c (nonce_of 0xFFFFFFFE) (data_of 0xFFFFFFFE) (0xAA ∷ [])) under_key
    ∙ (λ i. record {
      ciphertext = xored 1 (0xAA ∷ []) (before_stream.1 i);
      tag = xored 4 (take 4 (y i)) (before_stream.0 i);
      blocks = 6;
    })

-- the ciphertext and the MIC behind the headers of the other frame
opened : decryption_verification 4 (aes128 key) (nonce_of 0xFFFFFFFF) (data_of 0xFFFFFFFF) (hex 1 0x3F) (hex 4 0x9EFEE197)
    ≡ record { valid = true; payload = 0xAA ∷ []; blocks = 6 }
unfolding same_bytes tag_valid decryption_verification tab xored le packed two_bytes headed flags first_block encoded_data blocks_of block_at last_block formatted counter_block key_block
    key_stream stream_for counter_mode chain mac_chain mac blocks_of_run
    control_word relay_bytes fixed_bytes optional_bytes header_bytes security_byte with_level aux_bytes at_level nonce authenticated
    from_probe probe counted probe_ieee hex
opened =
    let p : counter_mode ciphered (nonce_of 0xFFFFFFFF) (hex 1 0x3F) ≡ 0xAA ∷ [] = ap (xored 1 (hex 1 0x3F)) last_stream.1 in
    let y = chained ciphered (formatted 4 (nonce_of 0xFFFFFFFF) (data_of 0xFFFFFFFF) (0xAA ∷ [])) _ _ _ _
    last_front.0 last_front.1 last_back.0 last_back.1 in
    ap (λ (c : List ℕ → List ℕ). decryption_verification 4 c (nonce_of 0xFFFFFFFF) (data_of 0xFFFFFFFF) (hex 1 0x3F) (hex 4 0x9EFEE197)) under_key
    ∙ (λ i. record {
      valid = tag_valid 4 ciphered (nonce_of 0xFFFFFFFF) (data_of 0xFFFFFFFF) (p i) (hex 4 0x9EFEE197);
      payload = p i;
      blocks = blocks_of_run 4 ciphered (nonce_of 0xFFFFFFFF) (data_of 0xFFFFFFFF) (p i);
    })
    ∙ (λ i. record { valid = same_bytes 4 (xored 4 (hex 4 0x9EFEE197) (last_stream.0 i)) (take 4 (y i)); payload = 0xAA ∷ []; blocks = 6 })

-- ---- the rows

seals_before : Holds (seals (counted probe_ieee 0xFFFFFFFE) (0xAA ∷ []) sealed_before)
unfolding over unless first_of tab le packed control_word relay_bytes fixed_bytes optional_bytes header_bytes bad_control bad_header agrees aux_agrees field_refusal
    security_byte with_level aux_bytes at_level tag_length sealed_bytes sealed_length headers_refusal length_refusals seal_refusals seal_refusal seal_by seal_frame
    from_probe probe counted probe_ieee hex sealed_before
seals_before =
    ap (λ (g : Generated). seal_by 0 ((header_bytes probe ++ aux_bytes (at_level sent_level (or_blank (counted probe_ieee 0xFFFFFFFE)))) ++ (g.ciphertext ++ g.tag)) lent) sealed

opens_last : Holds (opens sealed_last (counted probe_ieee 0xFFFFFFFF) probe_ieee (0xAA ∷ []))
unfolding tab over le le_at fields packed unless first_of control_of source_at multicast_at route_at relays_announced header_end optional_refusals
    header_refusal relays_of header_by blank_header read_header security_of with_level key_sequence_at aux_refusal aux_by read_aux
    frame_refusal frame_refused frame_number frame_by read_frame
    tag_length behind ciphertext_of mic_of verified open_refusals open_refusal open_refused open_by open_with from_probe probe counted probe_ieee hex sealed_last
opens_last =
    ap (λ (v : Verified). unless (cond (not v.valid) 19 0) (sealed_given (read_frame sealed_last) v lent) (open_nothing (cond (not v.valid) 19 0) lent)) opened

pub cases_hold : All Holds cases
unfolding unless first_of tab le packed control_word relay_bytes fixed_bytes optional_bytes header_bytes bad_control bad_header agrees aux_agrees field_refusal
    security_byte with_level aux_bytes blank_aux tag_length sealed_length headers_refusal length_refusals seal_refusals seal_refusal seal_refused seal_by seal_frame
    from_probe probe counted probe_ieee cases
cases_hold = (seals_before, (refl, (refl, (refl, (refl, (refl, (opens_last, tt)))))))
