-- Worked examples that FIPS 197 prints, computed from the definitions.
-- Assumes nothing.
use mathlib.Core.Path.{◌≡◌, refl}
use mathlib.Core.List.{List, [], ◌∷◌}
use Prim.Native.Nat.{ℕ}
use lib.ListN.{get_or}
use Rattle.field.specs.Field.{xtime, product_of_bits, product, bit_power, power, inverse}
use Rattle.field.specs.SBox.{bit, affine_bit, of_bits, affine, sbox}
use Rattle.aes.specs.State.{four, state, state_of, block_of}
use Rattle.aes.specs.Words.{xor_word, sub_word, rot_word, power_of_x, rcon}
use Rattle.aes.specs.Rounds.{sub_bytes, shift_rows, mix_column, mix_columns, add_round_key}
use Rattle.aes.specs.KeyExpansion.{temp, next_word, words_from, round_keys, key_expansion}
use Rattle.aes.specs.Cipher.{rounds, last_round, cipher, aes128}

-- 4.2: {57} • {83} = {c1}
pub product_57_83 : product 0x57 0x83 ≡ 0xc1
unfolding xtime product_of_bits product
product_57_83 = refl

-- 4.2.1: {57} • {13} = {fe}
pub product_57_13 : product 0x57 0x13 ≡ 0xfe
unfolding xtime product_of_bits product
product_57_13 = refl

-- 5.1.1: the S-box of {53} is {ed}
pub sbox_53 : sbox 0x53 ≡ 0xed
unfolding xtime product_of_bits product bit_power power inverse bit affine_bit of_bits affine sbox
sbox_53 = refl

-- the key of Appendices A.1 and B
abbrev pub key_b : List ℕ
key_b = 0x2b ∷ 0x7e ∷ 0x15 ∷ 0x16 ∷ 0x28 ∷ 0xae ∷ 0xd2 ∷ 0xa6 ∷ 0xab ∷ 0xf7 ∷ 0x15 ∷ 0x88 ∷ 0x09 ∷ 0xcf ∷ 0x4f ∷ 0x3c ∷ []

-- A.1: the words w40 to w43
pub last_round_key : get_or (key_expansion key_b) 10 []
    ≡ (0xd0 ∷ 0x14 ∷ 0xf9 ∷ 0xa8 ∷ []) ∷ (0xc9 ∷ 0xee ∷ 0x25 ∷ 0x89 ∷ []) ∷ (0xe1 ∷ 0x3f ∷ 0x0c ∷ 0xc8 ∷ []) ∷ (0xb6 ∷ 0x63 ∷ 0x0c ∷ 0xa6 ∷ []) ∷ []
unfolding xtime product_of_bits product bit_power power inverse bit affine_bit of_bits affine sbox four state state_of
    xor_word sub_word rot_word power_of_x rcon temp next_word words_from round_keys key_expansion
last_round_key = refl

-- Appendix B
pub appendix_b : aes128 key_b (0x32 ∷ 0x43 ∷ 0xf6 ∷ 0xa8 ∷ 0x88 ∷ 0x5a ∷ 0x30 ∷ 0x8d ∷ 0x31 ∷ 0x31 ∷ 0x98 ∷ 0xa2 ∷ 0xe0 ∷ 0x37 ∷ 0x07 ∷ 0x34 ∷ [])
    ≡ 0x39 ∷ 0x25 ∷ 0x84 ∷ 0x1d ∷ 0x02 ∷ 0xdc ∷ 0x09 ∷ 0xfb ∷ 0xdc ∷ 0x11 ∷ 0x85 ∷ 0x97 ∷ 0x19 ∷ 0x6a ∷ 0x0b ∷ 0x32 ∷ []
unfolding xtime product_of_bits product bit_power power inverse bit affine_bit of_bits affine sbox four state state_of block_of
    xor_word sub_word rot_word power_of_x rcon temp next_word words_from round_keys key_expansion
    sub_bytes shift_rows mix_column mix_columns add_round_key rounds last_round cipher aes128
appendix_b = refl

-- C.1
pub appendix_c_1 : aes128
    (0x00 ∷ 0x01 ∷ 0x02 ∷ 0x03 ∷ 0x04 ∷ 0x05 ∷ 0x06 ∷ 0x07 ∷ 0x08 ∷ 0x09 ∷ 0x0a ∷ 0x0b ∷ 0x0c ∷ 0x0d ∷ 0x0e ∷ 0x0f ∷ [])
    (0x00 ∷ 0x11 ∷ 0x22 ∷ 0x33 ∷ 0x44 ∷ 0x55 ∷ 0x66 ∷ 0x77 ∷ 0x88 ∷ 0x99 ∷ 0xaa ∷ 0xbb ∷ 0xcc ∷ 0xdd ∷ 0xee ∷ 0xff ∷ [])
    ≡ 0x69 ∷ 0xc4 ∷ 0xe0 ∷ 0xd8 ∷ 0x6a ∷ 0x7b ∷ 0x04 ∷ 0x30 ∷ 0xd8 ∷ 0xcd ∷ 0xb7 ∷ 0x80 ∷ 0x70 ∷ 0xb4 ∷ 0xc5 ∷ 0x5a ∷ []
unfolding xtime product_of_bits product bit_power power inverse bit affine_bit of_bits affine sbox four state state_of block_of
    xor_word sub_word rot_word power_of_x rcon temp next_word words_from round_keys key_expansion
    sub_bytes shift_rows mix_column mix_columns add_round_key rounds last_round cipher aes128
appendix_c_1 = refl
