-- The blocks that AES-128 makes of the two frames in specs/LastCounter.antt, two by two: the chain of the MIC, then the key
-- stream. Inputs and outputs are another AES's (the Python library cryptography, 48.0.0). The round keys are expanded once.
-- Assumes nothing.
use mathlib.Core.List.{List, [], ◌∷◌}
use mathlib.Core.Path.{◌≡◌, refl}
use Prim.Native.Nat.{ℕ}
use Rattle.field.specs.Field.{xtime, product_of_bits, product, bit_power, power, inverse}
use Rattle.field.specs.SBox.{bit, affine_bit, of_bits, affine, sbox}
use Rattle.aes.specs.State.{four, state, state_of, block_of}
use Rattle.aes.specs.Words.{xor_word, sub_word, rot_word, power_of_x, rcon}
use Rattle.aes.specs.Rounds.{sub_bytes, shift_rows, mix_column, mix_columns, add_round_key}
use Rattle.aes.specs.KeyExpansion.{temp, next_word, words_from, round_keys, key_expansion}
use Rattle.aes.specs.Cipher.{rounds, last_round, cipher, aes128}
use Rattle.worked_frames.specs.Bytes.{hex}
use Rattle.worked_frames.specs.LastCounter.{key}

-- ---- the round keys

states : List ℕ → List (List (List ℕ))
states [] = []
states (x ∷ xs) = state_of (hex 16 x) ∷ states xs

expanded : List (List (List ℕ))
expanded =
    states (
    0x01030507090B0D0F00020406080A0C0D
    ∷ 0x67FDD2376EF6DF386EF4DB3E66FED733
    ∷ 0xDEF31104B005CE3CDEF11502B80FC231
    ∷ 0xACD6D6681CD31854C2220D567A2DCF67
    ∷ 0x7C5C53B2608F4BE6A2AD46B0D88089D7
    ∷ 0xA1FB5DD3C174163563D95085BB59D952
    ∷ 0x4ACE5D398BBA4B0CE8631B89533AC2DB
    ∷ 0x8AEBE4D40151AFD8E932B451BA08768A
    ∷ 0x3AD39A203B8235F8D2B081A968B8F723
    ∷ 0x4DBBBC657639899DA4890834CC31FF17
    ∷ 0xBCAD4C2ECA94C5B36E1DCD87A22C3290
    ∷ [])

keys : key_expansion key ≡ expanded
unfolding xtime product_of_bits product bit_power power inverse bit affine_bit of_bits affine sbox four state state_of
    xor_word sub_word rot_word power_of_x rcon temp next_word words_from round_keys key_expansion hex key states expanded
keys = refl

-- the cipher under the key, its round keys expanded
pub ciphered : List ℕ → List ℕ
ciphered b = cipher expanded b

pub under_key : aes128 key ≡ ciphered
unfolding aes128 ciphered
under_key = λ i b. cipher (keys i) b

-- the block x becomes y
abbrev Becomes : ℕ → ℕ → Type 0
Becomes x y = ciphered (hex 16 x) ≡ hex 16 y

-- ---- the counter before the last one

pub before_front : Becomes 0x490D6F001122334455FEFFFFFF2D0001 0x31E1D0F3141754D5AAD6FBA947224E97
    × Becomes 0x31F7D8F1141760C7B4D1D657B8DDB19A 0x1C5C5BED0C500958E4A70A8C90CECC13
unfolding xtime product_of_bits product bit_power power inverse bit affine_bit of_bits affine sbox four state state_of block_of
    sub_bytes shift_rows mix_column mix_columns add_round_key rounds last_round cipher hex states expanded ciphered
before_front = (refl, refl)

pub before_back : Becomes 0x735C4ACF3F145C58E4A70A8C90CECC13 0x8FA44CA46AEA06510D558904D5E40A86
    × Becomes 0x25A44CA46AEA06510D558904D5E40A86 0x2E29521AC8C9705E409C572A10B01D8F
unfolding xtime product_of_bits product bit_power power inverse bit affine_bit of_bits affine sbox four state state_of block_of
    sub_bytes shift_rows mix_column mix_columns add_round_key rounds last_round cipher hex states expanded ciphered
before_back = (refl, refl)

pub before_stream : Becomes 0x010D6F001122334455FEFFFFFF2D0000 0x419951290447E4B48261FA95740FE204
    × Becomes 0x010D6F001122334455FEFFFFFF2D0001 0x739884EDD317237759CCE18A50796397
unfolding xtime product_of_bits product bit_power power inverse bit affine_bit of_bits affine sbox four state state_of block_of
    sub_bytes shift_rows mix_column mix_columns add_round_key rounds last_round cipher hex states expanded ciphered
before_stream = (refl, refl)

-- ---- the last counter

pub last_front : Becomes 0x490D6F001122334455FFFFFFFF2D0001 0xBA361FE0255172E7280BD9EF5B670BEB
    × Becomes 0xBA2017E2255146F5360CF410A498F4E6 0x6CA18DBADC1FC59C227F5E71830DF05C
unfolding xtime product_of_bits product bit_power power inverse bit affine_bit of_bits affine sbox four state state_of block_of
    sub_bytes shift_rows mix_column mix_columns add_round_key rounds last_round cipher hex states expanded ciphered
last_front = (refl, refl)

pub last_back : Becomes 0x03A19C98EF5B909C227F5E71830DF05C 0xFFB8232BEF6421971F62FDFC527FE678
    × Becomes 0x55B8232BEF6421971F62FDFC527FE678 0x55CFCD4989C434EC7D0840CD90C08F48
unfolding xtime product_of_bits product bit_power power inverse bit affine_bit of_bits affine sbox four state state_of block_of
    sub_bytes shift_rows mix_column mix_columns add_round_key rounds last_round cipher hex states expanded ciphered
last_back = (refl, refl)

pub last_stream : Becomes 0x010D6F001122334455FFFFFFFF2D0000 0xCB312CDEF58277815CF8BAA42A619934
    × Becomes 0x010D6F001122334455FFFFFFFF2D0001 0x95D42953E5BA051C1CB764510B86F435
unfolding xtime product_of_bits product bit_power power inverse bit affine_bit of_bits affine sbox four state state_of block_of
    sub_bytes shift_rows mix_column mix_columns add_round_key rounds last_round cipher hex states expanded ciphered
last_stream = (refl, refl)
