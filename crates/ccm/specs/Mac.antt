-- SP 800-38C, 6.1, steps 1 to 4: the CBC-MAC of the formatted input.
-- Assumes nothing.
use Rattle.std.specs.Prelude.{List, ℕ, zero, suc, ◌+◌, take}
use Rattle.octets.specs.Strings.{xored}
use Rattle.ccm.specs.Formatting.{formatted, last_block}

-- the chain's block, and how many blocks were encrypted for it
pub record Chain : Type 0 where
  pub block : List ℕ
  pub blocks : ℕ

-- Y_0 = CIPH_K (B_0), Y_i = CIPH_K (B_i ⊕ Y_(i - 1))
unfoldable pub chain : (List ℕ → List ℕ) → (ℕ → List ℕ) → ℕ → Chain
chain ciph b zero = record { block = ciph (b 0); blocks = 1 }
chain ciph b (suc i) = record { block = ciph (xored 16 (b (suc i)) (chain ciph b i).block); blocks = (chain ciph b i).blocks + 1 }

-- the chain over the whole formatted input, up to Y_r
unfoldable pub mac_chain : ℕ → (List ℕ → List ℕ) → List ℕ → List ℕ → List ℕ → Chain
mac_chain t ciph nonce a p = chain ciph (formatted t nonce a p) (last_block a p)

-- T = MSB_t (Y_r)
unfoldable pub mac : ℕ → (List ℕ → List ℕ) → List ℕ → List ℕ → List ℕ → List ℕ
mac t ciph nonce a p = take t (mac_chain t ciph nonce a p).block
