-- The formatted input in one array: B_0, the associated data behind its length and the payload, each written to zeros from a place where a
-- block begins, are its blocks. A byte is looked up by the part that it is in; what is past a part's end counts 0, which is the zero fill.
-- Assumes nothing.
use mathlib.Core.Path.{◌≡◌, sym, ap, ◌∙◌}
use mathlib.Core.List.{List, ◌++◌}
use mathlib.Core.Logic.{⊎_elim, ◌⊎◌, inl, inr}
use Prim.Native.Nat.{ℕ, zero, suc, ◌+◌, ◌-◌, ◌*◌, ◌≤◌, ◌<◌}
use native.Mathlib.Nat.{zero-add}
use native.Mathlib.Decide.{dec_lt}
use native.Mathlib.Omega.{arith}
use borrow.Author.Tests.{lt-ltb, le-ltb}
use lib.ListN.{length, get_or, take, drop, get_or-append, get_or-eq_default}
use lib.Seq.{length-take-le, take_all, get_or-take, get_or-drop, get_or-append-add}
use Rattle.octets.specs.Strings.{over}
use Rattle.octets.proofs.Strings.{tab_ext, tab_get_or, length_over}
use Rattle.ccm.specs.Formatting.{first_block, encoded_data, blocks_of, block_at, formatted, Formats}
use Rattle.ccm.proofs.Streams.{blocks_hold}

-- nothing is written from place i on
abbrev pub Blank : List ℕ → ℕ → Type 0
Blank o i = (k : ℕ) → i ≤ k → get_or o k 0 ≡ 0

-- below a number, or that many more than it
below_or_more : (n k : ℕ) → (k < n) ⊎ (n + (k - n) ≡ k)
below_or_more n k = elim (dec_lt k n) [ yes l ↦ inl l | no l ↦ inr (omega arith) ]

module _ (o bs : List ℕ) (i : ℕ) (h : i + length bs ≤ length o) where
  front : length (take i o) ≡ i
  front = length-take-le i o (omega arith)

  -- a byte in front of what was written
  over_before : (k : ℕ) → k < i → get_or (over o i bs) k 0 ≡ get_or o k 0
  unfolding over
  over_before k l = get_or-append (take i o) _ 0 k (rw front l) ∙ get_or-take i o k 0 l

  -- a byte of it, or behind it where nothing stood
  over_from : Blank o i → (k : ℕ) → get_or (over o i bs) (i + k) 0 ≡ get_or bs k 0
  unfolding over
  over_from z k =
      let rest : List ℕ = bs ++ drop (i + length bs) o in
      let part : get_or (take i o ++ rest) (i + k) 0 ≡ get_or rest k 0 =
      ap (λ (n : ℕ). get_or (take i o ++ rest) (n + k) 0) (sym front) ∙ get_or-append-add (take i o) rest k 0 in
      part
      ∙ ⊎_elim (λ l. get_or-append bs _ 0 k l)
      (λ e.
      ap (λ (n : ℕ). get_or rest n 0) (sym e) ∙ get_or-append-add bs (drop (i + length bs) o) (k - length bs) 0
      ∙ get_or-drop (i + length bs) o (k - length bs) 0 ∙ z (i + length bs + (k - length bs)) (omega arith)
      ∙ sym (get_or-eq_default bs 0 {n = k} (omega arith)))
      (below_or_more (length bs) k)

  -- from any place behind it on nothing is written
  blank_behind : Blank o i → (j : ℕ) → i + length bs ≤ j → Blank (over o i bs) j
  blank_behind z j l k g =
      let e : i + (k - i) ≡ k = omega arith in
      ap (λ (n : ℕ). get_or (over o i bs) n 0) (sym e) ∙ over_from z (k - i) ∙ get_or-eq_default bs 0 {n = k - i} (omega arith)

few_blocks : (n : ℕ) → n ≤ 129 → blocks_of n ≤ 9
unfolding blocks_of
few_blocks n h = omega arith

-- o₁, o₂ and o₃ are what the array holds after each of the three; the data has b blocks
module _ (t b : ℕ) (nonce a p o o₁ o₂ o₃ : List ℕ) (room : length o ≡ 288) (blank : Blank o 0)
    (hf : length (first_block t nonce (length a) (length p)) ≡ 16) (ha : length (encoded_data a) ≤ 129) (hp : length p ≤ 127)
    (e₁ : o₁ ≡ over o 0 (first_block t nonce (length a) (length p))) (e₂ : o₂ ≡ over o₁ 16 (encoded_data a))
    (eb : b ≡ blocks_of (length (encoded_data a))) (eb₃ : o₃ ≡ over o₂ ((b + 1) * 16) p) where
  -- where the payload begins
  abbrev place : ℕ
  place = (blocks_of (length (encoded_data a)) + 1) * 16

  e₃ : o₃ ≡ over o₂ place p
  e₃ = eb₃ ∙ ap (λ (n : ℕ). over o₂ ((n + 1) * 16) p) eb

  after_data : (16 + length (encoded_data a) ≤ place) × (place ≤ 160)
  after_data = (omega (arith, blocks_hold (length (encoded_data a))), omega (arith, few_blocks (length (encoded_data a)) ha))

  room₁ : 0 + length (first_block t nonce (length a) (length p)) ≤ length o
  room₁ = omega (arith, room, hf)

  len₁ : length o₁ ≡ 288
  len₁ = ap length e₁ ∙ length_over o 0 _ room₁ ∙ room

  room₂ : 16 + length (encoded_data a) ≤ length o₁
  room₂ = omega (arith, len₁, ha)

  len₂ : length o₂ ≡ 288
  len₂ = ap length e₂ ∙ length_over o₁ 16 _ room₂ ∙ len₁

  room₃ : place + length p ≤ length o₂
  room₃ = omega (arith, len₂, after_data.1, hp)

  blank₁ : Blank o₁ 16
  blank₁ = rw e₁ (blank_behind o _ 0 room₁ blank 16 (omega (arith, hf)))

  blank₂ : Blank o₂ place
  blank₂ = rw e₂ (blank_behind o₁ _ 16 room₂ blank₁ place after_data.0)

  in_first : (k : ℕ) → k < 16 → get_or o₃ k 0 ≡ get_or (first_block t nonce (length a) (length p)) k 0
  in_first k l =
      ap (λ (s : List ℕ). get_or s k 0) e₃ ∙ over_before o₂ p place room₃ k (omega (arith, after_data.0))
      ∙ ap (λ (s : List ℕ). get_or s k 0) e₂ ∙ over_before o₁ _ 16 room₂ k l
      ∙ (λ i. get_or (e₁ i) (sym (zero-add k) i) 0) ∙ over_from o _ 0 room₁ blank k

  in_data : (k : ℕ) → 16 + k < place → get_or o₃ (16 + k) 0 ≡ get_or (encoded_data a) k 0
  in_data k l =
      ap (λ (s : List ℕ). get_or s (16 + k) 0) e₃ ∙ over_before o₂ p place room₃ (16 + k) l
      ∙ ap (λ (s : List ℕ). get_or s (16 + k) 0) e₂ ∙ over_from o₁ _ 16 room₂ blank₁ k

  in_payload : (k : ℕ) → get_or o₃ (place + k) 0 ≡ get_or p k 0
  in_payload k = ap (λ (s : List ℕ). get_or s (place + k) 0) e₃ ∙ over_from o₂ p place room₃ blank₂ k

  -- block 0, those of the data and those of the payload
  pub formats : Formats t nonce a p o₃
  unfolding block_at formatted
  formats zero h =
      tab_ext _ _ 16
      (λ j l.
      let e : 0 * 16 + j ≡ j = omega arith in
      ap (λ (n : ℕ). get_or o₃ n 0) e ∙ in_first j l)
      ∙ tab_get_or (first_block t nonce (length a) (length p)) 0 16 (omega (arith, hf)) ∙ take_all 16 _ (omega (arith, hf))
  formats (suc i) h =
      elim (dec_lt i (blocks_of (length (encoded_data a)))) [
        | yes l ↦
            rw (lt-ltb i (blocks_of (length (encoded_data a))) l)
            (tab_ext _ _ 16
            (λ j k.
            let e : suc i * 16 + j ≡ 16 + (i * 16 + j) = omega arith in
            ap (λ (n : ℕ). get_or o₃ n 0) e ∙ in_data (i * 16 + j) (omega arith)))
        | no l ↦
            rw (le-ltb i (blocks_of (length (encoded_data a))) (omega arith))
            (tab_ext _ _ 16
            (λ j k.
            let e : suc i * 16 + j ≡ place + ((i - blocks_of (length (encoded_data a))) * 16 + j) = omega arith in
            ap (λ (n : ℕ). get_or o₃ n 0) e ∙ in_payload ((i - blocks_of (length (encoded_data a))) * 16 + j)))
      ]
