-- A turn of the loop that opens each frame, over plain values: the output and the list after one frame more.
-- Assumes nothing.
use mathlib.Core.Path.{◌≡◌, sym, ap, ◌∙◌}
use mathlib.Core.List.{List, ◌++◌, append_assoc}
use Prim.Native.Nat.{ℕ, ◌+◌, ◌*◌, ◌-◌, ◌≤◌, ◌<◌}
use native.Mathlib.Numerals.{add-one}
use native.Mathlib.Omega.{arith}
use lib.ListN.{length, get_or, take, drop, set}
use lib.Seq.{take_at, drop_at, drop-drop}
use Rattle.octets.proofs.Strings.{fill_turn}
use Rattle.types.specs.declared.level.Level.{Level}
use Rattle.frame.specs.Opening as opening
use Rattle.frame.specs.Opening.{open_with}
use Rattle.records.specs.OpenedRecord.{opened_record}
use Rattle.burst.specs.Burst.{total, part_at, alone, joined, out_after, answers_after}
use Rattle.burst.proofs.Sums.{frame_is}
use Rattle.burst.proofs.Parts.{length_joined}
use Rattle.burst.proofs.Accepted.{alone_size}

-- frame k begins at `at`; n bytes of the output, of which l is filled in front of it, are lent for its part
module _ (level : Level) (ciph : List ℕ → List ℕ) (fs ns o : List ℕ) (k at n : ℕ) (l : List ℕ) (fits : 108 * length ns ≤ length o)
    (below : k < length ns) (start : at ≡ total (take k ns)) (size : n ≡ 108) (filled : l ≡ out_after level ciph fs ns o k) where
  -- the run of opening the bytes that are lent
  abbrev pub lent : opening.Run
  lent = open_with level ciph (take (at + get_or ns k 0 - at) (drop at fs)) (take n (drop (108 * k) l))

  front_size : length (joined (λ (i : ℕ). (alone level ciph fs ns o i).out) k) ≡ 108 * k
  front_size = length_joined _ k (λ i h. alone_size level ciph fs ns o fits i (omega arith))

  rest_is : drop (108 * k) l ≡ drop (108 * k) o
  unfolding out_after
  rest_is = ap (drop (108 * k)) filled ∙ drop_at (joined _ k) (drop (108 * k) o) (108 * k) front_size

  -- it is frame k alone into its own part
  lent_is : lent ≡ alone level ciph fs ns o k
  unfolding alone part_at
  lent_is = λ i. open_with level ciph (frame_is fs ns k at start i) (take (size i) (rest_is i))

  -- m came back for the part
  pub out_more : (m : List ℕ) → m ≡ lent.out → take (108 * k) l ++ (m ++ drop n (drop (108 * k) l)) ≡ out_after level ciph fs ns o (k + 1)
  unfolding out_after joined
  out_more m e =
      let front : take (108 * k) l ≡ joined (λ (i : ℕ). (alone level ciph fs ns o i).out) k =
      ap (take (108 * k)) filled ∙ take_at (joined _ k) (drop (108 * k) o) (108 * k) front_size in
      let place : 108 * k + 108 ≡ 108 * (k + 1) = omega arith in
      let behind : drop n (drop (108 * k) l) ≡ drop (108 * (k + 1)) o =
      (λ i. drop (size i) (rest_is i)) ∙ drop-drop 108 (108 * k) o ∙ ap (λ (j : ℕ). drop j o) place in
      (λ i. front i ++ ((e ∙ ap (λ (r : opening.Run). r.out) lent_is) i ++ behind i)) ∙ sym (append_assoc (joined _ k) _ (drop (108 * (k + 1)) o))
      ∙ ap (λ (j : ℕ). joined (λ (i : ℕ). (alone level ciph fs ns o i).out) j ++ drop (108 * (k + 1)) o) (sym (add-one k))

  -- x is stored in its place of the list l'
  pub answers_more : (list l' : List (List ℕ)) (x : List ℕ) → length ns ≤ length list → l' ≡ answers_after level ciph fs ns o list k
      → x ≡ opened_record lent.answer → set l' k x ≡ answers_after level ciph fs ns o list (k + 1)
  unfolding answers_after
  answers_more list l' x listed d e =
      fill_turn _ k list l' x (omega arith) (e ∙ ap (λ (r : opening.Run). opened_record r.answer) lent_is) d
