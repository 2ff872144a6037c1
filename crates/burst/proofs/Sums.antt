-- The lengths of a burst and where its frames stand: one length more, the frames end to end.
-- Assumes nothing.
use mathlib.Core.Path.{◌≡◌, refl, sym, ap, ◌∙◌}
use mathlib.Core.List.{List, [], ◌∷◌, ◌++◌}
use Prim.Native.Nat.{ℕ, zero, suc, ◌+◌, ◌-◌, ◌≤◌, ◌<◌}
use native.Mathlib.Nat.{add-zero, zero-add, add_assoc}
use native.Mathlib.Numerals.{add-one}
use native.Mathlib.Omega.{arith}
use lib.ListN.{length, get_or, take, drop, length-drop, take-append-drop}
use lib.Seq.{length-take-le, take_all, take-suc, take-add}
use Rattle.octets.specs.Strings.{Below}
use Rattle.octets.proofs.Strings.{take_below, drop_below}
use Rattle.burst.specs.Burst.{total, frame_at, joined}

total_append : (ns ms : List ℕ) → total (ns ++ ms) ≡ total ns + total ms
unfolding total
total_append [] ms = sym (zero-add (total ms))
total_append (n ∷ ns) ms = rw (total_append ns ms) (sym (add_assoc n (total ns) (total ms)))

-- one length more
pub total_more : (ns : List ℕ) (k : ℕ) → k < length ns → total (take (k + 1) ns) ≡ total (take k ns) + get_or ns k 0
unfolding total
total_more ns k h = rw (add-one, take-suc ns k 0 h, total_append (take k ns) (get_or ns k 0 ∷ [])) (rw add-zero refl)

-- all lengths
pub total_all : (ns : List ℕ) (k : ℕ) → length ns ≤ k → total (take k ns) ≡ total ns
total_all ns k h = ap total (take_all k ns h)

-- a frame ends within the bytes lent
pub within : (ns : List ℕ) (k : ℕ) → k < length ns → total (take k ns) + get_or ns k 0 ≤ total ns
within ns k h =
    let parts = ap total (sym (take-append-drop (k + 1) ns)) ∙ total_append (take (k + 1) ns) (drop (k + 1) ns) in
    omega (arith, total_more ns k h, parts)

-- the bytes from where frame k begins to where it ends
pub frame_is : (fs ns : List ℕ) (k at : ℕ) → at ≡ total (take k ns) → take (at + get_or ns k 0 - at) (drop at fs) ≡ frame_at fs ns k
unfolding frame_at
frame_is fs ns k at e =
    let size : at + get_or ns k 0 - at ≡ get_or ns k 0 = omega arith in
    λ i. take (size i) (drop (e i) fs)

module _ (fs ns : List ℕ) (sum : total ns ≡ length fs) where
  pub length_frame : (k : ℕ) → k < length ns → length (frame_at fs ns k) ≡ get_or ns k 0
  unfolding frame_at
  length_frame k h =
      length-take-le (get_or ns k 0) (drop (total (take k ns)) fs) (rw (length-drop (total (take k ns)) fs) (omega (arith, within ns k h)))

  -- the first k frames are the bytes in front of frame k
  joined_front : (k : ℕ) → k ≤ length ns → joined (frame_at fs ns) k ≡ take (total (take k ns)) fs
  unfolding joined total frame_at
  joined_front zero h = refl
  joined_front (suc k) h =
      let more : total (take (suc k) ns) ≡ total (take k ns) + get_or ns k 0 = ap (λ (n : ℕ). total (take n ns)) (sym (add-one k)) ∙ total_more ns k (omega arith) in
      rw (joined_front k (omega arith), more) (sym (take-add (total (take k ns)) (get_or ns k 0) fs))

  pub frames_whole : joined (frame_at fs ns) (length ns) ≡ fs
  frames_whole =
      joined_front (length ns) (omega arith) ∙ rw (total_all ns (length ns) (omega arith)) (take_all (total ns) fs (omega arith))

-- ---- bytes

-- a frame has the bytes lent
pub frame_below : (fs ns : List ℕ) (k : ℕ) → Below 256 fs → Below 256 (frame_at fs ns k)
unfolding frame_at
frame_below fs ns k b = take_below _ (get_or ns k 0) 256 (omega arith) (drop_below fs (total (take k ns)) 256 b)
