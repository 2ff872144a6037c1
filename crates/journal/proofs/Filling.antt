-- A list filled anew is the senders, zeros in the counted places behind them, and the rest as it was. Assumes nothing.
use Rattle.std.proofs.Common.{◌≡◌, refl, sym, ap, List, [], ◌∷◌, ◌++◌, ℕ, zero, suc, ◌+◌, ◌-◌, ◌≤◌, min, length, drop, replicate, arith}
use Rattle.std.proofs.lemmas.List.{take_at, drop_at, drop-drop, drop_min}
use borrow.Rule.Slice.PartMut.{put_mid}
use Rattle.senders.specs.declared.SenderRecord.{SenderRecord}
use Rattle.senders.specs.Records.{free_record}
use Rattle.journal.specs.Recovery.{anew}

anew_parts : (n k : ℕ) (ss l : List SenderRecord) → length ss + k ≡ min (length l) n → anew n ss l ≡ ss ++ (replicate k free_record ++ drop n l)
unfolding anew
anew_parts zero zero [] l e = refl
anew_parts zero (suc k) [] l e = absurd (omega (arith, e))
anew_parts zero k (s ∷ ss) l e = absurd (omega (arith, e))
anew_parts (suc n) zero [] [] e = refl
anew_parts (suc n) (suc k) [] [] e = absurd (omega (arith, e))
anew_parts (suc n) k (s ∷ ss) [] e = absurd (omega (arith, e))
anew_parts (suc n) zero [] (x ∷ l) e = absurd (omega (arith, e))
anew_parts (suc n) (suc k) [] (x ∷ l) e = ap (λ (m : List SenderRecord). free_record ∷ m) (anew_parts n k [] l (omega (arith, e)))
anew_parts (suc n) k (s ∷ ss) (x ∷ l) e = ap (λ (m : List SenderRecord). s ∷ m) (anew_parts n k ss l (omega (arith, e)))

-- the senders put over the front, and zeros behind them up to the counted places
pub filled : (places : ℕ) (ss l zs : List SenderRecord) → places ≡ min (length l) 64 → length ss ≤ places → zs ≡ replicate (places - length ss) free_record
    → put_mid (length ss) (places - length ss) (ss ++ drop (length ss) l) zs ≡ anew 64 ss l
filled places ss l zs e h z =
    let k = places - length ss in
    let n : length ss + k ≡ min 64 (length l) = omega (arith, h, e) in
    rw (take_at ss (drop (length ss) l) (length ss) refl, drop_at ss (drop (length ss) l) (length ss) refl, drop-drop k (length ss) l, n, drop_min 64 l, z)
    (sym (anew_parts 64 k ss l (omega (arith, h, e))))
