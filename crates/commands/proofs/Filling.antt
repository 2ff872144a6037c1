-- A loop that fills an array from the front, with d past what it has filled: its start, its turn and its end.
-- Assumes nothing.
use mathlib.Core.Path.{◌≡◌, refl, sym, ap, ◌∙◌}
use mathlib.Core.List.{List, ◌++◌, append-nil}
use Prim.Native.Nat.{ℕ, ◌+◌, ◌≤◌, ◌<◌}
use native.Mathlib.Omega.{arith}
use lib.ListN.{length, get_or, drop, set, replicate, length-replicate, drop_of_length-le}
use lib.Seq.{take_all}
use Rattle.octets.specs.Strings.{tab}
use Rattle.octets.proofs.Strings.{length_tab, tab_get_or, fill_more}
use Rattle.commands.specs.Reading.{places}

-- of n entries f 0, f 1, .. the first k stand in m places
pub record Filled {A : Type 0} (f : ℕ → A) (m : ℕ) (d : A) (n k : ℕ) (xs : List A) : Type 0 where
  pub bound : k ≤ n
  pub entries : xs ≡ tab f k ++ drop k (replicate m d)

pub fill_none : {A : Type 0} (f : ℕ → A) (m : ℕ) (d : A) (n : ℕ) → Filled f m d n 0 (replicate m d)
unfolding tab
fill_none f m d n = record { bound = omega arith; entries = refl }

pub fill_next : {A : Type 0} {f : ℕ → A} {m : ℕ} {d : A} {n k : ℕ} {xs : List A} {x : A} → Filled f m d n k xs → k < n → n ≤ m → x ≡ f k
    → Filled f m d n (k + 1) (set xs k x)
fill_next {A} {f} {m} {d} {n} {k} {xs} {x} e h l q =
    record {
      bound = omega arith;
      entries = (λ i. set (e.entries i) k (q i)) ∙ fill_more f k (replicate m d) (rw (length-replicate m d) (omega arith));
    }

pub fill_all : {A : Type 0} {f : ℕ → A} {m : ℕ} {d : A} {n k : ℕ} {xs : List A} → Filled f m d n k xs → n ≤ k → xs ≡ places d m (tab f n)
unfolding places
fill_all {A} {f} {m} {d} {n} {k} {xs} e h =
    let same : k ≡ n = omega arith in
    e.entries ∙ ap (λ (j : ℕ). tab f j ++ drop j (replicate m d)) same
    ∙ ap (λ (j : ℕ). tab f n ++ drop j (replicate m d)) (sym (length_tab f n))

-- with as many entries as places, nothing is left over
pub places_whole : {A : Type 0} (f : ℕ → A) (d : A) (m : ℕ) → places d m (tab f m) ≡ tab f m
unfolding places
places_whole {A} f d m =
    let all : length (replicate m d) ≤ length (tab f m) = rw (length_tab f m, length-replicate m d) (omega arith) in
    ap (λ (l : List A). tab f m ++ l) (drop_of_length-le (replicate m d) all) ∙ append-nil (tab f m)

-- a list's entries by index are the list
pub tab_whole : {A : Type 0} (s : List A) (d : A) → tab (λ (k : ℕ). get_or s k d) (length s) ≡ s
tab_whole s d = tab_get_or s d (length s) (omega arith) ∙ take_all (length s) s (omega arith)
