-- A loop that puts entries one behind the other: what stands there is the one string of their bytes.
-- Assumes nothing.
use mathlib.Core.Path.{◌≡◌, refl, sym, ap, ◌∙◌}
use mathlib.Core.List.{List}
use Prim.Native.Nat.{ℕ, ◌+◌, ◌*◌, ◌≤◌, ◌<◌}
use native.Mathlib.Omega.{arith}
use lib.ListN.{length}
use Rattle.octets.specs.Strings.{over, tab}
use Rattle.octets.proofs.Strings.{over_nil, over_then, length_tab}
use Rattle.commands.specs.Format.{Field, sizes, write_fields, write_entries}
use Rattle.commands.proofs.Format.{length_write_entries, entries_more}

-- of n entries g 0, g 1, .. the first k stand from place i of o on
pub record Put (fs : List Field) (g : ℕ → List ℕ) (n k : ℕ) (o : List ℕ) (i : ℕ) (out : List ℕ) : Type 0 where
  pub bound : k ≤ n
  pub room : length out ≡ length o
  pub bytes : out ≡ over o i (write_entries fs (tab g k))

-- no entry yet
pub put_none : (fs : List Field) (g : ℕ → List ℕ) (n : ℕ) (o : List ℕ) (i : ℕ) → Put fs g n 0 o i o
unfolding tab write_entries
put_none fs g n o i = record { bound = omega arith; room = refl; bytes = sym (over_nil o i) }

-- one entry more
pub put_next : {fs : List Field} {g : ℕ → List ℕ} {n k i : ℕ} {o out : List ℕ} → Put fs g n k o i out → k < n → i ≤ length o
    → {out₂ : List ℕ} → length out₂ ≡ length out → out₂ ≡ over out (i + k * sizes fs) (write_fields fs (g k)) → Put fs g n (k + 1) o i out₂
put_next {fs} {g} {n} {k} {i} {o} {out} p h l {out₂} e f =
    let whole : length (write_entries fs (tab g k)) ≡ k * sizes fs = length_write_entries fs (tab g k) ∙ ap (λ (m : ℕ). m * sizes fs) (length_tab g k) in
    record {
      bound = omega arith;
      room = e ∙ p.room;
      bytes =
          over_then o out out₂ i (i + k * sizes fs) (write_entries fs (tab g k)) (write_fields fs (g k)) l (ap (λ (m : ℕ). i + m) (sym whole)) p.bytes f
          ∙ ap (over o i) (sym (entries_more fs g k));
    }

-- all of them
pub put_all : {fs : List Field} {g : ℕ → List ℕ} {n k i : ℕ} {o out : List ℕ} → Put fs g n k o i out → n ≤ k → out ≡ over o i (write_entries fs (tab g n))
put_all {fs} {g} {n} {k} {i} {o} p h = let same : k ≡ n = omega arith in p.bytes ∙ ap (λ (j : ℕ). over o i (write_entries fs (tab g j))) same
