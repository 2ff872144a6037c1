-- `casefile::fields::field` meets its contract: the word's digits are read into the front of the output.
-- Assumes nothing.
use mathlib.Core.Bool.{true, false}
use mathlib.Core.List.{List, ◌++◌}
use mathlib.Core.Path.{◌≡◌, sym, ap, ◌∙◌}
use Prim.Native.Nat.{ℕ, ◌/◌, min}
use lib.ListN.{length, take, drop}
use lib.Seq.{length-take-le}
use Rattle.casefile.specs.Fields.{is_dash}
use Rattle.casefile.specs.Hex.{is_hex, hex_bytes}
use Rattle.casefile.specs.Words.{word_of}
use Rattle.casefile.proofs.Texts.{same_text_lem}
use Rattle.casefile.proofs.FieldReading.{field_dash, bytes_dash, field_digits, bytes_digits}
use Rattle.casefile.proofs.fields.field.Goals as goal

pub returns-then-same-clause-value : goal.returns-then-same-clause-value
returns-then-same-clause-value c =
    let same = c.same in
    let dash = rw c.word-w.ensures at (sym (same_text_lem same.result _ _ same.ensures.0 same.ensures.1) ∙ c.if-same.true) in
    sym (field_dash _ _ dash)

pub returns-then-same-clause-out_after : goal.returns-then-same-clause-out_after
returns-then-same-clause-out_after c =
    let same = c.same in
    let dash = rw c.word-w.ensures at (sym (same_text_lem same.result _ _ same.ensures.0 same.ensures.1) ∙ c.if-same.true) in
    sym (bytes_dash _ _ dash)

pub returns-then-decode-clause-value : goal.returns-then-decode-clause-value
returns-then-decode-clause-value c =
    let w = c.word-w.ensures in
    let entry = c.args in
    let n = c.within-n in
    let word : List ℕ = word_of entry.line.now entry.k in
    let no-dash : is_dash word ≡ false =
    rw (← w) (sym (same_text_lem c.same.result _ _ c.same.ensures.0 c.same.ensures.1) ∙ c.if-same.false) in
    let count : n.result ≡ min (length word / 2) (length entry.out.now) = rw (← w) n.ensures.value in
    let good : true ≡ is_hex word (length (take n.result entry.out.now)) = rw (← w) (sym c.if-decode.true ∙ c.decode.ensures.value) in
    sym (field_digits word _ _ _ _ no-dash count (length-take-le _ _ n.ensures.prefix_len.0) good)

pub returns-then-decode-clause-out_after : goal.returns-then-decode-clause-out_after
returns-then-decode-clause-out_after c =
    let w = c.word-w.ensures in
    let entry = c.args in
    let word : List ℕ = word_of entry.line.now entry.k in
    let no-dash : is_dash word ≡ false =
    rw (← w) (sym (same_text_lem c.same.result _ _ c.same.ensures.0 c.same.ensures.1) ∙ c.if-same.false) in
    let bytes : c.decode.new.out ≡ hex_bytes word = rw (← w) (c.decode.ensures.out_after c.if-decode.true) in
    ap (λ (l : List ℕ). l ++ drop c.within-n.result entry.out.now) (bytes ∙ sym (bytes_digits word no-dash))

pub returns-else-decode-clause-value : goal.returns-else-decode-clause-value
returns-else-decode-clause-value c =
    let w = c.word-w.ensures in
    let entry = c.args in
    let n = c.within-n in
    let word : List ℕ = word_of entry.line.now entry.k in
    let no-dash : is_dash word ≡ false =
    rw (← w) (sym (same_text_lem c.same.result _ _ c.same.ensures.0 c.same.ensures.1) ∙ c.if-same.false) in
    let count : n.result ≡ min (length word / 2) (length entry.out.now) = rw (← w) n.ensures.value in
    let good : false ≡ is_hex word (length (take n.result entry.out.now)) = rw (← w) (sym c.if-decode.false ∙ c.decode.ensures.value) in
    sym (field_digits word _ _ _ _ no-dash count (length-take-le _ _ n.ensures.prefix_len.0) good)
