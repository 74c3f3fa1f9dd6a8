-- What a turn wrote, read back as matches: the rows of its answer, whatever the output was before. Assumes nothing.
use mathlib.Core.Path.{◌≡◌, refl, ap, ◌∙◌}
use mathlib.Core.List.{List, [], ◌∷◌, ◌++◌, map, append_assoc}
use Prim.Native.Nat.{ℕ, suc, ◌+◌, ◌*◌}
use native.Mathlib.Omega.{arith}
use lib.ListN.{length, drop, length-map}
use lib.Seq.{take_at, drop_at}
use Rattle.frames.specs.Cells.{value_word, mark_word, Rows, Words}
use Rattle.order.specs.options.Options.{answer_columns}
use Rattle.order.specs.declared.options.Options.{Options}
use Rattle.tables.specs.Table.{words_of, table_of}
use Rattle.tables.proofs.TableLaws.{Wide, words_length}
use Rattle.matching.specs.Answer.{answered}
use Rattle.matching.proofs.AnswerLaws.{answered_is}
use Rattle.lists.specs.Lists.{Entry, entries_of, written_in}
use Rattle.lists.specs.WholeTables.{as_written}

entries_back : (c : ℕ) (rs : Rows) (E F : Words) → Wide c rs → entries_of c (length rs) (words_of value_word rs ++ E) (words_of mark_word rs ++ F) ≡ map as_written rs
unfolding entries_of words_of
entries_back c [] E F h = refl
entries_back c (r ∷ rs) E F h =
    let lv = length-map r value_word ∙ h.0 in
    let lm = length-map r mark_word ∙ h.0 in
    rw (append_assoc (map value_word r) (words_of value_word rs) E, append_assoc (map mark_word r) (words_of mark_word rs) F, take_at (map value_word r) (words_of value_word rs ++ E) c lv, take_at (map mark_word r) (words_of mark_word rs ++ F) c lm, drop_at (map value_word r) (words_of value_word rs ++ E) c lv, drop_at (map mark_word r) (words_of mark_word rs ++ F) c lm)
    (ap (λ (z : List Entry). as_written r ∷ z) (entries_back c rs E F h.1))

pub written_back : (o : Options) (rs : Rows) (out : Words) → Wide (answer_columns o) rs → written_in (answer_columns o) (answered o rs out) ≡ map as_written rs
unfolding written_in table_of
written_back o rs out h =
    let rest : Words = drop (0 + length (table_of (answer_columns o) rs)) out in
    let e : 2 + length rs * answer_columns o ≡ suc (suc (length rs * answer_columns o)) = omega arith in
    rw (answered_is o rs out, e, drop_at (words_of value_word rs) (words_of mark_word rs ++ rest) (length rs * answer_columns o) (words_length value_word (answer_columns o) rs h))
    (entries_back (answer_columns o) rs (words_of mark_word rs ++ rest) rest h)
