-- With p = 0 and without a distance an answer's words are the right numbers and their marks. Assumes nothing.
use Rattle.std.specs.Prelude.{Option, Some, None}
use mathlib.Core.Path.{◌≡◌, refl, ap}
use mathlib.Core.Bool.{false}
use mathlib.Core.List.{List, [], ◌∷◌, map}
use Prim.Native.Nat.{ℕ}
use native.Mathlib.Omega.{arith}
use lib.ListN.{length}
use Rattle.frames.specs.Cells.{Cell, value_word, mark_word, Rows, Words}
use Rattle.tables.specs.Table.{words_of, table_of}
use Rattle.order.specs.declared.options.Options.{Options}
use Rattle.matching.specs.Answer.{number_word, choice_mark, cells_from, answer_row, answer_rows, number_words, OldForm}
use Rattle.matching.proofs.AnswerRows.{answer_count}

module _ (o : Options) (i : ℕ) (rights : Rows) (none : o.carried ≡ 0) (no : o.with_distance ≡ false) where
  pub value_old : (x : List Cell) (m : Option ℕ) → map value_word (answer_row o i rights x m) ≡ number_word m ∷ []
  unfolding answer_row cells_from
  value_old x (Some k) = rw (no, none)
  value_old x None = rw (no, none)

  pub mark_old : (x : List Cell) (m : Option ℕ) → map mark_word (answer_row o i rights x m) ≡ choice_mark m ∷ []
  unfolding answer_row cells_from
  mark_old x (Some k) = rw (no, none)
  mark_old x None = rw (no, none)

  values_old : (xs : Rows) (ms : List (Option ℕ)) → length xs ≡ length ms → words_of value_word (answer_rows o i rights xs ms) ≡ map number_word ms
  unfolding answer_rows words_of
  values_old [] [] e = refl
  values_old [] (m ∷ ms) e = absurd (omega arith)
  values_old (x ∷ xs) [] e = absurd (omega arith)
  values_old (x ∷ xs) (m ∷ ms) e = rw (value_old x m) (ap (λ (z : Words). number_word m ∷ z) (values_old xs ms (omega arith)))

  marks_old : (xs : Rows) (ms : List (Option ℕ)) → length xs ≡ length ms → words_of mark_word (answer_rows o i rights xs ms) ≡ map choice_mark ms
  unfolding answer_rows words_of
  marks_old [] [] e = refl
  marks_old [] (m ∷ ms) e = absurd (omega arith)
  marks_old (x ∷ xs) [] e = absurd (omega arith)
  marks_old (x ∷ xs) (m ∷ ms) e = rw (mark_old x m) (ap (λ (z : Words). choice_mark m ∷ z) (marks_old xs ms (omega arith)))

pub old_form : OldForm
unfolding number_words table_of
old_form o i rights xs ms p0 d0 e =
    rw (values_old o i rights p0 d0 xs ms e, marks_old o i rights p0 d0 xs ms e, answer_count o i rights xs ms e, d0, p0)
