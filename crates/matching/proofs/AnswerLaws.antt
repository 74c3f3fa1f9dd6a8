-- The words of an answer, read back. Assumes nothing.
use mathlib.Core.Path.{◌≡◌, refl, sym, ap, ◌∙◌}
use mathlib.Core.List.{[], ◌∷◌, ◌++◌, append_assoc}
use Prim.Native.Nat.{◌+◌, ◌≤◌}
use native.Mathlib.Omega.{arith}
use lib.IntN.{pos}
use lib.ListN.{length, drop, length-append, length-drop}
use lib.Seq.{take-length, drop_at}
use Rattle.frames.specs.Cells.{value_word, mark_word, Rows, Words}
use Rattle.frames.specs.Frame.{row_count, frame_words}
use Rattle.order.specs.options.Options.{answer_columns}
use Rattle.order.specs.declared.options.Options.{Options}
use Rattle.tables.specs.Table.{words_of, table_of, laid}
use Rattle.tables.proofs.TableLaws.{Wide, words_length}
use Rattle.matching.specs.Answer.{answered}

module _ (o : Options) (rs : Rows) (out : Words) where
  abbrev words : Words
  words = pos (length rs) ∷ pos (answer_columns o) ∷ words_of value_word rs ++ words_of mark_word rs

  -- The answer, and the rest of the output as it was.
  answered_then : answered o rs out ≡ words ++ drop (0 + length words) out
  unfolding answered laid table_of
  answered_then = ap (λ (y : Words). y ++ drop (0 + length words) out) (take-length words)

  -- The head words, the values, the marks, the rest.
  pub answered_is : answered o rs out ≡ pos (length rs) ∷ pos (answer_columns o) ∷ (words_of value_word rs ++ (words_of mark_word rs ++ drop (0 + length words) out))
  answered_is = answered_then ∙ ap (λ (y : Words). pos (length rs) ∷ pos (answer_columns o) ∷ y) (append_assoc (words_of value_word rs) (words_of mark_word rs) (drop (0 + length words) out))

  pub answered_count : row_count (answered o rs out) ≡ length rs
  answered_count = rw answered_is

  module _ (wide : Wide (answer_columns o) rs) where
    answer_length : 0 + length words ≡ frame_words (length rs) (answer_columns o)
    answer_length =
        omega (arith, length-append (words_of value_word rs) (words_of mark_word rs), words_length value_word (answer_columns o) rs wide, words_length mark_word (answer_columns o) rs wide)

    pub answered_rest : drop (frame_words (length rs) (answer_columns o)) (answered o rs out) ≡ drop (frame_words (length rs) (answer_columns o)) out
    answered_rest = rw (answered_then, ← answer_length) (drop_at words (drop (0 + length words) out) (0 + length words) (omega arith))

    pub answered_length : frame_words (length rs) (answer_columns o) ≤ length out → length (answered o rs out) ≡ length out
    answered_length room =
        ap length answered_then ∙ length-append words (drop (0 + length words) out) ∙ omega (arith, length-drop (0 + length words) out, answer_length)
