-- SCOPE 15.21: with p = 0 and without a distance the theorem is the one on right numbers alone. The statement; its proof is in proofs/. Assumes nothing.
use Rattle.std.specs.Prelude.{◌≡◌, false, List, [], ◌∷◌, ℕ, ◌+◌, ◌*◌, length, Option}
use Rattle.frames.specs.Cells.{Cell, Rows, Words}
use Rattle.frames.specs.Frame.{frame_words}
use Rattle.order.specs.options.Options.{columns, right_columns, answer_columns}
use Rattle.order.specs.declared.options.Options.{Options}
use Rattle.tables.specs.Table.{laid}
use Rattle.matching.specs.Match.{whole_table}
use Rattle.matching.specs.Answer.{number_word, choice_mark, answer_rows, number_words, answered}
use Rattle.lists.specs.WholeTables.{due_over}

pub record OldForm (o : Options) : Type 0 where
  -- Right frames have b + 1 columns, as left ones.
  pub width : right_columns o ≡ columns o
  -- An answer of n rows has 2 + 2n words: this is what 6 wants, and by how much a run goes on.
  pub words : (n : ℕ) → frame_words n (answer_columns o) ≡ 2 + 2 * n
  -- A turn writes n, 1, n right numbers, n marks; the rest of the output is untouched.
  pub written : (i : ℕ) (rights xs : Rows) (ms : List (Option ℕ)) → length xs ≡ length ms → (out : Words) → answered o (answer_rows o i rights xs ms) out ≡ laid (number_words ms) out
  -- What is due is a right number and its mark, 0 and 0 for none.
  pub due : (rights : Rows) (x : List Cell) → due_over o rights x ≡ record { values = number_word (whole_table o rights x) ∷ []; marks = choice_mark (whole_table o rights x) ∷ [] }

-- For all options with p = 0 that add no distance.
abbrev pub OldTheorem : Type 0
OldTheorem = (o : Options) → o.carried ≡ 0 → o.with_distance ≡ false → OldForm o
