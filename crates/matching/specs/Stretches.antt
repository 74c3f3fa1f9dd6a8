-- What a walk over rows has before it and behind it: the rows of a stretch, the length of a run, the best row so far, the words of the choices made. Assumes nothing.
use Rattle.std.specs.Prelude.{cond, List, [], ◌∷◌, ℕ, suc, ◌+◌, ◌-◌, ◌*◌, ltb, drop, set, Option}
use Rattle.frames.specs.Cells.{Cell, Rows, Words, rows_of, row_from}
use Rattle.order.specs.Order.{cmp_group, null_group}
use Rattle.order.specs.declared.options.Options.{Options}
use Rattle.std.specs.declared.cmp.Ordering.{Ordering}
use Rattle.std.specs.declared.cmp.Ordering.TheVariants.{Less}
use Rattle.matching.specs.Match.{Hit, nobody, hit}
use Rattle.matching.specs.Groups.{same_run}
use Rattle.matching.specs.Answer.{number_word, choice_mark}

-- Rows from..to of a stretch whose rows are w wide.
unfoldable pub between : ℕ → ℕ → ℕ → Words → Words → Rows
between w from to vs ms = rows_of w (to - from) (drop (from * w) vs) (drop (from * w) ms)

-- How many rows behind r stand in its run; and the length of the first run.
unfoldable pub run_on : Options → List Cell → Rows → ℕ
run_on o r [] = 0
run_on o r (s ∷ rs) = cond (same_run o r s) (suc (run_on o s rs)) 0

unfoldable pub run_length : Options → Rows → ℕ
run_length o [] = 0
run_length o (r ∷ rs) = suc (run_on o r rs)

-- How a right row stands to a left one: a null group is passed, as a lesser one is.
unfoldable pub standing : Options → List Cell → List Cell → Ordering
standing o x r = cond (null_group o r) Less (cmp_group o r x)

-- The best of the rows below `to`, by its index; `to` itself stands for none. Row i has the number first + i.
unfoldable pub hit_at : ℕ → ℕ → ℕ → Words → Words → ℕ → Hit
hit_at first w to vs ms best = cond (ltb best to) (hit (first + best) (row_from w (best * w) vs ms)) nobody

-- The choices written as those of the rows from i on, into an answer of m cells: numbers behind the two head words, marks behind the places of all values. If more than the number is written of a row, these are then moved apart.
unfoldable pub lay : ℕ → ℕ → List (Option ℕ) → Words → Words
lay m i [] out = out
lay m i (k ∷ ks) out = lay m (suc i) ks (set (set out (2 + i) (number_word k)) (2 + m + i) (choice_mark k))
