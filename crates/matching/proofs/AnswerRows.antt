-- The rows of an answer: their width, their count, and what they are over joined stretches and for choices made by a rule. Assumes nothing.
use Rattle.std.specs.Prelude.{Option, Some, None}
use mathlib.Core.Path.{◌≡◌, refl, ap}
use mathlib.Core.Bool.{Bool, true, false, cond}
use mathlib.Core.List.{List, [], ◌∷◌, ◌++◌, map}
use Prim.Native.Nat.{ℕ, zero, suc, ◌-◌}
use native.Mathlib.Omega.{arith}
use lib.ListN.{length, get_or, replicate, length-append}
use Rattle.frames.specs.Cells.{Cell, null, Rows}
use Rattle.order.specs.options.Options.{columns, answer_columns}
use Rattle.order.specs.declared.options.Options.{Options}
use Rattle.order.specs.Order.{key_of, distance}
use Rattle.tables.proofs.TableLaws.{Wide}
use Rattle.matching.specs.Answer.{cells_from, distance_cell, answer_row, answer_rows}

cells_wide : (j n : ℕ) (r : List Cell) → length (cells_from j n r) ≡ n
unfolding cells_from
cells_wide j zero r = refl
cells_wide j (suc n) r = ap suc (cells_wide (suc j) n r)

nulls_wide : (n : ℕ) → length (replicate n null) ≡ n
nulls_wide zero = refl
nulls_wide (suc n) = ap suc (nulls_wide n)

module _ (o : Options) (i : ℕ) (rights : Rows) where
  -- Each row of an answer has as many columns as the answer.
  pub row_wide : (x : List Cell) (m : Option ℕ) → length (answer_row o i rights x m) ≡ answer_columns o
  unfolding answer_row
  row_wide x (Some k) = go o.with_distance
    where
      go : (b : Bool) → suc (length (cells_from (columns o) o.carried (get_or rights (k - i) []) ++ cond b (distance_cell (distance (key_of o (get_or rights (k - i) [])) (key_of o x)) ∷ []) [])) ≡ cond b (suc (suc o.carried)) (suc o.carried)
      go true = omega (arith, length-append (cells_from (columns o) o.carried (get_or rights (k - i) [])) (distance_cell (distance (key_of o (get_or rights (k - i) [])) (key_of o x)) ∷ []), cells_wide (columns o) o.carried (get_or rights (k - i) []))
      go false = omega (arith, length-append (cells_from (columns o) o.carried (get_or rights (k - i) [])) [], cells_wide (columns o) o.carried (get_or rights (k - i) []))
  row_wide x None = nulls_wide (answer_columns o)

  pub answer_wide : (xs : Rows) (ms : List (Option ℕ)) → Wide (answer_columns o) (answer_rows o i rights xs ms)
  unfolding answer_rows
  answer_wide [] ms = tt
  answer_wide (x ∷ xs) [] = tt
  answer_wide (x ∷ xs) (m ∷ ms) = (row_wide x m, answer_wide xs ms)

  pub answer_count : (xs : Rows) (ms : List (Option ℕ)) → length xs ≡ length ms → length (answer_rows o i rights xs ms) ≡ length ms
  unfolding answer_rows
  answer_count [] [] e = refl
  answer_count [] (m ∷ ms) e = absurd (omega arith)
  answer_count (x ∷ xs) [] e = absurd (omega arith)
  answer_count (x ∷ xs) (m ∷ ms) e = ap suc (answer_count xs ms (omega arith))

  -- The rows of two stretches are those of the one and of the other.
  pub answer_append : (xs ys : Rows) (ms ns : List (Option ℕ)) → length xs ≡ length ms → answer_rows o i rights (xs ++ ys) (ms ++ ns) ≡ answer_rows o i rights xs ms ++ answer_rows o i rights ys ns
  unfolding answer_rows
  answer_append [] ys [] ns e = refl
  answer_append [] ys (m ∷ ms) ns e = absurd (omega arith)
  answer_append (x ∷ xs) ys [] ns e = absurd (omega arith)
  answer_append (x ∷ xs) ys (m ∷ ms) ns e = ap (λ (z : Rows). answer_row o i rights x m ∷ z) (answer_append xs ys ms ns (omega arith))

  -- Where each choice is made by a rule, each row is.
  pub answer_map : (f : List Cell → Option ℕ) (xs : Rows) → answer_rows o i rights xs (map f xs) ≡ map (λ x. answer_row o i rights x (f x)) xs
  unfolding answer_rows
  answer_map f [] = refl
  answer_map f (x ∷ xs) = ap (λ (z : Rows). answer_row o i rights x (f x) ∷ z) (answer_map f xs)
