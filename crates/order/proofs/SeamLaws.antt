-- Where a left frame is put behind sorted rows: it is sorted with them exactly if their last row is not greater than its first row, and it is sorted itself.
-- This is what a strict turn asks (SCOPE 8.9, 15.22), and what it remembers asks it of the next frame. Assumes nothing.
use Rattle.std.specs.Prelude.{Some, None, ℕ, Option}
use mathlib.Core.Path.{◌≡◌, refl, sym, ap, ◌∙◌}
use mathlib.Core.Bool.{Bool, true, false, not, ◌&&◌, ◌||◌}
use mathlib.Core.List.{List, [], ◌∷◌, ◌++◌, append-nil}
use Prim.Native.Nat.{suc, ◌+◌, ◌≤◌}
use native.Mathlib.Omega.{arith}
use lib.ListN.{length, get_or, length-append}
use lib.Seq.{length-take-le}
use Rattle.frames.specs.Cells.{Cell, Rows}
use Rattle.frames.proofs.BoolLaws.{and-true}
use Rattle.order.specs.options.Options.{columns, is_strict}
use Rattle.order.specs.declared.options.Options.{Options}
use Rattle.order.specs.Order.{cmp_row, is_greater, sorted}
use Rattle.order.specs.Keyed.{first_row, last_row, first_left, last_left_at, row_at, recall, remember, remember_at, compared, no_row, out_of_order}
use Rattle.order.specs.declared.Row.{Row}
use Rattle.order.proofs.SortedLaws.{All, all_at}
use Rattle.order.proofs.KeyedLaws.{recall_remember, compared_alike, first_strict, last_strict, remember_none}

or_not : (g s : Bool) → (g || not s) ≡ not (not g && s)
or_not true s = refl
or_not false s = refl

-- The last row of some rows behind others is the last of all.
pub last_behind : (T : Rows) (r : List Cell) (rs : Rows) → row_at (T ++ (r ∷ rs)) (last_row (T ++ (r ∷ rs))) ≡ Some (get_or (r ∷ rs) (length rs) [])
last_behind [] r rs = refl
last_behind (t ∷ T) r rs = tail (T ++ (r ∷ rs)) (length-append T (r ∷ rs)) ∙ last_behind T r rs
  where
    tail : (X : Rows) → length X ≡ length T + suc (length rs) → row_at (t ∷ X) (last_row (t ∷ X)) ≡ row_at X (last_row X)
    tail [] e = absurd (omega arith)
    tail (x ∷ X) e = refl

module _ (o : Options) where
  -- The test of a turn whose order check is not off, with the last row before.
  abbrev pub unsorted : Option (List Cell) → Rows → Bool
  unsorted last rows = out_of_order o last (row_at rows (first_left o rows)) || not (sorted o rows)

  -- What is remembered is asked as the last of the rows T.
  abbrev pub Recalls : Rows → Row → Type 0
  Recalls T m = (rows : Rows) → unsorted (recall (columns o) m) rows ≡ unsorted (row_at T (last_row T)) rows

  pub recalled_none : Recalls [] no_row
  unfolding recall
  recalled_none rows = refl

  module _ (strict : is_strict o.check ≡ true) where
    -- Its first row is compared.
    asked : (last : Option (List Cell)) (rows : Rows) → unsorted last rows ≡ (out_of_order o last (row_at rows (first_row rows)) || not (sorted o rows))
    asked last rows = rw (first_strict o rows strict)

    one : (t : List Cell) (rows : Rows) → (out_of_order o (Some t) (row_at rows (first_row rows)) || not (sorted o rows)) ≡ not (sorted o (t ∷ rows))
    unfolding sorted
    one t [] = refl
    one t (r ∷ rows) = or_not (is_greater (cmp_row o t r)) (sorted o (r ∷ rows))

    behind : (T rows : Rows) → sorted o T ≡ true → (out_of_order o (row_at T (last_row T)) (row_at rows (first_row rows)) || not (sorted o rows)) ≡ not (sorted o (T ++ rows))
    unfolding sorted
    behind [] rows h = refl
    behind (t ∷ []) rows h = one t rows
    behind (t ∷ u ∷ T) rows h =
        let p = and-true (not (is_greater (cmp_row o t u))) (sorted o (u ∷ T)) h in
        behind (u ∷ T) rows p.1 ∙ ap (λ (b : Bool). not (b && sorted o (u ∷ (T ++ rows)))) (sym p.0)

    -- Rows behind sorted ones fail the test exactly if they are not sorted with them.
    pub seam : (T rows : Rows) → sorted o T ≡ true → unsorted (row_at T (last_row T)) rows ≡ not (sorted o (T ++ rows))
    seam T rows h = asked (row_at T (last_row T)) rows ∙ behind T rows h

    -- What is remembered of a row is asked as the row itself.
    alike : (t : List Cell) (rows : Rows) → columns o ≤ length t → unsorted (recall (columns o) (remember (compared o t))) rows ≡ unsorted (Some t) rows
    alike t rows w =
        ap (λ (m : Option (List Cell)). unsorted m rows) (recall_remember (compared o t) (columns o) (length-take-le (columns o) t w)) ∙ go (first_left o rows)
      where
        go : (k : Option ℕ) → (out_of_order o (Some (compared o t)) (row_at rows k) || not (sorted o rows)) ≡ (out_of_order o (Some t) (row_at rows k) || not (sorted o rows))
        go (Some i) = rw (compared_alike o t (get_or rows i []))
        go None = refl

    -- So it is once a frame went by: its last row is remembered, or what was, if it has no rows.
    pub recalled : (T rows : Rows) (m : Row) → All (λ r. columns o ≤ length r) rows → Recalls T m → Recalls (T ++ rows) (remember_at o m rows (last_left_at o rows))
    recalled T [] m wide h = λ more. rw (last_strict o [] strict, remember_none o m [], append-nil T) (h more)
    recalled T (r ∷ rows) m wide h = λ more.
        rw (last_strict o (r ∷ rows) strict, last_behind T r rows)
        (alike (get_or (r ∷ rows) (length rows) []) more (all_at (λ y. columns o ≤ length y) (r ∷ rows) wide (length rows) (omega arith)))
