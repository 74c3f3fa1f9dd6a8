-- The left rows turned: which they are after a call, that they are sorted where all left rows are, and what a strict join knows of them. Assumes nothing.
use mathlib.Core.Path.{◌≡◌, refl, sym, ap, ◌∙◌}
use mathlib.Core.Bool.{true, false, not}
use mathlib.Core.List.{List, [], ◌∷◌, ◌++◌, append-nil, append_assoc}
use Prim.Native.Nat.{ℕ, suc, ◌≤◌}
use native.Mathlib.Omega.{arith}
use borrow.Author.Tests.{not-false}
use lib.ListN.{length, take, drop, take-append-drop, length-append}
use Rattle.frames.specs.Cells.{Rows, Words}
use Rattle.frames.specs.Frame.{is_frame, frame_rows}
use Rattle.frames.proofs.FrameLaws.{frame_rows_lem, frame_wide}
use Rattle.order.specs.options.Options.{columns, is_on, is_strict}
use Rattle.order.specs.declared.options.Options.{Options}
use Rattle.order.specs.declared.options.Check.TheVariants.{Strict}
use Rattle.order.specs.Order.{sorted}
use Rattle.order.specs.Keyed.{last_left_at, recall, remember_at, no_row}
use Rattle.order.specs.declared.Row.{Row}
use Rattle.order.proofs.SortedLaws.{All, all_by, sorted_cut}
use Rattle.order.proofs.SeamLaws.{unsorted, Recalls, recalled_none, recalled, seam}
use Rattle.matchframe.specs.turnrows.Prunes.{bad_left, remembered_left}
use Rattle.lists.specs.Lists.{rows_in}
use Rattle.lists.proofs.ListLaws.{rows_in_append, take_next, take_more}

-- The rows of a frame of c columns have c cells each.
pub frame_cells : (c : ℕ) (f : Words) → is_frame c f ≡ true → All (λ r. length r ≡ c) (frame_rows c f)
frame_cells c f h = all_by (λ r. length r ≡ c) (frame_rows c f) (λ i l. frame_wide c f h i (omega (arith, frame_rows_lem c f h)))

-- The left rows turned.
unfoldable pub turned_of : Options → List Words → List Words → Rows
turned_of o L Os = rows_in (columns o) (take (length Os) L)

-- ---- the left rows: those turned, the next frame's, the rest
module _ (o : Options) (L Os : List Words) where
  lefts_are : rows_in (columns o) L ≡ turned_of o L Os ++ rows_in (columns o) (drop (length Os) L)
  unfolding turned_of
  lefts_are = ap (rows_in (columns o)) (sym (take-append-drop (length Os) L)) ∙ rows_in_append (columns o) (take (length Os) L) (drop (length Os) L)

  pub turned_sorted : sorted o (rows_in (columns o) L) ≡ true → sorted o (turned_of o L Os) ≡ true
  turned_sorted s = (sorted_cut o (turned_of o L Os) (rows_in (columns o) (drop (length Os) L)) (rw lefts_are at s)).0

  module _ (f : Words) (rest : List Words) (e : drop (length Os) L ≡ f ∷ rest) where
    pub next_sorted : sorted o (rows_in (columns o) L) ≡ true → sorted o (turned_of o L Os ++ frame_rows (columns o) f) ≡ true
    unfolding rows_in
    next_sorted s =
        let T = turned_of o L Os in
        let q : rows_in (columns o) L ≡ (T ++ frame_rows (columns o) f) ++ rows_in (columns o) rest =
        lefts_are ∙ ap (λ (fs : List Words). T ++ rows_in (columns o) fs) e ∙ sym (append_assoc T (frame_rows (columns o) f) (rows_in (columns o) rest)) in
        (sorted_cut o (T ++ frame_rows (columns o) f) (rows_in (columns o) rest) (rw q at s)).0

    -- One more turn.
    pub turned_after : (out : Words) → turned_of o L (Os ++ (out ∷ [])) ≡ turned_of o L Os ++ frame_rows (columns o) f
    unfolding turned_of rows_in
    turned_after out =
        let n : length (Os ++ (out ∷ [])) ≡ suc (length Os) = rw (length-append Os (out ∷ [])) (omega arith) in
        rw (n, take_next (length Os) L f rest e, rows_in_append (columns o) (take (length Os) L) (f ∷ []), append-nil (frame_rows (columns o) f))

  -- One more left frame.
  pub turned_more : (f : Words) → length Os ≤ length L → turned_of o (L ++ (f ∷ [])) Os ≡ turned_of o L Os
  unfolding turned_of
  turned_more f g = rw (take_more (length Os) L (f ∷ []) g)

-- ---- strict: the rows turned are sorted, and the last of them is remembered
pub record Together (o : Options) (T : Rows) (m : Row) : Type 0 where
  pub in_order : sorted o T ≡ true
  pub recalls : Recalls o T m

pub together_start : (o : Options) → Together o [] no_row
unfolding sorted
together_start o = record { in_order = refl; recalls = recalled_none o }

module _ (o : Options) (strict : o.check ≡ Strict) where
  on : is_on o.check ≡ true
  on = ap is_on strict

  asked : (m : Row) (rows : Rows) → bad_left o m rows ≡ unsorted o (recall (columns o) m) rows
  unfolding bad_left
  asked m rows = rw on

  kept : (m : Row) (rows : Rows) → remembered_left o m rows ≡ remember_at o m rows (last_left_at o rows)
  unfolding remembered_left
  kept m rows = rw on

  -- A frame meets 8 exactly if it is not sorted behind them.
  pub exact : (T : Rows) (m : Row) → Together o T m → (rows : Rows) → bad_left o m rows ≡ not (sorted o (T ++ rows))
  exact T m t rows = asked m rows ∙ t.recalls rows ∙ seam o (ap is_strict strict) T rows t.in_order

  -- A frame that passed is turned.
  pub together_more : (T rows : Rows) (m : Row) → All (λ r. columns o ≤ length r) rows → Together o T m → bad_left o m rows ≡ false → Together o (T ++ rows) (remembered_left o m rows)
  together_more T rows m wide t passed = record {
    in_order = not-false (sorted o (T ++ rows)) (sym (exact T m t rows) ∙ passed);
    recalls = rw (kept m rows) (recalled o (ap is_strict strict) T rows m wide t.recalls);
  }
