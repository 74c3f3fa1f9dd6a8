-- The two readers agree. Assumes nothing.
use Rattle.frames.specs.declared.refusals.Refusal.{Refusal}
use Rattle.std.specs.Prelude.{Result, Err, Ok}
use mathlib.Core.Path.{◌≡◌, refl, sym, ap, ◌∙◌}
use mathlib.Core.Bool.{Bool, true, false, cond, not}
use mathlib.Core.List.{List, [], ◌∷◌, map}
use Prim.Native.Nat.{ℕ, zero, suc, ◌≤◌, ◌<◌}
use native.Mathlib.Omega.{arith}
use borrow.Author.Tests.{le-leb}
use lib.Dec.{ltb}
use lib.ListN.{length, take, length-map}
use lib.Seq.{get_or-take, length-take-le}
use Rattle.frames.specs.Cells.{Cell, null, Rows, Words}
use Rattle.frames.specs.Frame.{row_count, is_frame, frame_rows}
use Rattle.frames.proofs.FrameLaws.{frame_rows_lem, frame_wide}
use Rattle.frames.proofs.FrontLaws.{frame_few}
use Rattle.order.proofs.SortedLaws.{All, all_by}
use Rattle.tables.specs.Table.{table_of}
use Rattle.tables.proofs.TableLaws.{Wide, table_is, table_rows_lem}
use Rattle.frames.specs.declared.refusals.Refusal.TheVariants.{TooManyCarried, BadColumns}
use Rattle.readers.specs.declared.View.{View}
use Rattle.readers.specs.Reader.{view_of}
use Rattle.readers.specs.Reader.{plain_knows, distance_knows, cell_in, shown, read_in, read_by, without_last}
use Rattle.readers.specs.Laws.{Agreement}
use Rattle.readers.proofs.ViewLaws.{view_frame, plain_knows_lem, plain_not, distance_knows_plain, distance_knows_lem}

-- ---- what a reader shows of a frame of c columns
module _ (c : ℕ) (f : Words) (h : is_frame c f ≡ true) (knows : ℕ → ℕ → Bool) (p row column : ℕ) where
  by_view : (a b : Bool) (n : ℕ) → read_in (cond a (Err TooManyCarried) (cond (not b) (Err BadColumns) (Ok (view_of n c)))) f row column
      ≡ cond a (Err TooManyCarried) (cond b (shown (cell_in (frame_rows c f) row column)) (Err BadColumns))
  by_view true b n = refl
  by_view false true n = refl
  by_view false false n = refl

  read_frame : read_by knows p f row column ≡ cond (ltb 8 p) (Err TooManyCarried) (cond (knows p c) (shown (cell_in (frame_rows c f) row column)) (Err BadColumns))
  unfolding read_by
  read_frame = ap (λ (v : Result View Refusal). read_in v f row column) (view_frame knows p f c h) ∙ by_view (ltb 8 p) (knows p c) (row_count f)

  -- Where it knows c, the cell; p above 8 is refused before.
  pub read_known : knows p c ≡ true → read_by knows p f row column ≡ cond (ltb 8 p) (Err TooManyCarried) (shown (cell_in (frame_rows c f) row column))
  read_known k = read_frame ∙ rw k

  -- Where it does not, 13.
  pub read_unknown : knows p c ≡ false → read_by knows p f row column ≡ cond (ltb 8 p) (Err TooManyCarried) (Err BadColumns)
  read_unknown k = read_frame ∙ rw k

-- ---- rows without their last cell
all_mapped : (P Q : List Cell → Type 0) (g : List Cell → List Cell) → ((r : List Cell) → P r → Q (g r)) → (rs : Rows) → All P rs → All Q (map g rs)
all_mapped P Q g h [] a = tt
all_mapped P Q g h (r ∷ rs) a = (h r a.0, all_mapped P Q g h rs a.1)

cell_short : (n column : ℕ) → column < n → (rs : Rows) (row : ℕ) → cell_in (map (λ r. take n r) rs) row column ≡ cell_in rs row column
cell_short n column h [] row = refl
cell_short n column h (r ∷ rs) zero = get_or-take n r column null h
cell_short n column h (r ∷ rs) (suc row) = cell_short n column h rs row

-- At most 4,096 rows, each c wide, make a frame.
pub frame_made : (c : ℕ) (rs : Rows) → Wide c rs → length rs ≤ 4096 → is_frame c (table_of c rs) ≡ true
unfolding is_frame table_of
frame_made c rs w few = rw (table_is c rs w, le-leb (length rs) 4096 few)

module _ (c : ℕ) (f : Words) (h : is_frame (suc c) f ≡ true) where
  abbrev short : Rows
  short = map (λ r. take c r) (frame_rows (suc c) f)

  short_wide : Wide c short
  short_wide =
      all_mapped (λ r. length r ≡ suc c) (λ r. length r ≡ c) (λ r. take c r) (λ r e. length-take-le c r (omega arith)) (frame_rows (suc c) f)
      (all_by (λ r. length r ≡ suc c) (frame_rows (suc c) f) (λ i l. frame_wide (suc c) f h i (omega (arith, frame_rows_lem (suc c) f h))))

  short_few : length short ≤ 4096
  short_few = omega (arith, length-map (frame_rows (suc c) f) (λ r. take c r), frame_rows_lem (suc c) f h, frame_few (suc c) f h)

  pub without_frame : is_frame c (without_last c f) ≡ true
  unfolding without_last
  without_frame = frame_made c short short_wide short_few

  pub without_rows : frame_rows c (without_last c f) ≡ short
  unfolding without_last
  without_rows = table_rows_lem c short short_wide

-- ---- the two readers agree
pub agreement : Agreement
agreement p f row column = record {
  alike = λ h. read_known (suc p) f h distance_knows p row column (distance_knows_plain p) ∙ sym (read_known (suc p) f h plain_knows p row column (plain_knows_lem p));
  shared = λ h l.
      read_known (suc (suc p)) f h distance_knows p row column (distance_knows_lem p)
      ∙ ap (λ (x : Cell). cond (ltb 8 p) (Err TooManyCarried) (shown x)) (sym (ap (λ (rs : Rows). cell_in rs row column) (without_rows (suc p) f h) ∙ cell_short (suc p) column l (frame_rows (suc (suc p)) f) row))
      ∙ sym (read_known (suc p) (without_last (suc p) f) (without_frame (suc p) f h) plain_knows p row column (plain_knows_lem p));
  refused = λ h. read_unknown (suc (suc p)) f h plain_knows p row column (plain_not p);
}
