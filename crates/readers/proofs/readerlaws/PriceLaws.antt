-- Neither reader shows a distance as a price. Assumes nothing.
use Rattle.frames.specs.declared.refusals.Refusal.{Refusal}
use Rattle.std.specs.Prelude.{Option, Some, None, Result, Err}
use mathlib.Core.Path.{◌≡◌, refl, sym, ap, ◌∙◌}
use mathlib.Core.Bool.{Bool, true, false, cond}
use mathlib.Core.List.{List, [], ◌∷◌, ◌++◌, map, append-nil}
use Prim.Native.Nat.{ℕ, zero, suc, ◌-◌, ◌≤◌, ◌<◌}
use native.Mathlib.Omega.{arith}
use borrow.Author.Tests.{le-ltb}
use lib.Dec.{ltb}
use lib.ListN.{length, get_or, replicate, get_or-append}
use Rattle.frames.specs.Cells.{Cell, null, cell, Rows, Words}
use Rattle.frames.specs.Frame.{is_frame, frame_rows}
use Rattle.order.specs.options.Options.{columns, shared_columns, answer_columns}
use Rattle.order.specs.declared.options.Options.{Options}
use Rattle.tables.proofs.TableLaws.{table_rows_lem}
use Rattle.matching.specs.Answer.{cells_from, answer_row, answer_rows}
use Rattle.matching.specs.Groups.{match_frame}
use Rattle.matching.proofs.AnswerRows.{answer_wide, answer_count}
use Rattle.matching.proofs.GroupLaws.{frame_length}
use Rattle.frames.specs.declared.refusals.Refusal.TheVariants.{TooManyCarried, BadColumns}
use Rattle.readers.specs.declared.CellWords.{CellWords}
use Rattle.readers.specs.Reader.{plain_knows, distance_knows, shown, cell_in, read_distance}
use Rattle.readers.proofs.ViewLaws.{plain_knows_lem, plain_not, distance_knows_plain, distance_knows_lem}
use Rattle.readers.proofs.AgreeLaws.{read_known, read_unknown, frame_made}
use Rattle.readers.specs.readerlaws.Prices.{shared_row, distance_of, answer_frame, NoDistanceAsPrice, NeverAsPrice, TurnsShown}

-- ---- lists
seam : (A : List Cell) (d : Cell) (n : ℕ) → length A ≡ n → get_or (A ++ d ∷ []) n null ≡ d
seam [] d zero e = refl
seam [] d (suc n) e = absurd (omega arith)
seam (a ∷ A) d zero e = absurd (omega arith)
seam (a ∷ A) d (suc n) e = seam A d n (omega arith)

past : (A : List Cell) (n : ℕ) → length A ≡ n → get_or A n null ≡ null
past [] n e = refl
past (a ∷ A) zero e = absurd (omega arith)
past (a ∷ A) (suc n) e = past A n (omega arith)

nulls_more : (n : ℕ) → replicate (suc n) null ≡ replicate n null ++ null ∷ []
nulls_more zero = refl
nulls_more (suc n) = ap (λ (r : List Cell). null ∷ r) (nulls_more n)

nulls_wide : (n : ℕ) → length (replicate n null) ≡ n
nulls_wide zero = refl
nulls_wide (suc n) = ap suc (nulls_wide n)

cells_wide : (j n : ℕ) (r : List Cell) → length (cells_from j n r) ≡ n
unfolding cells_from
cells_wide j zero r = refl
cells_wide j (suc n) r = ap suc (cells_wide (suc j) n r)

module _ (o : Options) (i : ℕ) (rights : Rows) where
  -- ---- a row of an answer: its shared part, and the distance behind it where the join adds one
  abbrev last : Bool → List Cell → Option ℕ → List Cell
  last b x m = cond b (distance_of o i rights x m ∷ []) []

  row_parts : (x : List Cell) (m : Option ℕ) → answer_row o i rights x m ≡ shared_row o i rights m ++ last o.with_distance x m
  unfolding answer_row
  row_parts x (Some k) = refl
  row_parts x None = go o.with_distance
    where
      go : (b : Bool) → replicate (cond b (suc (shared_columns o)) (shared_columns o)) null ≡ replicate (shared_columns o) null ++ cond b (null ∷ []) []
      go true = nulls_more (shared_columns o)
      go false = sym (append-nil (replicate (shared_columns o) null))

  shared_wide : (m : Option ℕ) → length (shared_row o i rights m) ≡ shared_columns o
  shared_wide (Some k) = ap suc (cells_wide (columns o) o.carried (get_or rights (k - i) []))
  shared_wide None = nulls_wide (shared_columns o)

  -- In the shared columns a row is its shared part.
  cell_shared : (xs : Rows) (ms : List (Option ℕ)) → length xs ≡ length ms → (row column : ℕ) → column < shared_columns o
      → cell_in (answer_rows o i rights xs ms) row column ≡ cell_in (map (shared_row o i rights) ms) row column
  unfolding answer_rows
  cell_shared [] [] e row column h = refl
  cell_shared [] (m ∷ ms) e row column h = absurd (omega arith)
  cell_shared (x ∷ xs) [] e row column h = absurd (omega arith)
  cell_shared (x ∷ xs) (m ∷ ms) e zero column h =
      ap (cell column) (row_parts x m) ∙ get_or-append (shared_row o i rights m) (last o.with_distance x m) null column (omega (arith, shared_wide m))
  cell_shared (x ∷ xs) (m ∷ ms) e (suc row) column h = cell_shared xs ms (omega arith) row column h

  -- Without a distance it is nothing else.
  row_shared : o.with_distance ≡ false → (x : List Cell) (m : Option ℕ) → answer_row o i rights x m ≡ shared_row o i rights m
  row_shared d x m =
      row_parts x m ∙ ap (λ (b : Bool). shared_row o i rights m ++ last b x m) d ∙ append-nil (shared_row o i rights m)

  rows_shared : o.with_distance ≡ false → (xs : Rows) (ms : List (Option ℕ)) → length xs ≡ length ms → answer_rows o i rights xs ms ≡ map (shared_row o i rights) ms
  unfolding answer_rows
  rows_shared d [] [] e = refl
  rows_shared d [] (m ∷ ms) e = absurd (omega arith)
  rows_shared d (x ∷ xs) [] e = absurd (omega arith)
  rows_shared d (x ∷ xs) (m ∷ ms) e =
      ap (λ (z : List Cell). z ∷ answer_rows o i rights xs ms) (row_shared d x m) ∙ ap (λ (z : Rows). shared_row o i rights m ∷ z) (rows_shared d xs ms (omega arith))

  -- With one it stands behind them.
  cell_distance : o.with_distance ≡ true → (xs : Rows) (ms : List (Option ℕ)) → length xs ≡ length ms → (row : ℕ) → row < length ms
      → cell_in (answer_rows o i rights xs ms) row (shared_columns o) ≡ distance_of o i rights (get_or xs row []) (get_or ms row None)
  unfolding answer_rows
  cell_distance d [] [] e row h = absurd (omega arith)
  cell_distance d [] (m ∷ ms) e row h = absurd (omega arith)
  cell_distance d (x ∷ xs) [] e row h = absurd (omega arith)
  cell_distance d (x ∷ xs) (m ∷ ms) e zero h =
      ap (cell (shared_columns o)) (row_parts x m) ∙ ap (λ (b : Bool). get_or (shared_row o i rights m ++ last b x m) (shared_columns o) null) d
      ∙ seam (shared_row o i rights m) (distance_of o i rights x m) (shared_columns o) (shared_wide m)
  cell_distance d (x ∷ xs) (m ∷ ms) e (suc row) h = cell_distance d xs ms (omega arith) row (omega arith)

  cell_past : (ms : List (Option ℕ)) (row : ℕ) → cell_in (map (shared_row o i rights) ms) row (shared_columns o) ≡ null
  cell_past [] row = refl
  cell_past (m ∷ ms) zero = past (shared_row o i rights m) (shared_columns o) (shared_wide m)
  cell_past (m ∷ ms) (suc row) = cell_past ms row

-- ---- what the readers show of it
module _ (o : Options) (i : ℕ) (rights xs : Rows) (ms : List (Option ℕ)) (small : o.carried ≤ 8) (e : length xs ≡ length ms) (few : length ms ≤ 4096) where
  abbrev c : ℕ
  c = answer_columns o

  abbrev f : Words
  f = answer_frame o i rights xs ms

  made : is_frame c f ≡ true
  made = frame_made c (answer_rows o i rights xs ms) (answer_wide o i rights xs ms) (omega (arith, answer_count o i rights xs ms e))

  back : frame_rows c f ≡ answer_rows o i rights xs ms
  back = table_rows_lem c (answer_rows o i rights xs ms) (answer_wide o i rights xs ms)

  eight : (x : Result CellWords Refusal) → cond (ltb 8 o.carried) (Err TooManyCarried) x ≡ x
  eight x = rw (le-ltb 8 o.carried small)

  plain_at : (b : Bool) → o.with_distance ≡ b → plain_knows o.carried c ≡ plain_knows o.carried (cond b (suc (shared_columns o)) (shared_columns o))
  plain_at b d = ap (λ (z : Bool). plain_knows o.carried (cond z (suc (shared_columns o)) (shared_columns o))) d

  knows : distance_knows o.carried c ≡ true
  knows = go o.with_distance
    where
      go : (b : Bool) → distance_knows o.carried (cond b (suc (shared_columns o)) (shared_columns o)) ≡ true
      go true = distance_knows_lem o.carried
      go false = distance_knows_plain o.carried

  distance_reads : (row k : ℕ) → read_distance o.carried f row k ≡ shown (cell_in (answer_rows o i rights xs ms) row k)
  distance_reads row k =
      read_known c f made distance_knows o.carried row k knows ∙ eight (shown (cell_in (frame_rows c f) row k)) ∙ ap (λ (rs : Rows). shown (cell_in rs row k)) back

  prices : (row column : ℕ) → NoDistanceAsPrice o i rights xs ms row column
  prices row column = record {
    plain_shows = λ d.
        read_known c f made plain_knows o.carried row column (plain_at false d ∙ plain_knows_lem o.carried) ∙ eight (shown (cell_in (frame_rows c f) row column))
        ∙ ap (λ (rs : Rows). shown (cell_in rs row column)) (back ∙ rows_shared o i rights d xs ms e);
    plain_refuses = λ d. read_unknown c f made plain_knows o.carried row column (plain_at true d ∙ plain_not o.carried) ∙ eight (Err BadColumns);
    shared_shown = λ h. distance_reads row column ∙ ap shown (cell_shared o i rights xs ms e row column h);
    distance_shown = λ d h. distance_reads row (shared_columns o) ∙ ap shown (cell_distance o i rights d xs ms e row h);
    none_shown = λ d. distance_reads row (shared_columns o) ∙ ap (λ (rs : Rows). shown (cell_in rs row (shared_columns o))) (rows_shared o i rights d xs ms e) ∙ ap shown (cell_past o i rights ms row);
  }

pub never_as_price : NeverAsPrice
never_as_price o i rights xs ms small e few row column = prices o i rights xs ms small e few row column

-- What a turn writes has a choice for each left row.
pub turns_shown : TurnsShown
turns_shown o i held left small few row column =
    let l = frame_length o i held left in
    prices o i held left (match_frame o i held left) small (sym l) (omega arith) row column
