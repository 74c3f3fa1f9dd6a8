-- The notices, from the last row back. Assumes nothing.
use mathlib.Core.Path.{◌≡◌, refl, sym, ap, subst, ◌∙◌}
use mathlib.Core.Bool.{Bool, true, false, cond, not, ◌&&◌}
use mathlib.Core.List.{List, [], ◌∷◌, ◌++◌}
use Prim.Native.Nat.{ℕ, suc, ◌+◌, ◌-◌, ◌*◌, ◌^◌, ◌≤◌, ◌<◌}
use native.Mathlib.Numerals.{add-one}
use native.Mathlib.Omega.{arith}
use mir.Syntax.{w64}
use mir.Val.{of_z}
use lib.Dec.{eqb, lit<}
use lib.IntN.{ℤ, pos}
use lib.Signed.{mag}
use lib.ListN.{length, drop, set, get_or}
use Rattle.frames.specs.Cells.{Cell, null, value, cell, is_null, is_zero, cell_of, value_word, mark_word, rows_of, row_from, Rows, Words}
use Rattle.order.specs.Requires.{cell_at}
use Rattle.order.specs.options.Options.{with_list, without_list}
use Rattle.order.specs.declared.options.Terms.{Terms}
use Rattle.order.specs.Order.{cmp_row, is_equal, sorted}
use Rattle.order.specs.declared.options.Options.{Options}
use Rattle.std.specs.declared.cmp.Ordering.{Ordering}
use Rattle.std.specs.declared.cmp.Ordering.TheVariants.{Less, Equal, Greater}
use Rattle.std.specs.Ordering.{is_eq}
use Rattle.order.proofs.SortedLaws.{Ordered, ordered, sorted_drop}
use Rattle.frames.proofs.FrontLaws.{word_flag}
use Rattle.order.proofs.RowLaws.{row_cell}
use Rattle.frames.proofs.WordLaws.{rows_drop, rows_length}
use Rattle.tables.specs.Requires.{rest}
use Rattle.tables.specs.Lay.{flat, lay_cells}
use Rattle.tables.proofs.LayLaws.{lay_append, lay_order, lay_none}
use Rattle.tables.proofs.CellLaws.{rest_more, rest_none, flat_length}
use Rattle.tables.proofs.TableLaws.{Wide}
use Rattle.books.specs.Standing.{is_one, nameless, withdrawn, corrects, last_of, stands, notice_of, notices}
use Rattle.books.proofs.NamesLaw.{corrected_last}
use Rattle.books.proofs.RunLaw.{last_next}
use Rattle.books.specs.notices.Requires.{notice_by, last_by}

-- ---- what a notice says
-- It does not depend on the list.
pub notice_terms : (t : Terms) (codes : Words) (rising : List ℕ) (q i last : ℕ) (r : List Cell) → notice_by (without_list t) q i last r ≡ notice_by (with_list t codes rising) q i last r
unfolding notice_by
notice_terms t codes rising q i last r = refl

by_tests : (a b d : Bool) (x y z : List Cell) → cond (not a && not (not b) && not d) x (cond a y z) ≡ cond a y (cond (b && not d) x z)
by_tests true b d x y z = refl
by_tests false true d x y z = refl
by_tests false false d x y z = refl

pub notice_by_lem : (o : Options) (q i : ℕ) (r : List Cell) (rs : Rows) (last : ℕ) → last ≡ last_of o r i (suc i) rs → notice_of o q i r rs ≡ notice_by o q i last r
unfolding notice_of notice_by stands
notice_by_lem o q i r rs last e =
    rw (corrected_last o r i rs, ← e)
    (by_tests (nameless o r) (eqb last i) (withdrawn o q r) (value (pos 1) ∷ null ∷ []) (value (pos 0) ∷ null ∷ []) (value (pos 0) ∷ value (pos last) ∷ []))

by_three : (a b : Bool) (x y z : List Cell) → length x ≡ 2 → length y ≡ 2 → length z ≡ 2 → length (cond a x (cond b y z)) ≡ 2
by_three true b x y z e f g = e
by_three false true x y z e f g = f
by_three false false x y z e f g = g

notice_length : (o : Options) (q i : ℕ) (r : List Cell) (rs : Rows) → length (notice_of o q i r rs) ≡ 2
unfolding notice_of
notice_length o q i r rs = by_three (stands o q r rs) (nameless o r) _ _ _ refl refl refl

pub notices_length : (o : Options) (q i : ℕ) (rows : Rows) → length (notices o q i rows) ≡ length rows
unfolding notices
notices_length o q i [] = refl
notices_length o q i (r ∷ rows) = ap suc (notices_length o q (suc i) rows)

pub notices_wide : (o : Options) (q i : ℕ) (rows : Rows) → Wide 2 (notices o q i rows)
unfolding notices
notices_wide o q i [] = tt
notices_wide o q i (r ∷ rows) = (notice_length o q i r rows, notices_wide o q (suc i) rows)

-- ---- the last row of a group and key, by the next row
last_by_lem : (o : Options) (r : List Cell) (rs : Rows) (i last : ℕ) → Ordered o (r ∷ rs) → ((s : List Cell) (ss : Rows) → rs ≡ s ∷ ss → last ≡ last_of o s (suc i) (suc (suc i)) ss)
    → last_by o r i last rs ≡ last_of o r i (suc i) rs
unfolding last_of
last_by_lem o r [] i last t h = refl
last_by_lem o r (s ∷ rs) i last t h = rw (h s rs refl) (sym (last_next o r s rs t i))

-- ---- the walk, over n rows that are each w wide
module _ (o : Options) (w n : ℕ) (vs ms : Words) (q m : ℕ) where
  abbrev row : ℕ → List Cell
  row i = row_from w (i * w) vs ms

  abbrev pub behind : ℕ → Rows
  behind i = rest w i n vs ms

  -- What the walk knows of the last row it met.
  abbrev pub LastOf : ℕ → ℕ → Type 0
  LastOf i last = i < n → last ≡ last_of o (row i) i (suc i) (behind (i + 1))

  in_order : sorted o (rows_of w n vs ms) ≡ true → (i : ℕ) → i ≤ n → Ordered o (behind i)
  in_order s i l = rw (rows_drop w n i vs ms l) (ordered o (drop i (rows_of w n vs ms)) (sorted_drop o i (rows_of w n vs ms) s))

  pub last_is : sorted o (rows_of w n vs ms) ≡ true → (i last : ℕ) → i < n → LastOf (i + 1) last → last_by o (row i) i last (behind (i + 1)) ≡ last_of o (row i) i (suc i) (behind (i + 1))
  last_is s i last l h =
      last_by_lem o (row i) (behind (i + 1)) i last (subst (Ordered o) (rest_more w i n vs ms l) (in_order s i (omega arith)))
      (λ t ts e. by t ts e)
    where
      head : {a b : List Cell} {x y : Rows} → a ∷ x ≡ b ∷ y → (a ≡ b) × (x ≡ y)
      head e = ((cc), (cc))

      some : (t : List Cell) (ts : Rows) → behind (i + 1) ≡ t ∷ ts → i + 1 < n
      some t ts e = let z : length (behind (i + 1)) ≡ n - (i + 1) = rows_length w (n - (i + 1)) (drop ((i + 1) * w) vs) (drop ((i + 1) * w) ms) in omega (arith, ap length e)

      by : (t : List Cell) (ts : Rows) → behind (i + 1) ≡ t ∷ ts → last ≡ last_of o t (suc i) (suc (suc i)) ts
      by t ts e =
          let k = some t ts e in
          let p = head (sym (rest_more w (i + 1) n vs ms k) ∙ e) in
          rw (← p.0, ← p.1, ← add-one i) (h k)

  -- What is laid where the rows from i on are done.
  abbrev pub done : ℕ → Words → Words
  done i out = lay_cells m (2 * i) (flat (notices o q i (behind i))) out

  flat_two : (r : List Cell) (rs : Rows) → flat (r ∷ rs) ≡ r ++ flat rs
  unfolding flat
  flat_two r rs = refl

  notices_cons : (i : ℕ) (r : List Cell) (rs : Rows) → notices o q i (r ∷ rs) ≡ notice_of o q i r rs ∷ notices o q (suc i) rs
  unfolding notices
  notices_cons i r rs = refl

  one_more : m ≡ 2 * n → (i last : ℕ) (out : Words) → i < n → last ≡ last_of o (row i) i (suc i) (behind (i + 1)) → lay_cells m (2 * i) (notice_by o q i last (row i)) (done (i + 1) out) ≡ done i out
  one_more c i last out l e =
      let N : Rows = notices o q (suc i) (behind (i + 1)) in
      let x : List Cell = notice_of o q i (row i) (behind (i + 1)) in
      let z : suc i ≡ i + 1 = omega arith in
      let y : 2 * i + length x ≡ 2 * (i + 1) = omega (arith, notice_length o q i (row i) (behind (i + 1))) in
      let g : length (flat N) ≡ (n - (i + 1)) * 2 = flat_length 2 N (notices_wide o q (suc i) (behind (i + 1))) ∙ ap (λ (k : ℕ). k * 2) (notices_length o q (suc i) (behind (i + 1)) ∙ rows_length w (n - (i + 1)) (drop ((i + 1) * w) vs) (drop ((i + 1) * w) ms)) in
      ap (λ (r : List Cell). lay_cells m (2 * i) r (done (i + 1) out)) (sym (notice_by_lem o q i (row i) (behind (i + 1)) last e))
      ∙ ap (λ (k : ℕ). lay_cells m (2 * i) x (lay_cells m (2 * (i + 1)) (flat (notices o q k (behind (i + 1)))) out)) (sym z)
      ∙ sym (lay_order m (2 * i) x (2 * (i + 1)) (flat N) out (omega (arith, y)) (omega (arith, g)))
      ∙ ap (λ (k : ℕ). lay_cells m k (flat N) (lay_cells m (2 * i) x out)) (sym y)
      ∙ sym (lay_append m (2 * i) x (flat N) out)
      ∙ ap (λ (r : List Cell). lay_cells m (2 * i) r out) (sym (flat_two x N))
      ∙ ap (λ (r : Rows). lay_cells m (2 * i) (flat r) out) (sym (notices_cons i (row i) (behind (i + 1))))
      ∙ ap (λ (r : Rows). lay_cells m (2 * i) (flat (notices o q i r)) out) (sym (rest_more w i n vs ms l))

  pub one_more_by : m ≡ 2 * n → (i last : ℕ) (out : Words) → i < n → last ≡ last_of o (row i) i (suc i) (behind (i + 1)) → (k : ℕ) → k ≡ i + 1 → (out₁ : Words) → out₁ ≡ done k out
      → lay_cells m (2 * i) (notice_by o q i last (row i)) out₁ ≡ done i out
  one_more_by c i last out l e k z out₁ d =
      ap (lay_cells m (2 * i) (notice_by o q i last (row i))) (d ∙ ap (λ (j : ℕ). done j out) z) ∙ one_more c i last out l e

  pub none_done : (i : ℕ) (out : Words) → n ≤ i → done i out ≡ out
  unfolding notices flat
  none_done i out l = rw (rest_none w i n vs ms l) (lay_none m (2 * i) out)

  pub all_done : (i : ℕ) (out : Words) → i ≡ 0 → done i out ≡ lay_cells m 0 (flat (notices o q 0 (rows_of w n vs ms))) out
  all_done i out e =
      let z : n - 0 ≡ n = omega arith in
      let x : 0 * w ≡ 0 = omega arith in
      rw (e, z, x)

-- ---- the two cells of a notice
pub lay_pair : (m k : ℕ) (f : Cell) (x : Cell) (out : Words) → lay_cells m k (f ∷ x ∷ []) out ≡ set (set (set (set out (2 + k) (value_word f)) (2 + m + k) (mark_word f)) (2 + (k + 1)) (value_word x)) (2 + m + (k + 1)) (mark_word x)
unfolding lay_cells
lay_pair m k f x out = rw (add-one k)

-- ---- whether the next row corrects
-- The test for equal rows, as std has it.
pub equal_by : (x : Ordering) → is_equal x ≡ is_eq x
equal_by Less = refl
equal_by Equal = refl
equal_by Greater = refl

module _ (o : Options) (w n : ℕ) (vs ms : Words) (i last : ℕ) where
  pub last_alone : i + 1 ≡ n → last_by o (row_from w (i * w) vs ms) i last (rest w (i + 1) n vs ms) ≡ i
  last_alone e = rw (rest_none w (i + 1) n vs ms (omega arith))

  pub last_some : i + 1 < n → last_by o (row_from w (i * w) vs ms) i last (rest w (i + 1) n vs ms) ≡ cond (is_equal (cmp_row o (row_from w ((i + 1) * w) vs ms) (row_from w (i * w) vs ms))) last i
  last_some l = rw (rest_more w (i + 1) n vs ms l)

pub last_within : (o : Options) (r : List Cell) (i last n : ℕ) (rs : Rows) → i ≤ n → last ≤ n → last_by o r i last rs ≤ n
last_within o r i last n [] a b = a
last_within o r i last n (s ∷ rs) a b = by (corrects o s r)
  where
    by : (z : Bool) → cond z last i ≤ n
    by true = b
    by false = a

-- ---- whether a row is left standing
one_null : (x : Cell) → is_null x ≡ true → not (is_one x) ≡ true
one_null null e = refl
one_null (value v) e = cc

pub left_null : (k : ℕ) (vs ms : Words) → is_null (cell_at k vs ms) ≡ true → not (is_one (cell_at k vs ms)) ≡ true
left_null k vs ms e = one_null (cell_at k vs ms) e

value_of : (v m : ℤ) → is_null (cell_of v m) ≡ false → cell_of v m ≡ value v
value_of v m e = by (is_zero m) e
  where
    by : (b : Bool) → is_null (cond b null (value v)) ≡ false → cond b null (value v) ≡ value v
    by true e = cc
    by false e = refl

pub left_value : (k : ℕ) (vs ms : Words) → is_null (cell_at k vs ms) ≡ false → mag (get_or vs k (pos 0)) < 2 ^ 63 → not (is_one (cell_at k vs ms)) ≡ not (eqb (of_z w64 (get_or vs k (pos 0))) 1)
left_value k vs ms e h =
    rw (value_of (get_or vs k (pos 0)) (get_or ms k (pos 0)) e, word_flag (get_or vs k (pos 0)) 1 (record { sfits = h }) (lit< tt))

module _ (o : Options) (q i last : ℕ) where
  pub notice_nameless : (r : List Cell) → nameless o r ≡ true → notice_by o q i last r ≡ value (pos 0) ∷ null ∷ []
  unfolding notice_by
  notice_nameless r e = rw e

  module _ (w p : ℕ) (vs ms : Words) (l : suc o.by + q < w) (h : p + w ≤ length vs) (e : nameless o (row_from w p vs ms) ≡ false) where
    at_column : cell (suc o.by + q) (row_from w p vs ms) ≡ cell_at (p + (o.by + 1 + q)) vs ms
    at_column = let z : suc o.by + q ≡ o.by + 1 + q = omega arith in rw z (row_cell w p (o.by + 1 + q) vs ms (omega arith) (omega arith))

    pub notice_stands : (eqb last i && not (is_one (cell_at (p + (o.by + 1 + q)) vs ms))) ≡ true → notice_by o q i last (row_from w p vs ms) ≡ value (pos 1) ∷ null ∷ []
    unfolding notice_by
    notice_stands d = rw (e, at_column, d)

    pub notice_names : (eqb last i && not (is_one (cell_at (p + (o.by + 1 + q)) vs ms))) ≡ false → notice_by o q i last (row_from w p vs ms) ≡ value (pos 0) ∷ value (pos last) ∷ []
    unfolding notice_by
    notice_names d = rw (e, at_column, d)
