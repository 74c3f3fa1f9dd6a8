-- What the walk over two tables of subtotals has left to do, row by row. Assumes nothing.
use mathlib.Core.Path.{◌≡◌, refl, sym, ap, ◌∙◌}
use mathlib.Core.Bool.{Bool, true, false, ◌||◌}
use mathlib.Core.List.{List, [], ◌∷◌, map}
use mathlib.Core.Logic.{◌⊎◌, inl, inr}
use Prim.Native.Nat.{ℕ, zero, suc, ◌+◌, ◌*◌, ◌^◌, ◌≤◌, ◌<◌}
use native.Mathlib.Numerals.{add-one}
use native.Mathlib.Omega.{arith}
use borrow.Author.Tests.{ltb-true, ltb-false, le-leb}
use lib.Dec.{ltb}
use lib.IntN.{ℤ, pos, negsuc, nat_abs, ◌+ℤ◌}
use lib.Signed.{le_z, lt_z, mag}
use lib.ListN.{length, take, drop, get_or, set, length-append}
use lib.Seq.{get_or-drop}
use Rattle.frames.specs.Cells.{Cell, null, value, cell, cell_of, cells_of, value_word, row_from, Rows, Words}
use Rattle.frames.specs.Frame.{pairs_fine}
use Rattle.order.proofs.RowLaws.{row_length, row_cell, row_room}
use Rattle.tables.specs.Lay.{flat, lay_cells}
use Rattle.tables.proofs.LayLaws.{lay_append}
use Rattle.order.specs.Order.{cmp_group}
use Rattle.order.specs.declared.options.Options.{Options}
use Rattle.std.specs.declared.cmp.Ordering.{Ordering}
use Rattle.std.specs.declared.cmp.Ordering.TheVariants.{Less, Equal, Greater}
use Rattle.tables.specs.Requires.{rest}
use Rattle.tables.proofs.CellLaws.{rest_more, rest_none, fine_at}
use Rattle.takings.specs.Subtotals.{Subtotal, plus, row_of, number_in, subtotal_of, subtotals_of, most_amount, most_sales}
use Rattle.takings.proofs.SubtotalLaws.{abs_plus}
use Rattle.subtotals.specs.subtables.Sheet.{beyond_pair, beyond_words, count_words}
use Rattle.subtotals.proofs.subtables.SheetLaws.{group_taken}
use Rattle.subtotals.specs.takejoin.Join.{side, joined, subs_from, told, Account}
use Rattle.subtotals.proofs.takejoin.JoinLaws.{joined_less, joined_greater, joined_equal}

module _ (o : Options) (w : ℕ) where
  abbrev pub sub : ℕ → Words → Words → Subtotal
  sub i vs ms = subtotal_of o (row_from w (i * w) vs ms)

  subs_cons : (r : List Cell) (rs : Rows) → subtotals_of o (r ∷ rs) ≡ subtotal_of o r ∷ subtotals_of o rs
  unfolding subtotals_of
  subs_cons r rs = refl

  subs_nil : subtotals_of o [] ≡ []
  unfolding subtotals_of
  subs_nil = refl

  pub subs_more : (i n : ℕ) (vs ms : Words) → i < n → subs_from o w i n vs ms ≡ sub i vs ms ∷ subs_from o w (i + 1) n vs ms
  subs_more i n vs ms l = ap (subtotals_of o) (rest_more w i n vs ms l) ∙ subs_cons (row_from w (i * w) vs ms) (rest w (i + 1) n vs ms)

  pub subs_none : (i n : ℕ) (vs ms : Words) → n ≤ i → subs_from o w i n vs ms ≡ []
  subs_none i n vs ms l = ap (subtotals_of o) (rest_none w i n vs ms l) ∙ subs_nil

  module _ (na : ℕ) (av am : Words) (nb : ℕ) (bv bm : Words) where
    abbrev A : ℕ → List Subtotal
    A i = subs_from o w i na av am

    abbrev B : ℕ → List Subtotal
    B j = subs_from o w j nb bv bm

    pub side_none : (i j : ℕ) → i ≡ na → side o (A i) (B j) ≡ Greater
    side_none i j e = rw (subs_none i na av am (omega arith))

    pub side_alone : (i j : ℕ) → i < na → j ≡ nb → side o (A i) (B j) ≡ Less
    side_alone i j l e = rw (subs_more i na av am l, subs_none j nb bv bm (omega arith))

    pub side_both : (i j : ℕ) → i < na → j < nb → side o (A i) (B j) ≡ cmp_group o (row_from w (i * w) av am) (row_from w (j * w) bv bm)
    side_both i j l k = rw (subs_more i na av am l, subs_more j nb bv bm k) (group_taken o (row_from w (i * w) av am) (row_from w (j * w) bv bm))

    -- ---- what a side says is there
    before_or : (i k : ℕ) → (i < k) ⊎ (k ≤ i)
    before_or i k = by (ltb i k) refl
      where
        by : (b : Bool) → ltb i k ≡ b → (i < k) ⊎ (k ≤ i)
        by true e = inl (ltb-true i k e)
        by false e = inr (ltb-false i k e)

    pub left_first : (i j : ℕ) → i ≤ na → (side o (A i) (B j) ≡ Greater → ⊥) → i < na
    left_first i j l e = by (before_or i na)
      where
        by : (i < na) ⊎ (na ≤ i) → i < na
        by (inl k) = k
        by (inr k) = absurd (e (side_none i j (omega arith)))

    pub left_second : (i j : ℕ) → i ≤ na → j ≤ nb → i + j < na + nb → (side o (A i) (B j) ≡ Less → ⊥) → j < nb
    left_second i j l k s e = by (before_or j nb)
      where
        by : (j < nb) ⊎ (nb ≤ j) → j < nb
        by (inl h) = h
        by (inr h) = absurd (e (side_alone i j (omega arith) (omega arith)))

    -- ---- what is joined
    pub step_less : (i j : ℕ) → i < na → side o (A i) (B j) ≡ Less → joined o (A i) (B j) ≡ sub i av am ∷ joined o (A (i + 1)) (B j)
    step_less i j l e =
        let d = subs_more i na av am l in
        ap (λ (z : List Subtotal). joined o z (B j)) d ∙ joined_less o (sub i av am) (A (i + 1)) (B j) (ap (λ (z : List Subtotal). side o z (B j)) (sym d) ∙ e)

    pub step_greater : (i j : ℕ) → j < nb → side o (A i) (B j) ≡ Greater → joined o (A i) (B j) ≡ sub j bv bm ∷ joined o (A i) (B (j + 1))
    step_greater i j l e =
        let d = subs_more j nb bv bm l in
        ap (joined o (A i)) d ∙ joined_greater o (A i) (sub j bv bm) (B (j + 1)) (ap (side o (A i)) (sym d) ∙ e)

    pub step_equal : (i j : ℕ) → i < na → j < nb → side o (A i) (B j) ≡ Equal → joined o (A i) (B j) ≡ plus (sub i av am) (sub j bv bm) ∷ joined o (A (i + 1)) (B (j + 1))
    step_equal i j l k e =
        let d = subs_more i na av am l in
        let f = subs_more j nb bv bm k in
        ap (λ (z : List Subtotal). joined o z (B j)) d ∙ ap (joined o (sub i av am ∷ A (i + 1))) f
        ∙ joined_equal o (sub i av am) (A (i + 1)) (sub j bv bm) (B (j + 1)) (ap (λ (z : List Subtotal). side o z (sub j bv bm ∷ B (j + 1))) (sym d) ∙ ap (side o (A i)) (sym f) ∙ e)

    pub none_joined : (i j : ℕ) → na ≤ i → nb ≤ j → length (joined o (A i) (B j)) ≡ 0
    unfolding joined
    none_joined i j l k = rw (subs_none i na av am l, subs_none j nb bv bm k)

-- ---- the cells of a subtotal
count_back : (z : ℤ) → le_z (pos 0) z ≡ true → pos (nat_abs z) ≡ z
count_back (pos n) e = refl
count_back (negsuc n) e = cc

two : (total count : ℤ) (m k : ℕ) (out : Words) → lay_cells m k (value total ∷ value count ∷ []) out ≡ set (set (set (set out (2 + k) total) (2 + m + k) (pos 1)) (2 + (k + 1)) count) (2 + m + (k + 1)) (pos 1)
unfolding lay_cells
two total count m k out = rw (add-one k)

pub laid_subtotal : (m k p b : ℕ) (vs ms : Words) (total count : ℤ) (out out₁ out₂ out₃ : Words) → p + b ≤ length vs → p + b ≤ length ms → le_z (pos 0) count ≡ true
    → out₁ ≡ lay_cells m k (row_from b p vs ms) out → out₂ ≡ set (set out₁ (2 + (k + b)) total) (2 + m + (k + b)) (pos 1) → out₃ ≡ set (set out₂ (2 + (k + b + 1)) count) (2 + m + (k + b + 1)) (pos 1)
    → out₃ ≡ lay_cells m k (row_of (record { group = row_from b p vs ms; total = total; count = nat_abs count })) out
laid_subtotal m k p b vs ms total count out out₁ out₂ out₃ h l s e f g =
    let x : List Cell = value total ∷ value (pos (nat_abs count)) ∷ [] in
    let n = row_length b p vs ms h l in
    sym (lay_append m k (row_from b p vs ms) x out
    ∙ rw (n, ← e) (two total (pos (nat_abs count)) m (k + b) out₁ ∙ rw (count_back count s, ← f, ← g)))

-- ---- the rows' own words
take_cells : (b : ℕ) (xs ys : Words) → take b (cells_of xs ys) ≡ cells_of (take b xs) (take b ys)
unfolding cells_of
take_cells zero xs ys = refl
take_cells (suc b) [] ys = refl
take_cells (suc b) (x ∷ xs) [] = refl
take_cells (suc b) (x ∷ xs) (y ∷ ys) = ap (λ (z : List Cell). cell_of x y ∷ z) (take_cells b xs ys)

take_less : (b w : ℕ) (xs : Words) → b ≤ w → take b (take w xs) ≡ take b xs
take_less zero w xs h = refl
take_less (suc b) zero xs h = absurd (omega arith)
take_less (suc b) (suc w) [] h = refl
take_less (suc b) (suc w) (x ∷ xs) h = ap (λ (z : Words). x ∷ z) (take_less b w xs (omega arith))

group_of : (b w p : ℕ) (vs ms : Words) → b ≤ w → take b (row_from w p vs ms) ≡ row_from b p vs ms
unfolding row_from
group_of b w p vs ms h = take_cells b (take w (drop p vs)) (take w (drop p ms)) ∙ rw (take_less b w (drop p vs) h, take_less b w (drop p ms) h)

number_word_lem : (x : Cell) → number_in x ≡ value_word x
number_word_lem null = refl
number_word_lem (value v) = refl

pub sub_told : (o : Options) (w n i : ℕ) (vs ms : Words) → w ≡ suc (suc o.by) → n * w ≤ length vs → length vs ≤ length ms → pairs_fine vs ms ≡ true → i < n → sub o w i vs ms ≡ told o.by w i vs ms
sub_told o w n i vs ms e h l f k =
    let r = row_room i n w k in
    let x : i * w + o.by + 1 ≡ i * w + suc o.by = omega arith in
    let a : number_in (cell o.by (row_from w (i * w) vs ms)) ≡ get_or vs (i * w + o.by) (pos 0) =
    number_word_lem (cell o.by (row_from w (i * w) vs ms)) ∙ ap value_word (row_cell w (i * w) o.by vs ms (omega arith) (omega arith)) ∙ (fine_at vs ms (i * w + o.by) (omega arith) l f).0 in
    let b : number_in (cell (suc o.by) (row_from w (i * w) vs ms)) ≡ get_or vs (i * w + o.by + 1) (pos 0) =
    number_word_lem (cell (suc o.by) (row_from w (i * w) vs ms)) ∙ ap value_word (row_cell w (i * w) (suc o.by) vs ms (omega arith) (omega arith)) ∙ (fine_at vs ms (i * w + suc o.by) (omega arith) l f).0 ∙ rw x in
    rw (group_of o.by w (i * w) vs ms (omega arith), a, b)

-- ---- a row within its bounds
or-false : (a b : Bool) → (a || b) ≡ false → (a ≡ false) × (b ≡ false)
or-false true b e = ((cc), (cc))
or-false false b e = (refl, e)

not_beyond : (total count : ℤ) → beyond_pair total count ≡ false → (le_z (pos 0) count ≡ true) × (nat_abs total ≤ nat_abs count * most_amount)
unfolding beyond_pair
not_beyond total (pos n) e =
    let p = or-false (lt_z (pos n) (pos 1)) (ltb (n * most_amount) (nat_abs total)) e in
    (le-leb 0 n (omega arith), ltb-false (n * most_amount) (nat_abs total) p.1)
not_beyond total (negsuc n) e = let z : ◌≡◌ {A = ℕ} 0 1 = cc in absurd (omega arith)

abbrev pub RowWithin : ℕ → ℕ → Words → ℕ → Type 0
RowWithin b w vs i = (le_z (pos 0) (get_or vs (i * w + b + 1) (pos 0)) ≡ true) × (nat_abs (get_or vs (i * w + b) (pos 0)) ≤ most_sales * most_amount) × (nat_abs (get_or vs (i * w + b + 1) (pos 0)) ≤ most_sales)

pub row_within : (b w n : ℕ) (vs : Words) (i : ℕ) → i < n → beyond_words b w n vs ≡ false → count_words b w n vs ≤ most_sales → RowWithin b w vs i
unfolding beyond_words count_words
row_within b w zero vs i l e h = absurd (omega arith)
row_within b w (suc n) vs zero l e h =
    let x : 0 * w + b ≡ b = omega arith in
    let p = or-false (beyond_pair (get_or vs b (pos 0)) (get_or vs (b + 1) (pos 0))) (beyond_words b w n (drop w vs)) e in
    let q = not_beyond (get_or vs b (pos 0)) (get_or vs (b + 1) (pos 0)) p.0 in
    rw x (q.0, omega (arith, q.1), omega arith)
row_within b w (suc n) vs (suc i) l e h =
    let x : suc i * w + b ≡ w + (i * w + b) = omega arith in
    let y : suc i * w + b + 1 ≡ w + (i * w + b + 1) = omega arith in
    let p = or-false (beyond_pair (get_or vs b (pos 0)) (get_or vs (b + 1) (pos 0))) (beyond_words b w n (drop w vs)) e in
    rw (y, x, ← get_or-drop w vs (i * w + b) (pos 0), ← get_or-drop w vs (i * w + b + 1) (pos 0)) (row_within b w n (drop w vs) i (omega arith) p.1 (omega arith))

pub sum_counts : (a b : ℤ) → le_z (pos 0) a ≡ true → le_z (pos 0) b ≡ true → (nat_abs (a +ℤ b) ≡ nat_abs a + nat_abs b) × (le_z (pos 0) (a +ℤ b) ≡ true)
sum_counts (pos a) (pos b) e f = (refl, le-leb 0 (a + b) (omega arith))
sum_counts (pos a) (negsuc b) e f = ((cc), (cc))
sum_counts (negsuc a) b e f = ((cc), (cc))

-- ---- a row of the joined table, laid
pub sub_long : (b w : ℕ) (t : Subtotal) → w ≡ suc (suc b) → length t.group ≡ b → length (row_of t) ≡ w
sub_long b w t e h = length-append t.group (value t.total ∷ value (pos t.count) ∷ []) ∙ omega (arith, h, e)

pub lay_step : (m k w : ℕ) (js : List Subtotal) (t : Subtotal) (ts : List Subtotal) (out : Words) → js ≡ t ∷ ts → length (row_of t) ≡ w
    → lay_cells m k (flat (map row_of js)) out ≡ lay_cells m (k + w) (flat (map row_of ts)) (lay_cells m k (row_of t) out)
unfolding flat
lay_step m k w js t ts out e h = rw (e, ← h) (lay_append m k (row_of t) (flat (map row_of ts)) out)

pub lay_last : (m k : ℕ) (js : List Subtotal) (out : Words) → length js ≡ 0 → lay_cells m k (flat (map row_of js)) out ≡ out
unfolding flat lay_cells
lay_last m k [] out e = refl
lay_last m k (t ∷ js) out e = absurd (omega arith)

-- ---- the sum of two totals, or of two counts, fits a word
mag_abs : (z : ℤ) → mag z ≤ nat_abs z
mag_abs (pos n) = let e : n ≤ n = omega arith in e
mag_abs (negsuc n) = let e : n ≤ suc n = omega arith in e

pub sum_fits : (a b : ℤ) → nat_abs a ≤ most_sales * most_amount → nat_abs b ≤ most_sales * most_amount → mag (a +ℤ b) < 2 ^ 63
sum_fits a b h l = omega (arith, mag_abs (a +ℤ b), abs_plus a b)

-- ---- how far the walk has come
pub some_left : (o : Options) (w na : ℕ) (av am : Words) (nb : ℕ) (bv bm : Words) (i j k m : ℕ) → i ≤ na → j ≤ nb → k < m
    → k + length (joined o (subs_from o w i na av am) (subs_from o w j nb bv bm)) * w ≡ m → i + j < na + nb
some_left o w na av am nb bv bm i j k m a b l e = by (ltb (i + j) (na + nb)) refl
  where
    by : (t : Bool) → ltb (i + j) (na + nb) ≡ t → i + j < na + nb
    by true d = ltb-true (i + j) (na + nb) d
    by false d =
        let g = ltb-false (i + j) (na + nb) d in
        let z = none_joined o w na av am nb bv bm i j (omega arith) (omega arith) in
        let y : length (joined o (subs_from o w i na av am) (subs_from o w j nb bv bm)) * w ≡ 0 = ap (λ (x : ℕ). x * w) z ∙ omega arith in
        absurd (omega arith)

-- One more row: its cells, and those that are left.
pub row_left : (k w m : ℕ) (js : List Subtotal) (t : Subtotal) (ts : List Subtotal) → js ≡ t ∷ ts → k + length js * w ≡ m → (k + w ≤ m) × (k + w + length ts * w ≡ m)
row_left k w m js t ts e h =
    let n : length js ≡ suc (length ts) = ap length e in
    let x : length js * w ≡ w + length ts * w = ap (λ (z : ℕ). z * w) n ∙ omega arith in
    (omega arith, omega arith)

pub none_left : (k w m : ℕ) (js : List Subtotal) → 0 < w → m ≤ k → k + length js * w ≡ m → length js ≡ 0
none_left k w m [] a h e = refl
none_left k w m (t ∷ ts) a h e =
    let x : length (t ∷ ts) * w ≡ w + length ts * w = omega arith in
    absurd (omega arith)

-- Two rows of one group, by their words.
pub sum_told : (b w i : ℕ) (av am : Words) (j : ℕ) (bv bm : Words)
    → nat_abs (get_or av (i * w + b + 1) (pos 0) +ℤ get_or bv (j * w + b + 1) (pos 0)) ≡ nat_abs (get_or av (i * w + b + 1) (pos 0)) + nat_abs (get_or bv (j * w + b + 1) (pos 0))
    → ◌≡◌ {A = Subtotal} (record { group = row_from b (i * w) av am; total = get_or av (i * w + b) (pos 0) +ℤ get_or bv (j * w + b) (pos 0); count = nat_abs (get_or av (i * w + b + 1) (pos 0) +ℤ get_or bv (j * w + b + 1) (pos 0)) })
    (plus (told b w i av am) (told b w j bv bm))
sum_told b w i av am j bv bm c =
    ap (λ (n : ℕ). record { group = row_from b (i * w) av am; total = get_or av (i * w + b) (pos 0) +ℤ get_or bv (j * w + b) (pos 0); count = n }) c

-- ---- the next row of two accounts, by its words
pub told_long : (b w n i : ℕ) (vs ms : Words) → Account b w n vs ms → i < n → length (told b w i vs ms).group ≡ b
told_long b w n i vs ms a l =
    let r = row_room i n w l in
    let e = a.width in
    row_length b (i * w) vs ms (omega (arith, a.values)) (omega (arith, a.marks))

module _ (o : Options) (w na : ℕ) (av am : Words) (nb : ℕ) (bv bm : Words) where
  as_told : (n i : ℕ) (vs ms : Words) → Account o.by w n vs ms → i < n → sub o w i vs ms ≡ told o.by w i vs ms
  as_told n i vs ms a l = sub_told o w n i vs ms a.width a.values a.paired a.fine l

  abbrev J : ℕ → ℕ → List Subtotal
  J i j = joined o (subs_from o w i na av am) (subs_from o w j nb bv bm)

  abbrev S : ℕ → ℕ → Ordering
  S i j = side o (subs_from o w i na av am) (subs_from o w j nb bv bm)

  pub told_less : (i j : ℕ) → Account o.by w na av am → i < na → S i j ≡ Less → J i j ≡ told o.by w i av am ∷ J (i + 1) j
  told_less i j a l e = step_less o w na av am nb bv bm i j l e ∙ ap (λ (t : Subtotal). t ∷ J (i + 1) j) (as_told na i av am a l)

  pub told_greater : (i j : ℕ) → Account o.by w nb bv bm → j < nb → S i j ≡ Greater → J i j ≡ told o.by w j bv bm ∷ J i (j + 1)
  told_greater i j a l e = step_greater o w na av am nb bv bm i j l e ∙ ap (λ (t : Subtotal). t ∷ J i (j + 1)) (as_told nb j bv bm a l)

  pub told_equal : (i j : ℕ) → Account o.by w na av am → Account o.by w nb bv bm → i < na → j < nb → S i j ≡ Equal
      → J i j ≡ plus (told o.by w i av am) (told o.by w j bv bm) ∷ J (i + 1) (j + 1)
  told_equal i j a b l k e =
      step_equal o w na av am nb bv bm i j l k e
      ∙ ap (λ (t : Subtotal). plus t (sub o w j bv bm) ∷ J (i + 1) (j + 1)) (as_told na i av am a l)
      ∙ ap (λ (t : Subtotal). plus (told o.by w i av am) t ∷ J (i + 1) (j + 1)) (as_told nb j bv bm b k)
