-- A table of subtotals that was judged, as the table that its words hold. Assumes nothing.
use mathlib.Core.Path.{◌≡◌, refl, sym, ap, ◌∙◌}
use mathlib.Core.Bool.{Bool, true, false, ◌||◌}
use mathlib.Core.List.{List, [], ◌∷◌, ◌++◌, map, append_assoc, append-nil}
use Prim.Native.Nat.{ℕ, zero, suc, ◌+◌, ◌-◌, ◌*◌, ◌≤◌, ◌<◌}
use native.Mathlib.Omega.{arith}
use borrow.Author.Tests.{lt-ltb, ltb-false}
use lib.Dec.{ltb}
use lib.IntN.{ℤ, pos, negsuc, nat_abs}
use lib.Signed.{lt_z}
use lib.ListN.{length, take, drop, get_or, length-map, length-drop, drop_of_length-le, take-append-drop}
use lib.Seq.{length-take-le, drop-drop, drop-cons, get_or-drop}
use Rattle.frames.specs.Cells.{value, value_word, is_zero, cells_of, row_from, Words, rows_of}
use Rattle.frames.proofs.WordLaws.{map-append}
use Rattle.order.specs.declared.options.Options.{Options}
use Rattle.order.proofs.RowLaws.{row_room}
use Rattle.tables.specs.Table.{words_of}
use Rattle.takings.specs.Subtotals.{Subtotal, row_of, ascending, subtotals_of, each_sold, most_amount}
use Rattle.rows.specs.nulls.Nulls.{any_zero}
use Rattle.subtotals.specs.subtables.Sheet.{beyond_pair, beyond_words}
use Rattle.subtotals.specs.takejudge.Judge.{Sheet}
use Rattle.subtotals.specs.takejoin.Join.{subs_from, told}
use Rattle.subtotals.proofs.takejoin.WalkLaws.{sub_told, subs_more, subs_none}
use Rattle.sales.specs.saleinsert.Held.{Plain, EachPlain}
use Rattle.sales.proofs.saleinsert.InsertLaws.{table_values}
use Rattle.sales.specs.saleadd.Adds.{EachBounded}
use Rattle.sales.specs.salecount.Counts.{TableIs}

-- ---- words without a null
or-false : (a b : Bool) → (a || b) ≡ false → (a ≡ false) × (b ≡ false)
or-false true b e = (cc, cc)
or-false false b e = (refl, e)

zero_drop : (p : ℕ) (ms : Words) → any_zero ms ≡ false → any_zero (drop p ms) ≡ false
unfolding any_zero
zero_drop zero ms e = e
zero_drop (suc p) [] e = e
zero_drop (suc p) (m ∷ ms) e = zero_drop p ms (or-false (is_zero m) (any_zero ms) e).1

zero_take : (b : ℕ) (ms : Words) → any_zero ms ≡ false → any_zero (take b ms) ≡ false
unfolding any_zero
zero_take zero ms e = refl
zero_take (suc b) [] e = e
zero_take (suc b) (m ∷ ms) e = let p = or-false (is_zero m) (any_zero ms) e in rw p.0 (zero_take b ms p.1)

cells_plain : (xs ys : Words) → length xs ≡ length ys → any_zero ys ≡ false → cells_of xs ys ≡ map value xs
unfolding cells_of any_zero
cells_plain [] ys l e = refl
cells_plain (x ∷ xs) [] l e = absurd (omega arith)
cells_plain (x ∷ xs) (y ∷ ys) l e = let p = or-false (is_zero y) (any_zero ys) e in rw (p.0, cells_plain xs ys (omega arith) p.1)

row_plain : (b p : ℕ) (vs ms : Words) → p + b ≤ length vs → p + b ≤ length ms → any_zero ms ≡ false → row_from b p vs ms ≡ map value (take b (drop p vs))
unfolding row_from
row_plain b p vs ms h l e =
    let a = length-take-le b (drop p vs) (omega (arith, length-drop p vs)) in
    let c = length-take-le b (drop p ms) (omega (arith, length-drop p ms)) in
    cells_plain (take b (drop p vs)) (take b (drop p ms)) (a ∙ sym c) (zero_take b (drop p ms) (zero_drop p ms e))

values_back : (xs : Words) → map value_word (map value xs) ≡ xs
values_back [] = refl
values_back (x ∷ xs) = ap (λ (z : Words). x ∷ z) (values_back xs)

-- ---- a row within its bounds
pair_at : (b w n : ℕ) (vs : Words) (i : ℕ) → i < n → beyond_words b w n vs ≡ false → beyond_pair (get_or vs (i * w + b) (pos 0)) (get_or vs (i * w + b + 1) (pos 0)) ≡ false
unfolding beyond_words
pair_at b w zero vs i l e = absurd (omega arith)
pair_at b w (suc n) vs zero l e =
    let x : 0 * w + b ≡ b = omega arith in
    rw x (or-false (beyond_pair (get_or vs b (pos 0)) (get_or vs (b + 1) (pos 0))) (beyond_words b w n (drop w vs)) e).0
pair_at b w (suc n) vs (suc i) l e =
    let x : suc i * w + b ≡ w + (i * w + b) = omega arith in
    let y : suc i * w + b + 1 ≡ w + (i * w + b + 1) = omega arith in
    rw (y, x, ← get_or-drop w vs (i * w + b) (pos 0), ← get_or-drop w vs (i * w + b + 1) (pos 0)) (pair_at b w n (drop w vs) i (omega arith) (or-false (beyond_pair (get_or vs b (pos 0)) (get_or vs (b + 1) (pos 0))) (beyond_words b w n (drop w vs)) e).1)

pair_fine_lem : (total count : ℤ) → beyond_pair total count ≡ false → (pos (nat_abs count) ≡ count) × (1 ≤ nat_abs count) × (nat_abs total ≤ nat_abs count * most_amount)
unfolding beyond_pair
pair_fine_lem total (pos n) e =
    let p = or-false (lt_z (pos n) (pos 1)) (ltb (n * most_amount) (nat_abs total)) e in
    (refl, ltb-false n 1 p.0, ltb-false (n * most_amount) (nat_abs total) p.1)
pair_fine_lem total (negsuc n) e = let z : ◌≡◌ {A = ℕ} 0 1 = cc in absurd (omega arith)

values_cons : (t : Subtotal) (ts : List Subtotal) → table_values (t ∷ ts) ≡ map value_word (row_of t) ++ table_values ts
unfolding words_of
values_cons t ts = refl

values_none : table_values [] ≡ []
unfolding words_of
values_none = refl

sold_cons : (t : Subtotal) (ts : List Subtotal) → 1 ≤ t.count → each_sold ts ≡ true → each_sold (t ∷ ts) ≡ true
unfolding each_sold
sold_cons t ts h e = rw (lt-ltb 0 t.count h, e)

sold_none : each_sold [] ≡ true
unfolding each_sold
sold_none = refl

module _ (o : Options) (w n : ℕ) (vs ms : Words) (s : Sheet o.by w n vs ms) (z : any_zero ms ≡ false) (e : beyond_words o.by w n vs ≡ false) where
  abbrev b : ℕ
  b = o.by

  -- What holds of the rows from row i on.
  record Rest (i j : ℕ) : Type 0 where
    count : length (subs_from o w i n vs ms) ≡ j
    words : table_values (subs_from o w i n vs ms) ≡ drop (i * w) vs
    each : EachPlain b (subs_from o w i n vs ms)
    bounded : EachBounded (subs_from o w i n vs ms)
    sold : each_sold (subs_from o w i n vs ms) ≡ true

  one : (i : ℕ) → i < n → (Plain b (told b w i vs ms)) × (map value_word (row_of (told b w i vs ms)) ++ drop ((i + 1) * w) vs ≡ drop (i * w) vs) × (1 ≤ (told b w i vs ms).count) × (nat_abs (told b w i vs ms).total ≤ (told b w i vs ms).count * most_amount)
  one i l =
      let r = row_room i n w l in
      let wd = s.width in
      let lv = s.values in
      let lm = s.marks in
      let D : Words = drop (i * w) vs in
      let ld : length D ≡ length vs - i * w = length-drop (i * w) vs in
      let g : row_from b (i * w) vs ms ≡ map value (take b D) = row_plain b (i * w) vs ms (omega arith) (omega arith) z in
      let lt : length (take b D) ≡ b = length-take-le b D (omega arith) in
      let t : Subtotal = told b w i vs ms in
      let f = pair_fine_lem (get_or vs (i * w + b) (pos 0)) (get_or vs (i * w + b + 1) (pos 0)) (pair_at b w n vs i l e) in
      let q : i * w + b + 1 ≡ i * w + (b + 1) = omega arith in
      let c1 : drop b D ≡ get_or D b (pos 0) ∷ drop (suc b) D = drop-cons D b (pos 0) (omega arith) in
      let c2 : drop (suc b) D ≡ get_or D (suc b) (pos 0) ∷ drop (suc (suc b)) D = drop-cons D (suc b) (pos 0) (omega arith) in
      let x : get_or D b (pos 0) ≡ t.total = get_or-drop (i * w) vs b (pos 0) in
      let k : i * w + suc b ≡ i * w + b + 1 = omega arith in
      let y : get_or D (suc b) (pos 0) ≡ pos t.count = get_or-drop (i * w) vs (suc b) (pos 0) ∙ ap (λ (h : ℕ). get_or vs h (pos 0)) k ∙ sym f.0 in
      let nx : i * w + suc (suc b) ≡ (i + 1) * w = omega arith in
      let d2 : drop (suc (suc b)) D ≡ drop ((i + 1) * w) vs = drop-drop (suc (suc b)) (i * w) vs ∙ ap (λ (h : ℕ). drop h vs) nx in
      let vg : map value_word t.group ≡ take b D = ap (map value_word) g ∙ values_back (take b D) in
      let row : map value_word (row_of t) ≡ take b D ++ t.total ∷ pos t.count ∷ [] = map-append value_word t.group (value t.total ∷ value (pos t.count) ∷ []) ∙ ap (λ (h : Words). h ++ t.total ∷ pos t.count ∷ []) vg in
      let tail : drop b D ≡ t.total ∷ pos t.count ∷ drop ((i + 1) * w) vs = c1 ∙ ap (λ (h : ℤ). h ∷ drop (suc b) D) x ∙ ap (λ (h : Words). t.total ∷ h) (c2 ∙ ap (λ (h : ℤ). h ∷ drop (suc (suc b)) D) y ∙ ap (λ (h : Words). pos t.count ∷ h) d2) in (
        record { long = ap length g ∙ length-map (take b D) value ∙ lt; full = ap (map value) vg ∙ sym g },
        ap (λ (h : Words). h ++ drop ((i + 1) * w) vs) row ∙ append_assoc (take b D) (t.total ∷ pos t.count ∷ []) (drop ((i + 1) * w) vs) ∙ ap (λ (h : Words). take b D ++ h) (sym tail) ∙ take-append-drop b D,
        f.1,
        f.2,
      )

  next : (i : ℕ) → i < n → subs_from o w i n vs ms ≡ told b w i vs ms ∷ subs_from o w (i + 1) n vs ms
  next i l =
      let lv = s.values in
      let lm = s.marks in
      subs_more o w i n vs ms l ∙ ap (λ (t : Subtotal). t ∷ subs_from o w (i + 1) n vs ms) (sub_told o w n i vs ms s.width (omega arith) (omega arith) s.fine l)

  from : (j i : ℕ) → i + j ≡ n → Rest i j
  from zero i h =
      let lv = s.values in
      let k = subs_none o w i n vs ms (omega arith) in
      let y : i * w ≡ n * w = ap (λ (q : ℕ). q * w) (let q : i ≡ n = omega arith in q) in
      let d : drop (i * w) vs ≡ [] = drop_of_length-le vs {i = i * w} (omega arith) in
      record { count = ap length k; words = ap table_values k ∙ values_none ∙ sym d; each = rw k tt; bounded = rw k tt; sold = ap each_sold k ∙ sold_none }
  from (suc j) i h =
      let k = next i (omega arith) in
      let r = from j (i + 1) (omega arith) in
      let f = one i (omega arith) in
      record {
        count = ap length k ∙ ap suc r.count;
        words = ap table_values k ∙ values_cons (told b w i vs ms) (subs_from o w (i + 1) n vs ms) ∙ ap (λ (y : Words). map value_word (row_of (told b w i vs ms)) ++ y) r.words ∙ f.1;
        each = rw k (f.0, r.each);
        bounded = rw k (f.3, r.bounded);
        sold = ap each_sold k ∙ sold_cons (told b w i vs ms) (subs_from o w (i + 1) n vs ms) f.2 r.sold;
      }

  all_from : subs_from o w 0 n vs ms ≡ subtotals_of o (rows_of w n vs ms)
  all_from = let x : n - 0 ≡ n = omega arith in let y : 0 * w ≡ 0 = omega arith in rw (x, y)

  pub table_held : ascending o (subtotals_of o (rows_of w n vs ms)) ≡ true → TableIs o n (subtotals_of o (rows_of w n vs ms)) vs × EachBounded (subtotals_of o (rows_of w n vs ms))
  table_held a =
      let r = from n 0 (omega arith) in
      let lv = s.values in
      let wd : n * suc (suc b) ≡ n * w = ap (λ (q : ℕ). n * q) (sym s.width) in
      let y : 0 * w ≡ 0 = omega arith in
      let d : drop (n * suc (suc b)) vs ≡ [] = drop_of_length-le vs {i = n * suc (suc b)} (omega arith) in
      rw (← all_from) (
        record {
          held = record { rows = r.count; words = sym (ap (λ (q : Words). table_values (subs_from o w 0 n vs ms) ++ q) d ∙ append-nil (table_values (subs_from o w 0 n vs ms)) ∙ r.words ∙ ap (λ (q : ℕ). drop q vs) y); long = refl; order = rw all_from a; each = r.each };
          sold = r.sold;
        },
        r.bounded,
      )
