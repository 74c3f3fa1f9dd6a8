-- A sale inserted at its place: what becomes of the table, and of the words that hold it. Assumes nothing.
use mathlib.Core.Path.{◌≡◌, refl, sym, ap, ◌∙◌}
use mathlib.Core.Bool.{Bool, true, false, ◌||◌}
use mathlib.Core.List.{List, [], ◌∷◌, ◌++◌, map, append_assoc}
use Prim.Native.Nat.{ℕ, zero, suc, ◌+◌, ◌-◌, ◌*◌, ◌^◌, ◌≤◌, ◌<◌}
use native.Mathlib.Omega.{arith}
use native.Mathlib.Decide.{dec_lt}
use lib.IntN.{ℤ, pos, negsuc, nat_abs, ◌+ℤ◌}
use lib.Signed.{mag}
use lib.ListN.{length, take, drop, get_or, length-append, length-map, length-drop, get_or-map, take-append-drop}
use lib.Seq.{paste, take_at, drop_at, get_or_at, take-append-add, drop-append-add, drop-drop, length-take-le, take_all, split_at, ext_get_or, get_or-take, get_or-drop, take-take}
use Rattle.frames.specs.Cells.{Cell, null, value, cell, is_null, cell_of, cells_of, value_word, row_from, Words}
use Rattle.frames.specs.Frame.{pairs_fine}
use Rattle.frames.proofs.WordLaws.{map-append}
use Rattle.order.specs.declared.options.Options.{Options}
use Rattle.order.specs.Order.{cmp_first, cmp_group, null_group, null_in}
use Rattle.std.specs.declared.cmp.Ordering.{Ordering}
use Rattle.std.specs.declared.cmp.Ordering.TheVariants.{Less, Equal, Greater}
use Rattle.order.proofs.OrderLaws.{cmp_group_is, greater_less, less_greater, equal_flip, group_equal}
use Rattle.order.proofs.RowLaws.{row_cell, row_length}
use Rattle.tables.specs.Table.{words_of}
use Rattle.tables.proofs.CellLaws.{fine_at}
use Rattle.takings.specs.Subtotals.{Subtotal, cmp_sub, plus, insert, row_of, most_amount, most_sales}
use Rattle.takings.proofs.SubtotalLaws.{Every, Above, Rising, abs_plus, rising, rising_ascending, rising_insert}
use Rattle.sales.specs.salegroup.Group.{plain}
use Rattle.sales.specs.saleplace.Place.{cmp_at, Placed}
use Rattle.sales.specs.saleinsert.Held.{Plain, EachPlain, Held, sub_at, Stands, unit_of}

-- ---- a table cut at a place
abbrev nothing : Subtotal
nothing = record { group = []; total = pos 0; count = 0 }

module _ (o : Options) where
  -- A group before another is before what that one is before.
  pub above_then : (g h : List Cell) (ts : List Subtotal) → cmp_group o g h ≡ Less → Above o h ts → Above o g ts
  above_then g h [] l a = tt
  above_then g h (t ∷ ts) l a = ((cmp_group_is o).less g h t.group l a.0, above_then g h ts l a.1)

  above_at : (h : List Cell) (ts : List Subtotal) (i : ℕ) → Above o h ts → i < length ts → cmp_group o h (sub_at ts i).group ≡ Less
  above_at h [] i a l = absurd (omega arith)
  above_at h (t ∷ ts) zero a l = a.0
  above_at h (t ∷ ts) (suc i) a l = above_at h ts i a.1 (omega arith)

  abbrev Below : List Cell → List Subtotal → Type 0
  Below g ts = Every (λ t. cmp_group o t.group g ≡ Less) ts

  below_less : (g : List Cell) (ts : List Subtotal) (p : ℕ) → Rising o ts → p ≤ length ts → (0 < p → cmp_group o (sub_at ts (p - 1)).group g ≡ Less) → Below g (take p ts)
  below_less g [] zero r l h = tt
  below_less g (t ∷ ts) zero r l h = tt
  below_less g [] (suc p) r l h = absurd (omega arith)
  below_less g (t ∷ ts) (suc zero) r l h = (h (omega arith), tt)
  below_less g (t ∷ ts) (suc (suc p)) r l h =
      let e : suc (suc p) - 1 ≡ suc p = omega arith in
      let f : suc p - 1 ≡ p = omega arith in
      let z : cmp_group o (sub_at ts p).group g ≡ Less = rw e at (h (omega arith)) in
      ((cmp_group_is o).less t.group (sub_at ts p).group g (above_at t.group ts p r.0 (omega arith)) z, below_less g ts (suc p) r.1 (omega arith) (λ k. rw f z))

  equal_right : (h k g : List Cell) → cmp_group o h k ≡ Less → cmp_group o k g ≡ Equal → cmp_group o h g ≡ Less
  equal_right h k g l e = greater_less (cmp_group_is o) g h (sym ((cmp_group_is o).same k g h e) ∙ less_greater (cmp_group_is o) h k l)

  below_equal : (g : List Cell) (ts : List Subtotal) (p : ℕ) → Rising o ts → p < length ts → cmp_group o (sub_at ts p).group g ≡ Equal → Below g (take p ts)
  below_equal g [] p r l h = absurd (omega arith)
  below_equal g (t ∷ ts) zero r l h = tt
  below_equal g (t ∷ ts) (suc p) r l h =
      (equal_right t.group (sub_at ts p).group g (above_at t.group ts p r.0 (omega arith)) h, below_equal g ts p r.1 (omega arith) h)

  -- ---- an arm that is known
  arm_less : (x y v : List Subtotal) (z : Ordering) → z ≡ Less → ◌≡◌ {A = List Subtotal} (elim z [ Less ↦ x | Equal ↦ y | Greater ↦ v ]) x
  arm_less x y v z e = rw e

  arm_equal : (x y v : List Subtotal) (z : Ordering) → z ≡ Equal → ◌≡◌ {A = List Subtotal} (elim z [ Less ↦ x | Equal ↦ y | Greater ↦ v ]) y
  arm_equal x y v z e = rw e

  arm_greater : (x y v : List Subtotal) (z : Ordering) → z ≡ Greater → ◌≡◌ {A = List Subtotal} (elim z [ Less ↦ x | Equal ↦ y | Greater ↦ v ]) v
  arm_greater x y v z e = rw e

  past : (u : Subtotal) (xs zs : List Subtotal) → Below u.group xs → insert o u (xs ++ zs) ≡ xs ++ insert o u zs
  unfolding insert
  past u [] zs h = refl
  past u (x ∷ xs) zs h =
      arm_greater (u ∷ x ∷ (xs ++ zs)) (plus x u ∷ (xs ++ zs)) (x ∷ insert o u (xs ++ zs)) (cmp_sub o u x) (less_greater (cmp_group_is o) x.group u.group h.0)
      ∙ ap (λ (z : List Subtotal). x ∷ z) (past u xs zs h.1)

  pub first_greater : (u : Subtotal) (zs : List Subtotal) → (0 < length zs → cmp_group o (sub_at zs 0).group u.group ≡ Greater) → insert o u zs ≡ u ∷ zs
  unfolding insert
  first_greater u [] h = refl
  first_greater u (t ∷ ts) h = arm_less (u ∷ t ∷ ts) (plus t u ∷ ts) (t ∷ insert o u ts) (cmp_sub o u t) (greater_less (cmp_group_is o) t.group u.group (h (omega arith)))

  first_equal : (u t : Subtotal) (zs : List Subtotal) → cmp_group o t.group u.group ≡ Equal → insert o u (t ∷ zs) ≡ plus t u ∷ zs
  unfolding insert
  first_equal u t zs h = arm_equal (u ∷ t ∷ zs) (plus t u ∷ zs) (t ∷ insert o u zs) (cmp_sub o u t) (equal_flip (cmp_group_is o) t.group u.group h)

  -- A group that is there: its row gets one more sale.
  pub insert_here : (u : Subtotal) (ts : List Subtotal) (p : ℕ) → Rising o ts → p < length ts → cmp_group o (sub_at ts p).group u.group ≡ Equal
      → insert o u ts ≡ take p ts ++ plus (sub_at ts p) u ∷ drop (suc p) ts
  insert_here u ts p r l h =
      ap (insert o u) (split_at ts p nothing l) ∙ past u (take p ts) (sub_at ts p ∷ drop (suc p) ts) (below_equal u.group ts p r l h)
      ∙ ap (λ (z : List Subtotal). take p ts ++ z) (first_equal u (sub_at ts p) (drop (suc p) ts) h)

  -- One that is not: it is a row of its own.
  pub insert_new : (u : Subtotal) (ts : List Subtotal) (p : ℕ) → Rising o ts → p ≤ length ts → (0 < p → cmp_group o (sub_at ts (p - 1)).group u.group ≡ Less)
      → (p < length ts → cmp_group o (sub_at ts p).group u.group ≡ Greater) → insert o u ts ≡ take p ts ++ u ∷ drop p ts
  insert_new u ts p r l h k =
      let z : p + 0 ≡ p = omega arith in
      ap (insert o u) (sym (take-append-drop p ts)) ∙ past u (take p ts) (drop p ts) (below_less u.group ts p r l h)
      ∙ ap (λ (z : List Subtotal). take p ts ++ z) (first_greater u (drop p ts) (λ m. rw (get_or-drop p ts 0 nothing, z) (k (omega (arith, length-drop p ts)))))

-- ---- the words of a table
abbrev pub table_values : List Subtotal → Words
table_values ts = words_of value_word (map row_of ts)

values_cons : (t : Subtotal) (ts : List Subtotal) → table_values (t ∷ ts) ≡ map value_word (row_of t) ++ table_values ts
unfolding words_of
values_cons t ts = refl

pub values_append : (xs ys : List Subtotal) → table_values (xs ++ ys) ≡ table_values xs ++ table_values ys
unfolding words_of
values_append [] ys = refl
values_append (x ∷ xs) ys = ap (λ (z : Words). map value_word (row_of x) ++ z) (values_append xs ys) ∙ sym (append_assoc (map value_word (row_of x)) (table_values xs) (table_values ys))

row_words : (t : Subtotal) → map value_word (row_of t) ≡ map value_word t.group ++ t.total ∷ pos t.count ∷ []
row_words t = map-append value_word t.group (value t.total ∷ value (pos t.count) ∷ [])

row_long : (b : ℕ) (t : Subtotal) → length t.group ≡ b → length (map value_word (row_of t)) ≡ suc (suc b)
row_long b t h = length-map (row_of t) value_word ∙ length-append t.group (value t.total ∷ value (pos t.count) ∷ []) ∙ omega (arith, h)

none_long : (b : ℕ) → length (table_values []) ≡ 0 * suc (suc b)
unfolding words_of
none_long b = omega arith

pub values_long : (b : ℕ) (ts : List Subtotal) → EachPlain b ts → length (table_values ts) ≡ length ts * suc (suc b)
values_long b [] h = none_long b
values_long b (t ∷ ts) h =
    let r = row_long b t h.0.long in
    ap length (values_cons t ts) ∙ length-append (map value_word (row_of t)) (table_values ts) ∙ (let i = values_long b ts h.1 in let e : suc (length ts) * suc (suc b) ≡ suc (suc b) + length ts * suc (suc b) = omega arith in omega arith)

pub body_long : (b n : ℕ) (ts : List Subtotal) (R body : Words) → length ts ≡ n → EachPlain b ts → body ≡ table_values ts ++ R → length body ≡ n * suc (suc b) + length R
body_long b n ts R body e f h =
    ap length h ∙ length-append (table_values ts) R ∙ ap (λ (z : ℕ). z + length R) (values_long b ts f ∙ ap (λ (z : ℕ). z * suc (suc b)) e)

plain_at : (b : ℕ) (ts : List Subtotal) (i : ℕ) → EachPlain b ts → i < length ts → Plain b (sub_at ts i)
plain_at b [] i h l = absurd (omega arith)
plain_at b (t ∷ ts) zero h l = h.0
plain_at b (t ∷ ts) (suc i) h l = plain_at b ts i h.1 (omega arith)

pub plain_take : (b : ℕ) (ts : List Subtotal) (p : ℕ) → EachPlain b ts → EachPlain b (take p ts)
plain_take b [] zero h = tt
plain_take b [] (suc p) h = tt
plain_take b (t ∷ ts) zero h = tt
plain_take b (t ∷ ts) (suc p) h = (h.0, plain_take b ts p h.1)

pub plain_drop : (b : ℕ) (ts : List Subtotal) (p : ℕ) → EachPlain b ts → EachPlain b (drop p ts)
plain_drop b [] zero h = tt
plain_drop b [] (suc p) h = tt
plain_drop b (t ∷ ts) zero h = h
plain_drop b (t ∷ ts) (suc p) h = plain_drop b ts p h.1

pub plain_append : (b : ℕ) (xs ys : List Subtotal) → EachPlain b xs → EachPlain b ys → EachPlain b (xs ++ ys)
plain_append b [] ys h k = k
plain_append b (x ∷ xs) ys h k = (h.0, plain_append b xs ys h.1 k)

-- The words, cut at the row in place p.
module _ (b n : ℕ) (ts : List Subtotal) (R : Words) (f : EachPlain b ts) (e : length ts ≡ n) (p : ℕ) where
  pub before_long : p ≤ n → length (table_values (take p ts)) ≡ p * suc (suc b)
  before_long l = values_long b (take p ts) (plain_take b ts p f) ∙ ap (λ (z : ℕ). z * suc (suc b)) (length-take-le p ts (omega arith))

  pub cut_gap : p ≤ n → table_values ts ++ R ≡ table_values (take p ts) ++ (table_values (drop p ts) ++ R)
  cut_gap l = ap (λ (z : List Subtotal). table_values z ++ R) (sym (take-append-drop p ts)) ∙ ap (λ (z : Words). z ++ R) (values_append (take p ts) (drop p ts)) ∙ append_assoc (table_values (take p ts)) (table_values (drop p ts)) R

  cut_row : p < n → table_values ts ++ R ≡ table_values (take p ts) ++ (map value_word (row_of (sub_at ts p)) ++ (table_values (drop (suc p) ts) ++ R))
  cut_row l =
      ap (λ (z : List Subtotal). table_values z ++ R) (split_at ts p nothing (omega arith)) ∙ ap (λ (z : Words). z ++ R) (values_append (take p ts) (sub_at ts p ∷ drop (suc p) ts) ∙ ap (λ (z : Words). table_values (take p ts) ++ z) (values_cons (sub_at ts p) (drop (suc p) ts)))
      ∙ append_assoc (table_values (take p ts)) (map value_word (row_of (sub_at ts p)) ++ table_values (drop (suc p) ts)) R
      ∙ ap (λ (z : Words). table_values (take p ts) ++ z) (append_assoc (map value_word (row_of (sub_at ts p))) (table_values (drop (suc p) ts)) R)

  -- What stands at the row's place.
  pub group_at : p < n → map value (take b (drop (p * suc (suc b)) (table_values ts ++ R))) ≡ (sub_at ts p).group
  group_at l =
      let q = plain_at b ts p f (omega arith) in
      let t = sub_at ts p in
      let Z : Words = table_values (drop (suc p) ts) ++ R in
      let d : drop (p * suc (suc b)) (table_values ts ++ R) ≡ map value_word (row_of t) ++ Z = ap (drop (p * suc (suc b))) (cut_row l) ∙ drop_at (table_values (take p ts)) (map value_word (row_of t) ++ Z) (p * suc (suc b)) (before_long (omega arith)) in
      let g : take b (map value_word (row_of t) ++ Z) ≡ map value_word t.group =
      ap (λ (z : Words). take b (z ++ Z)) (row_words t) ∙ ap (take b) (append_assoc (map value_word t.group) (t.total ∷ pos t.count ∷ []) Z)
      ∙ take_at (map value_word t.group) (t.total ∷ pos t.count ∷ Z) b (length-map t.group value_word ∙ q.long) in
      ap (λ (z : Words). map value (take b z)) d ∙ ap (map value) g ∙ q.full

  pub sums_at : p < n → (get_or (table_values ts ++ R) (p * suc (suc b) + b) (pos 0) ≡ (sub_at ts p).total) × (get_or (table_values ts ++ R) (p * suc (suc b) + b + 1) (pos 0) ≡ pos (sub_at ts p).count)
  sums_at l =
      let q = plain_at b ts p f (omega arith) in
      let t = sub_at ts p in
      let Z : Words = table_values (drop (suc p) ts) ++ R in
      let X : Words = table_values (take p ts) ++ map value_word t.group in
      let lx : length X ≡ p * suc (suc b) + b = length-append (table_values (take p ts)) (map value_word t.group) ∙ omega (arith, before_long (omega arith), length-map t.group value_word, q.long) in
      let w : table_values ts ++ R ≡ X ++ t.total ∷ pos t.count ∷ Z = cut_row l ∙ ap (λ (z : Words). table_values (take p ts) ++ (z ++ Z)) (row_words t) ∙ simp append_assoc in
      let Y : Words = X ++ (t.total ∷ []) in
      let ly : length Y ≡ p * suc (suc b) + b + 1 = length-append X (t.total ∷ []) ∙ omega (arith, lx) in
      let w2 : table_values ts ++ R ≡ Y ++ pos t.count ∷ Z = w ∙ simp append_assoc in (
        ap (λ (z : Words). get_or z (p * suc (suc b) + b) (pos 0)) w ∙ get_or_at X t.total (pos t.count ∷ Z) (pos 0) (p * suc (suc b) + b) lx,
        ap (λ (z : Words). get_or z (p * suc (suc b) + b + 1) (pos 0)) w2 ∙ get_or_at Y (pos t.count) Z (pos 0) (p * suc (suc b) + b + 1) ly,
      )

-- ---- a stretch of words written over
paste_mid : (X Y Z s : Words) (at n : ℕ) → length X ≡ at → length Y ≡ n → length s ≡ n → paste (X ++ (Y ++ Z)) at s n ≡ X ++ (s ++ Z)
paste_mid X Y Z s at n a b c =
    let e : X ++ (Y ++ Z) ≡ (X ++ Y) ++ Z = sym (append_assoc X Y Z) in
    let l : length (X ++ Y) ≡ at + n = length-append X Y ∙ omega (arith, a, b) in
    ap (λ (z : Words). z ++ take n s ++ drop (at + n) (X ++ (Y ++ Z))) (take_at X (Y ++ Z) at a)
    ∙ ap (λ (z : Words). X ++ z ++ drop (at + n) (X ++ (Y ++ Z))) (take_all n s (omega arith))
    ∙ ap (λ (z : Words). X ++ s ++ z) (ap (drop (at + n)) e ∙ drop_at (X ++ Y) Z (at + n) l) ∙ append_assoc X s Z

paste_open : (X Y R s : Words) (at end w : ℕ) → length X ≡ at → length Y ≡ end - at → at ≤ end → w ≤ length R → length s ≡ w
    → paste (paste (X ++ (Y ++ R)) (at + w) (drop at (X ++ (Y ++ R))) (end - at)) at s w ≡ X ++ (s ++ (Y ++ drop w R))
paste_open X Y R s at end w a b l h c =
    let k : Words = Y ++ R in
    let d : drop at (X ++ k) ≡ k = drop_at X k at a in
    let lk : length k ≡ (end - at) + length R = length-append Y R ∙ omega (arith, b) in
    let t1 : take (at + w) (X ++ k) ≡ X ++ take w k = rw (← a) (take-append-add X k w) in
    let t2 : take (end - at) k ≡ Y = take_at Y R (end - at) b in
    let s1 : at + w + (end - at) ≡ length X + (length Y + w) = omega (arith, a, b) in
    let t3 : drop (at + w + (end - at)) (X ++ k) ≡ drop w R = rw s1 (drop-append-add X k (length Y + w) ∙ drop-append-add Y R w) in
    let inner : paste (X ++ k) (at + w) (drop at (X ++ k)) (end - at) ≡ X ++ (take w k ++ (Y ++ drop w R)) =
    ap (λ (z : Words). take (at + w) (X ++ k) ++ take (end - at) z ++ drop (at + w + (end - at)) (X ++ k)) d
    ∙ rw (t1, t2, t3) (simp append_assoc) in
    ap (λ (z : Words). paste z at s w) inner ∙ paste_mid X (take w k) (Y ++ drop w R) s at w a (length-take-le w k (omega arith)) c

-- ---- a sale's row
group_words : (b q : ℕ) (vs ms : Words) → pairs_fine vs ms ≡ true → q + b ≤ length vs → length vs ≤ length ms → map value_word (row_from b q vs ms) ≡ take b (drop q vs)
group_words b q vs ms f h l =
    let lr = row_length b q vs ms h (omega arith) in
    let lt = length-take-le b (drop q vs) (omega (arith, length-drop q vs)) in
    ext_get_or (pos 0) (map value_word (row_from b q vs ms)) (take b (drop q vs)) (length-map (row_from b q vs ms) value_word ∙ lr ∙ sym lt)
    (λ i k.
    let j : i < b = omega (arith, length-map (row_from b q vs ms) value_word, lr) in
    get_or-map value_word (row_from b q vs ms) i null ∙ ap value_word (row_cell b q i vs ms j (omega arith)) ∙ (fine_at vs ms (q + i) (omega arith) l f).0
    ∙ sym (get_or-take b (drop q vs) i (pos 0) j ∙ get_or-drop q vs i (pos 0)))

or_parts : (a b : Bool) → (a || b) ≡ false → (a ≡ false) × (b ≡ false)
or_parts true b e = (cc, cc)
or_parts false b e = (refl, e)

null_free : (o : Options) (j : ℕ) (x : List Cell) → null_in j x ≡ false → (i : ℕ) → i < j → is_null (cell i x) ≡ false
unfolding null_in
null_free o zero x e i l = absurd (omega arith)
null_free o (suc j) x e i l =
    let p = or_parts (null_in j x) (is_null (cell j x)) e in
    by (dec_lt i j) (λ k. null_free o j x p.0 i k) p.1
  where
    by : Dec (i < j) → (i < j → is_null (cell i x) ≡ false) → is_null (cell j x) ≡ false → is_null (cell i x) ≡ false
    by (yes d) r z = r d
    by (no d) r z = let e : i ≡ j = omega arith in rw e z

value_back : (x : Cell) → is_null x ≡ false → value (value_word x) ≡ x
value_back null e = let z : ◌≡◌ {A = ℕ} 0 1 = cc in absurd (omega arith)
value_back (value v) e = refl

values_back : (r : List Cell) → ((i : ℕ) → i < length r → is_null (cell i r) ≡ false) → map value (map value_word r) ≡ r
values_back [] h = refl
values_back (x ∷ r) h = rw (value_back x (h 0 (omega arith)), values_back r (λ i l. h (suc i) (omega arith)))

take_cells : (b : ℕ) (xs ys : Words) → take b (cells_of xs ys) ≡ cells_of (take b xs) (take b ys)
unfolding cells_of
take_cells zero xs ys = refl
take_cells (suc b) [] ys = refl
take_cells (suc b) (x ∷ xs) [] = refl
take_cells (suc b) (x ∷ xs) (y ∷ ys) = ap (λ (z : List Cell). cell_of x y ∷ z) (take_cells b xs ys)

group_of : (b w p : ℕ) (vs ms : Words) → b ≤ w → take b (row_from w p vs ms) ≡ row_from b p vs ms
unfolding row_from
group_of b w p vs ms h = take_cells b (take w (drop p vs)) (take w (drop p ms)) ∙ rw (take-take b w (drop p vs) h, take-take b w (drop p ms) h)

pub second_taken : (o : Options) (b j : ℕ) (r s : List Cell) → j ≤ b → cmp_first o j r s ≡ cmp_first o j r (take b s)
unfolding cmp_first
second_taken o b zero r s h = refl
second_taken o b (suc j) r s h = rw (second_taken o b j r s (omega arith), get_or-take b s j null (omega arith))

-- How a row of the words compares is how the table's row does.
pub row_told : (o : Options) (n : ℕ) (ts : List Subtotal) (b₀ body : Words) → Held o n ts b₀ body → (x : List Cell) (p : ℕ) → p < n → (z : Ordering) → cmp_at o (suc (suc o.by)) body x p ≡ z
    → cmp_group o (sub_at ts p).group (take o.by x) ≡ z
row_told o n ts b₀ body k x p l z c =
    let w : ℕ = suc (suc o.by) in
    let g : plain o.by (p * w) body ≡ (sub_at ts p).group = ap (plain o.by (p * w)) k.words ∙ group_at o.by n ts (drop (n * w) b₀) k.each k.rows p l in
    sym (second_taken o o.by o.by (sub_at ts p).group x (omega arith)) ∙ ap (λ (y : List Cell). cmp_group o y x) (sym g) ∙ c

-- A place among the rows that words hold is one in their table.
pub placed_stands : (o : Options) (n : ℕ) (ts : List Subtotal) (b₀ body : Words) (x : List Cell) (p : ℕ) (here : Bool) → Held o n ts b₀ body → Placed o (suc (suc o.by)) 0 n body x p here → Stands o ts (take o.by x) p here
placed_stands o n ts b₀ body x p here k h =
    let m = k.rows in
    record {
      within = omega (arith, h.within);
      yes = λ t. (omega (arith, (h.yes t).0), row_told o n ts b₀ body k x p (h.yes t).0 Equal (h.yes t).1);
      no = λ t. (λ l. row_told o n ts b₀ body k x (p - 1) (omega (arith, h.within)) Less ((h.no t).0 l), λ l. row_told o n ts b₀ body k x p (omega arith) Greater ((h.no t).1 (omega arith)));
    }

same_group_lem : (o : Options) (t u : Subtotal) → cmp_sub o t u ≡ Equal → length t.group ≡ o.by → length u.group ≡ o.by → t.group ≡ u.group
same_group_lem o t u e a b = ext_get_or null t.group u.group (a ∙ sym b) (λ i l. group_equal o t.group u.group e i (omega (arith, a)))

pub times_least : (p n w : ℕ) → p ≤ n → p * w ≤ n * w
times_least p n zero h = omega arith
times_least p n (suc w) h = let i = times_least p n w h in let a : p * suc w ≡ p + p * w = omega arith in let b : n * suc w ≡ n + n * w = omega arith in omega arith

pub times_less : (n p w : ℕ) → p ≤ n → (n - p) * w ≡ n * w - p * w
times_less n p w h = let e : n ≡ (n - p) + p = omega arith in let d : n * w ≡ (n - p) * w + p * w = ap (λ (z : ℕ). z * w) e ∙ omega arith in omega arith

-- The row of a sale of a left row, by its words.
module _ (o : Options) (q : ℕ) (vs ms : Words) (h : q + o.by < length vs) (l : length vs ≤ length ms) (f : pairs_fine vs ms ≡ true) (amount : ℤ) where
  abbrev x : List Cell
  x = row_from (suc o.by) q vs ms

  abbrev u : Subtotal
  u = unit_of o x amount

  sale_group : u.group ≡ row_from o.by q vs ms
  sale_group = group_of o.by (suc o.by) q vs ms (omega arith)

  sale_words : map value_word u.group ≡ take o.by (drop q vs)
  sale_words = ap (map value_word) sale_group ∙ group_words o.by q vs ms f (omega arith) l

  sale_long : length u.group ≡ o.by
  sale_long = ap length sale_group ∙ row_length o.by q vs ms (omega arith) (omega arith)

  sale_plain : null_group o x ≡ false → Plain o.by u
  sale_plain e = record {
    long = sale_long;
    full = values_back u.group (λ i k. let j : i < o.by = omega (arith, sale_long) in ap is_null (get_or-take o.by x i null j) ∙ null_free o o.by x e i j);
  }

  row_of_lem : (total : ℤ) (count : ℕ) → map value_word (row_of (record { group = u.group; total = total; count = count })) ≡ take o.by (drop q vs) ++ total ∷ pos count ∷ []
  row_of_lem total count = row_words (record { group = u.group; total = total; count = count }) ∙ ap (λ (z : Words). z ++ total ∷ pos count ∷ []) sale_words

  module _ (n : ℕ) (ts : List Subtotal) (b₀ body : Words) (k : Held o n ts b₀ body) (e : null_group o x ≡ false) (p : ℕ) where
    abbrev w : ℕ
    w = suc (suc o.by)

    abbrev R : Words
    R = drop (n * w) b₀

    risen : Rising o ts
    risen = rising o ts k.order

    -- The group is there.
    pub inserted_here : p < n → cmp_group o (sub_at ts p).group u.group ≡ Equal → (body' : Words)
        → body' ≡ paste body (p * w) (take o.by (drop q vs) ++ (get_or body (p * w + o.by) (pos 0) +ℤ amount) ∷ (get_or body (p * w + o.by + 1) (pos 0) +ℤ pos 1) ∷ []) w
        → Held o n (insert o u ts) b₀ body'
    inserted_here l eq body' d =
        let t = sub_at ts p in
        let m = k.rows in
        let pt = plain_at o.by ts p k.each (omega arith) in
        let same : t.group ≡ u.group = same_group_lem o t u eq pt.long sale_long in
        let ins : insert o u ts ≡ take p ts ++ plus t u ∷ drop (suc p) ts = insert_here o u ts p risen (omega arith) eq in
        let s = sums_at o.by n ts R k.each k.rows p l in
        let row : Words = take o.by (drop q vs) ++ (t.total +ℤ amount) ∷ (pos t.count +ℤ pos 1) ∷ [] in
        let plused : plus t u ≡ record { group = u.group; total = t.total +ℤ amount; count = t.count + 1 } = ap (λ (g : List Cell). record { group = g; total = t.total +ℤ amount; count = t.count + 1 }) same in
        let rowis : map value_word (row_of (plus t u)) ≡ row = ap (λ (y : Subtotal). map value_word (row_of y)) plused ∙ row_of_lem (t.total +ℤ amount) (t.count + 1) in
        let lrow : length row ≡ w = ap length (sym rowis) ∙ row_long o.by (plus t u) pt.long in
        let Q : Words = table_values (drop (suc p) ts) ++ R in
        let got : body' ≡ table_values (take p ts) ++ (row ++ Q) =
        d ∙ ap (λ (z : Words). paste z (p * w) (take o.by (drop q vs) ++ (get_or z (p * w + o.by) (pos 0) +ℤ amount) ∷ (get_or z (p * w + o.by + 1) (pos 0) +ℤ pos 1) ∷ []) w) k.words
        ∙ rw (s.0, s.1) (ap (λ (z : Words). paste z (p * w) row w) (cut_row o.by n ts R k.each k.rows p l)
        ∙ paste_mid (table_values (take p ts)) (map value_word (row_of t)) Q row (p * w) w (before_long o.by n ts R k.each k.rows p (omega arith)) (row_long o.by t pt.long) lrow) in
        let vals : table_values (take p ts ++ plus t u ∷ drop (suc p) ts) ++ R ≡ table_values (take p ts) ++ (row ++ Q) =
        ap (λ (z : Words). z ++ R) (values_append (take p ts) (plus t u ∷ drop (suc p) ts) ∙ ap (λ (z : Words). table_values (take p ts) ++ z) (values_cons (plus t u) (drop (suc p) ts) ∙ ap (λ (z : Words). z ++ table_values (drop (suc p) ts)) rowis)) ∙ simp append_assoc in
        let words : body' ≡ table_values (insert o u ts) ++ R = got ∙ sym vals ∙ ap (λ (z : List Subtotal). table_values z ++ R) (sym ins) in
        let count : length (insert o u ts) ≡ n = ap length ins ∙ length-append (take p ts) (plus t u ∷ drop (suc p) ts) ∙ omega (arith, length-take-le p ts (omega arith), length-drop (suc p) ts, m, l) in
        let pls : EachPlain o.by (insert o u ts) = rw ins (plain_append o.by (take p ts) (plus t u ∷ drop (suc p) ts) (plain_take o.by ts p k.each) (record { long = pt.long; full = pt.full }, plain_drop o.by ts (suc p) k.each)) in
        record {
          rows = count;
          words = words;
          long = body_long o.by n (insert o u ts) R body' count pls words ∙ sym (body_long o.by n ts R body m k.each k.words) ∙ k.long;
          order = rising_ascending o (insert o u ts) (rising_insert o u ts risen);
          each = pls;
        }

    -- It is not.
    pub inserted_new : p ≤ n → (0 < p → cmp_group o (sub_at ts (p - 1)).group u.group ≡ Less) → (p < n → cmp_group o (sub_at ts p).group u.group ≡ Greater) → n * w + w ≤ length body → (body' : Words)
        → body' ≡ paste (paste body (p * w + w) (drop (p * w) body) (n * w - p * w)) (p * w) (take o.by (drop q vs) ++ amount ∷ pos 1 ∷ []) w
        → Held o (n + 1) (insert o u ts) b₀ body'
    inserted_new l before after room body' d =
        let m = k.rows in
        let lb = k.long in
        let ins : insert o u ts ≡ take p ts ++ u ∷ drop p ts = insert_new o u ts p risen (omega arith) before (λ z. after (omega arith)) in
        let row : Words = take o.by (drop q vs) ++ amount ∷ pos 1 ∷ [] in
        let rowis : map value_word (row_of u) ≡ row = row_of_lem amount 1 in
        let lrow : length row ≡ w = ap length (sym rowis) ∙ row_long o.by u sale_long in
        let P : Words = table_values (take p ts) in
        let Q : Words = table_values (drop p ts) in
        let lp : length P ≡ p * w = before_long o.by n ts R k.each k.rows p l in
        let lq : length Q ≡ n * w - p * w = values_long o.by (drop p ts) (plain_drop o.by ts p k.each) ∙ ap (λ (z : ℕ). z * w) (length-drop p ts ∙ ap (λ (z : ℕ). z - p) m) ∙ times_less n p w l in
        let lr : length R ≡ length b₀ - n * w = length-drop (n * w) b₀ in
        let pn : p * w ≤ n * w = times_least p n w l in
        let got : body' ≡ P ++ (row ++ (Q ++ drop w R)) =
        d ∙ ap (λ (z : Words). paste (paste z (p * w + w) (drop (p * w) z) (n * w - p * w)) (p * w) row w) (k.words ∙ cut_gap o.by n ts R k.each k.rows p l)
        ∙ paste_open P Q R row (p * w) (n * w) w lp lq pn (omega arith) lrow in
        let nw : n * w + w ≡ (n + 1) * w = omega arith in
        let behind : drop w R ≡ drop ((n + 1) * w) b₀ = drop-drop w (n * w) b₀ ∙ rw nw in
        let vals : table_values (take p ts ++ u ∷ drop p ts) ++ drop w R ≡ P ++ (row ++ (Q ++ drop w R)) =
        ap (λ (z : Words). z ++ drop w R) (values_append (take p ts) (u ∷ drop p ts) ∙ ap (λ (z : Words). P ++ z) (values_cons u (drop p ts) ∙ ap (λ (z : Words). z ++ Q) rowis)) ∙ simp append_assoc in
        let words : body' ≡ table_values (insert o u ts) ++ drop ((n + 1) * w) b₀ = got ∙ sym vals ∙ ap (λ (z : List Subtotal). table_values z ++ drop w R) (sym ins) ∙ ap (λ (z : Words). table_values (insert o u ts) ++ z) behind in
        let count : length (insert o u ts) ≡ n + 1 = ap length ins ∙ length-append (take p ts) (u ∷ drop p ts) ∙ omega (arith, length-take-le p ts (omega arith), length-drop p ts, m, l) in
        let pls : EachPlain o.by (insert o u ts) = rw ins (plain_append o.by (take p ts) (u ∷ drop p ts) (plain_take o.by ts p k.each) (sale_plain e, plain_drop o.by ts p k.each)) in
        record {
          rows = count;
          words = words;
          long = body_long o.by (n + 1) (insert o u ts) (drop ((n + 1) * w) b₀) body' count pls words ∙ omega (arith, length-drop ((n + 1) * w) b₀, nw, room, lb);
          order = rising_ascending o (insert o u ts) (rising_insert o u ts risen);
          each = pls;
        }

-- ---- sums stay within a word
mag_abs : (z : ℤ) → mag z ≤ nat_abs z
mag_abs (pos n) = let e : n ≤ n = omega arith in e
mag_abs (negsuc n) = let e : n ≤ suc n = omega arith in e

pub total_fits : (a b : ℤ) → nat_abs a ≤ most_sales * most_amount → nat_abs b ≤ most_amount → mag (a +ℤ b) < 2 ^ 63
total_fits a b h l = omega (arith, mag_abs (a +ℤ b), abs_plus a b)

pub count_fits : (a : ℤ) → nat_abs a ≤ most_sales → mag (a +ℤ pos 1) < 2 ^ 63
count_fits a h = omega (arith, mag_abs (a +ℤ pos 1), abs_plus a (pos 1))
