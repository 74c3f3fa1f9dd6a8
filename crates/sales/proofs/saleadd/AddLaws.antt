-- How far the adding of a frame's sales has come. Assumes nothing.
use mathlib.Core.Path.{◌≡◌, refl, sym, ap, ◌∙◌}
use mathlib.Core.Bool.{Bool, true, false, ◌||◌}
use mathlib.Core.List.{List, [], ◌∷◌, ◌++◌}
use Prim.Native.Nat.{ℕ, zero, suc, ◌+◌, ◌-◌, ◌*◌, ◌≤◌, ◌<◌}
use native.Mathlib.Omega.{arith}
use borrow.Author.Tests.{le-leb, ltb-false}
use lib.Dec.{ltb}
use lib.IntN.{ℤ, pos, nat_abs}
use lib.ListN.{length, take, drop, get_or, length-append, length-drop}
use lib.Seq.{paste}
use Rattle.frames.specs.Cells.{Cell, Words}
use Rattle.frames.specs.Frame.{pairs_fine}
use Rattle.order.specs.declared.options.Options.{Options}
use Rattle.std.specs.declared.cmp.Ordering.{Ordering}
use Rattle.std.specs.declared.cmp.Ordering.TheVariants.{Less, Equal, Greater}
use Rattle.takings.specs.Subtotals.{Subtotal, cmp_sub, plus, insert, add_all, ascending, sales_in, most_sales, most_amount}
use Rattle.takings.specs.Sales.{Sale, amounts_of, beyond_amounts}
use Rattle.takings.proofs.SubtotalLaws.{Every, Bounded, bounded_insert, all_sales_lem}
use Rattle.sales.specs.salekind.Kinds.{kind_of}
use Rattle.sales.specs.declared.salekind.Kind.{Kind}
use Rattle.sales.specs.declared.salekind.Kind.TheVariants.{Unmatched, Nothing, Amount}
use Rattle.sales.proofs.salekind.KindLaws.{sales_from, left_at, answer_at, from_all, from_none, row_unmatched, row_nothing, row_amount, amount_at, beyond_cons, none_sold}
use Rattle.sales.specs.saleinsert.Held.{Held, sub_at, unit_of}
use Rattle.sales.proofs.saleinsert.InsertLaws.{sums_at, times_least, body_long}
use Rattle.sales.specs.salepass.Pass.{Written, EachAddable}
use Rattle.sales.proofs.salepass.PassLaws.{all_written_lem}
use Rattle.tables.specs.Table.{words_of}
use Rattle.sales.specs.saleadd.Adds.{EachBounded, Starts}

-- ---- tables grow
insert_grows : (o : Options) (u : Subtotal) (ts : List Subtotal) → (length ts ≤ length (insert o u ts)) × (1 ≤ length (insert o u ts))
unfolding insert
insert_grows o u [] = (omega arith, omega arith)
insert_grows o u (t ∷ ts) = by (cmp_sub o u t) (insert_grows o u ts)
  where
    by : (z : Ordering) → (length ts ≤ length (insert o u ts)) × (1 ≤ length (insert o u ts))
        → (length (t ∷ ts) ≤ length {A = Subtotal} (elim z [ Less ↦ u ∷ t ∷ ts | Equal ↦ plus t u ∷ ts | Greater ↦ t ∷ insert o u ts ])) × (1 ≤ length {A = Subtotal} (elim z [ Less ↦ u ∷ t ∷ ts | Equal ↦ plus t u ∷ ts | Greater ↦ t ∷ insert o u ts ]))
    by Less h = (omega arith, omega arith)
    by Equal h = (omega arith, omega arith)
    by Greater h = (omega arith, omega arith)

all_grows : (o : Options) (ts us : List Subtotal) → length ts ≤ length (add_all o ts us)
unfolding add_all
all_grows o ts [] = omega arith
all_grows o ts (u ∷ us) = omega (arith, all_grows o (insert o u ts) us, (insert_grows o u ts).0)

all_cons : (o : Options) (ts us : List Subtotal) (u : Subtotal) → add_all o ts (u ∷ us) ≡ add_all o (insert o u ts) us
unfolding add_all
all_cons o ts us u = refl

all_none : (o : Options) (ts : List Subtotal) → add_all o ts [] ≡ ts
unfolding add_all
all_none o ts = refl

insert_sales : (o : Options) (u : Subtotal) (ts : List Subtotal) → sales_in (insert o u ts) ≡ u.count + sales_in ts
unfolding sales_in
insert_sales o u ts = ap sales_in (sym (all_cons o ts [] u ∙ all_none o (insert o u ts))) ∙ all_sales_lem o ts (u ∷ []) ∙ omega arith

-- ---- what a row's sums are at most
sum_at : (ts : List Subtotal) (i : ℕ) → i < length ts → (sub_at ts i).count ≤ sales_in ts
unfolding sales_in
sum_at [] i l = absurd (omega arith)
sum_at (t ∷ ts) zero l = omega arith
sum_at (t ∷ ts) (suc i) l = omega (arith, sum_at ts i (omega arith))

bound_at : (ts : List Subtotal) (i : ℕ) → EachBounded ts → i < length ts → nat_abs (sub_at ts i).total ≤ (sub_at ts i).count * most_amount
bound_at [] i b l = absurd (omega arith)
bound_at (t ∷ ts) zero b l = b.0
bound_at (t ∷ ts) (suc i) b l = bound_at ts i b.1 (omega arith)

-- Sales can be added to each row of a table whose sums are within the bounds.
pub held_addable : (o : Options) (n : ℕ) (ts : List Subtotal) (b₀ body : Words) → Held o n ts b₀ body → EachBounded ts → sales_in ts ≤ most_sales → EachAddable o.by n body
held_addable o n ts b₀ body k h u j l =
    let s = sums_at o.by n ts (drop (n * suc (suc o.by)) b₀) k.each k.rows j l in
    let c = sum_at ts j (omega (arith, k.rows)) in
    let b = bound_at ts j h (omega (arith, k.rows)) in
    rw (k.words, s.0, s.1) (record { total_is = omega (arith, b, c, u); count_is = omega (arith, c, u); sold = le-leb 0 (sub_at ts j).count (omega arith) })

-- The first of two parts is within the bounds of both.
bounded_front : (xs ys : List Subtotal) → EachBounded (xs ++ ys) → EachBounded xs
bounded_front [] ys b = tt
bounded_front (x ∷ xs) ys b = (b.0, bounded_front xs ys b.1)

sales_front : (xs ys : List Subtotal) → sales_in xs ≤ sales_in (xs ++ ys)
unfolding sales_in
sales_front [] ys = omega arith
sales_front (x ∷ xs) ys = omega (arith, sales_front xs ys)

each_every : (ts : List Subtotal) → EachBounded ts → Every Bounded ts
each_every [] b = tt
each_every (t ∷ ts) b = (b.0, each_every ts b.1)

every_each : (ts : List Subtotal) → Every Bounded ts → EachBounded ts
every_each [] b = tt
every_each (t ∷ ts) b = (b.0, every_each ts b.1)

or-false : (a b : Bool) → (a || b) ≡ false → (a ≡ false) × (b ≡ false)
or-false true b e = (cc, cc)
or-false false b e = (refl, e)

-- The words of a table are there.
pub source_words : (o : Options) (n : ℕ) (ts : List Subtotal) (table : Words) → Held o n ts table table → n * suc (suc o.by) ≤ length table
source_words o n ts table k = omega (arith, body_long o.by n ts (drop (n * suc (suc o.by)) table) table k.rows k.each k.words)

-- No row is written yet.
none_held : (o : Options) (b₀ : Words) → Held o 0 [] b₀ b₀
unfolding words_of ascending
none_held o b₀ = let z : 0 * suc (suc o.by) ≡ 0 = omega arith in record { rows = refl; words = rw z; long = refl; order = refl; each = tt }

module _ (o : Options) (n rows d : ℕ) (table lv lm av am b₀ : Words) where
  abbrev U : ℕ → List Subtotal
  U i = amounts_of (sales_from o rows d lv lm av am i)

  -- From the table t₀, the sales of rows up to i added: W is the table that they make.
  pub record Running (t₀ : List Subtotal) (m taken i : ℕ) (body : Words) : Type 0 where
    pub whole : List Subtotal
    pub written : Written o n m taken t₀ whole table b₀ body
    pub left : add_all o whole (U i) ≡ add_all o t₀ (U 0)
    pub bounded : EachBounded whole
    pub few : sales_in whole + length (U i) ≤ most_sales
    pub amounts : beyond_amounts (U i) ≡ false

  pub running_starts : (t₀ : List Subtotal) → Starts o n rows d t₀ table lv lm av am b₀ → Running t₀ 0 0 0 b₀
  running_starts t₀ s =
      let e = from_all o rows d lv lm av am in
      record {
        whole = t₀;
        written = record { ts = []; held = none_held o b₀; source = s.held; within = omega arith; order = s.held.order; whole = refl };
        left = refl;
        bounded = s.bounded;
        few = rw e s.few;
        amounts = rw e s.amounts;
      }

  abbrev K : ℕ → Kind
  K i = kind_of o (left_at o rows d lv lm av am i) (answer_at o rows d lv lm av am i)

  skipped : (t₀ : List Subtotal) (m taken i : ℕ) (body : Words) → U i ≡ U (i + 1) → Running t₀ m taken i body → Running t₀ m taken (i + 1) body
  skipped t₀ m taken i body e r = record { whole = r.whole; written = r.written; left = rw (← e) r.left; bounded = r.bounded; few = rw (← e) r.few; amounts = rw (← e) r.amounts }

  pub running_skip : (t₀ : List Subtotal) (m taken i : ℕ) (body : Words) → i < rows → (K i ≡ Amount → ⊥) → Running t₀ m taken i body → Running t₀ m taken (i + 1) body
  running_skip t₀ m taken i body l n r = by (K i) refl
    where
      by : (z : Kind) → K i ≡ z → Running t₀ m taken (i + 1) body
      by Unmatched e = skipped t₀ m taken i body (ap amounts_of (row_unmatched o rows d lv lm av am i l e)) r
      by Nothing e = skipped t₀ m taken i body (row_nothing o rows d lv lm av am i l e).0 r
      by Amount e = absurd (n e)

  -- The rows that are written, with those that are left, have room, and are as many as all together.
  module _ (t₀ : List Subtotal) (m taken i : ℕ) (body : Words) (r : Running t₀ m taken i body) where
    pub whole_count : length r.whole ≡ m + (n - taken)
    whole_count = let s = r.written in ap length (sym s.whole) ∙ length-append s.ts (drop taken t₀) ∙ omega (arith, s.held.rows, s.source.rows, length-drop taken t₀)

    pub rest_room : length (add_all o t₀ (U 0)) * suc (suc o.by) + length (add_all o t₀ (U 0)) * suc (suc o.by) ≤ length body → (m + (n - taken)) * suc (suc o.by) ≤ length body
    rest_room k =
        let a : length r.whole ≤ length (add_all o t₀ (U 0)) = rw (← r.left) (all_grows o r.whole (U i)) in
        omega (arith, times_least (m + (n - taken)) (length (add_all o t₀ (U 0))) (suc (suc o.by)) (omega (arith, whole_count)))

    pub rows_addable : EachAddable o.by m body
    rows_addable =
        let s = r.written in
        held_addable o m s.ts b₀ body s.held (bounded_front s.ts (drop taken t₀) (rw s.whole r.bounded)) (omega (arith, rw s.whole at (sales_front s.ts (drop taken t₀)), r.few))

  module _ (w : 2 ≤ d) (h : rows * d ≤ length av) (p : length av ≤ length am) (f : pairs_fine av am ≡ true) (i : ℕ) (l : i < rows) (e : K i ≡ Amount) where
    abbrev x : List Cell
    x = left_at o rows d lv lm av am i

    abbrev v : ℤ
    v = get_or av (i * d + 1) (pos 0)

    next : U i ≡ unit_of o x v ∷ U (i + 1)
    next =
        (row_amount o rows d lv lm av am i l e).0
        ∙ ap (λ (y : ℤ). record { group = take o.by x; total = y; count = 1 } ∷ U (i + 1)) (amount_at o rows d lv lm av am i l w h p f)

    module _ (t₀ : List Subtotal) (m taken : ℕ) (body : Words) (r : Running t₀ m taken i body) where
      pub small : nat_abs v ≤ most_amount
      small = ltb-false most_amount (nat_abs v) (or-false (ltb most_amount (nat_abs v)) (beyond_amounts (U (i + 1))) (sym (beyond_cons (unit_of o x v) (U (i + 1))) ∙ ap beyond_amounts (sym next) ∙ r.amounts)).0

      -- One more row has room.
      pub has_place : length (add_all o t₀ (U 0)) * suc (suc o.by) + length (add_all o t₀ (U 0)) * suc (suc o.by) ≤ length body → (m + (n - taken)) * suc (suc o.by) + suc (suc o.by) ≤ length body
      has_place k =
          let T = add_all o t₀ (U 0) in
          let g = insert_grows o (unit_of o x v) r.whole in
          let a : length (insert o (unit_of o x v) r.whole) ≤ length T = rw (← r.left, next, all_cons o r.whole (U (i + 1)) (unit_of o x v)) (all_grows o (insert o (unit_of o x v) r.whole) (U (i + 1))) in
          let y = times_least (m + (n - taken)) (length T) (suc (suc o.by)) (omega (arith, whole_count t₀ m taken i body r, a, g.0)) in
          let z = times_least 1 (length T) (suc (suc o.by)) (omega (arith, a, g.1)) in
          omega arith

      pub running_amount : (m' taken' : ℕ) (body' : Words) → Written o n m' taken' t₀ (insert o (unit_of o x v) r.whole) table b₀ body' → Running t₀ m' taken' (i + 1) body'
      running_amount m' taken' body' k =
          let c = insert_sales o (unit_of o x v) r.whole in
          let z = or-false (ltb most_amount (nat_abs v)) (beyond_amounts (U (i + 1))) (sym (beyond_cons (unit_of o x v) (U (i + 1))) ∙ ap beyond_amounts (sym next) ∙ r.amounts) in
          record {
            whole = insert o (unit_of o x v) r.whole;
            written = k;
            left = sym (all_cons o r.whole (U (i + 1)) (unit_of o x v)) ∙ ap (add_all o r.whole) (sym next) ∙ r.left;
            bounded = every_each (insert o (unit_of o x v) r.whole) (bounded_insert o (unit_of o x v) r.whole (omega (arith, small)) (each_every r.whole r.bounded));
            few = omega (arith, c, r.few, ap length next);
            amounts = z.1;
          }

  pub running_ends : (t₀ : List Subtotal) (m taken i : ℕ) (body body' : Words) → rows ≤ i → (r : Running t₀ m taken i body)
      → length (add_all o t₀ (U 0)) * suc (suc o.by) + length (add_all o t₀ (U 0)) * suc (suc o.by) ≤ length body
      → body' ≡ paste body (m * suc (suc o.by)) (drop (taken * suc (suc o.by)) table) ((n - taken) * suc (suc o.by))
      → Held o (m + (n - taken)) (add_all o t₀ (amounts_of (sales_from o rows d lv lm av am 0))) b₀ body'
  running_ends t₀ m taken i body body' l r k e =
      let z : add_all o r.whole (U i) ≡ r.whole = ap (λ (z : List Sale). add_all o r.whole (amounts_of z)) (from_none o rows d lv lm av am i l) ∙ ap (add_all o r.whole) none_sold.0 ∙ all_none o r.whole in
      rw (← r.left, z) (all_written_lem o n m taken t₀ r.whole table b₀ body r.written (rest_room t₀ m taken i body r k) body' e)
