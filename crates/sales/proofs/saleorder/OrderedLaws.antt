-- Sales in group order, counted one after the other. Assumes nothing.
use mathlib.Core.Path.{◌≡◌, refl, sym, ap, ◌∙◌}
use mathlib.Core.Bool.{Bool, true, false, cond, not}
use mathlib.Core.List.{List, ◌∷◌}
use Prim.Native.Nat.{ℕ, suc, ◌+◌, ◌-◌, ◌*◌, ◌≤◌, ◌<◌}
use native.Mathlib.Omega.{arith}
use lib.ListN.{length, take}
use Rattle.frames.specs.Cells.{Cell, Words}
use Rattle.order.specs.declared.options.Options.{Options}
use Rattle.order.specs.Order.{cmp_group}
use Rattle.std.specs.declared.cmp.Ordering.TheVariants.{Less, Equal}
use Rattle.order.proofs.OrderLaws.{cmp_group_is}
use Rattle.takings.specs.Subtotals.{Subtotal, insert, add_all}
use Rattle.takings.proofs.SubtotalLaws.{Rising, rising, rising_insert}
use Rattle.sales.specs.salekind.Kinds.{kind_of}
use Rattle.sales.proofs.salekind.KindLaws.{left_at, answer_at, unit}
use Rattle.sales.specs.salegroup.Group.{plain}
use Rattle.sales.specs.saleplace.Place.{cmp_at, Placed}
use Rattle.sales.proofs.saleplace.PlaceLaws.{placed_within}
use Rattle.sales.specs.salecount.Counts.{is_there, TableIs, is_amount}
use Rattle.sales.proofs.salecount.CountLaws.{left_taken, there_taken, there_equal, there_insert, length_insert, table_tells, more_added, sold_from, kind_at, none_more, one_more, none_left}
use Rattle.sales.specs.saleorder.Ordered.{group_side, side_of}

module _ (o : Options) where
  -- How far the count has come: W is the table that the sales so far make, l the last sale's left row.
  pub record Counted (ts U₀ U W : List Subtotal) (any : Bool) (l : List Cell) (m : ℕ) : Type 0 where
    pub rows : m ≡ length W
    pub order : Rising o W
    pub left : add_all o W U ≡ add_all o ts U₀
    pub there : any ≡ true → is_there o l W ≡ true
    pub behind : (g : List Cell) → group_side o any l g ≡ Less → is_there o g W ≡ is_there o g ts

  -- A sale of a group behind the last.
  pub counted_less : (ts U₀ U W : List Subtotal) (any : Bool) (l : List Cell) (m : ℕ) (u : Subtotal) (x : List Cell) → u.group ≡ take o.by x → Counted ts U₀ (u ∷ U) W any l m → group_side o any l x ≡ Less → (here : Bool) → here ≡ is_there o x ts
      → Counted ts U₀ U (insert o u W) true x (cond here m (m + 1))
  counted_less ts U₀ U W any l m u x e c s here h =
      let b : is_there o u.group W ≡ here = ap (λ (z : List Cell). is_there o z W) e ∙ there_taken o x W ∙ c.behind x s ∙ sym h in
      let i : (g : List Cell) → cmp_group o u.group g ≡ cmp_group o x g = λ g. ap (λ (z : List Cell). cmp_group o z g) e ∙ left_taken o o.by o.by x g (omega arith) in
      record {
        rows = count here m (length W) c.rows ∙ sym (length_insert o u W c.order ∙ rw b);
        order = rising_insert o u W c.order;
        left = sym (more_added o W U u) ∙ c.left;
        there = λ t. there_insert o x u W ∙ rw (i x, (cmp_group_is o).equal x);
        behind = λ g k. there_insert o g u W ∙ rw (i g, k) (c.behind g (then any s g k));
      }
    where
      count : (b : Bool) (m n : ℕ) → m ≡ n → cond b m (m + 1) ≡ cond b n (suc n)
      count true m n e = e
      count false m n e = omega arith

      then : (b : Bool) → group_side o b l x ≡ Less → (g : List Cell) → cmp_group o x g ≡ Less → group_side o b l g ≡ Less
      then true s g k = (cmp_group_is o).less l x g s k
      then false s g k = refl

  -- A sale of the last one's group.
  pub counted_equal : (ts U₀ U W : List Subtotal) (any : Bool) (l : List Cell) (m : ℕ) (u : Subtotal) (x : List Cell) → u.group ≡ take o.by x → Counted ts U₀ (u ∷ U) W any l m → group_side o any l x ≡ Equal
      → Counted ts U₀ U (insert o u W) any l m
  counted_equal ts U₀ U W false l m u x e c s = let z : ◌≡◌ {A = ℕ} 0 1 = cc in absurd (omega arith)
  counted_equal ts U₀ U W true l m u x e c s =
      let b : is_there o u.group W ≡ true = ap (λ (z : List Cell). is_there o z W) e ∙ there_taken o x W ∙ sym (there_equal o l x W s) ∙ c.there refl in
      let i : (g : List Cell) → cmp_group o u.group g ≡ cmp_group o l g = λ g. ap (λ (z : List Cell). cmp_group o z g) e ∙ left_taken o o.by o.by x g (omega arith) ∙ sym ((cmp_group_is o).same l x g s) in
      record {
        rows = c.rows ∙ sym (length_insert o u W c.order ∙ rw b);
        order = rising_insert o u W c.order;
        left = sym (more_added o W U u) ∙ c.left;
        there = λ t. there_insert o l u W ∙ rw (i l, (cmp_group_is o).equal l);
        behind = λ g k. there_insert o g u W ∙ rw (i g, k) (c.behind g k);
      }

  -- The first `near` rows of the table are before every group behind the last sale's.
  abbrev pub Passed : ℕ → ℕ → Words → Bool → List Cell → Type 0
  Passed near n table any l = (near ≤ n) × ((g : List Cell) → group_side o any l g ≡ Less → 0 < near → cmp_at o (suc (suc o.by)) table g (near - 1) ≡ Less)

  pub passed_starts : (n : ℕ) (table : Words) (any : Bool) (l : List Cell) → Passed 0 n table any l
  passed_starts n table any l = (omega arith, λ g s h. absurd (omega arith))

  module _ (near n : ℕ) (table : Words) (any : Bool) (l : List Cell) (k : Passed near n table any l) (x : List Cell) (s : group_side o any l x ≡ Less) (p : ℕ) where
    -- A place behind them is one among all rows.
    pub passed_place : (here : Bool) → Placed o (suc (suc o.by)) near n table x p here → Placed o (suc (suc o.by)) 0 n table x p here
    passed_place here h = placed_within o (suc (suc o.by)) 0 n table x near n p here (omega arith) (omega arith) (k.1 x s) (λ z. absurd (omega arith)) h

    -- And the rows up to it are before every group behind the sale's.
    pub passed_more : (here : Bool) → Placed o (suc (suc o.by)) near n table x p here → Passed (cond (not here) p (p + 1)) n table true x
    passed_more true h = let y = h.yes refl in let e : p + 1 - 1 ≡ p = omega arith in (omega (arith, y.0), λ g z i. rw e ((cmp_group_is o).same (plain o.by (p * suc (suc o.by)) table) x g y.1 ∙ z))
    passed_more false h = (h.within, λ g z i. (cmp_group_is o).less (plain o.by ((p - 1) * suc (suc o.by)) table) x g (((passed_place false h).no refl).0 i) z)

-- ---- row by row
module _ (o : Options) (n rows d : ℕ) (table lv lm av am : Words) (ts : List Subtotal) (t : TableIs o n ts table) where
  abbrev U : ℕ → List Subtotal
  U i = sold_from o rows d lv lm av am i

  abbrev L : ℕ → List Cell
  L i = left_at o rows d lv lm av am i

  abbrev A : ℕ → List Cell
  A i = answer_at o rows d lv lm av am i

  pub record CountedTo (any : Bool) (l : List Cell) (m i : ℕ) : Type 0 where
    pub whole : List Subtotal
    pub counted : Counted o ts (U 0) (U i) whole any l m

  pub to_starts : (l : List Cell) → CountedTo false l n 0
  to_starts l = record { whole = ts; counted = record { rows = sym t.held.rows; order = rising o ts t.held.order; left = refl; there = λ e. let z : ◌≡◌ {A = ℕ} 0 1 = cc in absurd (omega arith); behind = λ g e. refl } }

  module _ (any : Bool) (l : List Cell) (m i : ℕ) (h : i < rows) (r : CountedTo any l m i) where
    abbrev u : Subtotal
    u = unit o (L i) (A i)

    now : is_amount (kind_at o rows d lv lm av am i) ≡ true → Counted o ts (U 0) (u ∷ U (i + 1)) r.whole any l m
    now e = rw (← one_more o rows d lv lm av am i h e) r.counted

    pub to_less : side_of o any l (L i) (A i) ≡ Less → (p : ℕ) (here : Bool) → Placed o (suc (suc o.by)) 0 n table (L i) p here → CountedTo true (L i) (cond here m (m + 1)) (i + 1)
    to_less s p here k = by (is_amount (kind_at o rows d lv lm av am i)) refl s
      where
        by : (b : Bool) → is_amount (kind_at o rows d lv lm av am i) ≡ b → cond b (group_side o any l (L i)) Equal ≡ Less → CountedTo true (L i) (cond here m (m + 1)) (i + 1)
        by true e s = record { whole = insert o u r.whole; counted = counted_less o ts (U 0) (U (i + 1)) r.whole any l m u (L i) refl (now e) s here (table_tells o n ts table t (L i) p here k) }
        by false e s = let z : ◌≡◌ {A = ℕ} 0 1 = cc in absurd (omega arith)

    pub to_equal : side_of o any l (L i) (A i) ≡ Equal → CountedTo any l m (i + 1)
    to_equal s = by (is_amount (kind_at o rows d lv lm av am i)) refl s
      where
        by : (b : Bool) → is_amount (kind_at o rows d lv lm av am i) ≡ b → cond b (group_side o any l (L i)) Equal ≡ Equal → CountedTo any l m (i + 1)
        by true e s = record { whole = insert o u r.whole; counted = counted_equal o ts (U 0) (U (i + 1)) r.whole any l m u (L i) refl (now e) s }
        by false e s = record { whole = r.whole; counted = rw (← none_more o rows d lv lm av am i h e) r.counted }

  pub to_ends : (any : Bool) (l : List Cell) (m i : ℕ) → rows ≤ i → CountedTo any l m i → m ≡ length (add_all o ts (U 0))
  to_ends any l m i h r = r.counted.rows ∙ ap length (sym (none_left o rows d lv lm av am r.whole i h) ∙ r.counted.left)

-- A row that is behind the last sale is a sale of a group behind its own.
pub side_less : (o : Options) (any : Bool) (l x a : List Cell) → side_of o any l x a ≡ Less → group_side o any l x ≡ Less
side_less o any l x a s = by (is_amount (kind_of o x a)) s
  where
    by : (b : Bool) → cond b (group_side o any l x) Equal ≡ Less → group_side o any l x ≡ Less
    by true s = s
    by false s = let z : ◌≡◌ {A = ℕ} 0 1 = cc in absurd (omega arith)

-- The count grows by one at most.
pub more_most : (here : Bool) (m : ℕ) → cond here m (m + 1) ≤ m + 1
more_most true m = omega arith
more_most false m = omega arith
