-- The laws of subtotals: what an insertion adds to a group's count and total; that it keeps group order; and that a table in group order is the only one
-- that says what it says of every group. Assumes nothing.
use mathlib.Core.Path.{◌≡◌, refl, sym, ap, ◌∙◌}
use mathlib.Core.Bool.{Bool, true, false, cond}
use mathlib.Core.List.{List, [], ◌∷◌}
use mathlib.Core.Logic.{◌⊎◌, inl, inr}
use Prim.Native.Nat.{ℕ, suc, ◌+◌, ◌-◌, ◌*◌, ◌≤◌, ◌<◌}
use native.Mathlib.Omega.{arith}
use native.Mathlib.Decide.{dec_lt}
use borrow.Author.Tests.{lt-ltb, le-ltb}
use lib.IntN.{ℤ, pos, negsuc, nat_abs, sub_ℕ, ◌+ℤ◌, ◌-ℤ◌, +ℤ_assoc, +ℤ_comm, +ℤ_idl, +ℤ_idr, +ℤ-neg_ℤ_cancel}
use lib.ListN.{length}
use lib.Seq.{ext_get_or}
use Rattle.frames.specs.Cells.{Cell, null}
use Rattle.order.specs.Order.{cmp_group, is_less, is_equal}
use Rattle.order.specs.declared.options.Options.{Options}
use Rattle.std.specs.declared.cmp.Ordering.{Ordering}
use Rattle.std.specs.declared.cmp.Ordering.TheVariants.{Less, Equal, Greater}
use Rattle.order.proofs.OrderLaws.{cmp_group_is, greater_less, less_greater, three, group_equal}
use Rattle.frames.proofs.BoolLaws.{and-true}
use Rattle.takings.specs.Subtotals.{Subtotal, cmp_sub, plus, insert, add_all, total_for, count_for, ascending, each_sold, sales_in, most_amount, Tells}

-- ---- what holds of each subtotal
abbrev pub Every : (Subtotal → Type 0) → List Subtotal → Type 0
Every P [] = Unit {0}
Every P (t ∷ ts) = P t × Every P ts

pub every_map : (P Q : Subtotal → Type 0) → ((t : Subtotal) → P t → Q t) → (ts : List Subtotal) → Every P ts → Every Q ts
every_map P Q f [] h = tt
every_map P Q f (t ∷ ts) h = (f t h.0, every_map P Q f ts h.1)

is_less_lem : (z : Ordering) → is_less z ≡ true → z ≡ Less
is_less_lem Less e = refl
is_less_lem Equal e = cc
is_less_lem Greater e = cc

-- ---- whole numbers
swap_z : (a b c : ℤ) → a +ℤ (b +ℤ c) ≡ b +ℤ (a +ℤ c)
swap_z a b c = sym (+ℤ_assoc a b c) ∙ ap (λ (z : ℤ). z +ℤ c) (+ℤ_comm a b) ∙ +ℤ_assoc b a c

cancel_z : (a b c : ℤ) → a +ℤ b ≡ a +ℤ c → b ≡ c
cancel_z a b c e =
    sym (+ℤ-neg_ℤ_cancel b a) ∙ ap (λ (z : ℤ). z -ℤ a) (+ℤ_comm b a ∙ e ∙ +ℤ_comm a c) ∙ +ℤ-neg_ℤ_cancel c a

module _ (o : Options) where
  -- ---- a group's count and total, one subtotal at a time
  abbrev part : List Cell → Subtotal → ℕ
  part g u = cond (is_equal (cmp_group o u.group g)) u.count 0

  abbrev share : List Cell → Subtotal → ℤ
  share g u = cond (is_equal (cmp_group o u.group g)) u.total (pos 0)

  pub count_more : (g : List Cell) (u : Subtotal) (us : List Subtotal) → count_for o g (u ∷ us) ≡ part g u + count_for o g us
  unfolding count_for
  count_more g u us = by (is_equal (cmp_group o u.group g))
    where
      by : (b : Bool) → cond b (u.count + count_for o g us) (count_for o g us) ≡ cond b u.count 0 + count_for o g us
      by true = refl
      by false = omega arith

  pub total_more : (g : List Cell) (u : Subtotal) (us : List Subtotal) → total_for o g (u ∷ us) ≡ share g u +ℤ total_for o g us
  unfolding total_for
  total_more g u us = by (is_equal (cmp_group o u.group g))
    where
      by : (b : Bool) → cond b (u.total +ℤ total_for o g us) (total_for o g us) ≡ cond b u.total (pos 0) +ℤ total_for o g us
      by true = refl
      by false = sym (+ℤ_idl (total_for o g us))

  -- Two of one group, together.
  part_plus : (g : List Cell) (t u : Subtotal) → cmp_sub o u t ≡ Equal → part g (plus t u) ≡ part g u + part g t
  part_plus g t u e = rw ((cmp_group_is o).same u.group t.group g e) (by (is_equal (cmp_group o t.group g)))
    where
      by : (b : Bool) → cond b (t.count + u.count) 0 ≡ cond b u.count 0 + cond b t.count 0
      by true = omega arith
      by false = omega arith

  share_plus : (g : List Cell) (t u : Subtotal) → cmp_sub o u t ≡ Equal → share g (plus t u) ≡ share g u +ℤ share g t
  share_plus g t u e = rw ((cmp_group_is o).same u.group t.group g e) (by (is_equal (cmp_group o t.group g)))
    where
      by : (b : Bool) → cond b (t.total +ℤ u.total) (pos 0) ≡ cond b u.total (pos 0) +ℤ cond b t.total (pos 0)
      by true = +ℤ_comm t.total u.total
      by false = sym (+ℤ_idl (pos 0))

  -- ---- an insertion adds its own, and no more
  insert_ind : (P : List Subtotal → Type 0) (u t : Subtotal) (ts : List Subtotal) → (cmp_sub o u t ≡ Less → P (u ∷ t ∷ ts)) → (cmp_sub o u t ≡ Equal → P (plus t u ∷ ts))
      → (cmp_sub o u t ≡ Greater → P (t ∷ insert o u ts)) → P (insert o u (t ∷ ts))
  unfolding insert
  insert_ind P u t ts a b c = by (cmp_sub o u t) a b c
    where
      by : (z : Ordering) → (z ≡ Less → P (u ∷ t ∷ ts)) → (z ≡ Equal → P (plus t u ∷ ts)) → (z ≡ Greater → P (t ∷ insert o u ts))
          → P (elim z [ Less ↦ u ∷ t ∷ ts | Equal ↦ plus t u ∷ ts | Greater ↦ t ∷ insert o u ts ])
      by Less a b c = a refl
      by Equal a b c = b refl
      by Greater a b c = c refl

  insert_nil : (u : Subtotal) → insert o u [] ≡ u ∷ []
  unfolding insert
  insert_nil u = refl

  pub count_insert : (g : List Cell) (u : Subtotal) (ts : List Subtotal) → count_for o g (insert o u ts) ≡ count_for o g (u ∷ ts)
  count_insert g u [] = rw (insert_nil u)
  count_insert g u (t ∷ ts) =
      insert_ind (λ z. count_for o g z ≡ count_for o g (u ∷ t ∷ ts)) u t ts
      (λ e. refl)
      (λ e. omega (arith, count_more g (plus t u) ts, count_more g u (t ∷ ts), count_more g t ts, part_plus g t u e))
      (λ e. omega (arith, count_more g t (insert o u ts), count_insert g u ts, count_more g u ts, count_more g u (t ∷ ts), count_more g t ts))

  pub total_insert : (g : List Cell) (u : Subtotal) (ts : List Subtotal) → total_for o g (insert o u ts) ≡ total_for o g (u ∷ ts)
  total_insert g u [] = rw (insert_nil u)
  total_insert g u (t ∷ ts) =
      insert_ind (λ z. total_for o g z ≡ total_for o g (u ∷ t ∷ ts)) u t ts
      (λ e. refl)
      (λ e. rw (total_more g (plus t u) ts, total_more g u (t ∷ ts), total_more g t ts, share_plus g t u e) (+ℤ_assoc (share g u) (share g t) (total_for o g ts)))
      (λ e. rw (total_more g t (insert o u ts), total_insert g u ts, total_more g u ts, total_more g u (t ∷ ts), total_more g t ts) (swap_z (share g t) (share g u) (total_for o g ts)))

  pub count_all : (g : List Cell) (ts us : List Subtotal) → count_for o g (add_all o ts us) ≡ count_for o g ts + count_for o g us
  unfolding add_all count_for
  count_all g ts [] = omega arith
  count_all g ts (u ∷ us) = omega (arith, count_all g (insert o u ts) us, count_insert g u ts, count_more g u ts, count_more g u us)

  pub total_all : (g : List Cell) (ts us : List Subtotal) → total_for o g (add_all o ts us) ≡ total_for o g ts +ℤ total_for o g us
  unfolding add_all total_for
  total_all g ts [] = sym (+ℤ_idr (total_for o g ts))
  total_all g ts (u ∷ us) =
      total_all g (insert o u ts) us
      ∙ rw (total_insert g u ts, total_more g u ts, total_more g u us)
      (+ℤ_assoc (share g u) (total_for o g ts) (total_for o g us) ∙ swap_z (share g u) (total_for o g ts) (total_for o g us))

  -- ---- group order: each is before every later one
  abbrev pub Above : List Cell → List Subtotal → Type 0
  Above g ts = Every (λ t. cmp_group o g t.group ≡ Less) ts

  abbrev pub Rising : List Subtotal → Type 0
  Rising [] = Unit {0}
  Rising (t ∷ ts) = Above t.group ts × Rising ts

  above_then : (g h : List Cell) (ts : List Subtotal) → cmp_group o g h ≡ Less → Above h ts → Above g ts
  above_then g h ts l = every_map (λ t. cmp_group o h t.group ≡ Less) (λ t. cmp_group o g t.group ≡ Less) (λ t. (cmp_group_is o).less g h t.group l) ts

  pub rising : (ts : List Subtotal) → ascending o ts ≡ true → Rising ts
  unfolding ascending
  rising [] e = tt
  rising (t ∷ []) e = (tt, tt)
  rising (t ∷ u ∷ ts) e =
      let p = and-true (is_less (cmp_sub o t u)) (ascending o (u ∷ ts)) e in
      let l = is_less_lem (cmp_sub o t u) p.0 in
      let r = rising (u ∷ ts) p.1 in
      ((l, above_then t.group u.group ts l r.0), r)

  pub rising_ascending : (ts : List Subtotal) → Rising ts → ascending o ts ≡ true
  unfolding ascending
  rising_ascending [] r = refl
  rising_ascending (t ∷ []) r = refl
  rising_ascending (t ∷ u ∷ ts) r = rw r.0.0 (rising_ascending (u ∷ ts) r.1)

  -- What holds of a group that is inserted and of those of a table holds of those after.
  pub every_insert : (P : List Cell → Type 0) (u : Subtotal) (ts : List Subtotal) → P u.group → Every (λ t. P t.group) ts → Every (λ t. P t.group) (insert o u ts)
  every_insert P u [] p h = rw (insert_nil u) (p, tt)
  every_insert P u (t ∷ ts) p h = insert_ind (Every (λ t. P t.group)) u t ts (λ e. (p, h)) (λ e. (h.0, h.1)) (λ e. (h.0, every_insert P u ts p h.1))

  pub rising_insert : (u : Subtotal) (ts : List Subtotal) → Rising ts → Rising (insert o u ts)
  rising_insert u [] r = rw (insert_nil u) (tt, tt)
  rising_insert u (t ∷ ts) r =
      insert_ind Rising u t ts
      (λ e. ((e, above_then u.group t.group ts e r.0), r))
      (λ e. (r.0, r.1))
      (λ e. (every_insert (λ g. cmp_group o t.group g ≡ Less) u ts (greater_less (cmp_group_is o) u.group t.group e) r.0, rising_insert u ts r.1))

  -- ---- each has a sale
  abbrev pub Sold : List Subtotal → Type 0
  Sold ts = Every (λ t. 1 ≤ t.count) ts

  pub sold_insert : (u : Subtotal) (ts : List Subtotal) → 1 ≤ u.count → Sold ts → Sold (insert o u ts)
  sold_insert u [] p h = rw (insert_nil u) (p, tt)
  sold_insert u (t ∷ ts) p h = insert_ind Sold u t ts (λ e. (p, h)) (λ e. (omega (arith, h.0), h.1)) (λ e. (h.0, sold_insert u ts p h.1))

  -- ---- all of it, along an addition
  pub record Fine (ts : List Subtotal) : Type 0 where
    pub order : Rising ts
    pub sold : Sold ts
    pub wide : Every (λ t. length t.group ≡ o.by) ts

  abbrev pub Unit-fine : Subtotal → Type 0
  Unit-fine u = (1 ≤ u.count) × (length u.group ≡ o.by)

  pub fine_insert : (u : Subtotal) (ts : List Subtotal) → Unit-fine u → Fine ts → Fine (insert o u ts)
  fine_insert u ts p f = record {
    order = rising_insert u ts f.order;
    sold = sold_insert u ts p.0 f.sold;
    wide = every_insert (λ g. length g ≡ o.by) u ts p.1 f.wide;
  }

  pub fine_all : (ts us : List Subtotal) → Every Unit-fine us → Fine ts → Fine (add_all o ts us)
  unfolding add_all
  fine_all ts [] h f = f
  fine_all ts (u ∷ us) h f = fine_all (insert o u ts) us h.1 (fine_insert u ts h.0 f)

  pub fine_units : (ts : List Subtotal) → Fine ts → Every Unit-fine ts
  fine_units ts f = go ts f.sold f.wide
    where
      go : (ts : List Subtotal) → Sold ts → Every (λ t. length t.group ≡ o.by) ts → Every Unit-fine ts
      go [] s w = tt
      go (t ∷ ts) s w = ((s.0, w.0), go ts s.1 w.1)

  -- ---- a table in group order is the only one that says what it says
  above_none : (g : List Cell) (ts : List Subtotal) → Above g ts → (count_for o g ts ≡ 0) × (total_for o g ts ≡ pos 0)
  unfolding count_for total_for
  above_none g [] h = (refl, refl)
  above_none g (t ∷ ts) h =
      let e : cmp_group o t.group g ≡ Greater = less_greater (cmp_group_is o) g t.group h.0 in
      let n = above_none g ts h.1 in
      (rw e n.0, rw e n.1)

  own_count : (t : Subtotal) (ts : List Subtotal) → count_for o t.group (t ∷ ts) ≡ t.count + count_for o t.group ts
  own_count t ts = count_more t.group t ts ∙ rw ((cmp_group_is o).equal t.group)

  own_total : (t : Subtotal) (ts : List Subtotal) → total_for o t.group (t ∷ ts) ≡ t.total +ℤ total_for o t.group ts
  own_total t ts = total_more t.group t ts ∙ rw ((cmp_group_is o).equal t.group)

  abbrev SameCounts : List Subtotal → List Subtotal → Type 0
  SameCounts ts us = (g : List Cell) → count_for o g ts ≡ count_for o g us

  abbrev SameTotals : List Subtotal → List Subtotal → Type 0
  SameTotals ts us = (g : List Cell) → total_for o g ts ≡ total_for o g us

  -- A group that has a sale is not before all of another table that says the same.
  not_above : (t : Subtotal) (ts us : List Subtotal) → 1 ≤ t.count → SameCounts (t ∷ ts) us → Above t.group us → ⊥
  not_above t ts us s c a = omega (arith, own_count t ts, c t.group, (above_none t.group us a).0)

  same_group_lem : (t u : Subtotal) → cmp_sub o t u ≡ Equal → length t.group ≡ o.by → length u.group ≡ o.by → t.group ≡ u.group
  same_group_lem t u e a b = ext_get_or null t.group u.group (a ∙ sym b) (λ i l. group_equal o t.group u.group e i (omega (arith, a)))

  one_subtotal : (t u : Subtotal) → t.group ≡ u.group → t.total ≡ u.total → t.count ≡ u.count → t ≡ u
  one_subtotal t u a b c = rw (← a, ← b, ← c)

  pub only_table : (ts us : List Subtotal) → Fine ts → Fine us → SameCounts ts us → SameTotals ts us → ts ≡ us
  only_table [] [] f g c d = refl
  only_table [] (u ∷ us) f g c d = absurd (not_above u us [] g.sold.0 (λ h. sym (c h)) tt)
  only_table (t ∷ ts) [] f g c d = absurd (not_above t ts [] f.sold.0 c tt)
  only_table (t ∷ ts) (u ∷ us) f g c d =
      by (three (cmp_group_is o) t.group u.group) (λ p q. only_table ts us (rest t ts f) (rest u us g) p q)
    where
      rest : (t : Subtotal) (ts : List Subtotal) → Fine (t ∷ ts) → Fine ts
      rest t ts f = record { order = f.order.1; sold = f.sold.1; wide = f.wide.1 }

      both : t ≡ u → (SameCounts ts us → SameTotals ts us → ts ≡ us) → t ∷ ts ≡ u ∷ us
      both e ih =
          let p : SameCounts ts us = λ h. omega (arith, count_more h t ts, count_more h u us, c h, ap (part h) e) in
          let q : SameTotals ts us = λ h. cancel_z (share h t) (total_for o h ts) (total_for o h us) (sym (total_more h t ts) ∙ d h ∙ total_more h u us ∙ rw e) in
          rw (e, ih p q)

      equal : cmp_sub o t u ≡ Equal → t ≡ u
      equal e =
          let g≡ = same_group_lem t u e f.wide.0 g.wide.0 in
          let x = above_none t.group ts f.order.0 in
          let y = above_none u.group us g.order.0 in
          let n : t.count ≡ u.count = omega (arith, own_count t ts, own_count u us, x.0, y.0, c t.group, ap (λ (h : List Cell). count_for o h (u ∷ us)) g≡) in
          let m : t.total +ℤ pos 0 ≡ u.total +ℤ pos 0 =
          rw x.1 at (sym (own_total t ts)) ∙ d t.group ∙ ap (λ (h : List Cell). total_for o h (u ∷ us)) g≡ ∙ rw y.1 at (own_total u us) in
          one_subtotal t u g≡ (sym (+ℤ_idr t.total) ∙ m ∙ +ℤ_idr u.total) n

      by : (cmp_sub o t u ≡ Less) ⊎ ((cmp_sub o t u ≡ Equal) ⊎ (cmp_sub o t u ≡ Greater)) → (SameCounts ts us → SameTotals ts us → ts ≡ us) → t ∷ ts ≡ u ∷ us
      by (inl l) ih = absurd (not_above t ts (u ∷ us) f.sold.0 c (l, above_then t.group u.group us l g.order.0))
      by (inr (inl e)) ih = both (equal e) ih
      by (inr (inr l)) ih =
          let k = greater_less (cmp_group_is o) t.group u.group l in
          absurd (not_above u us (t ∷ ts) g.sold.0 (λ h. sym (c h)) (k, above_then u.group t.group ts k f.order.0))

  -- ---- so a table tells the sums
  sold_each : (ts : List Subtotal) → Sold ts → each_sold ts ≡ true
  unfolding each_sold
  sold_each [] h = refl
  sold_each (t ∷ ts) h = rw (lt-ltb 0 t.count h.0) (sold_each ts h.1)

  pub fine_tells : (ts us : List Subtotal) → Fine ts → SameCounts ts us → SameTotals ts us → Tells o ts us
  fine_tells ts us f c d = record { in_order = rising_ascending ts f.order; sold = sold_each ts f.sold; counts = c; totals = d }

-- ---- the sum of the sale counts: so a result beyond 2^31 depends on the sales alone, whatever the order of the calls
insert_sales : (o : Options) (u : Subtotal) (ts : List Subtotal) → sales_in (insert o u ts) ≡ u.count + sales_in ts
unfolding sales_in
insert_sales o u [] = ap sales_in (insert_nil o u)
insert_sales o u (t ∷ ts) =
    insert_ind o (λ z. sales_in z ≡ u.count + (t.count + sales_in ts)) u t ts (λ e. refl) (λ e. omega arith) (λ e. omega (arith, insert_sales o u ts))

pub all_sales_lem : (o : Options) (ts us : List Subtotal) → sales_in (add_all o ts us) ≡ sales_in ts + sales_in us
unfolding add_all sales_in
all_sales_lem o ts [] = omega arith
all_sales_lem o ts (u ∷ us) = omega (arith, all_sales_lem o (insert o u ts) us, insert_sales o u ts)

-- ---- a total is at most its count times the greatest amount, and a group has no null
sub_abs : (a b : ℕ) → nat_abs (sub_ℕ a b) ≡ (a - b) + (b - a)
sub_abs a b = by (dec_lt a b)
  where
    by : Dec (a < b) → nat_abs (sub_ℕ a b) ≡ (a - b) + (b - a)
    by (yes l) = simp (lt-ltb a b l) (omega arith)
    by (no g) = simp (le-ltb a b (omega arith)) (omega arith)

pub abs_plus : (a b : ℤ) → nat_abs (a +ℤ b) ≤ nat_abs a + nat_abs b
abs_plus (pos a) (pos b) = omega arith
abs_plus (pos a) (negsuc b) = omega (arith, sub_abs a (suc b))
abs_plus (negsuc a) (pos b) = omega (arith, sub_abs b (suc a))
abs_plus (negsuc a) (negsuc b) = omega arith

abbrev pub Bounded : Subtotal → Type 0
Bounded t = nat_abs t.total ≤ t.count * most_amount

pub bounded_insert : (o : Options) (u : Subtotal) (ts : List Subtotal) → Bounded u → Every Bounded ts → Every Bounded (insert o u ts)
bounded_insert o u [] p h = rw (insert_nil o u) (p, tt)
bounded_insert o u (t ∷ ts) p h =
    insert_ind o (Every Bounded) u t ts (λ e. (p, h)) (λ e. (omega (arith, abs_plus t.total u.total, p, h.0), h.1)) (λ e. (h.0, bounded_insert o u ts p h.1))

pub bounded_all : (o : Options) (ts us : List Subtotal) → Every Bounded us → Every Bounded ts → Every Bounded (add_all o ts us)
unfolding add_all
bounded_all o ts [] h f = f
bounded_all o ts (u ∷ us) h f = bounded_all o (insert o u ts) us h.1 (bounded_insert o u ts h.0 f)

pub every_all : (o : Options) (P : List Cell → Type 0) (ts us : List Subtotal) → Every (λ t. P t.group) us → Every (λ t. P t.group) ts → Every (λ t. P t.group) (add_all o ts us)
unfolding add_all
every_all o P ts [] h f = f
every_all o P ts (u ∷ us) h f = every_all o P (insert o u ts) us h.1 (every_insert o P u ts h.0 f)
