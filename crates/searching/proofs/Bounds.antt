-- What narrowing and a find stand at. Of any rows: within the range. Of rows in order: before the range they are less than the row sought, in it
-- equal, behind it greater, by the columns looked at so far; each further column, and at last the key, goes by one argument. Assumes nothing.
use mathlib.Core.Path.{◌≡◌, refl, sym, ap, ◌∙◌}
use mathlib.Core.Bool.{true, false}
use mathlib.Core.List.{List, []}
use Prim.Native.Nat.{ℕ, zero, suc, ◌≤◌, ◌<◌}
use native.Mathlib.Omega.{arith}
use lib.ListN.{length, get_or}
use Rattle.frames.specs.Cells.{Cell, cell, Rows}
use Rattle.order.specs.options.Options.{Rule, by_rule, key_rule}
use Rattle.order.specs.Order.{next, is_greater, cmp_cell, cmp_first, cmp_group, cmp_row, key_of}
use Rattle.order.proofs.OrderLaws.{IsOrder, AtMost, same_right, less_greater, greater_less, then_less, less_then, on, then, cmp_cell_is, cmp_first_is, cmp_group_is, group_at_most}
use Rattle.order.proofs.SortedLaws.{greater_not}
use Rattle.order.specs.declared.options.Options.{Options}
use Rattle.std.specs.declared.cmp.Ordering.{Ordering}
use Rattle.std.specs.declared.cmp.Ordering.TheVariants.{Less, Equal, Greater}
use Rattle.searching.specs.Search.{meets, find}
use Rattle.searching.specs.Reach.{Range, narrow_by, narrow, narrowed, find_key}
use Rattle.searching.specs.declared.Seek.{Seek}
use Rattle.searching.specs.declared.Seek.TheVariants.{AtLeast, Above}
use Rattle.searching.proofs.SearchLaws.{Cut, search_within, search_part}

-- ---- any rows
pub record Inside (n : ℕ) (r : Range) : Type 0 where
  pub ordered : r.start ≤ r.end
  pub within : r.end ≤ n

pub find_within : (k : Seek) (rule : Rule) (j : ℕ) (v : Cell) (rows : Rows) (lower upper : ℕ) → lower ≤ upper
    → (lower ≤ find k rule j v rows lower upper) × (find k rule j v rows lower upper ≤ upper)
unfolding find
find_within k rule j v rows lower upper h = search_within (λ i. meets k (cmp_cell rule (cell j (get_or rows i [])) v)) lower upper h

-- A column leaves a range within the range that it was given.
module _ (rule : Rule) (j : ℕ) (t : List Cell) (held : Rows) (r : Range) where
  abbrev pub column_start : ℕ
  column_start = find AtLeast rule j (cell j t) held r.start r.end

  abbrev pub column_end : ℕ
  column_end = find Above rule j (cell j t) held column_start r.end

  pub column_inside : Inside (length held) r → Inside (length held) (record { start = column_start; end = column_end })
  column_inside w =
      let s = find_within AtLeast rule j (cell j t) held r.start r.end w.ordered in
      let e = find_within Above rule j (cell j t) held column_start r.end s.1 in
      record { ordered = e.0; within = omega (arith, e.1) }

pub narrow_inside : (o : Options) (t : List Cell) (held : Rows) (j : ℕ) → Inside (length held) (narrow o held t j)
unfolding narrow narrow_by
narrow_inside o t held zero = record { ordered = omega arith; within = omega arith }
narrow_inside o t held (suc j) = column_inside (by_rule o j) j t held (narrow o held t j) (narrow_inside o t held j)

-- ---- what a find says of the order
pub below_is_less : (x : Ordering) → meets AtLeast x ≡ false → x ≡ Less
below_is_less Less e = refl
below_is_less Equal e = cc
below_is_less Greater e = cc

pub above_is_greater : (x : Ordering) → meets Above x ≡ true → x ≡ Greater
above_is_greater Less e = cc
above_is_greater Equal e = cc
above_is_greater Greater e = refl

pub at_least_not_less : (x : Ordering) → meets AtLeast x ≡ true → x ≡ Less → ⊥
at_least_not_less x e l = let z : ◌≡◌ {A = ℕ} 0 1 = cc in omega arith

not_less_at_least : (x : Ordering) → (x ≡ Less → ⊥) → meets AtLeast x ≡ true
not_less_at_least Less h = absurd (h refl)
not_less_at_least Equal h = refl
not_less_at_least Greater h = refl

between_is_equal : (x : Ordering) → meets AtLeast x ≡ true → meets Above x ≡ false → x ≡ Equal
between_is_equal Less e h = cc
between_is_equal Equal e h = refl
between_is_equal Greater e h = cc

-- What is less is never met, what is greater always.
less_meets : (k : Seek) {x : Ordering} → x ≡ Less → meets k x ≡ false
less_meets AtLeast e = rw e
less_meets Above e = rw e

greater_meets : (k : Seek) {x : Ordering} → x ≡ Greater → meets k x ≡ true
greater_meets AtLeast e = rw e
greater_meets Above e = rw e

-- ---- rows in order
-- By an order f: no row is greater than a later one.
abbrev pub Climbs : (List Cell → List Cell → Ordering) → Rows → Type 0
Climbs f rows = (i k : ℕ) → i ≤ k → k < length rows → AtMost f (get_or rows i []) (get_or rows k [])

-- The range of the rows that are equal to t.
pub record Bounds (f : List Cell → List Cell → Ordering) (held : Rows) (t : List Cell) (r : Range) : Type 0 where
  pub inside : Inside (length held) r
  pub before : (i : ℕ) → i < r.start → f (get_or held i []) t ≡ Less
  pub level : (i : ℕ) → r.start ≤ i → i < r.end → f (get_or held i []) t ≡ Equal
  pub after : (i : ℕ) → r.end ≤ i → i < length held → f (get_or held i []) t ≡ Greater

-- By f, then by column j.
abbrev pub with_column : (List Cell → List Cell → Ordering) → Rule → ℕ → List Cell → List Cell → Ordering
with_column f rule j r s = next (f r s) (cmp_cell rule (cell j r) (cell j s))

module _ {f : List Cell → List Cell → Ordering} (F : IsOrder f) where
  -- A later row meets what an earlier one meets.
  pub meets_later : (k : Seek) (r s t : List Cell) → AtMost f r s → meets k (f r t) ≡ true → meets k (f s t) ≡ true
  meets_later AtLeast r s t h e = not_less_at_least (f s t) (λ l. at_least_not_less (f r t) e (then_less F r s t h l))
  meets_later Above r s t h e = ap is_greater (less_greater F t s (less_then F t r s (greater_less F r t (above_is_greater (f r t) e)) h))

  -- Rows that are equal by f have the same range.
  pub bounds_same : (held : Rows) (t u : List Cell) (r : Range) → f u t ≡ Equal → Bounds f held t r → Bounds f held u r
  bounds_same held t u r e b = record {
    inside = b.inside;
    before = λ i h. sym (same_right F (get_or held i []) u t e) ∙ b.before i h;
    level = λ i h k. sym (same_right F (get_or held i []) u t e) ∙ b.level i h k;
    after = λ i h k. sym (same_right F (get_or held i []) u t e) ∙ b.after i h k;
  }

module _ {f : List Cell → List Cell → Ordering} (F : IsOrder f) (rule : Rule) (j : ℕ) (t : List Cell) (held : Rows) (up : Climbs (with_column f rule j) held)
    (r : Range) (b : Bounds f held t r) where
  -- A find in column j, over the range of the rows equal by f, cuts all rows by f, then column j. It may start at any place with no row met before it.
  pub column_cut : (k : Seek) (from : ℕ) → r.start ≤ from → from ≤ r.end
      → ((i : ℕ) → i < from → meets k (with_column f rule j (get_or held i []) t) ≡ false)
      → Cut (λ i. meets k (with_column f rule j (get_or held i []) t)) 0 (length held) (find k rule j (cell j t) held from r.end)
  unfolding find
  column_cut k from sf fe below =
      search_part (λ i. meets k (cmp_cell rule (cell j (get_or held i [])) (cell j t))) (λ i. meets k (with_column f rule j (get_or held i []) t)) from r.end (length held)
      fe b.inside.within
      (λ i m a h l. meets_later (then F (on (λ (x : List Cell). cell j x) (cmp_cell_is rule))) k (get_or held i []) (get_or held m []) t (up i m h l))
      below
      (λ i h l. greater_meets k (rw (b.after i h l)))
      (λ i h l. rw (b.level i (omega arith) l))

  -- From the range's start.
  pub start_cut : (k : Seek) → Cut (λ i. meets k (with_column f rule j (get_or held i []) t)) 0 (length held) (find k rule j (cell j t) held r.start r.end)
  start_cut k = column_cut k r.start (omega arith) b.inside.ordered (λ i h. less_meets k (rw (b.before i h)))

  -- So the column's own range is that of the rows that are equal by f and in column j.
  pub column_bounds : Bounds (with_column f rule j) held t (record { start = column_start rule j t held r; end = column_end rule j t held r })
  column_bounds = record {
    inside = column_inside rule j t held r b.inside;
    before = less;
    level = λ i h k. between_is_equal (with_column f rule j (get_or held i []) t) (low.after i h (omega (arith, high.to))) (high.before i (omega arith) k);
    after = λ i h k. above_is_greater (with_column f rule j (get_or held i []) t) (high.after i h k);
  }
    where
      low : Cut (λ i. meets AtLeast (with_column f rule j (get_or held i []) t)) 0 (length held) (column_start rule j t held r)
      low = start_cut AtLeast

      less : (i : ℕ) → i < column_start rule j t held r → with_column f rule j (get_or held i []) t ≡ Less
      less i h = below_is_less (with_column f rule j (get_or held i []) t) (low.before i (omega arith) h)

      high : Cut (λ i. meets Above (with_column f rule j (get_or held i []) t)) 0 (length held) (column_end rule j t held r)
      high =
          let s = find_within AtLeast rule j (cell j t) held r.start r.end b.inside.ordered in
          column_cut Above (column_start rule j t held r) s.0 s.1 (λ i h. less_meets Above (less i h))

-- ---- the by-columns, then the key
module _ (o : Options) (t : List Cell) (held : Rows) where
  pub first_bounds : (j : ℕ) → Climbs (cmp_first o j) held → Bounds (cmp_first o j) held t (narrow o held t j)
  unfolding cmp_first narrow narrow_by
  first_bounds zero up = record { inside = narrow_inside o t held zero; before = λ i h. absurd (omega arith); level = λ i h k. refl; after = λ i h k. absurd (omega arith) }
  first_bounds (suc j) up =
      column_bounds (cmp_first_is o j) (by_rule o j) j t held up (narrow o held t j)
      (first_bounds j (λ i k h l g. up i k h l (rw g)))

  module _ (up : Climbs (cmp_row o) held) where
    pub group_bounds : Bounds (cmp_group o) held t (narrowed o held t)
    group_bounds = first_bounds o.by (λ i k h l. group_at_most o (get_or held i []) (get_or held k []) (up i k h l))

    pub key_cut : (k : Seek)
        → Cut (λ i. meets k (cmp_row o (get_or held i []) t)) 0 (length held) (find_key o k (key_of o t) held (narrowed o held t).start (narrowed o held t).end)
    unfolding cmp_row
    key_cut k = start_cut (cmp_group_is o) key_rule o.by t held up (narrowed o held t) group_bounds k

    -- The first row beyond a row of t's group, looked for from that row on.
    pub beyond_cut : (m : ℕ) → (narrowed o held t).start ≤ m → m < (narrowed o held t).end
        → Cut (λ i. meets Above (cmp_row o (get_or held i []) (get_or held m []))) 0 (length held) (find_key o Above (key_of o (get_or held m [])) held m (narrowed o held t).end)
    unfolding cmp_row
    beyond_cut m h l =
        let b = group_bounds in
        column_cut (cmp_group_is o) key_rule o.by (get_or held m []) held up (narrowed o held t)
        (bounds_same (cmp_group_is o) held t (get_or held m []) (narrowed o held t) (b.level m h l) b) Above m h (omega arith)
        (λ i k. greater_not (cmp_row o (get_or held i []) (get_or held m [])) (up i m (omega arith) (omega (arith, b.inside.within))))
