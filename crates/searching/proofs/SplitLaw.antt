-- The split of a prune: of any rows it is a place of them; of sorted rows, none that goes matters to a left row from t on. Assumes nothing.
use mathlib.Core.Path.{◌≡◌, sym, ◌∙◌}
use mathlib.Core.Bool.{true}
use mathlib.Core.List.{List, []}
use mathlib.Core.Logic.{◌⊎◌, inl, inr}
use Prim.Native.Nat.{ℕ, ◌≤◌, ◌<◌}
use native.Mathlib.Omega.{arith}
use lib.ListN.{length, get_or}
use Rattle.frames.specs.Cells.{Cell, Rows}
use Rattle.order.specs.options.Options.{key_rule, strategy_of}
use Rattle.order.specs.Order.{cmp_group, cmp_row, key_of, sorted}
use Rattle.order.proofs.OrderLaws.{row_by_key}
use Rattle.order.proofs.SortedLaws.{sorted_at}
use Rattle.order.specs.declared.options.Options.{Options}
use Rattle.std.specs.declared.cmp.Ordering.TheVariants.{Less}
use Rattle.order.specs.declared.options.Strategy.{Strategy}
use Rattle.order.specs.declared.options.Strategy.TheVariants.{Backward, Forward, Nearest}
use Rattle.searching.specs.Reach.{narrowed, find_key, step_back, split_at}
use Rattle.searching.specs.declared.Seek.TheVariants.{AtLeast}
use Rattle.searching.proofs.Promise.{Covered, Dropped, Split}
use Rattle.searching.proofs.SearchLaws.{before_or}
use Rattle.searching.proofs.Bounds.{Bounds, find_within, narrow_inside, below_is_less, group_bounds, key_cut}

-- ---- any rows
step_within : (s : Strategy) (start at n : ℕ) → start ≤ n → at ≤ n → step_back s start at ≤ n
step_within Backward start at n h k = omega arith
step_within Forward start at n h k = omega arith
step_within Nearest start at n h k = omega arith

module _ (o : Options) (t : List Cell) (held : Rows) where
  -- The first row of t's group whose key is at least t's.
  abbrev key_at : ℕ
  key_at = find_key o AtLeast (key_of o t) held (narrowed o held t).start (narrowed o held t).end

  key_within : ((narrowed o held t).start ≤ key_at) × (key_at ≤ (narrowed o held t).end)
  key_within = find_within AtLeast key_rule o.by (key_of o t) held (narrowed o held t).start (narrowed o held t).end (narrow_inside o t held o.by).ordered

  pub split_within : split_at o t held ≤ length held
  unfolding split_at
  split_within =
      let w = narrow_inside o t held o.by in
      step_within (strategy_of o) (narrowed o held t).start key_at (length held) (omega (arith, w.ordered, w.within)) (omega (arith, key_within.1, w.within))

  -- ---- sorted rows
  module _ (e : sorted o held ≡ true) where
    bounds : Bounds (cmp_group o) held t (narrowed o held t)
    bounds = group_bounds o t held (sorted_at o held e)

    less : (i : ℕ) → i < key_at → cmp_row o (get_or held i []) t ≡ Less
    less i h = below_is_less (cmp_row o (get_or held i []) t) ((key_cut o t held (sorted_at o held e) AtLeast).before i (omega arith) h)

    -- A split that steps back: what goes has a group before t's, or the first row that stays has t's group and is less than t.
    stepped : (i p : ℕ) → i < p → ((narrowed o held t).start ≤ i → p < key_at) → (cmp_group o (get_or held i []) t ≡ Less) ⊎ Covered o t held p
    stepped i p h back = by (before_or i (narrowed o held t).start)
      where
        by : (i < (narrowed o held t).start) ⊎ ((narrowed o held t).start ≤ i) → (cmp_group o (get_or held i []) t ≡ Less) ⊎ Covered o t held p
        by (inl l) = inl (bounds.before i l)
        by (inr l) =
            let before : p < key_at = back l in
            let group = bounds.level p (omega arith) (omega (arith, key_within.1)) in
            inr (record {
              there = omega (arith, key_within.1, bounds.inside.within);
              group = group;
              key = sym (row_by_key o (get_or held p []) t group) ∙ less p before;
            })

    gone : (s : Strategy) (i : ℕ) → i < step_back s (narrowed o held t).start key_at → Dropped o s t held (step_back s (narrowed o held t).start key_at) (get_or held i [])
    gone Backward i h = stepped i _ h (λ l. omega arith)
    gone Forward i h = less i h
    gone Nearest i h = stepped i _ h (λ l. omega arith)

    pub split : Split o t held (split_at o t held)
    unfolding split_at
    split = record { within = split_within; dropped = gone (strategy_of o) }
