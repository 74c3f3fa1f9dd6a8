-- On sorted rows the prune by row 0 and then by the last row drops what the last row's alone drops: a planner needs one search. Assumes nothing.
use mathlib.Core.Path.{◌≡◌, refl, ap, ◌∙◌}
use mathlib.Core.Bool.{Bool, true, false, cond, ◌||◌}
use mathlib.Core.List.{List, [], ◌∷◌}
use Prim.Native.Nat.{ℕ, suc, ◌+◌, ◌-◌, ◌≤◌, ◌<◌, max}
use native.Mathlib.Omega.{arith}
use native.Mathlib.Decide.{dec_lt}
use borrow.Author.Tests.{eqb-true, ne_eqb}
use lib.Dec.{eqb}
use lib.ListN.{length, drop, get_or, length-drop}
use lib.Seq.{get_or-drop}
use Rattle.frames.specs.Cells.{Cell, Rows}
use Rattle.order.specs.options.Options.{is_on, strategy_of}
use Rattle.order.specs.Order.{cmp_group, cmp_row, key_of, sorted}
use Rattle.order.specs.declared.options.Options.{Options}
use Rattle.std.specs.declared.cmp.Ordering.{Ordering}
use Rattle.std.specs.declared.cmp.Ordering.TheVariants.{Less, Equal, Greater}
use Rattle.order.specs.declared.options.Strategy.{Strategy}
use Rattle.order.specs.declared.options.Strategy.TheVariants.{Backward, Forward, Nearest}
use Rattle.order.proofs.OrderLaws.{AtMost, cmp_group_is, cmp_row_is, less_then, group_at_most}
use Rattle.order.proofs.SortedLaws.{sorted_at, sorted_drop}
use Rattle.searching.specs.Reach.{narrowed, find_key, step_back, split_at, prune_by}
use Rattle.searching.specs.declared.Seek.TheVariants.{AtLeast}
use Rattle.searching.proofs.Bounds.{Bounds, group_bounds, key_cut, find_within, below_is_less, at_least_not_less}
use Rattle.searching.proofs.SplitLaw.{split_within}
use Rattle.matchframe.specs.turnrows.Prunes.{first_prune, kept_rows, last_prune}

-- Where the rows that are less end: below p they are less, from p on they are not.
record Ends (less : ℕ → Type 0) (n p : ℕ) : Type 0 where
  within : p ≤ n
  below : (i : ℕ) → i < p → less i
  from : (i : ℕ) → p ≤ i → i < n → less i → ⊥

-- It ends there alone; and it ends later where more are less.
ends_later : (A B : ℕ → Type 0) (n p q : ℕ) → Ends A n p → Ends B n q → ((i : ℕ) → A i → B i) → p ≤ q
ends_later A B n p q a b f = by (dec_lt q p)
  where
    by : Dec (q < p) → p ≤ q
    by (yes h) = absurd (b.from q (omega arith) (omega (arith, a.within)) (f q (a.below q h)))
    by (no h) = omega arith

-- Without the first s rows.
ends_drop : (A B : ℕ → Type 0) (n s p q : ℕ) → s ≤ n → Ends A n p → Ends B (n - s) q → ((i : ℕ) → A (s + i) → B i) → ((i : ℕ) → B i → A (s + i)) → s + q ≡ max s p
ends_drop A B n s p q h a b f g = by (dec_lt (s + q) (max s p)) (dec_lt (max s p) (s + q))
  where
    by : Dec (s + q < max s p) → Dec (max s p < s + q) → s + q ≡ max s p
    by (yes u) d = absurd (b.from q (omega arith) (omega (arith, a.within)) (f q (a.below (s + q) (omega arith))))
    by (no u) (yes v) =
        let i : ℕ = max s p - s in
        let e : s + i ≡ max s p = omega arith in
        absurd (a.from (s + i) (omega arith) (omega (arith, b.within)) (g i (b.below i (omega arith))))
    by (no u) (no v) = omega arith

module _ (o : Options) (t : List Cell) (held : Rows) (e : sorted o held ≡ true) where
  abbrev start_of : ℕ
  start_of = (narrowed o held t).start

  abbrev key_at : ℕ
  key_at = find_key o AtLeast (key_of o t) held (narrowed o held t).start (narrowed o held t).end

  bounds : Bounds (cmp_group o) held t (narrowed o held t)
  bounds = group_bounds o t held (sorted_at o held e)

  not_equal : (x : Ordering) → x ≡ Equal → x ≡ Less → ⊥
  not_equal x p q = let z : ◌≡◌ {A = ℕ} 0 1 = cc in omega arith

  not_greater : (x : Ordering) → x ≡ Greater → x ≡ Less → ⊥
  not_greater x p q = let z : ◌≡◌ {A = ℕ} 0 1 = cc in omega arith

  start_ends : Ends (λ i. cmp_group o (get_or held i []) t ≡ Less) (length held) start_of
  start_ends = record {
    within = omega (arith, bounds.inside.ordered, bounds.inside.within);
    below = bounds.before;
    from = λ i h l. by i h l (dec_lt i (narrowed o held t).end);
  }
    where
      by : (i : ℕ) → start_of ≤ i → i < length held → Dec (i < (narrowed o held t).end) → cmp_group o (get_or held i []) t ≡ Less → ⊥
      by i h l (yes d) = not_equal (cmp_group o (get_or held i []) t) (bounds.level i h d)
      by i h l (no d) = not_greater (cmp_group o (get_or held i []) t) (bounds.after i (omega arith) l)

  key_ends : Ends (λ i. cmp_row o (get_or held i []) t ≡ Less) (length held) key_at
  key_ends =
      let c = key_cut o t held (sorted_at o held e) AtLeast in
      record {
        within = c.to;
        below = λ i h. below_is_less (cmp_row o (get_or held i []) t) (c.before i (omega arith) h);
        from = λ i h l. at_least_not_less (cmp_row o (get_or held i []) t) (c.after i h l);
      }

  start_key : start_of ≤ key_at
  start_key = (find_within AtLeast _ _ (key_of o t) held (narrowed o held t).start (narrowed o held t).end bounds.inside.ordered).0

-- The sum of two steps back.
kept_some : (s s₁ k₁ s₁' k₁' : ℕ) → s < k₁ → s + s₁' ≡ max s s₁ → s + k₁' ≡ k₁ → s + max (k₁' - 1) s₁' ≡ max (k₁ - 1) s₁
kept_some s s₁ k₁ s₁' k₁' h f g = omega arith

kept_none : (s s₀ k₀ s₁ k₁ : ℕ) → s ≡ max (k₀ - 1) s₀ → s₀ ≤ s₁ → k₀ ≤ k₁ → s₀ ≤ k₀ → s₁ ≤ k₁ → k₁ ≤ s → (s₁ ≡ s) × (k₁ ≡ s)
kept_none s s₀ k₀ s₁ k₁ e a b c d h = (omega arith, omega arith)

max_same : (s : ℕ) → max s s ≡ s
max_same s = omega arith

back_zero : (s : ℕ) → s + max (0 - 1) 0 ≡ max (s - 1) s
back_zero s = omega arith

back_sum : (s s₀ k₀ s₁ k₁ s₁' k₁' : ℕ) → s ≡ max (k₀ - 1) s₀ → s₀ ≤ s₁ → k₀ ≤ k₁ → s₀ ≤ k₀ → s₁ ≤ k₁ → s + s₁' ≡ max s s₁ → s + k₁' ≡ max s k₁ → s + max (k₁' - 1) s₁' ≡ max (k₁ - 1) s₁
back_sum s s₀ k₀ s₁ k₁ s₁' k₁' e a b c d f g = by (dec_lt s k₁)
  where
    up : s < k₁ → max s k₁ ≡ k₁
    up h = omega arith

    zero_of : (m n : ℕ) → m + n ≡ m → n ≡ 0
    zero_of m n q = omega arith

    by : Dec (s < k₁) → s + max (k₁' - 1) s₁' ≡ max (k₁ - 1) s₁
    by (yes h) = kept_some s s₁ k₁ s₁' k₁' h f (g ∙ up h)
    by (no h) =
        let n = kept_none s s₀ k₀ s₁ k₁ e a b c d (le h) in
        let zs : s₁' ≡ 0 = zero_of s s₁' (f ∙ ap (max s) n.0 ∙ max_same s) in
        let zk : k₁' ≡ 0 = zero_of s k₁' (g ∙ ap (max s) n.1 ∙ max_same s) in
        rw (zs, zk, n.0, n.1) (back_zero s)
      where
        le : (s < k₁ → ⊥) → k₁ ≤ s
        le h = omega arith

step_sum : (w : Strategy) (s s₀ k₀ s₁ k₁ s₁' k₁' : ℕ) → s ≡ step_back w s₀ k₀ → s₀ ≤ s₁ → k₀ ≤ k₁ → s₀ ≤ k₀ → s₁ ≤ k₁ → s + s₁' ≡ max s s₁ → s + k₁' ≡ max s k₁ → s + step_back w s₁' k₁' ≡ step_back w s₁ k₁
step_sum Backward s s₀ k₀ s₁ k₁ s₁' k₁' e a b c d f g = back_sum s s₀ k₀ s₁ k₁ s₁' k₁' e a b c d f g
step_sum Forward s s₀ k₀ s₁ k₁ s₁' k₁' e a b c d f g = omega (arith, e, b, g)
step_sum Nearest s s₀ k₀ s₁ k₁ s₁' k₁' e a b c d f g = back_sum s s₀ k₀ s₁ k₁ s₁' k₁' e a b c d f g

module _ (o : Options) (t u : List Cell) (tu : AtMost (cmp_row o) t u) (held : Rows) (e : sorted o held ≡ true) where
  abbrev s : ℕ
  s = split_at o t held

  abbrev kept : Rows
  kept = drop s held

  kept_sorted : sorted o kept ≡ true
  kept_sorted = sorted_drop o s held e

  shorter : length kept ≡ length held - s
  shorter = length-drop s held

  -- Row i of what is kept is row s + i.
  at_row : (i : ℕ) → get_or kept i [] ≡ get_or held (s + i) []
  at_row i = get_or-drop s held i []

  two_splits : s + split_at o u kept ≡ split_at o u held
  unfolding split_at
  two_splits =
      let G₀ = start_ends o t held e in
      let G₁ = start_ends o u held e in
      let K₀ = key_ends o t held e in
      let K₁ = key_ends o u held e in
      let G₂ = rw shorter at (start_ends o u kept kept_sorted) in
      let K₂ = rw shorter at (key_ends o u kept kept_sorted) in
      let w = split_within o t held in
      step_sum (strategy_of o) s (start_of o t held e) (key_at o t held e) (start_of o u held e) (key_at o u held e) (start_of o u kept kept_sorted) (key_at o u kept kept_sorted) refl
      (ends_later _ _ (length held) (start_of o t held e) (start_of o u held e) G₀ G₁ (λ i l. less_then (cmp_group_is o) (get_or held i []) t u l (group_at_most o t u tu)))
      (ends_later _ _ (length held) (key_at o t held e) (key_at o u held e) K₀ K₁ (λ i l. less_then (cmp_row_is o) (get_or held i []) t u l tu))
      (start_key o t held e) (start_key o u held e)
      (ends_drop (λ i. cmp_group o (get_or held i []) u ≡ Less) (λ i. cmp_group o (get_or kept i []) u ≡ Less) (length held) s (start_of o u held e) (start_of o u kept kept_sorted) w G₁ G₂ (λ i l. rw (at_row i) l) (λ i l. rw (at_row i) at l))
      (ends_drop (λ i. cmp_row o (get_or held i []) u ≡ Less) (λ i. cmp_row o (get_or kept i []) u ≡ Less) (length held) s (key_at o u held e) (key_at o u kept kept_sorted) w K₁ K₂ (λ i l. rw (at_row i) l) (λ i l. rw (at_row i) at l))

-- A frame with rows is pruned by its split, over no held row too.
prune_is : (o : Options) (i : ℕ) (y : List Cell) (ys held : Rows) → prune_by o i (y ∷ ys) held ≡ split_at o (get_or (y ∷ ys) i []) held
unfolding prune_by
prune_is o i y ys held = by (eqb (length held) 0) refl
  where
    by : (b : Bool) → eqb (length held) 0 ≡ b → cond (eqb (suc (length ys)) 0 || eqb (length held) 0) 0 (split_at o (get_or (y ∷ ys) i []) held) ≡ split_at o (get_or (y ∷ ys) i []) held
    by true q =
        let z = eqb-true (length held) 0 q in
        rw (q, ne_eqb (suc (length ys)) 0 (λ h. omega arith)) (omega (arith, split_within o (get_or (y ∷ ys) i []) held))
    by false q = rw (q, ne_eqb (suc (length ys)) 0 (λ h. omega arith)) refl

prune_none : (o : Options) (i : ℕ) (held : Rows) → prune_by o i [] held ≡ 0
unfolding prune_by
prune_none o i held = refl

pub one_prune : (o : Options) (x held : Rows) → sorted o x ≡ true → sorted o held ≡ true → first_prune o x held + last_prune o x held ≡ prune_by o (length x - 1) x held
unfolding first_prune last_prune kept_rows
one_prune o [] held sx sh = by (is_on o.check)
  where
    by : (b : Bool) → cond b 0 (prune_by o 0 [] held) + prune_by o (0 - 1) [] (drop (cond b 0 (prune_by o 0 [] held)) held) ≡ prune_by o (0 - 1) [] held
    by true = omega (arith, prune_none o (0 - 1) held)
    by false = omega (arith, prune_none o 0 held, prune_none o (0 - 1) (drop (prune_by o 0 [] held) held), prune_none o (0 - 1) held)
one_prune o (y ∷ ys) held sx sh = by (is_on o.check)
  where
    by : (b : Bool) → cond b 0 (prune_by o 0 (y ∷ ys) held) + prune_by o (suc (length ys) - 1) (y ∷ ys) (drop (cond b 0 (prune_by o 0 (y ∷ ys) held)) held) ≡ prune_by o (suc (length ys) - 1) (y ∷ ys) held
    by true = omega arith
    by false =
        rw (prune_is o 0 y ys held, prune_is o (suc (length ys) - 1) y ys (drop (split_at o y held) held), prune_is o (suc (length ys) - 1) y ys held)
        (two_splits o y (get_or (y ∷ ys) (suc (length ys) - 1) []) (sorted_at o (y ∷ ys) sx 0 (suc (length ys) - 1) (omega arith) (omega arith)) held sh)
