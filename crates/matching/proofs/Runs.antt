-- The runs of rows: joined back they are the rows; in a run all groups are null, or all are equal and none is null; behind a run of sorted rows whose group is
-- not null every group is greater, so no other run has its group. Assumes nothing.
use mathlib.Core.Path.{◌≡◌, refl, sym, ◌∙◌}
use mathlib.Core.Bool.{Bool, true, false, ◌&&◌, ◌||◌}
use mathlib.Core.List.{List, [], ◌∷◌, ◌++◌, flatten}
use Prim.Native.Nat.{ℕ, zero, suc, ◌<◌}
use native.Mathlib.Omega.{arith}
use Rattle.frames.specs.Cells.{Cell, Rows, cell}
use Rattle.order.specs.Order.{cmp_group, cmp_row, is_equal, null_in, null_group, sorted}
use Rattle.order.proofs.OrderLaws.{AtMost, cmp_group_is, group_equal, group_at_most, less_then}
use Rattle.order.proofs.SortedLaws.{All, all_map, Ordered, ordered}
use Rattle.order.specs.declared.options.Options.{Options}
use Rattle.std.specs.declared.cmp.Ordering.{Ordering}
use Rattle.std.specs.declared.cmp.Ordering.TheVariants.{Less, Equal, Greater}
use Rattle.matching.specs.Groups.{same_run, join_run, runs, head_of}
use Rattle.matching.proofs.ChoiceLaws.{cond_ind}

-- ---- tests of an order
pub is_equal_lem : (c : Ordering) → is_equal c ≡ true → c ≡ Equal
is_equal_lem Equal e = refl
is_equal_lem Less e = cc
is_equal_lem Greater e = cc

pub only_less : (c : Ordering) → (c ≡ Greater → ⊥) → is_equal c ≡ false → c ≡ Less
only_less Less h e = refl
only_less Equal h e = cc
only_less Greater h e = absurd (h refl)

pub or-false : (a b : Bool) → (a || b) ≡ false → (a ≡ false) × (b ≡ false)
or-false true b e = ((cc), (cc))
or-false false b e = (refl, e)

-- ---- groups that stand in one run
null_first : (j : ℕ) (r s : List Cell) → ((i : ℕ) → i < j → cell i r ≡ cell i s) → null_in j r ≡ null_in j s
unfolding null_in
null_first zero r s h = refl
null_first (suc j) r s h = rw (null_first j r s (λ i l. h i (omega arith)), h j (omega arith))

module _ (o : Options) where
  -- Equal groups are null together.
  pub group_null : (r s : List Cell) → cmp_group o r s ≡ Equal → null_group o r ≡ null_group o s
  group_null r s e = null_first o.by r s (group_equal o r s e)

  -- Both null, or neither and equal.
  abbrev pub Near : List Cell → List Cell → Type 0
  Near r s = (null_group o r ≡ null_group o s) × (null_group o r ≡ false → cmp_group o r s ≡ Equal)

  pub near_refl : (r : List Cell) → Near r r
  near_refl r = (refl, λ n. (cmp_group_is o).equal r)

  near_trans : (r s t : List Cell) → Near r s → Near s t → Near r t
  near_trans r s t h k = (h.0 ∙ k.0, λ n. (cmp_group_is o).same r s t (h.1 n) ∙ k.1 (sym h.0 ∙ n))

  same_near : (r s : List Cell) → same_run o r s ≡ true → Near r s
  same_near r s e = go (null_group o r) (null_group o s) (cmp_group o r s) e (group_null r s)
    where
      go : (a b : Bool) (c : Ordering) → ((a && b) || is_equal c) ≡ true → (c ≡ Equal → a ≡ b) → (a ≡ b) × (a ≡ false → c ≡ Equal)
      go true true c e h = (refl, λ n. cc)
      go true false c e h = (h (is_equal_lem c e), λ n. is_equal_lem c e)
      go false b c e h = (h (is_equal_lem c e), λ n. is_equal_lem c e)

  -- ---- the parts that runs make
  -- A run is not empty, and each of its rows stands with the first.
  abbrev pub Run : Rows → Type 0
  Run [] = ⊥
  Run (r ∷ g) = All (Near r) g

  pub run_near : (g : Rows) → Run g → All (Near (head_of g)) g
  run_near [] h = tt
  run_near (r ∷ g) h = (near_refl r, h)

  -- Of a greater group than r, unless r's is null.
  abbrev pub Behind : List Cell → List Cell → Type 0
  Behind r s = null_group o r ≡ false → cmp_group o r s ≡ Less

  -- Each part is a run, and all parts behind it lie behind its first row.
  abbrev pub Parted : List Rows → Type 0
  Parted [] = Unit {0}
  Parted (g ∷ gs) = Run g × All (Behind (head_of g)) (flatten gs) × Parted gs

  -- Behind carries over: to a row of the same run, to a row that starts another run, to later rows.
  near_behind : (r s t : List Cell) → Near r s → Behind s t → Behind r t
  near_behind r s t h k = λ n. (cmp_group_is o).same r s t (h.1 n) ∙ k (sym h.0 ∙ n)

  apart_behind : (r s : List Cell) → AtMost (cmp_row o) r s → same_run o r s ≡ false → Behind r s
  apart_behind r s h e = λ n. only_less (cmp_group o r s) (group_at_most o r s h) (or-false (null_group o r && null_group o s) (is_equal (cmp_group o r s)) e).1

  behind_later : (r s t : List Cell) → Behind r s → AtMost (cmp_row o) s t → Behind r t
  behind_later r s t h k = λ n. less_then (cmp_group_is o) r s t (h n) (group_at_most o s t k)

  -- ---- what `runs` makes
  join_flat : (r : List Cell) (gs : List Rows) → flatten (join_run o r gs) ≡ r ∷ flatten gs
  unfolding join_run flatten
  join_flat r [] = refl
  join_flat r ([] ∷ gs) = refl
  join_flat r ((s ∷ g) ∷ gs) = cond_ind (λ z. flatten z ≡ r ∷ s ∷ g ++ flatten gs) (same_run o r s) (λ t. refl) (λ t. refl)

  pub runs_flat : (rs : Rows) → flatten (runs o rs) ≡ rs
  unfolding runs flatten
  runs_flat [] = refl
  runs_flat (r ∷ rs) = join_flat r (runs o rs) ∙ rw (runs_flat rs)

  join_parted : (r : List Cell) (gs : List Rows) → Ordered o (r ∷ flatten gs) → Parted gs → Parted (join_run o r gs)
  unfolding join_run flatten
  join_parted r [] t p = (tt, tt, tt)
  join_parted r ([] ∷ gs) t p = absurd p.0
  join_parted r ((s ∷ g) ∷ gs) t p =
      cond_ind Parted (same_run o r s)
      (λ e.
      let n = same_near r s e in
      ((n, all_map (Near s) (Near r) (λ y. near_trans r s y n) g p.0), all_map (Behind s) (Behind r) (λ y. near_behind r s y n) (flatten gs) p.1, p.2))
      (λ e.
      let h = apart_behind r s t.0.0 e in
      (tt, (h, all_map (AtMost (cmp_row o) s) (Behind r) (λ y. behind_later r s y h) (g ++ flatten gs) t.1.0), p))

  ordered_parted : (rs : Rows) → Ordered o rs → Parted (runs o rs)
  unfolding runs
  ordered_parted [] t = tt
  ordered_parted (r ∷ rs) t = join_parted r (runs o rs) (rw (runs_flat rs) t) (ordered_parted rs t.1)

  pub sorted_parted : (rs : Rows) → sorted o rs ≡ true → Parted (runs o rs)
  sorted_parted rs e = ordered_parted rs (ordered o rs e)
