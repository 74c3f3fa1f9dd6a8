-- The best row so far, and the row that it meets: what the leaves' tests say of the rows, one argument for the three strategies. Assumes nothing.
use Rattle.std.specs.Prelude.{Some, None}
use mathlib.Core.Path.{◌≡◌, sym, ◌∙◌}
use mathlib.Core.Bool.{Bool, true, false, cond, not, ◌&&◌}
use mathlib.Core.List.{List, [], ◌∷◌}
use Prim.Native.Nat.{ℕ, suc, ◌+◌, ◌*◌, ◌^◌, ◌≤◌, ◌<◌}
use native.Mathlib.Omega.{arith}
use borrow.Author.Tests.{lt-ltb, le-ltb, not-true}
use lib.IntN.{ℤ, pos, nat_abs, ◌-ℤ◌}
use lib.Dec.{ltb}
use lib.Signed.{le_z}
use lib.ListN.{get_or, length}
use Rattle.frames.specs.Cells.{Cell, value, is_null, Rows, Words, row_from}
use Rattle.order.specs.options.Options.{strategy_of, key_rule}
use Rattle.order.specs.Order.{cmp_cell, key_of, null_key}
use Rattle.order.specs.Requires.{cell_at, RowsIn}
use Rattle.order.proofs.RowLaws.{row_cell, row_room}
use Rattle.order.proofs.SortedLaws.{all_by}
use Rattle.frames.proofs.BoolLaws.{and-true}
use Rattle.order.specs.declared.options.Options.{Options}
use Rattle.order.specs.declared.options.Strategy.{Strategy}
use Rattle.matching.specs.Match.{Hit, nobody, hit, on_side, fits, takes_over, meet, choose, too_far, tolerate, match_in}
use Rattle.matching.specs.Stretches.{between, hit_at}
use Rattle.matching.specs.Loops.{Small, BestIn, TakesOver, Meets, Met}
use Rattle.matching.proofs.ChoiceLaws.{cond_ind, choose_dead}
use Rattle.matching.proofs.WalkLaws.{between_more, between_none}
use Rattle.matching.proofs.ScanLaws.{present}

-- ---- the best row so far, by its index
module _ (first w to : ℕ) (vs ms : Words) where
  pub hit_none : (best : ℕ) → best ≡ to → hit_at first w to vs ms best ≡ nobody
  unfolding hit_at
  hit_none best e = rw (le-ltb best to (omega arith))

  pub hit_some : (best : ℕ) → best < to → hit_at first w to vs ms best ≡ hit (first + best) (row_from w (best * w) vs ms)
  unfolding hit_at
  hit_some best h = rw (lt-ltb best to h)

-- The key of row i stands b places behind the row's first word.
pub key_at_lem : (o : Options) (w to : ℕ) (vs ms : Words) → RowsIn o w to vs ms → (i : ℕ) → i < to → key_of o (row_from w (i * w) vs ms) ≡ cell_at (i * w + o.by) vs ms
key_at_lem o w to vs ms p i h =
    let r = row_room i to w h in
    row_cell w (i * w) o.by vs ms p.wide (omega arith)

-- ---- row j is met: t says whether it fits the key v
module _ (o : Options) (s : Strategy) (w to : ℕ) (vs ms : Words) (best j : ℕ) (v : ℤ) (p : Meets o s w to vs ms best j) (t : Bool)
    (q : t ≡ (not (is_null (cell_at (j * w + o.by) vs ms)) && on_side s o.allow_eq (cmp_cell key_rule (cell_at (j * w + o.by) vs ms) (value v)))) where
  fit : (x : List Cell) → key_of o x ≡ value v → fits o x (row_from w (j * w) vs ms) ≡ t
  unfolding fits
  fit x ex = rw (ex, key_at_lem o w to vs ms p.rows j p.there) (sym (rw p.told at q))

  pub stays : t ≡ false → Met o w to vs ms best j v best
  stays e = record { kept = p.kept; met = λ first x ex. rw (fit x ex, e) }

  there : t ≡ true → is_null (cell_at (j * w + o.by) vs ms) ≡ false
  there e = not-true _ (and-true (not (is_null (cell_at (j * w + o.by) vs ms))) _ (sym q ∙ e)).0

  keyed : t ≡ true → BestIn o w to vs ms j
  keyed e = record { within = omega (arith, p.there); keyed = λ h. rw (key_at_lem o w to vs ms p.rows j p.there) (there e) }

  pub comes : t ≡ true → best ≡ to → Met o w to vs ms best j v j
  comes e b = record { kept = keyed e; met = λ first x ex. rw (fit x ex, e, hit_none first w to vs ms best b, hit_some first w to vs ms j p.there) }

  -- u says whether it takes the place of a best row that there is
  module _ (e : t ≡ true) (b : best < to) (u : Bool) (k : TakesOver s v (get_or vs (j * w + o.by) (pos 0)) (get_or vs (best * w + o.by) (pos 0)) u) where
    key_is : (i : ℕ) → i < to → is_null (cell_at (i * w + o.by) vs ms) ≡ false → key_of o (row_from w (i * w) vs ms) ≡ value (get_or vs (i * w + o.by) (pos 0))
    key_is i h n = key_at_lem o w to vs ms p.rows i h ∙ present (get_or vs (i * w + o.by) (pos 0)) (get_or ms (i * w + o.by) (pos 0)) n

    over : (x : List Cell) → key_of o x ≡ value v → takes_over o (strategy_of o) x (row_from w (j * w) vs ms) (row_from w (best * w) vs ms) ≡ u
    over x ex =
        let n : is_null (cell_at (best * w + o.by) vs ms) ≡ false = rw (key_at_lem o w to vs ms p.rows best b) at (p.kept.keyed b) in
        sym (rw p.told at (k o x (row_from w (j * w) vs ms) (row_from w (best * w) vs ms) ex (key_is j p.there (there e)) (key_is best b n)))

    pub wins : u ≡ true → Met o w to vs ms best j v j
    wins d = record { kept = keyed e; met = λ first x ex. rw (fit x ex, e, hit_some first w to vs ms best b, over x ex, d, hit_some first w to vs ms j p.there) }

    pub loses : u ≡ false → Met o w to vs ms best j v best
    loses d = record { kept = p.kept; met = λ first x ex. rw (fit x ex, e, hit_some first w to vs ms best b, over x ex, d) }

-- ---- the scan: what is left of from..to gives the same
module _ (o : Options) (x : List Cell) (w to : ℕ) (vs ms : Words) where
  pub scan_more : (first j : ℕ) (c : Hit) → j < to → choose o x (fits o x) c (first + j) (between w j to vs ms)
      ≡ choose o x (fits o x) (cond (fits o x (row_from w (j * w) vs ms)) (meet o x (first + j) (row_from w (j * w) vs ms) c) c) (first + (j + 1)) (between w (j + 1) to vs ms)
  unfolding choose
  scan_more first j c h =
      let z : suc (first + j) ≡ first + (j + 1) = omega arith in
      rw (between_more w vs ms j to h, ← z)

  pub scan_end : (first : ℕ) (c : Hit) → choose o x (fits o x) c (first + to) (between w to to vs ms) ≡ c
  unfolding choose
  scan_end first c = rw (between_none w vs ms to)

-- ---- the choice, after the tolerance
-- A left null key gets none.
pub none_null : (o : Options) (x : List Cell) (i : ℕ) (rows : Rows) → null_key o x ≡ true → match_in o i rows x ≡ None
unfolding match_in tolerate fits
none_null o x i rows e = rw (choose_dead o x (fits o x) nobody i rows (all_by _ rows (λ k h. rw e)))

module _ (o : Options) (x : List Cell) (first w to : ℕ) (vs ms : Words) (rows : Rows) where
  module _ (from best : ℕ) (e : hit_at first w to vs ms best ≡ choose o x (fits o x) nobody from rows) where
    pub none_best : best ≡ to → match_in o from rows x ≡ None
    unfolding match_in tolerate
    none_best b = rw (← e, hit_none first w to vs ms best b)

    -- the test of the tolerance, by the words of the two keys
    module _ (h : best < to) (v a : ℤ) (ex : key_of o x ≡ value v) (ea : key_of o (row_from w (best * w) vs ms) ≡ value a) (t : Bool)
        (q : t ≡ (le_z (pos 0) o.tolerance && ltb (nat_abs o.tolerance) (nat_abs (a -ℤ v)))) where
      pub none_far : t ≡ true → match_in o from rows x ≡ None
      unfolding match_in tolerate
      none_far d = rw (← e, hit_some first w to vs ms best h, ex, ea, ← q, d)

      pub row_near : t ≡ false → match_in o from rows x ≡ Some (first + best)
      unfolding match_in tolerate
      row_near d = rw (← e, hit_some first w to vs ms best h, ex, ea, ← q, d)

-- ---- the number that is chosen is one of the rows'
abbrev Below : ℕ → Hit → Type 0
Below m nobody = Unit {0}
Below m (hit k r) = k < m

below_more : (m n : ℕ) → m ≤ n → (c : Hit) → Below m c → Below n c
below_more m n h nobody b = tt
below_more m n h (hit k r) b = omega arith

module _ (o : Options) (x : List Cell) (may : List Cell → Bool) where
  meet_below : (i : ℕ) (r : List Cell) (c : Hit) → Below i c → Below (suc i) (meet o x i r c)
  meet_below i r nobody b = omega arith
  meet_below i r (hit k c) b = cond_ind (Below (suc i)) (takes_over o (strategy_of o) x r c) (λ t. omega arith) (λ t. omega arith)

  choose_below : (c : Hit) (i : ℕ) (rs : Rows) → Below i c → Below (i + length rs) (choose o x may c i rs)
  unfolding choose
  choose_below c i [] b = below_more i (i + 0) (omega arith) c b
  choose_below c i (r ∷ rs) b =
      let d = cond (may r) (meet o x i r c) c in
      let s : Below (suc i) d = cond_ind (Below (suc i)) (may r) (λ t. meet_below i r c b) (λ t. below_more i (suc i) (omega arith) c b) in
      below_more (suc i + length rs) (i + suc (length rs)) (omega arith) (choose o x may d (suc i) rs) (choose_below d (suc i) rs s)

-- So it fits a word where theirs do.
pub match_small : (o : Options) (i : ℕ) (rows : Rows) (x : List Cell) → i + length rows ≤ 2 ^ 63 → Small (match_in o i rows x)
unfolding match_in tolerate
match_small o i rows x h = by (choose o x (fits o x) nobody i rows) (choose_below o x (fits o x) nobody i rows tt)
  where
    by : (c : Hit) → Below (i + length rows) c → Small (tolerate o x c)
    by nobody b = tt
    by (hit k r) b = cond_ind Small (too_far o x r) (λ t. tt) (λ t. omega arith)
