-- Full heights from one on, and the walk over full frames, over plain values. Assumes nothing.
use mathlib.Core.Path.{◌≡◌, refl, sym, ap, ◌∙◌}
use mathlib.Core.Bool.{Bool, true, false, cond}
use mathlib.Core.List.{[], ◌∷◌, ◌++◌}
use Prim.Native.Nat.{ℕ, zero, suc, ◌+◌, ◌-◌, ◌*◌, ◌/◌, ◌%◌, ◌^◌, ◌≤◌, ◌<◌, min}
use native.Mathlib.Omega.{arith}
use native.Mathlib.Decide.{dec_lt}
use borrow.Author.Tests.{eqb-false, ne_eqb, ltb-true, ltb-false}
use lib.Dec.{ltb, eqb}
use lib.ListN.{length, drop, replicate, length-append, length-replicate}
use Rattle.frames.specs.Cells.{Rows, Words, rows_of}
use Rattle.frames.proofs.WordLaws.{rows_length}
use Rattle.order.specs.declared.options.Options.{Options}
use Rattle.order.specs.Requires.{TableIn}
use Rattle.planning.specs.Heights.{total, full_heights, full_frames}
use Rattle.planning.specs.Plan.{plan}
use Rattle.planning.specs.declared.Figures.{Figures}
use Rattle.planning.proofs.HeightLaws.{full_total}
use Rattle.planning.specs.declared.planwalk.Walk.{Walk}
use Rattle.planning.specs.planwalk.Walk.{TablesIn, TurnIn, turned_by, frame_from, held_from}
use Rattle.planning.proofs.planwalk.WalkLaws.{first, starts, ends, few_rows_lem, turn_in_lem, turn_stands}
use Rattle.planning.specs.fullplan.Full.{FullStands}

-- ---- full heights
-- Of no row; of fewer than 4,096; of more.
full_none : full_heights 0 ≡ []
unfolding full_heights
full_none = refl

full_short : (n : ℕ) → 0 < n → n < 4096 → full_heights n ≡ n ∷ []
unfolding full_heights
full_short n a b =
    let q : n / 4096 ≡ 0 = omega arith in
    let r : n % 4096 ≡ n = omega arith in
    rw (q, r, ne_eqb n 0 (λ e. omega arith)) refl

full_long : (n : ℕ) → 4096 ≤ n → full_heights n ≡ 4096 ∷ full_heights (n - 4096)
unfolding full_heights
full_long n h =
    let q : n / 4096 ≡ suc ((n - 4096) / 4096) = omega arith in
    let r : n % 4096 ≡ (n - 4096) % 4096 = omega arith in
    rw (q, r) refl

-- The first of them, and those behind it.
pub full_first : (n : ℕ) → 0 < n → full_heights n ≡ min 4096 n ∷ full_heights (n - 4096)
full_first n h = by (dec_lt n 4096)
  where
    by : Dec (n < 4096) → full_heights n ≡ min 4096 n ∷ full_heights (n - 4096)
    by (yes l) =
        let m : min 4096 n ≡ n = omega arith in
        let z : n - 4096 ≡ 0 = omega arith in
        rw (m, z, full_none) (full_short n h l)
    by (no l) = let m : min 4096 n ≡ 4096 = omega arith in rw m (full_long n (omega arith))

-- Once k of them are taken.
pub full_drop : (k n : ℕ) → drop k (full_heights n) ≡ full_heights (n - k * 4096)
full_drop zero n = let e : n - 0 * 4096 ≡ n = omega arith in rw e refl
full_drop (suc k) n = by (dec_lt 0 n) (full_drop k (n - 4096))
  where
    by : Dec (0 < n) → drop k (full_heights (n - 4096)) ≡ full_heights (n - 4096 - k * 4096) → drop (suc k) (full_heights n) ≡ full_heights (n - suc k * 4096)
    by (yes l) h = let e : n - suc k * 4096 ≡ n - 4096 - k * 4096 = omega arith in rw (full_first n l, e) h
    by (no l) h =
        let z : n ≡ 0 = omega arith in
        let e : 0 - suc k * 4096 ≡ 0 = omega arith in
        rw (z, e, full_none) refl

-- No more than there are rows.
pub full_count : (n : ℕ) → length (full_heights n) ≤ n
unfolding full_heights
full_count n = by (eqb (n % 4096) 0) refl
  where
    by : (t : Bool) → eqb (n % 4096) 0 ≡ t → length (replicate (n / 4096) 4096 ++ cond t [] (n % 4096 ∷ [])) ≤ n
    by true e = rw (length-append {A = ℕ} (replicate (n / 4096) 4096) [], length-replicate {A = ℕ} (n / 4096) 4096) (omega arith)
    by false e = let d = eqb-false (n % 4096) 0 e in rw (length-append {A = ℕ} (replicate (n / 4096) 4096) (n % 4096 ∷ []), length-replicate {A = ℕ} (n / 4096) 4096) (omega arith)

-- Where k of them have a rows: those that are left are the full heights of the rows that are left.
pub full_left : (k n a : ℕ) → a + total (drop k (full_heights n)) ≡ n → drop k (full_heights n) ≡ full_heights (n - a)
full_left k n a h =
    let d = full_drop k n in
    let t : a + (n - k * 4096) ≡ n = rw (d, full_total (n - k * 4096)) at h in
    let e : n - a ≡ n - k * 4096 = omega (arith, t) in
    rw e d

-- The next, where a row is left.
pub full_next : (a n : ℕ) → full_heights (n - a) ≡ cond (ltb a n) (min 4096 (n - a) ∷ full_heights (n - a - 4096)) []
full_next a n = by (ltb a n) refl
  where
    by : (t : Bool) → ltb a n ≡ t → full_heights (n - a) ≡ cond t (min 4096 (n - a) ∷ full_heights (n - a - 4096)) []
    by true e = let l = ltb-true a n e in full_first (n - a) (omega arith)
    by false e = let l = ltb-false a n e in let z : n - a ≡ 0 = omega arith in rw z full_none

-- ---- the walk
module _ {o : Options} {c m : ℕ} {lv lm : Words} {w j : ℕ} {rv rm : Words} (l : TableIn o c m lv lm) (r : TableIn o w j rv rm) where
  abbrev L : Rows
  L = rows_of c m lv lm

  abbrev R : Rows
  R = rows_of w j rv rm

  tables_in_lem : TablesIn o c m lv lm w j rv rm
  tables_in_lem = record { left = l.rows; right = r.rows; left_sorted = l.in_order; right_sorted = r.in_order }

  pub full_starts : FullStands o m j L R first
  full_starts = starts o (full_heights m) (full_heights j) L R (rows_length c m lv lm ∙ sym (full_total m)) (rows_length w j rv rm ∙ sym (full_total j))

  module _ (s : Walk) (h : FullStands o m j L R s) where
    left_on_lem : drop s.lefts (full_heights m) ≡ full_heights (m - s.passed)
    left_on_lem = full_left s.lefts m s.passed (h.left_rows ∙ rows_length c m lv lm)

    right_on_lem : drop s.rights (full_heights j) ≡ full_heights (j - s.to)
    right_on_lem = full_left s.rights j s.to (h.right_rows ∙ rows_length w j rv rm)

    pub to_in : s.to ≤ j
    to_in = omega (arith, h.right_rows, rows_length w j rv rm)

    -- At the end what was held at most is the first figure.
    pub full_ends : m ≤ s.passed → s.most ≡ (plan o (full_frames L) (full_frames R)).rows
    full_ends e =
        let z : m - s.passed ≡ 0 = omega arith in
        let f = ends o (full_heights m) (full_heights j) L R s h (left_on_lem ∙ rw (z, full_none) refl) in
        rw (rows_length c m lv lm, rows_length w j rv rm) (ap (λ (x : Figures). x.rows) f)

    -- A turn.
    module _ (more : s.passed < m) (n k : ℕ) (is : n ≡ min 4096 (m - s.passed)) (at : k ≡ min 4096 (j - s.to)) where
      next : drop s.lefts (full_heights m) ≡ n ∷ full_heights (m - s.passed - 4096)
      next = rw is (left_on_lem ∙ full_first (m - s.passed) (omega arith))

      next_right : drop s.rights (full_heights j) ≡ cond (ltb s.to j) (k ∷ full_heights (j - s.to - 4096)) []
      next_right = rw at (right_on_lem ∙ full_next s.to j)

      pub full_in : length lv + 1 < 2 ^ 64 → length rv + 1 < 2 ^ 64 → TurnIn o c lv lm w rv rm s n (ltb s.to j) k
      full_in a b =
          turn_in_lem tables_in_lem h next (ltb s.to j) k (full_heights (j - s.to - 4096)) next_right (omega (arith, a, full_count m, few_rows_lem l.rows)) (omega (arith, b, full_count j, few_rows_lem r.rows)) (omega (arith, b))

      pub full_stands : (u : Walk) → u ≡ turned_by o s n (ltb s.to j) k (frame_from c lv lm s n) (held_from w rv rm s) → FullStands o m j L R u × (u.lefts + u.rights ≡ suc (s.lefts + s.rights))
      full_stands = turn_stands tables_in_lem h next (ltb s.to j) k (full_heights (j - s.to - 4096)) next_right
