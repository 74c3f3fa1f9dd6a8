-- The moves of a walk: how many there are, and the walk told left row by left row. Assumes nothing.
use mathlib.Core.Path.{◌≡◌, refl, ap, ◌∙◌}
use mathlib.Core.Bool.{Bool, true, false}
use mathlib.Core.List.{List, [], ◌∷◌}
use Prim.Native.Nat.{ℕ, zero, suc, ◌+◌, ◌-◌, ◌*◌, ◌≤◌, ◌<◌}
use native.Mathlib.Omega.{arith}
use native.Mathlib.Decide.{dec_lt}
use lib.ListN.{length}
use Rattle.frames.specs.Cells.{Cell, Rows, Words, row_from}
use Rattle.order.specs.Order.{null_key}
use Rattle.order.specs.declared.options.Options.{Options}
use Rattle.matching.specs.Moves.{Move, left_on, right_on, goes_on, walk_on, walk, right_moves, WalkCounts}
use Rattle.matching.specs.Stretches.{between}
use Rattle.matching.proofs.WalkLaws.{between_none, between_more, between_length}

-- ---- the bound
module _ (o : Options) where
  -- The moves of each cursor.
  abbrev Counts : Rows → Rows → List Move → Type 0
  Counts ls rs ms = (length ms ≡ length ls + right_moves ms) × (right_moves ms ≤ length rs)

  on_counts : (ls rs : Rows) → Counts ls rs (walk_on o ls rs)
  unfolding walk_on right_moves
  on_counts [] rs = (refl, omega arith)
  on_counts (x ∷ ls) [] = let h = on_counts ls [] in (omega arith, h.1)
  on_counts (x ∷ ls) (r ∷ rs) = by (goes_on o x (r ∷ rs)) (on_counts (x ∷ ls) rs) (on_counts ls (r ∷ rs))
    where
      by : (t : Bool) → Counts (x ∷ ls) rs (walk_on o (x ∷ ls) rs) → Counts ls (r ∷ rs) (walk_on o ls (r ∷ rs))
          → Counts (x ∷ ls) (r ∷ rs) (elim t [ true ↦ right_on ∷ walk_on o (x ∷ ls) rs | false ↦ left_on ∷ walk_on o ls (r ∷ rs) ])
      by true h k = (omega arith, omega arith)
      by false h k = (omega arith, k.1)

  all_counts : (ls rs : Rows) → Counts ls rs (walk o ls rs)
  unfolding walk right_moves
  all_counts ls [] = on_counts ls []
  all_counts ls (r ∷ rs) = by (null_key o r) (all_counts ls rs)
    where
      by : (t : Bool) → Counts ls rs (walk o ls rs) → Counts ls (r ∷ rs) (elim t [ true ↦ right_on ∷ walk o ls rs | false ↦ walk_on o ls (r ∷ rs) ])
      by true h = (omega arith, omega arith)
      by false h = on_counts ls (r ∷ rs)

  -- At most as many moves as both runs have rows.
  pub walk_counts : (ls rs : Rows) → WalkCounts o ls rs
  walk_counts ls rs = let h = all_counts ls rs in record { moves = h.0; within = h.1; most = omega arith }

  pub walk_most : (ls rs : Rows) → length (walk_on o ls rs) ≤ length ls + length rs
  walk_most ls rs = let h = on_counts ls rs in omega arith

  -- ---- one move
  goes_right : (x : List Cell) (ls : Rows) (r : List Cell) (rs : Rows) → goes_on o x (r ∷ rs) ≡ true → length (walk_on o (x ∷ ls) (r ∷ rs)) ≡ suc (length (walk_on o (x ∷ ls) rs))
  unfolding walk_on
  goes_right x ls r rs e = rw (walk_on, e)

  goes_left : (x : List Cell) (ls rs : Rows) → goes_on o x rs ≡ false → length (walk_on o (x ∷ ls) rs) ≡ suc (length (walk_on o ls rs))
  unfolding walk_on
  goes_left x ls [] e = refl
  goes_left x ls (r ∷ rs) e = rw (walk_on, e)

  -- Without a right row each left row is one move.
  pub left_alone : (ls : Rows) → length (walk_on o ls []) ≡ length ls
  unfolding walk_on
  left_alone [] = refl
  left_alone (x ∷ ls) = ap suc (left_alone ls)

-- ---- the right rows c..end of a stretch
module _ (o : Options) (w end : ℕ) (vs ms : Words) where
  -- The right cursor passes n rows for the left row x, one move each.
  rows_passed : (x : List Cell) (ls : Rows) (n c : ℕ) → c + n ≤ end → ((k : ℕ) → c ≤ k → k < c + n → goes_on o x (between w k end vs ms) ≡ true)
      → length (walk_on o (x ∷ ls) (between w c end vs ms)) ≡ n + length (walk_on o (x ∷ ls) (between w (c + n) end vs ms))
  rows_passed x ls zero c h on = let z : c + 0 ≡ c = omega arith in rw z (omega arith)
  rows_passed x ls (suc n) c h on =
      let z : c + suc n ≡ c + 1 + n = omega arith in
      let m = between_more w vs ms c end (omega arith) in
      let e = goes_right o x ls (row_from w (c * w) vs ms) (between w (c + 1) end vs ms) (rw m at (on c (omega arith) (omega arith))) in
      let f = rows_passed x ls n (c + 1) (omega arith) (λ k g t. on k (omega arith) (omega arith)) in
      rw (m, z) (omega (arith, e, f))

  -- It comes to row d and rests there; then the left cursor moves.
  pub row_walked : (x : List Cell) (ls : Rows) (c d : ℕ) → c ≤ d → d ≤ end → ((k : ℕ) → c ≤ k → k < d → goes_on o x (between w k end vs ms) ≡ true) → goes_on o x (between w d end vs ms) ≡ false
      → length (walk_on o (x ∷ ls) (between w c end vs ms)) ≡ (d - c) + 1 + length (walk_on o ls (between w d end vs ms))
  row_walked x ls c d l h on stop =
      let z : c + (d - c) ≡ d = omega arith in
      let e = rows_passed x ls (d - c) c (omega arith) (λ k g t. on k g (omega arith)) in
      let f = goes_left o x ls (between w d end vs ms) stop in
      omega (arith, rw z at e, f)

  -- It passes the rows without a key first, up to row d.
  pub nulls_passed : (ls : Rows) (n c : ℕ) → c + n ≤ end → ((k : ℕ) → c ≤ k → k < c + n → null_key o (row_from w (k * w) vs ms) ≡ true)
      → (c + n < end → null_key o (row_from w ((c + n) * w) vs ms) ≡ false)
      → length (walk o ls (between w c end vs ms)) ≡ n + length (walk_on o ls (between w (c + n) end vs ms))
  unfolding walk
  nulls_passed ls zero c h null keyed = let z : c + 0 ≡ c = omega arith in rw z (omega (arith, by (dec_lt c end)))
    where
      by : Dec (c < end) → length (walk o ls (between w c end vs ms)) ≡ length (walk_on o ls (between w c end vs ms))
      by (yes g) = let z : c + 0 ≡ c = omega arith in rw (between_more w vs ms c end g, walk, rw z at (keyed (omega arith)))
      by (no g) = let z : c ≡ end = omega arith in rw (z, between_none w vs ms end)
  nulls_passed ls (suc n) c h null keyed =
      let z : c + suc n ≡ c + 1 + n = omega arith in
      let m = between_more w vs ms c end (omega arith) in
      let f = nulls_passed ls n (c + 1) (omega arith) (λ k g t. null k (omega arith) (omega arith)) (rw z at keyed) in
      rw (z, m, walk, null c (omega arith) (omega arith)) (omega (arith, f))

-- ---- no left row is left: no move is made
pub lefts_done : (o : Options) (w to : ℕ) (vs ms : Words) (rs : Rows) → length (walk_on o (between w to to vs ms) rs) ≡ 0
unfolding walk_on
lefts_done o w to vs ms rs = rw (between_none w vs ms to)

-- ---- left rows i..to of a stretch without a key: the left cursor alone moves
module _ (o : Options) (w to : ℕ) (vs ms : Words) (rs : Rows) where
  pub lefts_passed : (n i : ℕ) → i + n ≤ to → ((k : ℕ) → i ≤ k → k < i + n → null_key o (row_from w (k * w) vs ms) ≡ true)
      → length (walk_on o (between w i to vs ms) rs) ≡ n + length (walk_on o (between w (i + n) to vs ms) rs)
  lefts_passed zero i h null = let z : i + 0 ≡ i = omega arith in rw z (omega arith)
  lefts_passed (suc n) i h null =
      let z : i + suc n ≡ i + 1 + n = omega arith in
      let m = between_more w vs ms i to (omega arith) in
      let e = goes_left o (row_from w (i * w) vs ms) (between w (i + 1) to vs ms) rs (stays (null i (omega arith) (omega arith)) rs) in
      let f = lefts_passed n (i + 1) (omega arith) (λ k g t. null k (omega arith) (omega arith)) in
      rw (z, m) (omega (arith, e, f))
    where
      stays : null_key o (row_from w (i * w) vs ms) ≡ true → (rs : Rows) → goes_on o (row_from w (i * w) vs ms) rs ≡ false
      stays e [] = refl
      stays e (r ∷ rs) = rw e
