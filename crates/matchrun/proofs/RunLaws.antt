-- A sorted run from its first row with a key on: each row there has one, and what is left out before it changes no match. Assumes nothing.
use Rattle.std.specs.Prelude.{Option, None}
use mathlib.Core.Path.{◌≡◌, ◌∙◌}
use mathlib.Core.Bool.{true, false, not, and-false}
use mathlib.Core.List.{List, ◌++◌, map, map-append}
use Prim.Native.Nat.{ℕ, ◌+◌, ◌-◌, ◌*◌, ◌≤◌, ◌<◌}
use native.Mathlib.Omega.{arith}
use lib.IntN.{pos}
use lib.ListN.{length, get_or, length-map}
use Rattle.frames.specs.Cells.{Cell, Rows, Words, row_from}
use Rattle.order.specs.Order.{null_key}
use Rattle.order.specs.Requires.{RowsIn}
use Rattle.order.proofs.KeyLaws.{key_up}
use Rattle.order.specs.declared.options.Options.{Options}
use Rattle.matching.specs.Match.{nobody, fits, tolerate, match_in}
use Rattle.matching.specs.Moves.{FirstKey, key_at, Rising, walk_on, walk_moves}
use Rattle.matching.specs.Stretches.{between, lay}
use Rattle.matching.proofs.ScanLaws.{present}
use Rattle.matching.proofs.ChoiceLaws.{choose_dead}
use Rattle.matching.proofs.MayLaws.{never}
use Rattle.matching.proofs.GroupLaws.{map_same}
use Rattle.matching.proofs.WalkLaws.{between_none, between_length, between_cut}
use Rattle.matching.proofs.MoveLaws.{left_alone, nulls_passed, lefts_passed}
use Rattle.matching.proofs.BestLaws.{key_at_lem, none_null}
use Rattle.matching.proofs.LayLaws.{lay_append}
use Rattle.matching.proofs.RestLaws.{all_between}
use Rattle.matchrun.proofs.candidates.CutLaws.{cut}
use Rattle.matchrun.specs.advance.Below.{keyed}
use Rattle.matchrun.specs.walk.Keyed.{Marked}

module _ (o : Options) (w from to : ℕ) (vs ms : Words) (rows : RowsIn o w to vs ms) (r : ℕ) (q : FirstKey o w from to ms r) where
  -- ---- from row r on each row has a key
  module _ (rising : Rising (key_at o w vs ms) from to) where
    has_key : (k : ℕ) → r ≤ k → k < to → key_at o w vs ms k ≡ keyed w o.by vs k
    has_key k l h =
        present (get_or vs (k * w + o.by) (pos 0)) (get_or ms (k * w + o.by) (pos 0))
        (key_up (key_at o w vs ms r) (key_at o w vs ms k) (rising r k q.start l h) (q.keyed vs (omega (arith, l, h))))

    pub marked : Marked o w r to vs ms
    marked = record { rows = rows; keys = has_key }

    pub keyed_rising : Rising (keyed w o.by vs) r to
    keyed_rising i k l h t = rw (has_key i l (omega (arith, h, t)), has_key k (omega (arith, l, h)) t) at (rising i k (omega (arith, q.start, l)) h t)

  -- ---- the rows before it as left rows: they get none
  pub left_null : (i : ℕ) (rs : Rows) (k : ℕ) → from ≤ k → k < r → match_in o i rs (row_from w (k * w) vs ms) ≡ None
  left_null i rs k l h = none_null o (row_from w (k * w) vs ms) i rs (rw (key_at_lem o w to vs ms rows k (omega (arith, h, q.within))) (q.before vs k l h))

  -- ---- and as right rows: they fit nothing
  right_dead : (x : List Cell) (k : ℕ) → from ≤ k → k < r → fits o x (row_from w (k * w) vs ms) ≡ false
  unfolding fits
  right_dead x k l h = rw (key_at_lem o w to vs ms rows k (omega (arith, h, q.within)), q.before vs k l h, and-false (not (null_key o x)))

  pub right_none : r ≡ to → (i : ℕ) (x : List Cell) → match_in o i (between w from to vs ms) x ≡ None
  unfolding match_in tolerate
  right_none e i x = rw (choose_dead o x (fits o x) nobody i (between w from to vs ms) (all_between w vs ms (λ a. fits o x a ≡ false) from to (λ k l h. right_dead x k l (omega (arith, e, h)))))

  pub right_cut : (first : ℕ) (x : List Cell) → match_in o (first + from) (between w from to vs ms) x ≡ match_in o (first + r) (between w r to vs ms) x
  right_cut first x =
      cut o x w from to vs ms first r to q.start q.within (omega arith)
      (λ k l h t. never (fits o x (row_from w (k * w) vs ms)) t (right_dead x k l h)) (λ k l h. absurd (omega (arith, l, h)))

  -- ---- the moves over rows that begin with those that have no key
  null_at : (k : ℕ) → from ≤ k → k < r → null_key o (row_from w (k * w) vs ms) ≡ true
  null_at k l h = rw (key_at_lem o w to vs ms rows k (omega (arith, h, q.within))) (q.before vs k l h)

  -- As right rows, these are passed first;
  pub rights_moved : (ls : Rows) → walk_moves o ls (between w from to vs ms) ≡ (r - from) + length (walk_on o ls (between w r to vs ms))
  rights_moved ls =
      let z : from + (r - from) ≡ r = omega (arith, q.start) in
      rw z at (nulls_passed o w to vs ms ls (r - from) from (omega (arith, q.start, q.within)) (λ k l h. null_at k l (omega (arith, h, q.start)))
      (rw z (λ h. rw (key_at_lem o w to vs ms rows r h) (q.keyed vs h))))

  -- where there are no others, the left cursor then moves alone;
  pub rights_alone : r ≡ to → (ls : Rows) → walk_moves o ls (between w from to vs ms) ≡ (to - from) + length ls
  rights_alone e ls = rights_moved ls ∙ rw (e, between_none w vs ms to, left_alone o ls)

  -- as left rows, they move the left cursor alone.
  pub lefts_moved : (rs : Rows) → length (walk_on o (between w from to vs ms) rs) ≡ (r - from) + length (walk_on o (between w r to vs ms) rs)
  lefts_moved rs =
      let z : from + (r - from) ≡ r = omega (arith, q.start) in
      rw z at (lefts_passed o w to vs ms rs (r - from) from (omega (arith, q.start, q.within)) (λ k l h. null_at k l (omega (arith, h, q.start))))

-- ---- rows from..mid are laid, then mid..to
module _ (m w : ℕ) (vs ms : Words) (f g : List Cell → Option ℕ) (from mid to : ℕ) (l : from ≤ mid) (h : mid ≤ to) where
  pub lay_two : ((x : List Cell) → f x ≡ g x) → (out : Words) → lay m mid (map g (between w mid to vs ms)) (lay m from (map f (between w from mid vs ms)) out) ≡ lay m from (map f (between w from to vs ms)) out
  lay_two same out =
      let A = between w from mid vs ms in
      let B = between w mid to vs ms in
      let e : from + (mid - from) ≡ mid = omega arith in
      let c : between w from to vs ms ≡ A ++ B = rw e at (between_cut w vs ms from (mid - from) to (omega arith)) in
      let n : from + length (map f A) ≡ mid = (let x = length-map A f in let k = between_length w vs ms from mid in omega arith) in
      let s : map f B ≡ map g B = map_same f g B (all_between w vs ms (λ x. f x ≡ g x) mid to (λ k p t. same (row_from w (k * w) vs ms))) in
      rw (c, map-append f A B, lay_append m from (map f A) (map f B) out, n, s)
