-- Rows with a key: the place found is in the stretch; what is remembered stands below what comes in order. Assumes nothing.
use Rattle.std.specs.Prelude.{Some, None, Option}
use mathlib.Core.Path.{◌≡◌, refl, sym, subst, ◌∙◌}
use mathlib.Core.Bool.{Bool, true, false}
use mathlib.Core.List.{List, [], ◌∷◌, map}
use Prim.Native.Nat.{ℕ, zero, suc, ◌+◌, ◌-◌, ◌≤◌, ◌<◌}
use native.Mathlib.Omega.{arith}
use lib.IntN.{pos}
use lib.ListN.{length, take, get_or, replicate, length-map}
use lib.Seq.{get_or-take, length-take-le, take_at}
use Rattle.frames.specs.Cells.{Cell, null, Rows, value_word, mark_word}
use Rattle.order.specs.options.Options.{columns, is_strict}
use Rattle.order.specs.Order.{cmp_first, cmp_row, null_key}
use Rattle.order.specs.Keyed.{first_from, first_keyed, last_below, last_keyed, first_row, last_row, first_left, last_left_at, row_at, recall, remember, remember_last, remember_at, compared, out_of_order}
use Rattle.order.specs.declared.options.Options.{Options}
use Rattle.order.specs.declared.Row.{Row}
use Rattle.frames.proofs.WordLaws.{cells_back}
use Rattle.order.proofs.OrderLaws.{AtMost}
use Rattle.order.proofs.SortedLaws.{All, all_at, all_map, greater_not}

-- ---- what is remembered is what it was
pub recall_remember : (r : List Cell) (w : ℕ) → length r ≡ w → recall w (remember r) ≡ Some r
unfolding recall remember
recall_remember r w e =
    let v = take_at (map value_word r) (replicate (5 - length (map value_word r)) (pos 0)) w (length-map r value_word ∙ e) in
    let m = take_at (map mark_word r) (replicate (5 - length (map mark_word r)) (pos 0)) w (length-map r mark_word ∙ e) in
    rw (v, m, cells_back r)

-- A place that was found is from a place on, and below another.
abbrev pub Found : ℕ → ℕ → Option ℕ → Type 0
Found from to (Some i) = (from ≤ i) × (i < to)
Found from to None = Unit {0}

found_less : (from to : ℕ) (k : Option ℕ) → Found (suc from) to k → Found from to k
found_less from to (Some i) h = (omega arith, h.1)
found_less from to None h = tt

found_more : (from to : ℕ) (k : Option ℕ) → Found from to k → Found from (suc to) k
found_more from to (Some i) h = (h.0, omega arith)
found_more from to None h = tt

found_to : (from to more : ℕ) → to ≡ more → (k : Option ℕ) → Found from to k → Found from more k
found_to from to more e k h = rw e at h

module _ (o : Options) where
  pub first_found : (i : ℕ) (rs : Rows) → Found i (i + length rs) (first_from o i rs)
  unfolding first_from
  first_found i [] = tt
  first_found i (r ∷ rs) = go (first_found (suc i) rs) (null_key o r)
    where
      go : Found (suc i) (suc i + length rs) (first_from o (suc i) rs) → (b : Bool) → Found i (i + suc (length rs)) (elim b [ true ↦ first_from o (suc i) rs | false ↦ Some i ])
      go ih true = found_to i (suc i + length rs) (i + suc (length rs)) (omega arith) (first_from o (suc i) rs) (found_less i (suc i + length rs) (first_from o (suc i) rs) ih)
      go ih false = (omega arith, omega arith)

  pub last_found : (rs : Rows) (n : ℕ) → Found 0 n (last_below o rs n)
  unfolding last_below
  last_found rs zero = tt
  last_found rs (suc n) = go (last_found rs n) (null_key o (get_or rs n []))
    where
      go : Found 0 n (last_below o rs n) → (b : Bool) → Found 0 (suc n) (elim b [ true ↦ last_below o rs n | false ↦ Some n ])
      go ih true = found_more 0 n (last_below o rs n) ih
      go ih false = (omega arith, omega arith)

  -- A row, if there is one, is at most x.
  abbrev pub Below : Option (List Cell) → List Cell → Type 0
  Below None x = Unit {0}
  Below (Some m) x = AtMost (cmp_row o) m x

  pub keyed_found : (rs : Rows) → Found 0 (length rs) (first_keyed o rs)
  keyed_found rs = found_to 0 (0 + length rs) (length rs) (omega arith) (first_keyed o rs) (first_found 0 rs)

  -- ---- between left frames
  -- Strict: the first and the last row, key or not.
  pub first_strict : (rs : Rows) → is_strict o.check ≡ true → first_left o rs ≡ first_row rs
  first_strict rs e = rw e

  pub last_strict : (rs : Rows) → is_strict o.check ≡ true → last_left_at o rs ≡ last_row rs
  last_strict rs e = rw e

  -- Not strict: those with a key.
  pub first_loose : (rs : Rows) → is_strict o.check ≡ false → first_left o rs ≡ first_keyed o rs
  first_loose rs e = rw e

  pub last_loose : (rs : Rows) → is_strict o.check ≡ false → last_left_at o rs ≡ last_keyed o rs
  last_loose rs e = rw e

  -- Either way they are rows of the stretch.
  first_row_found : (rs : Rows) → Found 0 (length rs) (first_row rs)
  first_row_found [] = tt
  first_row_found (r ∷ rs) = (omega arith, omega arith)

  last_row_found : (rs : Rows) → Found 0 (length rs) (last_row rs)
  last_row_found [] = tt
  last_row_found (r ∷ rs) = (omega arith, omega arith)

  pub first_left_found : (rs : Rows) → Found 0 (length rs) (first_left o rs)
  first_left_found rs = go (is_strict o.check) refl
    where
      go : (b : Bool) → is_strict o.check ≡ b → Found 0 (length rs) (first_left o rs)
      go true e = subst (Found 0 (length rs)) (sym (first_strict rs e)) (first_row_found rs)
      go false e = subst (Found 0 (length rs)) (sym (first_loose rs e)) (keyed_found rs)

  pub last_left_found : (rs : Rows) → Found 0 (length rs) (last_left_at o rs)
  last_left_found rs = go (is_strict o.check) refl
    where
      go : (b : Bool) → is_strict o.check ≡ b → Found 0 (length rs) (last_left_at o rs)
      go true e = subst (Found 0 (length rs)) (sym (last_strict rs e)) (last_row_found rs)
      go false e = subst (Found 0 (length rs)) (sym (last_loose rs e)) (last_found rs (length rs))

  -- What is below every row of a stretch is not out of order before any of them.
  pub below_fine : (m : Option (List Cell)) (rs : Rows) → ((i : ℕ) → i < length rs → Below m (get_or rs i [])) → (k : Option ℕ) → Found 0 (length rs) k → out_of_order o m (row_at rs k) ≡ false
  below_fine None rs h k f = refl
  below_fine (Some m) rs h (Some i) f = greater_not (cmp_row o m (get_or rs i [])) (h i (omega arith))
  below_fine (Some m) rs h None f = refl

  -- Order ignores what stands behind the key: a row's first b + 1 cells compare as the row does.
  first_take : (n : ℕ) (r s : List Cell) (j : ℕ) → j ≤ n → cmp_first o j (take n r) s ≡ cmp_first o j r s
  unfolding cmp_first
  first_take n r s zero h = refl
  first_take n r s (suc j) h = rw (first_take n r s j (omega arith), get_or-take n r j null (omega arith))

  pub compared_alike : (r s : List Cell) → cmp_row o (compared o r) s ≡ cmp_row o r s
  unfolding cmp_row
  compared_alike r s = rw (first_take (columns o) r s o.by (omega arith), get_or-take (columns o) r o.by null (omega arith))

  -- Where no row is found, what was remembered stays.
  pub remember_none : (m : Row) (rs : Rows) → remember_at o m rs None ≡ m
  remember_none m rs = refl

  -- A row of a stretch is remembered: it, or what was remembered, is below x.
  pub remember_below : (m : Row) (rs : Rows) → All (λ r. columns o ≤ length r) rs → (x : List Cell) → All (λ r. AtMost (cmp_row o) r x) rs
      → (k : Option ℕ) → Found 0 (length rs) k → Below (recall (columns o) m) x → Below (recall (columns o) (remember_at o m rs k)) x
  remember_below m rs wide x h (Some i) f b =
      let w : columns o ≤ length (get_or rs i []) = all_at (λ r. columns o ≤ length r) rs wide i (omega arith) in
      rw (recall_remember (compared o (get_or rs i [])) (columns o) (length-take-le (columns o) (get_or rs i []) w), compared_alike (get_or rs i []) x)
      (all_at (λ r. AtMost (cmp_row o) r x) rs h i (omega arith))
  remember_below m rs wide x h None f b = rw (remember_none m rs) b

  -- So the last row with a key, if there is one.
  pub remember_last_below : (m : Row) (rs : Rows) → All (λ r. columns o ≤ length r) rs → (x : List Cell) → All (λ r. AtMost (cmp_row o) r x) rs
      → Below (recall (columns o) m) x → Below (recall (columns o) (remember_last o m rs)) x
  unfolding remember_last
  remember_last_below m rs wide x h b = remember_below m rs wide x h (last_keyed o rs) (last_found rs (length rs)) b

  -- Rows of a width have what is compared of them.
  pub wide_enough : (w : ℕ) → columns o ≤ w → (rs : Rows) → All (λ r. length r ≡ w) rs → All (λ r. columns o ≤ length r) rs
  wide_enough w l rs h = all_map (λ r. length r ≡ w) (λ r. columns o ≤ length r) (λ r e. omega arith) rs h
