-- Sorted runs by their keys, and the choice where the cursor rests: it is that of the scan. Assumes nothing.
use mathlib.Core.Path.{◌≡◌, refl, sym, ap, ◌∙◌, subst}
use mathlib.Core.Bool.{true, false, not, ◌&&◌}
use mathlib.Core.List.{List, [], ◌∷◌, ◌++◌}
use Prim.Native.Nat.{ℕ, zero, suc, ◌+◌, ◌-◌, ◌*◌, ◌≤◌, ◌<◌}
use native.Mathlib.Nat.{mul-le-mul_right}
use native.Mathlib.Omega.{arith}
use native.Mathlib.Decide.{dec_lt}
use lib.IntN.{ℤ}
use lib.ListN.{length, drop, get_or}
use lib.Seq.{drop-drop}
use Rattle.frames.specs.Cells.{Cell, null, value, is_null, Rows, Words, rows_of, row_from}
use Rattle.order.specs.options.Options.{strategy_of, key_rule}
use Rattle.order.specs.Order.{cmp_cell, cmp_group, is_greater, key_of, null_group, sorted}
use Rattle.order.specs.Requires.{RowsIn}
use Rattle.order.proofs.OrderLaws.{AtMost, cmp_key, cmp_key_is, cmp_group_is, at_most, at_most_refl, row_by_key}
use Rattle.order.proofs.SortedLaws.{All, all_by, all_map, not_greater}
use Rattle.frames.proofs.BoolLaws.{and-true}
use Rattle.order.proofs.RowLaws.{rows_from}
use Rattle.order.specs.declared.options.Options.{Options}
use Rattle.std.specs.declared.cmp.Ordering.TheVariants.{Equal}
use Rattle.order.specs.declared.options.Strategy.{Strategy}
use Rattle.order.specs.declared.options.Strategy.TheVariants.{Backward, Forward, Nearest}
use Rattle.matching.specs.Match.{nobody, hit, fits, takes_over, choose}
use Rattle.matching.specs.Stretches.{between, hit_at}
use Rattle.matching.specs.Moves.{keys_sorted, key_at, Rising, fits_key, CursorAt, Stopped}
use Rattle.matching.proofs.ChoiceLaws.{Keeps, Wins, choose_keep, choose_skip}
use Rattle.matching.proofs.Runs.{Near}
use Rattle.matching.proofs.WalkLaws.{between_length, between_more, between_cut}
use Rattle.matching.proofs.BestLaws.{key_at_lem, hit_some}
use Rattle.matching.proofs.CursorLaws.{takes_key, gives_way, holds_place}

-- ---- rows whose keys do not fall
module _ (o : Options) where
  sorted_tail : (r : List Cell) (rs : Rows) → keys_sorted o (r ∷ rs) ≡ true → keys_sorted o rs ≡ true
  unfolding keys_sorted
  sorted_tail r [] e = refl
  sorted_tail r (s ∷ rs) e = (and-true (not (is_greater (cmp_key o r s))) (keys_sorted o (s ∷ rs)) e).1

  sorted_from : (r : List Cell) (rs : Rows) → keys_sorted o (r ∷ rs) ≡ true → (k : ℕ) → k < suc (length rs) → AtMost (cmp_key o) r (get_or (r ∷ rs) k [])
  unfolding keys_sorted
  sorted_from r rs e zero l = at_most_refl (cmp_key_is o) r
  sorted_from r [] e (suc k) l = absurd (omega arith)
  sorted_from r (s ∷ rs) e (suc k) l =
      let p = and-true (not (is_greater (cmp_key o r s))) (keys_sorted o (s ∷ rs)) e in
      at_most (cmp_key_is o) r s (get_or (s ∷ rs) k []) (not_greater (cmp_key o r s) p.0) (sorted_from s rs p.1 k (omega arith))

  sorted_at : (rs : Rows) → keys_sorted o rs ≡ true → (i k : ℕ) → i ≤ k → k < length rs → AtMost (cmp_key o) (get_or rs i []) (get_or rs k [])
  sorted_at [] e i k h l = absurd (omega arith)
  sorted_at (r ∷ rs) e zero k h l = sorted_from r rs e k l
  sorted_at (r ∷ rs) e (suc i) zero h l = absurd (omega arith)
  sorted_at (r ∷ rs) e (suc i) (suc k) h l = sorted_at rs (sorted_tail r rs e) i k (omega arith) (omega arith)

-- In a run whose group is not null all groups are equal: it is sorted by key exactly where it is sorted.
pub run_sorted : (o : Options) (r : List Cell) (g : Rows) → null_group o r ≡ false → All (Near o r) g → sorted o (r ∷ g) ≡ keys_sorted o (r ∷ g)
unfolding sorted keys_sorted
run_sorted o r [] n h = refl
run_sorted o r (s ∷ g) n h =
    let e : cmp_group o r s ≡ Equal = h.0.1 n in
    let m : null_group o s ≡ false = sym h.0.0 ∙ n in
    let t : All (Near o s) g = all_map (Near o r) (Near o s) (λ y k. (sym h.0.0 ∙ k.0, λ q. sym ((cmp_group_is o).same r s y e) ∙ k.1 n)) g h.1 in
    rw (row_by_key o r s e, run_sorted o s g m t)

module _ (w : ℕ) (vs ms : Words) where
  pub between_at : (from to i : ℕ) → i < to - from → get_or (between w from to vs ms) i [] ≡ row_from w ((from + i) * w) vs ms
  unfolding between row_from
  between_at from to i h =
      let e : (from + i) * w ≡ from * w + i * w = omega arith in
      rows_from w (to - from) i (drop (from * w) vs) (drop (from * w) ms) h ∙ rw (e, drop-drop (i * w) (from * w) vs, drop-drop (i * w) (from * w) ms)

  pub all_between : (P : List Cell → Type 0) (from to : ℕ) → ((k : ℕ) → from ≤ k → k < to → P (row_from w (k * w) vs ms)) → All P (between w from to vs ms)
  all_between P from to f =
      all_by P (between w from to vs ms) (λ i l.
      let h : i < to - from = omega (arith, l, between_length w vs ms from to) in
      subst P (sym (between_at from to i h)) (f (from + i) (omega arith) (omega arith)))

module _ (o : Options) (w : ℕ) (vs ms : Words) where
  -- Fewer rows are there too.
  pub rows_less : (m n : ℕ) → m ≤ n → RowsIn o w n vs ms → RowsIn o w m vs ms
  rows_less m n h p =
      let l = mul-le-mul_right {m = m} {n = n} w h in
      record { few = p.few; wide = p.wide; values = omega (arith, l, p.values); marks = omega (arith, l, p.marks) }

  pub sorted_rising : (from to : ℕ) → RowsIn o w to vs ms → keys_sorted o (between w from to vs ms) ≡ true → Rising (key_at o w vs ms) from to
  sorted_rising from to p e i k l h t =
      let a : i - from < to - from = omega arith in
      let b : k - from < to - from = omega arith in
      let ea : from + (i - from) ≡ i = omega arith in
      let eb : from + (k - from) ≡ k = omega arith in
      let g = sorted_at o (between w from to vs ms) e (i - from) (k - from) (omega arith) (omega (arith, b, between_length w vs ms from to)) in
      rw (between_at w vs ms from to (i - from) a, between_at w vs ms from to (k - from) b, ea, eb, key_at_lem o w to vs ms p i (omega arith), key_at_lem o w to vs ms p k t) at g

  -- The next two rows, and the rest from the second of them on.
  pub keys_more : (i to : ℕ) → RowsIn o w to vs ms → i + 1 < to → keys_sorted o (between w i to vs ms)
      ≡ (not (is_greater (cmp_cell key_rule (key_at o w vs ms i) (key_at o w vs ms (i + 1)))) && keys_sorted o (between w (i + 1) to vs ms))
  unfolding keys_sorted
  keys_more i to p h =
      rw (between_more w vs ms i to (omega arith), between_more w vs ms (i + 1) to h, key_at_lem o w to vs ms p i (omega arith), key_at_lem o w to vs ms p (i + 1) h)

  pub keys_few : (i to : ℕ) → to ≤ i + 1 → keys_sorted o (between w i to vs ms) ≡ true
  unfolding keys_sorted between rows_of
  keys_few i to h = by (to - i) (omega arith)
    where
      by : (n : ℕ) → n ≤ 1 → keys_sorted o (rows_of w n (drop (i * w) vs) (drop (i * w) ms)) ≡ true
      by zero l = refl
      by (suc zero) l = refl
      by (suc (suc n)) l = absurd (omega arith)

  -- Rows at the front of which none is greater than the next do not matter.
  pub keys_on : (from to : ℕ) → RowsIn o w to vs ms → (d : ℕ) → from + d < to → ((k : ℕ) → from ≤ k → k < from + d → is_greater (cmp_cell key_rule (key_at o w vs ms k) (key_at o w vs ms (k + 1))) ≡ false)
      → keys_sorted o (between w from to vs ms) ≡ keys_sorted o (between w (from + d) to vs ms)
  keys_on from to p zero h n = let z : from + 0 ≡ from = omega arith in rw z
  keys_on from to p (suc d) h n =
      let z : from + suc d ≡ from + d + 1 = omega arith in
      let e : keys_sorted o (between w (from + d) to vs ms) ≡ keys_sorted o (between w (from + d + 1) to vs ms) = keys_more (from + d) to p (omega arith) ∙ rw (n (from + d) (omega arith) (omega arith)) in
      rw z (keys_on from to p d (omega arith) (λ k g l. n k g (omega arith)) ∙ e)

  -- The first row that is greater than the next decides; where there is none the rows are sorted.
  module _ (from to : ℕ) (p : RowsIn o w to vs ms) (i : ℕ) (l : from ≤ i) (n : (k : ℕ) → from ≤ k → k < i → is_greater (cmp_cell key_rule (key_at o w vs ms k) (key_at o w vs ms (k + 1))) ≡ false) where
    keys_at : i < to → keys_sorted o (between w from to vs ms) ≡ keys_sorted o (between w i to vs ms)
    keys_at h =
        let z : from + (i - from) ≡ i = omega arith in
        rw z at (keys_on from to p (i - from) (omega arith) (λ k g m. n k g (omega arith)))

    pub keys_fall : i + 1 < to → is_greater (cmp_cell key_rule (key_at o w vs ms i) (key_at o w vs ms (i + 1))) ≡ true → keys_sorted o (between w from to vs ms) ≡ false
    keys_fall h e = keys_at (omega arith) ∙ keys_more i to p h ∙ rw e

    pub keys_rose : i + 1 ≡ to → keys_sorted o (between w from to vs ms) ≡ true
    keys_rose e = keys_at (omega arith) ∙ keys_few i to (omega arith)

  -- Nulls come first.
  module _ (from to : ℕ) (p : RowsIn o w to vs ms) (i : ℕ) (l : from ≤ i) (n : (k : ℕ) → from ≤ k → k < i → is_null (key_at o w vs ms k) ≡ true) where
    null_first : (x y : Cell) → is_null x ≡ true → is_greater (cmp_cell key_rule x y) ≡ false
    null_first null null e = refl
    null_first null (value b) e = refl
    null_first (value a) y e = cc

    pub keys_nulls : i < to → keys_sorted o (between w from to vs ms) ≡ keys_sorted o (between w i to vs ms)
    keys_nulls h =
        let z : from + (i - from) ≡ i = omega arith in
        rw z at (keys_on from to p (i - from) (omega arith) (λ k g m. null_first (key_at o w vs ms k) (key_at o w vs ms (k + 1)) (n k g (omega arith))))

    pub keys_none : i ≡ to → keys_sorted o (between w from to vs ms) ≡ true
    keys_none e = by (dec_lt from to)
      where
        by : Dec (from < to) → keys_sorted o (between w from to vs ms) ≡ true
        by (yes h) =
            let z : from + (to - 1 - from) ≡ to - 1 = omega arith in
            rw z at (keys_on from to p (to - 1 - from) (omega arith) (λ k g m. null_first (key_at o w vs ms k) (key_at o w vs ms (k + 1)) (n k g (omega arith)))) ∙ keys_few (to - 1) to (omega arith)
        by (no h) = keys_few from to (omega arith)

-- ---- where the cursor rests
module _ (o : Options) (s : Strategy) (w at end : ℕ) (vs ms : Words) (v : ℤ) (c : ℕ) (p : CursorAt o s w at end vs ms v c)
    (st : Stopped s o.allow_eq (key_at o w vs ms) end (value v) c) (first : ℕ) (x : List Cell) (ex : key_of o x ≡ value v) where
  abbrev pub key : ℕ → Cell
  key k = key_at o w vs ms k

  abbrev row : ℕ → List Cell
  row k = row_from w (k * w) vs ms

  fit : (k : ℕ) → k < end → fits o x (row k) ≡ fits_key s o.allow_eq (value v) (key k)
  unfolding fits
  fit k h =
      let e = key_at_lem o w end vs ms p.rows k h in
      subst (λ (t : Strategy). fits o x (row k) ≡ fits_key t o.allow_eq (value v) (key k)) (sym p.told) (rw (ex, e))

  over : (t : Strategy) (j k : ℕ) → j < end → k < end → takes_over o t x (row j) (row k) ≡ takes_key o.allow_eq key at end p.rising t (value v) (key j) (key k)
  unfolding takes_over
  over Backward j k h l = refl
  over Forward j k h l = refl
  over Nearest j k h l = rw (ex, key_at_lem o w end vs ms p.rows j h, key_at_lem o w end vs ms p.rows k l)

  -- A row that fits, behind or ahead, leaves the place to row c, which fits.
  loses : (k : ℕ) → at ≤ k → k < c → fits o x (row k) ≡ true → (fits o x (row c) ≡ true) × (takes_over o (strategy_of o) x (row c) (row k) ≡ true)
  loses k l h e =
      let g = gives_way o.allow_eq key at end p.rising s (value v) c k p.behind l h p.there (sym (fit k (omega (arith, p.there))) ∙ e) in
      (fit c p.there ∙ g.0, rw (← p.told) (over s c k p.there (omega (arith, p.there)) ∙ g.1))

  waits : (k : ℕ) → c < k → k < end → fits o x (row k) ≡ true → (fits o x (row c) ≡ true) × (takes_over o (strategy_of o) x (row k) (row c) ≡ false)
  waits k h l e =
      let g = holds_place o.allow_eq key at end p.rising s (value v) c k refl st p.upward h l (sym (fit k l) ∙ e) in
      (fit c p.there ∙ g.0, rw (← p.told) (over s k c l p.there ∙ g.1))

  parts : between w at end vs ms ≡ between w at c vs ms ++ row c ∷ between w (c + 1) end vs ms
  parts =
      let e : at + (c - at) ≡ c = omega (arith, p.upward) in
      let f = between_cut w vs ms at (c - at) end (omega (arith, p.upward, p.there)) in
      rw (e, between_more w vs ms c end p.there) at f

  -- Row c fits: it is the choice.
  pub rest_hit : fits_key s o.allow_eq (value v) (key c) ≡ true → hit_at first w end vs ms c ≡ choose o x (fits o x) nobody (first + at) (between w at end vs ms)
  unfolding choose
  rest_hit e =
      let fc : fits o x (row c) ≡ true = fit c p.there ∙ e in
      let A : Rows = between w at c vs ms in
      let B : Rows = between w (c + 1) end vs ms in
      let n : first + at + length A ≡ first + c = omega (arith, p.upward, between_length w vs ms at c) in
      let sk = choose_skip o x (fits o x) (first + at) A (row c ∷ B) (all_between w vs ms (λ a. fits o x a ≡ true → Wins o x (fits o x) (row c ∷ B) a) at c (λ k l h t. loses k l h t)) in
      let kp = choose_keep o x (fits o x) (hit (first + c) (row c)) (suc (first + c)) B (all_between w vs ms (Keeps o x (fits o x) (hit (first + c) (row c))) (c + 1) end (λ k l h t. (waits k (omega arith) h t).1)) in
      let last : choose o x (fits o x) nobody (first + c) (row c ∷ B) ≡ hit (first + c) (row c) = rw (choose, fc) kp in
      hit_some first w end vs ms c p.there ∙ sym (ap (choose o x (fits o x) nobody (first + at)) parts ∙ sk ∙ rw n last)
