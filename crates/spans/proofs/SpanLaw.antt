-- Over sorted points without null the points between the two searches are those inside the bounds. Assumes nothing.
use mathlib.Core.Path.{◌≡◌, refl, sym, ap, ◌∙◌}
use mathlib.Core.Bool.{Bool, true, false, cond, not, ◌&&◌}
use mathlib.Core.List.{List, [], ◌∷◌}
use Prim.Native.Nat.{ℕ, zero, suc, ◌+◌, ◌-◌, ◌≤◌, ◌<◌, max, min}
use native.Mathlib.Omega.{arith}
use native.Mathlib.Decide.{dec_lt}
use borrow.Author.Tests.{le-leb, lt-leb, lt-ltb, le-ltb, not-true}
use lib.Dec.{leb, ltb}
use lib.IntN.{ℤ, pos, negsuc}
use lib.Signed.{lt_z, le_z}
use lib.ListN.{length, get_or}
use Rattle.frames.specs.Cells.{Cell, null, value, cell, is_null, Rows}
use Rattle.order.specs.options.Options.{key_rule}
use Rattle.order.specs.Order.{cmp_z, cmp_cell, is_less, is_greater}
use Rattle.std.specs.declared.cmp.Ordering.{Ordering}
use Rattle.std.specs.declared.cmp.Ordering.TheVariants.{Less, Equal, Greater}
use Rattle.order.proofs.OrderLaws.{AtMost, flip, cmp_cell_is, cmp_z_is, at_most, at_most_refl, on}
use Rattle.order.proofs.SortedLaws.{not_greater}
use Rattle.frames.proofs.BoolLaws.{and-true}
use Rattle.searching.specs.Search.{find, meets}
use Rattle.searching.specs.declared.Seek.{Seek}
use Rattle.searching.specs.declared.Seek.TheVariants.{AtLeast, Above}
use Rattle.searching.proofs.SearchLaws.{Cut, search_cut}
use Rattle.searching.proofs.Bounds.{meets_later}
use Rattle.spans.specs.Span.{covers, covers_row, covered, pairs_from, ascending_points}
use Rattle.spans.specs.Port.{seek_lower, seek_upper, search_sorted, up_from, stretch, matches_of, ported_from, PortedIsAll}
use Rattle.spans.specs.declared.Bounds.{Bounds}

-- ---- the bounds, by order
lt_or_not : (a b : ℤ) → le_z a b ≡ not (lt_z b a)
lt_or_not (pos a) (pos b) = by (dec_lt b a)
  where
    by : Dec (b < a) → leb a b ≡ not (ltb b a)
    by (yes h) = rw (lt-leb a b h, lt-ltb b a h)
    by (no h) = rw (le-leb a b (omega arith), le-ltb b a (omega arith))
lt_or_not (pos a) (negsuc b) = refl
lt_or_not (negsuc a) (pos b) = refl
lt_or_not (negsuc a) (negsuc b) = by (dec_lt a b)
  where
    by : Dec (a < b) → leb b a ≡ not (ltb a b)
    by (yes h) = rw (lt-leb b a h, lt-ltb a b h)
    by (no h) = rw (le-leb b a (omega arith), le-ltb a b (omega arith))

less_is : (a b : ℤ) → is_less (cmp_z a b) ≡ lt_z a b
less_is a b = by (lt_z a b) (lt_z b a)
  where
    by : (t u : Bool) → is_less (cond t Less (cond u Greater Equal)) ≡ t
    by true u = refl
    by false true = refl
    by false false = refl

flip_greater : (z : Ordering) → is_greater (flip z) ≡ is_less z
flip_greater Less = refl
flip_greater Equal = refl
flip_greater Greater = refl

greater_is : (a b : ℤ) → is_greater (cmp_z a b) ≡ lt_z b a
greater_is a b = ap is_greater (cmp_z_is.flipped a b) ∙ flip_greater (cmp_z b a) ∙ less_is b a

not_not : (b : Bool) → not (not b) ≡ b
not_not true = refl
not_not false = refl

-- A point is at or above the lower bound where the search for it is met, and at or below the upper one where the search for that is not.
lower_is : (k : Bool) (l v : ℤ) → cond k (le_z l v) (lt_z l v) ≡ meets (cond k AtLeast Above) (cmp_z v l)
lower_is true l v = lt_or_not l v ∙ ap not (sym (less_is v l))
lower_is false l v = sym (greater_is v l)

upper_is : (k : Bool) (u v : ℤ) → cond k (le_z v u) (lt_z v u) ≡ not (meets (cond k Above AtLeast) (cmp_z v u))
upper_is true u v = lt_or_not v u ∙ ap not (sym (greater_is v u))
upper_is false u v = sym (less_is v u) ∙ sym (not_not (is_less (cmp_z v u)))

-- ---- points
row_covers : (b : Bounds) (l u : ℤ) (x : Cell) → is_null x ≡ false
    → covers b (value l) (value u) x ≡ (meets (seek_lower b) (cmp_cell key_rule x (value l)) && not (meets (seek_upper b) (cmp_cell key_rule x (value u))))
row_covers b l u null e = let z : ◌≡◌ {A = ℕ} 0 1 = cc in absurd (omega arith)
row_covers b l u (value v) e = rw (lower_is b.lower_in l v, upper_is b.upper_in u v)

-- Each point is one, and at most every later one.
pub record Points (ps : Rows) : Type 0 where
  pub point : (i : ℕ) → i < length ps → is_null (cell 0 (get_or ps i [])) ≡ false
  pub climb : (i k : ℕ) → i ≤ k → k < length ps → AtMost (cmp_cell key_rule) (cell 0 (get_or ps i [])) (cell 0 (get_or ps k []))

first_point : (p : List Cell) (ps : Rows) → ascending_points (p ∷ ps) ≡ true → (is_null (cell 0 p) ≡ false) × (ascending_points ps ≡ true)
unfolding ascending_points
first_point p [] e = (not-true (is_null (cell 0 p)) e, refl)
first_point p (q ∷ ps) e =
    let a = and-true (not (is_null (cell 0 p)) && not (is_greater (cmp_cell key_rule (cell 0 p) (cell 0 q)))) (ascending_points (q ∷ ps)) e in
    (not-true (is_null (cell 0 p)) (and-true (not (is_null (cell 0 p))) (not (is_greater (cmp_cell key_rule (cell 0 p) (cell 0 q)))) a.0).0, a.1)

next_point : (p q : List Cell) (ps : Rows) → ascending_points (p ∷ q ∷ ps) ≡ true → AtMost (cmp_cell key_rule) (cell 0 p) (cell 0 q)
unfolding ascending_points
next_point p q ps e =
    let a = and-true (not (is_null (cell 0 p)) && not (is_greater (cmp_cell key_rule (cell 0 p) (cell 0 q)))) (ascending_points (q ∷ ps)) e in
    not_greater (cmp_cell key_rule (cell 0 p) (cell 0 q)) (and-true (not (is_null (cell 0 p))) (not (is_greater (cmp_cell key_rule (cell 0 p) (cell 0 q)))) a.0).1

all_points : (ps : Rows) → ascending_points ps ≡ true → (i : ℕ) → i < length ps → is_null (cell 0 (get_or ps i [])) ≡ false
all_points [] e i l = absurd (omega arith)
all_points (p ∷ ps) e zero l = (first_point p ps e).0
all_points (p ∷ ps) e (suc i) l = all_points ps (first_point p ps e).1 i (omega arith)

from_first : (p : List Cell) (ps : Rows) → ascending_points (p ∷ ps) ≡ true → (k : ℕ) → k < length (p ∷ ps) → AtMost (cmp_cell key_rule) (cell 0 p) (cell 0 (get_or (p ∷ ps) k []))
from_first p ps e zero l = at_most_refl (cmp_cell_is key_rule) (cell 0 p)
from_first p [] e (suc k) l = absurd (omega arith)
from_first p (q ∷ ps) e (suc k) l =
    let t = first_point p (q ∷ ps) e in
    at_most (cmp_cell_is key_rule) (cell 0 p) (cell 0 q) (cell 0 (get_or (q ∷ ps) k []))
    (next_point p q ps e)
    (from_first q ps t.1 k (omega arith))

climbs : (ps : Rows) → ascending_points ps ≡ true → (i k : ℕ) → i ≤ k → k < length ps → AtMost (cmp_cell key_rule) (cell 0 (get_or ps i [])) (cell 0 (get_or ps k []))
climbs [] e i k h l = absurd (omega arith)
climbs (p ∷ ps) e zero k h l = from_first p ps e k l
climbs (p ∷ ps) e (suc i) zero h l = absurd (omega arith)
climbs (p ∷ ps) e (suc i) (suc k) h l = climbs ps (first_point p ps e).1 i k (omega arith) (omega arith)

points_are : (ps : Rows) → ascending_points ps ≡ true → Points ps
points_are ps e = record { point = all_points ps e; climb = climbs ps e }

-- ---- a search cuts the points
module _ (ps : Rows) (h : Points ps) where
  pub search_cuts : (k : Seek) (v : ℤ) → Cut (λ i. meets k (cmp_cell key_rule (cell 0 (get_or ps i [])) (value v))) 0 (length ps) (search_sorted k v ps)
  unfolding find
  search_cuts k v =
      search_cut (λ i. meets k (cmp_cell key_rule (cell 0 (get_or ps i [])) (value v))) 0 (length ps) (omega arith)
      (λ i m a c d t. meets_later (on (λ (r : List Cell). cell 0 r) (cmp_cell_is key_rule)) k (get_or ps i []) (get_or ps m []) (value v ∷ []) (h.climb i m c d) t)

-- ---- numbers from start on, below end, among the places j, j + 1, ..
up_none : (s n : ℕ) → n ≡ 0 → up_from s n ≡ []
unfolding up_from
up_none s n e = rw e

up_more : (s n : ℕ) → 0 < n → up_from s n ≡ s ∷ up_from (suc s) (n - 1)
unfolding up_from
up_more s zero h = absurd (omega arith)
up_more s (suc n) h = let z : suc n - 1 ≡ n = omega arith in rw z

nothing_left : (s e j n : ℕ) → e ≤ j → min e n - max s j ≡ 0
nothing_left s e j n h = omega arith

one_less : (e j n : ℕ) → min e (suc j + n) - suc j ≡ min e (j + suc n) - j - 1
one_less e j n = omega arith

some_left : (e j n : ℕ) → j < e → 0 < min e (j + suc n) - j
some_left e j n h = omega arith

past : (e j : ℕ) → (j < e → ⊥) → (e ≤ j) × (e ≤ suc j)
past e j d = (omega arith, omega arith)

module _ (b : Bounds) (r : List Cell) (s e : ℕ) where
  -- The points inside are those at the places from s on, below e.
  abbrev Inside : ℕ → Rows → Type 0
  Inside j ps = (i : ℕ) → i < length ps → covers_row b r (get_or ps i []) ≡ (leb s (j + i) && ltb (j + i) e)

  covered_are : (j : ℕ) (ps : Rows) → Inside j ps → covered b r j ps ≡ up_from (max s j) (min e (j + length ps) - max s j)
  unfolding covered
  covered_are j [] h = sym (up_none (max s j) (min e (j + 0) - max s j) (omega arith))
  covered_are j (p ∷ ps) h =
      by (dec_lt j s) (dec_lt j e) (covered_are (suc j) ps (λ i l. let z : suc j + i ≡ j + suc i = omega arith in rw z (h (suc i) (omega arith))))
    where
      z0 : j + 0 ≡ j
      z0 = omega arith

      test : covers_row b r p ≡ (leb s j && ltb j e)
      test = rw z0 at (h 0 (omega arith))

      by : Dec (j < s) → Dec (j < e) → covered b r (suc j) ps ≡ up_from (max s (suc j)) (min e (suc j + length ps) - max s (suc j))
          → cond (covers_row b r p) (j ∷ covered b r (suc j) ps) (covered b r (suc j) ps) ≡ up_from (max s j) (min e (j + suc (length ps)) - max s j)
      by (yes l) d ih =
          let a : max s (suc j) ≡ max s j = omega arith in
          let m : suc j + length ps ≡ j + suc (length ps) = omega arith in
          rw (test, lt-leb s j l, ih, a, m)
      by (no l) (yes d) ih =
          let a : max s j ≡ j = omega arith in
          let c : max s (suc j) ≡ suc j = omega arith in
          rw (test, le-leb s j (omega arith), lt-ltb j e d, ih, a, c, one_less e j (length ps)) (sym (up_more j (min e (j + suc (length ps)) - j) (some_left e j (length ps) d)))
      by (no l) (no d) ih =
          rw (test, le-leb s j (omega arith), le-ltb j e (omega arith))
          (ih
          ∙ up_none (max s (suc j)) (min e (suc j + length ps) - max s (suc j)) (nothing_left s e (suc j) (suc j + length ps) (past e j d).1)
          ∙ sym (up_none (max s j) (min e (j + suc (length ps)) - max s j) (nothing_left s e j (j + suc (length ps)) (past e j d).0)))

-- ---- the points of an interval
no_point : (b : Bounds) (r : List Cell) (j : ℕ) (ps : Rows) → ((x : Cell) → covers b (cell 0 r) (cell 1 r) x ≡ false) → covered b r j ps ≡ []
unfolding covered
no_point b r j [] h = refl
no_point b r j (p ∷ ps) h = rw (h (cell 0 p)) (no_point b r (suc j) ps h)

module _ (b : Bounds) (ps : Rows) (h : Points ps) (r : List Cell) where
  both : (l u : ℤ) → cell 0 r ≡ value l → cell 1 r ≡ value u → covered b r 0 ps ≡ stretch (search_sorted (seek_lower b) l ps) (search_sorted (seek_upper b) u ps)
  both l u el eu =
      covered_are b r (search_sorted (seek_lower b) l ps) (search_sorted (seek_upper b) u ps) 0 ps (λ i k. inside i k)
      ∙ ap (λ (n : ℕ). up_from n (min (search_sorted (seek_upper b) u ps) (0 + length ps) - n)) z
      ∙ ap (λ (n : ℕ). up_from (search_sorted (seek_lower b) l ps) (n - search_sorted (seek_lower b) l ps)) y
    where
      low : Cut (λ i. meets (seek_lower b) (cmp_cell key_rule (cell 0 (get_or ps i [])) (value l))) 0 (length ps) (search_sorted (seek_lower b) l ps)
      low = search_cuts ps h (seek_lower b) l

      high : Cut (λ i. meets (seek_upper b) (cmp_cell key_rule (cell 0 (get_or ps i [])) (value u))) 0 (length ps) (search_sorted (seek_upper b) u ps)
      high = search_cuts ps h (seek_upper b) u

      z : max (search_sorted (seek_lower b) l ps) 0 ≡ search_sorted (seek_lower b) l ps
      z = omega arith

      y : min (search_sorted (seek_upper b) u ps) (0 + length ps) ≡ search_sorted (seek_upper b) u ps
      y = omega (arith, high.to)

      cut_test : (p : ℕ → Bool) (at i : ℕ) → Cut p 0 (length ps) at → i < length ps → p i ≡ leb at i
      cut_test p at i c k = by (dec_lt i at)
        where
          by : Dec (i < at) → p i ≡ leb at i
          by (yes d) = c.before i (omega arith) d ∙ sym (lt-leb at i d)
          by (no d) = c.after i (omega arith) k ∙ sym (le-leb at i (omega arith))

      not_le : (m n : ℕ) → not (leb m n) ≡ ltb n m
      not_le m n = by (dec_lt n m)
        where
          by : Dec (n < m) → not (leb m n) ≡ ltb n m
          by (yes d) = rw (lt-leb m n d, lt-ltb n m d)
          by (no d) = rw (le-leb m n (omega arith), le-ltb n m (omega arith))

      inside : (i : ℕ) → i < length ps → covers_row b r (get_or ps i []) ≡ (leb (search_sorted (seek_lower b) l ps) (0 + i) && ltb (0 + i) (search_sorted (seek_upper b) u ps))
      inside i k =
          let o : 0 + i ≡ i = omega arith in
          rw (el, eu, o)
          (row_covers b l u (cell 0 (get_or ps i [])) (h.point i k)
          ∙ rw (cut_test _ (search_sorted (seek_lower b) l ps) i low k, cut_test _ (search_sorted (seek_upper b) u ps) i high k, not_le (search_sorted (seek_upper b) u ps) i))

  pub matches_are : matches_of b ps (cell 0 r) (cell 1 r) ≡ covered b r 0 ps
  matches_are = by (cell 0 r) (cell 1 r) refl refl
    where
      by : (x y : Cell) → cell 0 r ≡ x → cell 1 r ≡ y → matches_of b ps x y ≡ covered b r 0 ps
      by null y ex ey = sym (no_point b r 0 ps (λ x. rw ex))
      by (value l) null ex ey = sym (no_point b r 0 ps (λ x. rw (ex, ey)))
      by (value l) (value u) ex ey = sym (both l u ex ey)

ported_from_lem : (b : Bounds) (ps : Rows) → Points ps → (i : ℕ) (rs : Rows) → ported_from b ps i rs ≡ pairs_from b ps i rs
unfolding ported_from pairs_from
ported_from_lem b ps h i [] = refl
ported_from_lem b ps h i (r ∷ rs) = rw (matches_are b ps h r, ported_from_lem b ps h (suc i) rs)

pub ported_is_all : PortedIsAll
ported_is_all b points intervals e = ported_from_lem b points (points_are points e) 0 intervals
