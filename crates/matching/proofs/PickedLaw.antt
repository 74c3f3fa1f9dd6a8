-- The match over sorted right rows is the row that the strategy picks: it qualifies and none that qualifies is better; or none qualifies. Assumes nothing.
use Rattle.std.specs.Prelude.{Some, None}
use mathlib.Core.Path.{◌≡◌, refl, sym, ap, ◌∙◌}
use mathlib.Core.Bool.{Bool, true, false, cond, not, ◌&&◌, ◌||◌}
use mathlib.Core.List.{List, [], ◌∷◌}
use Prim.Native.Nat.{ℕ, suc, ◌+◌, ◌≤◌, ◌<◌}
use native.Mathlib.Omega.{arith}
use native.Mathlib.Decide.{dec_lt, ℕ_discrete}
use borrow.Author.Tests.{ltb-true, lt-ltb, le-ltb, eq-eqb, ne_eqb, not-true}
use lib.Dec.{ltb, eqb}
use lib.IntN.{pos, nat_abs}
use lib.Signed.{le_z}
use lib.ListN.{length, get_or}
use Rattle.frames.specs.Cells.{Cell, Rows}
use Rattle.order.specs.options.Options.{strategy_of, key_rule}
use Rattle.order.specs.Order.{cmp_cell, cmp_group, is_less, is_equal, is_greater, key_of, distance, sorted}
use Rattle.order.proofs.OrderLaws.{AtMost, flip, cmp_cell_is, cmp_group_is, cmp_key_is, cmp_key, same_right, not_less}
use Rattle.order.proofs.SortedLaws.{sorted_at}
use Rattle.frames.proofs.BoolLaws.{and-true}
use Rattle.order.proofs.KeyLaws.{key_at_most, nearer_below, nearer_above}
use Rattle.order.specs.declared.options.Options.{Options}
use Rattle.std.specs.declared.cmp.Ordering.{Ordering}
use Rattle.std.specs.declared.cmp.Ordering.TheVariants.{Less, Equal, Greater}
use Rattle.order.specs.declared.options.Strategy.{Strategy}
use Rattle.order.specs.declared.options.Strategy.TheVariants.{Backward, Forward, Nearest}
use Rattle.matching.specs.Match.{Hit, nobody, hit, on_side, takes_over, meet, choose, too_far, tolerate, match_table, qualifies}
use Rattle.matching.specs.Picked.{better, Picked, NoneQualifies}
use Rattle.matching.proofs.ChoiceLaws.{cond_ind}
use Rattle.matching.proofs.MayLaws.{may, May, may_out, never, is_false, back_side, fore_side, nearer_least, not_nearer_least, over_then, over_or}

-- ---- better, told by what takes over: of an earlier row, that it is not taken over; of a later one, that it takes over
even : (z : Ordering) → (is_greater z || (is_equal z && false)) ≡ not (not (is_less (flip z)))
even Less = refl
even Equal = refl
even Greater = refl

early : (d e : ℕ) (z : Ordering) → (ltb d e || (eqb d e && (is_greater z || (is_equal z && false)))) ≡ not (ltb e d || (eqb e d && not (is_less (flip z))))
early d e z = by (dec_lt d e) (dec_lt e d)
  where
    by : Dec (d < e) → Dec (e < d) → (ltb d e || (eqb d e && (is_greater z || (is_equal z && false)))) ≡ not (ltb e d || (eqb e d && not (is_less (flip z))))
    by (yes l) g = rw (lt-ltb d e l, le-ltb e d (omega arith), ne_eqb e d (λ p. omega arith))
    by (no l) (yes g) = rw (le-ltb d e (omega arith), lt-ltb e d g, ne_eqb d e (λ p. omega arith))
    by (no l) (no g) = rw (le-ltb d e (omega arith), le-ltb e d (omega arith), eq-eqb d e (omega arith), eq-eqb e d (omega arith)) (even z)

late : (z : Ordering) → (is_greater z || (is_equal z && true)) ≡ not (is_less z)
late Less = refl
late Equal = refl
late Greater = refl

module _ (o : Options) (x s r : List Cell) (k i : ℕ) where
  better_before : (w : Strategy) → k < i → better o w x k s i r ≡ not (takes_over o w x r s)
  unfolding better takes_over
  better_before Backward l = le-ltb i k (omega arith)
  better_before Forward l = lt-ltb k i l
  better_before Nearest l =
      rw (le-ltb i k (omega arith), (cmp_cell_is key_rule).flipped (key_of o r) (key_of o s))
      (early (distance (key_of o s) (key_of o x)) (distance (key_of o r) (key_of o x)) (cmp_cell key_rule (key_of o s) (key_of o r)))

  better_behind : (w : Strategy) → i < k → better o w x k s i r ≡ takes_over o w x s r
  unfolding better takes_over
  better_behind Backward l = lt-ltb i k l
  better_behind Forward l = le-ltb k i (omega arith)
  better_behind Nearest l = rw (lt-ltb i k l, late (cmp_cell key_rule (key_of o s) (key_of o r)))

better_same : (o : Options) (x r : List Cell) (i : ℕ) (w : Strategy) → better o w x i r i r ≡ false
unfolding better
better_same o x r i Backward = le-ltb i i (omega arith)
better_same o x r i Forward = le-ltb i i (omega arith)
better_same o x r i Nearest =
    let d = distance (key_of o r) (key_of o x) in
    rw (le-ltb d d (omega arith), eq-eqb d d refl, (cmp_cell_is key_rule).equal (key_of o r), le-ltb i i (omega arith))

-- ---- along the choice, what holds of it before a row holds after it, by the rows' places
module _ (o : Options) (x : List Cell) (be : List Cell → Bool) (P : ℕ → Hit → Type 0) where
  walk : (c : Hit) (i n : ℕ) (rs : Rows) → n ≡ i + length rs → P i c
      → ((k j : ℕ) → k < length rs → j ≡ i + k → (c : Hit) → P j c → P (suc j) (cond (be (get_or rs k [])) (meet o x j (get_or rs k []) c) c))
      → P n (choose o x be c i rs)
  unfolding choose
  walk c i n [] e h s = let q : n ≡ i = omega arith in rw q h
  walk c i n (r ∷ rs) e h s =
      walk (cond (be r) (meet o x i r c) c) (suc i) n rs (omega arith) (s 0 i (omega arith) (omega arith) c h) (λ k j l q. s (suc k) j (omega arith) (omega arith))

module _ (o : Options) (rights : Rows) (x : List Cell) where
  abbrev row : ℕ → List Cell
  row k = get_or rights k []

  abbrev over : List Cell → List Cell → Bool
  over r c = takes_over o (strategy_of o) x r c

  -- The choice c, at place n, stands among the first i rows: it may be chosen, takes over each row before it that may be, and none behind it takes it over.
  record Stands (i n : ℕ) (c : List Cell) : Type 0 where
    there : n < i
    at : c ≡ row n
    fit : may o x c ≡ true
    before : (k : ℕ) → k < n → may o x (row k) ≡ true → over c (row k) ≡ true
    behind : (k : ℕ) → n < k → k < i → may o x (row k) ≡ true → over (row k) c ≡ false

  -- The choice so far is the best of the first i rows; with none, none of them may be chosen.
  abbrev Best : ℕ → Hit → Type 0
  Best i nobody = (k : ℕ) → k < i → may o x (row k) ≡ false
  Best i (hit n c) = Stands i n c

  -- The last of the first suc i rows, or one before it.
  last_or : (i k : ℕ) (Q : ℕ → Type 0) → k < suc i → Q i → (k < i → Q k) → Q k
  last_or i k Q l h f = by (ℕ_discrete k i)
    where
      by : Dec (k ≡ i) → Q k
      by (yes e) = rw e h
      by (no e) = f (omega arith)

  -- Row i: the choice stays, is passed by a row that may not be chosen, or moves to the row.
  stays : (i n : ℕ) (c : List Cell) → (may o x (row i) ≡ true → over (row i) c ≡ false) → Stands i n c → Stands (suc i) n c
  stays i n c t b = record {
    there = omega (arith, b.there);
    at = b.at;
    fit = b.fit;
    before = b.before;
    behind = λ k l j. last_or i k (λ k. may o x (row k) ≡ true → over (row k) c ≡ false) j t (b.behind k l);
  }

  passed : (i : ℕ) (c : Hit) → may o x (row i) ≡ false → Best i c → Best (suc i) c
  passed i nobody t b = λ k l. last_or i k (λ k. may o x (row k) ≡ false) l t (b k)
  passed i (hit n c) t b = stays i n c (λ u. never (may o x (row i)) u t) b

  moves : (i n : ℕ) (c : List Cell) → may o x (row i) ≡ true → over (row i) c ≡ true → Stands i n c → Stands (suc i) i (row i)
  moves i n c m t b = record {
    there = omega arith;
    at = refl;
    fit = m;
    before = λ k l u. by k l u (dec_lt k n) (ℕ_discrete k n);
    behind = λ k l j u. absurd (omega arith);
  }
    where
      by : (k : ℕ) → k < i → may o x (row k) ≡ true → Dec (k < n) → Dec (k ≡ n) → over (row i) (row k) ≡ true
      by k l u (yes h) d = over_then o x (row i) c (row k) (strategy_of o) t (b.before k h u)
      by k l u (no h) (yes e) = rw (e, ← b.at) t
      by k l u (no h) (no e) = over_or o x (row i) c (row k) (strategy_of o) t (b.behind k (omega arith) l u)

  met : (i : ℕ) (c : Hit) → may o x (row i) ≡ true → Best i c → Best (suc i) (meet o x i (row i) c)
  met i nobody m b = record { there = omega arith; at = refl; fit = m; before = λ k l u. never (may o x (row k)) u (b k l); behind = λ k l j u. absurd (omega arith) }
  met i (hit n c) m b = cond_ind (Best (suc i)) (over (row i) c) (λ t. moves i n c m t b) (λ t. stays i n c (λ u. t) b)

  best : Best (length rights) (choose o x (may o x) nobody 0 rights)
  best = walk o x (may o x) Best nobody 0 (length rights) rights (omega arith) (λ k l. absurd (omega arith)) step
    where
      step : (k j : ℕ) → k < length rights → j ≡ 0 + k → (c : Hit) → Best j c → Best (suc j) (cond (may o x (row k)) (meet o x j (row k) c) c)
      step k j l e c b =
          let q : k ≡ j = omega arith in
          rw q (cond_ind (Best (suc j)) (may o x (row j)) (λ t. met j c t b) (λ t. passed j c t b))

  -- ---- the choice is at the least distance: by keys, on the strategy's side, or by nearness itself
  abbrev Least : List Cell → List Cell → Type 0
  Least c s = distance (key_of o c) (key_of o x) ≤ distance (key_of o s) (key_of o x)

  module _ (c s : List Cell) (m : May o x c) (u : May o x s) where
    least_before : (w : Strategy) → on_side w o.allow_eq (cmp_key o c x) ≡ true → takes_over o w x c s ≡ true → AtMost (cmp_key o) s c → Least c s
    unfolding takes_over
    least_before Backward f t k = nearer_below (key_of o x) (key_of o c) (key_of o s) u.right k (back_side o.allow_eq (cmp_key o c x) f)
    least_before Forward f t k = never false t refl
    least_before Nearest f t k = nearer_least (key_of o x) (key_of o c) (key_of o s) t

    least_behind : (w : Strategy) → on_side w o.allow_eq (cmp_key o c x) ≡ true → takes_over o w x s c ≡ false → AtMost (cmp_key o) c s → Least c s
    unfolding takes_over
    least_behind Backward f t k = never true refl t
    least_behind Forward f t k = nearer_above (key_of o x) (key_of o c) (key_of o s) m.left
        (not_less (cmp_key_is o) c x (fore_side o.allow_eq (cmp_key o c x) f)) k
    least_behind Nearest f t k = not_nearer_least (key_of o x) (key_of o s) (key_of o c) t

  -- Two rows that may be chosen for x have one group, so on sorted rows their keys stand as their places.
  one_group : (r s : List Cell) → May o x r → May o x s → cmp_group o r s ≡ Equal
  one_group r s m u = sym (same_right (cmp_group_is o) r s x u.group) ∙ m.group

  least : sorted o rights ≡ true → (n : ℕ) → Stands (length rights) n (row n) → (k : ℕ) → k < length rights → may o x (row k) ≡ true → Least (row n) (row k)
  least e n b k l u = by (dec_lt k n) (dec_lt n k)
    where
      m : May o x (row n)
      m = may_out o x (row n) b.fit

      v : May o x (row k)
      v = may_out o x (row k) u

      by : Dec (k < n) → Dec (n < k) → Least (row n) (row k)
      by (yes h) d = least_before (row n) (row k) m v (strategy_of o) m.side (b.before k h u)
          (key_at_most o (row k) (row n) (one_group (row k) (row n) v m) (sorted_at o rights e k n (omega arith) b.there))
      by (no h) (yes d) = least_behind (row n) (row k) m v (strategy_of o) m.side (b.behind k d l u)
          (key_at_most o (row n) (row k) (one_group (row n) (row k) m v) (sorted_at o rights e n k (omega arith) l))
      by (no h) (no d) = let q : k ≡ n = omega arith in rw q (omega arith)

  -- What is farther than a row that is too far is too far.
  far_up : (c s : List Cell) → Least c s → too_far o x c ≡ true → too_far o x s ≡ true
  far_up c s l t =
      let p = and-true (le_z (pos 0) o.tolerance) (ltb (nat_abs o.tolerance) (distance (key_of o c) (key_of o x))) t in
      rw p.0
      (lt-ltb (nat_abs o.tolerance) (distance (key_of o s) (key_of o x))
      (omega (arith, ltb-true (nat_abs o.tolerance) (distance (key_of o c) (key_of o x)) p.1)))

  -- ---- the tolerance
  too_far_lem : (t : Bool) (n : ℕ) → cond t None (Some n) ≡ None → t ≡ true
  too_far_lem true n e = refl
  too_far_lem false n e = cc

  not_far : (t : Bool) (n i : ℕ) → cond t None (Some n) ≡ Some i → (t ≡ false) × (n ≡ i)
  not_far true n i e = ((cc), (cc))
  not_far false n i e = (refl, (cc))

  none : sorted o rights ≡ true → (c : Hit) → Best (length rights) c → tolerate o x c ≡ None → NoneQualifies o rights x
  unfolding tolerate qualifies
  none e nobody b t = λ k l. rw (b k l)
  none e (hit n c) b t = λ k l. is_false _ (λ u.
      let p = and-true (may o x (row k)) (not (too_far o x (row k))) u in
      let f = far_up (row n) (row k) (least e n (rw b.at at b) k l p.0) (rw b.at at (too_far_lem (too_far o x c) n t)) in
      never (too_far o x (row k)) f (not-true (too_far o x (row k)) p.1))

  picked : (n : ℕ) → Stands (length rights) n (row n) → too_far o x (row n) ≡ false → Picked o rights x n
  unfolding qualifies
  picked n b t = record {
    there = b.there;
    fit = rw (b.fit, t);
    best = λ k l u. by k l (and-true (may o x (row k)) (not (too_far o x (row k))) u).0 (dec_lt k n) (dec_lt n k);
  }
    where
      by : (k : ℕ) → k < length rights → may o x (row k) ≡ true → Dec (k < n) → Dec (n < k) → better o (strategy_of o) x k (row k) n (row n) ≡ false
      by k l u (yes h) d = better_before o x (row k) (row n) k n (strategy_of o) h ∙ ap not (b.before k h u)
      by k l u (no h) (yes d) = better_behind o x (row k) (row n) k n (strategy_of o) d ∙ b.behind k d l u
      by k l u (no h) (no d) = let q : k ≡ n = omega arith in rw q (better_same o x (row n) n (strategy_of o))

  one : (i : ℕ) (c : Hit) → Best (length rights) c → tolerate o x c ≡ Some i → Picked o rights x i
  unfolding tolerate
  one i nobody b t = let z : ◌≡◌ {A = ℕ} 0 1 = cc in absurd (omega arith)
  one i (hit n c) b t =
      let p = not_far (too_far o x c) n i t in
      rw (← p.1) (picked n (rw b.at at b) (rw b.at at p.0))

pub picked_none : (o : Options) (rights : Rows) → sorted o rights ≡ true → (x : List Cell) → match_table o 0 rights x ≡ None → NoneQualifies o rights x
unfolding match_table
picked_none o rights e x t = none o rights x e (choose o x (may o x) nobody 0 rights) (best o rights x) t

pub picked_row : (o : Options) (rights : Rows) → sorted o rights ≡ true → (x : List Cell) (i : ℕ) → match_table o 0 rights x ≡ Some i → Picked o rights x i
unfolding match_table
picked_row o rights e x i t = one o rights x i (choose o x (may o x) nobody 0 rights) (best o rights x) t
