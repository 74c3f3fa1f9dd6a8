-- If nothing is withdrawn, leaving out the notices that do not stand changes no match of Backward or Nearest: a notice that is corrected later is never
-- picked, since its correction takes its place. Rows may stand in any order. Assumes nothing.
use Rattle.std.specs.Prelude.{Some, None}
use mathlib.Core.Path.{◌≡◌, refl, sym, ◌∙◌, subst}
use mathlib.Core.Bool.{Bool, true, false, cond, not, ◌&&◌, ◌||◌}
use mathlib.Core.List.{List, [], ◌∷◌, ◌++◌, append_assoc}
use mathlib.Core.Logic.{◌⊎◌, inl, inr}
use Prim.Native.Nat.{ℕ, suc}
use native.Mathlib.Omega.{arith}
use borrow.Author.Tests.{le-ltb, eq-eqb, not-true}
use lib.ListN.{length, get_or, length-append}
use lib.Seq.{get_or-append_seam}
use Rattle.frames.specs.Cells.{Cell, Rows}
use Rattle.order.specs.options.Options.{strategy_of, key_rule}
use Rattle.order.specs.Order.{cmp_row, cmp_group, is_equal, key_of, distance}
use Rattle.order.specs.declared.options.Options.{Options}
use Rattle.std.specs.declared.cmp.Ordering.{Ordering}
use Rattle.std.specs.declared.cmp.Ordering.TheVariants.{Less, Equal, Greater}
use Rattle.order.specs.declared.options.Strategy.{Strategy}
use Rattle.order.specs.declared.options.Strategy.TheVariants.{Backward, Forward, Nearest}
use Rattle.order.proofs.OrderLaws.{cmp_cell_is, cmp_group_is, row_equal}
use Rattle.frames.proofs.BoolLaws.{and-true}
use Rattle.order.proofs.KeyLaws.{null_group_lem}
use Rattle.matching.specs.Match.{Hit, nobody, hit, takes_over, meet, choose, too_far, tolerate, match_table, whole_table}
use Rattle.matching.proofs.ChoiceLaws.{cond_ind}
use Rattle.matching.proofs.MayLaws.{may, may_out, may_in, over_then, over_or}
use Rattle.books.specs.Standing.{withdrawn, corrects, corrected, nameless, stands, standing, places, none_withdrawn, translated, SamePicks}

-- ---- tests
is_equal_lem : (z : Ordering) → is_equal z ≡ true → z ≡ Equal
is_equal_lem Less e = cc
is_equal_lem Equal e = refl
is_equal_lem Greater e = cc

or_else : (a b : Bool) → (a || b) ≡ true → a ≡ false → b ≡ true
or_else true b e f = let z : ◌≡◌ {A = ℕ} 0 1 = cc in absurd (omega arith)
or_else false b e f = e

left_out : (a b c : Bool) → (not a && not b && not c) ≡ false → a ≡ false → c ≡ false → b ≡ true
left_out true b c e f g = let z : ◌≡◌ {A = ℕ} 0 1 = cc in absurd (omega arith)
left_out false true c e f g = refl
left_out false false true e f g = let z : ◌≡◌ {A = ℕ} 0 1 = cc in absurd (omega arith)
left_out false false false e f g = let z : ◌≡◌ {A = ℕ} 0 1 = cc in absurd (omega arith)

-- ---- a notice and its correction
module _ (o : Options) (x : List Cell) where
  abbrev over : List Cell → List Cell → Bool
  over r c = takes_over o (strategy_of o) x r c

  module _ (s r : List Cell) (e : corrects o s r ≡ true) where
    group_is : cmp_group o s r ≡ Equal
    group_is = (row_equal o s r (is_equal_lem (cmp_row o s r) e)).0

    key_is : key_of o s ≡ key_of o r
    key_is = (row_equal o s r (is_equal_lem (cmp_row o s r) e)).1

    -- Where the notice may be chosen, so may its correction.
    may_both : may o x r ≡ true → may o x s ≡ true
    may_both t =
        let m = may_out o x r t in
        may_in o x s (record {
          group = (cmp_group_is o).same s r x group_is ∙ m.group;
          whole = m.whole;
          left = m.left;
          right = rw key_is m.right;
          side = rw key_is m.side;
        })

    -- It takes over what the notice takes over.
    over_both : (w : Strategy) (c : List Cell) → takes_over o w x r c ≡ true → takes_over o w x s c ≡ true
    unfolding takes_over
    over_both Backward c t = t
    over_both Forward c t = t
    over_both Nearest c t = rw key_is t

  -- Backward and Nearest have a later row of the same key take over; so a row takes over what does not take it over.
  over_itself : (w : Strategy) → (w ≡ Backward) ⊎ (w ≡ Nearest) → (r : List Cell) → takes_over o w x r r ≡ true
  unfolding takes_over
  over_itself Backward h r = refl
  over_itself Forward (inl e) r = let z : ◌≡◌ {A = ℕ} 0 1 = cc in absurd (omega arith)
  over_itself Forward (inr e) r = let z : ◌≡◌ {A = ℕ} 0 1 = cc in absurd (omega arith)
  over_itself Nearest h r =
      let d = distance (key_of o r) (key_of o x) in
      rw (le-ltb d d (omega arith), eq-eqb d d refl, (cmp_cell_is key_rule).equal (key_of o r))

  module _ (back : (strategy_of o ≡ Backward) ⊎ (strategy_of o ≡ Nearest)) where
    -- r would take over the choice c.
    abbrev Over : List Cell → Hit → Type 0
    Over r nobody = Unit {0}
    Over r (hit k c) = over r c ≡ true

    met_by : (i : ℕ) (s : List Cell) (c : Hit) → Over s c → meet o x i s c ≡ hit i s
    met_by i s nobody h = refl
    met_by i s (hit k c) h = rw h

    -- ---- a notice that is corrected behind is not missed
    over_correct : (s r : List Cell) → corrects o s r ≡ true → (c : Hit) → Over r c → Over s c
    over_correct s r e nobody h = tt
    over_correct s r e (hit k c) h = over_both s r e (strategy_of o) c h

    over_next : (s r : List Cell) → over s r ≡ true → (c : Hit) → Over r c → Over s c
    over_next s r t nobody h = tt
    over_next s r t (hit k c) h = over_then o x s r c (strategy_of o) t h

    over_not : (i : ℕ) (s r : List Cell) → over s r ≡ false → (c : Hit) → Over r c → Over r (meet o x i s c)
    over_not i s r t nobody h = over_or o x r r s (strategy_of o) (over_itself (strategy_of o) back r) t
    over_not i s r t (hit k c) h =
        cond_ind (Over r) (over s c) (λ u. over_or o x r r s (strategy_of o) (over_itself (strategy_of o) back r) t) (λ u. h)

    not_missed : (n : ℕ) (r : List Cell) (c : Hit) (i : ℕ) (rs : Rows) → may o x r ≡ true → Over r c → corrected o r rs ≡ true
        → choose o x (may o x) (hit n r) i rs ≡ choose o x (may o x) c i rs
    unfolding choose corrected
    not_missed n r c i [] m h e = let z : ◌≡◌ {A = ℕ} 0 1 = cc in absurd (omega arith)
    not_missed n r c i (s ∷ rs) m h e = by (λ d g f. not_missed n r d (suc i) rs m g f) (corrects o s r) refl
      where
        Again : Type 0
        Again = (d : Hit) → Over r d → corrected o r rs ≡ true → choose o x (may o x) (hit n r) (suc i) rs ≡ choose o x (may o x) d (suc i) rs

        both : may o x s ≡ true → Over s c → Over s (hit n r)
            → choose o x (may o x) (cond (may o x s) (meet o x i s (hit n r)) (hit n r)) (suc i) rs ≡ choose o x (may o x) (cond (may o x s) (meet o x i s c) c) (suc i) rs
        both t u v = rw (t, met_by i s c u, v)

        later : Again → (t u : Bool) → corrects o s r ≡ false → may o x s ≡ t → over s r ≡ u
            → choose o x (may o x) (cond (may o x s) (meet o x i s (hit n r)) (hit n r)) (suc i) rs ≡ choose o x (may o x) (cond (may o x s) (meet o x i s c) c) (suc i) rs
        later ih false u f t v = rw t (ih c h (or_else (corrects o s r) (corrected o r rs) e f))
        later ih true true f t v = both t (over_next s r v c h) v
        later ih true false f t v = rw (t, v) (ih (meet o x i s c) (over_not i s r v c h) (or_else (corrects o s r) (corrected o r rs) e f))

        by : Again → (b : Bool) → corrects o s r ≡ b
            → choose o x (may o x) (cond (may o x s) (meet o x i s (hit n r)) (hit n r)) (suc i) rs ≡ choose o x (may o x) (cond (may o x s) (meet o x i s c) c) (suc i) rs
        by ih true f = both (may_both s r f m) (over_correct s r f c h) (over_both s r f (strategy_of o) r (over_itself (strategy_of o) back r))
        by ih false f = later ih (may o x s) (over s r) f refl refl

    -- ---- the choice over the whole, and over the standing table
    module _ (q : ℕ) where
      -- The same row, its number translated.
      abbrev Same : List ℕ → Hit → Hit → Type 0
      Same ns nobody nobody = Unit {0}
      Same ns nobody (hit k s) = ⊥
      Same ns (hit n r) nobody = ⊥
      Same ns (hit n r) (hit k s) = (r ≡ s) × (n ≡ get_or ns k 0)

      same_met : (ns : List ℕ) (i j : ℕ) (r : List Cell) → i ≡ get_or ns j 0 → (c d : Hit) → Same ns c d → Same ns (meet o x i r c) (meet o x j r d)
      same_met ns i j r e nobody nobody h = (refl, e)
      same_met ns i j r e nobody (hit k s) h = absurd h
      same_met ns i j r e (hit n c) nobody h = absurd h
      same_met ns i j r e (hit n c) (hit k s) h =
          rw (← h.0) (pair (over r c))
        where
          pair : (b : Bool) → Same ns (cond b (hit i r) (hit n c)) (cond b (hit j r) (hit k c))
          pair true = (refl, e)
          pair false = (refl, h.1)

      same_step : (ns : List ℕ) (i j : ℕ) (r : List Cell) → i ≡ get_or ns j 0 → (c d : Hit) → Same ns c d
          → Same ns (cond (may o x r) (meet o x i r c) c) (cond (may o x r) (meet o x j r d) d)
      same_step ns i j r e c d h = by (may o x r)
        where
          by : (b : Bool) → Same ns (cond b (meet o x i r c) c) (cond b (meet o x j r d) d)
          by true = same_met ns i j r e c d h
          by false = h

      -- A row that does not stand leaves the choice as it will be.
      skipped : (i : ℕ) (r : List Cell) (rs : Rows) (c : Hit) → stands o q r rs ≡ false → withdrawn o q r ≡ false
          → choose o x (may o x) (cond (may o x r) (meet o x i r c) c) (suc i) rs ≡ choose o x (may o x) c (suc i) rs
      unfolding stands
      skipped i r rs c e w = cond_ind (λ z. choose o x (may o x) z (suc i) rs ≡ choose o x (may o x) c (suc i) rs) (may o x r) (λ t. go t c) (λ t. refl)
        where
          named : may o x r ≡ true → nameless o r ≡ false
          named t = let m = may_out o x r t in rw (m.right, null_group_lem o r x m.group ∙ m.whole)

          go : may o x r ≡ true → (c : Hit) → choose o x (may o x) (meet o x i r c) (suc i) rs ≡ choose o x (may o x) c (suc i) rs
          go t nobody = not_missed i r nobody (suc i) rs t tt (left_out (nameless o r) (corrected o r rs) (withdrawn o q r) e (named t) w)
          go t (hit k s) = cond_ind (λ z. choose o x (may o x) z (suc i) rs ≡ choose o x (may o x) (hit k s) (suc i) rs) (over r s)
              (λ u. not_missed i r (hit k s) (suc i) rs t u (left_out (nameless o r) (corrected o r rs) (withdrawn o q r) e (named t) w))
              (λ u. refl)

      walk : (pre : List ℕ) (c d : Hit) (i : ℕ) (rs : Rows) → none_withdrawn o q rs ≡ true → Same (pre ++ places o q i rs) c d
          → Same (pre ++ places o q i rs) (choose o x (may o x) c i rs) (choose o x (may o x) d (length pre) (standing o q rs))
      unfolding choose none_withdrawn places standing
      walk pre c d i [] w h = h
      walk pre c d i (r ∷ rs) w h =
          by (λ p a b k. walk p a b (suc i) rs (and-true (not (withdrawn o q r)) (none_withdrawn o q rs) w).1 k) (stands o q r rs) refl h
        where
          Again : Type 0
          Again = (p : List ℕ) (a b : Hit) → Same (p ++ places o q (suc i) rs) a b
              → Same (p ++ places o q (suc i) rs) (choose o x (may o x) a (suc i) rs) (choose o x (may o x) b (length p) (standing o q rs))

          here : withdrawn o q r ≡ false
          here = not-true (withdrawn o q r) (and-true (not (withdrawn o q r)) (none_withdrawn o q rs) w).0

          by : Again → (b : Bool) → stands o q r rs ≡ b → Same (pre ++ cond b (i ∷ places o q (suc i) rs) (places o q (suc i) rs)) c d
              → Same (pre ++ cond b (i ∷ places o q (suc i) rs) (places o q (suc i) rs))
              (choose o x (may o x) (cond (may o x r) (meet o x i r c) c) (suc i) rs)
              (choose o x (may o x) d (length pre) (cond b (r ∷ standing o q rs) (standing o q rs)))
          by ih true e k =
              let p : List ℕ = pre ++ i ∷ [] in
              let a : p ++ places o q (suc i) rs ≡ pre ++ i ∷ places o q (suc i) rs = append_assoc pre (i ∷ []) (places o q (suc i) rs) in
              let l : length p ≡ suc (length pre) = length-append pre (i ∷ []) ∙ omega arith in
              let t = ih p (cond (may o x r) (meet o x i r c) c) (cond (may o x r) (meet o x (length pre) r d) d)
              (rw a (same_step (pre ++ i ∷ places o q (suc i) rs) i (length pre) r (sym (get_or-append_seam pre i (places o q (suc i) rs) 0)) c d k)) in
              subst (λ (ns : List ℕ). Same ns (choose o x (may o x) (cond (may o x r) (meet o x i r c) c) (suc i) rs)
              (choose o x (may o x) (cond (may o x r) (meet o x (length pre) r d) d) (suc (length pre)) (standing o q rs))) a
              (subst (λ (n : ℕ). Same (p ++ places o q (suc i) rs) (choose o x (may o x) (cond (may o x r) (meet o x i r c) c) (suc i) rs)
              (choose o x (may o x) (cond (may o x r) (meet o x (length pre) r d) d) n (standing o q rs))) l t)
          by ih false e k = rw (skipped i r rs c e here) (ih pre c d k)

      -- After the tolerance.
      same_end : (ns : List ℕ) (c d : Hit) → Same ns c d → tolerate o x c ≡ translated ns (tolerate o x d)
      unfolding tolerate
      same_end ns nobody nobody h = refl
      same_end ns nobody (hit k s) h = absurd h
      same_end ns (hit n r) nobody h = absurd h
      same_end ns (hit n r) (hit k s) h = rw (← h.0, h.1) (by (too_far o x r))
        where
          by : (b : Bool) → cond b None (Some (get_or ns k 0)) ≡ translated ns (cond b None (Some k))
          by true = refl
          by false = refl

      pub same_table : (rows : Rows) → none_withdrawn o q rows ≡ true → whole_table o rows x ≡ translated (places o q 0 rows) (whole_table o (standing o q rows) x)
      unfolding whole_table match_table
      same_table rows w =
          same_end (places o q 0 rows) (choose o x (may o x) nobody 0 rows) (choose o x (may o x) nobody 0 (standing o q rows)) (walk [] nobody nobody 0 rows w tt)

pub same_picks : SamePicks
same_picks o q rows back w x = same_table o x back q rows w
