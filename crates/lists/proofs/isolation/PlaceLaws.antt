-- The choice among rows, told by other places: rows that may not be chosen are left out, and the others are counted without them. Assumes nothing.
use Rattle.std.specs.Prelude.{Option, Some, None}
use mathlib.Core.Path.{◌≡◌, refl, ap, ◌∙◌}
use mathlib.Core.Bool.{Bool, true, false, cond}
use mathlib.Core.List.{List, [], ◌∷◌}
use Prim.Native.Nat.{ℕ, suc, ◌+◌}
use native.Mathlib.Omega.{arith}
use lib.ListN.{length, take}
use Rattle.frames.specs.Cells.{Cell, Rows}
use Rattle.order.specs.options.Options.{strategy_of}
use Rattle.order.specs.declared.options.Options.{Options}
use Rattle.matching.specs.Match.{Hit, nobody, hit, meet, choose, takes_over, too_far, tolerate}

-- A choice, and a match, with its number told anew.
abbrev pub hit_by : (ℕ → ℕ) → Hit → Hit
hit_by f nobody = nobody
hit_by f (hit n r) = hit (f n) r

abbrev pub choice_by : (ℕ → ℕ) → Option ℕ → Option ℕ
choice_by f (Some n) = Some (f n)
choice_by f None = None

-- The rows for which a test holds.
unfoldable pub those : (List Cell → Bool) → Rows → Rows
those be [] = []
those be (r ∷ rs) = cond (be r) (r ∷ those be rs) (those be rs)

module _ (o : Options) (x : List Cell) where
  pub tolerate_by : (f : ℕ → ℕ) (c : Hit) → tolerate o x (hit_by f c) ≡ choice_by f (tolerate o x c)
  unfolding tolerate
  tolerate_by f nobody = refl
  tolerate_by f (hit n r) = by (too_far o x r)
    where
      by : (t : Bool) → cond t None (Some (f n)) ≡ choice_by f (cond t None (Some n))
      by true = refl
      by false = refl

  meet_by : (f : ℕ → ℕ) (i : ℕ) (r : List Cell) (c : Hit) → hit_by f (meet o x i r c) ≡ meet o x (f i) r (hit_by f c)
  meet_by f i r nobody = refl
  meet_by f i r (hit k c) = by (takes_over o (strategy_of o) x r c)
    where
      by : (t : Bool) → hit_by f (cond t (hit i r) (hit k c)) ≡ cond t (hit (f i) r) (hit (f k) c)
      by true = refl
      by false = refl

  pub step_by : (f : ℕ → ℕ) (t : Bool) (i : ℕ) (r : List Cell) (c : Hit) → hit_by f (cond t (meet o x i r c) c) ≡ cond t (meet o x (f i) r (hit_by f c)) (hit_by f c)
  step_by f true i r c = meet_by f i r c
  step_by f false i r c = refl

  module _ (may be : List Cell → Bool) (only : (r : List Cell) → be r ≡ false → may r ≡ false) (f : ℕ → ℕ) where
    -- Places are counted from i among all rows and from k among those for which the test holds; f takes the first to the second.
    pub choose_those : (c : Hit) (i k : ℕ) (rs : Rows) → ((j : ℕ) → f (i + j) ≡ k + length (those be (take j rs)))
        → hit_by f (choose o x may c i rs) ≡ choose o x may (hit_by f c) k (those be rs)
    unfolding choose those
    choose_those c i k [] h = refl
    choose_those c i k (r ∷ rs) h = by (be r) refl (λ (d : Hit) (m : ℕ). choose_those d (suc i) m rs)
      where
        from : f i ≡ k
        from = let z = h 0 in let e : i + 0 ≡ i = omega arith in rw e at z ∙ omega arith

        -- What is known of the rows behind r, for any choice so far and any count.
        Behind : Type 0
        Behind = (d : Hit) (m : ℕ) → ((j : ℕ) → f (suc i + j) ≡ m + length (those be (take j rs))) → hit_by f (choose o x may d (suc i) rs) ≡ choose o x may (hit_by f d) m (those be rs)

        by : (t : Bool) → be r ≡ t → Behind → hit_by f (choose o x may (cond (may r) (meet o x i r c) c) (suc i) rs) ≡ choose o x may (hit_by f c) k (cond t (r ∷ those be rs) (those be rs))
        by true e ih =
            ih (cond (may r) (meet o x i r c) c) (suc k) (λ j. let z = h (suc j) in let q : i + suc j ≡ suc i + j = omega arith in rw (q, e) at z ∙ omega arith)
            ∙ ap (λ (d : Hit). choose o x may d (suc k) (those be rs)) (step_by f (may r) i r c ∙ rw from)
        by false e ih = rw (only r e) (ih c k (λ j. let z = h (suc j) in let q : i + suc j ≡ suc i + j = omega arith in rw (q, e) at z))
