-- The plan, step by step. Assumes nothing.
use mathlib.Core.Path.{◌≡◌, refl, ap}
use mathlib.Core.Bool.{Bool, true, false}
use mathlib.Core.List.{List, [], ◌∷◌, ◌++◌}
use Prim.Native.Nat.{ℕ, zero, suc, ◌≤◌}
use native.Mathlib.Omega.{arith}
use lib.ListN.{length}
use Rattle.frames.specs.Cells.{Rows}
use Rattle.order.specs.declared.options.Options.{Options}
use Rattle.searching.specs.Reach.{need_more}
use Rattle.planning.specs.declared.Figures.{Figures}
use Rattle.planning.specs.Plan.{rest, after_turn, after_taking, kept_after, plan_from}

pub plan_takes : (fuel : ℕ) (o : Options) (held f : Rows) (fs : List Rows) (x : Rows) (xs : List Rows) → need_more o x held ≡ true
    → plan_from (suc fuel) o held (f ∷ fs) (x ∷ xs) ≡ after_taking held (plan_from fuel o (held ++ f) fs (x ∷ xs))
unfolding plan_from
plan_takes fuel o held f fs x xs q = rw (q, plan_from) refl

pub plan_turns : (fuel : ℕ) (o : Options) (held f : Rows) (fs : List Rows) (x : Rows) (xs : List Rows) → need_more o x held ≡ false
    → plan_from (suc fuel) o held (f ∷ fs) (x ∷ xs) ≡ after_turn held (plan_from fuel o (kept_after o x held) (f ∷ fs) xs)
unfolding plan_from
plan_turns fuel o held f fs x xs q = rw (q, plan_from) refl

pub plan_least : (fuel : ℕ) (o : Options) (held : Rows) (rs ls : List Rows) → length held ≤ (plan_from fuel o held rs ls).rows
unfolding plan_from
plan_least zero o held rs ls = omega arith
plan_least (suc fuel) o held rs [] = omega arith
plan_least (suc fuel) o held [] (x ∷ xs) = omega arith
plan_least (suc fuel) o held (f ∷ fs) (x ∷ xs) = by (need_more o x held) refl
  where
    by : (t : Bool) → need_more o x held ≡ t → length held ≤ (plan_from (suc fuel) o held (f ∷ fs) (x ∷ xs)).rows
    by true q = omega (arith, ap (λ (p : Figures). p.rows) (plan_takes fuel o held f fs x xs q))
    by false q = omega (arith, ap (λ (p : Figures). p.rows) (plan_turns fuel o held f fs x xs q))

pub plan_last : (fuel : ℕ) (o : Options) (held : Rows) (x : Rows) (xs : List Rows) → plan_from (suc fuel) o held [] (x ∷ xs) ≡ after_turn held (plan_from fuel o (kept_after o x held) [] xs)
unfolding plan_from
plan_last fuel o held x xs = refl

-- Where no left frame is left.
pub plan_none : (fuel : ℕ) (o : Options) (held : Rows) (rs : List Rows) → plan_from fuel o held rs [] ≡ rest held
unfolding plan_from
plan_none zero o held rs = refl
plan_none (suc fuel) o held rs = refl
