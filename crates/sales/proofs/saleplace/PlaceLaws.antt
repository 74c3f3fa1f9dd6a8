-- Places among rows. Assumes nothing.
use mathlib.Core.Path.{◌≡◌, sym, ◌∙◌}
use mathlib.Core.Bool.{Bool, true, false}
use mathlib.Core.List.{List}
use Prim.Native.Nat.{ℕ, zero, suc, ◌+◌, ◌-◌, ◌*◌, ◌≤◌, ◌<◌}
use native.Mathlib.Omega.{arith}
use native.Mathlib.Decide.{dec_lt}
use Rattle.frames.specs.Cells.{Cell, Words}
use Rattle.order.specs.declared.options.Options.{Options}
use Rattle.std.specs.declared.cmp.Ordering.{Ordering}
use Rattle.std.specs.declared.cmp.Ordering.TheVariants.{Less, Equal, Greater}
use Rattle.sales.specs.saleplace.Place.{cmp_at, PlacedBy, Placed}

-- The words of rows bound the rows.
pub at_least : (n w : ℕ) → 0 < w → n ≤ n * w
at_least zero w h = omega arith
at_least (suc n) w h = let i = at_least n w h in let e : suc n * w ≡ w + n * w = omega arith in omega arith

-- ---- a place among the rows from low to high
true_false : {A : Type 0} → true ≡ false → A
true_false e = let z : ◌≡◌ {A = ℕ} 0 1 = cc in absurd (omega arith)

pub found_by : (f : ℕ → Ordering) (low high r : ℕ) → low ≤ r → r < high → f r ≡ Equal → PlacedBy f low high r true
found_by f low high r l h e = record { least = l; within = omega arith; yes = λ t. (h, e); no = λ t. true_false t }

pub missing_by : (f : ℕ → Ordering) (low high r : ℕ) → low ≤ r → r ≤ high → (low < r → f (r - 1) ≡ Less) → (r < high → f r ≡ Greater) → PlacedBy f low high r false
missing_by f low high r l h a b = record { least = l; within = h; yes = λ t. true_false (sym t); no = λ t. (a, b) }

-- Comparisons that say the same of each row place alike.
pub placed_alike : (o : Options) (w low high : ℕ) (body : Words) (g : List Cell) (f : ℕ → Ordering) (r : ℕ) (here : Bool) → ((i : ℕ) → i < high → f i ≡ cmp_at o w body g i) → PlacedBy f low high r here → Placed o w low high body g r here
placed_alike o w low high body g f r here e p = record {
  least = p.least;
  within = p.within;
  yes = λ t. ((p.yes t).0, sym (e r (p.yes t).0) ∙ (p.yes t).1);
  no = λ t. (λ l. sym (e (r - 1) (omega (arith, p.within))) ∙ (p.no t).0 l, λ l. sym (e r l) ∙ (p.no t).1 l);
}

module _ (o : Options) (w low high : ℕ) (body : Words) (g : List Cell) where
  pub found : (r : ℕ) → low ≤ r → r < high → cmp_at o w body g r ≡ Equal → Placed o w low high body g r true
  found r l h e = record { least = l; within = omega arith; yes = λ t. (h, e); no = λ t. true_false t }

  pub missing : (r : ℕ) → low ≤ r → r ≤ high → (low < r → cmp_at o w body g (r - 1) ≡ Less) → (r < high → cmp_at o w body g r ≡ Greater) → Placed o w low high body g r false
  missing r l h a b = record { least = l; within = h; yes = λ t. true_false (sym t); no = λ t. (a, b) }

  -- A place among the rows behind one that is less, or before one that is greater, is a place among all.
  pub placed_within : (from to r : ℕ) (here : Bool) → low ≤ from → to ≤ high → (low < from → cmp_at o w body g (from - 1) ≡ Less) → (to < high → cmp_at o w body g to ≡ Greater)
      → Placed o w from to body g r here → Placed o w low high body g r here
  placed_within from to r here l h a b p = record {
    least = omega (arith, p.least);
    within = omega (arith, p.within);
    yes = λ t. (omega (arith, (p.yes t).0), (p.yes t).1);
    no = λ t. (λ k. before (dec_lt from r) (p.no t).0 k, λ k. behind (dec_lt r to) (p.no t).1 k);
  }
    where
      before : Dec (from < r) → (from < r → cmp_at o w body g (r - 1) ≡ Less) → low < r → cmp_at o w body g (r - 1) ≡ Less
      before (yes d) f k = f d
      before (no d) f k = let e : r ≡ from = omega (arith, p.least) in rw e (a (omega arith))

      behind : Dec (r < to) → (r < to → cmp_at o w body g r ≡ Greater) → r < high → cmp_at o w body g r ≡ Greater
      behind (yes d) f k = f d
      behind (no d) f k = let e : r ≡ to = omega (arith, p.within) in rw e (b (omega arith))
