-- Values that the list lacks, over rows put together. Assumes nothing.
use mathlib.Core.Path.{◌≡◌, refl, sym, ap, ◌∙◌}
use mathlib.Core.Bool.{Bool, true, false, ◌&&◌, ◌||◌}
use mathlib.Core.List.{[], ◌∷◌, ◌++◌}
use Prim.Native.Nat.{ℕ}
use native.Mathlib.Omega.{arith}
use Rattle.frames.specs.Cells.{cell, Rows, Words}
use Rattle.order.specs.ranks.Ranks.{codes_of}
use Rattle.order.specs.declared.options.Options.{Options}
use Rattle.order.specs.Listed.{lacks, unlisted_in, lacks_code}

or_assoc : (a b c : Bool) → (a || (b || c)) ≡ (a || b || c)
or_assoc true b c = refl
or_assoc false b c = refl

unlisted_append : (cs : Words) (j : ℕ) (a b : Rows) → unlisted_in cs j (a ++ b) ≡ (unlisted_in cs j a || unlisted_in cs j b)
unfolding unlisted_in
unlisted_append cs j [] b = refl
unlisted_append cs j (r ∷ a) b = ap (λ (z : Bool). lacks cs (cell j r) || z) (unlisted_append cs j a b) ∙ or_assoc (lacks cs (cell j r)) (unlisted_in cs j a) (unlisted_in cs j b)

share : (g a b : Bool) → (g && (a || b)) ≡ (g && a || (g && b))
share true a b = refl
share false a b = refl

pub lacks_append : (o : Options) (a b : Rows) → lacks_code o (a ++ b) ≡ (lacks_code o a || lacks_code o b)
lacks_append o a b =
    let cs = codes_of o.ranks in
    let j = o.ranks.column in
    ap (λ (z : Bool). o.ranks.given && z) (unlisted_append cs j a b) ∙ share o.ranks.given (unlisted_in cs j a) (unlisted_in cs j b)

-- No rows lack nothing.
pub lacks_none : (o : Options) → lacks_code o [] ≡ false
unfolding unlisted_in
lacks_none o = none o.ranks.given
  where
    none : (g : Bool) → (g && false) ≡ false
    none true = refl
    none false = refl

-- Rows put together lack nothing exactly if neither part does.
pub lacks_both : (o : Options) (a b : Rows) → lacks_code o a ≡ false → lacks_code o b ≡ false → lacks_code o (a ++ b) ≡ false
lacks_both o a b e f = lacks_append o a b ∙ rw (e, f)

pub lacks_parts : (o : Options) (a b : Rows) → lacks_code o (a ++ b) ≡ false → (lacks_code o a ≡ false) × (lacks_code o b ≡ false)
lacks_parts o a b e = both (lacks_code o a) (lacks_code o b) (sym (lacks_append o a b) ∙ e)
  where
    both : (p q : Bool) → (p || q) ≡ false → (p ≡ false) × (q ≡ false)
    both true q e = let z : ◌≡◌ {A = ℕ} 0 1 = cc in absurd (omega arith)
    both false q e = (refl, e)
