-- Options in parts: terms and a list. Assumes nothing.
use mathlib.Core.Path.{◌≡◌, refl}
use mathlib.Core.List.{List}
use Prim.Native.Nat.{ℕ, ◌≤◌}
use native.Mathlib.Omega.{arith}
use Rattle.frames.specs.Cells.{Words}
use Rattle.order.specs.ranks.Ranks.{bad_ranks}
use Rattle.order.specs.options.Options.{terms_of, with_list, without_list, bad_options, Few}
use Rattle.order.specs.declared.options.Options.{Options}
use Rattle.order.specs.declared.options.Terms.{Terms}

-- Put together again, the parts are the options.
pub whole : (o : Options) → with_list (terms_of o) o.ranks.codes o.ranks.rising ≡ o
whole o = refl

-- Whether options are invalid does not depend on the list.
pub bad_terms : (t : Terms) (codes : Words) (rising : List ℕ) → bad_options (without_list t) ≡ bad_options (with_list t codes rising)
unfolding bad_options
bad_terms t codes rising = refl

-- Without a list, few by-columns are all that is needed.
pub few_terms : (t : Terms) → t.by ≤ 4 → Few (without_list t)
unfolding bad_ranks
few_terms t h = record { by = h; list = refl; there = λ e. let z : ◌≡◌ {A = ℕ} 0 1 = cc in absurd (omega arith) }
