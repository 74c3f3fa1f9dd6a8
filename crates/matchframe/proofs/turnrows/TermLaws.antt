-- What is remembered is the same with a list and without one. Assumes nothing.
use Rattle.std.specs.Prelude.{Option}
use mathlib.Core.Path.{◌≡◌, ap, ◌∙◌}
use mathlib.Core.Bool.{cond}
use mathlib.Core.List.{List}
use Prim.Native.Nat.{ℕ}
use lib.ListN.{length}
use Rattle.frames.specs.Cells.{Rows, Words}
use Rattle.order.specs.options.Options.{is_on, with_list, without_list}
use Rattle.order.specs.declared.options.Terms.{Terms}
use Rattle.order.specs.Keyed.{last_keyed, last_left_at, remember_at, remember_last}
use Rattle.order.specs.declared.Row.{Row}
use Rattle.order.proofs.TermLaws.{last_terms, last_left_terms, remember_terms}
use Rattle.matchframe.specs.turnrows.Prunes.{remembered, remembered_left}

module _ (t : Terms) (codes : Words) (rising : List ℕ) (m : Row) (rs : Rows) where
  pub remembered_terms : remembered (without_list t) m rs ≡ remembered (with_list t codes rising) m rs
  unfolding remembered remember_last
  remembered_terms =
      ap (λ (r : Row). cond (is_on t.check) r m)
      (remember_terms t codes rising m rs (last_keyed (without_list t) rs) ∙ ap (λ (k : Option ℕ). remember_at (with_list t codes rising) m rs k) (last_terms t codes rising rs (length rs)))

  pub remembered_left_terms : remembered_left (without_list t) m rs ≡ remembered_left (with_list t codes rising) m rs
  unfolding remembered_left
  remembered_left_terms =
      ap (λ (r : Row). cond (is_on t.check) r m)
      (remember_terms t codes rising m rs (last_left_at (without_list t) rs) ∙ ap (λ (k : Option ℕ). remember_at (with_list t codes rising) m rs k) (last_left_terms t codes rising rs))
