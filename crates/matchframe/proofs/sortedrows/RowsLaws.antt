-- With no by-columns all rows are of one run: sorted, they are sorted by key. Assumes nothing.
use mathlib.Core.Path.{◌≡◌, refl, sym, ◌∙◌}
use mathlib.Core.Bool.{true, false}
use mathlib.Core.List.{List, [], ◌∷◌}
use Prim.Native.Nat.{ℕ}
use lib.ListN.{get_or}
use Rattle.frames.specs.Cells.{Cell, Rows, Words, rows_of}
use Rattle.order.specs.options.Options.{with_list, without_list}
use Rattle.order.specs.declared.options.Options.{Options}
use Rattle.order.specs.declared.options.Terms.{Terms}
use Rattle.order.specs.Order.{cmp_first, cmp_group, null_in, null_group, sorted}
use Rattle.std.specs.declared.cmp.Ordering.TheVariants.{Equal}
use Rattle.order.proofs.SortedLaws.{all_by}
use Rattle.matching.specs.Moves.{keys_sorted}
use Rattle.matching.specs.Stretches.{between}
use Rattle.matching.proofs.Runs.{Near}
use Rattle.matching.proofs.RestLaws.{run_sorted}
use Rattle.matching.proofs.TermLaws.{sorted_terms}
use Rattle.matching.proofs.WalkLaws.{between_all}

module _ (o : Options) (e : o.by ≡ 0) where
  no_null : (r : List Cell) → null_group o r ≡ false
  unfolding null_in
  no_null r = rw e

  one_group : (r s : List Cell) → cmp_group o r s ≡ Equal
  unfolding cmp_first
  one_group r s = rw e

  plain_keys : (rows : Rows) → sorted o rows ≡ true → keys_sorted o rows ≡ true
  unfolding keys_sorted
  plain_keys [] s = refl
  plain_keys (r ∷ g) s = sym (run_sorted o r g (no_null r) (all_by (Near o r) g (λ i l. (no_null r ∙ sym (no_null (get_or g i [])), λ n. one_group r (get_or g i []))))) ∙ s

pub all_keys : (t : Terms) (codes : Words) (rising : List ℕ) → t.by ≡ 0 → (w n : ℕ) (vs ms : Words) → sorted (with_list t codes rising) (rows_of w n vs ms) ≡ true → keys_sorted (without_list t) (between w 0 n vs ms) ≡ true
all_keys t codes rising e w n vs ms s =
    sorted_terms t codes rising (between w 0 n vs ms) ∙ (rw (between_all w vs ms n) (plain_keys (with_list t codes rising) e (rows_of w n vs ms) s))
