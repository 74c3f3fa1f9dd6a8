-- On a sorted table the rows of a group and key stand together: a row is corrected exactly where the next row corrects it, and the last row of its group
-- and key is then that of the next row. So one walk from the last row back lists all notices. Assumes nothing.
use mathlib.Core.Path.{◌≡◌, refl, ap}
use mathlib.Core.Bool.{Bool, true, false, cond, ◌||◌}
use mathlib.Core.List.{List, [], ◌∷◌}
use Prim.Native.Nat.{ℕ, suc}
use Rattle.frames.specs.Cells.{Cell, Rows}
use Rattle.order.specs.Order.{cmp_row, is_equal}
use Rattle.order.specs.declared.options.Options.{Options}
use Rattle.std.specs.declared.cmp.Ordering.{Ordering}
use Rattle.std.specs.declared.cmp.Ordering.TheVariants.{Less, Equal, Greater}
use Rattle.order.proofs.OrderLaws.{AtMost, cmp_row_is, same_right, at_most_equal, equal_at_most, at_most}
use Rattle.order.proofs.SortedLaws.{All, Ordered}
use Rattle.matching.proofs.MayLaws.{is_false, never}
use Rattle.books.specs.Standing.{corrects, corrected, last_of}

is_equal_lem : (z : Ordering) → is_equal z ≡ true → z ≡ Equal
is_equal_lem Less e = cc
is_equal_lem Equal e = refl
is_equal_lem Greater e = cc

module _ (o : Options) (r s : List Cell) where
  -- Behind a next row that does not correct r, none does.
  none_behind : AtMost (cmp_row o) r s → corrects o s r ≡ false → (t : List Cell) → AtMost (cmp_row o) s t → corrects o t r ≡ false
  none_behind h e t k =
      is_false (corrects o t r) (λ d.
      let q : cmp_row o t r ≡ Equal = is_equal_lem (cmp_row o t r) d in
      let p : AtMost (cmp_row o) s r = at_most (cmp_row_is o) s t r k (equal_at_most (cmp_row_is o) t r q) in
      never (corrects o s r) (ap is_equal (at_most_equal (cmp_row_is o) s r p h)) e)

  corrected_none : (rs : Rows) → All (λ t. corrects o t r ≡ false) rs → corrected o r rs ≡ false
  unfolding corrected
  corrected_none [] h = refl
  corrected_none (t ∷ rs) h = rw h.0 (corrected_none rs h.1)

  last_none : (n i : ℕ) (rs : Rows) → All (λ t. corrects o t r ≡ false) rs → last_of o r n i rs ≡ n
  unfolding last_of
  last_none n i [] h = refl
  last_none n i (t ∷ rs) h = rw h.0 (last_none n (suc i) rs h.1)

  all_behind : AtMost (cmp_row o) r s → corrects o s r ≡ false → (rs : Rows) → All (AtMost (cmp_row o) s) rs → All (λ t. corrects o t r ≡ false) rs
  all_behind h e [] a = tt
  all_behind h e (t ∷ rs) a = (none_behind h e t a.0, all_behind h e rs a.1)

  -- Rows of one group and key have the same last row.
  last_alike : corrects o s r ≡ true → (n i : ℕ) (rs : Rows) → last_of o r n i rs ≡ last_of o s n i rs
  unfolding last_of
  last_alike e n i [] = refl
  last_alike e n i (t ∷ rs) =
      let q : corrects o t r ≡ corrects o t s = ap is_equal (same_right (cmp_row_is o) t s r (is_equal_lem (cmp_row o s r) e)) in
      rw q (last_alike e (cond (corrects o t s) i n) (suc i) rs)

  module _ (rs : Rows) (t : Ordered o (r ∷ s ∷ rs)) where
    pub corrected_next : corrected o r (s ∷ rs) ≡ corrects o s r
    unfolding corrected
    corrected_next = by (corrects o s r) refl
      where
        by : (b : Bool) → corrects o s r ≡ b → (b || corrected o r rs) ≡ b
        by true e = refl
        by false e = corrected_none rs (all_behind t.0.0 e rs t.1.0)

    pub last_next : (i : ℕ) → last_of o r i (suc i) (s ∷ rs) ≡ cond (corrects o s r) (last_of o s (suc i) (suc (suc i)) rs) i
    unfolding last_of
    last_next i = by (corrects o s r) refl
      where
        by : (b : Bool) → corrects o s r ≡ b → last_of o r (cond b (suc i) i) (suc (suc i)) rs ≡ cond b (last_of o s (suc i) (suc (suc i)) rs) i
        by true e = last_alike e (suc i) (suc (suc i)) rs
        by false e = last_none i (suc (suc i)) rs (all_behind t.0.0 e rs t.1.0)
