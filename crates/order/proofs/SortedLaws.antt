-- Sorted rows: no row is greater than the next, so none is greater than any later one; parts and joins of sorted rows. Assumes nothing.
use mathlib.Core.Path.{◌≡◌, refl}
use mathlib.Core.Bool.{true, false, not}
use mathlib.Core.List.{List, [], ◌∷◌, ◌++◌}
use Prim.Native.Nat.{ℕ, zero, suc, ◌≤◌, ◌<◌}
use native.Mathlib.Omega.{arith}
use lib.ListN.{length, get_or, take, drop, take-append-drop}
use Rattle.frames.specs.Cells.{Cell, Rows}
use Rattle.order.specs.Order.{cmp_row, is_greater, sorted}
use Rattle.order.specs.declared.options.Options.{Options}
use Rattle.std.specs.declared.cmp.Ordering.{Ordering}
use Rattle.std.specs.declared.cmp.Ordering.TheVariants.{Less, Equal, Greater}
use Rattle.frames.proofs.BoolLaws.{and-true}
use Rattle.order.proofs.OrderLaws.{AtMost, at_most, at_most_refl, cmp_row_is}

-- ---- tests
pub not_greater : (r : Ordering) → not (is_greater r) ≡ true → r ≡ Greater → ⊥
not_greater Less e = λ g. let z : ◌≡◌ {A = ℕ} 0 1 = cc in omega arith
not_greater Equal e = λ g. let z : ◌≡◌ {A = ℕ} 0 1 = cc in omega arith
not_greater Greater e = λ g. let z : ◌≡◌ {A = ℕ} 0 1 = cc in omega arith

pub greater_not : (r : Ordering) → (r ≡ Greater → ⊥) → is_greater r ≡ false
greater_not Less h = refl
greater_not Equal h = refl
greater_not Greater h = absurd (h refl)

-- ---- what holds of each row of a list
abbrev pub All : (List Cell → Type 0) → Rows → Type 0
All P [] = Unit {0}
All P (r ∷ rs) = P r × All P rs

pub all_at : (P : List Cell → Type 0) (rs : Rows) → All P rs → (i : ℕ) → i < length rs → P (get_or rs i [])
all_at P [] h i l = absurd (omega arith)
all_at P (r ∷ rs) h zero l = h.0
all_at P (r ∷ rs) h (suc i) l = all_at P rs h.1 i (omega arith)

pub all_by : (P : List Cell → Type 0) (rs : Rows) → ((i : ℕ) → i < length rs → P (get_or rs i [])) → All P rs
all_by P [] h = tt
all_by P (r ∷ rs) h = (h 0 (omega arith), all_by P rs (λ i l. h (suc i) (omega arith)))

pub all_map : (P Q : List Cell → Type 0) → ((r : List Cell) → P r → Q r) → (rs : Rows) → All P rs → All Q rs
all_map P Q f [] h = tt
all_map P Q f (r ∷ rs) h = (f r h.0, all_map P Q f rs h.1)

pub all_cut : (P : List Cell → Type 0) (A B : Rows) → All P (A ++ B) → All P A × All P B
all_cut P [] B h = (tt, h)
all_cut P (a ∷ A) B h = let c = all_cut P A B h.1 in ((h.0, c.0), c.1)

pub all_join : (P : List Cell → Type 0) (A B : Rows) → All P A → All P B → All P (A ++ B)
all_join P [] B g h = h
all_join P (a ∷ A) B g h = (g.0, all_join P A B g.1 h)

-- ---- each row is at most every later one
module _ (o : Options) where
  abbrev pub Ordered : Rows → Type 0
  Ordered [] = Unit {0}
  Ordered (r ∷ rs) = All (AtMost (cmp_row o) r) rs × Ordered rs

  all_at_most : (q r : List Cell) (rs : Rows) → AtMost (cmp_row o) q r → All (AtMost (cmp_row o) r) rs → All (AtMost (cmp_row o) q) rs
  all_at_most q r [] h a = tt
  all_at_most q r (s ∷ rs) h a = (at_most (cmp_row_is o) q r s h a.0, all_at_most q r rs h a.1)

  pub ordered : (rs : Rows) → sorted o rs ≡ true → Ordered rs
  unfolding sorted
  ordered [] e = tt
  ordered (r ∷ []) e = (tt, tt)
  ordered (r ∷ s ∷ rs) e =
      let p = and-true (not (is_greater (cmp_row o r s))) (sorted o (s ∷ rs)) e in
      let h : AtMost (cmp_row o) r s = not_greater (cmp_row o r s) p.0 in
      let t = ordered (s ∷ rs) p.1 in
      ((h, all_at_most r s rs h t.0), t)

  pub ordered_sorted : (rs : Rows) → Ordered rs → sorted o rs ≡ true
  unfolding sorted
  ordered_sorted [] t = refl
  ordered_sorted (r ∷ []) t = refl
  ordered_sorted (r ∷ s ∷ rs) t = rw (greater_not (cmp_row o r s) t.0.0) (ordered_sorted (s ∷ rs) t.1)

  -- By places.
  pub ordered_at : (rs : Rows) → Ordered rs → (i k : ℕ) → i ≤ k → k < length rs → AtMost (cmp_row o) (get_or rs i []) (get_or rs k [])
  ordered_at [] t i k h l = absurd (omega arith)
  ordered_at (r ∷ rs) t zero zero h l = at_most_refl (cmp_row_is o) r
  ordered_at (r ∷ rs) t zero (suc k) h l = all_at (AtMost (cmp_row o) r) rs t.0 k (omega arith)
  ordered_at (r ∷ rs) t (suc i) zero h l = absurd (omega arith)
  ordered_at (r ∷ rs) t (suc i) (suc k) h l = ordered_at rs t.1 i k (omega arith) (omega arith)

  -- A list cut in two: each part is ordered, and each row of the first is at most each of the second.
  pub ordered_cut : (A B : Rows) → Ordered (A ++ B) → Ordered A × Ordered B × All (λ a. All (AtMost (cmp_row o) a) B) A
  ordered_cut [] B t = (tt, t, tt)
  ordered_cut (a ∷ A) B t =
      let c = ordered_cut A B t.1 in
      let d = all_cut (AtMost (cmp_row o) a) A B t.0 in
      ((d.0, c.0), c.1, (d.1, c.2))

  pub sorted_cut : (A B : Rows) → sorted o (A ++ B) ≡ true → (sorted o A ≡ true) × (sorted o B ≡ true) × All (λ a. All (AtMost (cmp_row o) a) B) A
  sorted_cut A B e =
      let c = ordered_cut A B (ordered (A ++ B) e) in
      (ordered_sorted A c.0, ordered_sorted B c.1, c.2)

  pub sorted_drop : (n : ℕ) (rs : Rows) → sorted o rs ≡ true → sorted o (drop n rs) ≡ true
  sorted_drop n rs e = (sorted_cut (take n rs) (drop n rs) (rw (take-append-drop n rs) e)).1

  pub sorted_take : (n : ℕ) (rs : Rows) → sorted o rs ≡ true → sorted o (take n rs) ≡ true
  sorted_take n rs e = (sorted_cut (take n rs) (drop n rs) (rw (take-append-drop n rs) e)).0

  pub sorted_at : (rs : Rows) → sorted o rs ≡ true → (i k : ℕ) → i ≤ k → k < length rs → AtMost (cmp_row o) (get_or rs i []) (get_or rs k [])
  sorted_at rs e = ordered_at rs (ordered rs e)
