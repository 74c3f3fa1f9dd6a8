-- Cut in sequence, each boundary behind the one before, is cut at the places of the uncut table, where the boundaries ascend. Assumes nothing.
use mathlib.Core.Path.{◌≡◌, refl, sym, ap, ◌∙◌}
use mathlib.Core.Bool.{true}
use mathlib.Core.List.{List, [], ◌∷◌, map}
use Prim.Native.Nat.{ℕ, ◌+◌, ◌-◌}
use native.Mathlib.Omega.{arith}
use lib.ListN.{take, drop}
use lib.Seq.{drop-drop}
use Rattle.frames.specs.Cells.{Cell, Rows}
use Rattle.frames.proofs.BoolLaws.{and-true}
use Rattle.order.specs.declared.options.Options.{Options}
use Rattle.order.specs.Order.{cmp_group, is_less}
use Rattle.order.proofs.OrderLaws.{AtMost, cmp_group_is, less_at_most, at_most}
use Rattle.order.proofs.SortedLaws.{All, all_map}
use Rattle.cutting.specs.boundaries.Boundaries.{cut_at, ascending}
use Rattle.cutting.specs.cutpairs.Cut.{Pair, behind, cut_by}
use Rattle.schedules.specs.cuts.Places.{stretches, places_in, CutAtPlaces}
use Rattle.schedules.proofs.cuts.CutLaws.{is_less_lem, cut_again}

-- One table cut in sequence.
unfoldable in_sequence : Options → Rows → Rows → List Rows
in_sequence o [] rs = rs ∷ []
in_sequence o (g ∷ gs) rs = take (cut_at o g rs) rs ∷ in_sequence o gs (drop (cut_at o g rs) rs)

lefts : (o : Options) (gs : Rows) (p : Pair) → map (λ q. q.left) (cut_by o gs p) ≡ in_sequence o gs p.left
unfolding cut_by in_sequence
lefts o [] p = refl
lefts o (g ∷ gs) p = ap (λ (z : List Rows). take (cut_at o g p.left) p.left ∷ z) (lefts o gs (behind o g p))

rights : (o : Options) (gs : Rows) (p : Pair) → map (λ q. q.right) (cut_by o gs p) ≡ in_sequence o gs p.right
unfolding cut_by in_sequence
rights o [] p = refl
rights o (g ∷ gs) p = ap (λ (z : List Rows). take (cut_at o g p.right) p.right ∷ z) (rights o gs (behind o g p))

module _ (o : Options) where
  -- In a list that ascends the first is at most each of the others.
  first_least : (g : List Cell) (gs : Rows) → ascending o (g ∷ gs) ≡ true → All (λ h. AtMost (cmp_group o) g h) gs × (ascending o gs ≡ true)
  unfolding ascending
  first_least g [] a = (tt, refl)
  first_least g (h ∷ gs) a =
      let p = and-true (is_less (cmp_group o g h)) (ascending o (h ∷ gs)) a in
      let l : AtMost (cmp_group o) g h = less_at_most (cmp_group_is o) g h (is_less_lem (cmp_group o g h) p.0) in
      ((l, all_map (λ k. AtMost (cmp_group o) h k) (λ k. AtMost (cmp_group o) g k) (λ k m. at_most (cmp_group_is o) g h k l m) gs (first_least h gs p.1).0), p.1)

  -- Where the cuts behind row `from` are those of the whole table.
  abbrev Follows : Rows → ℕ → Rows → Type 0
  Follows rs from gs = All (λ g. cut_at o g rs ≡ from + cut_at o g (drop from rs)) gs

  at_places : (rs : Rows) (from : ℕ) (gs : Rows) → ascending o gs ≡ true → Follows rs from gs → in_sequence o gs (drop from rs) ≡ stretches from (places_in o gs rs) rs
  unfolding in_sequence stretches
  at_places rs from [] a f = refl
  at_places rs from (g ∷ gs) a f =
      let s = first_least g gs a in
      let k = cut_at o g (drop from rs) in
      let e : cut_at o g rs - from ≡ k = omega (arith, f.0) in
      let d : drop k (drop from rs) ≡ drop (cut_at o g rs) rs = drop-drop k from rs ∙ ap (λ (n : ℕ). drop n rs) (sym f.0) in
      let n : Follows rs (cut_at o g rs) gs = all_map (λ h. AtMost (cmp_group o) g h) (λ h. cut_at o h rs ≡ cut_at o g rs + cut_at o h (drop (cut_at o g rs) rs)) (λ h l. cut_again o g h l rs) gs s.0 in
      rw (e, d) (ap (λ (z : List Rows). take k (drop from rs) ∷ z) (at_places rs (cut_at o g rs) gs s.1 n))

  whole_follows : (rs gs : Rows) → Follows rs 0 gs
  whole_follows rs [] = tt
  whole_follows rs (g ∷ gs) = (omega arith, whole_follows rs gs)

pub cut_at_places : CutAtPlaces
cut_at_places o gs a p = record {
  left = lefts o gs p ∙ at_places o p.left 0 gs a (whole_follows o p.left gs);
  right = rights o gs p ∙ at_places o p.right 0 gs a (whole_follows o p.right gs);
}
