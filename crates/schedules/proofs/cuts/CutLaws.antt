-- What stands before a cut and behind it, and what the rows on the other side are to a left row: nothing. Assumes nothing.
use Rattle.std.specs.Prelude.{Option, Some, None}
use mathlib.Core.Path.{◌≡◌, refl, sym, ap, ◌∙◌}
use mathlib.Core.Bool.{Bool, true, false, cond}
use mathlib.Core.List.{List, [], ◌∷◌, ◌++◌}
use Prim.Native.Nat.{ℕ, suc, ◌+◌}
use native.Mathlib.Omega.{arith}
use lib.ListN.{length, take, drop, take-append-drop}
use lib.Seq.{length-take-le}
use Rattle.frames.specs.Cells.{Cell, Rows}
use Rattle.order.specs.Order.{cmp_group, cmp_row, is_less, sorted}
use Rattle.order.specs.declared.options.Options.{Options}
use Rattle.std.specs.declared.cmp.Ordering.{Ordering}
use Rattle.std.specs.declared.cmp.Ordering.TheVariants.{Less, Equal, Greater}
use Rattle.order.proofs.OrderLaws.{AtMost, cmp_group_is, not_less, not_both, at_most, less_then, equal_at_most, equal_flip, group_at_most}
use Rattle.order.proofs.SortedLaws.{All, all_map, Ordered, ordered}
use Rattle.matching.specs.Match.{Hit, nobody, meet, choose, tolerate, match_table, whole_table}
use Rattle.matching.proofs.ChoiceLaws.{choose_append, choose_dead}
use Rattle.matching.proofs.MayLaws.{may, may_out, is_false}
use Rattle.lists.proofs.isolation.PlaceLaws.{hit_by, choice_by, tolerate_by, step_by}
use Rattle.cutting.specs.boundaries.Boundaries.{cut_at}
use Rattle.cutting.proofs.boundaries.PlaceLaws.{less_is, cut_within}
use Rattle.schedules.specs.cuts.Appended.{later}

pub is_less_lem : (z : Ordering) → is_less z ≡ true → z ≡ Less
is_less_lem Less e = refl
is_less_lem Equal e = cc
is_less_lem Greater e = cc

module _ (o : Options) (g : List Cell) where
  -- One step of a cut.
  abbrev cut_on : Bool → Rows → ℕ
  cut_on t rs = elim t [ true ↦ suc (cut_at o g rs) | false ↦ 0 ]

  -- Rows before the cut are of lesser groups.
  pub cut_before : (rs : Rows) → All (λ r. cmp_group o r g ≡ Less) (take (cut_at o g rs) rs)
  unfolding cut_at
  cut_before [] = tt
  cut_before (r ∷ rs) = by (is_less (cmp_group o r g)) refl (cut_before rs)
    where
      by : (t : Bool) → is_less (cmp_group o r g) ≡ t → All (λ r. cmp_group o r g ≡ Less) (take (cut_at o g rs) rs) → All (λ r. cmp_group o r g ≡ Less) (take (cut_on t rs) (r ∷ rs))
      by true e h = (is_less_lem (cmp_group o r g) e, h)
      by false e h = tt

  -- Rows behind it are not, where the table is sorted.
  pub cut_behind : (rs : Rows) → Ordered o rs → All (λ r. AtMost (cmp_group o) g r) (drop (cut_at o g rs) rs)
  unfolding cut_at
  cut_behind [] s = tt
  cut_behind (r ∷ rs) s = by (is_less (cmp_group o r g)) refl (cut_behind rs s.1)
    where
      by : (t : Bool) → is_less (cmp_group o r g) ≡ t → All (λ r. AtMost (cmp_group o) g r) (drop (cut_at o g rs) rs) → All (λ r. AtMost (cmp_group o) g r) (drop (cut_on t rs) (r ∷ rs))
      by true e h = h
      by false e h =
          let f : AtMost (cmp_group o) g r = not_less (cmp_group_is o) r g (λ l. let q = less_is (cmp_group o r g) l in let z : ◌≡◌ {A = ℕ} 0 1 = cc in omega arith) in
          (f, all_map (AtMost (cmp_row o) r) (λ q. AtMost (cmp_group o) g q) (λ q l. at_most (cmp_group_is o) g r q f (group_at_most o r q l)) rs s.0)

  -- For a left row before the cut no right row behind it may be chosen, and the other way round.
  pub not_behind : (x r : List Cell) → cmp_group o x g ≡ Less → AtMost (cmp_group o) g r → may o x r ≡ false
  not_behind x r l h = is_false (may o x r) (λ t.
      not_both (cmp_group_is o) x r (less_then (cmp_group_is o) x g r l h) (equal_at_most (cmp_group_is o) r x (may_out o x r t).group))

  pub not_before : (x r : List Cell) → AtMost (cmp_group o) g x → cmp_group o r g ≡ Less → may o x r ≡ false
  not_before x r h l = is_false (may o x r) (λ t.
      not_both (cmp_group_is o) r x (less_then (cmp_group_is o) r g x l h) (equal_at_most (cmp_group_is o) x r (equal_flip (cmp_group_is o) r x (may_out o x r t).group)))

cut_on_less : (o : Options) (h r : List Cell) (rs : Rows) → cmp_group o r h ≡ Less → cut_at o h (r ∷ rs) ≡ suc (cut_at o h rs)
unfolding cut_at
cut_on_less o h r rs l = ap (λ (t : Bool). cut_on o h t rs) (less_is (cmp_group o r h) l)

-- A later boundary cuts what is behind an earlier one where it cuts the whole table.
pub cut_again : (o : Options) (g h : List Cell) → AtMost (cmp_group o) g h → (rs : Rows) → cut_at o h rs ≡ cut_at o g rs + cut_at o h (drop (cut_at o g rs) rs)
unfolding cut_at
cut_again o g h l [] = refl
cut_again o g h l (r ∷ rs) = by (is_less (cmp_group o r g)) refl (cut_again o g h l rs)
  where
    by : (t : Bool) → is_less (cmp_group o r g) ≡ t → cut_at o h rs ≡ cut_at o g rs + cut_at o h (drop (cut_at o g rs) rs)
        → cut_at o h (r ∷ rs) ≡ cut_on o g t rs + cut_at o h (drop (cut_on o g t rs) (r ∷ rs))
    by true e ih = cut_on_less o h r rs (less_then (cmp_group_is o) r g h (is_less_lem (cmp_group o r g) e) l) ∙ ap suc ih ∙ omega arith
    by false e ih = omega arith

-- ---- rows counted from a later place
module _ (o : Options) (x : List Cell) where
  choose_later : (may : List Cell → Bool) (n : ℕ) (c : Hit) (i : ℕ) (rs : Rows) → hit_by (λ k. n + k) (choose o x may c i rs) ≡ choose o x may (hit_by (λ k. n + k) c) (n + i) rs
  unfolding choose
  choose_later may n c i [] = refl
  choose_later may n c i (r ∷ rs) =
      choose_later may n (cond (may r) (meet o x i r c) c) (suc i) rs
      ∙ (let q : n + suc i ≡ suc (n + i) = omega arith in rw (q, step_by o x (λ k. n + k) (may r) i r c))

  later_is : (n : ℕ) (m : Option ℕ) → choice_by (λ k. n + k) m ≡ later n m
  later_is n (Some i) = refl
  later_is n None = refl

  pub match_later : (n : ℕ) (rs : Rows) → match_table o n rs x ≡ later n (whole_table o rs x)
  unfolding match_table whole_table
  match_later n rs =
      let q : n + 0 ≡ n = omega arith in
      rw (← later_is n (tolerate o x (choose o x (may o x) nobody 0 rs)), ← tolerate_by o x (λ k. n + k) (choose o x (may o x) nobody 0 rs), choose_later (may o x) n nobody 0 rs, q)

-- ---- the match over a table and over its half
module _ (o : Options) (g : List Cell) (R : Rows) (s : sorted o R ≡ true) (x : List Cell) where
  parts : R ≡ take (cut_at o g R) R ++ drop (cut_at o g R) R
  parts = sym (take-append-drop (cut_at o g R) R)

  pub match_before : cmp_group o x g ≡ Less → whole_table o R x ≡ whole_table o (take (cut_at o g R) R) x
  unfolding whole_table match_table
  match_before l =
      let A = take (cut_at o g R) R in
      let B = drop (cut_at o g R) R in
      ap (tolerate o x) (ap (choose o x (may o x) nobody 0) parts ∙ choose_append o x (may o x) nobody 0 A B
      ∙ choose_dead o x (may o x) (choose o x (may o x) nobody 0 A) (0 + length A) B (all_map (λ r. AtMost (cmp_group o) g r) (λ r. may o x r ≡ false) (λ r h. not_behind o g x r l h) B (cut_behind o g R (ordered o R s))))

  pub match_behind : AtMost (cmp_group o) g x → whole_table o R x ≡ later (cut_at o g R) (whole_table o (drop (cut_at o g R) R) x)
  unfolding whole_table match_table
  match_behind h =
      let A = take (cut_at o g R) R in
      let B = drop (cut_at o g R) R in
      let n : 0 + length A ≡ cut_at o g R = let q = length-take-le (cut_at o g R) R (cut_within o g R) in omega arith in
      ap (tolerate o x) (ap (choose o x (may o x) nobody 0) parts ∙ choose_append o x (may o x) nobody 0 A B
      ∙ rw (choose_dead o x (may o x) nobody 0 A (all_map (λ r. cmp_group o r g ≡ Less) (λ r. may o x r ≡ false) (λ r l. not_before o g x r h l) A (cut_before o g R)), n) refl)
      ∙ match_later o x (cut_at o g R) B
