-- The match of a row is that over its group's own notices, counted among them; so is what is written, by the whole-table theorem. Assumes nothing.
use Rattle.std.specs.Prelude.{Option, Some, None}
use mathlib.Core.Path.{◌≡◌, refl, sym, ap, ◌∙◌}
use mathlib.Core.Bool.{Bool, true, false, cond, not}
use mathlib.Core.List.{List, [], ◌∷◌, map}
use Prim.Native.Nat.{ℕ, suc, ◌+◌}
use native.Mathlib.Omega.{arith}
use borrow.Author.Tests.{lt-ltb}
use lib.IntN.{pos}
use lib.ListN.{length, take, get_or, replicate}
use lib.Seq.{take_all}
use Rattle.frames.specs.Cells.{Cell, null, Rows, Words}
use Rattle.order.specs.options.Options.{columns, refused_options}
use Rattle.order.specs.Order.{cmp_group, is_equal, sorted}
use Rattle.order.specs.declared.options.Options.{Options}
use Rattle.std.specs.declared.cmp.Ordering.{Ordering}
use Rattle.std.specs.declared.cmp.Ordering.TheVariants.{Less, Equal, Greater}
use Rattle.order.proofs.OrderLaws.{cmp_group_is, same_right}
use Rattle.frames.proofs.BoolLaws.{and-true}
use Rattle.matching.specs.Match.{nobody, choose, tolerate, too_far, match_table, whole_table, qualifies}
use Rattle.matching.specs.Answer.{answer_row}
use Rattle.matching.specs.Picked.{Picked}
use Rattle.matching.proofs.MayLaws.{may, may_out, is_false}
use Rattle.matching.proofs.PickedLaw.{picked_row}
use Rattle.lists.specs.Lists.{Call, Entry, left_frames, rows_in}
use Rattle.lists.specs.WholeTables.{as_written, due_over, all, lefts, rights, turned_rows}
use Rattle.lists.proofs.WholeTableTheorem.{whole_table_theorem}
use Rattle.lists.specs.isolation.Isolation.{in_group, of_group, written_for, Own, none, place, own_before, own_at, own, own_choice, Alone, Finished, Isolation}
use Rattle.lists.proofs.isolation.PlaceLaws.{choice_by, those, choose_those, tolerate_by}

is_equal_lem : (z : Ordering) → is_equal z ≡ true → z ≡ Equal
is_equal_lem Less e = cc
is_equal_lem Equal e = refl
is_equal_lem Greater e = cc

-- The rows of a group are those for which the test holds.
group_those : (o : Options) (g : List Cell) (rs : Rows) → those (in_group o g) rs ≡ of_group o g rs
unfolding those of_group
group_those o g [] = refl
group_those o g (r ∷ rs) = rw (group_those o g rs)

module _ (o : Options) (g : List Cell) (R : Rows) (x : List Cell) (e : in_group o g x ≡ true) where
  -- x has the group g, so a row of another group may not be chosen for it.
  same : cmp_group o x g ≡ Equal
  same = is_equal_lem (cmp_group o x g) e

  only : (r : List Cell) → in_group o g r ≡ false → may o x r ≡ false
  only r h = is_false (may o x r) (λ t.
      let q : cmp_group o r g ≡ Equal = same_right (cmp_group_is o) r x g same ∙ (may_out o x r t).group in
      let z : ◌≡◌ {A = ℕ} 0 1 = cc in omega arith)

  counted : (j : ℕ) → own_before o g R (0 + j) ≡ 0 + length (those (in_group o g) (take j R))
  counted j = let q : 0 + j ≡ j = omega arith in rw (q, group_those o g (take j R)) (omega arith)

  -- The whole-table match, counted among the group's own notices, is the match over these alone.
  pub own_match : choice_by (own_before o g R) (whole_table o R x) ≡ whole_table o (of_group o g R) x
  unfolding whole_table match_table
  own_match =
      sym (tolerate_by o x (own_before o g R) (choose o x (may o x) nobody 0 R))
      ∙ ap (tolerate o x) (choose_those o x (may o x) (in_group o g) only (own_before o g R) nobody 0 0 R counted
      ∙ ap (choose o x (may o x) nobody 0) (group_those o g R))

  -- The row that it names is one of them.
  own_row : sorted o R ≡ true → (n : ℕ) → whole_table o R x ≡ Some n → own_at o g R (pos n) ≡ place (own_before o g R n)
  unfolding whole_table own_at qualifies
  own_row s n h =
      let p : Picked o R x n = picked_row o R s x n h in
      let q = and-true (may o x (get_or R n [])) (not (too_far o x (get_or R n []))) p.fit in
      let m : cmp_group o (get_or R n []) g ≡ Equal = same_right (cmp_group_is o) (get_or R n []) x g same ∙ (may_out o x (get_or R n []) q.0).group in
      rw (lt-ltb n (length R) p.there, m)

  -- No match is null in its first column, however many there are.
  own_none : (d : Bool) → own o g R (as_written (replicate (cond d (suc (suc o.carried)) (suc o.carried)) null)) ≡ none
  unfolding own
  own_none true = refl
  own_none false = refl

  own_is : sorted o R ≡ true → own o g R (due_over o R x) ≡ own_choice (whole_table o (of_group o g R) x)
  unfolding own answer_row
  own_is s = by (whole_table o R x) refl own_match
    where
      by : (m : Option ℕ) → whole_table o R x ≡ m → choice_by (own_before o g R) m ≡ whole_table o (of_group o g R) x → own o g R (as_written (answer_row o 0 R x m)) ≡ own_choice (whole_table o (of_group o g R) x)
      by None h q = rw (← q) (own_none o.with_distance)
      by (Some n) h q = own_row s n h ∙ ap own_choice q

-- For each left row of the group.
own_all : (o : Options) (g : List Cell) (R : Rows) → sorted o R ≡ true → (xs : Rows)
    → map (own o g R) (written_for o g xs (map (due_over o R) xs)) ≡ map (λ x. own_choice (whole_table o (of_group o g R) x)) (of_group o g xs)
unfolding written_for of_group
own_all o g R s [] = refl
own_all o g R s (x ∷ xs) = by (in_group o g x) refl (own_all o g R s xs)
  where
    rest : List Entry
    rest = written_for o g xs (map (due_over o R) xs)

    alone_for : List Cell → Own
    alone_for x = own_choice (whole_table o (of_group o g R) x)

    by : (t : Bool) → in_group o g x ≡ t → map (own o g R) rest ≡ map alone_for (of_group o g xs)
        → map (own o g R) (cond t (due_over o R x ∷ rest) rest) ≡ map alone_for (cond t (x ∷ of_group o g xs) (of_group o g xs))
    by true e ih = rw (own_is o g R x e s, ih)
    by false e ih = ih

-- What is written is the whole table's, by the whole-table theorem.
pub alone : (o : Options) → refused_options o ≡ false → (g : List Cell) (l r : Words) (calls : List Call) → Alone o g l r calls
alone o allowed g l r calls d =
    ap (λ (m : List Entry). map (own o g (rights o l r calls)) (written_for o g (turned_rows o l r calls) m)) ((whole_table_theorem o allowed l r calls).whole_table d)
    ∙ own_all o g (rights o l r calls) d.1 (turned_rows o l r calls)

-- All frames turned: the rows turned are those accepted.
pub all_turned : (o : Options) (l r : Words) (calls : List Call) → Finished o l r calls → turned_rows o l r calls ≡ lefts o l r calls
all_turned o l r calls f = ap (rows_in (columns o)) (rw f.turned (take_all (length (left_frames (all o l r calls))) (left_frames (all o l r calls)) (omega arith)))

pub isolation : Isolation
isolation = record {
  alone = alone;
  same = λ o a g n l₁ r₁ c₁ f₁ l₂ r₂ c₂ f₂ el er.
      alone o a g l₁ r₁ c₁ f₁.declared
      ∙ rw (all_turned o l₁ r₁ c₁ f₁, all_turned o l₂ r₂ c₂ f₂, el, er) refl
      ∙ sym (alone o a g l₂ r₂ c₂ f₂.declared);
}
