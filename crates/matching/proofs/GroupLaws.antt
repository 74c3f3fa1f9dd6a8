-- One right cursor serves a frame: on sorted rows the matches by runs are those over all held rows of equal group; and every left row gets one answer, sorted or not.
-- Assumes nothing.
use Rattle.std.specs.Prelude.{Option}
use mathlib.Core.Path.{◌≡◌, refl, sym, ap, ◌∙◌}
use mathlib.Core.Bool.{Bool, true, false, not, ◌&&◌}
use mathlib.Core.List.{List, [], ◌∷◌, ◌++◌, map, map-append, flatten}
use Prim.Native.Nat.{ℕ, ◌+◌}
use native.Mathlib.Omega.{arith}
use borrow.Author.Tests.{eqb-true}
use lib.Dec.{eqb}
use lib.ListN.{length, get_or, length-append, length-map}
use Rattle.frames.specs.Cells.{Cell, Rows}
use Rattle.order.specs.Order.{cmp_first, cmp_group, is_less, is_equal, null_in, null_group, sorted}
use Rattle.order.proofs.OrderLaws.{AtMost, cmp_group_is, equal_at_most, less_at_most, less_greater, greater_less, less_then, then_less, not_less, same_right}
use Rattle.order.proofs.SortedLaws.{All, all_map, all_by, all_join}
use Rattle.order.specs.declared.options.Options.{Options}
use Rattle.std.specs.declared.cmp.Ordering.{Ordering}
use Rattle.std.specs.declared.cmp.Ordering.TheVariants.{Less, Equal, Greater}
use Rattle.matching.specs.Match.{fits, nobody, choose, same_group, match_in, match_table}
use Rattle.matching.specs.Groups.{runs, Cursor, head_of, passes, pass, used, by_runs, match_frame}
use Rattle.matching.proofs.ChoiceLaws.{cond_ind, choose_same, choose_append, choose_dead, pick_ind}
use Rattle.matching.proofs.Runs.{is_equal_lem, or-false, Near, run_near, Behind, Parted, runs_flat, sorted_parted}

-- ---- tests and maps
is_less_lem : (c : Ordering) → is_less c ≡ true → c ≡ Less
is_less_lem Less e = refl
is_less_lem Equal e = cc
is_less_lem Greater e = cc

less_is : (c : Ordering) → is_less c ≡ false → c ≡ Less → ⊥
less_is c e h = let z : ◌≡◌ {A = ℕ} 0 1 = cc in omega arith

and-false : (a b : Bool) → b ≡ false → (a && b) ≡ false
and-false true b e = e
and-false false b e = refl

only_greater : (c : Ordering) → is_less c ≡ false → is_equal c ≡ false → c ≡ Greater
only_greater Less h e = cc
only_greater Equal h e = cc
only_greater Greater h e = refl

all_of : (P : List Cell → Type 0) → ((r : List Cell) → P r) → (rs : Rows) → All P rs
all_of P h rs = all_by P rs (λ i l. h (get_or rs i []))

pub map_same : (f g : List Cell → Option ℕ) (rs : Rows) → All (λ x. f x ≡ g x) rs → map f rs ≡ map g rs
map_same f g [] h = refl
map_same f g (r ∷ rs) h = rw (h.0, map_same f g rs h.1)

map_parts : (f g : List Cell → Option ℕ) (A B : Rows) (cs : List (Option ℕ)) → All (λ x. f x ≡ g x) A → cs ≡ map g B → map f A ++ cs ≡ map g (A ++ B)
map_parts f g A B cs h e = rw (map-append g A B, map_same f g A h, e)

length_parts : (f : List Cell → Option ℕ) (A B : Rows) (cs : List (Option ℕ)) → length cs ≡ length B → length (map f A ++ cs) ≡ length (A ++ B)
length_parts f A B cs e = simp (length-append, length-map, e)

-- ---- every left row gets one answer
module _ (o : Options) where
  runs_length : (i : ℕ) (gs ls : List Rows) → length (by_runs o i gs ls) ≡ length (flatten ls)
  unfolding by_runs flatten
  runs_length i gs [] = refl
  runs_length i gs (l ∷ ls) =
      pick_ind (λ (z : List (Option ℕ)). length z ≡ length (l ++ flatten ls)) (null_group o (head_of l))
      (λ e. length_parts (match_in o i []) l (flatten ls) (by_runs o i gs ls) (runs_length i gs ls))
      (λ e.
      let c = pass o (head_of l) i gs in
      length_parts (match_in o c.at (used o (head_of l) c.rest)) l (flatten ls) (by_runs o c.at c.rest ls) (runs_length c.at c.rest ls))

pub frame_length : (o : Options) (i : ℕ) (held left : Rows) → length (match_frame o i held left) ≡ length left
unfolding match_frame
frame_length o i held left =
    cond_ind (λ (z : List (Option ℕ)). length z ≡ length left) (eqb o.by 0)
    (λ e. length-map left (match_in o i held))
    (λ e. runs_length o i (runs o held) (runs o left) ∙ ap length (runs_flat o left))

-- ---- rows that are dead for x: not of its group, or of none
module _ (o : Options) (x : List Cell) where
  abbrev Dead : List Cell → Type 0
  Dead r = same_group o x r ≡ false

  dead_null : (r : List Cell) → null_group o r ≡ true → Dead r
  dead_null r n = rw (n, and-false (not (null_group o x)) false refl)

  dead_apart : (r : List Cell) → is_equal (cmp_group o r x) ≡ false → Dead r
  dead_apart r e = and-false (not (null_group o x) && not (null_group o r)) (is_equal (cmp_group o r x)) e

  dead_less : (r : List Cell) → cmp_group o r x ≡ Less → Dead r
  dead_less r e = dead_apart r (rw e)

  dead_more : (r : List Cell) → cmp_group o x r ≡ Less → Dead r
  dead_more r e = dead_apart r (rw (less_greater (cmp_group_is o) x r e))

  -- Dead rows may be left out before and behind; where no row is dead the group is not asked.
  abbrev may : List Cell → Bool
  may r = same_group o x r && fits o x r

  may_dead : (rs : Rows) → All Dead rs → All (λ r. may r ≡ false) rs
  may_dead = all_map Dead (λ r. may r ≡ false) (λ r d. rw d)

  table_pass : (i : ℕ) (A B : Rows) → All Dead A → match_table o i (A ++ B) x ≡ match_table o (i + length A) B x
  unfolding match_table
  table_pass i A B d = rw (choose_append o x may nobody i A B, choose_dead o x may nobody i A (may_dead A d))

  table_stop : (i : ℕ) (A B : Rows) → All Dead B → match_table o i (A ++ B) x ≡ match_table o i A x
  unfolding match_table
  table_stop i A B d =
      rw (choose_append o x may nobody i A B, choose_dead o x may (choose o x may nobody i A) (i + length A) B (may_dead B d))

  table_in : (i : ℕ) (A : Rows) → All (λ r. same_group o x r ≡ true) A → match_in o i A x ≡ match_table o i A x
  unfolding match_in match_table
  table_in i A h = rw (choose_same o x (fits o x) may nobody i A (all_map (λ r. same_group o x r ≡ true) (λ r. fits o x r ≡ may r) (λ r s. rw s) A h))

  table_none : (i j : ℕ) (A : Rows) → All Dead A → match_in o i [] x ≡ match_table o j A x
  unfolding match_in match_table choose
  table_none i j A d = rw (choose_dead o x may nobody j A (may_dead A d))

  -- A row of no group finds none.
  null_none : (i : ℕ) (A : Rows) → null_group o x ≡ true → match_in o i [] x ≡ match_table o i A x
  null_none i A n = table_none i i A (all_of Dead (λ r. rw n) A)

-- ---- the cursor
module _ (o : Options) where
  -- A run that is passed for x is dead for x and for every row that is not before it.
  passed_dead : (x y r : List Cell) (g : Rows) → passes o x g ≡ true → AtMost (cmp_group o) x y → Near o (head_of g) r → Dead o y r
  unfolding passes
  passed_dead x y r g e h n = go (null_group o (head_of g)) refl
    where
      go : (a : Bool) → null_group o (head_of g) ≡ a → Dead o y r
      go true a = dead_null o y r (sym n.0 ∙ a)
      go false a =
          let l : cmp_group o (head_of g) x ≡ Less = is_less_lem (cmp_group o (head_of g) x) (rw a at e) in
          dead_less o y r (less_then (cmp_group_is o) r x y (sym ((cmp_group_is o).same (head_of g) r x (n.1 a)) ∙ l) h)

  -- The runs that the cursor keeps are parts as before, and the first of them is not passed.
  abbrev Stays : List Cell → List Rows → Type 0
  Stays x [] = Unit {0}
  Stays x (g ∷ gs) = passes o x g ≡ false

  pass_stays : (x : List Cell) (i : ℕ) (gs : List Rows) → Parted o gs → Parted o (pass o x i gs).rest × Stays x (pass o x i gs).rest
  unfolding pass
  pass_stays x i [] p = (tt, tt)
  pass_stays x i (g ∷ gs) p =
      pick_ind (λ (c : Cursor). Parted o c.rest × Stays x c.rest) (passes o x g) (λ e. pass_stays x (i + length g) gs p.2) (λ e. (p, e))

  -- What it passes matters to no row that is not before x.
  pass_table : (x y : List Cell) → AtMost (cmp_group o) x y → (i : ℕ) (gs : List Rows) → Parted o gs
      → match_table o (pass o x i gs).at (flatten (pass o x i gs).rest) y ≡ match_table o i (flatten gs) y
  unfolding pass flatten
  pass_table x y h i [] p = refl
  pass_table x y h i (g ∷ gs) p =
      pick_ind (λ (c : Cursor). match_table o c.at (flatten c.rest) y ≡ match_table o i (g ++ flatten gs) y) (passes o x g)
      (λ e.
      let d = all_map (Near o (head_of g)) (Dead o y) (λ r. passed_dead x y r g e h) g (run_near o g p.0) in
      pass_table x y h (i + length g) gs p.2 ∙ sym (table_pass o y i g (flatten gs) d))
      (λ e. refl)

  -- For a row of x's group, which is not null, the run that is used tells as much as all that are kept.
  module _ (x y : List Cell) (n : null_group o x ≡ false) (k : Near o x y) where
    greater_dead : (r : List Cell) → cmp_group o x r ≡ Less → Dead o y r
    greater_dead r l = dead_more o y r (sym ((cmp_group_is o).same x y r (k.1 n)) ∙ l)

    equal_alive : (s r : List Cell) → null_group o s ≡ false → cmp_group o s x ≡ Equal → Near o s r → same_group o y r ≡ true
    equal_alive s r a e q =
        let c : cmp_group o r y ≡ Equal = sym ((cmp_group_is o).same s r y (q.1 a)) ∙ same_right (cmp_group_is o) s x y (k.1 n) ∙ e in
        rw (sym k.0 ∙ n, sym q.0 ∙ a, c)

    used_table : (i : ℕ) (gs : List Rows) → Parted o gs → Stays x gs → match_in o i (used o x gs) y ≡ match_table o i (flatten gs) y
    unfolding used flatten passes
    used_table i [] p t = table_none o y i i [] tt
    used_table i (g ∷ gs) p t =
        let s = head_of g in
        let b = or-false (null_group o s) (is_less (cmp_group o s x)) t in
        let m = run_near o g p.0 in
        let h : AtMost (cmp_group o) x s = not_less (cmp_group_is o) s x (less_is (cmp_group o s x) b.1) in
        let d = all_map (Behind o s) (Dead o y) (λ r f. greater_dead r (then_less (cmp_group_is o) x s r h (f b.0))) (flatten gs) p.1 in
        cond_ind (λ z. match_in o i z y ≡ match_table o i (g ++ flatten gs) y) (is_equal (cmp_group o s x))
        (λ e.
        let a = all_map (Near o s) (λ r. same_group o y r ≡ true) (λ r. equal_alive s r b.0 (is_equal_lem (cmp_group o s x) e)) g m in
        table_in o y i g a ∙ sym (table_stop o y i g (flatten gs) d))
        (λ e.
        let l = greater_less (cmp_group_is o) s x (only_greater (cmp_group o s x) b.1 e) in
        let a = all_map (Near o s) (Dead o y) (λ r q. greater_dead r (same_right (cmp_group_is o) x s r (q.1 b.0) ∙ l)) g m in
        table_none o y i i (g ++ flatten gs) (all_join (Dead o y) g (flatten gs) a d))

  -- ---- the frame: over parts on both sides, from any place of the cursor; no row that was passed is asked for again
  by_runs_lem : (i : ℕ) (gs ls : List Rows) → Parted o gs → Parted o ls → by_runs o i gs ls ≡ map (match_table o i (flatten gs)) (flatten ls)
  unfolding by_runs flatten
  by_runs_lem i gs [] p q = refl
  by_runs_lem i gs (l ∷ ls) p q =
      let x = head_of l in
      let near = run_near o l q.0 in
      let all = match_table o i (flatten gs) in
      pick_ind (λ z. z ≡ map all (l ++ flatten ls)) (null_group o x)
      (λ e.
      let none = match_in o i [] in
      let here = all_map (Near o x) (λ y. none y ≡ all y) (λ y k. null_none o y i (flatten gs) (sym k.0 ∙ e)) l near in
      map_parts none all l (flatten ls) (by_runs o i gs ls) here (by_runs_lem i gs ls p q.2))
      (λ e.
      let c = pass o x i gs in
      let s = pass_stays x i gs p in
      let run = match_in o c.at (used o x c.rest) in
      let kept = match_table o c.at (flatten c.rest) in
      let passed : (y : List Cell) → AtMost (cmp_group o) x y → kept y ≡ all y = λ y h. pass_table x y h i gs p in
      let here =
      all_map (Near o x) (λ y. run y ≡ all y)
      (λ y k. used_table x y e k c.at c.rest s.0 s.1 ∙ passed y (equal_at_most (cmp_group_is o) x y (k.1 e))) l near in
      let later = all_map (Behind o x) (λ y. kept y ≡ all y) (λ y f. passed y (less_at_most (cmp_group_is o) x y (f e))) (flatten ls) q.1 in
      map_parts run all l (flatten ls) (by_runs o c.at c.rest ls) here
      (by_runs_lem c.at c.rest ls s.0 q.2 ∙ map_same kept all (flatten ls) later))

-- Without by-columns all rows are of one group.
one_group : (o : Options) → o.by ≡ 0 → (x r : List Cell) → same_group o x r ≡ true
unfolding cmp_first null_in
one_group o e x r = rw e

pub frame_match : (o : Options) (i : ℕ) (held left : Rows) → sorted o held ≡ true → sorted o left ≡ true
    → match_frame o i held left ≡ map (match_table o i held) left
unfolding match_frame
frame_match o i held left h l =
    cond_ind (λ z. z ≡ map (match_table o i held) left) (eqb o.by 0)
    (λ e.
    map_same (match_in o i held) (match_table o i held) left
    (all_of (λ x. match_in o i held x ≡ match_table o i held x) (λ x. table_in o x i held (all_of (λ r. same_group o x r ≡ true) (one_group o (eqb-true o.by 0 e) x) held)) left))
    (λ e. rw (runs_flat o held, runs_flat o left) at (by_runs_lem o i (runs o held) (runs o left) (sorted_parted o held h) (sorted_parted o left l)))
