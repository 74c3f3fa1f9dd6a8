-- `carrying::spread_row` meets its contract. Assumes nothing.
use Rattle.std.specs.Prelude.{Some}
use mathlib.Core.Path.{◌≡◌, refl, sym, ap, subst, ◌∙◌}
use mathlib.Core.Bool.{true}
use Prim.Native.Nat.{ℕ, suc, ◌+◌, ◌-◌, ◌*◌, ◌^◌, ◌≤◌, ◌<◌}
use native.Mathlib.Omega.{arith}
use mir.Syntax.{w64}
use mir.ValLaws.{to_z_pos}
use Rattle.order.specs.options.Options.{without_list, answer_columns}
use Rattle.order.specs.Requires.{cell_at}
use Rattle.matchframe.specs.carrying.Loops.{RightIn}
use Rattle.matchframe.specs.carrying.Spread.{choice_at}
use Rattle.order.proofs.options.ColumnLaws.{shared_within, last_within}
use Rattle.matchframe.proofs.carrying.SpreadLaws.{row_chosen, row_none}
use borrow.Author.Rules.{rules}
use Rattle.matchframe.proofs.carrying.spread_row.Statement.{statement}
use Rattle.matchframe.proofs.carrying.spread_row.Tie as tie

answer-columns-requires : tie.Need-answer_columns-c-requires
answer-columns-requires c κs = search rules

-- the row's cells are there
there : (c : tie.After-answer_columns-c) → let a = c.args in a.i * c.answer_columns-c.result + c.answer_columns-c.result ≤ a.m
there c = let a = c.args in subst (λ (z : ℕ). a.i * z + z ≤ a.m) (sym c.answer_columns-c.ensures) c.requires.there

-- and so are those that all answers have
shared : (c : tie.After-answer_columns-c) → let a = c.args in a.i * c.answer_columns-c.result + suc a.o.carried ≤ a.m
shared c =
    let a = c.args in
    let t = there c in
    let w : suc a.o.carried ≤ c.answer_columns-c.result = subst (λ (z : ℕ). suc a.o.carried ≤ z) (sym c.answer_columns-c.ensures) (shared_within (without_list a.o)) in
    omega arith

-- and where the distance is written, that one
last : (c : tie.After-answer_columns-c) → let a = c.args in a.o.with_distance ≡ true → a.i * c.answer_columns-c.result + suc (suc a.o.carried) ≤ a.m
last c e =
    let a = c.args in
    let t = there c in
    let w : suc (suc a.o.carried) ≤ c.answer_columns-c.result = subst (λ (z : ℕ). suc (suc a.o.carried) ≤ z) (sym c.answer_columns-c.ensures) (last_within (without_list a.o) e) in
    omega arith

-- the place of the left key is that of a word
key_fits : (c : tie.After-answer_columns-c) → let a = c.args in a.i * a.left.width + a.o.by < 2 ^ 64
key_fits c = let l = c.requires.left.values in omega arith

-- the choice is a number
chosen : (c : tie.In-Some) → let a = c.args in choice_at a.m a.out.now a.i ≡ Some c.in-Some.chosen
chosen c = sym c.choice_at-choice.ensures ∙ c.in-Some.is

-- its right row is there
held : (c : tie.In-Some) → let a = c.args in RightIn (without_list a.o) a.right.width a.right.values.now a.right.marks.now a.number (Some c.in-Some.chosen)
held c =
    let s = c in
    let a = s.args in
    subst (RightIn (without_list a.o) a.right.width a.right.values.now a.right.marks.now a.number) (chosen c) s.requires.chosen

mul-k : tie.Need-overflow_mul-k
mul-k c = let t = there c in omega arith

choice-at-requires : tie.Need-choice_at-choice-requires
choice-at-requires c κs = search rules

enum-known-choice : tie.Need-enum_known-choice
enum-known-choice c = search rules

cast-put-cell : tie.Need-overflow_cast-chosen
cast-put-cell c = record { sfits = (held c.before).1 }

put-cell-requires : tie.Need-put_cell-requires
put-cell-requires c κs =
    let e = c in
    let t = shared e.before.before.before in
    record { there = omega arith; room = e.requires.choice.room }

sub-q : tie.Need-overflow_sub-q
sub-q c = (held c.before.before.before).0

mul-q : tie.Need-overflow_mul-q
mul-q c = let h = (held c.before.before.before).2.values in omega arith

add-carry-cells : tie.Need-overflow_add-q
add-carry-cells c = let h = (held c.before.before.before.before).2.values in omega arith

add-carry-cells-2 : tie.Need-overflow_add-q-in-Some
add-carry-cells-2 c = let h = (held c.before.before.before.before).2.values in omega arith

add-carry-cells-3 : tie.Need-overflow_add-k
add-carry-cells-3 c = let t = shared c.before.before.before.before.before.before in omega arith

carry-cells-requires : tie.Need-carry_cells-requires
carry-cells-requires c κs =
    let e = c in
    let t = shared e.before.before.before.before.before.before.before in
    let h = (held c.before.before.before.before.before).2 in (
      record { values = omega (arith, h.values); marks = omega (arith, h.marks) },
      record { within = omega arith; room = omega (arith, c.put_cell.auto.out, e.requires.choice.room) },
    )

mul-a : tie.Need-overflow_mul-a
mul-a c = let l = c.requires.left.values in omega arith

add_a : tie.Need-overflow_add-a
add_a c = record { fits = key_fits c.before.before.before.before.before.before.before.before.before.before }

add-put-last : tie.Need-overflow_add-k-in-Some
add-put-last c =
    let e = c in
    let t = shared e.before.before.before.before.before.before.before.before.before.before in
    omega (arith, t, e.ranges)

add-put-last-2 : tie.Need-overflow_add-k-in-Some-2
add-put-last-2 c =
    let e = c in
    let a = e.args in
    let t : a.i * e.answer_columns-c.result + suc a.o.carried ≤ a.m = shared e.before.before.before.before.before.before.before.before.before.before.before in
    omega arith

put-last-requires : tie.Need-put_last-requires
put-last-requires c κs =
    let e = c in
    let h = (held c.before.before.before.before.before.before.before.before.before.before).2 in (
      e.requires.left,
      record { values = omega (arith, h.values); marks = omega (arith, h.marks) },
      λ d. let t = last e.before.before.before.before.before.before.before.before.before.before.before.before d in record { there = omega arith; room = omega (arith, c.carry_cells.auto.out, c.put_cell.auto.out, e.requires.choice.room) },
    )

enum_told : tie.Need-enum_told-1
enum_told c = search rules

null-cells-requires : tie.Need-null_cells-requires
null-cells-requires c κs =
    let e = c in
    record { within = there e.before.before.before; room = e.requires.choice.room }

same_length : tie.Need-shape_of-out-in-Some
same_length c = search rules

returns : tie.Need-returns-in-Some
returns c =
    let e = c in
    let a = e.args in
    let k = c in
    let r = k.in-Some.chosen in
    let n : a.i * e.answer_columns-c.result ≡ a.i * answer_columns (without_list a.o) = ap (λ (z : ℕ). a.i * z) e.answer_columns-c.ensures in
    let p = row_chosen (without_list a.o) a.number a.right.width a.right.values.now a.right.marks.now (cell_at (a.i * a.left.width + a.o.by) a.left.values.now a.left.marks.now) a.m (a.i * e.answer_columns-c.result) a.out.now (choice_at a.m a.out.now a.i) r
    ((r - a.number) * a.right.width) _ _ _ (chosen k.before.before.before.before.before.before.before.before.before.before.before.before) refl (c.put_cell.ensures ∙ rw (to_z_pos w64 r (held k.before.before.before.before.before.before.before.before.before.before.before.before).1)) c.carry_cells.ensures c.put_last.ensures in
    rw n at p

same-length-2 : tie.Need-shape_of-out-in-None
same-length-2 c = search rules

returns-2 : tie.Need-returns-in-None
returns-2 c =
    let e = c in
    let a = e.args in
    let n : a.i * e.answer_columns-c.result ≡ a.i * answer_columns (without_list a.o) = ap (λ (z : ℕ). a.i * z) e.answer_columns-c.ensures in
    let p = row_none (without_list a.o) a.number a.right.width a.right.values.now a.right.marks.now (cell_at (a.i * a.left.width + a.o.by) a.left.values.now a.left.marks.now) a.m (a.i * e.answer_columns-c.result) a.out.now (choice_at a.m a.out.now a.i)
    e.answer_columns-c.result _ (sym c.choice_at-choice.ensures ∙ c.in-None.is) e.answer_columns-c.ensures c.null_cells.ensures in
    rw n at p

pub spread_row_spec : {M : Type 1} → statement M
spread_row_spec =
    tie.close
    (tie.spec answer-columns-requires mul-k choice-at-requires enum-known-choice cast-put-cell put-cell-requires sub-q mul-q add-carry-cells add-carry-cells-2 add-carry-cells-3 carry-cells-requires mul-a add_a add-put-last add-put-last-2 put-last-requires enum_told null-cells-requires same_length returns same-length-2 returns-2)
