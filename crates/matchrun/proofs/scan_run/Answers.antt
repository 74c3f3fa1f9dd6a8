-- `scan_run` meets its contract. Assumes nothing.
use mathlib.Core.Path.{◌≡◌, sym, ◌∙◌}
use Prim.Native.Nat.{◌+◌, ◌*◌, ◌≤◌}
use native.Mathlib.Omega.{arith}
use Rattle.order.specs.options.Options.{without_list}
use Rattle.order.proofs.RowLaws.{row_room}
use Rattle.matching.specs.Match.{match_in}
use Rattle.matching.specs.Stretches.{between}
use Rattle.matching.proofs.WalkLaws.{between_length}
use Rattle.matching.proofs.BestLaws.{match_small}
use Rattle.matching.proofs.LayLaws.{lay_more, lay_done}
use Rattle.matchrun.proofs.scan_run.Goals as goal

-- row i ends within the left rows
room : (c : goal.In-loop-i) → let a = c.args in c.loop-i.i * a.left.width + a.left.width ≤ a.to * a.left.width
room c = let a = c.args in row_room c.loop-i.i a.to a.left.width c.loop-i-test.true

pub overflow_mul-i : goal.overflow_mul-i
overflow_mul-i c = let r = room c in omega (arith, c.requires.left)

pub match_row-choice-requires : goal.match_row-choice-requires
match_row-choice-requires c =
    let r = room c in
    let p = c.requires in
    let l = p.left in
    record { left = record { few = l.few; values = omega arith; marks = omega arith }; right = p.right; upward = p.run; numbers = p.numbers }

pub put-requires : goal.put-requires
put-requires c =
    let l = c.loop-i in
    let a = c.args in
    let t = c.loop-i-test.true in
    let p = c.requires in
    let choice = c.match_row-choice.ensures a.left.width p.left.wide in
    let e = between_length a.right.width a.right.values.now a.right.marks.now a.at a.end in
    (record { there = omega (arith, p.within); room = omega (arith, p.room, l.invariant.kept) }, rw choice (match_small (without_list a.o) (a.number + a.at) _ _ (omega (arith, p.run, p.numbers))))

pub loop-i-preserved : goal.loop-i-preserved
loop-i-preserved c =
    let l = c.loop-i in
    let a = c.args in
    let f = match_in (without_list a.o) (a.number + a.at) (between a.right.width a.at a.end a.right.values.now a.right.marks.now) in
    let choice = c.match_row-choice.ensures a.left.width c.requires.left.wide in
    record {
      kept = c.put.auto.out ∙ l.invariant.kept;
      laid = l.invariant.laid ∙ lay_more a.m f a.left.width a.left.values.now a.left.marks.now l.i a.to l.out c.loop-i-test.true ∙ rw (c.put.ensures, choice);
    }

pub returns : goal.returns
returns c =
    let l = c.loop-i in
    let a = c.args in
    let f = match_in (without_list a.o) (a.number + a.at) (between a.right.width a.at a.end a.right.values.now a.right.marks.now) in
    let e : l.i ≡ a.to = omega (arith, c.loop-i-test.false, l.auto.i, c.requires.upward) in
    sym (l.invariant.laid ∙ rw e (lay_done a.m f a.left.width a.left.values.now a.left.marks.now a.to l.out))
