-- `planwalk::walk_frames` meets its contract. Assumes nothing.
use Prim.Native.Nat.{◌+◌, ◌-◌}
use native.Mathlib.Omega.{arith}
use lib.ListN.{length, drop_of_length-le}
use Rattle.frames.proofs.WordLaws.{rows_length}
use Rattle.order.specs.options.Options.{with_list}
use Rattle.planning.specs.Heights.{total, heights_of}
use Rattle.planning.proofs.HeightLaws.{heights_count}
use Rattle.planning.specs.planwalk.Walk.{left_rows, right_rows, Stands}
use Rattle.planning.proofs.planwalk.WalkLaws.{starts, ends}
use Rattle.planning.proofs.planwalk.walk_frames.Statement.{statement}
use Rattle.planning.proofs.planwalk.walk_frames.Tie as tie

abbrev invariant-loop : tie.invariant-loop-s
invariant-loop left hl right hr rules s₀ s = Stands (with_list rules.terms rules.codes.now rules.rising.now) (heights_of hl) (heights_of hr) (left_rows left.width hl left.values.now left.marks.now) (right_rows right.width hr right.values.now right.marks.now) s

abbrev decreases-loop : tie.decreases-loop-s
decreases-loop left hl right hr rules s₀ s = (length hl + length hr) - (s.lefts + s.rights)

loop-holds : tie.Need-loop-s-init invariant-loop decreases-loop
loop-holds c =
    let a = c.args in
    starts _ _ _ _ _ (rows_length a.left.width (total (heights_of a.hl.now)) a.left.values.now a.left.marks.now) (rows_length a.right.width (total (heights_of a.hr.now)) a.right.values.now a.right.marks.now)

step-requires : tie.Need-step-s-requires invariant-loop decreases-loop
step-requires c κs = let l = c in (l.requires, l.loop-s.invariant, c.loop-s-test.true)

loop-less : tie.Need-loop-s-smaller invariant-loop decreases-loop
loop-less c =
    let l = c.loop-s.invariant in
    let a = c.args in
    omega (arith, heights_count a.hl.now, heights_count a.hr.now, c.step-s.ensures.1, c.step-s.ensures.0.lefts, c.step-s.ensures.0.rights, l.lefts, l.rights)

loop-again : tie.Need-loop-s-preserved invariant-loop decreases-loop
loop-again c = c.step-s.ensures.0

add-t15 : tie.Need-overflow_add-result invariant-loop decreases-loop
add-t15 c =
    let l = c in
    let a = l.args in
    omega (arith, heights_count a.hl.now, heights_count a.hr.now, l.loop-s.invariant.lefts, l.loop-s.invariant.rights)

returns : tie.Need-returns invariant-loop decreases-loop
returns c =
    let l = c in
    let hl = l.args.hl.now in
    ends _ _ _ _ _ l.loop-s.s l.loop-s.invariant (drop_of_length-le (heights_of hl) {i = l.loop-s.s.lefts} (omega (arith, heights_count hl, c.loop-s-test.false)))

pub walk_frames_spec : {M : Type 1} → statement M
walk_frames_spec =
    tie.close
    (tie.spec invariant-loop decreases-loop loop-holds step-requires loop-less loop-again add-t15 returns)
