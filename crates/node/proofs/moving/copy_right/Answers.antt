use mathlib.Core.Path.{sym}
use native.Mathlib.Omega.{arith}
use lib.Seq.{length-take-le}
use Rattle.node.proofs.moves.CopyLaws.{sizes, right_fit, right_copied_lem}
use Rattle.node.proofs.moving.copy_right.Goals as goal

pub overflow_mul-n : goal.overflow_mul-n
overflow_mul-n c = omega (arith, sizes c.requires)

pub overflow_mul-half-2 : goal.overflow_mul-half-2
overflow_mul-half-2 c = omega (arith, sizes c.requires)

pub slice_bounds-copy_both-end : goal.slice_bounds-copy_both-end
slice_bounds-copy_both-end c =
    let s = c in
    sym (length-take-le _ _ (rw c.held_values-values.ensures (sizes s.requires).values))

pub slice_bounds-copy_both-end-2 : goal.slice_bounds-copy_both-end-2
slice_bounds-copy_both-end-2 c =
    let s = c in
    sym (length-take-le _ _ (rw c.held_marks-marks.ensures (sizes s.requires).marks))

pub copy_both-requires : goal.copy_both-requires
copy_both-requires c =
    let s = c in
    right_fit s.requires _ _ c.held_values-values.ensures c.held_marks-marks.ensures

pub returns : goal.returns
returns c =
    let s = c in
    right_copied_lem s.requires _ _ _ c.held_values-values.ensures c.held_marks-marks.ensures c.copy_both.ensures
