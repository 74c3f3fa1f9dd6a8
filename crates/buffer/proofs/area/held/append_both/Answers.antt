use mathlib.Core.Path.{sym}
use native.Mathlib.Omega.{arith}
use lib.Seq.{length-take-le}
use Rattle.buffer.proofs.area.AreaLaws.{both_appended}
use Rattle.buffer.proofs.area.held.append_both.Goals as goal

pub slice_bounds-append-end-2 : goal.slice_bounds-append-end-2
slice_bounds-append-end-2 c = let s = c in sym (length-take-le s.args.half s.args.area.now (omega (arith, s.requires.halves)))

pub append-requires : goal.append-requires
append-requires c =
    let s = c in
    let e = length-take-le s.args.half s.args.area.now (omega (arith, s.requires.halves)) in
    record { within = omega arith; room = omega arith }

pub returns : goal.returns
returns c =
    let s = c in
    both_appended s.requires _ _ _ _ c.append.ensures c.append-2.ensures
