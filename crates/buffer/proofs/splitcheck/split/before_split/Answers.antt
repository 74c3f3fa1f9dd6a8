use mathlib.Core.Path.{◌≡◌, sym}
use Prim.Native.Nat.{◌+◌, ◌-◌, ◌*◌, ◌≤◌}
use native.Mathlib.Omega.{arith}
use lib.ListN.{length}
use lib.Seq.{length-take-le}
use Rattle.buffer.proofs.splitcheck.split.before_split.Goals as goal

pub slice_bounds-result-end : goal.slice_bounds-result-end
slice_bounds-result-end c = let s = c in sym (length-take-le s.args.c s.args.remembered.now s.requires.other)

pub returns-in_default : goal.returns-in_default
returns-in_default c = rw c.in_default.is

-- the row that was found is there
inside : (c : goal.In-Some) → let a = c.args in c.in-Some.i * a.w + a.w ≤ length a.held.now
inside c = c.requires.inside c.in-Some.i c.in-Some.is

pub overflow_mul-p : goal.overflow_mul-p
overflow_mul-p c = let r = inside c in omega arith

pub overflow_add-e : goal.overflow_add-e
overflow_add-e c = let r = inside c in omega arith

pub offset_bounds-held-p : goal.offset_bounds-held-p
offset_bounds-held-p c = let r = inside c in omega arith

pub slice_bounds-result-end-2 : goal.slice_bounds-result-end-2
slice_bounds-result-end-2 c = omega (arith, inside c)

pub returns : goal.returns
returns c =
    let k = c in
    let a = k.args in
    let i = k.in-Some.i in
    let e : i * a.w + a.w - i * a.w ≡ a.w = omega arith in
    rw (k.in-Some.is, e)
