use mathlib.Core.Path.{◌≡◌, sym, ◌∙◌}
use mathlib.Core.Bool.{true, false}
use Prim.Native.Nat.{◌+◌}
use native.Mathlib.Omega.{arith}
use lib.IntN.{pos}
use lib.ListN.{get_or}
use Rattle.frames.specs.Cells.{is_zero}
use Rattle.frames.proofs.Signed.{back}
use Rattle.order.proofs.RowLaws.{null_mark}
use Rattle.matchframe.proofs.carrying.SpreadLaws.{whole_fits}
use Rattle.matchframe.proofs.carrying.choice_at.Goals as goal

pub returns-then-null_at : goal.returns-then-null_at
returns-then-null_at c =
    let a = c.args in
    let m = get_or a.out.now (2 + a.m + a.i) (pos 0) in
    let z : is_zero m ≡ true = sym (null_mark (get_or a.out.now (2 + a.m + a.i) (pos 0)) m) ∙ sym (c.null_at.ensures a.out.now) ∙ c.if-null_at.true in
    rw z

-- the mark is that of a number
marked : (c : goal.After-result-1) → let a = c.args in is_zero (get_or a.out.now (2 + a.m + a.i) (pos 0)) ≡ false
marked c =
    let a = c.args in
    let k = 2 + a.m + a.i in
    sym (null_mark (get_or a.out.now k (pos 0)) (get_or a.out.now k (pos 0))) ∙ sym (c.null_at.ensures a.out.now) ∙ c.if-null_at.false

pub overflow_cast-result : goal.overflow_cast-result
overflow_cast-result c =
    let a = c.args in
    let z = get_or a.out.now (2 + a.i) (pos 0) in
    let f = whole_fits z (c.requires.whole (marked c)) c.result-1.given in
    rw (back z c.result-1.given) (f.0, omega (arith, f.1))

pub returns : goal.returns
returns c =
    let a = c.args in
    rw (back (get_or a.out.now (2 + a.i) (pos 0)) c.result-1.given, marked c)
