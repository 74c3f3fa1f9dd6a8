-- `held::move_front` meets its contract. Assumes nothing.
use mathlib.Core.Path.{◌≡◌, refl, ◌∙◌}
use Prim.Native.Nat.{◌+◌}
use native.Mathlib.Omega.{arith}
use lib.ListN.{drop}
use lib.Seq.{paste-zero}
use borrow.Author.Rules.{rules}
use Rattle.buffer.proofs.area.AreaLaws.{move_step}
use Rattle.buffer.proofs.area.held.move_front.Goals as goal

pub loop-i-init : goal.loop-i-init
loop-i-init c = paste-zero c.args.area.now 0 (drop c.args.start c.args.area.now)

pub loop-i-preserved : goal.loop-i-preserved
loop-i-preserved c =
    let a = c.args in
    let l = c.loop-i in
    let t = c.loop-i-test.true in
    move_step a.area.now l.area a.start (a.start + l.i) l.i l.invariant refl (omega arith) (search rules)

pub returns : goal.returns
returns c =
    let n : c.loop-i.i ≡ c.args.n = omega arith in
    c.loop-i.invariant ∙ rw n
