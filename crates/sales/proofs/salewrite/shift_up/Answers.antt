-- `salewrite::shift_up` meets its contract. Assumes nothing.
use mathlib.Core.Path.{◌≡◌, ap, ◌∙◌}
use Prim.Native.Nat.{ℕ, suc, ◌+◌, ◌-◌}
use native.Mathlib.Omega.{arith}
use lib.IntN.{pos}
use lib.ListN.{drop, get_or}
use lib.Seq.{paste}
use borrow.Author.Rules.{rules}
use Rattle.frames.proofs.Signed.{back}
use Rattle.sales.proofs.salewrite.WordLaws.{shift_starts, shift_step}
use Rattle.sales.proofs.salewrite.shift_up.Goals as goal

pub loop-k-init : goal.loop-k-init
loop-k-init c = let a = c.args in (c.requires.range, shift_starts a.body.now a.to a.w c.requires.room)

pub loop-k-preserved : goal.loop-k-preserved
loop-k-preserved c =
    let a = c.args in
    let l = c.loop-k in
    let k = l.k - 1 in
    let e : l.k ≡ suc k = omega (arith, c.loop-k-test.true) in
    (omega (arith, c.loop-k-test.true), shift_step a.body.now l.body k a.to a.w _ (omega (arith, e, l.auto)) c.requires.room (l.invariant.1 ∙ ap (λ (z : ℕ). paste a.body.now (z + a.w) (drop z a.body.now) (a.to - z)) e) (back (get_or l.body k (pos 0)) (search rules)))

pub returns : goal.returns
returns c =
    let a = c.args in
    let l = c.loop-k in
    let e : l.k ≡ a.from = omega (arith, c.loop-k-test.false, l.invariant.0) in
    l.invariant.1 ∙ ap (λ (z : ℕ). paste a.body.now (z + a.w) (drop z a.body.now) (a.to - z)) e
