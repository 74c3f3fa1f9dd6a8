-- `salewrite::copy_words` meets its contract. Assumes nothing.
use mathlib.Core.Path.{◌≡◌, ◌∙◌}
use native.Mathlib.Omega.{arith}
use lib.ListN.{length}
use lib.Seq.{paste-zero}
use borrow.Author.Rules.{rules}
use Rattle.sales.proofs.salewrite.WordLaws.{copy_step}
use Rattle.sales.proofs.salewrite.copy_words.Goals as goal

pub loop-i-init : goal.loop-i-init
loop-i-init c = paste-zero c.args.body.now c.args.at c.args.words.now

pub loop-i-preserved : goal.loop-i-preserved
loop-i-preserved c = copy_step _ _ _ _ _ c.loop-i.invariant (omega arith) (omega arith) (search rules)

pub returns : goal.returns
returns c =
    let n : c.loop-i.i ≡ length c.args.words.now = omega arith in
    c.loop-i.invariant ∙ rw n
