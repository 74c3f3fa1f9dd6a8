-- `held::write_words` meets its contract. Assumes nothing.
use mathlib.Core.Path.{◌≡◌, refl, ◌∙◌}
use native.Mathlib.Omega.{arith}
use lib.ListN.{length}
use lib.Seq.{paste-zero}
use borrow.Author.Rules.{rules}
use Rattle.buffer.proofs.area.AreaLaws.{write_step}
use Rattle.buffer.proofs.area.held.write_words.Goals as goal

pub loop-i-init : goal.loop-i-init
loop-i-init c = paste-zero c.args.area.now c.args.at c.args.words.now

pub loop-i-preserved : goal.loop-i-preserved
loop-i-preserved c = write_step _ _ _ _ _ _ c.loop-i.invariant refl (omega arith) (omega arith) (search rules)

pub returns : goal.returns
returns c =
    let n : c.loop-i.i ≡ length c.args.words.now = omega arith in
    c.loop-i.invariant ∙ rw n
