use Rattle.node.proofs.moves.CopyLaws.{both_copied}
use Rattle.node.proofs.moving.copy_both.Goals as goal

pub returns : goal.returns
returns c =
    let a = c.args in
    both_copied a.values.now a.marks.now a.to.now _ _ a.half c.copy_front.ensures c.copy_front-2.ensures
