use Rattle.node.proofs.moves.CopyLaws.{appended_front}
use Rattle.node.proofs.moving.copy_front.Goals as goal

pub returns : goal.returns
returns c = appended_front _ _ _ _ c.append.ensures
