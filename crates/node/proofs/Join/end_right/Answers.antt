use Rattle.node.proofs.CallLaws.{end_leaves}
use Rattle.node.proofs.Join.end_right.Goals as goal

pub returns : goal.returns
returns c = end_leaves _ _ _ _ c.bad_join-bad.ensures _ c.feed_end-fed.ensures
