-- `node::Join::right` meets its contract. Assumes nothing.
use mathlib.Core.Path.{sym, ◌∙◌}
use Rattle.node.proofs.Good.{good, few_by}
use Rattle.node.proofs.CallLaws.{right_leaves}
use Rattle.node.proofs.Join.right.Goals as goal

-- A join that is not bad holds together.
pub feed_right-fed-requires : goal.feed_right-fed-requires
feed_right-fed-requires c = λ e.
    let t = c.rules.ensures in
    let g = good _ _ _ (sym c.bad_join-bad.ensures ∙ e) in
    let few = few_by _ _ _ _ g t.told t.codes t.rising in
    rw t.told (record { few = rw t.told at few; carried = g.carried; room = g.right_room; rows = g.rows })

pub returns : goal.returns
returns c = right_leaves _ _ _ _ _ c.bad_join-bad.ensures _ _ (rw c.rules.ensures.told at c.feed_right-fed.ensures)
