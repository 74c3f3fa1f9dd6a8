-- `node::Join::left` meets its contract. Assumes nothing.
use mathlib.Core.Path.{sym, ◌∙◌}
use Rattle.node.proofs.Good.{good, few_by}
use Rattle.node.proofs.CallLaws.{left_leaves}
use Rattle.node.proofs.Join.left.Goals as goal

-- A join that is not bad holds together.
pub feed_left-fed-requires : goal.feed_left-fed-requires
feed_left-fed-requires c = λ e.
    let t = c.rules.ensures in
    let g = good _ _ _ (sym c.bad_join-bad.ensures ∙ e) in
    let few = few_by _ _ _ _ g t.told t.codes t.rising in
    rw t.told (record { few = rw t.told at few; room = g.left_room })

pub returns : goal.returns
returns c = left_leaves _ _ _ _ _ c.bad_join-bad.ensures _ _ (rw c.rules.ensures.told at c.feed_left-fed.ensures)
