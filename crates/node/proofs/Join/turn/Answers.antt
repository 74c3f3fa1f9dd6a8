-- `node::Join::turn` meets its contract. Assumes nothing.
use mathlib.Core.Path.{sym, ◌∙◌}
use Rattle.node.proofs.Good.{good, few_by, bad_told}
use Rattle.node.proofs.TurnCallLaws.{queue_turns}
use Rattle.node.proofs.Join.turn.Goals as goal

-- A join that is not bad holds together.
pub turn_queue-t-requires : goal.turn_queue-t-requires
turn_queue-t-requires c = λ e.
    let t = c.rules-rules.ensures in
    let g = good _ _ _ (sym (bad_told c.args.self _ _ _ _ t.told c.bad_numbers-bad.ensures) ∙ e) in
    let few = few_by _ _ _ _ g t.told t.codes t.rising in
    rw (t.told, c.part_of-part.ensures) (record { few = rw t.told at few; carried = g.carried; right_room = g.right_room; left_room = g.left_room; rows = g.rows; even = g.even })

pub returns : goal.returns
returns c = rw c.turned.ensures (queue_turns _ _ _ _ _ (bad_told c.args.self _ _ _ _ c.rules-rules.ensures.told c.bad_numbers-bad.ensures) _ _ (rw (c.rules-rules.ensures.told, c.part_of-part.ensures) at c.turn_queue-t.ensures))
