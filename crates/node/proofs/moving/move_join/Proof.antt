use mathlib.Core.Path.{sym, ◌∙◌}
use native.Mathlib.Omega.{arith}
use Rattle.node.proofs.Good.{good}
use Rattle.node.proofs.moves.MoveLaws.{Fits, fits_by, bad_move, no_room_move, done_move}
use borrow.Author.Rules.{rules}
use Rattle.node.proofs.moving.move_join.Statement.{statement}
use Rattle.node.proofs.moving.move_join.Tie as tie

bad-join-requires : tie.Need-bad_join-requires
bad-join-requires c κs = search rules

returns : tie.Need-returns-then-bad_join
returns c = bad_move _ _ _ _ _ (sym c.bad_join.ensures ∙ c.if-bad_join.true)

no-room-requires : tie.Need-no_room-requires
no-room-requires c κs = let g = good _ _ _ (sym c.bad_join.ensures ∙ c.if-bad_join.false) in (g.by, g.carried)

same_length : tie.Need-shape_of-new_left-then-no_room
same_length c = search rules

same-length-2 : tie.Need-shape_of-new_right-then-no_room
same-length-2 c = search rules

returns-2 : tie.Need-returns-then-no_room
returns-2 c =
    let s = c in
    no_room_move _ _ _ _ _ (sym s.bad_join.ensures ∙ c.if-bad_join.false) (sym c.no_room.ensures ∙ c.if-no_room.true)

-- Past both tests the join holds together, and its words and rows have room.
fine : (c : tie.Else-no_room) → let a = c.args in Fits a.j a.left.now a.right.now a.new_left.now a.new_right.now
fine c =
    let s = c in
    fits_by _ _ _ _ _ (sym s.bad_join.ensures ∙ c.if-bad_join.false) (sym c.no_room.ensures ∙ c.if-no_room.false)

copy-left-requires : tie.Need-copy_left-requires
copy-left-requires c κs = let t = fine c.before in record { within = t.good.left_room; room = t.left_room }

terms-of-requires : tie.Need-terms_of-requires
terms-of-requires c κs = search rules

right-columns-requires : tie.Need-right_columns-c-requires
right-columns-requires c κs = let g = (fine c.before.before.before.before.before).good in rw c.terms_of.ensures (g.by, g.carried)

copy-right-requires : tie.Need-copy_right-requires
copy-right-requires c κs =
    let t = fine c.before.before.before.before.before.before.before in
    rw (c.right_columns-c.ensures, c.terms_of.ensures) (record { columns = record { some = omega arith; few = omega (arith, t.good.by, t.good.carried) }; within = t.good.right_room; room = t.right_room })

same-length-3 : tie.Need-shape_of-new_left
same-length-3 c = search rules

same-length-4 : tie.Need-shape_of-new_right
same-length-4 c = search rules

returns-3 : tie.Need-returns
returns-3 c =
    let p = c in
    let e = p in
    let s = e in
    done_move _ _ _ _ _ _ _ (sym s.bad_join.ensures ∙ e.if-bad_join.false) (sym e.no_room.ensures ∙ e.if-no_room.false) p.copy_left.ensures (rw (p.right_columns-c.ensures, p.terms_of.ensures) at p.copy_right.ensures)

pub move_join_spec : {M : Type 1} → statement M
move_join_spec =
    tie.close
    (tie.spec bad-join-requires returns no-room-requires same_length same-length-2 returns-2 copy-left-requires terms-of-requires right-columns-requires copy-right-requires same-length-3 same-length-4 returns-3)
