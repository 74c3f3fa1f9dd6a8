use Prim.Native.Nat.{◌+◌, ◌-◌, ◌*◌, ◌≤◌, ◌<◌}
use native.Mathlib.Omega.{arith}
use lib.IntN.{pos}
use lib.ListN.{get_or}
use Rattle.order.specs.options.Options.{without_list}
use Rattle.order.proofs.RowLaws.{row_room}
use Rattle.frames.proofs.Signed.{back}
use Rattle.matchrun.proofs.candidates.PartLaws.{no_keys, from_keys}
use Rattle.matchrun.proofs.candidates.candidates.Goals as goal

-- the first row with a key, and the last row, end within the rows
room : (c : goal.Else-i-to) → let a = c.args in c.first_key-i.result * a.left.width + a.left.width ≤ a.to * a.left.width
room c =
    let a = c.args in
    let e = c.first_key-i.ensures in
    row_room c.first_key-i.result a.to a.left.width (omega (arith, e.within, c.if-i-to.false))

room_last : (c : goal.Else-i-to) → let a = c.args in (a.to - 1) * a.left.width + a.left.width ≤ a.to * a.left.width
room_last c =
    let a = c.args in
    let e = c.first_key-i.ensures in
    row_room (a.to - 1) a.to a.left.width (omega (arith, e.within, c.if-i-to.false))

pub first_key-i-requires : goal.first_key-i-requires
first_key-i-requires c =
    let p = c.requires.0 in
    (record { few = p.rows.few; wide = p.rows.wide; marks = p.rows.marks }, p.upward)

pub returns-then-i-to : goal.returns-then-i-to
returns-then-i-to c =
    let s = c in
    let a = s.args in
    no_keys (without_list a.o) a.left.width a.from a.to a.left.values.now a.left.marks.now s.requires.0 a.right.width a.at a.end a.right.values.now a.right.marks.now s.requires.2 c.first_key-i.result c.first_key-i.ensures c.if-i-to.true

pub overflow_mul-p : goal.overflow_mul-p
overflow_mul-p c = let r = room c in let p = c.requires.0.rows in omega arith

pub overflow_add-p : goal.overflow_add-p
overflow_add-p c = let r = room c in let p = c.requires.0.rows in omega arith

pub overflow_sub-q : goal.overflow_sub-q
overflow_sub-q c = let e = c.first_key-i.ensures in omega (arith, e.within, c.if-i-to.false)

pub overflow_mul-q : goal.overflow_mul-q
overflow_mul-q c = let r = room_last c in let p = c.requires.0.rows in omega arith

pub overflow_add-q : goal.overflow_add-q
overflow_add-q c = let r = room_last c in let p = c.requires.0.rows in omega arith

pub offset_bounds-left-p : goal.offset_bounds-left-p
offset_bounds-left-p c = let r = room c in let p = c.requires.0.rows in omega arith

pub bounds-left-p : goal.bounds-left-p
bounds-left-p c = let r = room c in let p = c.requires.0.rows in omega arith

pub offset_bounds-left-q : goal.offset_bounds-left-q
offset_bounds-left-q c = let r = room_last c.before in let p = c.requires.0.rows in omega arith

pub bounds-left-q : goal.bounds-left-q
bounds-left-q c = let r = room_last c.before in let p = c.requires.0.rows in omega arith

pub part_of-requires : goal.part_of-requires
part_of-requires c = let p = c.requires in (p.1, p.2)

pub returns : goal.returns
returns c =
    let s = c in
    let a = s.args in
    let k = c.first_key-i in
    let i = k.result in
    let h : i < a.to = omega (arith, k.ensures.within, c.if-i-to.false) in
    let e = rw (back (get_or a.left.values.now (i * a.left.width + a.o.by) (pos 0)) c.part_of-arg-1.given, back (get_or a.left.values.now ((a.to - 1) * a.left.width + a.o.by) (pos 0)) c.part_of-arg-2-1.given) at c.part_of.ensures in
    from_keys (without_list a.o) a.left.width a.from a.to a.left.values.now a.left.marks.now s.requires.0 a.right.width a.at a.end a.right.values.now a.right.marks.now s.requires.2 i k.ensures c.part_of.result h e
