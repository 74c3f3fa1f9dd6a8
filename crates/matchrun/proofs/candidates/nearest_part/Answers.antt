use Prim.Native.Nat.{◌+◌, ◌-◌, ◌*◌, ◌≤◌, ◌<◌}
use native.Mathlib.Omega.{arith}
use lib.IntN.{pos}
use lib.ListN.{get_or}
use mir.Facts.{to_z-of_z}
use Rattle.order.specs.options.Options.{without_list}
use Rattle.order.proofs.RowLaws.{row_room}
use Rattle.frames.proofs.Signed.{lt_flag}
use Rattle.matchrun.proofs.candidates.PartLaws.{whole, near_one}
use Rattle.matchrun.proofs.candidates.nearest_part.Goals as goal

-- the row that was found ends within the rows
room : (c : goal.Else-to-at) → let a = c.args in (c.last_fit-to.result - 1) * a.right.width + a.right.width ≤ a.end * a.right.width
room c =
    let a = c.args in
    let e = c.last_fit-to.ensures in
    row_room (c.last_fit-to.result - 1) a.end a.right.width (omega (arith, e.start, e.within, c.if-to-at.false))

pub returns-then-to-at : goal.returns-then-to-at
returns-then-to-at c =
    let s = c in
    let a = s.args in
    whole (without_list a.o) a.right.width a.at a.end a.right.values.now a.right.marks.now s.requires.0 s.requires.1 a.v a.v

pub overflow_mul-last : goal.overflow_mul-last
overflow_mul-last c = let r = room c in let p = c.requires.0 in omega arith

pub overflow_add-last : goal.overflow_add-last
overflow_add-last c = let r = room c in let p = c.requires.0 in omega arith

pub offset_bounds-right-last : goal.offset_bounds-right-last
offset_bounds-right-last c = let r = room c in let p = c.requires.0 in omega arith

pub bounds-right-last : goal.bounds-right-last
bounds-right-last c = let r = room c in let p = c.requires.0 in omega arith

pub returns-then-right-last : goal.returns-then-right-last
returns-then-right-last c =
    let s = c in
    let a = s.args in
    whole (without_list a.o) a.right.width a.at a.end a.right.values.now a.right.marks.now s.requires.0 s.requires.1 a.v a.v

pub returns : goal.returns
returns c =
    let s = c in
    let a = s.args in
    let j = c.last_fit-to.result in
    let b = rw (to_z-of_z s.ranges.v) at c.last_fit-to.ensures in
    let h : a.at < j = omega (arith, b.start, c.if-to-at.false) in
    let n = lt_flag {a = get_or a.right.values.now ((j - 1) * a.right.width + a.o.by) (pos 0)} (record { sfits = c.t15-1.given }) s.ranges.v c.if-right-last.false in
    near_one (without_list a.o) a.right.width a.at a.end a.right.values.now a.right.marks.now s.requires.0 s.requires.1 s.requires.2 a.v j b h n
