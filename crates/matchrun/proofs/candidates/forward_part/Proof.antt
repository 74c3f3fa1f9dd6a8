use borrow.Author.Rules.{rules}
use Prim.Native.Nat.{◌<◌}
use native.Mathlib.Omega.{arith}
use mir.Facts.{to_z-of_z}
use Rattle.frames.specs.Cells.{value}
use Rattle.order.specs.options.Options.{without_list}
use Rattle.matching.specs.Moves.{key_at}
use Rattle.matchrun.specs.look.Fit.{FirstFit}
use Rattle.matchrun.proofs.candidates.PartLaws.{fore_all, fore_to}
use Rattle.matchrun.proofs.candidates.forward_part.Statement.{statement}
use Rattle.matchrun.proofs.candidates.forward_part.Tie as tie

first-fit-requires : tie.Need-first_fit-from-requires
first-fit-requires c κs = search rules

first-fit-requires-2 : tie.Need-first_fit-to-requires
first-fit-requires-2 c κs = search rules

-- what the two searches found
first : (c : tie.After-first_fit-to) →
    let a = c.args in
    FirstFit a.o.allow_eq (key_at (without_list a.o) a.right.width a.right.values.now a.right.marks.now) a.at a.end (value a.f) c.first_fit-from.result
first c = rw (to_z-of_z c.ranges.f) at c.first_fit-from.ensures

second : (c : tie.After-first_fit-to) →
    let a = c.args in
    FirstFit a.o.allow_eq (key_at (without_list a.o) a.right.width a.right.values.now a.right.marks.now) c.first_fit-from.result a.end (value a.l) c.first_fit-to.result
second c = rw (to_z-of_z c.ranges.l) at c.first_fit-to.ensures

returns : tie.Need-returns-then-to-end
returns c =
    let s = c in
    let a = s.args in
    fore_all (without_list a.o) a.right.width a.at a.end a.right.values.now a.right.marks.now s.requires.0 s.requires.1 s.requires.2 a.f a.l c.first_fit-from.result (first c.before) c.first_fit-to.result (second c.before)

add-t12 : tie.Need-overflow_add-result
add-t12 c = search rules

returns-2 : tie.Need-returns
returns-2 c =
    let s = c in
    let a = s.args in
    let b = second c.before in
    let h : c.first_fit-to.result < a.end = omega (arith, b.within, c.if-to-end.false) in
    fore_to (without_list a.o) a.right.width a.at a.end a.right.values.now a.right.marks.now s.requires.0 s.requires.1 s.requires.2 a.f a.l c.first_fit-from.result (first c.before) c.first_fit-to.result b h

pub forward_part_spec : {M : Type 1} → statement M
forward_part_spec = tie.close (tie.spec first-fit-requires first-fit-requires-2 returns add-t12 returns-2)
