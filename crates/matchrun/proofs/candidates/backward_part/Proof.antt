use borrow.Author.Rules.{rules}
use Prim.Native.Nat.{◌<◌}
use native.Mathlib.Omega.{arith}
use mir.Facts.{to_z-of_z}
use Rattle.frames.specs.Cells.{value}
use Rattle.order.specs.options.Options.{without_list}
use Rattle.matching.specs.Moves.{key_at}
use Rattle.matching.proofs.RestLaws.{rows_less}
use Rattle.matchrun.specs.look.Fit.{LastFit}
use Rattle.matchrun.proofs.candidates.PartLaws.{back_all, back_from}
use Rattle.matchrun.proofs.candidates.backward_part.Statement.{statement}
use Rattle.matchrun.proofs.candidates.backward_part.Tie as tie

last-fit-requires : tie.Need-last_fit-to-requires
last-fit-requires c κs = search rules

last-fit-requires-2 : tie.Need-last_fit-from-requires
last-fit-requires-2 c κs =
    let a = c.args in
    let e = c.last_fit-to.ensures in
    (rows_less (without_list a.o) a.right.width a.right.values.now a.right.marks.now c.last_fit-to.result a.end e.within c.requires.0, e.start)

-- what the two searches found
first : (c : tie.After-last_fit-from) →
    let a = c.args in
    LastFit a.o.allow_eq (key_at (without_list a.o) a.right.width a.right.values.now a.right.marks.now) a.at a.end (value a.l) c.last_fit-to.result
first c = rw (to_z-of_z c.ranges.l) at c.last_fit-to.ensures

second : (c : tie.After-last_fit-from) →
    let a = c.args in
    LastFit a.o.allow_eq (key_at (without_list a.o) a.right.width a.right.values.now a.right.marks.now) a.at c.last_fit-to.result (value a.f) c.last_fit-from.result
second c = rw (to_z-of_z c.ranges.f) at c.last_fit-from.ensures

returns : tie.Need-returns-then-from-at
returns c =
    let s = c in
    let a = s.args in
    back_all (without_list a.o) a.right.width a.at a.end a.right.values.now a.right.marks.now s.requires.0 s.requires.1 s.requires.2 a.f a.l c.last_fit-to.result (first c.before) c.last_fit-from.result (second c.before) c.if-from-at.true

sub-t12 : tie.Need-overflow_sub-result
sub-t12 c = search rules

returns-2 : tie.Need-returns
returns-2 c =
    let s = c in
    let a = s.args in
    let b = second c.before in
    let h : a.at < c.last_fit-from.result = omega (arith, b.start, c.if-from-at.false) in
    back_from (without_list a.o) a.right.width a.at a.end a.right.values.now a.right.marks.now s.requires.0 s.requires.1 s.requires.2 a.f a.l c.last_fit-to.result (first c.before) c.last_fit-from.result b h

pub backward_part_spec : {M : Type 1} → statement M
backward_part_spec = tie.close (tie.spec last-fit-requires last-fit-requires-2 returns sub-t12 returns-2)
