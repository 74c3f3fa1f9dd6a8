use mathlib.Core.Path.{sym, ◌∙◌}
use mir.Facts.{to_z-of_z}
use Rattle.frames.proofs.Signed.{lt_flag}
use Rattle.order.specs.options.Options.{without_list}
use Rattle.matchrun.proofs.candidates.PartLaws.{whole, one_key}
use Rattle.matchrun.proofs.candidates.part_of.Goals as goal

pub backward_part-requires : goal.backward_part-requires
backward_part-requires c =
    let p = c.requires in
    (p.0, p.1, sym c.strategy_of-s.ensures ∙ c.in-Backward.is)

pub forward_part-requires : goal.forward_part-requires
forward_part-requires c =
    let p = c.requires in
    (p.0, p.1, sym c.strategy_of-s.ensures ∙ c.in-Forward.is)

pub returns-then-f-l : goal.returns-then-f-l
returns-then-f-l c =
    let s = c in
    let a = s.args in
    whole (without_list a.o) a.right.width a.at a.end a.right.values.now a.right.marks.now s.requires.0 s.requires.1 a.f a.l

pub nearest_part-requires : goal.nearest_part-requires
nearest_part-requires c =
    let p = c.requires in
    (p.0, p.1, sym c.strategy_of-s.ensures ∙ c.in-Nearest.is)

pub returns-in-Backward : goal.returns-in-Backward
returns-in-Backward c = let f = c.ranges in rw (to_z-of_z f.f, to_z-of_z f.l) at c.backward_part.ensures

pub returns-in-Forward : goal.returns-in-Forward
returns-in-Forward c = let f = c.ranges in rw (to_z-of_z f.f, to_z-of_z f.l) at c.forward_part.ensures

pub returns-else-f-l : goal.returns-else-f-l
returns-else-f-l c =
    let s = c in
    let a = s.args in
    let f = s.ranges in
    one_key (without_list a.o) a.right.width a.at a.end a.right.values.now a.right.marks.now a.f a.l c.nearest_part.result (lt_flag f.f f.l c.if-f-l.false) (rw (to_z-of_z f.f) at c.nearest_part.ensures)
