use mathlib.Core.Path.{sym, ◌∙◌}
use native.Mathlib.Omega.{arith}
use Rattle.order.proofs.RowLaws.{row_room}
use borrow.Author.Rules.{rules}
use Rattle.matchframe.proofs.sortedrows.match_known.Statement.{statement}
use Rattle.matchframe.proofs.sortedrows.match_known.Tie as tie

is-short-requires : tie.Need-is_short-requires
is-short-requires c κs = (c.requires.0.upward, c.requires.0.run)

scan-run-requires : tie.Need-scan_run-requires
scan-run-requires c κs = c.requires.0

same_length : tie.Need-shape_of-out-then-is_short
same_length c = search rules

returns : tie.Need-returns-then-is_short
returns c = c.scan_run.ensures

mul-null-group : tie.Need-overflow_mul-from
mul-null-group c = let s = c in omega (arith, row_room s.args.from s.args.to s.args.left.width s.requires.1, s.requires.0.left.marks)

null-group-requires : tie.Need-null_group-requires
null-group-requires c κs = let s = c in record { marks = omega (arith, row_room s.args.from s.args.to s.args.left.width s.requires.1, s.requires.0.left.marks, s.requires.0.left.wide) }

scan-run-requires-2 : tie.Need-scan_run-requires-then-null_group
scan-run-requires-2 c κs = c.requires.0

walk-run-requires : tie.Need-walk_run-moved-requires
walk-run-requires c κs =
    let s = c in
    let p = s.requires in
    let a = s.args in
    let n = c.null_group.ensures a.left.width a.left.values.now p.0.left.wide (omega (arith, row_room a.from a.to a.left.width p.1, p.0.left.values, p.0.left.wide)) in
    record { room = p.0; left = p.2 (sym n ∙ c.if-null_group.false); right = p.3 }

same-length-2 : tie.Need-shape_of-out-then-null_group
same-length-2 c = search rules

returns-2 : tie.Need-returns-then-null_group
returns-2 c = c.scan_run-then-null_group.ensures

same-length-3 : tie.Need-shape_of-out-else-null_group
same-length-3 c = search rules

returns-3 : tie.Need-returns-else-null_group
returns-3 c = c.walk_run-moved.ensures.1

pub match_known_spec : {M : Type 1} → statement M
match_known_spec =
    tie.close
    (tie.spec is-short-requires scan-run-requires same_length returns mul-null-group null-group-requires scan-run-requires-2 walk-run-requires same-length-2 returns-2 same-length-3 returns-3)
