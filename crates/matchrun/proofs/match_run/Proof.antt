use borrow.Author.Rules.{rules}
use mathlib.Core.Path.{◌≡◌, sym, ◌∙◌}
use mathlib.Core.Bool.{true}
use native.Mathlib.Omega.{arith}
use borrow.Author.Tests.{not-false}
use Rattle.order.specs.options.Options.{without_list}
use Rattle.matching.specs.Loops.{RunRoom}
use Rattle.matching.specs.Moves.{keys_sorted}
use Rattle.matching.specs.Stretches.{between}
use Rattle.matching.proofs.RestLaws.{rows_less}
use Rattle.matchrun.proofs.match_run.Statement.{statement}
use Rattle.matchrun.proofs.match_run.Tie as tie

keys-sorted-requires : tie.Need-keys_sorted-requires
keys-sorted-requires c κs = (c.requires.left, c.requires.upward)

scan-run-requires : tie.Need-scan_run-requires
scan-run-requires c κs = c.requires

same_length : tie.Need-shape_of-out-then-not-keys_sorted
same_length c = search rules

returns : tie.Need-returns-then-not-keys_sorted
returns c = c.scan_run.ensures

-- the left run is sorted
left_sorted : (c : tie.Else-not-keys_sorted) → let a = c.args in keys_sorted (without_list a.o) (between a.left.width a.from a.to a.left.values.now a.left.marks.now) ≡ true
left_sorted c = sym c.keys_sorted.ensures ∙ not-false c.keys_sorted.result c.if-not-keys_sorted.false-raw

candidates-requires : tie.Need-candidates-part-requires
candidates-requires c κs =
    let s = c in
    (record { rows = s.requires.left; upward = s.requires.upward; sorted = left_sorted c }, s.requires.right, s.requires.run)

-- what is asked of the right run is so of its candidates
part_room : (c : tie.After-candidates-part) →
    let a = c.args in
    let r = c.candidates-part.result in
    RunRoom (without_list a.o) a.left.width a.m a.left.values.now a.left.marks.now a.from a.to a.right.width a.right.values.now a.right.marks.now r.from r.to a.number a.out.now
part_room c =
    let s = c in
    let a = s.args in
    let p = s.requires in
    let e = c.candidates-part.ensures in
    record {
      left = p.left;
      upward = p.upward;
      within = p.within;
      right = rows_less (without_list a.o) a.right.width a.right.values.now a.right.marks.now c.candidates-part.result.to a.end e.within p.right;
      run = e.upward;
      numbers = omega (arith, e.within, p.numbers);
      room = p.room;
    }

keys-sorted-requires-2 : tie.Need-keys_sorted-requires-2
keys-sorted-requires-2 c κs = let p = part_room c in (p.right, p.run)

walk-run-requires : tie.Need-walk_run-moved-requires
walk-run-requires c κs =
    let d = c in
    record { room = part_room d.before.before.before; left = left_sorted d.before.before.before.before; right = sym c.keys_sorted-2.ensures ∙ c.if-keys_sorted.true }

scan-run-requires-2 : tie.Need-scan_run-requires-else-keys_sorted
scan-run-requires-2 c κs = part_room c.before.before.before

same-length-2 : tie.Need-shape_of-out-then-keys_sorted
same-length-2 c = search rules

returns-2 : tie.Need-returns-then-keys_sorted
returns-2 c =
    let d = c in
    rw (d.candidates-part.ensures.same d.args.number) c.walk_run-moved.ensures.1

same-length-3 : tie.Need-shape_of-out-else-keys_sorted
same-length-3 c = search rules

returns-3 : tie.Need-returns-else-keys_sorted
returns-3 c =
    let d = c in
    rw (d.candidates-part.ensures.same d.args.number) c.scan_run-else-keys_sorted.ensures

pub match_run_spec : {M : Type 1} → statement M
match_run_spec =
    tie.close
    (tie.spec keys-sorted-requires scan-run-requires same_length returns candidates-requires keys-sorted-requires-2 walk-run-requires scan-run-requires-2 same-length-2 returns-2 same-length-3 returns-3)
