use mathlib.Core.Path.{◌≡◌, sym, ◌∙◌}
use mathlib.Core.Bool.{true, ◌&&◌}
use native.Mathlib.Omega.{arith}
use borrow.Author.Tests.{not-true, not-false}
use Rattle.frames.proofs.BoolLaws.{and-true}
use Rattle.order.specs.options.Options.{terms_of, without_list}
use Rattle.matching.specs.Stretches.{between}
use Rattle.matching.specs.Moves.{keys_sorted}
use Rattle.scanwalk.specs.Drive.{key_options}
use Rattle.scanwalk.proofs.DriveLaws.{left_in, right_in_lem, run_room, scanned, unwalked, walks}
use borrow.Author.Rules.{rules}
use Rattle.scanwalk.proofs.drive.Statement.{statement}
use Rattle.scanwalk.proofs.drive.Tie as tie

key-options-requires : tie.Need-key_options-o-requires
key-options-requires c κs = search rules

scan-run-requires : tie.Need-scan_run-requires
scan-run-requires c κs =
    let s = c in
    let a = s.args in
    rw c.key_options-o.ensures (run_room a.strategy a.n a.lv.now a.lm.now a.m a.rv.now a.rm.now a.out.now s.requires)

same_length : tie.Need-shape_of-out-then-not-walked
same_length c = search rules

returns : tie.Need-returns-then-not-walked
returns c =
    let b = c in
    let a = b.args in
    scanned a.strategy a.n a.lv.now a.lm.now a.m a.rv.now a.rm.now a.out.now a.walked (not-true a.walked b.if-not-walked.true-raw) _ (rw b.key_options-o.ensures at c.scan_run.ensures)

both-sorted-requires : tie.Need-both_sorted-requires
both-sorted-requires c κs =
    let s = c in
    let a = s.args in
    rw c.key_options-o.ensures
    (left_in a.strategy a.n a.lv.now a.lm.now a.m a.rv.now a.rm.now a.out.now s.requires, omega arith, right_in_lem a.strategy a.n a.lv.now a.lm.now a.m a.rv.now a.rm.now a.out.now s.requires, omega arith)

returns-2 : tie.Need-returns-then-not-both_sorted
returns-2 c =
    let b = c in
    let a = b.args in
    unwalked a.strategy a.n a.lv.now a.lm.now a.m a.rv.now a.rm.now a.out.now a.walked (not-false a.walked b.if-not-walked.false-raw)
    (rw b.key_options-o.ensures at (sym c.both_sorted.ensures ∙ not-true c.both_sorted.result c.if-not-both_sorted.true-raw))

-- both runs are sorted where the walk begins
both : (c : tie.Else-not-both_sorted) →
    let a = c.args in
    (keys_sorted (without_list (terms_of (key_options a.strategy))) (between 1 0 a.n a.lv.now a.lm.now) && keys_sorted (without_list (terms_of (key_options a.strategy))) (between 1 0 a.m a.rv.now a.rm.now)) ≡ true
both c = rw c.key_options-o.ensures at (sym c.both_sorted.ensures ∙ not-false c.both_sorted.result c.if-not-both_sorted.false-raw)

walk-run-requires : tie.Need-walk_run-moves-requires
walk-run-requires c κs =
    let s = c in
    let a = s.args in
    let t = and-true _ _ (both c.before) in
    rw c.key_options-o.ensures
    (record { room = run_room a.strategy a.n a.lv.now a.lm.now a.m a.rv.now a.rm.now a.out.now s.requires; left = t.0; right = t.1 })

same-length-2 : tie.Need-shape_of-out
same-length-2 c = search rules

returns-3 : tie.Need-returns
returns-3 c =
    let b = c in
    let k = b in
    let a = k.args in
    let e = c.walk_run-moves.ensures in
    walks a.strategy a.n a.lv.now a.lm.now a.m a.rv.now a.rm.now a.out.now a.walked (not-false a.walked b.if-not-walked.false-raw) (both b.before.before.before) _ _ (rw k.key_options-o.ensures at e.0) (rw k.key_options-o.ensures at e.1)

pub drive_spec : {M : Type 1} → statement M
drive_spec =
    tie.close
    (tie.spec key-options-requires scan-run-requires same_length returns both-sorted-requires returns-2 walk-run-requires same-length-2 returns-3)
