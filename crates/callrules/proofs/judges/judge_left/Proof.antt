-- `judges::judge_left` meets its contract. Assumes nothing.
use mathlib.Core.Path.{◌≡◌, sym, ◌∙◌}
use native.Mathlib.Omega.{arith}
use borrow.Author.Tests.{not-false}
use Rattle.frames.specs.Frame.{is_frame, frame_rows}
use Rattle.frames.proofs.FrontLaws.{frame_table}
use Rattle.order.specs.options.Options.{with_list, columns, Few}
use Rattle.order.specs.Listed.{lacks_code}
use Rattle.callrules.specs.Judged.{left_judged}
use borrow.Author.Rules.{rules}
use Rattle.callrules.proofs.judges.judge_left.Statement.{statement}
use Rattle.callrules.proofs.judges.judge_left.Tie as tie

returns : tie.Need-returns-then-bad
unfolding left_judged
returns c = simp c.if-bad.true

returns-2 : tie.Need-returns-then-failed
unfolding left_judged
returns-2 c = simp (c.if-bad.false, c.if-failed.true)

is-running-requires : tie.Need-is_running-requires
is-running-requires c κs = search rules

returns-3 : tie.Need-returns-then-not-is_running
unfolding left_judged
returns-3 c =
    let e = c in
    simp (e.if-bad.false, e.if-failed.false, ← c.is_running.ensures, c.if-not-is_running.true-raw)

-- A join that is not bad compares rows.
few : (c : tie.Else-not-is_running) → let a = c.args in Few (with_list a.rules.terms a.rules.codes.now a.rules.rising.now)
few c = let e = c in e.requires e.if-bad.false

left-columns-requires : tie.Need-left_columns-c-requires
left-columns-requires c κs = (few c.before).by

is-frame-requires : tie.Need-is_frame-requires
is-frame-requires c κs = search rules

-- What the calls say, by the definitions' names.
frame : (c : tie.After-is_frame) → let a = c.args in c.is_frame.result ≡ is_frame (columns (with_list a.rules.terms a.rules.codes.now a.rules.rising.now)) a.frame.now
frame c = rw c.left_columns-c.ensures at c.is_frame.ensures

returns-4 : tie.Need-returns-then-not-is_frame
unfolding left_judged
returns-4 c =
    let r = c in
    let e = r in
    simp (e.if-bad.false, e.if-failed.false, ← r.is_running.ensures, r.if-not-is_running.false-raw, ← frame c.before, c.if-not-is_frame.true-raw)

-- The words are a frame, so it can be asked for codes.
lacks-code-requires : tie.Need-lacks_code-requires
lacks-code-requires c κs =
    let f = c in
    let n = f.left_columns-c.ensures in
    (few f.before.before.before.before, omega arith, frame_table _ _ (sym f.is_frame.ensures ∙ not-false f.is_frame.result c.if-not-is_frame.false-raw))

codes : (c : tie.After-lacks_code) →
    let a = c.args in c.lacks_code.result ≡ lacks_code (with_list a.rules.terms a.rules.codes.now a.rules.rising.now) (frame_rows (columns (with_list a.rules.terms a.rules.codes.now a.rules.rising.now)) a.frame.now)
codes c = rw c.left_columns-c.ensures at c.lacks_code.ensures

returns-5 : tie.Need-returns-then-lacks_code
unfolding left_judged
returns-5 c =
    let f = c in
    let r = f in
    let e = r in
    simp (e.if-bad.false, e.if-failed.false, ← r.is_running.ensures, r.if-not-is_running.false-raw, ← frame f.before.before.before, f.if-not-is_frame.false-raw, ← codes c.before, c.if-lacks_code.true)

above-requires : tie.Need-above-requires
above-requires c κs = search rules

returns-6 : tie.Need-returns-then-above
unfolding left_judged
returns-6 c =
    let k = c in
    let f = k in
    let r = f in
    let e = r in
    simp (
      e.if-bad.false,
      e.if-failed.false,
      ← r.is_running.ensures,
      r.if-not-is_running.false-raw,
      ← frame f.before.before.before.before.before,
      f.if-not-is_frame.false-raw,
      ← codes k.before.before.before,
      k.if-lacks_code.false,
      ← c.above.ensures,
      c.if-above.true,
    )

returns-7 : tie.Need-returns
unfolding left_judged
returns-7 c =
    let k = c in
    let f = k in
    let r = f in
    let e = r in
    simp (
      e.if-bad.false,
      e.if-failed.false,
      ← r.is_running.ensures,
      r.if-not-is_running.false-raw,
      ← frame f.before.before.before.before.before,
      f.if-not-is_frame.false-raw,
      ← codes k.before.before.before,
      k.if-lacks_code.false,
      ← c.above.ensures,
      c.if-above.false,
    )

pub judge_left_spec : {M : Type 1} → statement M
judge_left_spec =
    tie.close
    (tie.spec returns returns-2 is-running-requires returns-3 left-columns-requires is-frame-requires returns-4 lacks-code-requires returns-5 above-requires returns-6 returns-7)
