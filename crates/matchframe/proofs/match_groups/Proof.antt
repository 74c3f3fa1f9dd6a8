use Rattle.std.specs.Prelude.{Option, ℕ}
use mathlib.Core.Path.{◌≡◌, refl, sym, ap, ◌∙◌}
use mathlib.Core.Bool.{true, false}
use mathlib.Core.List.{List, map}
use Prim.Native.Nat.{◌+◌, ◌-◌, ◌*◌, ◌≤◌, ◌<◌}
use native.Mathlib.Nat.{mul-le-mul_right}
use native.Mathlib.Omega.{arith}
use borrow.Author.Tests.{leb-true}
use lib.Dec.{leb}
use lib.ListN.{length}
use Rattle.frames.specs.Cells.{Words, row_from, rows_of}
use Rattle.frames.proofs.BoolLaws.{and-true}
use Rattle.order.specs.options.Options.{with_list, without_list}
use Rattle.order.proofs.RowLaws.{row_room}
use Rattle.matching.specs.Groups.{runs, by_runs}
use Rattle.matching.specs.Match.{match_in}
use Rattle.matching.specs.Stretches.{between, lay}
use Rattle.matching.specs.Loops.{RunAt, RunRoom}
use Rattle.matching.proofs.BestLaws.{match_small}
use Rattle.matching.proofs.TermLaws.{room_terms, lay_terms}
use Rattle.matching.proofs.WalkLaws.{run_up, run_within, between_length}
use Rattle.matching.proofs.LayLaws.{groups_from, groups_all, groups_more, groups_end, lay_more, lay_done}
use Rattle.matchframe.proofs.match_groups.Statement.{statement}
use Rattle.matchframe.proofs.match_groups.Tie as tie

abbrev invariant-loop : tie.invariant-loop-i
invariant-loop left right number rules m out₀ at₀ end₀ i₀ out at end i =
    (i ≤ left.count) × (length out ≡ length out₀) × RunAt (with_list rules.terms rules.codes.now rules.rising.now) right.width right.count right.values.now right.marks.now at end
    × (lay m 0 (by_runs (with_list rules.terms rules.codes.now rules.rising.now) number (runs (with_list rules.terms rules.codes.now rules.rising.now) (rows_of right.width right.count right.values.now right.marks.now)) (runs (with_list rules.terms rules.codes.now rules.rising.now) (rows_of left.width left.count left.values.now left.marks.now))) out₀ ≡ lay m i (groups_from (with_list rules.terms rules.codes.now rules.rising.now) number m left.width left.count left.values.now left.marks.now right.width right.count right.values.now right.marks.now at i) out)

abbrev decreases-loop : tie.decreases-loop-i
decreases-loop left right number rules m out₀ at₀ end₀ i₀ out at end i = left.count - i

-- the left run at row i has a row and ends within the rows
ahead : (c : tie.After-run_end-e invariant-loop decreases-loop) → (c.loop-i.i < c.run_end-e.result) × (c.run_end-e.result ≤ c.args.left.count)
ahead c =
    let a = c.args in
    let i = c.loop-i.i in
    let u = run_up (with_list a.rules.terms a.rules.codes.now a.rules.rising.now) a.left.width a.left.count a.left.values.now a.left.marks.now i c.loop-i-test.true in
    let v = run_within (with_list a.rules.terms a.rules.codes.now a.rules.rising.now) a.left.width a.left.count a.left.values.now a.left.marks.now i c.loop-i-test.true in
    let q = c.run_end-e.ensures in
    (omega arith, omega arith)

room : (c : tie.After-run_end-e invariant-loop decreases-loop) → let a = c.args in c.loop-i.i * a.left.width + a.left.width ≤ a.left.count * a.left.width
room c = let a = c.args in row_room c.loop-i.i a.left.count a.left.width c.loop-i-test.true

run-end-requires : tie.Need-run_end-end-requires invariant-loop decreases-loop
run-end-requires c κs = record { rows = c.requires.right; within = omega arith }

loop-holds : tie.Need-loop-i-init invariant-loop decreases-loop
loop-holds c =
    let s = c in
    let a = s.args in (
      omega arith,
      refl,
      record { rows = s.requires.right; within = omega arith; run = c.run_end-end.ensures },
      ap (λ (ks : List (Option ℕ)). lay a.m 0 ks a.out.now) (groups_all (with_list a.rules.terms a.rules.codes.now a.rules.rising.now) a.number a.m a.left.width a.left.count a.left.values.now a.left.marks.now a.right.width a.right.count a.right.values.now a.right.marks.now),
    )

run-end-requires-2 : tie.Need-run_end-e-requires invariant-loop decreases-loop
run-end-requires-2 c κs = record { rows = c.requires.left; within = c.loop-i.invariant.0 }

mul-serve : tie.Need-overflow_mul-i invariant-loop decreases-loop
mul-serve c = let r = room c in let p = c.requires.left in omega arith

serve-requires : tie.Need-serve-r-requires invariant-loop decreases-loop
serve-requires c κs =
    let r = room c in
    let p = c.requires.left in
    (record { left = record { few = p.few; values = omega arith; marks = omega arith }; right = c.loop-i.invariant.2 }, λ (e : false ≡ true). absurd cc)

-- what a run needs to be matched
run_room : (c : tie.After-serve-r invariant-loop decreases-loop) →
    let e = c in
    let l = e.loop-i in
    let a = e.args in
    let r = c.serve-r.result in
    RunRoom (without_list a.rules.terms) a.left.width a.m a.left.values.now a.left.marks.now l.i e.run_end-e.result a.right.width a.right.values.now a.right.marks.now r.at r.used a.number l.out
run_room c =
    let e = c in
    let l = e.loop-i in
    let s = e in
    let p = s.requires in
    let g = c.serve-r.ensures.0 in
    let u = ahead e.before in
    let h = mul-le-mul_right {m = c.serve-r.result.used} {n = s.args.right.count} s.args.right.width g.within in
    let k = mul-le-mul_right {m = e.run_end-e.result} {n = s.args.left.count} s.args.left.width u.1 in
    let a = s.args in
    room_terms a.rules.terms a.rules.codes.now a.rules.rising.now a.left.width a.m a.left.values.now a.left.marks.now _ _ a.right.width a.right.values.now a.right.marks.now _ _ a.number _
    (record {
      left = record { few = p.left.few; wide = p.left.wide; values = omega (arith, k, p.left.values); marks = omega (arith, k, p.left.marks) };
      upward = omega arith;
      within = omega (arith, u.1, p.within);
      right = record { few = p.right.few; wide = p.right.wide; values = omega (arith, h, p.right.values); marks = omega (arith, h, p.right.marks) };
      run = g.upward;
      numbers = omega (arith, g.within, p.numbers);
      room = omega (arith, p.room, l.invariant.1);
    })

-- once the choices of a run are laid, what is left of the runs is still due
again : (c : tie.After-serve-r invariant-loop decreases-loop) (out : Words) →
    let e = c in
    let l = e.loop-i in
    let a = e.args in
    let r = c.serve-r.result in
    length out ≡ length l.out
    → out ≡ lay a.m l.i (map (match_in (without_list a.rules.terms) (a.number + r.at) (between a.right.width r.at r.used a.right.values.now a.right.marks.now)) (between a.left.width l.i e.run_end-e.result a.left.values.now a.left.marks.now)) l.out
    → invariant-loop a.left a.right a.number a.rules a.m a.out.now 0 0 0 out r.at r.end e.run_end-e.result
again c out long laid =
    let e = c in
    let l = e.loop-i in
    let s = e in
    let a = s.args in
    let g = c.serve-r in
    let m = groups_more (with_list a.rules.terms a.rules.codes.now a.rules.rising.now) a.number a.m a.left.width a.left.count a.left.values.now a.left.marks.now a.right.width a.right.count a.right.values.now a.right.marks.now l.at l.i e.run_end-e.result g.result l.out e.loop-i-test.true e.run_end-e.ensures (g.ensures.1 a.left.width s.requires.left.wide) in (
      (ahead e.before).1,
      long ∙ l.invariant.1,
      g.ensures.0.run,
      l.invariant.3 ∙ rw (laid ∙ lay_terms a.rules.terms a.rules.codes.now a.rules.rising.now a.m l.i (a.number + g.result.at) (between a.right.width g.result.at g.result.used a.right.values.now a.right.marks.now) (between a.left.width l.i e.run_end-e.result a.left.values.now a.left.marks.now) l.out) m,
    )

is-short-requires : tie.Need-is_short-requires invariant-loop decreases-loop
is-short-requires c κs = let p = run_room c in (p.upward, p.run)

-- a short run has one row
one : (c : tie.Then-is_short invariant-loop decreases-loop) → let e = c in e.run_end-e.result ≡ e.loop-i.i + 1
one c =
    let e = c in
    let u = ahead e.before.before.before in
    let r = c.serve-r.result in
    let b = and-true (leb (e.run_end-e.result - e.loop-i.i) 1) (leb (r.used - r.at) 8) (sym c.is_short.ensures ∙ c.if-is_short.true) in
    let l = leb-true (e.run_end-e.result - e.loop-i.i) 1 b.0 in
    omega (arith, u.0, l)

-- its choice
choice : (c : tie.After-match_row-choice invariant-loop decreases-loop) →
    let g = c in
    let l = g.loop-i in
    let a = g.args in
    let r = g.serve-r.result in
    c.match_row-choice.result ≡ match_in (without_list a.rules.terms) (a.number + r.at) (between a.right.width r.at r.used a.right.values.now a.right.marks.now) (row_from a.left.width (l.i * a.left.width) a.left.values.now a.left.marks.now)
choice c =
    let s = c in
    c.match_row-choice.ensures s.args.left.width s.requires.left.wide

mul-match-row : tie.Need-overflow_mul-from invariant-loop decreases-loop
mul-match-row c = let r = room c.before.before.before in let p = c.requires.left in omega arith

match-row-requires : tie.Need-match_row-choice-requires invariant-loop decreases-loop
match-row-requires c κs =
    let r = room c.before.before.before.before in
    let p = run_room c.before.before.before in
    let l = c.requires.left in
    record { left = record { few = p.left.few; values = omega (arith, r, l.values, l.wide); marks = omega (arith, r, l.marks, l.wide) }; right = p.right; upward = p.run; numbers = p.numbers }

put-requires : tie.Need-put-requires invariant-loop decreases-loop
put-requires c κs =
    let g = c in
    let a = g.args in
    let p = run_room g.before.before.before.before.before in
    let u = ahead g.before.before.before.before.before.before in
    let e = between_length a.right.width a.right.values.now a.right.marks.now g.serve-r.result.at g.serve-r.result.used in
    (record { there = omega (arith, u.0, p.within); room = p.room }, rw (choice c.before) (match_small (without_list a.rules.terms) (a.number + g.serve-r.result.at) _ _ (omega (arith, p.run, p.numbers))))

loop-less : tie.Need-loop-i-smaller-then-is_short invariant-loop decreases-loop
loop-less c = let e = c in let u = ahead e.before.before.before.before.before.before.before.before in let t = e.loop-i-test.true in omega arith

loop-again : tie.Need-loop-i-preserved-then-is_short invariant-loop decreases-loop
loop-again c =
    let g = c in
    let a = g.args in
    let l = g.loop-i in
    let r = g.serve-r.result in
    let e = g.run_end-e.result in
    let f = match_in (without_list a.rules.terms) (a.number + r.at) (between a.right.width r.at r.used a.right.values.now a.right.marks.now) in
    let n = one c.before.before.before.before.before in
    let u = ahead g.before.before.before.before.before.before.before.before in
    let laid : c.put.new.out ≡ lay a.m l.i (map f (between a.left.width l.i e a.left.values.now a.left.marks.now)) l.out =
    sym (lay_more a.m f a.left.width a.left.values.now a.left.marks.now l.i e l.out u.0 ∙ rw (n, c.put.ensures, choice c.before.before.before) (lay_done a.m f a.left.width a.left.values.now a.left.marks.now (l.i + 1) _)) in
    again g.before.before.before.before.before.before.before c.put.new.out c.put.auto.out laid

match-run-requires : tie.Need-match_run-requires invariant-loop decreases-loop
match-run-requires c κs = run_room c.before.before.before.before

loop-less-2 : tie.Need-loop-i-smaller invariant-loop decreases-loop
loop-less-2 c = let e = c in let u = ahead e.before.before.before.before.before.before.before in let t = e.loop-i-test.true in omega arith

loop-again-2 : tie.Need-loop-i-preserved invariant-loop decreases-loop
loop-again-2 c = again c.before.before.before.before.before.before _ c.match_run.auto.out c.match_run.ensures

same_length : tie.Need-shape_of-out invariant-loop decreases-loop
same_length c = c.loop-i.invariant.1

returns : tie.Need-returns invariant-loop decreases-loop
returns c =
    let l = c.loop-i in
    let a = c.args in
    let e : l.i ≡ a.left.count = omega (arith, c.loop-i-test.false, l.invariant.0) in
    sym (l.invariant.3 ∙ rw e (groups_end (with_list a.rules.terms a.rules.codes.now a.rules.rising.now) a.number a.m a.left.width a.left.count a.left.values.now a.left.marks.now a.right.width a.right.count a.right.values.now a.right.marks.now l.at l.out))

pub match_groups_spec : {M : Type 1} → statement M
match_groups_spec =
    tie.close
    (tie.spec invariant-loop decreases-loop run-end-requires loop-holds run-end-requires-2 mul-serve serve-requires is-short-requires mul-match-row match-row-requires put-requires loop-less loop-again match-run-requires loop-less-2 loop-again-2 same_length returns)
