use Rattle.std.specs.Prelude.{Option, ℕ}
use mathlib.Core.Path.{◌≡◌, refl, sym, ap, ◌∙◌}
use mathlib.Core.List.{List}
use Prim.Native.Nat.{◌+◌, ◌-◌, ◌*◌, ◌≤◌, ◌<◌}
use native.Mathlib.Nat.{mul-le-mul_right}
use native.Mathlib.Omega.{arith}
use lib.ListN.{length}
use mathlib.Core.Bool.{true, false}
use Rattle.order.specs.options.Options.{with_list, without_list}
use Rattle.frames.specs.Cells.{rows_of, row_from}
use Rattle.order.proofs.RowLaws.{row_room}
use Rattle.matching.specs.Groups.{runs, by_runs}
use Rattle.matching.specs.Stretches.{between, lay}
use Rattle.order.specs.Order.{null_group}
use Rattle.matching.specs.Loops.{RunAt}
use Rattle.matching.specs.Moves.{keys_sorted}
use Rattle.matching.proofs.TermLaws.{room_terms, lay_terms, sorted_terms}
use Rattle.groups.proofs.sortedruns.RunsLaws.{run_keys}
use Rattle.matching.proofs.WalkLaws.{run_up, run_within}
use Rattle.matching.proofs.LayLaws.{groups_from, groups_all, groups_more, groups_end}
use Rattle.matchframe.proofs.sortedrows.match_runs.Statement.{statement}
use Rattle.matchframe.proofs.sortedrows.match_runs.Tie as tie

abbrev invariant-loop : tie.invariant-loop-i
invariant-loop left right number rules m out₀ at₀ end₀ i₀ out at end i =
    (i ≤ left.count) × (length out ≡ length out₀) × RunAt (with_list rules.terms rules.codes.now rules.rising.now) right.width right.count right.values.now right.marks.now at end
    × (lay m 0 (by_runs (with_list rules.terms rules.codes.now rules.rising.now) number (runs (with_list rules.terms rules.codes.now rules.rising.now) (rows_of right.width right.count right.values.now right.marks.now)) (runs (with_list rules.terms rules.codes.now rules.rising.now) (rows_of left.width left.count left.values.now left.marks.now))) out₀ ≡ lay m i (groups_from (with_list rules.terms rules.codes.now rules.rising.now) number m left.width left.count left.values.now left.marks.now right.width right.count right.values.now right.marks.now at i) out)

abbrev decreases-loop : tie.decreases-loop-i
decreases-loop left right number rules m out₀ at₀ end₀ i₀ out at end i = left.count - i

-- the left run at row i has a row and ends within the rows
ahead : (c : tie.After-sorted_end-e invariant-loop decreases-loop) → (c.loop-i.i < c.sorted_end-e.result) × (c.sorted_end-e.result ≤ c.args.left.count)
ahead c =
    let a = c.args in
    let i = c.loop-i.i in
    let u = run_up (with_list a.rules.terms a.rules.codes.now a.rules.rising.now) a.left.width a.left.count a.left.values.now a.left.marks.now i c.loop-i-test.true in
    let v = run_within (with_list a.rules.terms a.rules.codes.now a.rules.rising.now) a.left.width a.left.count a.left.values.now a.left.marks.now i c.loop-i-test.true in
    let q = c.sorted_end-e.ensures in
    (omega arith, omega arith)

room : (c : tie.After-sorted_end-e invariant-loop decreases-loop) → let a = c.args in c.loop-i.i * a.left.width + a.left.width ≤ a.left.count * a.left.width
room c = let a = c.args in row_room c.loop-i.i a.left.count a.left.width c.loop-i-test.true

sorted-end-requires : tie.Need-sorted_end-end-requires invariant-loop decreases-loop
sorted-end-requires c κs = (record { rows = c.requires.0.right; in_order = c.requires.1.right }, omega arith)

loop-holds : tie.Need-loop-i-init invariant-loop decreases-loop
loop-holds c =
    let s = c in
    let a = s.args in (
      omega arith,
      refl,
      record { rows = s.requires.0.right; within = omega arith; run = c.sorted_end-end.ensures },
      ap (λ (ks : List (Option ℕ)). lay a.m 0 ks a.out.now) (groups_all (with_list a.rules.terms a.rules.codes.now a.rules.rising.now) a.number a.m a.left.width a.left.count a.left.values.now a.left.marks.now a.right.width a.right.count a.right.values.now a.right.marks.now),
    )

sorted-end-requires-2 : tie.Need-sorted_end-e-requires invariant-loop decreases-loop
sorted-end-requires-2 c κs = let s = c in (record { rows = s.requires.0.left; in_order = s.requires.1.left }, c.loop-i.invariant.0)

mul-serve : tie.Need-overflow_mul-i invariant-loop decreases-loop
mul-serve c = let r = room c in let p = c.requires.0.left in omega arith

serve-requires : tie.Need-serve-r-requires invariant-loop decreases-loop
serve-requires c κs =
    let r = room c in
    let p = c.requires.0.left in
    let q = c.requires in
    (record { left = record { few = p.few; values = omega arith; marks = omega arith }; right = c.loop-i.invariant.2 }, λ s. record { rows = q.0.right; in_order = q.1.right })

match-known-requires : tie.Need-match_known-requires invariant-loop decreases-loop
match-known-requires c κs =
    let e = c in
    let l = e.loop-i in
    let s = e in
    let p = s.requires.0 in
    let g = c.serve-r.ensures.0 in
    let u = ahead e.before.before.before in
    let h = mul-le-mul_right {m = c.serve-r.result.used} {n = s.args.right.count} s.args.right.width g.within in
    let k = mul-le-mul_right {m = e.sorted_end-e.result} {n = s.args.left.count} s.args.left.width u.1 in
    let a = s.args in
    let known : null_group (without_list a.rules.terms) (row_from a.left.width (l.i * a.left.width) a.left.values.now a.left.marks.now) ≡ false → keys_sorted (without_list a.rules.terms) (between a.left.width l.i e.sorted_end-e.result a.left.values.now a.left.marks.now) ≡ true = λ n.
    sorted_terms a.rules.terms a.rules.codes.now a.rules.rising.now (between a.left.width l.i e.sorted_end-e.result a.left.values.now a.left.marks.now)
    ∙ run_keys (with_list a.rules.terms a.rules.codes.now a.rules.rising.now) a.left.width a.left.count a.left.values.now a.left.marks.now s.requires.1.left l.i e.sorted_end-e.result e.loop-i-test.true e.sorted_end-e.ensures n in (
      room_terms a.rules.terms a.rules.codes.now a.rules.rising.now a.left.width a.m a.left.values.now a.left.marks.now _ _ a.right.width a.right.values.now a.right.marks.now _ _ a.number _
          (record {
            left = record { few = p.left.few; wide = p.left.wide; values = omega (arith, k, p.left.values); marks = omega (arith, k, p.left.marks) };
            upward = omega arith;
            within = omega (arith, u.1, p.within);
            right = record { few = p.right.few; wide = p.right.wide; values = omega (arith, h, p.right.values); marks = omega (arith, h, p.right.marks) };
            run = g.upward;
            numbers = omega (arith, g.within, p.numbers);
            room = omega (arith, p.room, l.invariant.1);
          }),
      u.0,
      known,
      c.serve-r.ensures.2 refl,
    )

loop-less : tie.Need-loop-i-smaller invariant-loop decreases-loop
loop-less c = let u = ahead c.before.before.before.before.before in let t = c.loop-i-test.true in omega arith

loop-again : tie.Need-loop-i-preserved invariant-loop decreases-loop
loop-again c =
    let e = c in
    let l = e.loop-i in
    let s = e in
    let a = s.args in
    let g = c.serve-r in
    let m = groups_more (with_list a.rules.terms a.rules.codes.now a.rules.rising.now) a.number a.m a.left.width a.left.count a.left.values.now a.left.marks.now a.right.width a.right.count a.right.values.now a.right.marks.now l.at l.i e.sorted_end-e.result g.result l.out e.loop-i-test.true e.sorted_end-e.ensures (g.ensures.1 a.left.width s.requires.0.left.wide) in (
      (ahead e.before.before.before.before.before).1,
      c.match_known.auto.out ∙ l.invariant.1,
      g.ensures.0.run,
      l.invariant.3 ∙ rw (c.match_known.ensures ∙ lay_terms a.rules.terms a.rules.codes.now a.rules.rising.now a.m l.i (a.number + g.result.at) (between a.right.width g.result.at g.result.used a.right.values.now a.right.marks.now) (between a.left.width l.i e.sorted_end-e.result a.left.values.now a.left.marks.now) l.out) m,
    )

same_length : tie.Need-shape_of-out invariant-loop decreases-loop
same_length c = c.loop-i.invariant.1

returns : tie.Need-returns invariant-loop decreases-loop
returns c =
    let l = c.loop-i in
    let a = c.args in
    let e : l.i ≡ a.left.count = omega (arith, c.loop-i-test.false, l.invariant.0) in
    sym (l.invariant.3 ∙ rw e (groups_end (with_list a.rules.terms a.rules.codes.now a.rules.rising.now) a.number a.m a.left.width a.left.count a.left.values.now a.left.marks.now a.right.width a.right.count a.right.values.now a.right.marks.now l.at l.out))

pub match_runs_spec : {M : Type 1} → statement M
match_runs_spec =
    tie.close
    (tie.spec invariant-loop decreases-loop sorted-end-requires loop-holds sorted-end-requires-2 mul-serve serve-requires match-known-requires loop-less loop-again same_length returns)
