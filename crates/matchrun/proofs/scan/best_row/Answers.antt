-- `scan::best_row` meets its contract. Assumes nothing.
use mathlib.Core.Path.{◌≡◌, refl, sym, ap, ◌∙◌}
use Prim.Native.Nat.{◌+◌, ◌<◌}
use native.Mathlib.Omega.{arith}
use mir.Facts.{to_z-of_z}
use Rattle.order.specs.options.Options.{without_list}
use Rattle.matching.specs.Match.{Hit, fits, choose}
use Rattle.matching.specs.Stretches.{between, hit_at}
use Rattle.matching.proofs.BestLaws.{hit_none, scan_more, scan_end}
use Rattle.matchrun.proofs.scan.best_row.Goals as goal

pub loop-j-init : goal.loop-j-init
loop-j-init c =
    let a = c.args in
    record {
      kept = record { within = omega arith; keyed = λ (h : a.to < a.to). absurd (omega arith) };
      met = λ first x ex. rw (hit_none first a.right.width a.to a.right.values.now a.right.marks.now a.to refl);
    }

pub meet_row-best-requires : goal.meet_row-best-requires
meet_row-best-requires c =
    let p = c.requires in
    record { rows = p.0; there = c.loop-j-test.true; told = p.2; kept = c.loop-j.invariant.kept }

pub loop-j-preserved : goal.loop-j-preserved
loop-j-preserved c =
    let l = c.loop-j in
    let a = c.args in
    record {
      kept = c.meet_row-best.ensures.kept;
      met = λ first x ex.
          l.invariant.met first x ex
          ∙ scan_more (without_list a.o) x a.right.width a.to a.right.values.now a.right.marks.now first l.j (hit_at first a.right.width a.to a.right.values.now a.right.marks.now l.best) c.loop-j-test.true
          ∙ ap (λ (h : Hit). choose (without_list a.o) x (fits (without_list a.o) x) h (first + (l.j + 1)) (between a.right.width (l.j + 1) a.to a.right.values.now a.right.marks.now)) (sym (c.meet_row-best.ensures.met first x ex));
    }

pub returns : goal.returns
returns c =
    let l = c.loop-j in
    let a = c.args in
    let e : l.j ≡ a.to = omega (arith, l.auto.j, c.requires.1, c.loop-j-test.false) in
    (l.invariant.kept, λ first x ex. sym (rw e at (l.invariant.met first x (rw (to_z-of_z c.ranges.v) ex)) ∙ scan_end (without_list a.o) x a.right.width a.to a.right.values.now a.right.marks.now first _))
