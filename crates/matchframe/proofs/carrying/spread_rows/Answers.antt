-- `carrying::spread_rows` meets its contract. Assumes nothing.
use mathlib.Core.Path.{◌≡◌, refl, sym, ap, ◌∙◌}
use Prim.Native.Nat.{◌+◌, ◌-◌, ◌*◌}
use native.Mathlib.Omega.{arith}
use Rattle.order.specs.options.Options.{without_list}
use Rattle.order.specs.Requires.{cell_at}
use Rattle.matchframe.proofs.carrying.SpreadLaws.{spread_on, spread_none, spread_more, spread_all, row_asked}
use Rattle.matchframe.proofs.carrying.spread_rows.Goals as goal

pub loop-i-init : goal.loop-i-init
loop-i-init c =
    let a = c.args in
    record { kept = refl; behind = sym (spread_none (without_list a.o) a.number a.right.width a.right.values.now a.right.marks.now (λ j. cell_at (j * a.left.width + a.o.by) a.left.values.now a.left.marks.now) a.m a.left.count a.out.now) }

pub spread_row-requires : goal.spread_row-requires
spread_row-requires c =
    let l = c.loop-i in
    let a = c.args in
    let z : l.i ≡ l.i - 1 + 1 = omega (arith, c.loop-i-test.true) in
    row_asked (without_list a.o) a.left.count a.left.width a.left.values.now a.left.marks.now a.right.width a.right.count a.right.values.now a.right.marks.now a.number a.m a.out.now c.requires (l.i - 1) l.out (omega (arith, c.loop-i-test.true, l.auto.i)) l.invariant.kept (rw z at l.invariant.behind)

pub loop-i-preserved : goal.loop-i-preserved
loop-i-preserved c =
    let l = c.loop-i in
    let a = c.args in
    let z : l.i ≡ l.i - 1 + 1 = omega (arith, c.loop-i-test.true) in
    record {
      kept = c.spread_row.auto.out ∙ l.invariant.kept;
      behind = c.spread_row.ensures ∙ spread_more (without_list a.o) a.number a.right.width a.right.values.now a.right.marks.now (λ j. cell_at (j * a.left.width + a.o.by) a.left.values.now a.left.marks.now) a.m a.left.count a.out.now c.requires.within (l.i - 1) l.out (omega (arith, c.loop-i-test.true, l.auto.i)) (rw z at l.invariant.behind);
    }

pub returns : goal.returns
returns c =
    let l = c.loop-i in
    let a = c.args in
    let z : l.i ≡ 0 = omega (arith, c.loop-i-test.false) in
    let e : l.out ≡ spread_on (without_list a.o) a.number a.right.width a.right.values.now a.right.marks.now (λ j. cell_at (j * a.left.width + a.o.by) a.left.values.now a.left.marks.now) a.m a.left.count a.out.now 0 = l.invariant.behind ∙ ap (spread_on (without_list a.o) a.number a.right.width a.right.values.now a.right.marks.now (λ j. cell_at (j * a.left.width + a.o.by) a.left.values.now a.left.marks.now) a.m a.left.count a.out.now) z in
    spread_all (without_list a.o) a.left.count a.left.width a.left.values.now a.left.marks.now a.right.width a.right.count a.right.values.now a.right.marks.now a.number a.m a.out.now c.requires l.out e
