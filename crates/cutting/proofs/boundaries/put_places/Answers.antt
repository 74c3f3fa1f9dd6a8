-- `boundaries::put_places` meets its contract. Assumes nothing.
use mathlib.Core.Path.{◌≡◌, refl, sym, ◌∙◌}
use Prim.Native.Nat.{◌+◌, ◌-◌, ◌*◌, ◌^◌, ◌<◌}
use native.Mathlib.Nat.{le-mul_of_pos_right}
use native.Mathlib.Omega.{arith}
use mir.Syntax.{w64}
use mir.ValLaws.{to_z_pos}
use Rattle.order.specs.options.Options.{options_of}
use Rattle.frames.specs.Cells.{row_from, rows_in}
use Rattle.frames.proofs.WordLaws.{rows_length}
use Rattle.order.proofs.RowLaws.{rest_all}
use Rattle.cutting.proofs.boundaries.PlaceLaws.{cut_within, place_more, place_none}
use Rattle.cutting.proofs.boundaries.put_places.Goals.{After-cut_place-place}
use Rattle.cutting.proofs.boundaries.put_places.Goals as goal

pub loop-i-init : goal.loop-i-init
loop-i-init c =
    let a = c.args in
    let z : a.bounds.count - 0 ≡ a.bounds.count = omega arith in
    let y : 0 * a.rules.terms.by ≡ 0 = omega arith in
    record { kept = refl; laid = rw (z, y, rest_all (options_of a.rules) a.rules.terms.by a.bounds.values.now a.bounds.marks.now a.bounds.count) }

-- A place is a number of rows, and those lie in memory.
few : (c : After-cut_place-place) → c.cut_place-place.result < 2 ^ 63
few c =
    let a = c.args in
    let r = c.requires.table.rows in
    let w = cut_within (options_of a.rules) (row_from a.rules.terms.by (c.loop-i.i * a.rules.terms.by) a.bounds.values.now a.bounds.marks.now) (rows_in a.rows) in
    omega (arith, c.cut_place-place.ensures, w, rows_length a.rows.width a.rows.count a.rows.values.now a.rows.marks.now, le-mul_of_pos_right {m = a.rows.width} a.rows.count (omega (arith, r.wide)), r.values)

pub overflow_cast-place : goal.overflow_cast-place
overflow_cast-place c = record { sfits = few (goal.at.overflow_cast-place c).After-cut_place-place }

pub loop-i-preserved : goal.loop-i-preserved
loop-i-preserved c =
    let a = c.args in
    let l = c.loop-i in
    let z : a.bounds.count - l.i - 1 ≡ a.bounds.count - (l.i + 1) = omega arith in
    let y : l.i * a.rules.terms.by + a.rules.terms.by ≡ (l.i + 1) * a.rules.terms.by = omega arith in
    record {
      kept = c.put_cell.auto.out ∙ l.invariant.kept;
      laid = l.invariant.laid
          ∙ place_more (options_of a.rules) (rows_in a.rows) a.rules.terms.by a.bounds.values.now a.bounds.marks.now a.bounds.count (l.i * a.rules.terms.by) (a.bounds.count - l.i) l.i l.out (omega (arith, c.loop-i-test.true))
          ∙ rw (z, y, c.put_cell.ensures, to_z_pos w64 c.cut_place-place.result (few (goal.at.loop-i-preserved c).After-cut_place-place), c.cut_place-place.ensures);
    }

pub returns : goal.returns
returns c =
    let a = c.args in
    let l = c.loop-i in
    let z : a.bounds.count - l.i ≡ 0 = omega (arith, c.loop-i-test.false) in
    sym (l.invariant.laid ∙ rw z (place_none (options_of a.rules) (rows_in a.rows) a.rules.terms.by a.bounds.values.now a.bounds.marks.now a.bounds.count (l.i * a.rules.terms.by) l.i l.out))
