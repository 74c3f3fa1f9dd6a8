-- `carrying::key_distance` meets its contract. Assumes nothing.
use mathlib.Core.Path.{◌≡◌, sym, ◌∙◌}
use mathlib.Core.Bool.{false}
use lib.IntN.{pos}
use lib.ListN.{get_or}
use Rattle.frames.specs.Cells.{is_null, cell_of}
use Rattle.frames.proofs.Signed.{back}
use Rattle.order.specs.Requires.{cell_at}
use Rattle.matchframe.proofs.carrying.DistanceLaws.{first_null, second_null, both_values}
use Rattle.matchframe.proofs.carrying.key_distance.Goals as goal

pub returns-then-null_at : goal.returns-then-null_at
returns-then-null_at c = let a = c.args in first_null (cell_at a.b a.right.values.now a.right.marks.now) (cell_at a.a a.left.values.now a.left.marks.now) (sym (c.null_at.ensures a.right.values.now) ∙ c.if-null_at.true)

pub returns-then-null_at-2 : goal.returns-then-null_at-2
returns-then-null_at-2 c = let a = c.args in second_null (cell_at a.b a.right.values.now a.right.marks.now) (cell_at a.a a.left.values.now a.left.marks.now) (sym (c.null_at-2.ensures a.left.values.now) ∙ c.if-null_at-2.true)

pub returns : goal.returns
returns c =
    let x = c in
    let a = x.args in
    let v = get_or a.right.values.now a.b (pos 0) in
    let m = get_or a.right.marks.now a.b (pos 0) in
    let u = get_or a.left.values.now a.a (pos 0) in
    let n = get_or a.left.marks.now a.a (pos 0) in
    let e : is_null (cell_of v m) ≡ false = sym (x.null_at.ensures a.right.values.now) ∙ c.if-null_at.false in
    let f : is_null (cell_of u n) ≡ false = sym (c.null_at-2.ensures a.left.values.now) ∙ c.if-null_at-2.false in
    c.distance.ensures ∙ rw (back v c.distance-arg-1.given, back u c.distance-arg-2-1.given) (both_values v m u n e f)
