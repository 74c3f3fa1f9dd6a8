use mathlib.Core.Path.{refl}
use native.Mathlib.Omega.{arith}
use Rattle.frames.specs.Frame.{row_count}
use Rattle.buffer.proofs.area.AreaLaws.{push_sizes, push_counts, push_both, push_done, Sizes}
use Rattle.buffer.proofs.area.held.push.Goals as goal

pub overflow_mul-half : goal.overflow_mul-half
overflow_mul-half c =
    let a = c.args in
    omega (arith, (push_sizes c.requires c.capacity.result (row_count a.frame.now) c.capacity.ensures refl).area_long)

pub row_count-requires : goal.row_count-requires
row_count-requires c = push_counts c.requires

-- how long the frame is, and where in the area its rows go
sizes : (c : goal.After-row_count) → Sizes c.requires c.capacity.result c.row_count.result
sizes c = push_sizes c.requires _ _ c.capacity.ensures c.row_count.ensures

pub overflow_mul-e : goal.overflow_mul-e
overflow_mul-e c = omega (arith, sizes c)

pub overflow_add-e : goal.overflow_add-e
overflow_add-e c = omega (arith, sizes c)

pub overflow_mul-base : goal.overflow_mul-base
overflow_mul-base c = omega (arith, sizes c.before)

pub overflow_mul-held : goal.overflow_mul-held
overflow_mul-held c = omega (arith, sizes c.before)

pub slice_bounds-append_both-end : goal.slice_bounds-append_both-end
slice_bounds-append_both-end c = omega (arith, sizes c.before)

pub offset_bounds-frame-e : goal.offset_bounds-frame-e
offset_bounds-frame-e c = omega (arith, sizes c.before.before)

pub slice_bounds-append_both-count-2 : goal.slice_bounds-append_both-count-2
slice_bounds-append_both-count-2 c = omega (arith, sizes c.before.before)

pub slice_bounds-append_both-start-2 : goal.slice_bounds-append_both-start-2
slice_bounds-append_both-start-2 c = omega (arith, sizes c.before.before)

pub append_both-requires : goal.append_both-requires
append_both-requires c =
    let r = c in
    push_both r.requires _ _ r.capacity.ensures r.row_count.ensures

pub returns : goal.returns
returns c =
    let r = c in
    push_done r.requires _ _ r.capacity.ensures r.row_count.ensures _ _ c.append_both.ensures
