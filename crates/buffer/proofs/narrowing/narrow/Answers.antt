-- `narrowing::narrow` meets its contract. Assumes nothing.
use mathlib.Core.Path.{◌≡◌}
use Prim.Native.Nat.{ℕ, suc, ◌+◌, ◌<◌}
use native.Mathlib.Omega.{arith}
use Rattle.order.specs.options.Options.{options_of}
use Rattle.frames.specs.Cells.{row_from, rows_in}
use Rattle.frames.proofs.WordLaws.{rows_length}
use Rattle.searching.specs.Reach.{narrow}
use Rattle.searching.specs.Requires.{range_of}
use Rattle.searching.proofs.ReachLaws.{column_in, narrow_none, narrow_more, narrow_end}
use Rattle.buffer.proofs.narrowing.narrow.Goals as goal

pub loop-j-init : goal.loop-j-init
loop-j-init c =
    let a = c.args in
    let r = a.right in
    record { within = omega arith; narrowed = λ wl h. narrow_none (options_of a.rules) _ _ r.count (rows_length r.width r.count r.values.now r.marks.now) }

pub narrow_by-r-requires : goal.narrow_by-r-requires
narrow_by-r-requires c =
    let l = c.loop-j in
    (c.requires.0, column_in c.requires.1 _ _ (omega (arith, c.requires.1.wide, c.loop-j-test.true)) l.invariant.within, c.loop-j-test.true)

pub loop-j-preserved : goal.loop-j-preserved
loop-j-preserved c =
    let a = c.args in
    let r = a.right in
    let l = c.loop-j in
    let o = options_of a.rules in
    let e : (wl : ℕ) → a.rules.terms.by < wl → range_of c.narrow_by-r.result ≡ narrow o (rows_in r) (row_from wl a.p a.left.values.now a.left.marks.now) (l.j + 1) =
    λ wl h. narrow_more o _ _ l.j _ _ (l.invariant.narrowed wl h) (c.narrow_by-r.ensures r.count wl l.invariant.within h) in
    record { within = narrow_end o _ _ (l.j + 1) r.count _ (rows_length r.width r.count r.values.now r.marks.now) (e (suc a.rules.terms.by) (omega arith)); narrowed = e }

pub returns : goal.returns
returns c = λ wl h.
    let l = c.loop-j in
    let e : l.j ≡ c.args.rules.terms.by = omega arith in
    rw e at (l.invariant.narrowed wl h)
