use borrow.Author.Rules.{rules}
use mathlib.Core.Path.{◌≡◌}
use mathlib.Core.Bool.{◌&&◌}
use lib.Dec.{ltb}
use lib.IntN.{pos, nat_abs, ◌-ℤ◌}
use lib.ListN.{get_or}
use lib.Signed.{le_z}
use mir.Facts.{to_z-of_z}
use Rattle.frames.proofs.Signed.{back}
use Rattle.matchrun.proofs.choices.near_row.Statement.{statement}
use Rattle.matchrun.proofs.choices.near_row.Tie as tie

-- what `too_far_lem` says of the two keys
far : (c : tie.After-too_far) →
    let a = c.args in
    c.too_far.result ≡ (le_z (pos 0) a.tolerance && ltb (nat_abs a.tolerance) (nat_abs (get_or a.rv.now a.k (pos 0) -ℤ a.v)))
far c =
    let s = c in
    let a = s.args in
    rw (back (get_or a.rv.now a.k (pos 0)) c.too_far-arg-1.given, to_z-of_z s.ranges.v, to_z-of_z s.ranges.tolerance) at c.too_far.ensures

mul-too-far : tie.Need-offset_bounds-rv-k
mul-too-far c = search rules

shared-slice-copy-out-too-far : tie.Need-bounds-rv-k
shared-slice-copy-out-too-far c = search rules

too-far-requires : tie.Need-too_far-requires
too-far-requires c κs = search rules

returns : tie.Need-returns-then-too_far
returns c = (tt, rw (← far c.before, c.if-too_far.true))

returns-2 : tie.Need-returns
returns-2 c = (c.requires.1, rw (← far c.before, c.if-too_far.false))

pub near_row_spec : {M : Type 1} → statement M
near_row_spec = tie.close (tie.spec mul-too-far shared-slice-copy-out-too-far too-far-requires returns returns-2)
