-- `planwalk::step` meets its contract. Assumes nothing.
use Prim.Native.Nat.{◌+◌, ◌^◌, ◌<◌}
use native.Mathlib.Omega.{arith}
use lib.Dec.{ltb}
use lib.ListN.{length}
use Rattle.planning.specs.Heights.{heights_of}
use Rattle.planning.proofs.HeightLaws.{heights_count}
use Rattle.planning.proofs.planwalk.WalkLaws.{heights_here, heights_next, tables_in_lem, turn_in_lem, turn_stands}
use Rattle.planning.proofs.planwalk.step.Statement.{statement}
use Rattle.planning.proofs.planwalk.step.Tie as tie

-- How many words a slice can have.
record Sizes (s : tie.Start) : Type 0 where
  left_heights : length (heights_of s.args.hl.now) + 1 < 2 ^ 64
  right : length s.args.right.values.now < 2 ^ 64
  right_heights : length (heights_of s.args.hr.now) + 1 < 2 ^ 64

sizes : (s : tie.Start) → Sizes s
sizes s =
    let h = s.well_formed.1.1.0 in
    let j = s.well_formed.1.1.1.1.0 in
    record { left_heights = omega (arith, heights_count s.args.hl.now, h.0, h.1); right = omega arith; right_heights = omega (arith, heights_count s.args.hr.now, j.0, j.1) }

height-or-none-requires : tie.Need-height_or_none-n-requires
height-or-none-requires c κs = c.requires.0.left_heights

height-or-none-requires-2 : tie.Need-height_or_none-h-requires
height-or-none-requires-2 c κs = c.requires.0.right_heights

take-turn-requires : tie.Need-take_turn-requires
take-turn-requires c κs =
    let n = c.height_or_none-n in
    let h = c.height_or_none-h in
    let s = c in
    let a = s.args in
    let z = sizes s.before.before.before in
    turn_in_lem (tables_in_lem s.requires.0) s.requires.1 (heights_here a.hl.now a.s.lefts n.result s.requires.2 n.ensures) (ltb a.s.rights (length a.hr.now)) h.result _ (heights_next a.hr.now a.s.rights h.result h.ensures) z.left_heights z.right_heights z.right

returns : tie.Need-returns
returns c =
    let n = c.height_or_none-n in
    let h = c.height_or_none-h in
    let s = c in
    let a = s.args in
    turn_stands (tables_in_lem s.requires.0) s.requires.1 (heights_here a.hl.now a.s.lefts n.result s.requires.2 n.ensures) (ltb a.s.rights (length a.hr.now)) h.result _ (heights_next a.hr.now a.s.rights h.result h.ensures) c.take_turn.result c.take_turn.ensures

pub step_spec : {M : Type 1} → statement M
step_spec = tie.close (tie.spec height-or-none-requires height-or-none-requires-2 take-turn-requires returns)
