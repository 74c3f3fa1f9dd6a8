use mathlib.Core.Path.{◌≡◌, refl, sym, ◌∙◌}
use mathlib.Core.Bool.{true, false}
use Prim.Native.Nat.{ℕ, ◌+◌, ◌-◌, ◌*◌}
use native.Mathlib.Omega.{arith}
use borrow.Author.Tests.{not-false}
use lib.IntN.{pos}
use lib.ListN.{get_or}
use lib.Signed.{lt_z}
use mir.Facts.{to_z-of_z}
use Rattle.matching.proofs.MayLaws.{never}
use Rattle.matchrun.proofs.look.FitLaws.{four_rows}
use Rattle.matchrun.proofs.look.four_above.Goals as goal

-- four rows, each w words wide, end where row i begins
room : (c : goal.Start) → let a = c.args in (a.i - 4) * a.w + a.w + a.w + a.w + a.w ≡ a.i * a.w
room c = let e : c.args.i - 4 + 4 ≡ c.args.i = omega (arith, c.requires.0) in four (c.args.i - 4) c.args.w ∙ rw e
  where
    four : (n w : ℕ) → n * w + w + w + w + w ≡ (n + 4) * w
    four n w = omega arith

pub overflow_sub-a : goal.overflow_sub-a
overflow_sub-a c = omega (arith, c.requires.0)

pub overflow_mul-a : goal.overflow_mul-a
overflow_mul-a c = let r = room c in omega (arith, c.requires.1, c.requires.2)

pub overflow_add-a : goal.overflow_add-a
overflow_add-a c = let r = room c in omega (arith, c.requires.1, c.requires.2)

pub above-requires : goal.above-requires
above-requires c = let r = room c in omega (arith, c.requires.1, c.requires.2)

pub returns-then-not-above : goal.returns-then-not-above
returns-then-not-above c = λ t. never false t refl

pub overflow_add-b : goal.overflow_add-b
overflow_add-b c = let s = c in let r = room s.before.before in omega (arith, s.requires.1, s.requires.2)

pub above-requires-2 : goal.above-requires-2
above-requires-2 c = let s = c in let r = room s.before.before in omega (arith, s.requires.1, s.requires.2)

pub returns-then-not-above-2 : goal.returns-then-not-above-2
returns-then-not-above-2 c = λ t. never false t refl

pub overflow_add-c : goal.overflow_add-c
overflow_add-c c = let s = c in let r = room s.before.before.before.before in omega (arith, s.requires.1, s.requires.2)

pub above-requires-3 : goal.above-requires-3
above-requires-3 c = let s = c in let r = room s.before.before.before.before in omega (arith, s.requires.1, s.requires.2)

pub returns-then-not-above-3 : goal.returns-then-not-above-3
returns-then-not-above-3 c = λ t. never false t refl

pub overflow_add-c-2 : goal.overflow_add-c-2
overflow_add-c-2 c = let s = c in let r = room s.before.before.before.before.before.before in omega (arith, s.requires.1, s.requires.2)

pub above-requires-4 : goal.above-requires-4
above-requires-4 c = let s = c in let r = room s.before.before.before.before.before.before in omega (arith, s.requires.1, s.requires.2)

pub returns : goal.returns
returns c =
    let s = c in
    let a = s.args in
    let v = to_z-of_z s.ranges.v in
    let one = c in
    let two = c in
    let three = c in
    λ t k l h.
    four_rows (λ j. lt_z a.v (get_or a.rv.now j (pos 0)) ≡ true) (a.i - 4) a.w a.by
    (sym (rw v at one.above.ensures) ∙ not-false one.above.result c.if-not-above.false-raw)
    (sym (rw v at two.above-2.ensures) ∙ not-false two.above-2.result c.if-not-above-2.false-raw)
    (sym (rw v at three.above-3.ensures) ∙ not-false three.above-3.result c.if-not-above-3.false-raw)
    (sym (rw v at c.above-4.ensures) ∙ t)
    k
    (omega (arith, l))
    (omega (arith, h, s.requires.0))
