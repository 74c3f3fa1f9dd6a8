use mathlib.Core.Path.{◌≡◌, sym, ◌∙◌}
use Prim.Native.Nat.{◌+◌, ◌-◌, ◌*◌}
use native.Mathlib.Omega.{arith}
use Rattle.frames.proofs.Signed.{back}
use Rattle.matchrun.specs.advance.Below.{value_at, HasNext}
use Rattle.matchrun.proofs.advance.BelowLaws.{next_before}
use Rattle.matchrun.proofs.walk.KeyedLaws.{row_before_lem}
use Rattle.matchrun.proofs.walk.fours_to.Goals as goal

-- where the last left row begins
last_row : (c : goal.Else-from-to) → let a = c.args in a.to * a.wl ≡ (a.to - 1) * a.wl + a.wl
last_row c = let a = c.args in row_before_lem a.to a.wl (omega (arith, c.if-from-to.false, c.requires.2))

pub returns-then-end-at : goal.returns-then-end-at
returns-then-end-at c = (c.requires.3, λ h. absurd (omega (arith, h)))

pub returns-then-from-to : goal.returns-then-from-to
returns-then-from-to c = (c.requires.3, λ h. absurd (omega (arith, h)))

pub overflow_mul-last : goal.overflow_mul-last
overflow_mul-last c = omega (arith, last_row c, c.requires)

pub overflow_add-last : goal.overflow_add-last
overflow_add-last c = omega (arith, last_row c, c.requires)

pub offset_bounds-lv-last : goal.offset_bounds-lv-last
offset_bounds-lv-last c = omega (arith, last_row c, c.requires)

pub bounds-lv-last : goal.bounds-lv-last
bounds-lv-last c = omega (arith, last_row c, c.requires)

pub returns-then-is_greatest : goal.returns-then-is_greatest
returns-then-is_greatest c = (c.requires.3, λ h. absurd (omega (arith, h)))

pub returns : goal.returns
returns c =
    let s = c in
    let a = s.args in
    let key = value_at a.wl a.by a.lv.now in
    let last : HasNext (key (a.to - 1)) = sym (rw (back (key (a.to - 1)) c.is_greatest-arg-1.given) at c.is_greatest.ensures) ∙ c.if-is_greatest.false in
    (omega arith, λ h k l g. next_before (key k) (key (a.to - 1)) (s.requires.4 k (a.to - 1) l (omega (arith, g)) (omega (arith, g))) last)
