-- Nearness of keys that do not fall, by distance alone; and where the cursor comes to by the tests of its next three steps. Assumes nothing.
use mathlib.Core.Path.{◌≡◌, refl, sym}
use mathlib.Core.Bool.{Bool, true, false, cond, ◌&&◌}
use Prim.Native.Nat.{ℕ, ◌+◌, ◌*◌, ◌≤◌, ◌<◌}
use native.Mathlib.Omega.{arith}
use borrow.Author.Tests.{leb-true, leb-false}
use lib.Dec.{leb}
use lib.IntN.{ℤ, nat_abs, ◌-ℤ◌}
use lib.Signed.{lt_z}
use Rattle.frames.specs.Cells.{value}
use Rattle.frames.proofs.BoolLaws.{and-true}
use Rattle.order.specs.options.Options.{key_rule}
use Rattle.order.specs.Order.{cmp_cell}
use Rattle.order.proofs.OrderLaws.{IsOrder, cmp_cell_is, at_most, greater_less, three_less}
use Rattle.order.proofs.KeyLaws.{nearer_below}
use Rattle.order.specs.declared.options.Strategy.TheVariants.{Nearest}
use Rattle.matching.specs.Moves.{NotAbove, Rising, Behind, Stopped}
use Rattle.matching.proofs.MayLaws.{never, is_false, nearer_least, nearer_by}
use Rattle.matching.proofs.CursorLaws.{moved}
use Rattle.matchrun.specs.approach.Near.{closes, steps_on}

K : IsOrder (cmp_cell key_rule)
K = cmp_cell_is key_rule

-- ---- of keys a ≤ b: b takes the place of a where it is no farther
pub near_by_distance : (v a b : ℤ) → NotAbove (value a) (value b) → leb (nat_abs (b -ℤ v)) (nat_abs (a -ℤ v)) ≡ closes v a b
near_by_distance v a b h = by (leb (nat_abs (b -ℤ v)) (nat_abs (a -ℤ v))) refl
  where
    by : (t : Bool) → leb (nat_abs (b -ℤ v)) (nat_abs (a -ℤ v)) ≡ t → t ≡ closes v a b
    by true e = sym (nearer_by (value v) (value b) (value a) (leb-true (nat_abs (b -ℤ v)) (nat_abs (a -ℤ v)) e) h)
    by false e = sym (is_false (closes v a b) (λ t. let n = nearer_least (value v) (value b) (value a) t in omega (arith, n, leb-false (nat_abs (b -ℤ v)) (nat_abs (a -ℤ v)) e)))

-- The same by the two distances, and where b is not above v.
pub near_no : (v a b : ℤ) → nat_abs (a -ℤ v) < nat_abs (b -ℤ v) → closes v a b ≡ false
near_no v a b l = is_false (closes v a b) (λ t. let n = nearer_least (value v) (value b) (value a) t in omega (arith, n, l))

pub near_yes : (v a b : ℤ) → NotAbove (value a) (value b) → nat_abs (b -ℤ v) ≤ nat_abs (a -ℤ v) → closes v a b ≡ true
near_yes v a b h l = nearer_by (value v) (value b) (value a) l h

near_below : (v a b : ℤ) → NotAbove (value a) (value b) → NotAbove (value b) (value v) → closes v a b ≡ true
near_below v a b h k = nearer_by (value v) (value b) (value a) (nearer_below (value v) (value b) (value a) refl h k) h

not_over : (d v : ℤ) → lt_z v d ≡ false → NotAbove (value d) (value v)
not_over d v e = λ g. absurd (never (lt_z v d) (three_less (lt_z v d) (lt_z d v) (greater_less K (value d) (value v) g)) e)

-- Of four keys that do not fall, the last of which is not above v: each takes the place of the one before it.
pub three_below : (v a b c d : ℤ) → NotAbove (value a) (value b) → NotAbove (value b) (value c) → NotAbove (value c) (value d) → lt_z v d ≡ false → true ≡ (closes v a b && (closes v b c && closes v c d))
three_below v a b c d h k l e =
    let dv = not_over d v e in
    let cv = at_most K (value c) (value d) (value v) l dv in
    let bv = at_most K (value b) (value c) (value v) k cv in
    rw (near_below v a b h bv, near_below v b c k cv, near_below v c d l dv)

-- ---- three tests together, the last one asked first
pub last_fails : (a b c : Bool) → c ≡ false → false ≡ (a && (b && c))
last_fails true true c e = sym e
last_fails true false c e = refl
last_fails false b c e = refl

pub second_fails : (a b c : Bool) → b ≡ false → false ≡ (a && (b && c))
second_fails true b c e = rw e
second_fails false b c e = refl

pub first_tells : (a b c : Bool) → b ≡ true → c ≡ true → a ≡ (a && (b && c))
first_tells true b c e f = rw (e, f)
first_tells false b c e f = refl

-- Steps by choices.
pub steps_chosen : (start step : ℕ) (a b : Bool) → cond a (cond b (start + step + step) (start + step)) start ≡ start + steps_on a b * step
steps_chosen start step true true = omega arith
steps_chosen start step true false = omega arith
steps_chosen start step false b = omega arith

pub steps_few : (a b : Bool) → steps_on a b ≤ 2
steps_few true true = omega arith
steps_few true false = omega arith
steps_few false b = omega arith

-- ---- the cursor at row n, where three rows stand behind it
module _ (val : ℕ → ℤ) (v : ℤ) (n : ℕ) where
  -- It takes as many steps as the first two tests say, where not all three hold, and stops there.
  pub steps_stop : (end : ℕ) (a b : Bool) → closes v (val n) (val (n + 1)) ≡ a → closes v (val (n + 1)) (val (n + 2)) ≡ b
      → (closes v (val n) (val (n + 1)) && (closes v (val (n + 1)) (val (n + 2)) && closes v (val (n + 2)) (val (n + 3)))) ≡ false
      → Stopped Nearest true (λ k. value (val k)) end (value v) (n + steps_on a b)
  steps_stop end true true p q r = λ h. let e : n + 2 + 1 ≡ n + 3 = omega arith in rw e (rw (p, q) at r)
  steps_stop end true false p q r = λ h. let e : n + 1 + 1 ≡ n + 2 = omega arith in rw e q
  steps_stop end false b p q r = λ h. let e : n + 0 ≡ n = omega arith in rw e p

  module _ (start end : ℕ) (up : Rising (λ k. value (val k)) start end) (l : start ≤ n) (h : n + 3 < end) where
    one : (k : ℕ) → start ≤ k → k + 1 < end → closes v (val k) (val (k + 1)) ≡ true → Behind Nearest true (λ i. value (val i)) start (value v) k → Behind Nearest true (λ i. value (val i)) start (value v) (k + 1)
    one k g t e b = moved true (λ i. value (val i)) start end up Nearest (value v) k g t e b

    -- What is behind it is so after these steps,
    pub steps_behind : (a b : Bool) → closes v (val n) (val (n + 1)) ≡ a → closes v (val (n + 1)) (val (n + 2)) ≡ b
        → Behind Nearest true (λ k. value (val k)) start (value v) n → Behind Nearest true (λ k. value (val k)) start (value v) (n + steps_on a b)
    steps_behind true true p q b =
        let e : n + 1 + 1 ≡ n + 2 = omega arith in
        rw e at (one (n + 1) (omega (arith, l)) (omega (arith, h)) (rw e q) (one n l (omega (arith, h)) p b))
    steps_behind true false p q b = one n l (omega (arith, h)) p b
    steps_behind false t p q b = let e : n + 0 ≡ n = omega arith in rw e b

    -- and after all three.
    pub three_behind : (closes v (val n) (val (n + 1)) && (closes v (val (n + 1)) (val (n + 2)) && closes v (val (n + 2)) (val (n + 3)))) ≡ true
        → Behind Nearest true (λ k. value (val k)) start (value v) n → Behind Nearest true (λ k. value (val k)) start (value v) (n + 3)
    three_behind e b =
        let p = and-true (closes v (val n) (val (n + 1))) (closes v (val (n + 1)) (val (n + 2)) && closes v (val (n + 2)) (val (n + 3))) e in
        let q = and-true (closes v (val (n + 1)) (val (n + 2))) (closes v (val (n + 2)) (val (n + 3))) p.1 in
        let t : n + 2 + 1 ≡ n + 3 = omega arith in
        rw t at (one (n + 2) (omega (arith, l)) (omega (arith, h)) (rw t q.1) (steps_behind true true p.0 q.0 b))
