use mathlib.Core.Path.{◌≡◌, ◌∙◌}
use mathlib.Core.Bool.{Bool, true, false}
use Prim.Native.Nat.{ℕ, ◌+◌, ◌-◌, ◌*◌, ◌≤◌, ◌<◌}
use native.Mathlib.Nat.{mul-le-mul_right}
use native.Mathlib.Omega.{arith}
use native.Mathlib.Decide.{dec_lt}
use borrow.Author.Tests.{not-true, not-false}
use lib.IntN.{ℤ, pos}
use lib.ListN.{length, get_or}
use lib.Signed.{lt_z}
use mir.Syntax.{w64}
use mir.Val.{to_z, of_z}
use mir.Facts.{to_z-of_z}
use Rattle.frames.specs.Cells.{value}
use Rattle.frames.proofs.Signed.{back}
use Rattle.order.proofs.RowLaws.{row_room}
use Rattle.matching.proofs.CursorLaws.{back_down}
use Rattle.matchrun.specs.advance.Below.{value_at, below, last_true}
use Rattle.matchrun.proofs.advance.BelowLaws.{last_true_stops}
use Rattle.matchrun.proofs.advance.advance.Statement.{statement}
use Rattle.matchrun.proofs.advance.advance.Tie as tie

abbrev invariant-loop : tie.invariant-loop-row
invariant-loop rv at p moved stop end w v inclusive row₀ place₀ moves₀ row place moves =
    (at ≤ row) × (row ≤ end) × (place ≡ row * w + (p - at * w)) × ((k : ℕ) → at ≤ k → k < row → below inclusive (to_z w64 v) (get_or rv (k * w + (p - at * w)) (pos 0)) ≡ true)
    × (moves ≡ moved + (row - at))

abbrev decreases-loop : tie.decreases-loop-row
decreases-loop rv at p moved stop end w v inclusive row₀ place₀ moves₀ row place moves = end - row

-- four rows end within the rows
room : (c : tie.In-loop-row invariant-loop decreases-loop) → let a = c.args in c.loop-row.row * a.w + a.w + a.w + a.w + a.w ≤ a.end * a.w
room c =
    let a = c.args in
    let row = c.loop-row.row in
    let z : (row + 3) * a.w ≡ row * a.w + a.w + a.w + a.w = omega arith in
    omega (arith, z, row_room (row + 3) a.end a.w (omega (arith, c.loop-row-test.true, c.requires.1.0)))

-- as many rows as words, at most
fits-end : (s : tie.Start invariant-loop decreases-loop) → s.args.end ≤ length s.args.rv.now
fits-end s =
    let m = mul-le-mul_right {m = 1} {n = s.args.w} s.args.end (omega (arith, s.requires.0)) in
    omega (arith, m, s.requires.0)

-- the key of row k, and whether it is below v
abbrev val : (s : tie.Start invariant-loop decreases-loop) → ℕ → ℤ
val s k = value_at s.args.w (s.args.p - s.args.at * s.args.w) s.args.rv.now k

abbrev passes : (s : tie.Start invariant-loop decreases-loop) → ℕ → Bool
passes s k = below s.args.inclusive (to_z w64 (of_z w64 s.args.v)) (val s k)

-- what stands before a row that is below v is below v
down : (s : tie.Start invariant-loop decreases-loop) (i k : ℕ) → s.args.at ≤ i → i ≤ k → k < s.args.end → passes s k ≡ true → passes s i ≡ true
down s i k l g h e = back_down s.args.inclusive (value (val s i)) (value (val s k)) (value (to_z w64 (of_z w64 s.args.v))) (s.requires.1.1.0 i k l g h) e

-- the test of the fourth row
told : (c : tie.After-t20-1 invariant-loop decreases-loop) (t : Bool) →
    let s = c in
    let l = c.loop-row in
    lt_z (to_z w64 (of_z w64 (get_or s.args.rv.now (l.place + s.args.w + s.args.w + s.args.w) (pos 0)))) (to_z w64 (of_z w64 c.bound-u.result)) ≡ t
    → passes s.before.before.before.before (l.row + 3) ≡ t
told c t h =
    let s = c in
    let a = s.args in
    let l = c.loop-row in
    let b = c.bound-u in
    let z : l.place + a.w + a.w + a.w ≡ (l.row + 3) * a.w + (a.p - a.at * a.w) = omega (arith, l.invariant.2) in
    b.ensures (val s.before.before.before.before (l.row + 3)) ∙ rw (back (get_or a.rv.now (l.place + a.w + a.w + a.w) (pos 0)) c.t20-1.given, back b.result b.type_inv, z) at h

-- how many rows on the first row is that is not below v, by the tests of the three rows before the fourth
abbrev further : tie.Then-not-rv-last invariant-loop decreases-loop → ℕ
further c =
    let a = c.args in
    let l = c.loop-row in
    let u = to_z w64 (of_z w64 c.bound-u.result) in
    last_true (lt_z (get_or a.rv.now l.place (pos 0)) u) (lt_z (get_or a.rv.now (l.place + a.w) (pos 0)) u) (lt_z (get_or a.rv.now (l.place + a.w + a.w) (pos 0)) u)

-- it is
chosen : (c : tie.Then-not-rv-last invariant-loop decreases-loop) →
    let s = c in
    let l = c.loop-row in
    ((k : ℕ) → l.row ≤ k → k < l.row + further c → passes s.before.before.before.before.before k ≡ true) × (passes s.before.before.before.before.before (l.row + further c) ≡ false) × (further c ≤ 3)
chosen c =
    let s = c in
    let a = s.args in
    let l = c.loop-row in
    let b = c.bound-u in
    let u = to_z w64 (of_z w64 b.result) in
    let v = back b.result b.type_inv in
    let x : l.place + a.w ≡ (l.row + 1) * a.w + (a.p - a.at * a.w) = omega (arith, l.invariant.2) in
    let y : l.place + a.w + a.w ≡ (l.row + 2) * a.w + (a.p - a.at * a.w) = omega (arith, l.invariant.2) in
    last_true_stops (passes s.before.before.before.before.before) l.row (λ i k h g t. down s.before.before.before.before.before i k (omega (arith, h, l.invariant.0)) g (omega (arith, t, c.loop-row-test.true, s.requires.1.0)))
    (told c.before false (not-true _ c.if-not-rv-last.true-raw))
    (lt_z (get_or a.rv.now l.place (pos 0)) u) (lt_z (get_or a.rv.now (l.place + a.w) (pos 0)) u) (lt_z (get_or a.rv.now (l.place + a.w + a.w) (pos 0)) u)
    (b.ensures (val s.before.before.before.before.before l.row) ∙ rw (v, l.invariant.2)) (b.ensures (val s.before.before.before.before.before (l.row + 1)) ∙ rw (v, x)) (b.ensures (val s.before.before.before.before.before (l.row + 2)) ∙ rw (v, y))

loop-holds : tie.Need-loop-row-init invariant-loop decreases-loop
loop-holds c = (omega arith, c.requires.0.within, omega (arith, c.requires.0.start), λ k l h. absurd (omega (arith, l, h)), omega arith)

add-loop : tie.Need-overflow_add-row invariant-loop decreases-loop
add-loop c = omega (arith, fits-end c.before, c.loop-row.invariant.1)

add-last : tie.Need-overflow_add-last invariant-loop decreases-loop
add-last c = let r = room c in omega (arith, c.requires.0, c.loop-row.invariant.2)

add-last-2 : tie.Need-overflow_add-last-in-loop-row invariant-loop decreases-loop
add-last-2 c = let r = room c in omega (arith, c.requires.0, c.loop-row.invariant.2)

add-last-3 : tie.Need-overflow_add-last-in-loop-row-2 invariant-loop decreases-loop
add-last-3 c = let r = room c in omega (arith, c.requires.0, c.loop-row.invariant.2)

bound-requires : tie.Need-bound-u-requires invariant-loop decreases-loop
bound-requires c κs = rw (to_z-of_z c.ranges.v) (c.requires.1.1.1.0 (omega (arith, c.loop-row-test.true, c.loop-row.invariant.0)))

mul-if1 : tie.Need-offset_bounds-rv-last invariant-loop decreases-loop
mul-if1 c = let i = c in let r = room i.before in omega (arith, i.requires.0, i.loop-row.invariant.2)

shared-slice-copy-out-if1 : tie.Need-bounds-rv-last invariant-loop decreases-loop
shared-slice-copy-out-if1 c = let i = c in let r = room i.before in omega (arith, i.requires.0, i.loop-row.invariant.2)

stepped-requires : tie.Need-stepped-passed-requires invariant-loop decreases-loop
stepped-requires c κs =
    let i = c in
    let a = i.args in
    let r = room i.before.before.before in
    let p = i.requires.0 in
    (omega (arith, p, i.loop-row.invariant.2), omega arith, omega (arith, p))

-- how many rows are passed
passed_is : (c : tie.After-stepped-passed invariant-loop decreases-loop) → c.stepped-passed.result ≡ further c.before
passed_is c = omega (arith, c.stepped-passed.ensures)

add_row : tie.Need-overflow_add-row-then-not-rv-last invariant-loop decreases-loop
add_row c =
    let t = c in
    let i = t in
    omega (arith, passed_is c, (chosen t.before).2, fits-end i.before.before.before.before.before.before, i.loop-row-test.true, i.requires.1.0)

add-moves : tie.Need-overflow_add-moves invariant-loop decreases-loop
add-moves c =
    let t = c in
    let i = t in
    let s = i in
    omega (arith, passed_is c, (chosen t.before).2, i.loop-row-test.true, s.requires.1.0, s.requires.1.1.1.1, i.loop-row.invariant.0, i.loop-row.invariant.4)

stepped-requires-2 : tie.Need-stepped-requires invariant-loop decreases-loop
stepped-requires-2 c κs =
    let i = c in
    let r = room i.before.before.before.before in
    let p = i.requires.0 in
    (omega (arith, p, i.loop-row.invariant.2), omega arith, omega arith)

returns : tie.Need-returns-then-not-rv-last invariant-loop decreases-loop
returns c =
    let t = c in
    let i = t in
    let s = i in
    let a = s.args in
    let l = i.loop-row in
    let n = further t.before.before in
    let v = to_z-of_z s.ranges.v in
    let m = chosen t.before.before in
    let y = passed_is c.before in
    let x : l.row + c.stepped-passed.result ≡ l.row + n = omega (arith, y) in
    let e : (l.row + n) * a.w ≡ l.row * a.w + n * a.w = omega arith in
    record {
      upward = omega (arith, l.invariant.0, x);
      within = omega (arith, x, m.2, i.loop-row-test.true, s.requires.1.0);
      place = rw x (omega (arith, e, c.stepped.ensures, l.invariant.2));
      before = λ k g h. rw v at (by k g (rw x at h) (dec_lt k l.row));
      stop = λ h. rw (← x, v) at m.1;
      counted = omega (arith, l.invariant.0, l.invariant.4);
    }
  where
    by : let t = c in
        let s = t in
        let l = t.loop-row in
        (k : ℕ) → s.args.at ≤ k → k < l.row + further t.before.before → Dec (k < l.row) → passes s.before.before.before.before.before.before.before k ≡ true
    by k g h (yes e) = c.loop-row.invariant.3 k g e
    by k g h (no e) = (chosen c.before.before).0 k (omega (arith, e)) h

add-row-2 : tie.Need-overflow_add-row-in-loop-row invariant-loop decreases-loop
add-row-2 c =
    let i = c in
    omega (arith, fits-end i.before.before.before.before.before, i.loop-row-test.true, i.requires.1.0)

add-place : tie.Need-overflow_add-place invariant-loop decreases-loop
add-place c = let i = c in let r = room i.before.before.before in omega (arith, i.requires.0, i.loop-row.invariant.2)

add-moves-2 : tie.Need-overflow_add-moves-in-loop-row invariant-loop decreases-loop
add-moves-2 c =
    let i = c in
    let s = i in
    omega (arith, i.loop-row-test.true, s.requires.1.0, s.requires.1.1.1.1, i.loop-row.invariant.0, i.loop-row.invariant.4)

loop-less : tie.Need-loop-row-smaller invariant-loop decreases-loop
loop-less c = let i = c in omega (arith, i.loop-row-test.true, i.requires.1.0)

loop-again : tie.Need-loop-row-preserved invariant-loop decreases-loop
loop-again c =
    let i = c in
    let s = i in
    let a = s.args in
    let l = i.loop-row in
    let e : (l.row + 4) * a.w ≡ l.row * a.w + a.w + a.w + a.w + a.w = omega arith in
    (omega (arith, l.invariant.0), omega (arith, i.loop-row-test.true, s.requires.1.0), omega (arith, e, l.invariant.2), λ k g h. by k g h (dec_lt k l.row), omega (arith, l.invariant.0, l.invariant.4))
  where
    by : let s = c in
        let l = c.loop-row in
        (k : ℕ) → s.args.at ≤ k → k < l.row + 4 → Dec (k < l.row) → passes s.before.before.before.before.before k ≡ true
    by k g h (yes e) = c.loop-row.invariant.3 k g e
    by k g h (no e) =
        let i = c in
        let l = i.loop-row in
        down i.before.before.before.before.before k (l.row + 3) g (omega (arith, h)) (omega (arith, i.loop-row-test.true, i.requires.1.0)) (told c.before true (not-false _ c.if-not-rv-last.false-raw))

rest-requires : tie.Need-rest-requires invariant-loop decreases-loop
rest-requires c κs =
    let s = c in
    let l = c.loop-row in
    (record { within = l.invariant.1; values = s.requires.0.values; start = omega (arith, l.invariant.2); wide = omega (arith, l.invariant.2, s.requires.0) }, omega (arith, s.requires.1.1.1.1, l.invariant.0, l.invariant.1, l.invariant.4))

returns-2 : tie.Need-returns invariant-loop decreases-loop
returns-2 c =
    let s = c in
    let a = s.args in
    let l = c.loop-row in
    let e : l.place - l.row * a.w ≡ a.p - a.at * a.w = omega (arith, l.invariant.2) in
    let v = to_z-of_z s.ranges.v in
    let r = rw (e, v) at c.rest.ensures in
    record {
      upward = omega (arith, l.invariant.0, r.upward);
      within = r.within;
      place = r.place;
      before = λ k g h. by k g h (dec_lt k l.row);
      stop = r.stop;
      counted = omega (arith, r.counted, r.upward, l.invariant.0, l.invariant.4);
    }
  where
    by : let s = c in
        (k : ℕ) → s.args.at ≤ k → k < c.rest.result.row → Dec (k < c.loop-row.row) → below s.args.inclusive s.args.v (val s.before.before.before k) ≡ true
    by k g h (yes d) = rw (to_z-of_z c.ranges.v) at (c.loop-row.invariant.3 k g d)
    by k g h (no d) =
        let s = c in
        let a = s.args in
        let l = c.loop-row in
        let e : l.place - l.row * a.w ≡ a.p - a.at * a.w = omega (arith, l.invariant.2) in
        let r = rw (e, to_z-of_z s.ranges.v) at c.rest.ensures in
        r.before k (omega (arith, d)) h

pub advance_spec : {M : Type 1} → statement M
advance_spec =
    tie.close
    (tie.spec invariant-loop decreases-loop loop-holds add-loop add-last add-last-2 add-last-3 bound-requires mul-if1 shared-slice-copy-out-if1 stepped-requires add_row add-moves stepped-requires-2 returns add-row-2 add-place add-moves-2 loop-less loop-again rest-requires returns-2)
