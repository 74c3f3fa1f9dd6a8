use mathlib.Core.Path.{◌≡◌, refl, sym, ◌∙◌}
use mathlib.Core.Bool.{true, ◌&&◌}
use Prim.Native.Nat.{ℕ, ◌+◌, ◌-◌, ◌*◌, ◌≤◌, ◌<◌}
use native.Mathlib.Nat.{mul-le-mul_right}
use native.Mathlib.Omega.{arith}
use borrow.Author.Tests.{not-true, not-false}
use lib.IntN.{ℤ, pos}
use lib.ListN.{length, get_or}
use mir.Syntax.{w64}
use mir.Val.{to_z, of_z}
use mir.Facts.{to_z-of_z}
use Rattle.frames.specs.Cells.{value}
use Rattle.frames.proofs.Signed.{back}
use Rattle.order.proofs.RowLaws.{row_room}
use Rattle.order.specs.declared.options.Strategy.TheVariants.{Nearest}
use Rattle.matching.specs.Moves.{NotAbove, Rising, Behind}
use Rattle.matchrun.specs.advance.Below.{value_at, keyed}
use Rattle.matchrun.specs.approach.Near.{closes, steps_on}
use Rattle.matchrun.proofs.approach.NearLaws.{steps_few, steps_stop, steps_behind, three_behind}
use Rattle.matchrun.proofs.approach.approach.Statement.{statement}
use Rattle.matchrun.proofs.approach.approach.Tie as tie

abbrev invariant-loop : tie.invariant-loop-row
invariant-loop rv at p moved end w v row₀ place₀ moves₀ row place moves =
    (at ≤ row) × (row < end) × (place ≡ row * w + (p - at * w))
    × ((start : ℕ) → start ≤ at → Rising (keyed w (p - at * w) rv) start end → Behind Nearest true (keyed w (p - at * w) rv) start (value (to_z w64 v)) at
    → Behind Nearest true (keyed w (p - at * w) rv) start (value (to_z w64 v)) row)
    × (moves ≡ moved + (row - at))

abbrev decreases-loop : tie.decreases-loop-row
decreases-loop rv at p moved end w v row₀ place₀ moves₀ row place moves = end - row

-- four rows end within the rows
room : (c : tie.In-loop-row invariant-loop decreases-loop) → let a = c.args in c.loop-row.row * a.w + a.w + a.w + a.w + a.w ≤ a.end * a.w
room c =
    let a = c.args in
    let row = c.loop-row.row in
    let z : (row + 3) * a.w ≡ row * a.w + a.w + a.w + a.w = omega arith in
    omega (arith, z, row_room (row + 3) a.end a.w (omega (arith, c.loop-row-test.true)))

-- the last of them has a place
within : (c : tie.In-loop-row invariant-loop decreases-loop) → let a = c.args in c.loop-row.place + a.w + a.w + a.w < length a.rv.now
within c = let r = room c in omega (arith, c.requires.0, c.loop-row.invariant.2)

-- as many rows as words, at most
fits-end : (s : tie.Start invariant-loop decreases-loop) → s.args.end ≤ length s.args.rv.now
fits-end s =
    let m = mul-le-mul_right {m = 1} {n = s.args.w} s.args.end (omega (arith, s.requires.0)) in
    omega (arith, m, s.requires.0)

-- the key of row k, and where it stands for the three rows behind the cursor
abbrev val : (s : tie.Start invariant-loop decreases-loop) → ℕ → ℤ
val s k = value_at s.args.w (s.args.p - s.args.at * s.args.w) s.args.rv.now k

abbrev at_place : tie.In-loop-row invariant-loop decreases-loop → ℕ → ℤ
at_place c k = get_or c.args.rv.now k (pos 0)

places : (c : tie.In-loop-row invariant-loop decreases-loop) →
    let s = c in
    let l = c.loop-row in
    (at_place c l.place ≡ val s.before.before l.row) × (at_place c (l.place + s.args.w) ≡ val s.before.before (l.row + 1)) × (at_place c (l.place + s.args.w + s.args.w) ≡ val s.before.before (l.row + 2))
    × (at_place c (l.place + s.args.w + s.args.w + s.args.w) ≡ val s.before.before (l.row + 3))
places c =
    let a = c.args in
    let l = c.loop-row in
    let x : l.place + a.w ≡ (l.row + 1) * a.w + (a.p - a.at * a.w) = omega (arith, l.invariant.2) in
    let y : l.place + a.w + a.w ≡ (l.row + 2) * a.w + (a.p - a.at * a.w) = omega (arith, l.invariant.2) in
    let z : l.place + a.w + a.w + a.w ≡ (l.row + 3) * a.w + (a.p - a.at * a.w) = omega (arith, l.invariant.2) in
    (rw l.invariant.2, rw x, rw y, rw z)

-- the keys do not fall
rises : (c : tie.In-loop-row invariant-loop decreases-loop) (i : ℕ) → i < 3 →
    let l = c.loop-row in
    NotAbove (value (val c.before.before (l.row + i))) (value (val c.before.before (l.row + i + 1)))
rises c i h =
    let l = c.loop-row in
    c.requires.1.1.0 (l.row + i) (l.row + i + 1) (omega (arith, l.invariant.0)) (omega arith) (omega (arith, h, c.loop-row-test.true))

risen : (c : tie.In-loop-row invariant-loop decreases-loop) →
    let w = c.args.w in
    let k = c.loop-row.place in
    NotAbove (value (at_place c k)) (value (at_place c (k + w))) × NotAbove (value (at_place c (k + w))) (value (at_place c (k + w + w))) × NotAbove (value (at_place c (k + w + w))) (value (at_place c (k + w + w + w)))
risen c =
    let l = c.loop-row in
    let p = places c in
    let a : l.row + 0 ≡ l.row = omega arith in
    let b : l.row + 1 + 1 ≡ l.row + 2 = omega arith in
    let d : l.row + 2 + 1 ≡ l.row + 3 = omega arith in
    (rw (p.0, p.1) (rw a at (rises c 0 (omega arith))), rw (p.1, p.2) (rw b at (rises c 1 (omega arith))), rw (p.2, p.3) (rw d at (rises c 2 (omega arith))))

-- the left key
abbrev left : tie.Start invariant-loop decreases-loop → ℤ
left s = to_z w64 (of_z w64 s.args.v)

-- what is known of the four keys, by rows
told : (c : tie.After-closes_three invariant-loop decreases-loop) →
    let i = c in
    let s = i in
    let n = i.loop-row.row in
    c.closes_three.result ≡ (closes (left s.before.before.before.before.before.before.before) (val s.before.before.before.before.before.before.before n) (val s.before.before.before.before.before.before.before (n + 1)) && (closes (left s.before.before.before.before.before.before.before) (val s.before.before.before.before.before.before.before (n + 1)) (val s.before.before.before.before.before.before.before (n + 2)) && closes (left s.before.before.before.before.before.before.before) (val s.before.before.before.before.before.before.before (n + 2)) (val s.before.before.before.before.before.before.before (n + 3))))
told c =
    let i = c in
    let a = i.args in
    let k = i.loop-row.place in
    let p = places i.before.before.before.before.before in
    rw (
      back (at_place i.before.before.before.before.before (k + a.w + a.w + a.w)) c.closes_three-arg-1.given,
      back (at_place i.before.before.before.before.before (k + a.w + a.w)) c.c-1.given,
      back (at_place i.before.before.before.before.before (k + a.w)) c.b-1.given,
      back (at_place i.before.before.before.before.before k) c.a-1.given,
      p.0,
      p.1,
      p.2,
      p.3,
    ) at c.closes_three.ensures

-- how many rows the cursor moves on, where it does not pass all
abbrev further : tie.In-loop-row invariant-loop decreases-loop → ℕ
further i =
    let s = i in
    let n = i.loop-row.row in
    steps_on (closes (left s.before.before) (val s.before.before n) (val s.before.before (n + 1))) (closes (left s.before.before) (val s.before.before (n + 1)) (val s.before.before (n + 2)))

loop-holds : tie.Need-loop-row-init invariant-loop decreases-loop
loop-holds c = (omega arith, c.requires.1.0, omega (arith, c.requires.0.start), λ start l u b. b, omega arith)

sub-loop : tie.Need-overflow_sub-end invariant-loop decreases-loop
sub-loop c = omega (arith, c.loop-row.invariant.1)

add-q : tie.Need-overflow_add-q invariant-loop decreases-loop
add-q c = omega (arith, within c)

add_r : tie.Need-overflow_add-r invariant-loop decreases-loop
add_r c = omega (arith, within c)

add-s : tie.Need-overflow_add-s invariant-loop decreases-loop
add-s c = omega (arith, within c)

mul-a : tie.Need-offset_bounds-rv-place invariant-loop decreases-loop
mul-a c = omega (arith, within c)

shared-slice-copy-out-a : tie.Need-bounds-rv-place invariant-loop decreases-loop
shared-slice-copy-out-a c = omega (arith, within c)

mul-b : tie.Need-offset_bounds-rv-q invariant-loop decreases-loop
mul-b c = omega (arith, within c.before)

shared-slice-copy-out-b : tie.Need-bounds-rv-q invariant-loop decreases-loop
shared-slice-copy-out-b c = omega (arith, within c.before)

mul-c : tie.Need-offset_bounds-rv-r invariant-loop decreases-loop
mul-c c = omega (arith, within c.before.before)

shared-slice-copy-out-c : tie.Need-bounds-rv-r invariant-loop decreases-loop
shared-slice-copy-out-c c = omega (arith, within c.before.before)

mul-closes-three : tie.Need-offset_bounds-rv-s invariant-loop decreases-loop
mul-closes-three c = omega (arith, within c.before.before.before)

shared-slice-copy-out-closes-three : tie.Need-bounds-rv-s invariant-loop decreases-loop
shared-slice-copy-out-closes-three c = within c.before.before.before

closes-three-requires : tie.Need-closes_three-requires invariant-loop decreases-loop
closes-three-requires c κs =
    let i = c in
    let a = i.args in
    let k = i.loop-row.place in
    rw (
      back (at_place i.before.before.before.before (k + a.w + a.w + a.w)) c.closes_three-arg-1.given,
      back (at_place i.before.before.before.before (k + a.w + a.w)) c.c-1.given,
      back (at_place i.before.before.before.before (k + a.w)) c.b-1.given,
      back (at_place i.before.before.before.before k) c.a-1.given,
    ) (risen i.before.before.before.before)

settled-requires : tie.Need-settled-passed-requires invariant-loop decreases-loop
settled-requires c κs =
    let e = c in
    let i = e in
    let a = i.args in
    let k = i.loop-row.place in
    let x = back (at_place i.before.before.before.before.before.before (k + a.w + a.w)) e.c-1.given in
    let y = back (at_place i.before.before.before.before.before.before (k + a.w)) e.b-1.given in
    let z = back (at_place i.before.before.before.before.before.before k) e.a-1.given in
    (rw (y, z) (risen i.before.before.before.before.before.before).0, rw (x, y) (risen i.before.before.before.before.before.before).1, omega arith)

-- how many rows are passed, two at most
passed_is : (c : tie.After-settled-passed invariant-loop decreases-loop) →
    let i = c in
    (c.settled-passed.result ≡ further i.before.before.before.before.before.before.before) × (further i.before.before.before.before.before.before.before ≤ 2)
passed_is c =
    let e = c in
    let i = e in
    let s = i in
    let a = s.args in
    let k = i.loop-row.place in
    let n = i.loop-row.row in
    let p = places i.before.before.before.before.before.before.before in
    let x = back (at_place i.before.before.before.before.before.before.before (k + a.w + a.w)) e.c-1.given in
    let y = back (at_place i.before.before.before.before.before.before.before (k + a.w)) e.b-1.given in
    let z = back (at_place i.before.before.before.before.before.before.before k) e.a-1.given in
    let m : c.settled-passed.result ≡ 0 + further i.before.before.before.before.before.before.before * 1 = rw (x, y, z, p.0, p.1, p.2) at c.settled-passed.ensures in
    (omega (arith, m), steps_few (closes (left s.before.before.before.before.before.before.before.before.before) (val s.before.before.before.before.before.before.before.before.before n) (val s.before.before.before.before.before.before.before.before.before (n + 1))) (closes (left s.before.before.before.before.before.before.before.before.before) (val s.before.before.before.before.before.before.before.before.before (n + 1)) (val s.before.before.before.before.before.before.before.before.before (n + 2))))

add_row : tie.Need-overflow_add-row invariant-loop decreases-loop
add_row c =
    let i = c in
    omega (arith, passed_is c, fits-end i.before.before.before.before.before.before.before.before.before, i.loop-row-test.true)

add-moves : tie.Need-overflow_add-moves invariant-loop decreases-loop
add-moves c =
    let i = c in
    let l = i.loop-row in
    omega (arith, passed_is c, i.loop-row-test.true, i.requires.1.1.1, l.invariant.0, l.invariant.4)

settled-requires-2 : tie.Need-settled-requires invariant-loop decreases-loop
settled-requires-2 c κs =
    let e = c in
    let i = e in
    let a = i.args in
    let k = i.loop-row.place in
    let x = back (at_place i.before.before.before.before.before.before.before (k + a.w + a.w)) e.c-1.given in
    let y = back (at_place i.before.before.before.before.before.before.before (k + a.w)) e.b-1.given in
    let z = back (at_place i.before.before.before.before.before.before.before k) e.a-1.given in
    (rw (y, z) (risen i.before.before.before.before.before.before.before).0, rw (x, y) (risen i.before.before.before.before.before.before.before).1, omega (arith, within i.before.before.before.before.before.before.before))

returns : tie.Need-returns-then-not-closes_three invariant-loop decreases-loop
returns c =
    let e = c in
    let i = e in
    let s = i in
    let a = s.args in
    let l = i.loop-row in
    let k = l.place in
    let p = places i.before.before.before.before.before.before.before.before in
    let v = to_z-of_z s.ranges.v in
    let n = further i.before.before.before.before.before.before.before.before in
    let f = back (at_place i.before.before.before.before.before.before.before.before (k + a.w + a.w)) e.c-1.given in
    let g = back (at_place i.before.before.before.before.before.before.before.before (k + a.w)) e.b-1.given in
    let h = back (at_place i.before.before.before.before.before.before.before.before k) e.a-1.given in
    let m = passed_is c.before in
    let x : l.row + c.settled-passed.result ≡ l.row + n = omega (arith, m) in
    let y : c.settled.result ≡ k + n * a.w = rw (f, g, h, p.0, p.1, p.2) at c.settled.ensures in
    let z : (l.row + n) * a.w ≡ l.row * a.w + n * a.w = omega arith in
    let all = sym (told e.before.before.before) ∙ not-true e.closes_three.result c.if-not-closes_three.true-raw in
    record {
      upward = omega (arith, x, l.invariant.0);
      there = omega (arith, m, i.loop-row-test.true);
      place = rw x (omega (arith, y, z, l.invariant.2));
      behind = λ start q u b. rw (← x, v) at (steps_behind (val s.before.before.before.before.before.before.before.before.before.before) (left s.before.before.before.before.before.before.before.before.before.before) l.row start a.end u (omega (arith, q, l.invariant.0)) (omega (arith, i.loop-row-test.true)) (closes (left s.before.before.before.before.before.before.before.before.before.before) (val s.before.before.before.before.before.before.before.before.before.before l.row) (val s.before.before.before.before.before.before.before.before.before.before (l.row + 1))) (closes (left s.before.before.before.before.before.before.before.before.before.before) (val s.before.before.before.before.before.before.before.before.before.before (l.row + 1)) (val s.before.before.before.before.before.before.before.before.before.before (l.row + 2))) refl refl (l.invariant.3 start q u (rw v b)));
      stopped = rw (← x, v) at (steps_stop (val s.before.before.before.before.before.before.before.before.before.before) (left s.before.before.before.before.before.before.before.before.before.before) l.row a.end (closes (left s.before.before.before.before.before.before.before.before.before.before) (val s.before.before.before.before.before.before.before.before.before.before l.row) (val s.before.before.before.before.before.before.before.before.before.before (l.row + 1))) (closes (left s.before.before.before.before.before.before.before.before.before.before) (val s.before.before.before.before.before.before.before.before.before.before (l.row + 1)) (val s.before.before.before.before.before.before.before.before.before.before (l.row + 2))) refl refl all);
      counted = omega (arith, l.invariant.0, l.invariant.4);
    }

add-row-2 : tie.Need-overflow_add-row-in-loop-row invariant-loop decreases-loop
add-row-2 c = omega (arith, c.loop-row-test.true)

add-moves-2 : tie.Need-overflow_add-moves-in-loop-row invariant-loop decreases-loop
add-moves-2 c =
    let i = c in
    omega (arith, i.loop-row-test.true, i.requires.1.1.1, i.loop-row.invariant.0, i.loop-row.invariant.4)

loop-less : tie.Need-loop-row-smaller invariant-loop decreases-loop
loop-less c = omega (arith, c.loop-row-test.true)

loop-again : tie.Need-loop-row-preserved invariant-loop decreases-loop
loop-again c =
    let e = c in
    let i = e in
    let s = i in
    let a = s.args in
    let l = i.loop-row in
    let t = i.loop-row-test.true in
    let z : (l.row + 3) * a.w ≡ l.row * a.w + a.w + a.w + a.w = omega arith in
    let all = sym (told e.before) ∙ not-false e.closes_three.result c.if-not-closes_three.false-raw in (
      omega (arith, l.invariant.0),
      omega (arith, t),
      omega (arith, z, l.invariant.2),
      λ start g u b. three_behind (val s.before.before.before.before.before.before.before.before) (left s.before.before.before.before.before.before.before.before) l.row start a.end u (omega (arith, g, l.invariant.0)) (omega (arith, t)) all (l.invariant.3 start g u b),
      omega (arith, l.invariant.0, l.invariant.4),
    )

creep-requires : tie.Need-creep-requires invariant-loop decreases-loop
creep-requires c κs =
    let s = c in
    let a = s.args in
    let l = c.loop-row in
    let e : l.place - l.row * a.w ≡ a.p - a.at * a.w = omega (arith, l.invariant.2) in (
      record { within = omega (arith, l.invariant.1); values = s.requires.0.values; start = omega (arith, l.invariant.2); wide = omega (arith, l.invariant.2, s.requires.0) },
      (
        l.invariant.1,
        (
          rw e (λ i k g t h. s.requires.1.1.0 i k (omega (arith, g, l.invariant.0)) t h),
          omega (arith, s.requires.1.1.1, l.invariant.0, l.invariant.1, l.invariant.4),
        ),
      ),
    )

returns-2 : tie.Need-returns invariant-loop decreases-loop
returns-2 c =
    let s = c in
    let a = s.args in
    let l = c.loop-row in
    let e : l.place - l.row * a.w ≡ a.p - a.at * a.w = omega (arith, l.invariant.2) in
    let v = to_z-of_z s.ranges.v in
    let r = rw (e, v) at c.creep.ensures in
    record {
      upward = omega (arith, l.invariant.0, r.upward);
      there = r.there;
      place = r.place;
      behind = λ start g u b. r.behind start (omega (arith, g, l.invariant.0)) u (rw v at (l.invariant.3 start g u (rw v b)));
      stopped = r.stopped;
      counted = omega (arith, r.counted, r.upward, l.invariant.0, l.invariant.4);
    }

pub approach_spec : {M : Type 1} → statement M
approach_spec =
    tie.close
    (tie.spec invariant-loop decreases-loop loop-holds sub-loop add-q add_r add-s mul-a shared-slice-copy-out-a mul-b shared-slice-copy-out-b mul-c shared-slice-copy-out-c mul-closes-three shared-slice-copy-out-closes-three closes-three-requires settled-requires add_row add-moves settled-requires-2 returns add-row-2 add-moves-2 loop-less loop-again creep-requires returns-2)
