use mathlib.Core.Path.{◌≡◌, refl, sym, ◌∙◌}
use mathlib.Core.Bool.{true}
use mathlib.Core.List.{map}
use Prim.Native.Nat.{◌+◌, ◌-◌, ◌*◌, ◌^◌, ◌≤◌, ◌<◌}
use native.Mathlib.Nat.{mul-le-mul_right}
use native.Mathlib.Omega.{arith}
use lib.IntN.{ℤ, pos}
use lib.ListN.{length, get_or}
use Rattle.frames.specs.Cells.{value, Words, row_from}
use Rattle.frames.proofs.Signed.{back}
use Rattle.order.specs.options.Options.{without_list}
use Rattle.order.proofs.RowLaws.{row_room}
use Rattle.order.specs.declared.options.Strategy.TheVariants.{Nearest}
use Rattle.matching.specs.Match.{match_in}
use Rattle.matching.specs.Moves.{Behind, walk_on}
use Rattle.matching.specs.Loops.{Small}
use Rattle.matching.specs.Stretches.{between, lay}
use Rattle.matching.proofs.BestLaws.{key_at_lem}
use Rattle.matching.proofs.CursorLaws.{later}
use Rattle.matching.proofs.MoveLaws.{lefts_done}
use Rattle.matching.proofs.LayLaws.{lay_more, lay_done}
use Rattle.matchrun.specs.advance.Below.{value_at, keyed}
use Rattle.matchrun.specs.approach.Near.{Approached}
use Rattle.matchrun.specs.choices.Choices.{unless_far}
use Rattle.matchrun.specs.walk.Keyed.{Marked}
use Rattle.matchrun.proofs.walk.KeyedLaws.{near_counted, Reached, reached_here, near_rests}
use Rattle.matchrun.proofs.nearwalk.nearest.Statement.{statement}
use Rattle.matchrun.proofs.nearwalk.nearest.Tie as tie

abbrev invariant-loop : tie.invariant-loop-i
invariant-loop left m from to right at end number o out₀ by few row₀ place₀ p₀ moves₀ i₀ out row place p moves i =
    (from ≤ i) × (i ≤ to) × (length out ≡ length out₀) × (at ≤ row) × (row < end) × (place ≡ row * right.width + o.by) × (p ≡ i * left.width + o.by)
    × ((u : ℤ) → Reached (keyed left.width o.by left.values.now) from i u → Behind Nearest true (keyed right.width o.by right.values.now) at (value u) row)
    × ((lm rm : Words) → Marked (without_list o) left.width from to left.values.now lm → Marked (without_list o) right.width at end right.values.now rm
    → lay m from (map (match_in (without_list o) (number + at) (between right.width at end right.values.now rm)) (between left.width from to left.values.now lm)) out₀
    ≡ lay m i (map (match_in (without_list o) (number + at) (between right.width at end right.values.now rm)) (between left.width i to left.values.now lm)) out)
    × (moves ≡ (i - from) + (row - at))
    × ((lm rm : Words) → Marked (without_list o) left.width from to left.values.now lm → Marked (without_list o) right.width at end right.values.now rm
    → length (walk_on (without_list o) (between left.width from to left.values.now lm) (between right.width at end right.values.now rm)) ≡ moves + length (walk_on (without_list o) (between left.width i to left.values.now lm) (between right.width row end right.values.now rm)))

abbrev decreases-loop : tie.decreases-loop-i
decreases-loop left m from to right at end number o out₀ by few row₀ place₀ p₀ moves₀ i₀ out row place p moves i = to - i

-- row i ends within the left rows
room : (c : tie.In-loop-i invariant-loop decreases-loop) → let a = c.args in c.loop-i.i * a.left.width + a.left.width ≤ a.to * a.left.width
room c = let a = c.args in row_room c.loop-i.i a.to a.left.width c.loop-i-test.true

-- the key of row i
abbrev left : tie.In-loop-i invariant-loop decreases-loop → ℤ
left c = let a = c.args in value_at a.left.width a.o.by a.left.values.now c.loop-i.i

-- where the cursor has come to
came : (c : tie.After-come_near-c invariant-loop decreases-loop) →
    let i = c in
    let a = i.args in
    Approached a.right.width a.o.by i.loop-i.row a.end a.right.values.now (left i.before.before.before) i.loop-i.moves c.come_near-c.result
came c =
    let i = c in
    let a = i.args in
    let l = i.loop-i in
    let e : l.place - l.row * a.right.width ≡ a.o.by = omega (arith, l.invariant.5) in
    rw (e, back (get_or a.left.values.now l.p (pos 0)) c.v-1.given, l.invariant.6) at c.come_near-c.ensures

-- what it has passed gives way to where it is
passed : (c : tie.After-come_near-c invariant-loop decreases-loop) →
    let i = c in
    let a = i.args in
    Behind Nearest true (keyed a.right.width a.o.by a.right.values.now) a.at (value (left i.before.before.before)) c.come_near-c.result.row
passed c =
    let i = c in
    let s = i in
    let a = s.args in
    let l = i.loop-i in
    let here = reached_here (keyed a.left.width a.o.by a.left.values.now) a.from a.to s.requires.0.left_rising l.i i.loop-i-test.true (left i.before.before.before) refl in
    (came c).behind a.at l.invariant.3 s.requires.0.right_rising (l.invariant.7 (left i.before.before.before) here)

-- what `near_row` says of it
told : (c : tie.After-near_row-choice invariant-loop decreases-loop) →
    let d = c in
    let i = d in
    let a = i.args in
    let n = d.come_near-c.result.row in
    Small c.near_row-choice.result × (c.near_row-choice.result ≡ unless_far a.o.tolerance (left i.before.before.before.before.before.before) (value_at a.right.width a.o.by a.right.values.now n) (a.number + n))
told c =
    let d = c in
    let i = d in
    let a = i.args in
    let l = i.loop-i in
    rw (back (get_or a.left.values.now l.p (pos 0)) d.v-1.given, back a.o.tolerance c.struct_told-1.given.1.0.1, l.invariant.6, (came d.before.before.before).place) at c.near_row-choice.ensures

-- the choice of row i
choice : (c : tie.After-near_row-choice invariant-loop decreases-loop) →
    let i = c in
    let a = i.args in
    (lm rm : Words) → Marked (without_list a.o) a.left.width a.from a.to a.left.values.now lm → Marked (without_list a.o) a.right.width a.at a.end a.right.values.now rm
    → c.near_row-choice.result ≡ match_in (without_list a.o) (a.number + a.at) (between a.right.width a.at a.end a.right.values.now rm) (row_from a.left.width (i.loop-i.i * a.left.width) a.left.values.now lm)
choice c lm rm ml mr =
    let d = c in
    let i = d in
    let s = i in
    let a = s.args in
    let l = i.loop-i in
    let n = d.come_near-c.result.row in
    let g = came d.before.before.before in
    let h : a.at ≤ n = omega (arith, l.invariant.3, g.upward) in
    let ex = key_at_lem (without_list a.o) a.left.width a.to a.left.values.now lm ml.rows l.i i.loop-i-test.true ∙ ml.keys l.i l.invariant.0 i.loop-i-test.true in
    (told c).1
    ∙ near_rests (without_list a.o) a.right.width a.at a.end a.right.values.now rm mr s.requires.0.right_rising a.number (row_from a.left.width (l.i * a.left.width) a.left.values.now lm) (left i.before.before.before.before.before.before) ex
    s.requires.1 n h g.there (passed d.before.before.before) g.stopped

-- both runs begin within their rows
starts : (s : tie.Start invariant-loop decreases-loop) → let a = s.args in (a.from * a.left.width ≤ a.to * a.left.width) × (a.at * a.right.width ≤ a.end * a.right.width)
starts s =
    let a = s.args in
    (mul-le-mul_right {m = a.from} {n = a.to} a.left.width s.requires.0.upward, mul-le-mul_right {m = a.at} {n = a.end} a.right.width s.requires.0.run)

-- as many moves as both runs have rows are a word
few-moves : (s : tie.Start invariant-loop decreases-loop) → s.args.to + s.args.end < 2 ^ 63 + 2 ^ 63
few-moves s =
    let a = s.args in
    let p = s.requires.0 in
    let m = mul-le-mul_right {m = 1} {n = a.left.width} a.to (omega (arith, p.left_wide)) in
    omega (arith, m, p.left_values, p.numbers, s.well_formed.0)

sub-few : tie.Need-overflow_sub-few invariant-loop decreases-loop
sub-few c = omega (arith, c.requires.0.run)

mul-place : tie.Need-overflow_mul-place invariant-loop decreases-loop
mul-place c = let p = c.requires.0 in omega (arith, (starts c).1, p.right_values)

add-place : tie.Need-overflow_add-place invariant-loop decreases-loop
add-place c = let p = c.requires.0 in omega (arith, (starts c).1, p.right_values, p.few)

mul-p : tie.Need-overflow_mul-p invariant-loop decreases-loop
mul-p c = let p = c.requires.0 in omega (arith, (starts c).0, p.left_values)

add-p : tie.Need-overflow_add-p invariant-loop decreases-loop
add-p c = let p = c.requires.0 in omega (arith, (starts c).0, p.left_values, p.few)

loop-holds : tie.Need-loop-i-init invariant-loop decreases-loop
loop-holds c =
    let p = c.requires.0 in
    (omega arith, p.upward, refl, omega arith, c.requires.2, refl, refl, λ u r k l h. absurd (omega (arith, l, h)), λ lm rm ml mr. refl, omega arith, λ lm rm ml mr. omega arith)

mul-v : tie.Need-offset_bounds-left-p invariant-loop decreases-loop
mul-v c = let r = room c in let p = c.requires.0 in omega (arith, p.left_wide, p.left_values, c.loop-i.invariant.6)

shared-slice-copy-out-v : tie.Need-bounds-left-p invariant-loop decreases-loop
shared-slice-copy-out-v c = let r = room c in let p = c.requires.0 in omega (arith, p.left_wide, p.left_values, c.loop-i.invariant.6)

come-near-requires : tie.Need-come_near-c-requires invariant-loop decreases-loop
come-near-requires c κs =
    let i = c in
    let s = i in
    let a = s.args in
    let p = s.requires.0 in
    let l = i.loop-i in
    let e : l.place - l.row * a.right.width ≡ a.o.by = omega (arith, l.invariant.5) in (
      record { within = omega (arith, l.invariant.4); values = p.right_values; start = omega (arith, l.invariant.5); wide = omega (arith, l.invariant.5, p.right_wide) },
      (
        l.invariant.4,
        (
          rw e (λ i k g t h. p.right_rising i k (omega (arith, g, l.invariant.3)) t h),
          omega (arith, few-moves s.before.before.before.before, i.loop-i-test.true, l.invariant.0, l.invariant.3, l.invariant.4, l.invariant.9),
        ),
      ),
    )

add-near-row : tie.Need-overflow_add-number invariant-loop decreases-loop
add-near-row c = omega (arith, (came c.before).there, c.requires.0.numbers)

near-row-requires : tie.Need-near_row-choice-requires invariant-loop decreases-loop
near-row-requires c κs =
    let d = c in
    let s = d in
    let a = s.args in
    let g = came d.before.before in
    let p = s.requires.0 in
    (omega (arith, g.place, row_room d.come_near-c.result.row a.end a.right.width g.there, p.right_values, p.right_wide), omega (arith, g.there, p.numbers))

put-requires : tie.Need-put-requires invariant-loop decreases-loop
put-requires c κs =
    let i = c in
    let l = i.loop-i in
    let p = i.requires.0 in
    (record { there = omega (arith, i.loop-i-test.true, p.within); room = omega (arith, p.room, l.invariant.2) }, c.near_row-choice.ensures.0)

step-i : tie.Need-overflow_step-i invariant-loop decreases-loop
step-i c = omega (arith, c.loop-i-test.true)

add-p-2 : tie.Need-overflow_add-p-in-loop-i invariant-loop decreases-loop
add-p-2 c =
    let i = c in
    let r = room i.before.before.before.before.before.before.before.before.before in
    let p = i.requires.0 in
    omega (arith, p.left_wide, p.left_values, i.loop-i.invariant.6)

add-moves : tie.Need-overflow_add-moves invariant-loop decreases-loop
add-moves c =
    let d = c in
    let i = d in
    let l = i.loop-i in
    let g = came d.before.before.before.before.before.before in
    omega (arith, few-moves i.before.before.before.before.before.before.before.before.before.before.before, i.loop-i-test.true, g.counted, g.upward, g.there, l.invariant.0, l.invariant.3, l.invariant.9)

loop-less : tie.Need-loop-i-smaller invariant-loop decreases-loop
loop-less c = omega (arith, c.loop-i-test.true)

loop-again : tie.Need-loop-i-preserved invariant-loop decreases-loop
loop-again c =
    let e = c in
    let d = e in
    let i = d in
    let s = i in
    let a = s.args in
    let l = i.loop-i in
    let t = i.loop-i-test.true in
    let g = came d.before.before.before.before.before.before in
    let n = d.come_near-c.result.row in
    let z : (l.i + 1) * a.left.width ≡ l.i * a.left.width + a.left.width = omega arith in (
      omega (arith, l.invariant.0),
      omega (arith, t),
      c.put.auto.out ∙ l.invariant.2,
      omega (arith, l.invariant.3, g.upward),
      g.there,
      g.place,
      omega (arith, z, l.invariant.6),
      λ u r. later true (keyed a.right.width a.o.by a.right.values.now) a.at a.end s.requires.0.right_rising Nearest (value (left i.before.before.before.before.before.before.before.before.before)) (value u) n refl (r l.i l.invariant.0 (omega arith)) g.there (passed d.before.before.before.before.before.before),
      λ lm rm ml mr.
          let f = match_in (without_list a.o) (a.number + a.at) (between a.right.width a.at a.end a.right.values.now rm) in
          l.invariant.8 lm rm ml mr ∙ lay_more a.m f a.left.width a.left.values.now lm l.i a.to l.out t ∙ rw (c.put.ensures, choice e.before.before.before lm rm ml mr),
      omega (arith, g.counted, g.upward, l.invariant.0, l.invariant.3, l.invariant.9),
      λ lm rm ml mr.
          let b = g.behind l.row (omega arith) (λ i k p q h. s.requires.0.right_rising i k (omega (arith, p, l.invariant.3)) q h) (λ k p q. absurd (omega (arith, p, q))) in
          let k = near_counted (without_list a.o) a.left.width a.from a.to a.left.values.now lm ml a.right.width a.at a.end a.right.values.now rm mr
          s.requires.1 s.requires.0.right_rising l.i l.invariant.0 t l.row n l.invariant.3 g.upward g.there b g.stopped in
          omega (arith, k, g.counted, l.invariant.10 lm rm ml mr),
    )

same_length : tie.Need-shape_of-out invariant-loop decreases-loop
same_length c = c.loop-i.invariant.2

returns : tie.Need-returns invariant-loop decreases-loop
returns c =
    let l = c.loop-i in
    let a = c.args in
    let e : l.i ≡ a.to = omega (arith, c.loop-i-test.false, l.invariant.1) in
    record {
      counted = λ lm rm ml mr.
          let z = lefts_done (without_list a.o) a.left.width a.to a.left.values.now lm (between a.right.width l.row a.end a.right.values.now rm) in
          sym (l.invariant.10 lm rm ml mr ∙ rw (e, z) (omega arith));
      laid = λ lm rm ml mr.
          let f = match_in (without_list a.o) (a.number + a.at) (between a.right.width a.at a.end a.right.values.now rm) in
          sym (l.invariant.8 lm rm ml mr ∙ rw e (lay_done a.m f a.left.width a.left.values.now lm a.to l.out));
    }

pub nearest_spec : {M : Type 1} → statement M
nearest_spec =
    tie.close
    (tie.spec invariant-loop decreases-loop sub-few mul-place add-place mul-p add-p loop-holds mul-v shared-slice-copy-out-v come-near-requires add-near-row near-row-requires put-requires add-p-2 add-moves step-i loop-less loop-again same_length returns)
