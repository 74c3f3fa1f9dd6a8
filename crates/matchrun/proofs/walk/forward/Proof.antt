use Rattle.std.specs.Prelude.{None}
use mathlib.Core.Path.{◌≡◌, refl, sym, ◌∙◌}
use mathlib.Core.Bool.{true, not}
use mathlib.Core.List.{map}
use Prim.Native.Nat.{ℕ, ◌+◌, ◌-◌, ◌*◌, ◌^◌, ◌≤◌, ◌<◌}
use native.Mathlib.Nat.{mul-le-mul_right}
use native.Mathlib.Omega.{arith}
use lib.IntN.{ℤ, pos}
use lib.ListN.{length, get_or}
use mir.Syntax.{w64}
use mir.Val.{to_z, of_z}
use Rattle.frames.specs.Cells.{value, Words, row_from}
use Rattle.frames.proofs.Signed.{back}
use Rattle.order.specs.options.Options.{without_list, key_rule}
use Rattle.order.specs.Order.{cmp_cell}
use Rattle.order.proofs.RowLaws.{row_room}
use Rattle.matching.specs.Match.{match_in}
use Rattle.matching.specs.Loops.{Small}
use Rattle.matching.specs.Moves.{walk_on}
use Rattle.matching.specs.Stretches.{between, lay}
use Rattle.matching.proofs.BestLaws.{key_at_lem}
use Rattle.matching.proofs.MoveLaws.{lefts_done}
use Rattle.matching.proofs.LayLaws.{lay_more, lay_done}
use Rattle.matchrun.specs.advance.Below.{value_at, keyed, below, HasNext, Skipped}
use Rattle.matchrun.specs.choices.Choices.{unless_far}
use Rattle.matchrun.specs.walk.Keyed.{Marked}
use Rattle.matchrun.proofs.walk.KeyedLaws.{row_counted, Reached, reached_here, below_later, below_on, fore_not, fore_choice}
use Rattle.matchrun.proofs.walk.forward.Statement.{statement}
use Rattle.matchrun.proofs.walk.forward.Tie as tie

abbrev invariant-loop : tie.invariant-loop-i
invariant-loop left m from to right at end number o out₀ by stop row₀ place₀ p₀ moves₀ i₀ out row place p moves i =
    (from ≤ i) × (i ≤ to) × (length out ≡ length out₀) × (at ≤ row) × (row ≤ end) × (place ≡ row * right.width + o.by) × (p ≡ i * left.width + o.by)
    × ((u : ℤ) → Reached (keyed left.width o.by left.values.now) from i u → (k : ℕ) → at ≤ k → k < row → below (not o.allow_eq) u (value_at right.width o.by right.values.now k) ≡ true)
    × ((lm rm : Words) → Marked (without_list o) left.width from to left.values.now lm → Marked (without_list o) right.width at end right.values.now rm
    → lay m from (map (match_in (without_list o) (number + at) (between right.width at end right.values.now rm)) (between left.width from to left.values.now lm)) out₀
    ≡ lay m i (map (match_in (without_list o) (number + at) (between right.width at end right.values.now rm)) (between left.width i to left.values.now lm)) out)
    × (moves ≡ (i - from) + (row - at))
    × ((lm rm : Words) → Marked (without_list o) left.width from to left.values.now lm → Marked (without_list o) right.width at end right.values.now rm
    → length (walk_on (without_list o) (between left.width from to left.values.now lm) (between right.width at end right.values.now rm)) ≡ moves + length (walk_on (without_list o) (between left.width i to left.values.now lm) (between right.width row end right.values.now rm)))

abbrev decreases-loop : tie.decreases-loop-i
decreases-loop left m from to right at end number o out₀ by stop row₀ place₀ p₀ moves₀ i₀ out row place p moves i = to - i

-- row i ends within the left rows
room : (c : tie.In-loop-i invariant-loop decreases-loop) → let a = c.args in c.loop-i.i * a.left.width + a.left.width ≤ a.to * a.left.width
room c = let a = c.args in row_room c.loop-i.i a.to a.left.width c.loop-i-test.true

-- the key of row i
abbrev left : tie.In-loop-i invariant-loop decreases-loop → ℤ
left c = let a = c.args in value_at a.left.width a.o.by a.left.values.now c.loop-i.i

-- where the cursor has come to
came : (c : tie.After-advance-c invariant-loop decreases-loop) →
    let a = c.args in
    let l = c.loop-i in
    Skipped a.right.width a.o.by l.row a.end a.right.values.now (below (not a.o.allow_eq) (left c.before.before.before.before)) l.moves c.advance-c.result
came c =
    let a = c.args in
    let l = c.loop-i in
    let e : l.place - l.row * a.right.width ≡ a.o.by = omega (arith, l.invariant.5) in
    rw (e, back (get_or a.left.values.now l.p (pos 0)) c.v-1.given, l.invariant.6) at c.advance-c.ensures

-- all that it has passed is below the key of row i
passed : (c : tie.After-advance-c invariant-loop decreases-loop) →
    let a = c.args in
    (k : ℕ) → a.at ≤ k → k < c.advance-c.result.row → below (not a.o.allow_eq) (left c.before.before.before.before) (value_at a.right.width a.o.by a.right.values.now k) ≡ true
passed c =
    let s = c in
    let a = s.args in
    let l = c.loop-i in
    let v = left c.before.before.before.before in
    let here = reached_here (keyed a.left.width a.o.by a.left.values.now) a.from a.to s.requires.0.left_rising l.i c.loop-i-test.true v refl in
    below_on (not a.o.allow_eq) (value_at a.right.width a.o.by a.right.values.now) a.at v l.row c.advance-c.result.row (l.invariant.7 v here) (came c).before

-- what `choice_fore` says of it
told : (c : tie.After-choice_fore-choice invariant-loop decreases-loop) →
    let d = c in
    let a = d.args in
    let n = d.advance-c.result.row in
    Small c.choice_fore-choice.result × (n ≡ a.end → c.choice_fore-choice.result ≡ None)
    × (n < a.end → c.choice_fore-choice.result ≡ unless_far a.o.tolerance (left d.before.before.before.before.before.before.before) (value_at a.right.width a.o.by a.right.values.now n) (a.number + n))
told c =
    let d = c in
    let a = d.args in
    let l = d.loop-i in
    rw (back (get_or a.left.values.now l.p (pos 0)) d.v-1.given, back a.o.tolerance c.struct_told-1.given.1.0.1, l.invariant.6, (came d.before.before.before).place) at c.choice_fore-choice.ensures

-- the choice of row i
choice : (c : tie.After-choice_fore-choice invariant-loop decreases-loop) →
    let i = c in
    let a = i.args in
    (lm rm : Words) → Marked (without_list a.o) a.left.width a.from a.to a.left.values.now lm → Marked (without_list a.o) a.right.width a.at a.end a.right.values.now rm
    → c.choice_fore-choice.result ≡ match_in (without_list a.o) (a.number + a.at) (between a.right.width a.at a.end a.right.values.now rm) (row_from a.left.width (i.loop-i.i * a.left.width) a.left.values.now lm)
choice c lm rm ml mr =
    let d = c in
    let i = d in
    let s = i in
    let a = s.args in
    let l = i.loop-i in
    let n = d.advance-c.result.row in
    let g = came d.before.before.before in
    let h : a.at ≤ n = omega (arith, l.invariant.3, g.upward) in
    let ex = key_at_lem (without_list a.o) a.left.width a.to a.left.values.now lm ml.rows l.i i.loop-i-test.true ∙ ml.keys l.i l.invariant.0 i.loop-i-test.true in
    fore_choice (without_list a.o) a.right.width a.at a.end a.right.values.now rm mr s.requires.0.right_rising a.number (row_from a.left.width (l.i * a.left.width) a.left.values.now lm) (left i.before.before.before.before.before.before.before) ex
    (not a.o.allow_eq) n h (passed d.before.before.before) g.stop s.requires.1 refl g.within c.choice_fore-choice.result (told c).1 (told c).2

-- both runs begin within their rows
starts : (s : tie.Start invariant-loop decreases-loop) → let a = s.args in (a.from * a.left.width ≤ a.to * a.left.width) × (a.at * a.right.width ≤ a.end * a.right.width)
starts s =
    let a = s.args in
    (mul-le-mul_right {m = a.from} {n = a.to} a.left.width s.requires.0.upward, mul-le-mul_right {m = a.at} {n = a.end} a.right.width s.requires.0.run)

-- as many moves as both runs have rows are a word
few-moves : (s : tie.Start invariant-loop decreases-loop) → s.args.to + s.args.end < 2 ^ 63 + 2 ^ 63
few-moves s =
    let a = s.args in
    let p = s.requires.0 in
    let m = mul-le-mul_right {m = 1} {n = a.left.width} a.to (omega (arith, p.left_wide)) in
    omega (arith, m, p.left_values, p.numbers, s.well_formed.0)

fours-to-requires : tie.Need-fours_to-stop-requires invariant-loop decreases-loop
fours-to-requires c κs = let p = c.requires.0 in (p.left_wide, p.left_values, p.upward, p.run, p.left_rising)

mul-place : tie.Need-overflow_mul-place invariant-loop decreases-loop
mul-place c = let p = c.requires.0 in omega (arith, (starts c.before.before).1, p.right_values)

add-place : tie.Need-overflow_add-place invariant-loop decreases-loop
add-place c = let p = c.requires.0 in omega (arith, (starts c.before.before).1, p.right_values, p.few)

mul-p : tie.Need-overflow_mul-p invariant-loop decreases-loop
mul-p c = let p = c.requires.0 in omega (arith, (starts c.before.before).0, p.left_values)

add-p : tie.Need-overflow_add-p invariant-loop decreases-loop
add-p c = let p = c.requires.0 in omega (arith, (starts c.before.before).0, p.left_values, p.few)

loop-holds : tie.Need-loop-i-init invariant-loop decreases-loop
loop-holds c =
    let p = c.requires.0 in
    (omega arith, p.upward, refl, omega arith, p.run, refl, refl, λ u r k l h. absurd (omega (arith, l, h)), λ lm rm ml mr. refl, omega arith, λ lm rm ml mr. omega arith)

mul-v : tie.Need-offset_bounds-left-p invariant-loop decreases-loop
mul-v c = let r = room c in let p = c.requires.0 in omega (arith, p.left_wide, p.left_values, c.loop-i.invariant.6)

shared-slice-copy-out-v : tie.Need-bounds-left-p invariant-loop decreases-loop
shared-slice-copy-out-v c = let r = room c in let p = c.requires.0 in omega (arith, p.left_wide, p.left_values, c.loop-i.invariant.6)

-- where four rows are taken at a time, the key of row i has a next
has-next : (c : tie.After-v-1 invariant-loop decreases-loop) → let a = c.args in a.at + 3 < c.fours_to-stop.result → HasNext (to_z w64 (of_z w64 (get_or a.left.values.now c.loop-i.p (pos 0))))
has-next c h =
    let a = c.args in
    let l = c.loop-i in
    rw (back (get_or a.left.values.now l.p (pos 0)) c.v-1.given, l.invariant.6) (c.fours_to-stop.ensures.1 h l.i l.invariant.0 c.loop-i-test.true)

advance-requires : tie.Need-advance-c-requires invariant-loop decreases-loop
advance-requires c κs =
    let i = c in
    let s = i in
    let a = s.args in
    let p = s.requires.0 in
    let l = i.loop-i in
    let e : l.place - l.row * a.right.width ≡ a.o.by = omega (arith, l.invariant.5) in (
      record { within = l.invariant.4; values = p.right_values; start = omega (arith, l.invariant.5); wide = omega (arith, l.invariant.5, p.right_wide) },
      (
        i.fours_to-stop.ensures.0,
        (
          rw e (λ i k g t h. p.right_rising i k (omega (arith, g, l.invariant.3)) t h),
          (
            λ h. has-next c.before.before (omega (arith, h, l.invariant.3)),
            omega (arith, few-moves s.before.before.before.before.before.before.before, i.loop-i-test.true, l.invariant.0, l.invariant.3, l.invariant.4, l.invariant.9),
          ),
        ),
      ),
    )

choice-fore-requires : tie.Need-choice_fore-choice-requires invariant-loop decreases-loop
choice-fore-requires c κs =
    let d = c in
    let s = d in
    let a = s.args in
    let n = d.advance-c.result.row in
    let g = came d.before.before in
    let p = s.requires.0 in
    (g.within, λ h. omega (arith, g.place, row_room n a.end a.right.width h, p.right_values, p.right_wide), omega (arith, g.within, p.numbers))

put-requires : tie.Need-put-requires invariant-loop decreases-loop
put-requires c κs =
    let i = c in
    let l = i.loop-i in
    let p = i.requires.0 in
    (record { there = omega (arith, i.loop-i-test.true, p.within); room = omega (arith, p.room, l.invariant.2) }, c.choice_fore-choice.ensures.0)

step-i : tie.Need-overflow_step-i invariant-loop decreases-loop
step-i c = omega (arith, c.loop-i-test.true)

add-p-2 : tie.Need-overflow_add-p-in-loop-i invariant-loop decreases-loop
add-p-2 c =
    let i = c in
    let r = room i.before.before.before.before.before.before.before.before.before.before in
    let p = i.requires.0 in
    omega (arith, p.left_wide, p.left_values, i.loop-i.invariant.6)

add-moves : tie.Need-overflow_add-moves invariant-loop decreases-loop
add-moves c =
    let d = c in
    let i = d in
    let l = i.loop-i in
    let g = came d.before.before.before.before.before.before in
    omega (arith, few-moves i.before.before.before.before.before.before.before.before.before.before.before.before.before.before, i.loop-i-test.true, g.counted, g.upward, g.within, l.invariant.0, l.invariant.3, l.invariant.9)

loop-less : tie.Need-loop-i-smaller invariant-loop decreases-loop
loop-less c = omega (arith, c.loop-i-test.true)

loop-again : tie.Need-loop-i-preserved invariant-loop decreases-loop
loop-again c =
    let e = c in
    let d = e in
    let i = d in
    let s = i in
    let a = s.args in
    let l = i.loop-i in
    let t = i.loop-i-test.true in
    let g = came d.before.before.before.before.before.before in
    let n = d.advance-c.result.row in
    let z : (l.i + 1) * a.left.width ≡ l.i * a.left.width + a.left.width = omega arith in (
      omega (arith, l.invariant.0),
      omega (arith, t),
      c.put.auto.out ∙ l.invariant.2,
      omega (arith, l.invariant.3, g.upward),
      g.within,
      g.place,
      omega (arith, z, l.invariant.6),
      λ u r. below_later (not a.o.allow_eq) (value_at a.right.width a.o.by a.right.values.now) a.at (left i.before.before.before.before.before.before.before.before.before.before) u n (r l.i l.invariant.0 (omega arith)) (passed d.before.before.before.before.before.before),
      λ lm rm ml mr.
          let f = match_in (without_list a.o) (a.number + a.at) (between a.right.width a.at a.end a.right.values.now rm) in
          l.invariant.8 lm rm ml mr ∙ lay_more a.m f a.left.width a.left.values.now lm l.i a.to l.out t ∙ rw (c.put.ensures, choice e.before.before.before lm rm ml mr),
      omega (arith, g.counted, g.upward, l.invariant.0, l.invariant.3, l.invariant.9),
      λ lm rm ml mr.
          let k = row_counted (without_list a.o) a.left.width a.from a.to a.left.values.now lm ml a.right.width a.at a.end a.right.values.now rm mr
          l.i l.invariant.0 t l.row n l.invariant.3 g.upward g.within (λ k p q. rw (s.requires.1, fore_not a.o.allow_eq (cmp_cell key_rule (keyed a.right.width a.o.by a.right.values.now k) (value (left i.before.before.before.before.before.before.before.before.before.before))), g.before k p q)) (λ q. rw (s.requires.1, fore_not a.o.allow_eq (cmp_cell key_rule (keyed a.right.width a.o.by a.right.values.now n) (value (left i.before.before.before.before.before.before.before.before.before.before))), g.stop q)) in
          omega (arith, k, g.counted, l.invariant.10 lm rm ml mr),
    )

same_length : tie.Need-shape_of-out invariant-loop decreases-loop
same_length c = c.loop-i.invariant.2

returns : tie.Need-returns invariant-loop decreases-loop
returns c =
    let l = c.loop-i in
    let a = c.args in
    let e : l.i ≡ a.to = omega (arith, c.loop-i-test.false, l.invariant.1) in
    record {
      counted = λ lm rm ml mr.
          let z = lefts_done (without_list a.o) a.left.width a.to a.left.values.now lm (between a.right.width l.row a.end a.right.values.now rm) in
          sym (l.invariant.10 lm rm ml mr ∙ rw (e, z) (omega arith));
      laid = λ lm rm ml mr.
          let f = match_in (without_list a.o) (a.number + a.at) (between a.right.width a.at a.end a.right.values.now rm) in
          sym (l.invariant.8 lm rm ml mr ∙ rw e (lay_done a.m f a.left.width a.left.values.now lm a.to l.out));
    }

pub forward_spec : {M : Type 1} → statement M
forward_spec =
    tie.close
    (tie.spec invariant-loop decreases-loop fours-to-requires mul-place add-place mul-p add-p loop-holds mul-v shared-slice-copy-out-v advance-requires choice-fore-requires put-requires add-p-2 add-moves step-i loop-less loop-again same_length returns)
