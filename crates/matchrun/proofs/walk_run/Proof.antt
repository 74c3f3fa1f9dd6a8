use borrow.Author.Rules.{rules}
use mathlib.Core.Path.{◌≡◌, ◌∙◌}
use Prim.Native.Nat.{◌+◌, ◌^◌, ◌<◌}
use native.Mathlib.Omega.{arith}
use lib.ListN.{length}
use Rattle.order.specs.options.Options.{without_list}
use Rattle.matching.specs.Match.{match_in}
use Rattle.matching.specs.Moves.{Rising, key_at, walk_on}
use Rattle.matching.specs.Stretches.{between}
use Rattle.matching.proofs.WalkLaws.{between_length}
use Rattle.matching.proofs.MoveLaws.{walk_most}
use Rattle.matching.proofs.RestLaws.{sorted_rising}
use Rattle.matchrun.proofs.RunLaws.{marked, keyed_rising, left_null, right_none, right_cut, rights_moved, rights_alone, lefts_moved, lay_two}
use Rattle.matchrun.proofs.walk_run.Statement.{statement}
use Rattle.matchrun.proofs.walk_run.Tie as tie

-- the keys of both runs do not fall
left_rising : (c : tie.Start) → Rising (key_at (without_list c.args.o) c.args.left.width c.args.left.values.now c.args.left.marks.now) c.args.from c.args.to
left_rising c =
    let a = c.args in
    sorted_rising (without_list a.o) a.left.width a.left.values.now a.left.marks.now a.from a.to c.requires.room.left c.requires.left

right_rising : (c : tie.Start) → Rising (key_at (without_list c.args.o) c.args.right.width c.args.right.values.now c.args.right.marks.now) c.args.at c.args.end
right_rising c = let a = c.args in sorted_rising (without_list a.o) a.right.width a.right.values.now a.right.marks.now a.at a.end c.requires.room.right c.requires.right

first-key-requires : tie.Need-first_key-start-requires
first-key-requires c κs = search rules

put-nothing-requires : tie.Need-put_nothing-requires
put-nothing-requires c κs = search rules

sub-result : tie.Need-overflow_sub-result
sub-result c = search rules

sub-result-2 : tie.Need-overflow_sub-result-then-start-end
sub-result-2 c = search rules

-- as many moves as both runs have rows are a word
few-moves : (s : tie.Start) → s.args.to + s.args.end < 2 ^ 63 + 2 ^ 63
few-moves s =
    let p = s.requires.room in
    let g = s.well_formed.1.1.1.1.1.1.1.1.1.0 in
    omega (arith, p.within, p.room, p.numbers, g.0, g.1)

add-result : tie.Need-overflow_add-result
add-result c = omega (arith, few-moves c.before.before.before.before.before.before)

same_length : tie.Need-shape_of-out-then-start-end
same_length c = search rules

returns : tie.Need-returns-then-start-end
returns c =
    let k = c in
    let s = k in
    let a = s.args in
    let o = without_list a.o in (
      omega (arith, between_length a.left.width a.left.values.now a.left.marks.now a.from a.to, rights_alone o a.right.width a.at a.end a.right.values.now a.right.marks.now s.requires.room.right k.first_key-start.result k.first_key-start.ensures c.if-start-end.true (between a.left.width a.from a.to a.left.values.now a.left.marks.now)),
      c.put_nothing.ensures (match_in o (a.number + a.at) (between a.right.width a.at a.end a.right.values.now a.right.marks.now)) a.left.width a.left.values.now a.left.marks.now
          (λ j l h. right_none o a.right.width a.at a.end a.right.values.now a.right.marks.now s.requires.room.right k.first_key-start.result k.first_key-start.ensures c.if-start-end.true (a.number + a.at) _),
    )

first-key-requires-2 : tie.Need-first_key-first-requires
first-key-requires-2 c κs = search rules

put-nothing-requires-2 : tie.Need-put_nothing-requires-2
put-nothing-requires-2 c κs = search rules

walk-keys-requires : tie.Need-walk_keys-moves-requires
walk-keys-requires c κs =
    let l = c in
    let k = l in
    let s = k in
    let a = s.args in
    let o = without_list a.o in
    let r = s.requires.room in
    let x = l.first_key-first.ensures in
    let y = k.first_key-start.ensures in (
      record {
        few = r.left.few.by;
        left_wide = r.left.wide;
        left_values = r.left.values;
        left_rising = keyed_rising o a.left.width a.from a.to a.left.values.now a.left.marks.now r.left l.first_key-first.result x (left_rising s.before.before.before.before.before.before.before.before.before);
        upward = x.within;
        within = r.within;
        right_wide = r.right.wide;
        right_values = r.right.values;
        right_rising = keyed_rising o a.right.width a.at a.end a.right.values.now a.right.marks.now r.right k.first_key-start.result y (right_rising s.before.before.before.before.before.before.before.before.before);
        run = y.within;
        numbers = r.numbers;
        room = omega (arith, r.room, c.put_nothing-2.auto.out);
      },
      omega (arith, y.within, l.if-start-end.false),
    )

sub-result-3 : tie.Need-overflow_sub-result-2
sub-result-3 c = search rules

sub-result-4 : tie.Need-overflow_sub-result-3
sub-result-4 c = search rules

add-result-2 : tie.Need-overflow_add-result-2
add-result-2 c =
    let l = c in
    let k = l in
    omega (arith, few-moves k.before.before.before.before.before.before.before.before.before.before.before, l.first_key-first.ensures.within, k.first_key-start.ensures.within)

-- the moves of both cursors from their first keys on
walked : (c : tie.After-out-3-1) →
    let l = c in
    let k = l in
    let a = k.args in
    c.walk_keys-moves.result ≡ length (walk_on (without_list a.o) (between a.left.width l.first_key-first.result a.to a.left.values.now a.left.marks.now) (between a.right.width k.first_key-start.result a.end a.right.values.now a.right.marks.now))
walked c =
    let l = c in
    let k = l in
    let s = k in
    let a = s.args in
    let o = without_list a.o in
    let r = s.requires.room in
    c.walk_keys-moves.ensures.counted a.left.marks.now a.right.marks.now
    (marked o a.left.width a.from a.to a.left.values.now a.left.marks.now r.left l.first_key-first.result l.first_key-first.ensures (left_rising s.before.before.before.before.before.before.before.before.before.before.before))
    (marked o a.right.width a.at a.end a.right.values.now a.right.marks.now r.right k.first_key-start.result k.first_key-start.ensures (right_rising s.before.before.before.before.before.before.before.before.before.before.before))

add-result-3 : tie.Need-overflow_add-result-3
add-result-3 c =
    let l = c in
    let k = l in
    let a = k.args in
    let ls = between a.left.width l.first_key-first.result a.to a.left.values.now a.left.marks.now in
    let rs = between a.right.width k.first_key-start.result a.end a.right.values.now a.right.marks.now in
    omega (arith, walked c, walk_most (without_list a.o) ls rs, between_length a.left.width a.left.values.now a.left.marks.now l.first_key-first.result a.to, between_length a.right.width a.right.values.now a.right.marks.now k.first_key-start.result a.end, few-moves k.before.before.before.before.before.before.before.before.before.before.before, l.first_key-first.ensures.start, l.first_key-first.ensures.within, k.first_key-start.ensures.start, k.first_key-start.ensures.within)

same-length-2 : tie.Need-shape_of-out
same-length-2 c = search rules

returns-2 : tie.Need-returns
returns-2 c =
    let l = c in
    let k = l in
    let s = k in
    let a = s.args in
    let o = without_list a.o in
    let r = s.requires.room in
    let x = l.first_key-first.ensures in
    let y = k.first_key-start.ensures in
    let e = c.walk_keys-moves.ensures in
    let f = match_in o (a.number + a.at) (between a.right.width a.at a.end a.right.values.now a.right.marks.now) in
    let g = match_in o (a.number + k.first_key-start.result) (between a.right.width k.first_key-start.result a.end a.right.values.now a.right.marks.now) in
    let ml = marked o a.left.width a.from a.to a.left.values.now a.left.marks.now r.left l.first_key-first.result x (sorted_rising o a.left.width a.left.values.now a.left.marks.now a.from a.to r.left s.requires.left) in
    let mr = marked o a.right.width a.at a.end a.right.values.now a.right.marks.now r.right k.first_key-start.result y (sorted_rising o a.right.width a.right.values.now a.right.marks.now a.at a.end r.right s.requires.right) in
    let n = c.put_nothing-2.ensures f a.left.width a.left.values.now a.left.marks.now (λ j i h. left_null o a.left.width a.from a.to a.left.values.now a.left.marks.now r.left l.first_key-first.result x (a.number + a.at) _ j i h) in
    let same = right_cut o a.right.width a.at a.end a.right.values.now a.right.marks.now r.right k.first_key-start.result y a.number in (
      omega (arith, walked c, lefts_moved o a.left.width a.from a.to a.left.values.now a.left.marks.now r.left l.first_key-first.result x (between a.right.width k.first_key-start.result a.end a.right.values.now a.right.marks.now), rights_moved o a.right.width a.at a.end a.right.values.now a.right.marks.now r.right k.first_key-start.result y (between a.left.width a.from a.to a.left.values.now a.left.marks.now)),
      e.laid a.left.marks.now a.right.marks.now ml mr ∙ rw n (lay_two a.m a.left.width a.left.values.now a.left.marks.now f g a.from l.first_key-first.result a.to x.start x.within same a.out.now),
    )

pub walk_run_spec : {M : Type 1} → statement M
walk_run_spec =
    tie.close
    (tie.spec first-key-requires put-nothing-requires sub-result sub-result-2 add-result same_length returns first-key-requires-2 put-nothing-requires-2 walk-keys-requires sub-result-3 sub-result-4 add-result-2 add-result-3 same-length-2 returns-2)
