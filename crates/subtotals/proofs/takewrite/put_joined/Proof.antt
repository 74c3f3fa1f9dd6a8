-- `takewrite::put_joined` meets its contract. Assumes nothing.
use mathlib.Core.Path.{◌≡◌, refl, sym, ap, ◌∙◌}
use mathlib.Core.List.{◌∷◌, map}
use Prim.Native.Nat.{ℕ, ◌+◌, ◌-◌, ◌*◌, ◌^◌, ◌≤◌, ◌<◌}
use borrow.Author.Rules.{rules}
use native.Mathlib.Omega.{arith}
use lib.ListN.{length}
use Rattle.frames.specs.Cells.{Words}
use Rattle.order.specs.options.Options.{with_list, Few}
use Rattle.order.specs.declared.options.Options.{Options}
use Rattle.order.specs.Requires.{RowsIn}
use Rattle.tables.specs.Lay.{flat, lay_cells}
use Rattle.tables.proofs.CellLaws.{at_least}
use Rattle.takings.specs.Subtotals.{plus, row_of}
use Rattle.subtotals.specs.takejoin.Join.{joined, subs_from, told, Account}
use Rattle.subtotals.proofs.takejoin.JoinLaws.{less_not_greater, equal_not_greater, equal_not_less, greater_not_less}
use Rattle.subtotals.proofs.takejoin.WalkLaws.{left_first, left_second, told_less, told_greater, told_equal, some_left, row_left, none_left, lay_step, lay_last, sub_long, told_long}
use Rattle.subtotals.proofs.takewrite.put_joined.Statement.{statement}
use Rattle.subtotals.proofs.takewrite.put_joined.Tie as tie

abbrev invariant-loop : tie.invariant-loop-k
invariant-loop table added rules m out₀ by i₀ j₀ k₀ out i j k =
    (i ≤ table.count) × (j ≤ added.count) × (length out ≡ length out₀) × (k + length (joined (with_list rules.terms rules.codes.now rules.rising.now) (subs_from (with_list rules.terms rules.codes.now rules.rising.now) table.width i table.count table.values.now table.marks.now) (subs_from (with_list rules.terms rules.codes.now rules.rising.now) table.width j added.count added.values.now added.marks.now)) * table.width ≡ m)
    × (lay_cells m 0 (flat (map row_of (joined (with_list rules.terms rules.codes.now rules.rising.now) (subs_from (with_list rules.terms rules.codes.now rules.rising.now) table.width 0 table.count table.values.now table.marks.now) (subs_from (with_list rules.terms rules.codes.now rules.rising.now) table.width 0 added.count added.values.now added.marks.now)))) out₀ ≡ lay_cells m k (flat (map row_of (joined (with_list rules.terms rules.codes.now rules.rising.now) (subs_from (with_list rules.terms rules.codes.now rules.rising.now) table.width i table.count table.values.now table.marks.now) (subs_from (with_list rules.terms rules.codes.now rules.rising.now) table.width j added.count added.values.now added.marks.now)))) out)

abbrev decreases-loop : tie.decreases-loop-k
decreases-loop table added rules m out₀ by i₀ j₀ k₀ out i j k = m - k

loop-holds : tie.Need-loop-k-init invariant-loop decreases-loop
loop-holds c = (omega arith, omega arith, refl, omega (arith, c.requires.counted), refl)

-- an account's rows, as they are compared
rows : (o : Options) (w n : ℕ) (vs ms : Words) → Few o → Account o.by w n vs ms → RowsIn o w n vs ms
rows o w n vs ms f a = record { few = f; wide = omega (arith, a.width); values = a.values; marks = a.marks }

next-side-requires : tie.Need-next_side-requires invariant-loop decreases-loop
next-side-requires c κs =
    let p = c.requires in
    (record { rows = rows _ _ _ _ _ p.compare p.first; within = c.loop-k.invariant.0 }, record { rows = rows _ _ _ _ _ p.compare p.second; within = c.loop-k.invariant.1 })

enum_told : tie.Need-enum_told-1 invariant-loop decreases-loop
enum_told c = search rules

-- the tables' words bound their rows
few : (s : tie.Start invariant-loop decreases-loop) → s.args.table.count + s.args.added.count < 2 ^ 63
few s =
    let a = s.args in
    let g = s.ranges.table in
    let f = s.ranges.added in
    let h = s.requires.first in
    let k = s.requires.second in
    omega (arith, g.1, f.1, at_least a.table.count a.table.width (omega (arith, h.width)), at_least a.added.count a.table.width (omega (arith, h.width)), h.values, k.values)

more : (c : tie.In-loop-k invariant-loop decreases-loop) → c.loop-k.i + c.loop-k.j < c.args.table.count + c.args.added.count
more c =
    let a = c.args in
    let l = c.loop-k in
    some_left (with_list a.rules.terms a.rules.codes.now a.rules.rising.now) a.table.width a.table.count a.table.values.now a.table.marks.now a.added.count a.added.values.now a.added.marks.now l.i l.j l.k a.m l.invariant.0 l.invariant.1 c.loop-k-test.true l.invariant.3

-- the one table's row is next
less : (c : tie.In-Less invariant-loop decreases-loop) → let a = c.args in let l = c.loop-k in
    (l.i < a.table.count) × (joined (with_list a.rules.terms a.rules.codes.now a.rules.rising.now) (subs_from (with_list a.rules.terms a.rules.codes.now a.rules.rising.now) a.table.width l.i a.table.count a.table.values.now a.table.marks.now) (subs_from (with_list a.rules.terms a.rules.codes.now a.rules.rising.now) a.table.width l.j a.added.count a.added.values.now a.added.marks.now)
    ≡ told a.rules.terms.by a.table.width l.i a.table.values.now a.table.marks.now ∷ joined (with_list a.rules.terms a.rules.codes.now a.rules.rising.now) (subs_from (with_list a.rules.terms a.rules.codes.now a.rules.rising.now) a.table.width (l.i + 1) a.table.count a.table.values.now a.table.marks.now) (subs_from (with_list a.rules.terms a.rules.codes.now a.rules.rising.now) a.table.width l.j a.added.count a.added.values.now a.added.marks.now))
less c =
    let a = c.args in
    let l = c.loop-k in
    let d = sym c.next_side.ensures ∙ c.in-Less.is in
    let t = left_first (with_list a.rules.terms a.rules.codes.now a.rules.rising.now) a.table.width a.table.count a.table.values.now a.table.marks.now a.added.count a.added.values.now a.added.marks.now l.i l.j l.invariant.0 (λ e. less_not_greater (sym d ∙ e)) in
    (t, told_less (with_list a.rules.terms a.rules.codes.now a.rules.rising.now) a.table.width a.table.count a.table.values.now a.table.marks.now a.added.count a.added.values.now a.added.marks.now l.i l.j c.requires.first t d)

put-one-requires : tie.Need-put_one-requires invariant-loop decreases-loop
put-one-requires c κs =
    let s = c in
    let l = c.loop-k in
    let t = less c.before in
    record { account = s.requires.first; is = t.0; there = (row_left l.k s.args.table.width s.args.m _ _ _ t.1 l.invariant.3).0; room = omega (arith, s.requires.room, l.invariant.2) }

add-i : tie.Need-overflow_add-i invariant-loop decreases-loop
add-i c = omega (arith, (less c.before.before.before).0, few c.before.before.before.before.before.before.before)

less-room : (c : tie.In-Less invariant-loop decreases-loop) → c.loop-k.k + c.args.table.width ≤ c.args.m
less-room c = let l = c.loop-k in (row_left l.k c.args.table.width c.args.m _ _ _ (less c).1 l.invariant.3).0

add-k : tie.Need-overflow_add-k invariant-loop decreases-loop
add-k c = let g = c.well_formed.1.1.1.1.0 in omega (arith, less-room c.before.before.before, c.requires.room, g.0, g.1)

loop-less : tie.Need-loop-k-smaller-in-Less invariant-loop decreases-loop
loop-less c = omega (arith, less-room c.before.before.before, c.requires.first.width)

loop-again : tie.Need-loop-k-preserved-in-Less invariant-loop decreases-loop
loop-again c =
    let s = c in
    let a = s.args in
    let l = c.loop-k in
    let p = s.requires.first in
    let t = less c.before.before.before in
    let n = sub_long a.rules.terms.by a.table.width (told a.rules.terms.by a.table.width l.i a.table.values.now a.table.marks.now) p.width (told_long a.rules.terms.by a.table.width a.table.count l.i a.table.values.now a.table.marks.now p t.0) in (
      omega (arith, t.0),
      l.invariant.1,
      c.put_one.auto.out ∙ l.invariant.2,
      (row_left l.k a.table.width a.m _ _ _ t.1 l.invariant.3).1,
      l.invariant.4 ∙ lay_step a.m l.k a.table.width _ _ _ l.out t.1 n ∙ ap (lay_cells a.m (l.k + a.table.width) _) (sym c.put_one.ensures),
    )

enum-told-2 : tie.Need-enum_told-in-Equal invariant-loop decreases-loop
enum-told-2 c = search rules

-- both are next
equal : (c : tie.In-Equal invariant-loop decreases-loop) → let a = c.args in let l = c.loop-k in
    (l.i < a.table.count) × (l.j < a.added.count) × (joined (with_list a.rules.terms a.rules.codes.now a.rules.rising.now) (subs_from (with_list a.rules.terms a.rules.codes.now a.rules.rising.now) a.table.width l.i a.table.count a.table.values.now a.table.marks.now) (subs_from (with_list a.rules.terms a.rules.codes.now a.rules.rising.now) a.table.width l.j a.added.count a.added.values.now a.added.marks.now)
    ≡ plus (told a.rules.terms.by a.table.width l.i a.table.values.now a.table.marks.now) (told a.rules.terms.by a.table.width l.j a.added.values.now a.added.marks.now) ∷ joined (with_list a.rules.terms a.rules.codes.now a.rules.rising.now) (subs_from (with_list a.rules.terms a.rules.codes.now a.rules.rising.now) a.table.width (l.i + 1) a.table.count a.table.values.now a.table.marks.now) (subs_from (with_list a.rules.terms a.rules.codes.now a.rules.rising.now) a.table.width (l.j + 1) a.added.count a.added.values.now a.added.marks.now))
equal c =
    let a = c.args in
    let l = c.loop-k in
    let d = sym c.next_side.ensures ∙ c.in-Equal.is in
    let t = left_first (with_list a.rules.terms a.rules.codes.now a.rules.rising.now) a.table.width a.table.count a.table.values.now a.table.marks.now a.added.count a.added.values.now a.added.marks.now l.i l.j l.invariant.0 (λ e. equal_not_greater (sym d ∙ e)) in
    let u = left_second (with_list a.rules.terms a.rules.codes.now a.rules.rising.now) a.table.width a.table.count a.table.values.now a.table.marks.now a.added.count a.added.values.now a.added.marks.now l.i l.j l.invariant.0 l.invariant.1 (more c.before.before) (λ e. equal_not_less (sym d ∙ e)) in
    (t, u, told_equal (with_list a.rules.terms a.rules.codes.now a.rules.rising.now) a.table.width a.table.count a.table.values.now a.table.marks.now a.added.count a.added.values.now a.added.marks.now l.i l.j c.requires.first c.requires.second t u d)

equal-room : (c : tie.In-Equal invariant-loop decreases-loop) → c.loop-k.k + c.args.table.width ≤ c.args.m
equal-room c = let l = c.loop-k in (row_left l.k c.args.table.width c.args.m _ _ _ (equal c).2 l.invariant.3).0

put-sum-requires : tie.Need-put_sum-requires invariant-loop decreases-loop
put-sum-requires c κs =
    let s = c in
    let l = c.loop-k in
    let t = equal c.before in
    let r = equal-room c.before in
    (record { account = s.requires.first; is = t.0; there = r; room = omega (arith, s.requires.room, l.invariant.2) }, record { account = s.requires.second; is = t.1; there = r; room = omega (arith, s.requires.room, l.invariant.2) })

add-i-2 : tie.Need-overflow_add-i-in-Equal invariant-loop decreases-loop
add-i-2 c = omega (arith, (equal c.before.before.before).0, few c.before.before.before.before.before.before.before)

add-j : tie.Need-overflow_add-j invariant-loop decreases-loop
add-j c = omega (arith, (equal c.before.before.before).1, few c.before.before.before.before.before.before.before)

add-k-2 : tie.Need-overflow_add-k-in-Equal invariant-loop decreases-loop
add-k-2 c = let g = c.well_formed.1.1.1.1.0 in omega (arith, equal-room c.before.before.before, c.requires.room, g.0, g.1)

loop-less-2 : tie.Need-loop-k-smaller-in-Equal invariant-loop decreases-loop
loop-less-2 c = omega (arith, equal-room c.before.before.before, c.requires.first.width)

loop-again-2 : tie.Need-loop-k-preserved-in-Equal invariant-loop decreases-loop
loop-again-2 c =
    let s = c in
    let a = s.args in
    let l = c.loop-k in
    let p = s.requires.first in
    let t = equal c.before.before.before in
    let n = sub_long a.rules.terms.by a.table.width (plus (told a.rules.terms.by a.table.width l.i a.table.values.now a.table.marks.now) (told a.rules.terms.by a.table.width l.j a.added.values.now a.added.marks.now)) p.width (told_long a.rules.terms.by a.table.width a.table.count l.i a.table.values.now a.table.marks.now p t.0) in (
      omega (arith, t.0),
      omega (arith, t.1),
      c.put_sum.auto.out ∙ l.invariant.2,
      (row_left l.k a.table.width a.m _ _ _ t.2 l.invariant.3).1,
      l.invariant.4 ∙ lay_step a.m l.k a.table.width _ _ _ l.out t.2 n ∙ ap (lay_cells a.m (l.k + a.table.width) _) (sym c.put_sum.ensures),
    )

enum-told-3 : tie.Need-enum_told-in-Greater invariant-loop decreases-loop
enum-told-3 c = search rules

-- the other table's row is next
greater : (c : tie.In-Greater invariant-loop decreases-loop) → let a = c.args in let l = c.loop-k in
    (l.j < a.added.count) × (joined (with_list a.rules.terms a.rules.codes.now a.rules.rising.now) (subs_from (with_list a.rules.terms a.rules.codes.now a.rules.rising.now) a.table.width l.i a.table.count a.table.values.now a.table.marks.now) (subs_from (with_list a.rules.terms a.rules.codes.now a.rules.rising.now) a.table.width l.j a.added.count a.added.values.now a.added.marks.now)
    ≡ told a.rules.terms.by a.table.width l.j a.added.values.now a.added.marks.now ∷ joined (with_list a.rules.terms a.rules.codes.now a.rules.rising.now) (subs_from (with_list a.rules.terms a.rules.codes.now a.rules.rising.now) a.table.width l.i a.table.count a.table.values.now a.table.marks.now) (subs_from (with_list a.rules.terms a.rules.codes.now a.rules.rising.now) a.table.width (l.j + 1) a.added.count a.added.values.now a.added.marks.now))
greater c =
    let a = c.args in
    let l = c.loop-k in
    let d = sym c.next_side.ensures ∙ c.in-Greater.is in
    let u = left_second (with_list a.rules.terms a.rules.codes.now a.rules.rising.now) a.table.width a.table.count a.table.values.now a.table.marks.now a.added.count a.added.values.now a.added.marks.now l.i l.j l.invariant.0 l.invariant.1 (more c.before.before) (λ e. greater_not_less (sym d ∙ e)) in
    (u, told_greater (with_list a.rules.terms a.rules.codes.now a.rules.rising.now) a.table.width a.table.count a.table.values.now a.table.marks.now a.added.count a.added.values.now a.added.marks.now l.i l.j c.requires.second u d)

greater-room : (c : tie.In-Greater invariant-loop decreases-loop) → c.loop-k.k + c.args.table.width ≤ c.args.m
greater-room c = let l = c.loop-k in (row_left l.k c.args.table.width c.args.m _ _ _ (greater c).1 l.invariant.3).0

put-one-requires-2 : tie.Need-put_one-requires-in-Greater invariant-loop decreases-loop
put-one-requires-2 c κs =
    let s = c in
    let l = c.loop-k in
    let t = greater c.before.before.before in
    record { account = s.requires.second; is = t.0; there = greater-room c.before.before.before; room = omega (arith, s.requires.room, l.invariant.2) }

add-j-2 : tie.Need-overflow_add-j-in-Greater invariant-loop decreases-loop
add-j-2 c = omega (arith, (greater c.before.before.before.before.before).0, few c.before.before.before.before.before.before.before.before.before)

add-k-3 : tie.Need-overflow_add-k-in-Greater invariant-loop decreases-loop
add-k-3 c = let g = c.well_formed.1.1.1.1.0 in omega (arith, greater-room c.before.before.before.before.before, c.requires.room, g.0, g.1)

loop-less-3 : tie.Need-loop-k-smaller invariant-loop decreases-loop
loop-less-3 c = omega (arith, greater-room c.before.before.before.before.before, c.requires.first.width)

loop-again-3 : tie.Need-loop-k-preserved invariant-loop decreases-loop
loop-again-3 c =
    let s = c in
    let a = s.args in
    let l = c.loop-k in
    let p = s.requires.second in
    let t = greater c.before.before.before.before.before in
    let n = sub_long a.rules.terms.by a.table.width (told a.rules.terms.by a.table.width l.j a.added.values.now a.added.marks.now) p.width (told_long a.rules.terms.by a.table.width a.added.count l.j a.added.values.now a.added.marks.now p t.0) in (
      l.invariant.0,
      omega (arith, t.0),
      c.put_one-in-Greater.auto.out ∙ l.invariant.2,
      (row_left l.k a.table.width a.m _ _ _ t.1 l.invariant.3).1,
      l.invariant.4 ∙ lay_step a.m l.k a.table.width _ _ _ l.out t.1 n ∙ ap (lay_cells a.m (l.k + a.table.width) _) (sym c.put_one-in-Greater.ensures),
    )

same_length : tie.Need-shape_of-out invariant-loop decreases-loop
same_length c = c.loop-k.invariant.2

returns : tie.Need-returns invariant-loop decreases-loop
returns c =
    let s = c in
    let a = s.args in
    let l = c.loop-k in
    let js = joined (with_list a.rules.terms a.rules.codes.now a.rules.rising.now) (subs_from (with_list a.rules.terms a.rules.codes.now a.rules.rising.now) a.table.width l.i a.table.count a.table.values.now a.table.marks.now) (subs_from (with_list a.rules.terms a.rules.codes.now a.rules.rising.now) a.table.width l.j a.added.count a.added.values.now a.added.marks.now) in
    sym (l.invariant.4 ∙ lay_last a.m l.k js l.out (none_left l.k a.table.width a.m js (omega (arith, s.requires.first.width)) c.loop-k-test.false l.invariant.3))

pub put_joined_spec : {M : Type 1} → statement M
put_joined_spec =
    tie.close
    (tie.spec invariant-loop decreases-loop loop-holds next-side-requires enum_told put-one-requires add-i add-k loop-less loop-again enum-told-2 put-sum-requires add-i-2 add-j add-k-2 loop-less-2 loop-again-2 enum-told-3 put-one-requires-2 add-j-2 add-k-3 loop-less-3 loop-again-3 same_length returns)
