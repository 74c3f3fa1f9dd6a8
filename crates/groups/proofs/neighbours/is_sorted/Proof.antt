use mathlib.Core.Path.{◌≡◌, sym, ap, ◌∙◌}
use mathlib.Core.Bool.{Bool}
use Prim.Native.Nat.{◌+◌, ◌-◌, ◌*◌, ◌≤◌, ◌<◌}
use native.Mathlib.Nat.{mul-le-mul_right}
use native.Mathlib.Omega.{arith}
use Rattle.frames.specs.Cells.{row_from, rows_of}
use Rattle.order.specs.options.Options.{with_list}
use Rattle.order.specs.Order.{cmp_row, is_greater, sorted}
use Rattle.order.specs.Requires.{RowAt}
use Rattle.order.proofs.RowLaws.{rest, rest_all, sorted_few, row_room, one_row}
use Rattle.order.proofs.TermLaws.{row_terms}
use Rattle.groups.proofs.rising.RiseLaws.{equal_falls_key, sorted_on, sorted_stop, sorted_stretch}
use Rattle.groups.proofs.neighbours.is_sorted.Statement.{statement}
use Rattle.groups.proofs.neighbours.is_sorted.Tie as tie

abbrev invariant-loop : tie.invariant-loop-e
invariant-loop rows rules by p₀ e₀ p e =
    (0 < e) × (p + rows.width ≡ e * rows.width) × (sorted (with_list rules.terms rules.codes.now rules.rising.now) (rows_of rows.width rows.count rows.values.now rows.marks.now) ≡ sorted (with_list rules.terms rules.codes.now rules.rising.now) (rest rows.width p (rows.count - (e - 1)) rows.values.now rows.marks.now))

abbrev decreases-loop : tie.decreases-loop-e
decreases-loop rows rules by p₀ e₀ p e = rows.count - e

-- row e ends within the rows
room : (c : tie.In-loop-e invariant-loop decreases-loop) → let a = c.args in c.loop-e.e * a.rows.width + a.rows.width ≤ a.rows.count * a.rows.width
room c = row_room c.loop-e.e c.args.rows.count c.args.rows.width c.loop-e-test.true

-- the two rows are there
rows_at : (c : tie.In-loop-e invariant-loop decreases-loop) → let l = c.loop-e in let a = c.args in
    RowAt (with_list a.rules.terms a.rules.codes.now a.rules.rising.now) l.p a.rows.values.now a.rows.marks.now × RowAt (with_list a.rules.terms a.rules.codes.now a.rules.rising.now) (l.p + a.rows.width) a.rows.values.now a.rows.marks.now
rows_at c =
    let r = room c in
    let p = c.requires in
    (record { few = p.few; values = omega arith; marks = omega arith }, record { few = p.few; values = omega arith; marks = omega arith })

-- in equal groups `key_falls` tells whether the row before is greater
told : (c : tie.After-key_falls invariant-loop decreases-loop) (t : Bool) → c.key_falls.result ≡ t →
    let l = c.loop-e in
    let a = c.args in
    is_greater (cmp_row (with_list a.rules.terms a.rules.codes.now a.rules.rising.now) (row_from a.rows.width l.p a.rows.values.now a.rows.marks.now) (row_from a.rows.width (l.p + a.rows.width) a.rows.values.now a.rows.marks.now)) ≡ t
told c t e =
    let i = c in
    let l = i.loop-e in
    let s = i in
    let a = s.args in
    let r = rows_at i.before.before.before.before in
    let same = c.same_values.ensures c.if-same_values.true a.rules.codes.now a.rules.rising.now a.rows.width s.requires.wide in
    equal_falls_key (with_list a.rules.terms a.rules.codes.now a.rules.rising.now) a.rows.width a.rows.values.now a.rows.marks.now s.requires.wide l.p (l.p + a.rows.width) r.0.values r.1.values same ∙ sym c.key_falls.ensures ∙ e

keys-sorted-requires : tie.Need-keys_sorted-requires invariant-loop decreases-loop
keys-sorted-requires c κs = let p = c.requires in record { wide = omega (arith, p.wide); within = omega arith; values = p.values; marks = p.marks }

returns : tie.Need-returns-then-by-eq0 invariant-loop decreases-loop
returns c = let a = c.args in c.keys_sorted.ensures (with_list a.rules.terms a.rules.codes.now a.rules.rising.now) c.if-by-eq0.true

loop-holds : tie.Need-loop-e-init invariant-loop decreases-loop
loop-holds c =
    let a = c.args in
    let o = with_list a.rules.terms a.rules.codes.now a.rules.rising.now in
    let z : a.rows.count - (1 - 1) ≡ a.rows.count = omega arith in
    (omega arith, omega arith, rw z (ap (sorted o) (rest_all o a.rows.width a.rows.values.now a.rows.marks.now a.rows.count)))

add-q : tie.Need-overflow_add-q invariant-loop decreases-loop
add-q c = omega (arith, room c, c.requires.values)

same-values-requires : tie.Need-same_values-requires invariant-loop decreases-loop
same-values-requires c κs =
    let l = c.loop-e in
    let a = c.args in
    let r = rows_at c.before in
    let plain = row_terms a.rules.terms a.rules.codes.now a.rules.rising.now in
    (plain l.p a.rows.values.now a.rows.marks.now r.0, plain (l.p + a.rows.width) a.rows.values.now a.rows.marks.now r.1)

add-key-falls : tie.Need-overflow_add-p invariant-loop decreases-loop
add-key-falls c = let r = rows_at c.before.before.before in omega (arith, r.0.values)

add-key-falls-2 : tie.Need-overflow_add-q-then-same_values invariant-loop decreases-loop
add-key-falls-2 c = let r = rows_at c.before.before.before in omega (arith, r.1.values)

key-falls-requires : tie.Need-key_falls-requires invariant-loop decreases-loop
key-falls-requires c κs =
    let r = rows_at c.before.before.before in
    (record { values = r.0.values; marks = r.0.marks }, record { values = r.1.values; marks = r.1.marks })

returns-2 : tie.Need-returns-then-key_falls invariant-loop decreases-loop
returns-2 c =
    let i = c in
    let l = i.loop-e in
    let s = i in
    let a = s.args in
    let o = with_list a.rules.terms a.rules.codes.now a.rules.rising.now in
    let vs = a.rows.values.now in
    let ms = a.rows.marks.now in
    let t = i.loop-e-test.true in
    let h = l.invariant.0 in
    sym (l.invariant.2 ∙ sorted_stop o a.rows.width vs ms s.requires.wide l.p (a.rows.count - (l.e - 1)) (omega arith) (told c.before _ c.if-key_falls.true))

rise-end-requires : tie.Need-rise_end-e-requires invariant-loop decreases-loop
rise-end-requires c κs =
    let i = c in
    let p = i.requires in
    (record { wide = omega (arith, p.wide); within = omega (arith, i.loop-e-test.true); values = p.values; marks = p.marks }, i.loop-e-test.true)

sub-p : tie.Need-overflow_sub-p invariant-loop decreases-loop
sub-p c = omega (arith, c.rise_end-e.ensures.0.start)

mul-p : tie.Need-overflow_mul-p invariant-loop decreases-loop
mul-p c =
    let s = c in
    let e = c.rise_end-e.result in
    let k = c.rise_end-e.ensures.0 in
    let m = mul-le-mul_right {m = e} {n = s.args.rows.count} s.args.rows.width k.within in
    let o = one_row e s.args.rows.width (omega (arith, k.start)) in
    omega (arith, s.requires.values)

loop-less : tie.Need-loop-e-smaller-then-same_values invariant-loop decreases-loop
loop-less c = let t = c.loop-e-test.true in omega (arith, c.rise_end-e.ensures.0.start, c.rise_end-e.ensures.0.within)

loop-again : tie.Need-loop-e-preserved-then-same_values invariant-loop decreases-loop
loop-again c =
    let i = c in
    let l = i.loop-e in
    let s = i in
    let a = s.args in
    let o = with_list a.rules.terms a.rules.codes.now a.rules.rising.now in
    let vs = a.rows.values.now in
    let ms = a.rows.marks.now in
    let t = i.loop-e-test.true in
    let h = l.invariant.0 in
    let k = c.rise_end-e.ensures.0 in
    let z : a.rows.count - (l.e - 1) - 1 ≡ a.rows.count - l.e = omega arith in
    let on = sorted_on o a.rows.width vs ms s.requires.wide l.p (a.rows.count - (l.e - 1)) (omega arith) (told c.before.before _ c.if-key_falls.false) in
    let past = sorted_stretch o a.rows.width vs ms s.requires.wide a.rows.count s.requires.values l.e c.rise_end-e.result k c.rise_end-e.ensures.1 in
    (omega (arith, k.start), sym (one_row c.rise_end-e.result a.rows.width (omega (arith, k.start))), l.invariant.2 ∙ on ∙ rw (z, l.invariant.1) past)

row-falls-requires : tie.Need-row_falls-requires invariant-loop decreases-loop
row-falls-requires c κs =
    let i = c in
    let r = rows_at i.before.before.before in
    let b = i.if-by-eq0.false in
    (r.0, r.1, omega arith)

returns-3 : tie.Need-returns-then-row_falls invariant-loop decreases-loop
returns-3 c =
    let i = c in
    let l = i.loop-e in
    let s = i in
    let a = s.args in
    let o = with_list a.rules.terms a.rules.codes.now a.rules.rising.now in
    let vs = a.rows.values.now in
    let ms = a.rows.marks.now in
    let t = i.loop-e-test.true in
    let h = l.invariant.0 in
    let e = sym (c.row_falls.ensures a.rows.width s.requires.wide) ∙ c.if-row_falls.true in
    sym (l.invariant.2 ∙ sorted_stop o a.rows.width vs ms s.requires.wide l.p (a.rows.count - (l.e - 1)) (omega arith) e)

add-e : tie.Need-overflow_add-e invariant-loop decreases-loop
add-e c = omega arith

loop-less-2 : tie.Need-loop-e-smaller invariant-loop decreases-loop
loop-less-2 c = omega arith

loop-again-2 : tie.Need-loop-e-preserved invariant-loop decreases-loop
loop-again-2 c =
    let i = c in
    let l = i.loop-e in
    let s = i in
    let a = s.args in
    let o = with_list a.rules.terms a.rules.codes.now a.rules.rising.now in
    let vs = a.rows.values.now in
    let ms = a.rows.marks.now in
    let t = i.loop-e-test.true in
    let h = l.invariant.0 in
    let e = sym (c.row_falls.ensures a.rows.width s.requires.wide) ∙ c.if-row_falls.false in
    let z : a.rows.count - (l.e + 1 - 1) ≡ a.rows.count - (l.e - 1) - 1 = omega arith in
    (omega arith, omega arith, rw z (l.invariant.2 ∙ sorted_on o a.rows.width vs ms s.requires.wide l.p (a.rows.count - (l.e - 1)) (omega arith) e))

returns-4 : tie.Need-returns invariant-loop decreases-loop
returns-4 c =
    let l = c.loop-e in
    let a = c.args in
    let h = l.invariant.0 in
    sym (l.invariant.2 ∙ sorted_few (with_list a.rules.terms a.rules.codes.now a.rules.rising.now) a.rows.width a.rows.values.now a.rows.marks.now l.p (a.rows.count - (l.e - 1)) (omega (arith, c.loop-e-test.false)))

pub is_sorted_spec : {M : Type 1} → statement M
is_sorted_spec =
    tie.close
    (tie.spec invariant-loop decreases-loop keys-sorted-requires returns loop-holds add-q same-values-requires add-key-falls add-key-falls-2 key-falls-requires returns-2 rise-end-requires sub-p mul-p loop-less loop-again row-falls-requires returns-3 add-e loop-less-2 loop-again-2 returns-4)
