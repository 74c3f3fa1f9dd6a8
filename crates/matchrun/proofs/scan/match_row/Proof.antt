use mathlib.Core.Path.{◌≡◌, sym, ap, ◌∙◌}
use mathlib.Core.Bool.{◌&&◌}
use Prim.Native.Nat.{ℕ, ◌+◌, ◌*◌, ◌≤◌, ◌<◌}
use native.Mathlib.Omega.{arith}
use lib.Dec.{ltb}
use lib.IntN.{pos, nat_abs, ◌-ℤ◌}
use lib.ListN.{get_or}
use lib.Signed.{le_z}
use Rattle.frames.specs.Cells.{value, is_null, row_from}
use Rattle.order.specs.options.Options.{without_list}
use Rattle.order.specs.Order.{key_of}
use Rattle.frames.proofs.Signed.{back}
use Rattle.order.proofs.RowLaws.{row_cell, row_room}
use Rattle.matching.specs.Match.{nobody, fits, choose}
use Rattle.matching.specs.Stretches.{between, hit_at}
use Rattle.matching.proofs.ScanLaws.{present}
use Rattle.matching.proofs.BestLaws.{key_at_lem, none_null, none_best, none_far, row_near}
use borrow.Author.Rules.{rules}
use Rattle.matchrun.proofs.scan.match_row.Statement.{statement}
use Rattle.matchrun.proofs.scan.match_row.Tie as tie

-- the key of the left row, where it is not null
key : (c : tie.After-v-1) →
    let a = c.args in
    (wl : ℕ) → a.o.by < wl → key_of (without_list a.o) (row_from wl a.p a.left.values.now a.left.marks.now) ≡ value (get_or a.left.values.now (a.p + a.o.by) (pos 0))
key c wl h =
    let s = c in
    let a = s.args in
    let n = sym (c.null_at.ensures a.left.values.now) ∙ c.if-null_at.false in
    row_cell wl a.p a.o.by a.left.values.now a.left.marks.now h s.requires.left.values ∙ present (get_or a.left.values.now (a.p + a.o.by) (pos 0)) (get_or a.left.marks.now (a.p + a.o.by) (pos 0)) n

-- what `choose_row` found
found : (c : tie.After-choose_row-best) →
    let a = c.args in
    (wl : ℕ) → a.o.by < wl →
    let x = row_from wl a.p a.left.values.now a.left.marks.now in
    hit_at a.number a.right.width a.to a.right.values.now a.right.marks.now c.choose_row-best.result
    ≡ choose (without_list a.o) x (fits (without_list a.o) x) nobody (a.number + a.from) (between a.right.width a.from a.to a.right.values.now a.right.marks.now)
found c wl h =
    let a = c.args in
    let x = row_from wl a.p a.left.values.now a.left.marks.now in
    c.choose_row-best.ensures.1 a.number x (rw (back (get_or a.left.values.now (a.p + a.o.by) (pos 0)) c.v-1.given) (key c.before wl h))

-- the row that it found, and its key
low : (c : tie.Else-best-to) → c.choose_row-best.result < c.args.to
low c = let l = c.if-best-to.false in let k = c.choose_row-best.ensures.0.within in omega arith

room : (c : tie.Else-best-to) → let a = c.args in c.choose_row-best.result * a.right.width + a.right.width ≤ a.to * a.right.width
room c = let a = c.args in row_room c.choose_row-best.result a.to a.right.width (low c)

right_key : (c : tie.Else-best-to) →
    let a = c.args in
    let b = c.choose_row-best.result in
    key_of (without_list a.o) (row_from a.right.width (b * a.right.width) a.right.values.now a.right.marks.now) ≡ value (get_or a.right.values.now (b * a.right.width + a.o.by) (pos 0))
right_key c =
    let s = c in
    let a = s.args in
    let b = c.choose_row-best.result in
    let k = key_at_lem (without_list a.o) a.right.width a.to a.right.values.now a.right.marks.now s.requires.right b (low c) in
    k ∙ present (get_or a.right.values.now (b * a.right.width + a.o.by) (pos 0)) (get_or a.right.marks.now (b * a.right.width + a.o.by) (pos 0)) (rw k at (c.choose_row-best.ensures.0.keyed (low c)))

-- what `too_far_lem` says of the two keys
far : (c : tie.After-too_far) →
    let e = c in
    let a = e.args in
    c.too_far.result ≡ (le_z (pos 0) a.o.tolerance && ltb (nat_abs a.o.tolerance) (nat_abs (get_or a.right.values.now (e.choose_row-best.result * a.right.width + a.o.by) (pos 0) -ℤ get_or a.left.values.now (a.p + a.o.by) (pos 0))))
far c =
    let e = c in
    let a = e.args in
    rw (
      back (get_or a.right.values.now (e.choose_row-best.result * a.right.width + a.o.by) (pos 0)) c.too_far-arg-1.given,
      back (get_or a.left.values.now (a.p + a.o.by) (pos 0)) e.v-1.given,
      back a.o.tolerance c.struct_told-1.given.1.0.1,
    ) at c.too_far.ensures

add-k : tie.Need-overflow_add-k
add-k c = search rules

null-at-requires : tie.Need-null_at-requires
null-at-requires c κs = search rules

returns : tie.Need-returns-then-null_at
returns c = λ wl h.
    let s = c in
    let a = s.args in
    let k = row_cell wl a.p a.o.by a.left.values.now a.left.marks.now h s.requires.left.values in
    sym (none_null (without_list a.o) _ _ _ (ap is_null k ∙ sym (c.null_at.ensures a.left.values.now) ∙ c.if-null_at.true))

mul-v : tie.Need-offset_bounds-left-k
mul-v c = search rules

shared-slice-copy-out-v : tie.Need-bounds-left-k
shared-slice-copy-out-v c = search rules

choose-row-requires : tie.Need-choose_row-best-requires
choose-row-requires c κs = search rules

returns-2 : tie.Need-returns-then-best-to
returns-2 c = λ wl h. sym (none_best _ _ _ _ _ _ _ _ _ _ (found c.before wl h) c.if-best-to.true)

mul-q : tie.Need-overflow_mul-q
mul-q c = let r = room c in let p = c.requires.right in omega arith

add-q : tie.Need-overflow_add-q
add-q c = let r = room c in let p = c.requires.right in omega arith

mul-too-far : tie.Need-offset_bounds-right-q
mul-too-far c = let r = room c in let p = c.requires.right in omega arith

shared-slice-copy-out-too-far : tie.Need-bounds-right-q
shared-slice-copy-out-too-far c = let r = room c in let p = c.requires.right in omega arith

too-far-requires : tie.Need-too_far-requires
too-far-requires c κs = search rules

returns-3 : tie.Need-returns-then-too_far
returns-3 c = λ wl h.
    let e = c in
    sym (none_far _ _ _ _ _ _ _ _ _ _ (found e.before.before.before.before.before wl h) (low e.before.before.before.before) _ _ (key e.before.before.before.before.before.before wl h) (right_key e.before.before.before.before) _ (far c.before) c.if-too_far.true)

add-t17 : tie.Need-overflow_add-result
add-t17 c = search rules

returns-4 : tie.Need-returns
returns-4 c = λ wl h.
    let e = c in
    sym (row_near _ _ _ _ _ _ _ _ _ _ (found e.before.before.before.before.before wl h) (low e.before.before.before.before) _ _ (key e.before.before.before.before.before.before wl h) (right_key e.before.before.before.before) _ (far c.before) c.if-too_far.false)

pub match_row_spec : {M : Type 1} → statement M
match_row_spec =
    tie.close
    (tie.spec add-k null-at-requires returns mul-v shared-slice-copy-out-v choose-row-requires returns-2 mul-q add-q mul-too-far shared-slice-copy-out-too-far too-far-requires returns-3 add-t17 returns-4)
