-- `cells::cmp_place` meets its contract. Assumes nothing.
use Rattle.std.proofs.Common.{◌≡◌, sym, ap, ◌∙◌, arith, to_z-of_z, w64, to_z, rules}
use Rattle.order.specs.ranks.Ranks.{place_in}
use Rattle.rows.proofs.cells.PlaceLaws.{place_equal, place_less, place_greater, place_same}
use Rattle.rows.proofs.cells.cmp_place.Statement.{statement}
use Rattle.rows.proofs.cells.cmp_place.Tie as tie

returns : tie.Need-returns-then-a-b
returns c =
    let s = c in
    sym (place_equal s.args.codes.now s.args.a s.args.b (sym (to_z-of_z s.ranges.a) ∙ ap (to_z w64) c.if-a-b.true ∙ to_z-of_z s.ranges.b))

place-of-requires : tie.Need-place_of-p-requires
place-of-requires c κs = search rules

place-of-requires-2 : tie.Need-place_of-q-requires
place-of-requires-2 c κs = search rules

-- the two places, of the values themselves and not of their bits
first : (c : tie.After-place_of-q) → let s = c in c.place_of-p.result ≡ place_in s.args.codes.now s.args.a
first c = rw (to_z-of_z c.ranges.a) at c.place_of-p.ensures

second : (c : tie.After-place_of-q) → let s = c in c.place_of-q.result ≡ place_in s.args.codes.now s.args.b
second c = rw (to_z-of_z c.ranges.b) at c.place_of-q.ensures

returns-2 : tie.Need-returns-then-p-q
returns-2 c =
    let d = c in
    let s = d in
    sym (place_less s.args.codes.now s.args.a s.args.b _ _ (first d.before) (second d.before) c.if-p-q.true)

returns-3 : tie.Need-returns-then-q-p
returns-3 c =
    let d = c in
    let s = d in
    sym (place_greater s.args.codes.now s.args.a s.args.b _ _ (first d.before.before) (second d.before.before) c.if-q-p.true)

cmp-value-requires : tie.Need-cmp_value-requires
cmp-value-requires c κs = search rules

returns-4 : tie.Need-returns
returns-4 c =
    let t = c in
    let d = t in
    let s = d in
    let same = place_same s.args.codes.now s.args.a s.args.b _ _ (first d.before.before.before) (second d.before.before.before) (omega (arith, t.if-p-q.false, t.if-q-p.false)) in
    rw (to_z-of_z s.ranges.a, to_z-of_z s.ranges.b) at c.cmp_value.ensures ∙ sym same

pub cmp_place_spec : {M : Type 1} → statement M
cmp_place_spec = tie.close (tie.spec returns place-of-requires place-of-requires-2 returns-2 returns-3 cmp-value-requires returns-4)
