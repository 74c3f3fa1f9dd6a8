-- `compare::cmp_column` meets its contract. Assumes nothing.
use Rattle.std.proofs.Common.{◌≡◌, ◌+◌, true, false, get_or, pos, sym, ◌∙◌, length-take-le, rules}
use Rattle.frames.proofs.Signed.{back}
use Rattle.order.proofs.ranks.KeptLaws.{Kept}
use Rattle.order.specs.options.Options.{with_list, is_ranked}
use Rattle.order.specs.declared.options.Options.{Options}
use Rattle.order.proofs.options.OptionLaws.{ranked_list, ranked_rule, plain_rule}
use Rattle.rows.proofs.compare.cmp_column.Statement.{statement}
use Rattle.rows.proofs.compare.cmp_column.Tie as tie

add_a : tie.Need-overflow_add-p
add_a c = search rules

add-b : tie.Need-overflow_add-q
add-b c = search rules

is-ranked-requires : tie.Need-is_ranked-requires
is-ranked-requires c κs = search rules

mul-cmp-listed : tie.Need-offset_bounds-a-p
mul-cmp-listed c = search rules

shared-slice-copy-out-cmp-listed : tie.Need-bounds-a-p
shared-slice-copy-out-cmp-listed c = search rules

mul-cmp-listed-2 : tie.Need-offset_bounds-a-p-then-is_ranked
mul-cmp-listed-2 c = search rules

shared-slice-copy-out-cmp-listed-2 : tie.Need-bounds-a-p-then-is_ranked
shared-slice-copy-out-cmp-listed-2 c = search rules

mul-cmp-listed-3 : tie.Need-offset_bounds-b-q
mul-cmp-listed-3 c = search rules

shared-slice-copy-out-cmp-listed-3 : tie.Need-bounds-b-q
shared-slice-copy-out-cmp-listed-3 c = search rules

mul-cmp-listed-4 : tie.Need-offset_bounds-b-q-then-is_ranked
mul-cmp-listed-4 c = search rules

shared-slice-copy-out-cmp-listed-4 : tie.Need-bounds-b-q-then-is_ranked
shared-slice-copy-out-cmp-listed-4 c = search rules

array-read-cmp-listed : tie.Need-bounds-descending-j
array-read-cmp-listed c = search rules

array-read-cmp-listed-2 : tie.Need-bounds-last-j
array-read-cmp-listed-2 c = search rules

-- The options with their list.
abbrev whole : tie.Start → Options
whole s = with_list s.args.rules.terms s.args.rules.codes.now s.args.rules.rising.now

-- The column has the list, which is kept; or it has none.
ranked : (c : tie.Then-is_ranked) → let s = c in is_ranked (whole s.before.before.before.before.before) s.args.j ≡ true
ranked c = sym c.is_ranked.ensures ∙ c.if-is_ranked.true

list : (c : tie.Then-is_ranked) → Kept (whole c.before.before.before.before.before).ranks
list c = let s = c in ranked_list (whole s.before.before.before.before.before) s.args.j (ranked c) s.requires.0.few

plain : (c : tie.Else-is_ranked) → let s = c in is_ranked (whole s.before.before.before.before.before) s.args.j ≡ false
plain c = sym c.is_ranked.ensures ∙ c.if-is_ranked.false

slice-aggregate-cmp-listed : tie.Need-slice_bounds-cmp_listed-end
slice-aggregate-cmp-listed c =
    let t = c in
    let s = t in
    sym (length-take-le s.args.rules.terms.count s.args.rules.codes.now (list t.before.before.before.before.before).codes)

slice-aggregate-cmp-listed-2 : tie.Need-slice_bounds-cmp_listed-end-then-is_ranked
slice-aggregate-cmp-listed-2 c =
    let t = c in
    let s = t in
    sym (length-take-le s.args.rules.terms.count s.args.rules.rising.now (list t.before.before.before.before.before.before).places)

cmp-listed-requires : tie.Need-cmp_listed-requires
cmp-listed-requires c κs = (list c.before.before.before.before.before.before).indexed

returns : tie.Need-returns-then-is_ranked
returns c =
    let t = c in
    let s = t in
    let a = s.args in
    rw (
      ranked_rule (whole s.before.before.before.before.before.before.before.before.before.before.before.before) a.j (ranked t.before.before.before.before.before.before.before),
      back (get_or a.a.values.now (a.pa + a.j) (pos 0)) c.cmp_listed-arg-1.given,
      back (get_or a.a.marks.now (a.pa + a.j) (pos 0)) c.cmp_listed-arg-then-is_ranked-1.given,
      back (get_or a.b.values.now (a.pb + a.j) (pos 0)) c.cmp_listed-arg-then-is_ranked-2-1.given,
      back (get_or a.b.marks.now (a.pb + a.j) (pos 0)) c.cmp_listed-arg-then-is_ranked-3-1.given,
    )
    at c.cmp_listed.ensures

array-read-cmp-at : tie.Need-bounds-descending-j-2
array-read-cmp-at c = search rules

array-read-cmp-at-2 : tie.Need-bounds-last-j-2
array-read-cmp-at-2 c = search rules

cmp-at-requires : tie.Need-cmp_at-requires
cmp-at-requires c κs = search rules

returns-2 : tie.Need-returns
returns-2 c =
    let t = c in
    let s = t in
    rw (plain_rule (whole s.before.before.before.before.before.before) s.args.j (plain t.before)) at c.cmp_at.ensures

pub cmp_column_spec : {M : Type 1} → statement M
cmp_column_spec =
    tie.close
    (tie.spec add_a add-b is-ranked-requires mul-cmp-listed shared-slice-copy-out-cmp-listed mul-cmp-listed-2 shared-slice-copy-out-cmp-listed-2 mul-cmp-listed-3 shared-slice-copy-out-cmp-listed-3 mul-cmp-listed-4 shared-slice-copy-out-cmp-listed-4 array-read-cmp-listed array-read-cmp-listed-2 slice-aggregate-cmp-listed slice-aggregate-cmp-listed-2 cmp-listed-requires returns array-read-cmp-at array-read-cmp-at-2 cmp-at-requires returns-2)
