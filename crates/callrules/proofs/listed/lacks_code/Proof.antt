-- `listed::lacks_code` meets its contract. Assumes nothing.
use mathlib.Core.Path.{◌≡◌, refl, sym}
use Prim.Native.Nat.{◌+◌, ◌*◌}
use native.Mathlib.Omega.{arith}
use borrow.Author.Rules.{rules}
use lib.ListN.{length}
use lib.Seq.{length-take-le}
use Rattle.frames.proofs.FrontLaws.{table_count}
use Rattle.order.proofs.ranks.RankLaws.{Good}
use Rattle.order.proofs.ranks.KeptLaws.{Kept}
use Rattle.order.specs.options.Options.{with_list}
use Rattle.order.specs.declared.options.Options.{Options}
use Rattle.callrules.proofs.listed.ListedLaws.{parts_fit, unranked_lacks, list_good, list_kept, column_there, ranked_lacks}
use Rattle.callrules.proofs.listed.lacks_code.Statement.{statement}
use Rattle.callrules.proofs.listed.lacks_code.Tie as tie

-- The options with their list.
abbrev whole : tie.Start → Options
whole s = with_list s.args.rules.terms s.args.rules.codes.now s.args.rules.rising.now

returns : tie.Need-returns-then-not-rules
returns c =
    let s = c in
    sym (unranked_lacks (whole s.before) s.args.c s.args.table.now c.if-not-rules.true)

row-count-requires : tie.Need-row_count-n-requires
row-count-requires c κs = let s = c in table_count s.args.c s.args.table.now s.requires.2

-- The table's words, told by its rows.
fit : (c : tie.After-row_count-n) → let a = c.args in 2 + 2 * (c.row_count-n.result * a.c) ≡ length a.table.now
fit c = let s = c in parts_fit s.args.c s.args.table.now s.requires.2 c.row_count-n.result c.row_count-n.ensures

mul-e : tie.Need-overflow_mul-e
mul-e c = omega (arith, fit c)

add-e : tie.Need-overflow_add-e
add-e c = omega (arith, fit c)

sub-any-unlisted : tie.Need-slice_bounds-any_unlisted-count
sub-any-unlisted c = search rules

part-any-unlisted-start : tie.Need-slice_bounds-any_unlisted-start
part-any-unlisted-start c = search rules

part-any-unlisted-end : tie.Need-slice_bounds-any_unlisted-end
part-any-unlisted-end c = omega (arith, fit c)

mul-any-unlisted : tie.Need-offset_bounds-table-e
mul-any-unlisted c = omega (arith, fit c.before)

sub-any-unlisted-2 : tie.Need-slice_bounds-any_unlisted-count-2
sub-any-unlisted-2 c = omega (arith, fit c.before)

part-any-unlisted-start-2 : tie.Need-slice_bounds-any_unlisted-start-2
part-any-unlisted-start-2 c = omega (arith, fit c.before)

part-any-unlisted-end-2 : tie.Need-slice_bounds-any_unlisted-end-2
part-any-unlisted-end-2 c = search rules

-- The list is given: it is a good one, and all its words are there.
good : (c : tie.After-row_count-n) → let s = c in Good s.args.rules.terms.by (whole s.before.before).ranks
good c = let s = c in list_good (whole s.before.before) s.requires.0 c.if-not-rules.false

list : (c : tie.After-row_count-n) → Kept (whole c.before.before).ranks
list c = let s = c in list_kept (whole s.before.before) s.requires.0 c.if-not-rules.false

slice-aggregate-any-unlisted : tie.Need-slice_bounds-any_unlisted-end-3
slice-aggregate-any-unlisted c =
    let r = c in
    let s = r in
    sym (length-take-le s.args.rules.terms.count s.args.rules.codes.now (list r.before.before.before).codes)

slice-aggregate-any-unlisted-2 : tie.Need-slice_bounds-any_unlisted-end-4
slice-aggregate-any-unlisted-2 c =
    let r = c in
    let s = r in
    sym (length-take-le s.args.rules.terms.count s.args.rules.rising.now (list r.before.before.before.before).places)

any-unlisted-requires : tie.Need-any_unlisted-requires
any-unlisted-requires c κs =
    let r = c in
    let s = r in (
      column_there (whole s.before.before.before.before.before.before) s.args.c s.args.table.now s.requires.1 s.requires.2 (good r.before.before.before.before) r.row_count-n.result _ r.row_count-n.ensures refl,
      (list r.before.before.before.before).indexed,
      rw (length-take-le s.args.rules.terms.count s.args.rules.codes.now (list r.before.before.before.before).codes) (good r.before.before.before.before).some,
    )

returns-2 : tie.Need-returns
returns-2 c =
    let r = c in
    let s = r in
    rw (ranked_lacks (whole s.before.before.before.before.before.before.before) s.args.c s.args.table.now r.if-not-rules.false r.row_count-n.result _ r.row_count-n.ensures refl) c.any_unlisted.ensures

pub lacks_code_spec : {M : Type 1} → statement M
lacks_code_spec =
    tie.close
    (tie.spec returns row-count-requires mul-e add-e sub-any-unlisted part-any-unlisted-start part-any-unlisted-end mul-any-unlisted sub-any-unlisted-2 part-any-unlisted-start-2 part-any-unlisted-end-2 slice-aggregate-any-unlisted slice-aggregate-any-unlisted-2 any-unlisted-requires returns-2)
