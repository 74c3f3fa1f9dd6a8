-- `boundaries::bad_boundaries` meets its contract. Assumes nothing.
use mathlib.Core.Path.{◌≡◌, sym, ap, ◌∙◌}
use mathlib.Core.Bool.{false}
use Prim.Native.Nat.{◌≤◌}
use native.Mathlib.Omega.{arith}
use borrow.Author.Rules.{rules}
use borrow.Author.Tests.{ne_eqb}
use lib.Dec.{ltb, eqb}
use lib.ListN.{length}
use Rattle.order.specs.options.Options.{with_list}
use Rattle.order.specs.declared.options.Options.{Options}
use Rattle.frames.specs.Cells.{Rows, rows_of}
use Rattle.frames.proofs.WordLaws.{rows_length}
use Rattle.rows.specs.nulls.Nulls.{any_null}
use Rattle.rows.proofs.nulls.NullLaws.{rows_zero}
use Rattle.cutting.proofs.boundaries.ListLaws.{too_many, no_columns, by_rows}
use Rattle.cutting.proofs.boundaries.bad_boundaries.Statement.{statement}
use Rattle.cutting.proofs.boundaries.bad_boundaries.Tie as tie

-- The options with their list, and the boundaries.
abbrev whole : tie.Start → Options
whole s = with_list s.args.rules.terms s.args.rules.codes.now s.args.rules.rising.now

abbrev groups : tie.Start → Rows
groups s = rows_of s.args.rules.terms.by s.args.rows.count s.args.rows.values.now s.args.rows.marks.now

counted : (s : tie.Start) → length (groups s) ≡ s.args.rows.count
counted s = rows_length s.args.rules.terms.by s.args.rows.count s.args.rows.values.now s.args.rows.marks.now

returns : tie.Need-returns-then-rows-gt-MOST
returns c = let s = c in sym (too_many (whole s.before) (groups s.before) (omega (arith, c.if-rows-gt-MOST.true, counted s.before)))

-- They are few.
few : (c : tie.Else-rows-gt-MOST) → length (groups c.before) ≤ 16
few c = omega (arith, c.if-rows-gt-MOST.false, counted c.before)

returns-2 : tie.Need-returns-then-rules-eq0
returns-2 c =
    let s = c in
    sym (no_columns (whole s.before.before) (groups s.before.before) (few c.before) c.if-rules-eq0.true ∙ ap (ltb 0) (counted s.before.before))

any-null-requires : tie.Need-any_null-requires
any-null-requires c κs = search rules

-- There are by-columns, so the boundaries decide.
asked : (c : tie.Else-rules-eq0) → eqb c.args.rules.terms.by 0 ≡ false
asked c = ne_eqb c.args.rules.terms.by 0 (λ e. omega (arith, c.if-rules-eq0.false, e))

nulls : (c : tie.After-any_null) → let s = c in c.any_null.result ≡ any_null (whole s.before.before.before.before).by (groups s.before.before.before.before)
nulls c =
    let s = c in
    c.any_null.ensures ∙ sym (rows_zero (whole s.before.before.before.before).by s.args.rows.count s.args.rows.values.now s.args.rows.marks.now s.requires.values s.requires.marks)

returns-3 : tie.Need-returns-then-any_null
returns-3 c =
    let e = c in
    let s = e in
    sym (by_rows (whole s.before.before.before.before.before) (groups s.before.before.before.before.before) (few e.before.before.before.before) (asked e.before.before.before) ∙ rw (← nulls c.before, c.if-any_null.true))

is-ascending-requires : tie.Need-is_ascending-requires
is-ascending-requires c κs = search rules

returns-4 : tie.Need-returns
returns-4 c =
    let n = c in
    let e = n in
    let s = e in
    sym (by_rows (whole s.before.before.before.before.before.before) (groups s.before.before.before.before.before.before) (few e.before.before.before.before.before) (asked e.before.before.before.before) ∙ rw (← nulls n.before.before, c.if-any_null.false, ← c.is_ascending.ensures))

pub bad_boundaries_spec : {M : Type 1} → statement M
bad_boundaries_spec = tie.close (tie.spec returns returns-2 any-null-requires returns-3 is-ascending-requires returns-4)
