-- `consistency::bad_numbers` meets its contract. Assumes nothing.
use mathlib.Core.Path.{◌≡◌, sym, ◌∙◌}
use mathlib.Core.Bool.{false}
use native.Mathlib.Omega.{arith}
use Prim.Native.Nat.{◌+◌}
use lib.Dec.{ltb}
use Rattle.order.specs.options.Options.{with_list, refused_options, right_columns}
use Rattle.buffer.specs.area.Area.{capacity}
use Rattle.callrules.specs.Judged.{bad_numbers}
use Rattle.order.proofs.options.OptionLaws.{Allowed, allowed_parts}
use borrow.Author.Rules.{rules}
use Rattle.callrules.proofs.consistency.bad_numbers.Statement.{statement}
use Rattle.callrules.proofs.consistency.bad_numbers.Tie as tie

refused-options-requires : tie.Need-refused_options-requires
refused-options-requires c κs = search rules

returns : tie.Need-returns-then-refused_options
unfolding bad_numbers
returns c = simp (← c.refused_options.ensures, c.if-refused_options.true)

-- The options are not refused, so they have few columns.
fine : (c : tie.Else-refused_options) → let a = c.args in refused_options (with_list a.rules.terms a.rules.codes.now a.rules.rising.now) ≡ false
fine c = sym c.refused_options.ensures ∙ c.if-refused_options.false

allowed : (c : tie.Else-refused_options) → let a = c.args in Allowed (with_list a.rules.terms a.rules.codes.now a.rules.rising.now)
allowed c = allowed_parts _ (fine c)

-- The first sum that is tested is that of the held rows.
rows : (c : tie.After-above) → let a = c.args in c.above.result ≡ ltb (capacity (right_columns (with_list a.rules.terms a.rules.codes.now a.rules.rising.now)) a.right.now) (a.base + a.held)
rows c = rw c.right_columns-c.ensures at c.above.ensures

right-columns-requires : tie.Need-right_columns-c-requires
right-columns-requires c κs = ((allowed c.before).by, (allowed c.before).carried)

mul-above : tie.Need-overflow_mul-c
mul-above c = omega (arith, c.right_columns-c.ensures, (allowed c.before.before).by, (allowed c.before.before).carried)

div-above : tie.Need-nonzero_div-right
div-above c = search rules

above-requires : tie.Need-above-requires
above-requires c κs = search rules

returns-2 : tie.Need-returns-then-above
unfolding bad_numbers
returns-2 c = simp (fine c.before.before.before.before, ← rows c.before, c.if-above.true)

above-requires-2 : tie.Need-above-requires-2
above-requires-2 c κs = search rules

returns-3 : tie.Need-returns-then-above-2
unfolding bad_numbers
returns-3 c =
    let a = c in
    simp (fine a.before.before.before.before.before.before, ← rows a.before.before.before, c.if-above.false, ← c.above-2.ensures, c.if-above-2.true)

above-requires-3 : tie.Need-above-requires-3
above-requires-3 c κs = search rules

returns-4 : tie.Need-returns-then-above-3
unfolding bad_numbers
returns-4 c =
    let b = c in
    let a = b in
    simp (fine a.before.before.before.before.before.before.before.before, ← rows a.before.before.before.before.before, b.if-above.false, ← b.above-2.ensures, c.if-above-2.false, ← c.above-3.ensures, c.if-above-3.true)

returns-5 : tie.Need-returns
unfolding bad_numbers
returns-5 c =
    let d = c in
    let b = d in
    let a = b in
    simp (fine a.before.before.before.before.before.before.before.before, ← rows a.before.before.before.before.before, b.if-above.false, ← b.above-2.ensures, d.if-above-2.false, ← d.above-3.ensures, c.if-above-3.false)

pub bad_numbers_spec : {M : Type 1} → statement M
bad_numbers_spec =
    tie.close
    (tie.spec refused-options-requires returns right-columns-requires mul-above div-above above-requires returns-2 above-requires-2 returns-3 above-requires-3 returns-4 returns-5)
