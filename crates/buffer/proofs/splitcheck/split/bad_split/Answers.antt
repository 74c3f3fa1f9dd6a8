-- `split::bad_split` meets its contract. Assumes nothing.
use mathlib.Core.Path.{◌≡◌, sym, ◌∙◌}
use mathlib.Core.Bool.{true, false}
use Prim.Native.Nat.{ℕ, ◌*◌, ◌≤◌}
use native.Mathlib.Omega.{arith}
use borrow.Author.Rules.{rules}
use lib.ListN.{length}
use Rattle.std.specs.Prelude.{Option}
use Rattle.frames.specs.Cells.{Words, rows_of}
use Rattle.frames.specs.declared.RowSlice.{RowSlice}
use Rattle.order.specs.declared.options.Rules.{Rules}
use Rattle.order.specs.options.Options.{columns, without_list, options_of}
use Rattle.order.specs.Keyed.{last_keyed}
use Rattle.order.proofs.TermLaws.{keys_terms, last_terms}
use Rattle.buffer.specs.splitcheck.Requires.{SplitIn}
use Rattle.buffer.proofs.splitcheck.BeforeLaws.{long, keys_in, before_in, behind_in, front_in, split_none, split_says}
use Rattle.buffer.proofs.splitcheck.split.bad_split.Goals as goal

-- the last row with a key before the split
found : (rules : Rules) (right : RowSlice) (s : ℕ) (k : Option ℕ) → SplitIn (options_of rules) s right.width right.count right.values.now right.marks.now
    → ((vs : Words) → s * right.width ≤ length vs → k ≡ last_keyed (without_list rules.terms) (rows_of right.width s vs right.marks.now))
    → last_keyed (options_of rules) (rows_of right.width s right.values.now right.marks.now) ≡ k
found rules right s k p h =
    let rows = rows_of right.width s right.values.now right.marks.now in
    sym (h right.values.now (long p right.values.now p.rows.values).0 ∙ last_terms rules.terms rules.codes.now rules.rising.now rows (length rows))

pub last_keyed-found-requires : goal.last_keyed-found-requires
last_keyed-found-requires c =
    let a = c.args in
    keys_terms a.rules.terms a.rules.codes.now a.rules.rising.now a.right.width a.s a.right.marks.now (keys_in c.requires)

pub returns-then-not-has_before : goal.returns-then-not-has_before
returns-then-not-has_before c =
    let a = c.args in
    let f = found a.rules a.right a.s _ c.requires c.last_keyed-found.ensures in
    let e : c.has_before.result ≡ false = search rules in
    split_none c.requires a.m _ f (sym c.has_before.ensures ∙ e)

pub before_split-values-requires : goal.before_split-values-requires
before_split-values-requires c =
    let a = c.args in
    let f = found a.rules a.right a.s _ c.requires c.last_keyed-found.ensures in
    let g : length a.m.values ≡ 5 = search rules in
    rw c.left_columns-c.ensures (before_in c.requires _ a.right.values.now a.m.values f c.requires.rows.values (omega (arith, c.requires.rows.few)))

pub before_split-marks-requires : goal.before_split-marks-requires
before_split-marks-requires c =
    let a = c.args in
    let f = found a.rules a.right a.s _ c.requires c.last_keyed-found.ensures in
    let g : length a.m.marks ≡ 5 = search rules in
    rw c.left_columns-c.ensures (before_in c.requires _ a.right.marks.now a.m.marks f c.requires.rows.marks (omega (arith, c.requires.rows.few)))

pub above_first-requires : goal.above_first-requires
above_first-requires c =
    let a = c.args in
    let f = found a.rules a.right a.s _ c.requires c.last_keyed-found.ensures in
    let g : length a.m.values ≡ 5 = search rules in
    let h : length a.m.marks ≡ 5 = search rules in
    let v : columns (options_of a.rules) ≤ length a.m.values = omega (arith, c.requires.rows.few) in
    let m : columns (options_of a.rules) ≤ length a.m.marks = omega (arith, c.requires.rows.few) in
    (front_in c.requires a.m _ _ _ f v m (rw c.left_columns-c.ensures at c.before_split-values.ensures) (rw c.left_columns-c.ensures at c.before_split-marks.ensures), behind_in c.requires)

pub returns : goal.returns
returns c =
    let a = c.args in
    let f = found a.rules a.right a.s _ c.requires c.last_keyed-found.ensures in
    let e : c.has_before.result ≡ true = search rules in
    split_says c.requires a.m _ _ _ _ f (sym c.has_before.ensures ∙ e) (rw c.left_columns-c.ensures at c.before_split-values.ensures) (rw c.left_columns-c.ensures at c.before_split-marks.ensures) c.above_first.ensures
