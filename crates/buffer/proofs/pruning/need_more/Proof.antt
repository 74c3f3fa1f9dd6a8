use mathlib.Core.Path.{◌≡◌, ◌∙◌}
use mathlib.Core.List.{[]}
use Prim.Native.Nat.{◌+◌, ◌-◌, ◌*◌, ◌≤◌}
use native.Mathlib.Omega.{arith}
use lib.ListN.{length, get_or}
use Rattle.frames.specs.Cells.{rows_of, row_from}
use Rattle.frames.proofs.WordLaws.{rows_length}
use Rattle.order.proofs.RowLaws.{row_room, row_cell, rows_from}
use Rattle.order.proofs.TermLaws.{rows_terms}
use Rattle.searching.proofs.TermLaws.{key_terms}
use Rattle.searching.proofs.ReachLaws.{row_at, narrow_end, more_no_left, more_no_held, more_start, more_end, more_key}
use borrow.Author.Rules.{rules}
use Rattle.buffer.proofs.pruning.need_more.Statement.{statement}
use Rattle.buffer.proofs.pruning.need_more.Tie as tie

-- how many rows there are, and the last left one
many-left : (c : tie.Start) → let a = c.args in length (rows_of a.left.width a.left.count a.left.values.now a.left.marks.now) ≡ a.left.count
many-left c = let a = c.args in rows_length a.left.width a.left.count a.left.values.now a.left.marks.now

many : (c : tie.Start) → let a = c.args in length (rows_of a.right.width a.right.count a.right.values.now a.right.marks.now) ≡ a.right.count
many c = let a = c.args in rows_length a.right.width a.right.count a.right.values.now a.right.marks.now

last_row : (c : tie.Else-right-eq0) → let a = c.args in get_or (rows_of a.left.width a.left.count a.left.values.now a.left.marks.now) (a.left.count - 1) [] ≡ row_from a.left.width ((a.left.count - 1) * a.left.width) a.left.values.now a.left.marks.now
last_row c = let a = c.args in rows_from a.left.width a.left.count (a.left.count - 1) a.left.values.now a.left.marks.now (omega (arith, c.if-left-eq0.false))

last-room : (c : tie.Else-right-eq0) → let a = c.args in ((a.left.count - 1) * a.left.width + a.left.width ≤ a.left.count * a.left.width)
last-room c = let a = c.args in row_room (a.left.count - 1) a.left.count a.left.width (omega (arith, c.if-left-eq0.false))

returns : tie.Need-returns-then-left-eq0
returns c = more_no_left _ _ _ _ _ (many-left c.before) (many c.before) c.if-left-eq0.true

returns-2 : tie.Need-returns-then-right-eq0
returns-2 c = let s = c in more_no_held _ _ _ _ _ (many-left s.before.before) (many s.before.before) c.if-left-eq0.false c.if-right-eq0.true

sub-p : tie.Need-overflow_sub-p
sub-p c = search rules

mul-p : tie.Need-overflow_mul-p
mul-p c = let r = last-room c in omega arith

narrow-requires : tie.Need-narrow-s-requires
narrow-requires c κs = let s = c in let a = s.args in (row_at s.requires.0 (a.left.count - 1) (omega (arith, c.if-left-eq0.false)), s.requires.1)

returns-3 : tie.Need-returns-then-s-right
returns-3 c =
    let f = c in
    let e = f in
    let s = e in
    more_start _ _ _ _ _ (many-left s.before.before.before.before.before) (many s.before.before.before.before.before) e.if-left-eq0.false e.if-right-eq0.false _ (last_row e.before.before.before) _ (f.narrow-s.ensures s.args.left.width s.requires.0.wide) c.if-s-right.true

returns-4 : tie.Need-returns-then-s-right-2
returns-4 c =
    let f = c in
    let e = f in
    let s = e in
    more_end _ _ _ _ _ (many-left s.before.before.before.before.before.before.before) (many s.before.before.before.before.before.before.before) e.if-left-eq0.false e.if-right-eq0.false _ (last_row e.before.before.before.before.before) _ (f.narrow-s.ensures s.args.left.width s.requires.0.wide) c.if-s-right.false c.if-s-right-2.true

add-key-needs-more : tie.Need-overflow_add-p
add-key-needs-more c = let a = c.args in let r = row_room (a.left.count - 1) a.left.count a.left.width (omega (arith, c.if-left-eq0.false)) in omega arith

key-needs-more-requires : tie.Need-key_needs_more-requires
key-needs-more-requires c κs =
    let f = c in
    let e = f in
    let s = e in
    let a = s.args in
    let q = row_at s.requires.0 (a.left.count - 1) (omega (arith, e.if-left-eq0.false)) in
    (record { values = q.values; marks = q.marks }, rows_terms a.rules.terms a.rules.codes.now a.rules.rising.now a.right.width a.right.count a.right.values.now a.right.marks.now s.requires.1, narrow_end _ _ _ _ _ _ (many s.before.before.before.before.before.before.before.before) (f.narrow-s.ensures a.left.width s.requires.0.wide))

returns-5 : tie.Need-returns
returns-5 c =
    let f = c in
    let e = f in
    let s = e in
    let a = s.args in
    let q = row_at s.requires.0 (a.left.count - 1) (omega (arith, e.if-left-eq0.false)) in
    c.key_needs_more.ensures
    ∙ key_terms a.rules.terms a.rules.codes.now a.rules.rising.now _ _ _ _
    ∙ more_key _ _ _ _ _ (many-left s.before.before.before.before.before.before.before.before.before) (many s.before.before.before.before.before.before.before.before.before) e.if-left-eq0.false e.if-right-eq0.false _ (last_row e.before.before.before.before.before.before.before) _ (f.narrow-s.ensures a.left.width s.requires.0.wide) c.if-s-right.false c.if-s-right-2.false _
    (row_cell a.left.width ((a.left.count - 1) * a.left.width) a.rules.terms.by a.left.values.now a.left.marks.now s.requires.0.wide q.values)

pub need_more_spec : {M : Type 1} → statement M
need_more_spec =
    tie.close
    (tie.spec returns returns-2 sub-p mul-p narrow-requires returns-3 returns-4 add-key-needs-more key-needs-more-requires returns-5)
