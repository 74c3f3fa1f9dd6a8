-- `notices::row::put_notice` meets its contract. Assumes nothing.
use mathlib.Core.Path.{◌≡◌, refl, sym, ◌∙◌}
use Prim.Native.Nat.{◌*◌}
use native.Mathlib.Omega.{arith}
use mir.Syntax.{w64}
use mir.ValLaws.{to_z_pos}
use lib.IntN.{pos}
use Rattle.order.specs.options.Options.{without_list}
use Rattle.frames.specs.Cells.{null, value, row_from}
use Rattle.books.specs.Standing.{nameless}
use Rattle.books.proofs.notices.NoticeLaws.{notice_nameless, notice_stands, notice_names}
use borrow.Author.Rules.{rules}
use Rattle.books.proofs.notices.row.put_notice.Statement.{statement}
use Rattle.books.proofs.notices.row.put_notice.Tie as tie

mul-p : tie.Need-overflow_mul-p
mul-p c = search rules

mul-k : tie.Need-overflow_mul-k
mul-k c = search rules

is-nameless-requires : tie.Need-is_nameless-requires
is-nameless-requires c κs = let s = c in record { marks = omega (arith, s.requires.wide, s.requires.marks) }

put-pair-requires : tie.Need-put_pair-requires
put-pair-requires c κs = search rules

same_length : tie.Need-shape_of-out-then-is_nameless
same_length c = search rules

-- what was asked of the row
asked : (c : tie.After-is_nameless) → let a = c.args in c.is_nameless.result ≡ nameless (without_list a.o) (row_from a.rows.width (a.i * a.rows.width) a.rows.values.now a.rows.marks.now)
asked c =
    let s = c in
    c.is_nameless.ensures s.args.rows.width s.args.rows.values.now (omega (arith, s.requires.wide)) (omega (arith, s.requires.wide, s.requires.values))

returns : tie.Need-returns-then-is_nameless
returns c =
    let a = c.args in
    c.put_pair.ensures null refl refl ∙ rw (notice_nameless (without_list a.o) a.column a.i a.last _ (sym (asked c.before.before.before.before) ∙ c.if-is_nameless.true))

add-stands : tie.Need-overflow_add-o
add-stands c = search rules

add-stands-2 : tie.Need-overflow_add-o-2
add-stands-2 c = search rules

add-stands-3 : tie.Need-overflow_add-p
add-stands-3 c = search rules

stands-requires : tie.Need-stands-requires
stands-requires c κs = search rules

put-pair-requires-2 : tie.Need-put_pair-requires-then-stands
put-pair-requires-2 c κs = search rules

same-length-2 : tie.Need-shape_of-out-then-stands
same-length-2 c = search rules

returns-2 : tie.Need-returns-then-stands
returns-2 c =
    let s = c in
    let a = s.args in
    c.put_pair-then-stands.ensures null refl refl
    ∙ rw (notice_stands (without_list a.o) a.column a.i a.last a.rows.width (a.i * a.rows.width) a.rows.values.now a.rows.marks.now s.requires.wide s.requires.values (sym (asked c.before.before.before.before.before.before.before) ∙ c.if-is_nameless.false) (sym c.stands.ensures ∙ c.if-stands.true))

cast-put-pair : tie.Need-overflow_cast-last
cast-put-pair c = search rules

put-pair-requires-3 : tie.Need-put_pair-requires-2
put-pair-requires-3 c κs = search rules

same-length-3 : tie.Need-shape_of-out
same-length-3 c = search rules

returns-3 : tie.Need-returns
returns-3 c =
    let s = c in
    let a = s.args in
    c.put_pair-2.ensures (value (pos a.last)) (sym (to_z_pos w64 a.last s.requires.number)) refl
    ∙ rw (notice_names (without_list a.o) a.column a.i a.last a.rows.width (a.i * a.rows.width) a.rows.values.now a.rows.marks.now s.requires.wide s.requires.values (sym (asked c.before.before.before.before.before.before.before) ∙ c.if-is_nameless.false) (sym c.stands.ensures ∙ c.if-stands.false))

pub put_notice_spec : {M : Type 1} → statement M
put_notice_spec =
    tie.close
    (tie.spec mul-p mul-k is-nameless-requires put-pair-requires same_length returns add-stands add-stands-2 add-stands-3 stands-requires put-pair-requires-2 same-length-2 returns-2 cast-put-pair put-pair-requires-3 same-length-3 returns-3)
