-- `framerule::is_table` meets its contract. Assumes nothing.
use Rattle.std.specs.Prelude.{Some}
use Rattle.std.proofs.Common.{◌≡◌, true, length, get_or, pos, sym, ◌∙◌, arith, rules}
use borrow.Author.Tests.{not-true, not-false}
use lib.Signed.{le_z}
use Rattle.frames.specs.Frame.{same_z, row_count}
use Rattle.frames.specs.Front.{fitting}
use Rattle.frames.proofs.Signed.{back}
use Rattle.frames.proofs.FrontLaws.{table_short, table_below_zero, table_over, table_other_length, table_other_columns, table_halves, not_below_zero}
use Rattle.rows.proofs.framerule.is_table.Statement.{statement}
use Rattle.rows.proofs.framerule.is_table.Tie as tie

returns : tie.Need-returns-then-len-lt2
returns c = sym (table_short _ _ c.if-len-lt2.true)

shared-slice-copy-out-if2 : tie.Need-bounds-words-0
shared-slice-copy-out-if2 c = search rules

returns-2 : tie.Need-returns-then-words-lt0
returns-2 c =
    let z = get_or c.args.words.now 0 (pos 0) in
    sym (table_below_zero _ _ (rw (back z c.t8-1.given) at c.if-words-lt0.true))

-- the first word is not negative
counted : (c : tie.Else-words-lt0) → le_z (pos 0) (get_or c.args.words.now 0 (pos 0)) ≡ true
counted c =
    let z = get_or c.args.words.now 0 (pos 0) in
    not_below_zero z (rw (back z c.t8-1.given) at c.if-words-lt0.false)

row-count-requires : tie.Need-row_count-requires
row-count-requires c κs = record { long = omega (arith, c.if-len-lt2.false); counted = counted c }

frame-words-requires : tie.Need-frame_words-requires
frame-words-requires c κs = search rules

enum-known-k : tie.Need-enum_known-k
enum-known-k c = search rules

enum_told : tie.Need-enum_told-1
enum_told c = search rules

returns-3 : tie.Need-returns-in_default
returns-3 c = sym (table_over _ _ (rw (← c.row_count.ensures) (sym c.frame_words.ensures ∙ c.in_default.is)))

-- the length that was found
found : (c : tie.In-Some) → let a = c.args in fitting (row_count a.words.now) a.c (length a.words.now) ≡ Some c.in-Some.k
found c = rw (← c.row_count.ensures) (sym c.frame_words.ensures ∙ c.in-Some.is)

returns-4 : tie.Need-returns-then-k-len
returns-4 c =
    let k = c.in-Some.k in
    let t = c.if-k-len.true in
    sym (table_other_length _ _ _ (found c.before) (λ (e : k ≡ length c.args.words.now). omega arith))

shared-slice-copy-out-same-count : tie.Need-bounds-words-1
shared-slice-copy-out-same-count c = omega (arith, c.if-len-lt2.false)

same-count-requires : tie.Need-same_count-requires
same-count-requires c κs = search rules

-- what `same_count` says of the second word
columns : (c : tie.After-same_count) → let a = c.args in c.same_count.result ≡ same_z (get_or a.words.now 1 (pos 0)) (pos a.c)
columns c =
    let a = c.args in
    rw (back (get_or a.words.now 1 (pos 0)) c.same_count-arg-1.given) at c.same_count.ensures

returns-5 : tie.Need-returns-then-not-same_count
returns-5 c = sym (table_other_columns _ _ (sym (columns c.before) ∙ not-true c.same_count.result c.if-not-same_count.true-raw))

add-e : tie.Need-overflow_add-e
add-e c = search rules

sub-pairs-fine : tie.Need-slice_bounds-pairs_fine-count
sub-pairs-fine c = omega (arith, c.if-len-lt2.false)

part-pairs-fine-start : tie.Need-slice_bounds-pairs_fine-start
part-pairs-fine-start c = omega (arith, c.if-len-lt2.false)

part-pairs-fine-end : tie.Need-slice_bounds-pairs_fine-end
part-pairs-fine-end c = omega (arith, c.if-len-lt2.false)

mul-pairs-fine : tie.Need-offset_bounds-words-e
mul-pairs-fine c = search rules

sub-pairs-fine-2 : tie.Need-slice_bounds-pairs_fine-count-2
sub-pairs-fine-2 c = omega (arith, c.if-len-lt2.false)

part-pairs-fine-start-2 : tie.Need-slice_bounds-pairs_fine-start-2
part-pairs-fine-start-2 c = omega (arith, c.if-len-lt2.false)

part-pairs-fine-end-2 : tie.Need-slice_bounds-pairs_fine-end-2
part-pairs-fine-end-2 c = search rules

pairs-fine-requires : tie.Need-pairs_fine-requires
pairs-fine-requires c κs = search rules

returns-6 : tie.Need-returns
returns-6 c =
    let n : c.in-Some.k ≡ length c.args.words.now = omega (arith, c.if-k-len.false) in
    c.pairs_fine.ensures
    ∙ sym (table_halves _ _ _ (counted c.before.before.before.before.before.before.before.before.before.before) (found c.before.before.before.before.before.before.before) n (sym (columns c.before.before.before.before) ∙ not-false c.same_count.result c.if-not-same_count.false-raw))

pub is_table_spec : {M : Type 1} → statement M
is_table_spec =
    tie.close
    (tie.spec returns shared-slice-copy-out-if2 returns-2 row-count-requires frame-words-requires enum-known-k enum_told returns-3 returns-4 shared-slice-copy-out-same-count same-count-requires returns-5 add-e sub-pairs-fine part-pairs-fine-start part-pairs-fine-end mul-pairs-fine sub-pairs-fine-2 part-pairs-fine-start-2 part-pairs-fine-end-2 pairs-fine-requires returns-6)
