-- `framerule::front_length` meets its contract. Assumes nothing.
use Rattle.std.proofs.Common.{◌≡◌, true, get_or, pos, sym, ◌∙◌, arith, rules}
use borrow.Author.Tests.{not-true, not-false}
use Rattle.frames.specs.Front.{few_rows}
use Rattle.frames.proofs.Signed.{back}
use Rattle.frames.proofs.FrontLaws.{few_counted, front_short, front_many, front_fits}
use Rattle.rows.proofs.framerule.front_length.Goals as goal

pub returns-then-len-lt2 : goal.returns-then-len-lt2
returns-then-len-lt2 c = sym (front_short _ _ c.if-len-lt2.true)

pub returns-then-not-few_rows : goal.returns-then-not-few_rows
returns-then-not-few_rows c =
    let r = c.few_rows.result in
    let z = get_or c.args.words.now 0 (pos 0) in
    let e = rw (back z c.few_rows-arg-1.given) at c.few_rows.ensures in
    sym (front_many _ _ c.if-len-lt2.false (sym e ∙ not-true r c.if-not-few_rows.true-raw))

few : (c : goal.Else-not-few_rows) → few_rows (get_or c.args.words.now 0 (pos 0)) ≡ true
few c =
    let z = get_or c.args.words.now 0 (pos 0) in
    let e = rw (back z c.few_rows-arg-1.given) at c.few_rows.ensures in
    sym e ∙ not-false c.few_rows.result c.if-not-few_rows.false-raw

pub row_count-requires : goal.row_count-requires
row_count-requires c = let z = get_or c.args.words.now 0 (pos 0) in record { long = omega arith; counted = few_counted z (few c) }

pub returns : goal.returns
returns c =
    let e = c in
    sym (front_fits _ _ e.if-len-lt2.false (few e.before.before) ∙ rw (← c.row_count.ensures) (sym c.frame_words.ensures))
