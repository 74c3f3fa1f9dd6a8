-- `framerule::is_frame` meets its contract. Assumes nothing.
use Rattle.std.proofs.Common.{◌≡◌, get_or, pos, sym, ◌∙◌, rules}
use borrow.Author.Tests.{not-true, not-false}
use Rattle.frames.specs.Front.{few_rows}
use Rattle.frames.proofs.Signed.{back}
use Rattle.frames.proofs.FrontLaws.{frame_empty, frame_many, frame_is_table}
use Rattle.rows.proofs.framerule.is_frame.Statement.{statement}
use Rattle.rows.proofs.framerule.is_frame.Tie as tie

returns : tie.Need-returns-then-words-lt1
returns c = sym (frame_empty _ _ c.if-words-lt1.true)

shared-slice-copy-out-few-rows : tie.Need-bounds-words-0
shared-slice-copy-out-few-rows c = search rules

few-rows-requires : tie.Need-few_rows-requires
few-rows-requires c κs = search rules

-- What `few_rows` says of the first word.
few : (c : tie.After-few_rows) → let a = c.args in c.few_rows.result ≡ few_rows (get_or a.words.now 0 (pos 0))
few c =
    let z = get_or c.args.words.now 0 (pos 0) in
    rw (back z c.few_rows-arg-1.given) at c.few_rows.ensures

returns-2 : tie.Need-returns-then-not-few_rows
returns-2 c = sym (frame_many _ _ (sym (few c.before) ∙ not-true c.few_rows.result c.if-not-few_rows.true-raw))

is-table-requires : tie.Need-is_table-requires
is-table-requires c κs = search rules

returns-3 : tie.Need-returns
returns-3 c =
    let e = c in
    c.is_table.ensures ∙ sym (frame_is_table _ _ (sym (few e.before.before) ∙ not-false e.few_rows.result e.if-not-few_rows.false-raw))

pub is_frame_spec : {M : Type 1} → statement M
is_frame_spec =
    tie.close (tie.spec returns shared-slice-copy-out-few-rows few-rows-requires returns-2 is-table-requires returns-3)
