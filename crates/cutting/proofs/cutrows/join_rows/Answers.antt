-- `cutrows::join_rows` meets its contract. Assumes nothing.
use mathlib.Core.Path.{refl, sym, ◌∙◌}
use Rattle.std.proofs.lemmas.Result.{err_from_is_err_and}
use Rattle.cutting.proofs.cutrows.RowsLaws.{rows_refused, rows_written, passed, answer_room}
use Rattle.cutting.proofs.cutrows.join_rows.Goals as goal

pub returns-in_err-written : goal.returns-in_err-written
returns-in_err-written c =
    let p = err_from_is_err_and c.from_residual.result c.from_residual.ensures.1 in
    rw (p.1, p.2) (rows_refused _ _ _ _ _ _ _ _ refl (sym c.in_err-written.was ∙ c.judge_pairs.ensures))

pub match_sorted-requires : goal.match_sorted-requires
match_sorted-requires c =
    let q = passed _ _ _ _ _ _ _ (sym c.judge_pairs.ensures ∙ c.in_ok-written.was) in
    (answer_room _ _ _ _ _ _ _ _ _ _ _ _ _ c.requires q, record { left = q.left_sorted; right = q.right_sorted })

pub returns : goal.returns
returns c = rows_written _ _ _ _ _ _ _ _ refl (sym c.in_ok-written.was ∙ c.judge_pairs.ensures) _ c.match_sorted.ensures
