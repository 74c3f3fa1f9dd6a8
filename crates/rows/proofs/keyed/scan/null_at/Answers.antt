-- `frames::scan::null_at` meets its contract. Assumes nothing.
use Rattle.std.proofs.Common.{get_or, pos, sym, ◌∙◌, rules}
use Rattle.frames.proofs.Signed.{zero_flag}
use Rattle.order.proofs.RowLaws.{null_mark}
use Rattle.rows.proofs.keyed.scan.null_at.Goals as goal

pub returns : goal.returns
returns c = λ vs.
    let a = c.args in
    let m = get_or a.marks.now a.k (pos 0) in
    zero_flag m c.result-1.given ∙ sym (null_mark (get_or vs a.k (pos 0)) m)
