-- `readcalls::read_by` meets its contract: what the view tells, read. Assumes nothing.
use mathlib.Core.Path.{sym, ◌∙◌}
use Rattle.std.proofs.lemmas.Result.{err_from_is_err_and}
use Rattle.readers.proofs.PlaceLaws.{views_read}
use Rattle.readers.proofs.readcalls.read_by.Goals as goal

pub returns-in_err-view : goal.returns-in_err-view
returns-in_err-view c =
    let p = err_from_is_err_and c.from_residual.result c.from_residual.ensures.1 in
    rw (p.1, p.2) (sym ((views_read _ _ _).refuses _ (sym c.view_by.ensures ∙ c.in_err-view.was) _ _))

pub returns : goal.returns
returns c = rw c.shown_at.ensures (sym ((views_read _ _ _).reads _ _ (sym c.view_by.ensures ∙ c.in_ok-view.was) _ _))
