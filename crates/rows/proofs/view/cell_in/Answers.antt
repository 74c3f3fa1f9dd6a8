use Rattle.std.proofs.Common.{ap, ◌∙◌}
use Rattle.frames.proofs.Signed.{back}
use Rattle.rows.proofs.view.PlaceLaws.{view_found}
use Rattle.rows.proofs.view.cell_in.Goals as goal

pub returns : goal.returns
returns c =
    let a = c.args in
    let v = c.view-v.result in
    let e = c.view-v.ensures in
    let t = rw (back c.value.result c.value.type_inv, back c.mark.result c.mark.type_inv) at c.found_of.ensures in
    t ∙ view_found a.words.now v.words.now v.rows a.c v.columns a.row a.column (ap (λ x. x.now) e.0) e.1 e.2 c.requires _ _ c.value.ensures c.mark.ensures
