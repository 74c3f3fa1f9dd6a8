-- `salegroup::cmp_sale` meets its contract. Assumes nothing.
use mathlib.Core.Path.{sym, ◌∙◌}
use Rattle.order.specs.options.Options.{with_list}
use Rattle.sales.proofs.salegroup.GroupLaws.{single_told}
use Rattle.sales.proofs.salegroup.cmp_sale.Goals as goal

pub returns-then-is_single : goal.returns-then-is_single
returns-then-is_single c =
    let s = c in
    let a = s.args in
    single_told (with_list a.rules.terms a.rules.codes.now a.rules.rising.now) a.p a.body.now a.q a.left.values.now a.left.marks.now c.cmp_first.result s.requires (sym c.is_single.ensures ∙ c.if-is_single.true) c.cmp_first.ensures
