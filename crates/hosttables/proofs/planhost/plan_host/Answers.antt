-- `planhost::plan_host` meets its contract. Assumes nothing.
use mathlib.Core.Path.{sym, ◌∙◌}
use Rattle.hosttables.proofs.planhost.HostLaws.{plan_shut, plan_through}
use Rattle.hosttables.proofs.planhost.plan_host.Goals as goal

pub options_of-requires : goal.options_of-requires
options_of-requires c =
    sym c.is_options.ensures ∙ c.if-is_options.true

pub returns-then-is_options : goal.returns-then-is_options
returns-then-is_options c =
    plan_through _ _ _ _ _ (sym c.is_options.ensures ∙ c.if-is_options.true) _ c.options_of.ensures _ _ c.plan.ensures c.from.ensures

pub returns : goal.returns
returns c =
    plan_shut _ _ _ _ _ (sym c.is_options.ensures ∙ c.if-is_options.false) _ c.from-2.ensures
