-- `takehost::add_host` meets its contract. Assumes nothing.
use mathlib.Core.Path.{sym, ◌∙◌}
use mir.Facts.{to_z-of_z}
use Rattle.hosttables.proofs.takehost.HostLaws.{add_shut, add_through}
use Rattle.hosttables.proofs.takehost.add_host.Goals as goal

pub options_of-requires : goal.options_of-requires
options_of-requires c =
    sym c.is_options.ensures ∙ c.if-is_options.true

pub returns-then-is_options : goal.returns-then-is_options
returns-then-is_options c =
    add_through _ _ _ _ _ _ (sym c.is_options.ensures ∙ c.if-is_options.true) _ c.options_of.ensures _ _ _ (rw (to_z-of_z c.ranges.number) at c.add_sales.ensures) c.from.ensures

pub returns : goal.returns
returns c =
    add_shut _ _ _ _ _ _ (sym c.is_options.ensures ∙ c.if-is_options.false) _ c.from-2.ensures
