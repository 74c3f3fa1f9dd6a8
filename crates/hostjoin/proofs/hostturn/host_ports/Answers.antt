-- `hostturn::host_ports` meets its contract. Assumes nothing.
use mathlib.Core.Path.{sym, ◌∙◌}
use borrow.Author.Tests.{not-true, not-false}
use Rattle.hostcalls.proofs.CallLaws.{ports_unsaid, ports_bad, ports_through}
use Rattle.hostjoin.proofs.hostturn.host_ports.Goals as goal

pub returns-then-not-are_codes : goal.returns-then-not-are_codes
returns-then-not-are_codes c = ports_unsaid _ _ _ _ _ _ _ (sym c.are_codes.ensures ∙ not-true _ c.if-not-are_codes.true-raw) c.bad_ported.ensures

pub join_of-requires : goal.join_of-requires
join_of-requires c = sym c.is_join.ensures ∙ c.if-is_join.true

pub returns-then-is_join : goal.returns-then-is_join
returns-then-is_join c =
    ports_through _ _ _ _ _ _ _ _ _ _ _ _ (sym c.are_codes.ensures ∙ not-false _ c.if-not-are_codes.false-raw) (sym c.is_join.ensures ∙ c.if-is_join.true) c.join_of.ensures c.port_of.ensures c.port_of-then-is_join.ensures c.port_of-then-is_join-2.ensures c.ports.ensures c.into.ensures

pub returns : goal.returns
returns c =
    ports_bad _ _ _ _ _ _ _ (sym c.are_codes.ensures ∙ not-false _ c.if-not-are_codes.false-raw) (sym c.is_join.ensures ∙ c.if-is_join.false) c.bad_ported-2.ensures
