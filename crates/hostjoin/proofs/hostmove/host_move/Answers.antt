-- `hostmove::host_move` meets its contract. Assumes nothing.
use mathlib.Core.Path.{sym, ◌∙◌}
use Rattle.hostcalls.proofs.CallLaws.{move_bad, move_through}
use Rattle.hostjoin.proofs.hostmove.host_move.Goals as goal

pub join_of-requires : goal.join_of-requires
join_of-requires c = sym c.is_join.ensures ∙ c.if-is_join.true

pub returns-then-is_join : goal.returns-then-is_join
returns-then-is_join c =
    move_through _ _ _ _ _ _ _ _ _ _ (sym c.is_join.ensures ∙ c.if-is_join.true) c.join_of.ensures c.move_join.ensures c.into.ensures

pub returns : goal.returns
returns c = move_bad _ _ _ _ _ _ (sym c.is_join.ensures ∙ c.if-is_join.false) c.bad_took.ensures
