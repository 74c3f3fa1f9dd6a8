-- `hostfeed::host_left` meets its contract. Assumes nothing.
use mathlib.Core.Path.{refl, sym, ◌∙◌}
use Rattle.hostcalls.proofs.CallLaws.{left_bad}
use borrow.Author.Rules.{rules}
use Rattle.hostjoin.proofs.hostfeed.host_left.Goals as goal

pub left_fed-fed-requires : goal.left_fed-fed-requires
left_fed-fed-requires c = sym c.is_join.ensures ∙ c.if-is_join.true

pub returns-then-is_join : goal.returns-then-is_join
returns-then-is_join c = rw c.took_code-refusal.ensures c.left_fed-fed.ensures

pub returns-else-is_join : goal.returns-else-is_join
returns-else-is_join c = left_bad _ _ _ _ _ (sym c.is_join.ensures ∙ c.if-is_join.false) refl
