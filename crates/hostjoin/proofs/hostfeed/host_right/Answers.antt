-- `hostfeed::host_right` meets its contract. Assumes nothing.
use mathlib.Core.Path.{refl, sym, ◌∙◌}
use Rattle.hostcalls.proofs.CallLaws.{right_bad}
use borrow.Author.Rules.{rules}
use Rattle.hostjoin.proofs.hostfeed.host_right.Goals as goal

pub right_fed-fed-requires : goal.right_fed-fed-requires
right_fed-fed-requires c = sym c.is_join.ensures ∙ c.if-is_join.true

pub returns-then-is_join : goal.returns-then-is_join
returns-then-is_join c = rw c.took_code-refusal.ensures c.right_fed-fed.ensures

pub returns-else-is_join : goal.returns-else-is_join
returns-else-is_join c = right_bad _ _ _ _ _ (sym c.is_join.ensures ∙ c.if-is_join.false) refl
