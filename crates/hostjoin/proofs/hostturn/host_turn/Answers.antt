-- `hostturn::host_turn` meets its contract. Assumes nothing.
use mathlib.Core.Path.{refl, sym, ◌∙◌}
use Rattle.ffi.specs.hostpart.Parts.{part_in}
use Rattle.ffi.proofs.hostpart.PartLaws.{turned_parts}
use Rattle.hostcalls.proofs.CallLaws.{turn_bad}
use borrow.Author.Rules.{rules}
use Rattle.hostjoin.proofs.hostturn.host_turn.Goals as goal

pub part_turned-t-requires : goal.part_turned-t-requires
part_turned-t-requires c = sym c.is_join.ensures ∙ c.if-is_join.true

pub returns-then-is_join : goal.returns-then-is_join
returns-then-is_join c =
    let t = c in
    let r = t.part_turned-t.result in
    let h = part_in t.args.h r.part in
    rw (c.answer_code-answer.ensures h, c.answer_refusal-refusal.ensures h, c.answer_sequence-sequence.ensures h, c.part_in-h.ensures, turned_parts r.answer h) t.part_turned-t.ensures

pub returns-else-is_join : goal.returns-else-is_join
returns-else-is_join c = turn_bad _ _ _ _ _ (sym c.is_join.ensures ∙ c.if-is_join.false) refl
