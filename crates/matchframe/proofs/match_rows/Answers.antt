use Rattle.std.specs.Prelude.{Option, ℕ}
use mathlib.Core.Path.{ap, ◌∙◌}
use mathlib.Core.List.{List}
use Prim.Native.Nat.{◌+◌}
use native.Mathlib.Omega.{arith}
use Rattle.order.specs.options.Options.{with_list}
use Rattle.matching.specs.Stretches.{between, lay}
use Rattle.matching.proofs.TermLaws.{room_terms, lay_terms}
use Rattle.matching.proofs.LayLaws.{frame_plain, frame_grouped}
use borrow.Author.Rules.{rules}
use Rattle.matchframe.proofs.match_rows.Goals as goal

pub match_all-requires : goal.match_all-requires
match_all-requires c =
    let s = c in
    let a = s.args in
    let p = s.requires in
    room_terms a.rules.terms a.rules.codes.now a.rules.rising.now a.left.width a.m a.left.values.now a.left.marks.now 0 a.left.count a.right.width a.right.values.now a.right.marks.now 0 a.right.count a.number a.out.now
    (record { left = p.left; upward = omega arith; within = p.within; right = p.right; run = omega arith; numbers = p.numbers; room = p.room })

pub returns-then-rules-eq0 : goal.returns-then-rules-eq0
returns-then-rules-eq0 c =
    let a = c.args in
    c.match_all.ensures
    ∙ lay_terms a.rules.terms a.rules.codes.now a.rules.rising.now a.m 0 (a.number + 0) (between a.right.width 0 a.right.count a.right.values.now a.right.marks.now) (between a.left.width 0 a.left.count a.left.values.now a.left.marks.now) a.out.now
    ∙ ap (λ (ks : List (Option ℕ)). lay a.m 0 ks a.out.now) (frame_plain (with_list a.rules.terms a.rules.codes.now a.rules.rising.now) a.number a.m a.left.width a.left.count a.left.values.now a.left.marks.now a.right.width a.right.count a.right.values.now a.right.marks.now c.if-rules-eq0.true)

pub returns-else-rules-eq0 : goal.returns-else-rules-eq0
returns-else-rules-eq0 c =
    let a = c.args in
    c.match_groups.ensures ∙ ap (λ (ks : List (Option ℕ)). lay a.m 0 ks a.out.now) (frame_grouped (with_list a.rules.terms a.rules.codes.now a.rules.rising.now) a.number a.m a.left.width a.left.count a.left.values.now a.left.marks.now a.right.width a.right.count a.right.values.now a.right.marks.now c.if-rules-eq0.false)
