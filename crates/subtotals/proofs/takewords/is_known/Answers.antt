-- `takewords::is_known` meets its contract. Assumes nothing.
use mathlib.Core.Path.{◌≡◌, sym, ap, ◌∙◌}
use native.Mathlib.Omega.{arith}
use lib.IntN.{pos, nat_abs}
use lib.ListN.{get_or}
use mir.Syntax.{w64}
use mir.Val.{to_z, of_z}
use Rattle.frames.proofs.Signed.{back}
use Rattle.order.specs.options.Options.{without_list}
use Rattle.takings.specs.Calls.{columns_in}
use Rattle.subtotals.proofs.takewords.JudgeLaws.{columns_told, small_word, known_none, known_plain, known_more}
use Rattle.subtotals.proofs.takewords.is_known.Goals as goal

pub returns-then-p-eq0 : goal.returns-then-p-eq0
returns-then-p-eq0 c = known_none (without_list c.args.o) (columns_in c.args.answer.now) c.if-p-eq0.true

pub bounds-answer-1 : goal.bounds-answer-1
bounds-answer-1 c = omega (arith, (columns_told c.args.answer.now c.requires.0).0)

pub overflow_cast-d : goal.overflow_cast-d
overflow_cast-d c =
    let s = c in
    let z = get_or s.args.answer.now 1 (pos 0) in
    let t = (columns_told s.args.answer.now s.requires.0).1 in
    rw (back z c.d-1.given) (t, omega (arith, small_word z t c.d-1.given))

count : (c : goal.After-d-1) → nat_abs (to_z w64 (of_z w64 (get_or c.args.answer.now 1 (pos 0)))) ≡ columns_in c.args.answer.now
count c = ap nat_abs (back (get_or c.args.answer.now 1 (pos 0)) c.d-1.given)

pub returns-then-d-p : goal.returns-then-d-p
returns-then-d-p c =
    let m = c in
    let s = m in
    known_plain (without_list s.args.o) (columns_in s.args.answer.now) m.if-p-eq0.false (sym (count m.before) ∙ c.if-d-p.true)

pub returns : goal.returns
returns c =
    let m = c in
    let s = m in
    known_more (without_list s.args.o) (columns_in s.args.answer.now) _ m.if-p-eq0.false (λ e. c.if-d-p.false (count m.before ∙ e)) (count m.before)
