-- `turncall::turn_listed` meets its contract. Assumes nothing.
use mathlib.Core.Path.{◌≡◌, sym, ◌∙◌}
use native.Mathlib.Omega.{arith}
use Rattle.frames.specs.Frame.{frame_rows}
use Rattle.frames.proofs.FrontLaws.{frame_table}
use Rattle.order.specs.options.Options.{with_list, columns}
use Rattle.order.specs.Listed.{lacks_code}
use Rattle.node.proofs.turncall.QueueLaws.{codes_stop, listed_turns}
use borrow.Author.Rules.{rules}
use Rattle.node.proofs.turncall.turn_listed.Statement.{statement}
use Rattle.node.proofs.turncall.turn_listed.Tie as tie

left-columns-requires : tie.Need-left_columns-c-requires
left-columns-requires c κs = search rules

lacks-code-requires : tie.Need-lacks_code-requires
lacks-code-requires c κs =
    let e = c.left_columns-c.ensures in
    let p = c.requires in
    (p.few, omega (arith, e), rw e (frame_table _ _ p.frame))

-- What the call says, by the definition's name.
told : (c : tie.After-lacks_code) → let a = c.args in c.lacks_code.result ≡ lacks_code (with_list a.rules.terms a.rules.codes.now a.rules.rising.now) (frame_rows (columns (with_list a.rules.terms a.rules.codes.now a.rules.rising.now)) a.frame.now)
told c = rw c.left_columns-c.ensures at c.lacks_code.ensures

unturned-requires : tie.Need-unturned-requires
unturned-requires c κs = search rules

returns : tie.Need-returns-then-lacks_code
returns c =
    let t = c in
    let a = t.args in
    rw c.unturned.ensures (codes_stop (with_list a.rules.terms a.rules.codes.now a.rules.rising.now) a.j a.frame.now a.right.now a.out.now (sym (told t.before.before) ∙ t.if-lacks_code.true))

turn-frame-requires : tie.Need-turn_frame-requires
turn-frame-requires c κs = search rules

same_length : tie.Need-shape_of-out
same_length c = search rules

returns-2 : tie.Need-returns
returns-2 c =
    let t = c in
    let a = t.args in
    listed_turns (with_list a.rules.terms a.rules.codes.now a.rules.rising.now) a.j a.frame.now a.right.now a.out.now (sym (told t.before.before.before.before) ∙ t.if-lacks_code.false) _ _ c.turn_frame.ensures

pub turn_listed_spec : {M : Type 1} → statement M
turn_listed_spec =
    tie.close
    (tie.spec left-columns-requires lacks-code-requires unturned-requires returns turn-frame-requires same_length returns-2)
