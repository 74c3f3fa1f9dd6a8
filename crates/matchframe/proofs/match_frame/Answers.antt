use mathlib.Core.Path.{refl, sym, subst}
use Prim.Native.Nat.{ℕ, ◌+◌, ◌*◌, ◌^◌, ◌≤◌, ◌<◌}
use native.Mathlib.Omega.{arith}
use Rattle.order.specs.options.Options.{with_list}
use Rattle.matching.specs.Requires.{AnswerRoom}
use Rattle.matchframe.proofs.carrying.LaidLaws.{frame_room, answer_whole}
use Rattle.order.proofs.options.ColumnLaws.{columns_few}
use Rattle.matchframe.proofs.match_frame.Goals as goal

-- there is room for the cells that the code counts
room : (c : goal.After-answer_columns-c) →
    let a = c.args in
    AnswerRoom (with_list a.rules.terms a.rules.codes.now a.rules.rising.now) a.left.width a.left.count a.left.values.now a.left.marks.now a.right.width a.right.count a.right.values.now a.right.marks.now a.number (a.left.count * c.answer_columns-c.result) a.out.now
room c =
    let a = c.args in
    subst (λ (z : ℕ). AnswerRoom (with_list a.rules.terms a.rules.codes.now a.rules.rising.now) a.left.width a.left.count a.left.values.now a.left.marks.now a.right.width a.right.count a.right.values.now a.right.marks.now a.number (a.left.count * z) a.out.now) (sym c.answer_columns-c.ensures) c.requires

-- and the number of rows is that of a word
rows_fit : (c : goal.After-answer_columns-c) → c.args.left.count < 2 ^ 63
rows_fit c =
    let a = c.args in
    let f = frame_room (with_list a.rules.terms a.rules.codes.now a.rules.rising.now) a.left.width a.left.count a.left.values.now a.left.marks.now a.right.width a.right.count a.right.values.now a.right.marks.now a.number (a.left.count * c.answer_columns-c.result) a.out.now (room c) in
    let n = f.within in
    let r = f.room in
    omega arith

pub overflow_mul-left : goal.overflow_mul-left
overflow_mul-left c = let r = (room c).room in omega arith

pub answer_rows-requires : goal.answer_rows-requires
answer_rows-requires c = room c.before

pub put_head-requires : goal.put_head-requires
put_head-requires c =
    let e = c in
    let a = e.args in
    let o = with_list a.rules.terms a.rules.codes.now a.rules.rising.now in
    let r = room e.before.before.before.before in
    let w = columns_few o in
    let k : e.answer_columns-c.result ≤ a.rules.terms.carried + 2 = subst (λ (z : ℕ). z ≤ a.rules.terms.carried + 2) (sym e.answer_columns-c.ensures) w in
    let p : a.rules.terms.carried ≤ 8 = r.carried in
    record { rows = rows_fit e.before.before.before.before; columns = omega (arith, k, p); room = omega (arith, r.room, c.answer_rows.auto.out) }

pub returns : goal.returns
returns c =
    let e = c in
    let a = e.args in
    let k = e.answer_columns-c.result in
    answer_whole (with_list a.rules.terms a.rules.codes.now a.rules.rising.now) a.left.width a.left.count a.left.values.now a.left.marks.now a.right.width a.right.count a.right.values.now a.right.marks.now a.number (a.left.count * k) a.out.now (room e.before.before.before.before.before.before) k _ _ refl e.answer_columns-c.ensures c.answer_rows.ensures c.put_head.ensures
