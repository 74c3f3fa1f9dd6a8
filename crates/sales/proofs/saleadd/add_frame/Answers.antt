-- `saleadd::add_frame` meets its contract. Assumes nothing.
use mathlib.Core.Path.{◌≡◌, sym, ◌∙◌}
use Prim.Native.Nat.{ℕ, suc, ◌+◌, ◌-◌, ◌*◌, ◌≤◌}
use native.Mathlib.Omega.{arith}
use borrow.Author.Rules.{rules}
use denote.Enum.Bare.{same_true, same_false}
use lib.IntN.{pos}
use lib.ListN.{length, get_or}
use mir.Syntax.{w64}
use mir.Val.{to_z, of_z}
use Rattle.frames.specs.Cells.{row_from}
use Rattle.frames.proofs.Signed.{back}
use Rattle.order.specs.options.Options.{options_of}
use Rattle.order.proofs.RowLaws.{row_room}
use Rattle.takings.specs.Subtotals.{add_all}
use Rattle.takings.specs.Sales.{amounts_of}
use Rattle.sales.specs.contracts.salekind.Kind.{the_type}
use Rattle.sales.specs.salekind.Kinds.{kind_of}
use Rattle.sales.specs.declared.salekind.Kind.TheVariants.{Amount}
use Rattle.sales.proofs.salekind.KindLaws.{sales_from, from_all, group_told}
use Rattle.sales.proofs.saleplace.PlaceLaws.{at_least}
use Rattle.sales.proofs.saleadd.AddLaws.{running_starts, running_skip, running_amount, running_ends, rest_room, has_place, small, rows_addable, held_addable, source_words}
use Rattle.sales.proofs.saleadd.add_frame.Goals.{At-loop-i, After-kind_of, then-eq, else-eq}
use Rattle.sales.proofs.saleadd.add_frame.Goals as goal

pub loop-i-init : goal.loop-i-init
loop-i-init c =
    let a = c.args in
    record {
      kept = omega arith;
      runs = λ ts k. running_starts (options_of a.rules) a.table.count a.left.count a.answers.width a.table.values.now a.left.values.now a.left.marks.now a.answers.values.now a.answers.marks.now a.body.now ts k;
    }

-- The row's kind.
kind : (c : After-kind_of) → let i = c.loop-i.i in let a = c.args in let b = suc a.rules.terms.by in
    c.kind_of.result ≡ kind_of (options_of a.rules) (row_from b (i * b) a.left.values.now a.left.marks.now) (row_from a.answers.width (i * a.answers.width) a.answers.values.now a.answers.marks.now)
kind c =
    let a = c.args in
    let p = c.requires in
    let i = c.loop-i.i in
    let b = suc a.rules.terms.by in
    let w : a.rules.terms.by + 1 ≡ b = omega arith in
    rw w at (c.kind_of.ensures a.left.values.now a.answers.values.now a.answers.width (omega (arith, row_room i a.left.count b c.loop-i-test.true, p.left_values)) (omega (arith, row_room i a.left.count a.answers.width c.loop-i-test.true, p.frames.values_in, p.frames.wide)) p.frames.wide)

-- Twice the rows of the result have room.
room : (c : At-loop-i) → let a = c.args in let o = options_of a.rules in let T = add_all o c.requires.ts (amounts_of (sales_from o a.left.count a.answers.width a.left.values.now a.left.marks.now a.answers.values.now a.answers.marks.now 0)) in
    length T * suc (suc a.rules.terms.by) + length T * suc (suc a.rules.terms.by) ≤ length c.loop-i.body
room c =
    let a = c.args in
    rw (from_all (options_of a.rules) a.left.count a.answers.width a.left.values.now a.left.marks.now a.answers.values.now a.answers.marks.now) (omega (arith, c.requires.starts.room, c.loop-i.invariant.kept))

pub add_sale-p-requires : goal.add_sale-p-requires
add_sale-p-requires c =
    let a = c.args in
    let o = options_of a.rules in
    let b = suc a.rules.terms.by in
    let p = c.requires in
    let l = c.loop-i in
    let t = c.loop-i-test.true in
    let w : a.rules.terms.by + 1 ≡ b = omega arith in
    let y = row_room l.i a.left.count b t in
    let g = l.invariant.runs p.ts p.starts in
    let k : kind_of o (row_from b (l.i * b) a.left.values.now a.left.marks.now) (row_from a.answers.width (l.i * a.answers.width) a.answers.values.now a.answers.marks.now) ≡ Amount = sym (kind (goal.at.add_sale-p-requires c).After-kind_of) ∙ same_true the_type (search rules) _ _ (sym c.eq.ensures ∙ c.if-eq.true) in
    let v : to_z w64 (of_z w64 (get_or a.answers.values.now (l.i * a.answers.width + 1) (pos 0))) ≡ get_or a.answers.values.now (l.i * a.answers.width + 1) (pos 0) = back (get_or a.answers.values.now (l.i * a.answers.width + 1) (pos 0)) (search rules) in
    rw w (record {
      compare = p.compare;
      table_rows = source_words o a.table.count p.ts a.table.values.now p.starts.held;
      within = g.written.within;
      room = has_place o a.table.count a.left.count a.answers.width a.table.values.now a.left.values.now a.left.marks.now a.answers.values.now a.answers.marks.now a.body.now p.frames.wide p.frames.values_in p.frames.paired p.frames.fine l.i t k p.ts l.m l.taken l.body g (room (goal.at.add_sale-p-requires c).At-loop-i);
      values = omega (arith, y, p.left_values);
      marks = omega (arith, y, p.frames.left_in);
      small = rw v (small o a.table.count a.left.count a.answers.width a.table.values.now a.left.values.now a.left.marks.now a.answers.values.now a.answers.marks.now a.body.now p.frames.wide p.frames.values_in p.frames.paired p.frames.fine l.i t k p.ts l.m l.taken l.body g);
      addable = rows_addable o a.table.count a.left.count a.answers.width a.table.values.now a.left.values.now a.left.marks.now a.answers.values.now a.answers.marks.now a.body.now p.ts l.m l.taken l.i l.body g;
      table_addable = held_addable o a.table.count p.ts a.table.values.now a.table.values.now p.starts.held p.starts.bounded (omega (arith, p.starts.few));
    })

pub loop-i-preserved : goal.loop-i-preserved
loop-i-preserved c =
    let a = c.args in
    let o = options_of a.rules in
    let b = suc a.rules.terms.by in
    let p = c.requires in
    let l = c.loop-i in
    let t = c.loop-i-test.true in
    let z : a.rules.terms.by + 1 ≡ b = omega arith in
    let k = kind (goal.at.loop-i-preserved c).After-kind_of in
    elim c.if-eq.branch [
      | then-eq w ↦
          let v : to_z w64 (of_z w64 (get_or a.answers.values.now (l.i * a.answers.width + 1) (pos 0))) ≡ get_or a.answers.values.now (l.i * a.answers.width + 1) (pos 0) = back (get_or a.answers.values.now (l.i * a.answers.width + 1) (pos 0)) (search rules) in
          let q : kind_of o (row_from b (l.i * b) a.left.values.now a.left.marks.now) (row_from a.answers.width (l.i * a.answers.width) a.answers.values.now a.answers.marks.now) ≡ Amount = sym k ∙ same_true the_type (search rules) _ _ (sym c.eq.ensures ∙ w.if-eq.true) in
          rw (w.body-is, w.m-is, w.taken-is) (record {
            kept = w.add_sale-p.auto.body ∙ l.invariant.kept;
            runs = λ ts y. let g = l.invariant.runs ts y in running_amount o a.table.count a.left.count a.answers.width a.table.values.now a.left.values.now a.left.marks.now a.answers.values.now a.answers.marks.now a.body.now p.frames.wide p.frames.values_in p.frames.paired p.frames.fine l.i t q ts l.m l.taken l.body g _ _ _
                ((rw (z, v) at w.add_sale-p.ensures).adds ts g.whole a.body.now p.left_paired p.left_fine
                (group_told o (row_from b (l.i * b) a.left.values.now a.left.marks.now) (row_from a.answers.width (l.i * a.answers.width) a.answers.values.now a.answers.marks.now) q) g.written);
          })
      | else-eq w ↦ rw (w.body-is, w.m-is, w.taken-is) (record {
        kept = l.invariant.kept;
        runs = λ ts y. running_skip o a.table.count a.left.count a.answers.width a.table.values.now a.left.values.now a.left.marks.now a.answers.values.now a.answers.marks.now a.body.now ts l.m l.taken l.i l.body t (λ e. same_false the_type _ _ (sym c.eq.ensures ∙ w.if-eq.false) (k ∙ e)) (l.invariant.runs ts y);
      })
    ]

-- The width, as the definitions have it.
width : (b : ℕ) → b + 2 ≡ suc (suc b)
width b = omega arith

-- The rows that are left have room.
left : (c : At-loop-i) → let l = c.loop-i in let a = c.args in (l.m + (a.table.count - l.taken)) * suc (suc a.rules.terms.by) ≤ length l.body
left c =
    let a = c.args in
    let p = c.requires in
    let l = c.loop-i in
    rest_room (options_of a.rules) a.table.count a.left.count a.answers.width a.table.values.now a.left.values.now a.left.marks.now a.answers.values.now a.answers.marks.now a.body.now p.ts l.m l.taken l.i l.body (l.invariant.runs p.ts p.starts) (room c)

pub pass_rows-requires : goal.pass_rows-requires
pass_rows-requires c =
    let a = c.args in
    let p = c.requires in
    rw (width a.rules.terms.by) (record {
      range = (c.loop-i.invariant.runs p.ts p.starts).written.within;
      there = source_words (options_of a.rules) a.table.count p.ts a.table.values.now p.starts.held;
      room = left (goal.at.pass_rows-requires c).At-loop-i;
    })

pub overflow_add-result : goal.overflow_add-result
overflow_add-result c =
    let a = c.args in
    let l = c.loop-i in
    omega (arith, at_least (l.m + (a.table.count - l.taken)) (suc (suc a.rules.terms.by)) (omega arith), left (goal.at.overflow_add-result c).At-loop-i, l.invariant.kept)

pub returns : goal.returns
returns c =
    let a = c.args in
    let o = options_of a.rules in
    let l = c.loop-i in
    let e = from_all o a.left.count a.answers.width a.left.values.now a.left.marks.now a.answers.values.now a.answers.marks.now in
    λ ts y. rw e at (running_ends o a.table.count a.left.count a.answers.width a.table.values.now a.left.values.now a.left.marks.now a.answers.values.now a.answers.marks.now a.body.now ts l.m l.taken l.i l.body _ c.loop-i-test.false (l.invariant.runs ts y) (rw e (omega (arith, y.room, l.invariant.kept))) (rw (width a.rules.terms.by) at c.pass_rows.ensures))
