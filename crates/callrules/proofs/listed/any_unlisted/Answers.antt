-- What `listed::any_unlisted` leaves to be shown.
use mathlib.Core.Path.{◌≡◌, refl, sym, ◌∙◌}
use mathlib.Core.Bool.{true, false}
use Prim.Native.Nat.{◌+◌, ◌*◌, ◌≤◌}
use native.Mathlib.Omega.{arith}
use lib.IntN.{pos}
use lib.ListN.{get_or}
use mir.Syntax.{w64}
use mir.Val.{to_z, of_z}
use Rattle.frames.specs.Cells.{is_zero}
use Rattle.frames.proofs.Signed.{back, zero_yes, zero_no}
use Rattle.order.proofs.RowLaws.{row_room}
use Rattle.order.specs.ranks.Ranks.{listed, code_at}
use Rattle.callrules.proofs.listed.ListedLaws.{first_listed, null_passed, value_passed, value_found, all_passed}
use Rattle.callrules.proofs.listed.any_unlisted.Goals as goal
use Rattle.callrules.proofs.listed.any_unlisted.Goals.{then-rows-k-ne0+else-not-is_listed, else-rows-k-ne0}

-- row i ends within the rows
room : (c : goal.In-loop-i) → let a = c.args in c.loop-i.i * a.rows.width + a.rows.width ≤ a.rows.count * a.rows.width
room c = let a = c.args in row_room c.loop-i.i a.rows.count a.rows.width c.loop-i-test.true

pub loop-i-init : goal.loop-i-init
loop-i-init c =
    let cs = c.args.codes.now in
    record { known = rw (back (code_at cs 0) (omega arith)) (first_listed cs c.requires.2); passed = refl }

pub overflow_mul-k : goal.overflow_mul-k
overflow_mul-k c = let r = room c in omega (arith, c.requires.0)

pub overflow_add-k : goal.overflow_add-k
overflow_add-k c = let r = room c in omega (arith, c.requires.0)

pub returns-then-not-is_listed : goal.returns-then-not-is_listed
returns-then-not-is_listed c =
    let a = c.args in
    let l = c.loop-i in
    let k = l.i * a.rows.width + a.j in
    let z = get_or a.rows.values.now k (pos 0) in
    let b : to_z w64 (of_z w64 z) ≡ z = back z (omega arith) in
    let marked : is_zero (get_or a.rows.marks.now k (pos 0)) ≡ false = zero_no {m = get_or a.rows.marks.now k (pos 0)} (record { sfits = omega arith }) c.if-rows-k-ne0.true in
    sym (l.invariant.passed ∙ value_found a.codes.now a.j a.rows.width a.rows.count a.rows.values.now a.rows.marks.now c.requires.0 l.i k c.loop-i-test.true refl marked (sym (rw b at c.is_listed.ensures) ∙ c.if-not-is_listed.true))

pub loop-i-preserved : goal.loop-i-preserved
loop-i-preserved c =
    let a = c.args in
    let l = c.loop-i in
    let t = c.loop-i-test.true in
    let k = l.i * a.rows.width + a.j in
    let z = get_or a.rows.values.now k (pos 0) in
    elim c.if-rows-k-ne0.branch [
      | then-rows-k-ne0+else-not-is_listed w ↦
          let b : to_z w64 (of_z w64 z) ≡ z = back z (omega arith) in
          let marked : is_zero (get_or a.rows.marks.now k (pos 0)) ≡ false = zero_no {m = get_or a.rows.marks.now k (pos 0)} (record { sfits = omega arith }) w.if-rows-k-ne0.true in
          let e : listed a.codes.now z ≡ true = sym (rw b at w.is_listed.ensures) ∙ w.if-not-is_listed.false in
          record {
            known = rw (w.known-is ∙ b) e;
            passed = l.invariant.passed ∙ value_passed a.codes.now a.j a.rows.width a.rows.count a.rows.values.now a.rows.marks.now c.requires.0 l.i k t refl marked e;
          }
      | else-rows-k-ne0 w ↦ record {
        known = rw w.known-is l.invariant.known;
        passed = l.invariant.passed ∙ null_passed a.codes.now a.j a.rows.width a.rows.count a.rows.values.now a.rows.marks.now c.requires.0 l.i k t refl
            (zero_yes {m = get_or a.rows.marks.now k (pos 0)} (record { sfits = omega arith }) w.if-rows-k-ne0.false);
      }
    ]

pub returns : goal.returns
returns c =
    let a = c.args in
    let l = c.loop-i in
    sym (l.invariant.passed ∙ all_passed a.codes.now a.j a.rows.width a.rows.count a.rows.values.now a.rows.marks.now c.requires.0 l.i c.loop-i-test.false)
