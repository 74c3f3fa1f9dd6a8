-- `scan::first_keyed` meets its contract. Assumes nothing.
use Rattle.std.proofs.Common.{◌≡◌, ◌+◌, ◌-◌, true, false, sym, ap, ◌∙◌, arith, rules}
use Rattle.order.specs.options.Options.{without_list}
use Rattle.order.specs.Keyed.{first_from}
use Rattle.order.proofs.RowLaws.{row_room, rest_all, first_none, first_found, first_passed}
use Rattle.rows.proofs.keyed.scan.first_keyed.Goals as goal

pub loop-i-init : goal.loop-i-init
loop-i-init c =
    let a = c.args in
    let z : a.n - 0 ≡ a.n = omega arith in
    record { place = omega arith; left = λ vs h. rw z (ap (first_from (without_list a.o) 0) (rest_all (without_list a.o) a.w vs a.marks.now a.n)) }

pub returns-then-not-null_key : goal.returns-then-not-null_key
returns-then-not-null_key c = λ vs h.
    let a = c.args in
    let l = c.loop-i in
    let t = c.loop-i-test.true in
    let e : c.null_key.result ≡ false = search rules in
    let q = sym (c.null_key.ensures a.w vs c.requires.wide (omega (arith, row_room l.i a.n a.w t))) ∙ e in
    sym (l.invariant.left vs h ∙ first_found _ _ _ _ _ l.p _ (omega arith) q)

pub loop-i-preserved : goal.loop-i-preserved
loop-i-preserved c =
    let a = c.args in
    let l = c.loop-i in
    let t = c.loop-i-test.true in
    let e : c.null_key.result ≡ true = search rules in
    record {
      place = omega arith;
      left = λ vs h.
          let q = sym (c.null_key.ensures a.w vs c.requires.wide (omega (arith, row_room l.i a.n a.w t))) ∙ e in
          let z : a.n - (l.i + 1) ≡ a.n - l.i - 1 = omega arith in
          rw z (l.invariant.left vs h ∙ first_passed _ _ _ _ _ l.p _ (omega arith) q);
    }

pub returns : goal.returns
returns c = λ vs h.
    let a = c.args in
    let l = c.loop-i in
    let z : a.n - l.i ≡ 0 = omega arith in
    sym (rw z at (l.invariant.left vs h) ∙ first_none (without_list a.o) a.w vs a.marks.now l.i l.p)
