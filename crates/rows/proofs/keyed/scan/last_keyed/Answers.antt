-- `scan::last_keyed` meets its contract. Assumes nothing.
use Rattle.std.proofs.Common.{◌≡◌, ℕ, ◌-◌, ◌*◌, ◌<◌, ◌≤◌, Bool, true, false, [], get_or, sym, refl, ap, ◌∙◌, arith, rules}
use Rattle.frames.specs.Cells.{Words, row_from, rows_of}
use Rattle.order.specs.options.Options.{without_list}
use Rattle.order.specs.declared.options.Options.{Options}
use Rattle.order.specs.Order.{null_key}
use Rattle.order.specs.Keyed.{last_below}
use Rattle.frames.proofs.WordLaws.{rows_length}
use Rattle.order.proofs.RowLaws.{row_room, rows_from, one_row, last_none, last_found, last_passed}
use Rattle.rows.proofs.keyed.scan.last_keyed.Goals as goal

pub loop-i-init : goal.loop-i-init
loop-i-init c =
    let a = c.args in
    record { place = refl; left = λ vs h. ap (last_below (without_list a.o) (rows_of a.w a.n vs a.marks.now)) (rows_length a.w a.n vs a.marks.now) }

-- row i - 1 starts at p - w, and its key is null where that of the row there is
told : (o : Options) (w n i p : ℕ) (vs ms : Words) (t : Bool) → 0 < i → i ≤ n → p ≡ i * w → t ≡ null_key o (row_from w (p - w) vs ms) → null_key o (get_or (rows_of w n vs ms) (i - 1) []) ≡ t
told o w n i p vs ms t g h l e =
    let q : (i - 1) * w ≡ p - w = omega (arith, one_row i w g) in
    rw (rows_from w n (i - 1) vs ms (omega arith), q) (sym e)

pub returns-then-not-null_key : goal.returns-then-not-null_key
returns-then-not-null_key c = λ vs h.
    let a = c.args in
    let l = c.loop-i in
    let t = c.loop-i-test.true in
    let e : false ≡ c.null_key.result = search rules in
    let q = e ∙ c.null_key.ensures a.w vs c.requires.wide (omega (arith, one_row l.i a.w t, row_room (l.i - 1) a.n a.w (omega arith))) in
    sym (l.invariant.left vs h ∙ last_found _ _ l.i t (told (without_list a.o) a.w a.n l.i l.p vs a.marks.now false t l.auto.i l.invariant.place q))

pub loop-i-preserved : goal.loop-i-preserved
loop-i-preserved c =
    let a = c.args in
    let l = c.loop-i in
    let t = c.loop-i-test.true in
    let e : true ≡ c.null_key.result = search rules in
    record {
      place = omega (arith, l.invariant.place, one_row l.i a.w t);
      left = λ vs h.
          let q = e ∙ c.null_key.ensures a.w vs c.requires.wide (omega (arith, one_row l.i a.w t, row_room (l.i - 1) a.n a.w (omega arith))) in
          l.invariant.left vs h ∙ last_passed _ _ l.i t (told (without_list a.o) a.w a.n l.i l.p vs a.marks.now true t l.auto.i l.invariant.place q);
    }

pub returns : goal.returns
returns c = λ vs h.
    let l = c.loop-i in
    let z : l.i ≡ 0 = omega arith in
    sym (rw z at (l.invariant.left vs h) ∙ last_none _ _)
