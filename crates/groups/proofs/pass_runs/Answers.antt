-- `groups::pass_runs` meets its contract. Assumes nothing.
use Rattle.std.proofs.Common.{◌≡◌, ℕ, ◌+◌, ◌*◌, ◌<◌, ◌≤◌, refl, sym, ◌∙◌, arith}
use Rattle.frames.specs.Cells.{Words, row_from}
use Rattle.order.specs.options.Options.{without_list, options_of}
use Rattle.order.specs.declared.options.Options.{Options}
use Rattle.std.specs.declared.cmp.Ordering.TheVariants.{Equal, Greater}
use Rattle.order.proofs.RowLaws.{row_room}
use Rattle.matching.specs.Stretches.{between}
use Rattle.matching.specs.Loops.{RunAt}
use Rattle.matching.proofs.WalkLaws.{run_up, run_within, pass_on, pass_stop, pass_end, used_run, used_none, used_end}
use Rattle.matching.proofs.RestLaws.{keys_few}
use Rattle.matching.proofs.TermLaws.{sorted_terms}
use Rattle.groups.proofs.sortedruns.RunsLaws.{run_keys, used_group}
use Rattle.groups.proofs.pass_runs.Goals as goal

-- the run at `at` has a row, and ends within the rows
ahead : (o : Options) (w n : ℕ) (vs ms : Words) (at end : ℕ) → RunAt o w n vs ms at end → at < n → (at < end) × (end ≤ n)
ahead o w n vs ms at end p t =
    let u = run_up o w n vs ms at t in
    let v = run_within o w n vs ms at t in
    let q = p.run in
    (omega arith, omega arith)

pub overflow_mul-at : goal.overflow_mul-at
overflow_mul-at c =
    let r = c.args.right in
    let p = c.requires.0.right.rows in
    omega (arith, row_room c.loop-at.at r.count r.width c.loop-at-test.true)

pub stands_to-requires : goal.stands_to-requires
stands_to-requires c =
    let r = c.args.right in
    let p = c.requires.0.right.rows in
    let m = row_room c.loop-at.at r.count r.width c.loop-at-test.true in
    (record { few = p.few; values = omega arith; marks = omega arith }, c.requires.0.left)

pub returns-in-Equal : goal.returns-in-Equal
returns-in-Equal c =
    let a = c.args in
    let r = a.right in
    let o = options_of a.rules in
    let l = c.loop-at in
    let t = c.loop-at-test.true in
    let q = l.invariant.run.run in
    let u = ahead o r.width r.count r.values.now r.marks.now l.at l.end l.invariant.run t in
    let d = λ (wl : ℕ) (h : a.rules.terms.by < wl). sym (c.stands_to.ensures wl _ h c.requires.0.right.rows.wide) ∙ c.in-Equal.is in
    let x = row_from (a.rules.terms.by + 1) a.p a.left.values.now a.left.marks.now in
    let g = used_group o x (row_from r.width (l.at * r.width) r.values.now r.marks.now) (d (a.rules.terms.by + 1) (omega arith)) in (
      record { run = l.invariant.run; upward = omega arith; within = omega arith },
      λ wl h.
          record {
            cursor = λ first. l.invariant.passed wl h first ∙ pass_stop _ _ _ _ _ _ _ l.end t q (first + l.at) Equal refl (d wl h);
            uses = used_run _ _ _ _ _ _ _ l.end t q (d wl h);
          },
      λ s.
          sorted_terms a.rules.terms a.rules.codes.now a.rules.rising.now (between r.width l.at l.end r.values.now r.marks.now)
          ∙ run_keys o r.width r.count r.values.now r.marks.now (c.requires.1 s).in_order l.at l.end t q g,
    )

pub returns-in-Greater : goal.returns-in-Greater
returns-in-Greater c =
    let a = c.args in
    let r = a.right in
    let o = options_of a.rules in
    let l = c.loop-at in
    let t = c.loop-at-test.true in
    let q = l.invariant.run.run in
    let u = ahead o r.width r.count r.values.now r.marks.now l.at l.end l.invariant.run t in
    let d = λ (wl : ℕ) (h : a.rules.terms.by < wl). sym (c.stands_to.ensures wl _ h c.requires.0.right.rows.wide) ∙ c.in-Greater.is in (
      record { run = l.invariant.run; upward = omega arith; within = omega arith },
      λ wl h.
          record {
            cursor = λ first. l.invariant.passed wl h first ∙ pass_stop _ _ _ _ _ _ _ l.end t q (first + l.at) Greater refl (d wl h);
            uses = used_none _ _ _ _ _ _ _ l.end t q (d wl h);
          },
      λ s. keys_few (without_list a.rules.terms) r.width r.values.now r.marks.now l.at l.at (omega arith),
    )

pub end_of_run-end-requires : goal.end_of_run-end-requires
end_of_run-end-requires c =
    let r = c.args.right in
    let l = c.loop-at in
    let u = ahead (options_of c.args.rules) r.width r.count r.values.now r.marks.now l.at l.end l.invariant.run c.loop-at-test.true in
    (record { rows = c.requires.0.right.rows; within = u.1 }, c.requires.1)

pub loop-at-smaller : goal.loop-at-smaller
loop-at-smaller c =
    let r = c.args.right in
    let l = c.loop-at in
    let t = c.loop-at-test.true in
    let u = ahead (options_of c.args.rules) r.width r.count r.values.now r.marks.now l.at l.end l.invariant.run t in
    omega arith

pub loop-at-preserved : goal.loop-at-preserved
loop-at-preserved c =
    let r = c.args.right in
    let l = c.loop-at in
    let t = c.loop-at-test.true in
    let u = ahead (options_of c.args.rules) r.width r.count r.values.now r.marks.now l.at l.end l.invariant.run t in
    record {
      run = record { rows = c.requires.0.right.rows; within = u.1; run = c.end_of_run-end.ensures };
      passed = λ wl h first. l.invariant.passed wl h first ∙ pass_on _ _ _ _ _ _ _ l.end t l.invariant.run.run first (sym (c.stands_to.ensures wl _ h c.requires.0.right.rows.wide) ∙ c.in-Less.is);
    }

pub returns : goal.returns
returns c =
    let a = c.args in
    let r = a.right in
    let o = options_of a.rules in
    let l = c.loop-at in
    let q = l.invariant.run.within in
    let e : l.at ≡ r.count = omega (arith, c.loop-at-test.false) in (
      record { run = l.invariant.run; upward = omega arith; within = omega arith },
      λ wl h.
          record {
            cursor = λ first. l.invariant.passed wl h first ∙ rw e (pass_end o _ r.width r.count r.values.now r.marks.now (first + r.count));
            uses = rw e (used_end o _ r.width r.count r.values.now r.marks.now);
          },
      λ s. keys_few (without_list a.rules.terms) r.width r.values.now r.marks.now l.at l.at (omega arith),
    )
