-- `groups::serve` meets its contract. Assumes nothing.
use Rattle.std.proofs.Common.{sym, ◌∙◌, arith}
use Rattle.order.specs.options.Options.{without_list}
use Rattle.matching.proofs.RestLaws.{keys_few}
use Rattle.matching.proofs.WalkLaws.{serve_null, serve_pass}
use Rattle.groups.proofs.serve.Goals as goal

pub returns-then-null_group : goal.returns-then-null_group
returns-then-null_group c =
    let a = c.args in
    let r = c.requires.0.right in (
      record { run = r; upward = omega arith; within = r.within },
      λ wl h. serve_null _ _ _ _ _ _ _ a.to (sym (c.null_group.ensures wl a.left.values.now (omega arith) (omega arith)) ∙ c.if-null_group.true),
      λ s. keys_few (without_list a.rules.terms) a.right.width a.right.values.now a.right.marks.now a.from a.from (omega arith),
    )

pub returns : goal.returns
returns c =
    let a = c.args in
    let e = c.pass_runs.ensures in (
      e.0,
      λ wl h. serve_pass _ _ _ _ _ _ _ c.pass_runs.result (sym (c.null_group.ensures wl a.left.values.now (omega arith) (omega arith)) ∙ c.if-null_group.false) (e.1 wl h),
      e.2,
    )
