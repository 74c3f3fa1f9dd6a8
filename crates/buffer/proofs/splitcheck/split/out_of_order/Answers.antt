-- `split::out_of_order` meets its contract. Assumes nothing.
use mathlib.Core.Path.{◌≡◌}
use mathlib.Core.Bool.{true, false}
use native.Mathlib.Omega.{arith}
use borrow.Author.Rules.{rules}
use Rattle.order.specs.options.Options.{columns, options_of}
use Rattle.buffer.proofs.splitcheck.BeforeLaws.{recall_none, recall_some}
use Rattle.buffer.proofs.splitcheck.split.out_of_order.Goals as goal

pub returns-then-not-m : goal.returns-then-not-m
returns-then-not-m c = λ n k.
    let a = c.args in
    let e : a.m.some ≡ false = search rules in
    rw (recall_none (columns (options_of a.rules)) a.m e)

pub returns : goal.returns
returns c = λ n k.
    let a = c.args in
    let w = columns (options_of a.rules) in
    let e : a.m.some ≡ true = search rules in
    rw (recall_some w a.m e) (c.above_found.ensures w n (omega arith) k)
