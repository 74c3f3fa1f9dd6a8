-- The loop of `list::put_notices`: the notices of the rows from i on are laid, and `last` is the last row of row i's group and key. Assumes nothing.
use mathlib.Core.Path.{◌≡◌}
use Prim.Native.Nat.{◌≤◌}
use lib.ListN.{length}
use Rattle.order.specs.options.Options.{options_of}
use Rattle.books.proofs.notices.NoticeLaws.{LastOf, done}
use Rattle.books.proofs.notices.list.put_notices.Given as goal

abbrev pub invariant-loop-i : goal.invariant-loop-i
invariant-loop-i l =
    let o = options_of l.rules in
    let r = l.rows in
    record {
      within : l.last ≤ r.count;
      kept : length l.out ≡ length l.initial.out;
      last : LastOf o r.width r.count r.values.now r.marks.now l.column l.m l.i l.last;
      laid : l.out ≡ done o r.width r.count r.values.now r.marks.now l.column l.m l.i l.initial.out;
    }
