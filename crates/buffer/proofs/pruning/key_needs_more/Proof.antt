use mathlib.Core.Path.{◌≡◌}
use Prim.Native.Nat.{◌+◌, ◌*◌, ◌≤◌}
use native.Mathlib.Omega.{arith}
use lib.ListN.{length}
use Rattle.frames.specs.Cells.{rows_of}
use Rattle.order.specs.options.Options.{without_list}
use Rattle.order.specs.Requires.{cell_at}
use Rattle.frames.proofs.WordLaws.{rows_length}
use Rattle.order.proofs.RowLaws.{row_room}
use Rattle.searching.specs.Reach.{find_key, seek_of}
use Rattle.searching.proofs.FindLaws.{held_cell}
use Rattle.searching.proofs.ReachLaws.{column_in, key_past, key_backward, key_forward, key_nearest}
use borrow.Author.Rules.{rules}
use Rattle.buffer.proofs.pruning.key_needs_more.Statement.{statement}
use Rattle.buffer.proofs.pruning.key_needs_more.Tie as tie

strategy-of-requires : tie.Need-strategy_of-strategy-requires
strategy-of-requires c κs = search rules

seek-of-requires : tie.Need-seek_of-seek-requires
seek-of-requires c κs = search rules

find-key-requires : tie.Need-find_key-g-requires
find-key-requires c κs =
    let s = c in
    (s.requires.0, column_in s.requires.1 _ _ s.requires.1.wide s.requires.2)

-- the rows are n, and what was found among them
many : (c : tie.After-find_key-g) → let a = c.args in length (rows_of a.right.width a.right.count a.right.values.now a.right.marks.now) ≡ a.right.count
many c = let a = c.args in rows_length a.right.width a.right.count a.right.values.now a.right.marks.now

first : (c : tie.After-find_key-g) → let a = c.args in c.find_key-g.result ≡ find_key (without_list a.o) (seek_of c.strategy_of-strategy.result a.o.allow_eq) (cell_at a.k a.left.values.now a.left.marks.now) (rows_of a.right.width a.right.count a.right.values.now a.right.marks.now) a.s.start a.s.end
first c = let s = c in rw (← c.seek_of-seek.ensures) (c.find_key-g.ensures s.args.right.count s.requires.2)

returns : tie.Need-returns-then-right-g
returns c = rw (← c.strategy_of-strategy.ensures) (key_past _ _ _ _ _ _ (many c.before) _ (first c.before) c.if-right-g.true)

enum_told : tie.Need-enum_told-1
enum_told c = search rules

enum-told-2 : tie.Need-enum_told-in-Forward
enum-told-2 c = search rules

enum-told-3 : tie.Need-enum_told-in-Nearest
enum-told-3 c = search rules

-- the row that was found is one of them
place : (c : tie.Else-right-g) → let a = c.args in c.find_key-g.result * a.right.width + a.right.width ≤ a.right.count * a.right.width
place c = let a = c.args in row_room c.find_key-g.result a.right.count a.right.width c.if-right-g.false

mul-find-key : tie.Need-overflow_mul-g
mul-find-key c = let z = place c.before in omega arith

add-find-key : tie.Need-overflow_add-g
add-find-key c = let z = place c.before.before in omega arith

find-key-requires-2 : tie.Need-find_key-requires
find-key-requires-2 c κs =
    let f = c in
    let s = f in
    let q = s.requires.1 in
    let z = place c.before.before in
    (record { values = omega (arith, q.wide, q.values); marks = omega (arith, q.wide, q.marks) }, column_in q _ _ q.wide s.requires.2)

returns-2 : tie.Need-returns-in-Backward
returns-2 c =
    let f = c in
    let e = c.in-Backward.is in
    rw (← f.strategy_of-strategy.ensures, e) (key_backward _ _ _ _ _ _ (many f.before.before) (rw e at (first f.before.before)) c.if-right-g.false)

returns-3 : tie.Need-returns-in-Forward
returns-3 c =
    let f = c in
    let e = c.in-Forward.is in
    rw (← f.strategy_of-strategy.ensures, e) (key_forward _ _ _ _ _ _ (many f.before.before) (rw e at (first f.before.before)) c.if-right-g.false)

returns-4 : tie.Need-returns-in-Nearest
returns-4 c =
    let f = c in
    let s = f in
    let a = s.args in
    let e = c.in-Nearest.is in
    let h = c.if-right-g.false in
    let z = place c.before.before.before in
    let k = held_cell a.right.width a.right.count f.find_key-g.result a.o.by a.right.values.now a.right.marks.now h s.requires.1.wide (omega (arith, s.requires.1.values, s.requires.1.wide)) in
    rw (← f.strategy_of-strategy.ensures, e) (key_nearest _ _ _ _ _ _ (many f.before.before.before.before) _ (rw e at (first f.before.before.before.before)) h (rw k (c.find_key.ensures a.right.count s.requires.2)))

pub key_needs_more_spec : {M : Type 1} → statement M
key_needs_more_spec =
    tie.close
    (tie.spec strategy-of-requires seek-of-requires find-key-requires returns enum_told enum-told-2 enum-told-3 mul-find-key add-find-key find-key-requires-2 returns-2 returns-3 returns-4)
