use native.Mathlib.Omega.{arith}
use borrow.Author.Tests.{lt-ltb, le-ltb}
use Rattle.node.proofs.moving.no_room.Goals as goal

pub returns-then-left-j : goal.returns-then-left-j
returns-then-left-j c = rw (lt-ltb _ _ c.if-left-j.true)

pub right_columns-c-requires : goal.right_columns-c-requires
right_columns-c-requires c = rw c.terms_of.ensures c.requires

pub overflow_mul-result : goal.overflow_mul-result
overflow_mul-result c = let s = c in omega (arith, rw c.terms_of.ensures at c.right_columns-c.ensures, s.requires)

pub returns : goal.returns
returns c = rw (le-ltb _ _ c.if-left-j.false, c.right_columns-c.ensures, c.terms_of.ensures)
