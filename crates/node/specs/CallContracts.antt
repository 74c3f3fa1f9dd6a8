-- What each call of the join leaves: the answer, the join handed back and the words of what it was lent to write in, as Calls gives them. Assumes nothing.
use Rattle.std.specs.Prelude.{◌≡◌}
use Rattle.frames.specs.Cells.{Words}
use Rattle.order.specs.declared.options.Options.{Options}
use Rattle.node.specs.State.{fresh}
use Rattle.callrules.specs.Judged.{open_answer}
use Rattle.node.specs.Calls.{left_call, right_call, end_call, ports_call, turn_call}
use Rattle.node.specs.declared.Join.{Join}
use Rattle.frames.specs.declared.outcomes.PortState.{PortState}
use Rattle.node.specs.declared.TookJoin.{TookJoin}
use Rattle.node.specs.declared.PortedJoin.{PortedJoin}
use Rattle.node.specs.declared.TurnedJoin.{TurnedJoin}

-- Opening. A refused opening's join has the options that were refused, so it meets refusal 2.
pub record OpenContract (o : Options) (r : TookJoin) : Type 0 where
  pub answer : r.answer ≡ open_answer o
  pub join : r.join ≡ fresh o

-- A left frame; the left area's words as they are afterwards.
pub record LeftContract (j : Join) (left right frame : Words) (r : TookJoin) (left' : Words) : Type 0 where
  pub answer : r.answer ≡ (left_call j left right frame).answer
  pub join : r.join ≡ (left_call j left right frame).join
  pub words : left' ≡ (left_call j left right frame).left

-- A right frame; the right area's words as they are afterwards.
pub record RightContract (j : Join) (left right frame : Words) (r : TookJoin) (right' : Words) : Type 0 where
  pub answer : r.answer ≡ (right_call j left right frame).answer
  pub join : r.join ≡ (right_call j left right frame).join
  pub words : right' ≡ (right_call j left right frame).right

-- The end of right.
pub record EndContract (j : Join) (left right : Words) (r : TookJoin) : Type 0 where
  pub answer : r.answer ≡ (end_call j left right).answer
  pub join : r.join ≡ (end_call j left right).join

-- A port call that comes with l, r and s.
pub record PortsContract (j : Join) (left right : Words) (l r s : PortState) (x : PortedJoin) : Type 0 where
  pub answer : x.answer ≡ (ports_call j left right l r s).answer
  pub join : x.join ≡ (ports_call j left right l r s).join

-- A turn; the output's words as they are afterwards.
pub record TurnContract (j : Join) (left right out : Words) (r : TurnedJoin) (out' : Words) : Type 0 where
  pub answer : r.answer ≡ (turn_call j left right out).answer
  pub join : r.join ≡ (turn_call j left right out).join
  pub words : out' ≡ (turn_call j left right out).out
