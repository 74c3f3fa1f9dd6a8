-- A table and a frame's sales: what adding them answers and writes. Assumes nothing.
use Rattle.takings.specs.declared.Taken.{Taken}
use Rattle.frames.specs.declared.refusals.Refusal.{Refusal}
use Rattle.std.specs.Prelude.{◌≡◌, ℤ, Result}
use Rattle.frames.specs.Cells.{Words}
use Rattle.order.specs.declared.options.Options.{Options}
use Rattle.takings.specs.Calls.{add_call}

-- The contract of the call: its answer, and the words of the output afterwards.
pub record AddContract (o : Options) (table : Words) (k : ℤ) (left answers out : Words) (r : Result Taken Refusal) (out' : Words) : Type 0 where
  pub answer : r ≡ (add_call o table k left answers out).answer
  pub words : out' ≡ (add_call o table k left answers out).out
