-- What a run leaves. Assumes nothing.
use Rattle.std.specs.Prelude.{◌≡◌, ℕ}
use Rattle.frames.specs.Cells.{Words}
use Rattle.node.specs.runs.Run.{run_call}
use Rattle.node.specs.declared.Join.{Join}
use Rattle.node.specs.declared.runs.RanJoin.{RanJoin}

-- A run of at most k turns; the output's words as they are afterwards.
pub record RunContract (j : Join) (k : ℕ) (left right out : Words) (r : RanJoin) (out' : Words) : Type 0 where
  pub turns : r.turns ≡ (run_call k j left right out).turns
  pub written : r.words ≡ (run_call k j left right out).words
  pub stop : r.stop ≡ (run_call k j left right out).stop
  pub join : r.join ≡ (run_call k j left right out).join
  pub words : out' ≡ (run_call k j left right out).out
