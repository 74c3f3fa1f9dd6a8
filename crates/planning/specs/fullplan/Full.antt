-- Where a walk over full frames stands. Assumes nothing.
use Rattle.std.specs.Prelude.{ℕ}
use Rattle.frames.specs.Cells.{Rows}
use Rattle.order.specs.declared.options.Options.{Options}
use Rattle.planning.specs.Heights.{full_heights}
use Rattle.planning.specs.planwalk.Walk.{Stands}
use Rattle.planning.specs.declared.planwalk.Walk.{Walk}

-- The heights are those of full frames, of m left rows and of k right rows.
abbrev pub FullStands : Options → ℕ → ℕ → Rows → Rows → Walk → Type 0
FullStands o m k L R s = Stands o (full_heights m) (full_heights k) L R s
