-- The figures worked out from the rows alone, with no match written. Assumes nothing.
use Rattle.std.specs.Prelude.{true, false, List, [], ◌∷◌, ◌++◌, ℕ, zero, suc, ◌+◌, max, length, drop}
use Rattle.frames.specs.Cells.{Rows}
use Rattle.order.specs.declared.options.Options.{Options}
use Rattle.searching.specs.Reach.{need_more}
use Rattle.matchframe.specs.turnrows.Prunes.{first_prune, last_prune}
use Rattle.planning.specs.declared.Figures.{Figures}

-- SCOPE 19.25: from where the rows `held` are held: nothing is left to write; a turn that writes; a turn that wants right, and the frame that it gets.
abbrev pub rest : Rows → Figures
rest held = record { rows = length held; turns = 0; rights = 0 }

abbrev pub after_turn : Rows → Figures → Figures
after_turn held p = record { rows = max (length held) p.rows; turns = suc p.turns; rights = p.rights }

abbrev pub after_taking : Rows → Figures → Figures
after_taking held p = record { rows = max (length held) p.rows; turns = suc p.turns; rights = suc p.rights }

-- The rows that a turn that writes leaves held.
abbrev pub kept_after : Options → Rows → Rows → Rows
kept_after o x held = drop (first_prune o x held + last_prune o x held) held

-- Over the rows of the frames that are left. The fuel is their number.
unfoldable pub plan_from : ℕ → Options → Rows → List Rows → List Rows → Figures
plan_from zero o held rights lefts = rest held
plan_from (suc fuel) o held rights [] = rest held
plan_from (suc fuel) o held [] (x ∷ xs) = after_turn held (plan_from fuel o (kept_after o x held) [] xs)
plan_from (suc fuel) o held (f ∷ fs) (x ∷ xs) =
    elim (need_more o x held) [
      | true ↦ after_taking held (plan_from fuel o (held ++ f) fs (x ∷ xs))
      | false ↦ after_turn held (plan_from fuel o (kept_after o x held) (f ∷ fs) xs)
    ]

-- SCOPE 19.24, 19.25: the plan for left frames and right frames, given by their rows.
unfoldable pub plan : Options → List Rows → List Rows → Figures
plan o lefts rights = plan_from (length lefts + length rights) o [] rights lefts
