-- SCOPE 15.22, 15.23: what refusal 8 of a strict turn says, and what was written before it. The statements; their proofs are in proofs/. Assumes nothing.
use Rattle.frames.specs.declared.outcomes.Turn.TheVariants.{Wrote, WantsRight, Idle}
use Rattle.frames.specs.declared.outcomes.Turn.{Turn}
use Rattle.frames.specs.declared.refusals.Refusal.{Refusal}
use Rattle.std.specs.Prelude.{◌≡◌, Bool, true, false, not, List, ◌++◌, map, eqb, take, Result, Ok, Err}
use Rattle.frames.specs.Cells.{Rows, Words}
use Rattle.order.specs.options.Options.{columns, refused_options}
use Rattle.order.specs.declared.options.Options.{Options}
use Rattle.order.specs.declared.options.Check.TheVariants.{Strict}
use Rattle.order.specs.Order.{sorted}
use Rattle.frames.specs.refusals.Refusals.{marks_failed}
use Rattle.node.specs.Calls.{turn_call}
use Rattle.lists.specs.Lists.{Call, start, final, rows_in, turn_refusal}
use Rattle.lists.specs.WholeTables.{rights, turned_rows, waiting_frames, matches, due, Correct, Each}

-- The answer is 8.
abbrev pub is_left_order : Result Turn Refusal → Bool
is_left_order a = eqb (turn_refusal a) 8

-- SCOPE 15.22: the turn has judged the order of its left rows: it answers Wrote, 8 or 9. All other answers come before that.
abbrev pub judged_order : Result Turn Refusal → Bool
judged_order (Ok (Wrote s)) = true
judged_order (Ok WantsRight) = false
judged_order (Ok Idle) = false
judged_order (Err n) = marks_failed n

-- After a list of calls, from a fresh join and two areas (SCOPE 15.1).
module _ (o : Options) (l r : Words) (calls : List Call) where
  -- What a turn answers next.
  abbrev pub answer_next : Words → Result Turn Refusal
  answer_next out = let w = final (start o l r) calls in (turn_call w.join w.left w.right out).answer

  -- The rows of its frame: the first of the accepted left frames that wait.
  abbrev pub next_rows : Rows
  next_rows = rows_in (columns o) (take 1 (waiting_frames o l r calls))

  -- SCOPE 15.22, sorted or not.
  abbrev pub ExactlyEight : Type 0
  ExactlyEight = o.check ≡ Strict → (out : Words) → judged_order (answer_next out) ≡ true → is_left_order (answer_next out) ≡ not (sorted o (turned_rows o l r calls ++ next_rows))

  -- SCOPE 15.23: of the left rows nothing is supposed.
  abbrev pub RightAnyway : Type 0
  RightAnyway =
      o.check ≡ Strict → sorted o (rights o l r calls) ≡ true
      → (matches o l r calls ≡ map (due o l r calls) (turned_rows o l r calls)) × Each (Correct o (rights o l r calls)) (turned_rows o l r calls) (matches o l r calls)

-- Both, of one list.
pub record StrictHolds (o : Options) (l r : Words) (calls : List Call) : Type 0 where
  pub exactly_eight : ExactlyEight o l r calls
  pub right_anyway : RightAnyway o l r calls

-- For all options that are not refused, all areas and all lists of calls.
abbrev pub StrictTheorem : Type 0
StrictTheorem = (o : Options) → refused_options o ≡ false → (l r : Words) (calls : List Call) → StrictHolds o l r calls
