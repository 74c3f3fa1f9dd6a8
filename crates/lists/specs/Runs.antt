-- SCOPE 17.5: a run is the list of its turns, so the whole-table theorem needs no case for it. The statement; its proof is in proofs/. Assumes nothing.
use Rattle.frames.specs.declared.outcomes.Stop.{Stop}
use Rattle.frames.specs.declared.outcomes.Stop.TheVariants.{Used}
use Rattle.frames.specs.declared.refusals.Refusal.{Refusal}
use Rattle.std.specs.Prelude.{◌≡◌, cond, List, [], ◌∷◌, ◌++◌, map, ℕ, zero, suc, length, take, drop, Result, Ok}
use Rattle.frames.specs.Cells.{Words}
use Rattle.order.specs.options.Options.{answer_columns}
use Rattle.node.specs.Calls.{turn_call}
use Rattle.frames.specs.outcomes.Answers.{wrote}
use Rattle.node.specs.runs.Run.{Ran, run_call, turn_words, stop_of}
use Rattle.lists.specs.Lists.{Call, turn, Event, on_left, on_right, on_end, on_ports, on_turn, World, step, events, final, outputs, back_to_back}

-- The outputs that a run lends to its turns: each the words behind those that the turn before it wrote. A turn that did not write is the last.
unfoldable pub lent_by : ℕ → World → Words → List Words
lent_by zero w out = []
lent_by (suc k) w out =
    let t = turn_call w.join w.left w.right out in
    out ∷ cond (wrote t.answer) (lent_by k (step w (turn out)).world (drop (turn_words (answer_columns w.join.options) t.out) t.out)) []

-- The words that a turn wrote in its output, whose rows have c columns.
abbrev pub written_words : ℕ → Words → Words
written_words c out = take (turn_words c out) out

-- What an event ends a run with: a turn that did not write ends it by its answer, anything else leaves it to what comes after.
abbrev pub stop_by : Event → Result Stop Refusal → Result Stop Refusal
stop_by (on_left f a) s = s
stop_by (on_right f a) s = s
stop_by (on_end a) s = s
stop_by (on_ports l r p a) s = s
stop_by (on_turn a out) s = cond (wrote a) s (stop_of a)

-- What a list of turns ends a run with; where all wrote, k is used.
unfoldable pub stop_in : List Event → Result Stop Refusal
stop_in [] = Ok Used
stop_in (e ∷ es) = stop_by e (stop_in es)

module _ (k : ℕ) (w : World) (out : Words) where
  -- The run's turns, as calls.
  abbrev pub turns_of : List Call
  turns_of = map turn (lent_by k w out)

  -- Their answers.
  abbrev pub answers_of : List Event
  answers_of = events w turns_of

  -- What they wrote, back to back.
  abbrev pub words_of : Words
  words_of = back_to_back (map (written_words (answer_columns w.join.options)) (outputs answers_of))

  -- What the run leaves.
  abbrev pub ran_from : Ran
  ran_from = run_call k w.join w.left w.right out

-- A run of at most k turns leaves the join and the areas that its turns leave as calls of their own, reports as many turns as answered Wrote and the
-- answer that stopped them, and writes what they wrote back to back; the rest of the output is untouched.
pub record RunIsTurns (k : ℕ) (w : World) (out : Words) : Type 0 where
  pub world : final w (turns_of k w out) ≡ record { join = (ran_from k w out).join; left = w.left; right = w.right }
  pub turns : (ran_from k w out).turns ≡ length (outputs (answers_of k w out))
  pub stop : (ran_from k w out).stop ≡ stop_in (answers_of k w out)
  pub written : (ran_from k w out).words ≡ length (words_of k w out)
  pub words : (ran_from k w out).out ≡ words_of k w out ++ drop (ran_from k w out).words out

-- For every join, areas, k and output.
abbrev pub Runs : Type 0
Runs = (k : ℕ) (w : World) (out : Words) → RunIsTurns k w out
