-- A run of turns. Assumes nothing.
use Rattle.frames.specs.declared.outcomes.Turn.TheVariants.{Wrote, WantsRight, Idle}
use Rattle.frames.specs.declared.outcomes.Stop.{Stop}
use Rattle.frames.specs.declared.outcomes.Stop.TheVariants.{Used, WantsRight as StopWants, Idle as StopIdle}
use Rattle.frames.specs.declared.outcomes.Turn.{Turn}
use Rattle.frames.specs.declared.refusals.Refusal.{Refusal}
use Rattle.std.specs.Prelude.{cond, ◌++◌, ℕ, zero, suc, ◌+◌, take, drop, Result, Ok, Err}
use Rattle.frames.specs.Cells.{Words}
use Rattle.frames.specs.Frame.{row_count, frame_words}
use Rattle.order.specs.options.Options.{answer_columns}
use Rattle.node.specs.Calls.{turn_call}
use Rattle.frames.specs.outcomes.Answers.{wrote}
use Rattle.node.specs.declared.Join.{Join}

-- What a run leaves: how many turns it made, how many words they wrote, the answer that stopped it, the join and the output.
pub record Ran : Type 0 where
  pub turns : ℕ
  pub words : ℕ
  pub stop : Result Stop Refusal
  pub join : Join
  pub out : Words

-- From its parts.
abbrev pub ran : ℕ → ℕ → Result Stop Refusal → Join → Words → Ran
ran t n s j out = record { turns = t; words = n; stop = s; join = j; out = out }

-- The answer that stopped it. A turn that wrote stops no run; where it is the last one, k is used.
abbrev pub stop_of : Result Turn Refusal → Result Stop Refusal
stop_of (Ok (Wrote s)) = Ok Used
stop_of (Ok WantsRight) = Ok StopWants
stop_of (Ok Idle) = Ok StopIdle
stop_of (Err n) = Err n

-- A turn that wrote n rows of c columns wrote 2 + 2nc words: n is the first of them.
abbrev pub turn_words : ℕ → Words → ℕ
turn_words c out = frame_words (row_count out) c

-- t turns that wrote n words, and then what the rest of the run leaves, which writes behind them.
abbrev pub and_then : ℕ → ℕ → Words → Ran → Ran
and_then t n before r = ran (t + r.turns) (n + r.words) r.stop r.join (before ++ r.out)

-- SCOPE 17: a run with limit k. A turn that does not write ends it, with whatever join
-- and output that turn leaves.
unfoldable pub run_call : ℕ → Join → Words → Words → Words → Ran
run_call zero j left right out = ran 0 0 (Ok Used) j out
run_call (suc k) j left right out =
    let t = turn_call j left right out in
    let n = turn_words (answer_columns j.options) t.out in
    cond (wrote t.answer) (and_then 1 n (take n t.out) (run_call k t.join left right (drop n t.out))) (ran 0 0 (stop_of t.answer) t.join t.out)
