-- A run is the list of its turns: by induction on k, each turn a call of its own. Assumes nothing.
use Rattle.frames.specs.declared.outcomes.Turn.TheVariants.{Wrote, WantsRight, Idle}
use Rattle.frames.specs.declared.outcomes.Turn.{Turn}
use Rattle.frames.specs.declared.refusals.Refusal.{Refusal}
use Rattle.std.specs.Prelude.{Result, Ok, Err}
use mathlib.Core.Path.{◌≡◌, refl, ap, ◌∙◌}
use mathlib.Core.Bool.{Bool, true, false}
use mathlib.Core.List.{List, [], ◌∷◌, ◌++◌, append_assoc, map}
use Prim.Native.Nat.{ℕ, zero, suc, ◌+◌}
use native.Mathlib.Omega.{arith}
use lib.ListN.{length, take, drop, length-append}
use lib.Seq.{drop-drop, length-take-le}
use Rattle.frames.specs.Cells.{Words}
use Rattle.order.specs.options.Options.{answer_columns}
use Rattle.node.specs.Calls.{After, turn_call}
use Rattle.frames.specs.outcomes.Answers.{wrote}
use Rattle.node.specs.runs.Run.{Ran, run_call, turn_words}
use Rattle.node.proofs.runs.RunLaws.{turn_fits, turn_length, turn_untouched, turn_areas, turn_options}
use Rattle.lists.specs.Lists.{World, step, events, final, when_wrote, outputs, back_to_back}
use Rattle.lists.specs.Runs.{lent_by, stop_in, written_words, answers_of, words_of, ran_from, RunIsTurns, Runs}

-- A turn's output is kept where it wrote, and only there.
kept : (a : Result Turn Refusal) (outs : List Words) → wrote a ≡ true → when_wrote a outs ≡ outs
kept (Ok (Wrote s)) outs g = refl
kept (Ok WantsRight) outs g = let z : ◌≡◌ {A = ℕ} 0 1 = cc in absurd (omega arith)
kept (Ok Idle) outs g = let z : ◌≡◌ {A = ℕ} 0 1 = cc in absurd (omega arith)
kept (Err n) outs g = let z : ◌≡◌ {A = ℕ} 0 1 = cc in absurd (omega arith)

unkept : (a : Result Turn Refusal) (outs : List Words) → wrote a ≡ false → when_wrote a outs ≡ []
unkept (Ok (Wrote s)) outs g = let z : ◌≡◌ {A = ℕ} 0 1 = cc in absurd (omega arith)
unkept (Ok WantsRight) outs g = refl
unkept (Ok Idle) outs g = refl
unkept (Err n) outs g = refl

module _ (k : ℕ) (w : World) (out : Words) where
  abbrev t : After (Result Turn Refusal)
  t = turn_call w.join w.left w.right out

  -- The join and the areas after the first turn, and the output behind its words.
  abbrev next : World
  next = record { join = t.join; left = t.left; right = t.right }

  abbrev n : ℕ
  n = turn_words (answer_columns w.join.options) t.out

  abbrev r : Ran
  r = run_call k t.join w.left w.right (drop n t.out)

  -- The first turn did not write.
  run_ended : wrote t.answer ≡ false → RunIsTurns (suc k) w out
  unfolding lent_by events final step outputs back_to_back stop_in run_call
  run_ended g =
      let a = turn_areas w.join w.left w.right out in
      record {
        world = rw (g, a.0, a.1);
        turns = rw (g, unkept t.answer (t.out ∷ []) g);
        stop = rw g;
        written = rw (g, unkept t.answer (t.out ∷ []) g);
        words = rw (g, unkept t.answer (t.out ∷ []) g) (turn_untouched w.join w.left w.right out g);
      }

  -- It wrote, and the rest is a run of its own.
  run_goes : wrote t.answer ≡ true → RunIsTurns k next (drop n t.out) → RunIsTurns (suc k) w out
  unfolding lent_by events final step outputs back_to_back stop_in run_call
  run_goes g ih =
      let a = turn_areas w.join w.left w.right out in
      let f = turn_fits w.join w.left w.right out g in
      let l : length (take n t.out) ≡ n = length-take-le n t.out (omega (arith, f.room, turn_length w.join w.left w.right out)) in
      let e : ran_from k next (drop n t.out) ≡ r = rw (a.0, a.1) in
      let b : Words = back_to_back (map (written_words (answer_columns w.join.options)) (outputs (answers_of k next (drop n t.out)))) in
      let eb : words_of k next (drop n t.out) ≡ b = rw (turn_options w.join w.left w.right out) in
      record {
        world = rw g (ih.world ∙ rw (e, a.0, a.1));
        turns = rw (g, kept t.answer (t.out ∷ []) g) (let z = rw e at ih.turns in omega arith);
        stop = rw g (rw e at ih.stop);
        written = rw (g, kept t.answer (t.out ∷ []) g, length-append (take n t.out) b, l) (let z = rw (e, eb) at ih.written in omega arith);
        words =
            rw (g, kept t.answer (t.out ∷ []) g, append_assoc (take n t.out) b (drop (n + r.words) out))
            (ap (λ (y : Words). take n t.out ++ y) (rw (e, eb) at ih.words ∙ ap (λ (y : Words). b ++ y) (ap (λ (y : Words). drop r.words y) f.rest ∙ drop-drop r.words n out)));
      }

-- No turn is tried.
run_none : (w : World) (out : Words) → RunIsTurns zero w out
unfolding lent_by events final outputs back_to_back stop_in run_call
run_none w out = record { world = refl; turns = refl; stop = refl; written = refl; words = refl }

pub run_turns : Runs
run_turns zero w out = run_none w out
run_turns (suc k) w out = go (wrote (turn_call w.join w.left w.right out).answer) refl (run_turns k (next k w out) (drop (n k w out) (t k w out).out))
  where
    go : (b : Bool) → wrote (turn_call w.join w.left w.right out).answer ≡ b → RunIsTurns k (next k w out) (drop (n k w out) (t k w out).out) → RunIsTurns (suc k) w out
    go true g ih = run_goes k w out g ih
    go false g ih = run_ended k w out g
