-- A run of turns: that a turn that writes stays within its output; and the run after some of its turns. Assumes nothing.
use Rattle.frames.specs.declared.outcomes.Turn.TheVariants.{Wrote, WantsRight, Idle}
use Rattle.frames.specs.declared.outcomes.Stop.{Stop}
use Rattle.frames.specs.declared.outcomes.Stop.TheVariants.{Used}
use Rattle.frames.specs.declared.outcomes.Turn.{Turn}
use Rattle.std.specs.Prelude.{Result, Ok, Err}
use mathlib.Core.Path.{◌≡◌, refl, sym, ap, ◌∙◌}
use mathlib.Core.Bool.{Bool, true, false, cond, not, ◌&&◌}
use mathlib.Core.List.{[], ◌++◌, append_assoc, append-nil}
use Prim.Native.Nat.{ℕ, suc, ◌+◌, ◌-◌, ◌≤◌, ◌<◌}
use native.Mathlib.Omega.{arith}
use borrow.Author.Tests.{ltb-false, le-leb, not-false}
use lib.Dec.{ltb, eqb}
use lib.ListN.{length, take, drop, length-append, length-drop, take-append-drop, drop_of_length-le}
use lib.Seq.{take_all, drop_at, length-take-le, take-append-add, drop-append-add}
use Rattle.frames.specs.Cells.{Rows, Words}
use Rattle.frames.specs.Frame.{row_count, frame_words, is_frame, frame_rows, front}
use Rattle.frames.specs.Front.{HasCount}
use Rattle.order.specs.options.Options.{answer_columns}
use Rattle.order.specs.declared.options.Options.{Options}
use Rattle.frames.proofs.FrameLaws.{frame_rows_lem}
use Rattle.frames.proofs.FrontLaws.{frame_few}
use Rattle.searching.specs.Reach.{need_more}
use Rattle.tables.proofs.TableLaws.{Wide}
use Rattle.order.specs.Listed.{lacks_code}
use Rattle.matching.specs.Groups.{match_frame}
use Rattle.matching.specs.Answer.{frame_answer, answered}
use Rattle.matching.proofs.AnswerLaws.{answered_is, answered_rest, answered_count, answered_length}
use Rattle.matching.proofs.AnswerRows.{answer_wide, answer_count}
use Rattle.matching.proofs.GroupLaws.{frame_length}
use Rattle.node.specs.State.{marked_failed, left_width, bad_join, held_of, waiting}
use Rattle.frames.specs.outcomes.Answers.{is_done, wrote}
use Rattle.node.specs.Calls.{After, turn_answer, dropped, dequeued, turned, turn_call}
use Rattle.matchframe.specs.turnrows.Prunes.{first_prune}
use Rattle.node.specs.runs.Run.{Ran, ran, stop_of, turn_words, and_then, run_call}
use Rattle.node.specs.CallContracts.{TurnContract}
use Rattle.node.specs.runs.RunContract.{RunContract}
use Rattle.frames.proofs.outcomes.Tests.{past}
use Rattle.node.proofs.Good.{good}
use Rattle.node.specs.declared.Join.{Join}
use Rattle.frames.specs.refusals.Refusals.{marks_failed}
use Rattle.frames.specs.declared.refusals.Refusal.{Refusal}
use Rattle.frames.specs.declared.refusals.Refusal.TheVariants.{BadJoin, Failed, Closed, BadFrame, UnknownCode, NoRoom}
use Rattle.node.specs.declared.TurnedJoin.{TurnedJoin}

-- ---- what a turn that writes leaves in its output
-- The words that were written are there, as many as the first of them gives for rows of c columns; the rest is as it was.
pub record Fits (c : ℕ) (out out' : Words) : Type 0 where
  pub count : HasCount out'
  pub few : row_count out' ≤ 4096
  pub room : turn_words c out' ≤ length out
  pub rest : drop (turn_words c out') out' ≡ drop (turn_words c out') out

answered_fits : (o : Options) (rs : Rows) (out : Words) → Wide (answer_columns o) rs → length rs ≤ 4096 → frame_words (length rs) (answer_columns o) ≤ length out → Fits (answer_columns o) out (answered o rs out)
answered_fits o rs out wide few room = record {
  count = rw (answered_is o rs out) (record { long = omega arith; counted = le-leb 0 (length rs) (omega arith) });
  few = rw (answered_count o rs out) few;
  room = rw (answered_count o rs out) room;
  rest = rw (answered_count o rs out) (answered_rest o rs out wide);
}

apart : (n : Refusal) (s : ℕ) → Err n ≡ Ok (Wrote s) → ⊥
apart n s e = let z : ◌≡◌ {A = ℕ} 0 1 = cc in omega arith

module _ (j : Join) (left right out : Words) where
  abbrev rows : Rows
  rows = frame_rows (left_width j) (front (left_width j) (waiting j left))

  -- A turn that answers Wrote had a join that is not bad, a frame and room.
  pub record Passed : Type 0 where
    pub unbroken : bad_join j left right ≡ false
    pub frame : is_frame (left_width j) (front (left_width j) (waiting j left)) ≡ true
    pub room : frame_words (length rows) (answer_columns j.options) ≤ length out

  passed : (s : ℕ) → turn_answer j left right out ≡ Ok (Wrote s) → Passed
  unfolding turn_answer
  passed s e =
      let p2 = past (bad_join j left right) (Err BadJoin) _ (Ok (Wrote s)) (apart BadJoin s) e in
      let p3 = past j.failed (Err Failed) _ (Ok (Wrote s)) (apart Failed s) p2.1 in
      let p4 = past (is_done j.state) (Err Closed) _ (Ok (Wrote s)) (apart Closed s) p3.1 in
      let pi = past (eqb j.queue_words 0) (Ok Idle) _ (Ok (Wrote s)) (λ x. let z : ◌≡◌ {A = ℕ} 0 1 = cc in omega arith) p4.1 in
      let p5 = past (not (is_frame (left_width j) (front (left_width j) (waiting j left)))) (Err BadFrame) _ (Ok (Wrote s)) (apart BadFrame s) pi.1 in
      let p12 = past (lacks_code j.options rows) (Err UnknownCode) _ (Ok (Wrote s)) (apart UnknownCode s) p5.1 in
      let pw = past (not j.right_ended && need_more j.options rows (held_of j right)) (Ok WantsRight) _ (Ok (Wrote s)) (λ x. let z : ◌≡◌ {A = ℕ} 0 1 = cc in omega arith) p12.1 in
      let p6 = past (ltb (length out) (frame_words (length rows) (answer_columns j.options))) (Err NoRoom) _ (Ok (Wrote s)) (apart NoRoom s) pw.1 in
      record { unbroken = p2.0; frame = not-false (is_frame (left_width j) (front (left_width j) (waiting j left))) p5.0; room = ltb-false (length out) (frame_words (length rows) (answer_columns j.options)) p6.0 }

  -- It carries few columns.
  pub turn_carried : wrote (turn_call j left right out).answer ≡ true → j.options.carried ≤ 8
  unfolding turn_call
  turn_carried = go (turn_answer j left right out) refl
    where
      go : (a : Result Turn Refusal) → turn_answer j left right out ≡ a → wrote (turn_call j left right out).answer ≡ true → j.options.carried ≤ 8
      go (Ok (Wrote s)) e = λ g. (good j left right (passed s e).unbroken).carried
      go (Ok WantsRight) e = rw (e, turn_call) (λ g. let z : ◌≡◌ {A = ℕ} 0 1 = cc in absurd (omega arith))
      go (Ok Idle) e = rw (e, turn_call) (λ g. let z : ◌≡◌ {A = ℕ} 0 1 = cc in absurd (omega arith))
      go (Err n) e = rw (e, turn_call) (λ g. let z : ◌≡◌ {A = ℕ} 0 1 = cc in absurd (omega arith))

  -- The answer that is written: its rows are as many as the frame's, and as wide as an answer is.
  abbrev first : ℕ
  first = first_prune j.options rows (held_of j right)

  abbrev kept : Rows
  kept = drop first (held_of j right)

  matches : Rows
  matches = frame_answer j.options (j.pruned + first) kept rows

  matches_length : length matches ≡ length rows
  unfolding matches
  matches_length =
      let n = frame_length j.options (j.pruned + first) kept rows in
      answer_count j.options (j.pruned + first) kept rows (match_frame j.options (j.pruned + first) kept rows) (sym n) ∙ n

  matches_wide : Wide (answer_columns j.options) matches
  unfolding matches
  matches_wide = answer_wide j.options (j.pruned + first) kept rows (match_frame j.options (j.pruned + first) kept rows)

  matches_room : (s : ℕ) → turn_answer j left right out ≡ Ok (Wrote s) → frame_words (length matches) (answer_columns j.options) ≤ length out
  matches_room s e = rw matches_length (passed s e).room

  turned_out : (turned j left right out).out ≡ answered j.options matches out
  unfolding turned matches
  turned_out = refl

  pub turn_fits : wrote (turn_call j left right out).answer ≡ true → Fits (answer_columns j.options) out (turn_call j left right out).out
  unfolding turn_call
  turn_fits = go (turn_answer j left right out) refl
    where
      go : (a : Result Turn Refusal) → turn_answer j left right out ≡ a → wrote (turn_call j left right out).answer ≡ true → Fits (answer_columns j.options) out (turn_call j left right out).out
      go (Ok (Wrote s)) e = rw (e, turn_call) (λ g.
          let p = passed s e in
          rw turned_out (answered_fits j.options matches out matches_wide (omega (arith, matches_length, frame_rows_lem (left_width j) _ p.frame, frame_few (left_width j) _ p.frame)) (matches_room s e)))
      go (Ok WantsRight) e = rw (e, turn_call) (λ g. let z : ◌≡◌ {A = ℕ} 0 1 = cc in absurd (omega arith))
      go (Ok Idle) e = rw (e, turn_call) (λ g. let z : ◌≡◌ {A = ℕ} 0 1 = cc in absurd (omega arith))
      go (Err n) e = rw (e, turn_call) (λ g. let z : ◌≡◌ {A = ℕ} 0 1 = cc in absurd (omega arith))

  -- No turn changes the output's length.
  pub turn_length : length (turn_call j left right out).out ≡ length out
  unfolding turn_call
  turn_length = go (turn_answer j left right out) refl
    where
      go : (a : Result Turn Refusal) → turn_answer j left right out ≡ a → length (turn_call j left right out).out ≡ length out
      go (Ok (Wrote s)) e = rw (e, turn_call, turned_out) (answered_length j.options matches out matches_wide (matches_room s e))
      go (Ok WantsRight) e = rw (e, turn_call)
      go (Ok Idle) e = rw (e, turn_call)
      go (Err n) e = rw (e, turn_call)

  -- A turn that does not write leaves the output as it was; no turn changes an area.
  pub turn_untouched : wrote (turn_call j left right out).answer ≡ false → (turn_call j left right out).out ≡ out
  unfolding turn_call turned
  turn_untouched = go (turn_answer j left right out) refl
    where
      go : (a : Result Turn Refusal) → turn_answer j left right out ≡ a → wrote (turn_call j left right out).answer ≡ false → (turn_call j left right out).out ≡ out
      go (Ok (Wrote s)) e = rw (e, turn_call) (λ g. let z : ◌≡◌ {A = ℕ} 0 1 = cc in absurd (omega arith))
      go (Ok WantsRight) e = rw (e, turn_call) (λ g. refl)
      go (Ok Idle) e = rw (e, turn_call) (λ g. refl)
      go (Err n) e = rw (e, turn_call) (λ g. refl)

  pub turn_areas : ((turn_call j left right out).left ≡ left) × ((turn_call j left right out).right ≡ right)
  unfolding turn_call turned
  turn_areas = go (turn_answer j left right out) refl
    where
      go : (a : Result Turn Refusal) → turn_answer j left right out ≡ a → ((turn_call j left right out).left ≡ left) × ((turn_call j left right out).right ≡ right)
      go (Ok (Wrote s)) e = rw (e, turn_call) (refl, refl)
      go (Ok WantsRight) e = rw (e, turn_call) (refl, refl)
      go (Ok Idle) e = rw (e, turn_call) (refl, refl)
      go (Err n) e = rw (e, turn_call) (refl, refl)

-- A turn keeps the options.
pub turn_options : (j : Join) (left right out : Words) → (turn_call j left right out).join.options ≡ j.options
unfolding turn_call turned dequeued dropped
turn_options j left right out = go (turn_answer j left right out) refl
  where
    spoilt : (b : Bool) → (cond b (marked_failed j) j).options ≡ j.options
    spoilt true = refl
    spoilt false = refl

    go : (a : Result Turn Refusal) → turn_answer j left right out ≡ a → (turn_call j left right out).join.options ≡ j.options
    go (Ok (Wrote s)) e = rw (e, turn_call)
    go (Ok WantsRight) e = rw (e, turn_call)
    go (Ok Idle) e = rw (e, turn_call)
    go (Err n) e = rw (e, turn_call) (spoilt (marks_failed n))

-- ---- a run
then_then : (a b c d : ℕ) (xs ys : Words) (r : Ran) → and_then a b xs (and_then c d ys r) ≡ and_then (a + c) (b + d) (xs ++ ys) r
then_then a b c d xs ys r =
    let p : a + (c + r.turns) ≡ a + c + r.turns = omega arith in
    let q : b + (d + r.words) ≡ b + d + r.words = omega arith in
    rw (p, q, append_assoc xs ys r.out)

then_none : (r : Ran) → and_then 0 0 [] r ≡ r
then_none r =
    let p : 0 + r.turns ≡ r.turns = omega arith in
    let q : 0 + r.words ≡ r.words = omega arith in
    rw (p, q)

then_end : (a b : ℕ) (s : Result Stop Refusal) (j : Join) (xs ys : Words) → and_then a b xs (ran 0 0 s j ys) ≡ ran a b s j (xs ++ ys)
then_end a b s j xs ys =
    let p : a + 0 ≡ a = omega arith in
    let q : b + 0 ≡ b = omega arith in
    rw (p, q)

module _ (k : ℕ) (j₀ : Join) (left right out₀ : Words) where
  -- The run after some of its turns: what is left of it, from this join and behind the words written, gives what the whole gives.
  pub record Made (made at : ℕ) (j : Join) (out : Words) : Type 0 where
    pub few : made ≤ k
    pub within : at ≤ length out
    pub same : length out ≡ length out₀
    pub rest : run_call k j₀ left right out₀ ≡ and_then made at (take at out) (run_call (k - made) j left right (drop at out))

  pub leaves : (t n : ℕ) (s : Result Stop Refusal) (j : Join) (out : Words) → run_call k j₀ left right out₀ ≡ ran t n s j out → RunContract j₀ k left right out₀ (record { turns = t; words = n; stop = s; join = j }) out
  leaves t n s j out e = record { turns = rw e; written = rw e; stop = rw e; join = rw e; words = rw e }

  module _ {made at : ℕ} {j : Join} {out : Words} (m : Made made at j out) where
    -- k turns are used.
    pub run_used : k ≤ made → RunContract j₀ k left right out₀ (record { turns = made; words = at; stop = Ok Used; join = j }) out
    unfolding run_call
    run_used h =
        let z : k - made ≡ 0 = omega (arith, m.few) in
        leaves made at (Ok Used) j out (rw (z, then_end made at (Ok Used) j (take at out) (drop at out), take-append-drop at out) at m.rest)

    -- The next turn x, which is lent the output from word `at` on and leaves ys there.
    module _ (h : made < k) (x : TurnedJoin) (ys : Words) (turned : TurnContract j left right (take (length out - at) (drop at out)) x ys) where
      abbrev t : After (Result Turn Refusal)
      t = turn_call j left right (drop at out)

      -- The output as it is then.
      abbrev put : Words
      put = take at out ++ (ys ++ drop (length out - at) (drop at out))

      lent : take (length out - at) (drop at out) ≡ drop at out
      lent = take_all (length out - at) (drop at out) (omega (arith, length-drop at out))

      leaves_it : TurnContract j left right (drop at out) x ys
      leaves_it = rw lent at turned

      put_is : put ≡ take at out ++ t.out
      put_is = rw (drop_of_length-le (drop at out) {i = length out - at} (omega (arith, length-drop at out)), append-nil ys, leaves_it.words)

      before : length (take at out) ≡ at
      before = length-take-le at out m.within

      pub put_length : length put ≡ length out
      put_length = rw (put_is, length-append, before, turn_length j left right (drop at out), length-drop) (omega (arith, m.within))

      behind : take (length put - at) (drop at put) ≡ t.out
      behind =
          let d : drop at put ≡ t.out = rw put_is (drop_at (take at out) t.out at before) in
          let l : length t.out ≡ length put - at = ap length (sym d) ∙ length-drop at put in
          rw d (take_all (length put - at) t.out (omega arith))

      one : k - made ≡ suc (k - (made + 1))
      one = omega arith

      -- A turn that does not write ends the run.
      pub run_stops : wrote x.answer ≡ false → (s : Result Stop Refusal) → s ≡ stop_of x.answer → RunContract j₀ k left right out₀ (record { turns = made; words = at; stop = s; join = x.join }) put
      unfolding run_call
      run_stops g s is =
          let q : wrote t.answer ≡ false = rw leaves_it.answer at g in
          let e : run_call (k - made) j left right (drop at out) ≡ ran 0 0 (stop_of t.answer) t.join t.out = rw (one, q) in
          rw (put_is, is, leaves_it.answer, leaves_it.join) (leaves made at (stop_of t.answer) t.join (take at out ++ t.out) (m.rest ∙ ap (and_then made at (take at out)) e ∙ then_end made at (stop_of t.answer) t.join (take at out) t.out))

      -- A turn that writes goes on behind the words that it wrote.
      module _ (g : wrote x.answer ≡ true) where
        writes : wrote t.answer ≡ true
        writes = rw leaves_it.answer at g

        fits : Fits (answer_columns j.options) (drop at out) t.out
        fits = turn_fits j left right (drop at out) writes

        -- The join is left with the options that it had.
        kept_options : x.join.options ≡ j.options
        kept_options = rw leaves_it.join (turn_options j left right (drop at out))

        pub run_carried : x.join.options.carried ≤ 8
        run_carried = rw kept_options (turn_carried j left right (drop at out) writes)

        pub run_count : HasCount (take (length put - at) (drop at put)) × (row_count (take (length put - at) (drop at put)) ≤ 4096)
        run_count = rw behind (fits.count, fits.few)

        module _ (c n : ℕ) (wide : c ≡ answer_columns x.join.options) (is : n ≡ turn_words c (take (length put - at) (drop at put))) where
          many : n ≡ turn_words (answer_columns j.options) t.out
          many = rw (behind, wide, kept_options) at is

          pub run_within : at + n ≤ length out
          run_within = omega (arith, many, m.within, fits.room, length-drop at out)

          pub run_more : Made (made + 1) (at + n) x.join put
          unfolding run_call
          run_more =
              let r = run_call (k - (made + 1)) t.join left right (drop n t.out) in
              let e : run_call (k - made) j left right (drop at out) ≡ and_then 1 n (take n t.out) r = rw (many, one, writes) in
              let a : take (at + n) put ≡ take at out ++ take n t.out = rw put_is (rw before at (take-append-add (take at out) t.out n)) in
              let b : drop (at + n) put ≡ drop n t.out = rw put_is (rw before at (drop-append-add (take at out) t.out n)) in
              record {
                few = omega arith;
                within = rw put_length run_within;
                same = put_length ∙ m.same;
                rest = rw (a, b, leaves_it.join) (m.rest ∙ ap (and_then made at (take at out)) e ∙ then_then made at 1 n (take at out) (take n t.out) r);
              }

  pub run_starts : Made 0 0 j₀ out₀
  run_starts =
      let z : k - 0 ≡ k = omega arith in
      record { few = omega arith; within = omega arith; same = refl; rest = rw z (sym (then_none (run_call k j₀ left right out₀))) }
