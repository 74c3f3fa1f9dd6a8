-- The strict order check, proved: the statements of specs/Strict.antt, for all options that are not refused, areas and lists of calls. Assumes nothing.
use Rattle.frames.specs.declared.outcomes.Turn.TheVariants.{Wrote, WantsRight, Idle}
use Rattle.frames.specs.declared.outcomes.Turn.{Turn}
use Rattle.frames.specs.declared.refusals.Refusal.{Refusal}
use Rattle.std.specs.Prelude.{Result, Ok, Err}
use mathlib.Core.Path.{◌≡◌, refl, ◌∙◌}
use mathlib.Core.Bool.{Bool, true, false, cond, not, ◌&&◌}
use mathlib.Core.List.{List, [], ◌∷◌, ◌++◌, append-nil}
use lib.Dec.{ltb, eqb}
use lib.ListN.{length, take, drop}
use Rattle.frames.specs.Cells.{Rows, Words}
use Rattle.frames.specs.Frame.{frame_words, frame_rows}
use Rattle.order.specs.options.Options.{columns, right_columns, answer_columns, refused_options}
use Rattle.order.specs.declared.options.Options.{Options}
use Rattle.order.specs.declared.options.Check.TheVariants.{Strict}
use Rattle.order.specs.Order.{sorted}
use Rattle.searching.specs.Reach.{need_more}
use Rattle.frames.specs.declared.refusals.Refusal.TheVariants.{Failed, Closed, NoRoom, UsedUp, LeftOrder, RightOrder}
use Rattle.frames.specs.outcomes.Answers.{is_done, last_sequence}
use Rattle.node.specs.declared.Join.{Join}
use Rattle.node.specs.Calls.{turn_answer, turn_call, turned}
use Rattle.matchframe.specs.turnrows.Prunes.{bad_left, bad_right}
use Rattle.lists.specs.Lists.{Event, World, start, events, final, left_frames, right_frames, outputs, rows_in}
use Rattle.lists.specs.Strict.{is_left_order, judged_order, StrictTheorem}
use Rattle.lists.proofs.Turned.{turned_of, exact}
use Rattle.lists.proofs.Invariant.{Inv}
use Rattle.lists.proofs.Turn.{judged, held, rows, answer_is, idle_is}
use Rattle.lists.proofs.Sound.{contra}
use Rattle.lists.proofs.Steps.{SoundAt, inv_list, sound_list, inv_start, sound_start}
use Rattle.lists.proofs.WholeTableTheorem.{each_correct, written_so_far}

-- ---- a turn that has judged the order of its left rows answers 8 exactly if they are out of order
idle_unjudged : (a b : Bool) → judged_order (cond a (Err Failed) (cond b (Err Closed) (Ok Idle))) ≡ false
idle_unjudged true b = refl
idle_unjudged false true = refl
idle_unjudged false false = refl

judged_eight : (o : Options) (j : Join) (rows held : Rows) (out : Words) → judged_order (judged o j rows held out) ≡ true → is_left_order (judged o j rows held out) ≡ bad_left o j.last_left rows
unfolding judged
judged_eight o j rows held out =
    go j.failed (is_done j.state) (not j.right_ended && need_more o rows held) (ltb (length out) (frame_words (length rows) (answer_columns o))) (eqb j.sequence last_sequence) (bad_left o j.last_left rows) (bad_right o j.last_right rows held)
  where
    chain : Bool → Bool → Bool → Bool → Bool → Bool → Bool → Result Turn Refusal
    chain failed done more short last left right =
        cond failed (Err Failed)
        (cond done (Err Closed)
        (cond more (Ok WantsRight)
        (cond short (Err NoRoom)
        (cond last (Err UsedUp)
        (cond left (Err LeftOrder)
        (cond right (Err RightOrder)
        (Ok (Wrote j.sequence))))))))

    go : (failed done more short last left right : Bool) → judged_order (chain failed done more short last left right) ≡ true → is_left_order (chain failed done more short last left right) ≡ left
    go true done more short last left right h = contra h refl
    go false true more short last left right h = contra h refl
    go false false true short last left right h = contra h refl
    go false false false true last left right h = contra h refl
    go false false false false true left right h = contra h refl
    go false false false false false true right h = refl
    go false false false false false false true h = refl
    go false false false false false false false h = refl

module _ (o : Options) (l r : Words) (allowed : refused_options o ≡ false) (es : List Event) (w : World) (i : Inv o l r es w) (strict : o.check ≡ Strict) (out : Words) where
  abbrev j : Join
  j = w.join

  -- What is asked of an answer.
  abbrev Exact : Result Turn Refusal → Type 0
  Exact a =
      judged_order a ≡ true
      → is_left_order a ≡ not (sorted o (turned_of o (left_frames es) (outputs es) ++ rows_in (columns o) (take 1 (drop (length (outputs es)) (left_frames es)))))

  answer_exact : Exact (turn_answer j w.left w.right out)
  unfolding rows_in rows
  answer_exact = go (drop (length (outputs es)) (left_frames es)) refl
    where
      go : (fs : List Words) → drop (length (outputs es)) (left_frames es) ≡ fs → Exact (turn_answer j w.left w.right out)
      go [] e h = contra (rw (idle_is o l r allowed es w i out e) at h) (idle_unjudged j.failed (is_done j.state))
      go (f ∷ rest) e h =
          let rs = rows o l r allowed es w i f rest e in
          let hs = held o l r allowed es w i in
          let is = answer_is o l r allowed es w i f rest e out in
          rw (e, append-nil (frame_rows (columns o) f), is)
          (judged_eight o j rs hs out (rw is at h) ∙ exact o strict (turned_of o (left_frames es) (outputs es)) j.last_left (i.strict strict) rs)

  -- The call's answer says the same.
  call_exact : Exact (turn_call j w.left w.right out).answer
  unfolding turn_call turned
  call_exact = go (turn_answer j w.left w.right out) refl
    where
      go : (a : Result Turn Refusal) → turn_answer j w.left w.right out ≡ a → Exact (turn_call j w.left w.right out).answer
      go (Ok (Wrote s)) e = rw (e, turn_call) (rw e at answer_exact)
      go (Ok WantsRight) e = rw (e, turn_call) (rw e at answer_exact)
      go (Ok Idle) e = rw (e, turn_call) (rw e at answer_exact)
      go (Err n) e = rw (e, turn_call) (rw e at answer_exact)

pub strict_theorem : StrictTheorem
unfolding turned_of
strict_theorem o allowed l r calls =
    let es = events (start o l r) calls in
    let w = final (start o l r) calls in
    let i : Inv o l r es w = inv_list o l r allowed calls [] (start o l r) (inv_start o l r allowed) in
    let S : SoundAt o es w = sound_list o l r allowed calls [] (start o l r) (inv_start o l r allowed) (sound_start o l r allowed) in
    let A = rows_in (right_columns o) (right_frames es) in
    let T = rows_in (columns o) (take (length (outputs es)) (left_frames es)) in
    record {
      exactly_eight = λ c out. call_exact o l r allowed es w i c out;
      right_anyway = λ c sr. let e = written_so_far o l r allowed es w i S (i.strict c).in_order sr in (e, rw e (each_correct o A sr T));
    }
