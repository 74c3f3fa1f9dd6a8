-- The schedule's rounds and the plan, step by step. Assumes nothing.
use Rattle.frames.specs.declared.outcomes.Turn.TheVariants.{Wrote, WantsRight}
use Rattle.std.specs.Prelude.{Ok, Err}
use mathlib.Core.Path.{◌≡◌, refl, sym, ap, ◌∙◌}
use mathlib.Core.Bool.{Bool, true, false, cond, not, ◌&&◌, or-false}
use mathlib.Core.List.{List, [], ◌∷◌, ◌++◌, append-nil, append_assoc}
use Prim.Native.Nat.{suc, ◌+◌, ◌^◌, ◌≤◌, ◌<◌}
use native.Mathlib.Omega.{arith}
use borrow.Author.Tests.{le-ltb, ne_eqb}
use lib.Dec.{ltb, eqb}
use lib.ListN.{length, drop, length-append, length-drop}
use lib.Seq.{drop-drop}
use Rattle.callrules.specs.Judged.{end_judged, right_judged}
use Rattle.frames.specs.Cells.{Rows, Words}
use Rattle.frames.specs.Frame.{row_count, frame_words, frame_rows}
use Rattle.order.specs.options.Options.{columns, right_columns, answer_columns, refused_options}
use Rattle.order.specs.Order.{sorted}
use Rattle.order.specs.Listed.{lacks_code}
use Rattle.order.specs.declared.options.Options.{Options}
use Rattle.frames.proofs.FrameLaws.{frame_rows_lem}
use Rattle.order.proofs.SortedLaws.{sorted_cut}
use Rattle.order.proofs.ListedLaws.{lacks_parts}
use Rattle.buffer.specs.area.Area.{capacity}
use Rattle.searching.specs.Reach.{need_more}
use Rattle.node.specs.declared.Join.{Join}
use Rattle.frames.specs.declared.refusals.Refusal.TheVariants.{NoRoom}
use Rattle.node.specs.State.{ended_right}
use Rattle.frames.specs.outcomes.Answers.{is_done, last_sequence, most_rows}
use Rattle.node.specs.Calls.{right_answer, right_call, pushed_right, end_answer, end_call, turn_answer, turn_call, turned, dropped, dequeued}
use Rattle.matchframe.specs.turnrows.Prunes.{bad_left, bad_right, first_prune, last_prune}
use Rattle.lists.specs.Lists.{Call, right, end, turn, Event, on_right, on_end, on_turn, World, step, left_frames, right_frames, rows_in, outputs, is_right_ended, node_done, done_by}
use Rattle.lists.specs.WholeTables.{Each, pairs}
use Rattle.lists.proofs.ListLaws.{rows_in_append, drop_more, drop_next}
use Rattle.lists.proofs.Stock.{Frames}
use Rattle.lists.proofs.Invariant.{Inv, good}
use Rattle.lists.proofs.Turn.{judged, left_by, held, rows, rows_count, answer_is, turned_is}
use Rattle.lists.proofs.Turned.{turned_sorted, next_sorted}
use Rattle.lists.proofs.Steps.{SoundAt, no_left_fault, no_right_fault, inv_step, sound_step}
use Rattle.planning.specs.Plan.{kept_after}
use Rattle.schedules.proofs.plan.EventLaws.{snoc_left, snoc_right, snoc_out, snoc_ended, snoc_done}

-- ---- a turn over a waiting frame, where nothing is refused
judged_is : (o : Options) (j : Join) (rows held : Rows) (out : Words) → j.failed ≡ false → is_done j.state ≡ false
    → ltb (length out) (frame_words (length rows) (answer_columns o)) ≡ false → eqb j.sequence last_sequence ≡ false → bad_left o j.last_left rows ≡ false → bad_right o j.last_right rows held ≡ false
    → judged o j rows held out ≡ cond (not j.right_ended && need_more o rows held) (Ok WantsRight) (Ok (Wrote j.sequence))
unfolding judged
judged_is o j rows held out e₁ e₂ e₄ e₅ e₆ e₇ = rw (e₁, e₂, e₄, e₅, e₆, e₇)

abbrev pub Room : Options → List Words → List Words → Type 0
Room o fs outs = Each (λ f out. frame_words (row_count f) (answer_columns o) ≤ length out) fs outs

head_room : (o : Options) {f out : Words} {ls outs : List Words} → Room o (f ∷ ls) (out ∷ outs) → frame_words (row_count f) (answer_columns o) ≤ length out
head_room o (pairs p q) = p

tail_room : (o : Options) {f out : Words} {ls outs : List Words} → Room o (f ∷ ls) (out ∷ outs) → Room o ls outs
tail_room o (pairs p q) = q

module _ (o : Options) (l r : Words) (allowed : refused_options o ≡ false) where
  -- After the events es: whether right has ended is e, the right frames fs are still to come, the left frames ls wait, and there is an output for each.
  pub record At (es : List Event) (w : World) (e : Bool) (fs ls outs : List Words) : Type 0 where
    pub inv : Inv o l r es w
    pub sound : SoundAt o es w
    pub sl : sorted o (rows_in (columns o) (left_frames es)) ≡ true
    pub sr : sorted o (rows_in (right_columns o) (right_frames es ++ fs)) ≡ true
    pub waits : drop (length (outputs es)) (left_frames es) ≡ ls
    pub room : Room o ls outs
    pub ended : is_right_ended es ≡ e
    pub undone : node_done es ≡ false
    pub few : length (rows_in (right_columns o) (right_frames es ++ fs)) ≤ most_rows
    pub frames : Frames (right_columns o) fs
    pub codes : lacks_code o (rows_in (right_columns o) fs) ≡ false
    pub short : length (left_frames es) < 2 ^ 63

  -- The rows held.
  abbrev pub held_now : List Event → World → Rows
  held_now es w = drop w.join.pruned (rows_in (right_columns o) (right_frames es))

  module _ (es : List Event) (w : World) (e : Bool) (fs ls outs : List Words) (a : At es w e fs ls outs) where
    abbrev j : Join
    j = w.join

    pub right_now : sorted o (rows_in (right_columns o) (right_frames es)) ≡ true
    right_now = (sorted_cut o (rows_in (right_columns o) (right_frames es)) (rows_in (right_columns o) fs) (rw (← rows_in_append (right_columns o) (right_frames es) fs) a.sr)).0

    pub unfailed : j.failed ≡ false
    unfailed = (a.sound (turned_sorted o (left_frames es) (outputs es) a.sl) right_now).unfailed a.sl

    pub not_done : is_done j.state ≡ false
    not_done = a.inv.flags.done ∙ a.undone

    pub held_count : length (held_now es w) ≡ j.held
    held_count = length-drop j.pruned (rows_in (right_columns o) (right_frames es)) ∙ omega (arith, a.inv.stock.rows)

    -- What a call leaves, where it moves no left frame.
    pub moved_on : (cl : Call) (e' : Bool) (fs' ls' outs' : List Words)
        → left_frames (es ++ ((step w cl).event ∷ [])) ≡ left_frames es → right_frames (es ++ ((step w cl).event ∷ [])) ++ fs' ≡ right_frames es ++ fs
        → drop (length (outputs (es ++ ((step w cl).event ∷ [])))) (left_frames (es ++ ((step w cl).event ∷ []))) ≡ ls' → Room o ls' outs'
        → is_right_ended (es ++ ((step w cl).event ∷ [])) ≡ e' → node_done (es ++ ((step w cl).event ∷ [])) ≡ false → Frames (right_columns o) fs' → lacks_code o (rows_in (right_columns o) fs') ≡ false
        → At (es ++ ((step w cl).event ∷ [])) (step w cl).world e' fs' ls' outs'
    moved_on cl e' fs' ls' outs' el er ew rm en un fr cd = record {
      inv = inv_step o l r allowed es w a.inv cl;
      sound = sound_step o l r allowed es w a.inv a.sound cl;
      sl = rw el a.sl;
      sr = rw er a.sr;
      waits = ew;
      room = rm;
      ended = en;
      undone = un;
      few = rw er a.few;
      frames = fr;
      codes = cd;
      short = rw el a.short;
    }

  -- ---- a turn
  module _ (es : List Event) (w : World) (e : Bool) (fs : List Words) (f : Words) (ls : List Words) (out : Words) (outs : List Words) (a : At es w e fs (f ∷ ls) (out ∷ outs)) where
    pub turn_answers : turn_answer w.join w.left w.right out ≡ cond (not e && need_more o (frame_rows (columns o) f) (held_now es w)) (Ok WantsRight) (Ok (Wrote w.join.sequence))
    unfolding rows held
    turn_answers =
        let i = a.inv in
        let rs = rows o l r allowed es w i f ls a.waits in
        let hs = held o l r allowed es w i in
        let sn = right_now es w e fs (f ∷ ls) (out ∷ outs) a in
        let st = next_sorted o (left_frames es) (outputs es) f ls a.waits a.sl in
        let words = frame_words (length rs) (answer_columns o) in
        let fits : ltb (length out) words ≡ false = le-ltb (length out) words (rw (rows_count o l r allowed es w i f ls a.waits) (head_room o a.room)) in
        let more : length (outputs es) < length (left_frames es) = omega (arith, length-drop (length (outputs es)) (left_frames es), ap length a.waits) in
        let seq : eqb w.join.sequence last_sequence ≡ false = ne_eqb w.join.sequence last_sequence (λ (h : w.join.sequence ≡ last_sequence). omega (arith, i.stock.sequence, a.short)) in
        let en : w.join.right_ended ≡ e = i.flags.ended ∙ a.ended in
        answer_is o l r allowed es w i f ls a.waits out
        ∙ judged_is o w.join rs hs out (unfailed es w e fs (f ∷ ls) (out ∷ outs) a) (not_done es w e fs (f ∷ ls) (out ∷ outs) a) fits seq
        (no_left_fault o l r allowed es w i a.sound sn f ls a.waits st) (no_right_fault o l r allowed es w i a.sound sn f ls a.waits st)
        ∙ rw en refl

    -- It wants right: nothing changes.
    module _ (q : turn_answer w.join w.left w.right out ≡ Ok WantsRight) where
      pub wants_step : step w (turn out) ≡ record { event = on_turn (Ok WantsRight) out; world = record { join = w.join; left = w.left; right = w.right } }
      unfolding step turn_call
      wants_step = rw (q, turn_call)

      pub wants_event : (step w (turn out)).event ≡ on_turn (Ok WantsRight) out
      wants_event = ap (λ s. s.event) wants_step

      pub wants_world : (step w (turn out)).world ≡ record { join = w.join; left = w.left; right = w.right }
      wants_world = ap (λ s. s.world) wants_step

      pub wants_rights : right_frames (es ++ ((step w (turn out)).event ∷ [])) ≡ right_frames es
      wants_rights = rw wants_event (snoc_right es (on_turn (Ok WantsRight) out) ∙ append-nil (right_frames es))

      pub wants_left : left_frames (es ++ ((step w (turn out)).event ∷ [])) ≡ left_frames es
      wants_left = rw wants_event (snoc_left es (on_turn (Ok WantsRight) out) ∙ append-nil (left_frames es))

      pub wants_at : At (es ++ ((step w (turn out)).event ∷ [])) (step w (turn out)).world e fs (f ∷ ls) (out ∷ outs)
      unfolding done_by
      wants_at =
          let ev = on_turn (Ok WantsRight) out in
          let eo : outputs (es ++ ((step w (turn out)).event ∷ [])) ≡ outputs es = rw wants_event (snoc_out es ev ∙ append-nil (outputs es)) in
          moved_on es w e fs (f ∷ ls) (out ∷ outs) a (turn out) e fs (f ∷ ls) (out ∷ outs) wants_left (ap (λ (z : List Words). z ++ fs) wants_rights) (rw (eo, wants_left) a.waits) a.room
          (rw wants_event (snoc_ended es ev ∙ or-false (is_right_ended es) ∙ a.ended)) (rw wants_event (snoc_done es ev ∙ or-false (node_done es) ∙ a.undone)) a.frames a.codes

      pub wants_held : held_now (es ++ ((step w (turn out)).event ∷ [])) (step w (turn out)).world ≡ held_now es w
      wants_held = rw (wants_world, wants_rights) refl

    -- It writes: the frame leaves, and what is pruned is dropped.
    module _ (q : turn_answer w.join w.left w.right out ≡ Ok (Wrote w.join.sequence)) where
      abbrev x : Rows
      x = frame_rows (columns o) f

      wrote_step : step w (turn out) ≡ record { event = on_turn (Ok (Wrote w.join.sequence)) (turned w.join w.left w.right out).out; world = record { join = (turned w.join w.left w.right out).join; left = (turned w.join w.left w.right out).left; right = (turned w.join w.left w.right out).right } }
      unfolding step turn_call turned
      wrote_step = rw (q, turn_call)

      pub wrote_event : (step w (turn out)).event ≡ on_turn (Ok (Wrote w.join.sequence)) (turned w.join w.left w.right out).out
      wrote_event = ap (λ s. s.event) wrote_step

      pub wrote_rights : right_frames (es ++ ((step w (turn out)).event ∷ [])) ≡ right_frames es
      wrote_rights = rw wrote_event (snoc_right es (on_turn (Ok (Wrote w.join.sequence)) (turned w.join w.left w.right out).out) ∙ append-nil (right_frames es))

      wrote_pruned : (step w (turn out)).world.join.pruned ≡ w.join.pruned + (first_prune o x (held_now es w) + last_prune o x (held_now es w))
      unfolding rows held left_by dequeued dropped
      wrote_pruned = ap (λ s. s.world.join.pruned) wrote_step ∙ ap (λ s. s.join.pruned) (turned_is o l r allowed es w a.inv f ls a.waits out)

      pub wrote_left : left_frames (es ++ ((step w (turn out)).event ∷ [])) ≡ left_frames es
      wrote_left = rw wrote_event (snoc_left es (on_turn (Ok (Wrote w.join.sequence)) (turned w.join w.left w.right out).out) ∙ append-nil (left_frames es))

      pub wrote_at : At (es ++ ((step w (turn out)).event ∷ [])) (step w (turn out)).world e fs ls outs
      unfolding done_by
      wrote_at =
          let ev = on_turn (Ok (Wrote w.join.sequence)) (turned w.join w.left w.right out).out in
          let eo : length (outputs (es ++ ((step w (turn out)).event ∷ []))) ≡ suc (length (outputs es)) = rw wrote_event (ap length (snoc_out es ev) ∙ length-append (outputs es) ((turned w.join w.left w.right out).out ∷ []) ∙ omega arith) in
          moved_on es w e fs (f ∷ ls) (out ∷ outs) a (turn out) e fs ls outs wrote_left (ap (λ (z : List Words). z ++ fs) wrote_rights) (rw (eo, wrote_left) (drop_next (length (outputs es)) (left_frames es) f ls a.waits)) (tail_room o a.room)
          (rw wrote_event (snoc_ended es ev ∙ or-false (is_right_ended es) ∙ a.ended)) (rw wrote_event (snoc_done es ev ∙ or-false (node_done es) ∙ a.undone)) a.frames a.codes

      pub wrote_held : held_now (es ++ ((step w (turn out)).event ∷ [])) (step w (turn out)).world ≡ kept_after o x (held_now es w)
      wrote_held =
          let n = first_prune o x (held_now es w) + last_prune o x (held_now es w) in
          rw (wrote_pruned, wrote_rights) (sym (drop-drop n w.join.pruned (rows_in (right_columns o) (right_frames es))))

  -- ---- a right frame
  module _ (es : List Event) (w : World) (f : Words) (fs ls outs : List Words) (a : At es w false (f ∷ fs) ls outs) where
    pub same_room : capacity (right_columns o) w.right ≡ capacity (right_columns o) r
    same_room = rw a.inv.stock.right_length refl

    few_more : w.join.pruned + w.join.held + row_count f ≤ most_rows
    unfolding rows_in
    few_more =
        let n = frame_rows_lem (right_columns o) f a.frames.0 in
        let k = ap length (rows_in_append (right_columns o) (right_frames es) (f ∷ fs)) ∙ length-append (rows_in (right_columns o) (right_frames es)) (frame_rows (right_columns o) f ++ rows_in (right_columns o) fs) in
        let m = length-append (frame_rows (right_columns o) f) (rows_in (right_columns o) fs) in
        omega (arith, a.few, a.inv.stock.rows, n, k, m)

    -- The list lacks none of its values, and none of those that come behind it.
    codes_parts : (lacks_code o (frame_rows (right_columns o) f) ≡ false) × (lacks_code o (rows_in (right_columns o) fs) ≡ false)
    unfolding rows_in
    codes_parts = lacks_parts o (frame_rows (right_columns o) f) (rows_in (right_columns o) fs) a.codes

    -- It is judged by its room alone.
    pub right_answers : right_answer w.join w.left w.right f ≡ cond (ltb (capacity (right_columns o) r) (w.join.held + row_count f)) (Err NoRoom) (Ok tt)
    unfolding right_judged
    right_answers =
        let i = a.inv in
        let en : w.join.right_ended ≡ false = i.flags.ended ∙ a.ended in
        rw (good o l r allowed es w i, unfailed es w false (f ∷ fs) ls outs a, en, not_done es w false (f ∷ fs) ls outs a, i.stock.options, a.frames.0, codes_parts.0, same_room, le-ltb most_rows (w.join.pruned + w.join.held + row_count f) few_more)
        refl

    -- Refused.
    module _ (q : right_answer w.join w.left w.right f ≡ Err NoRoom) where
      pub refused_event : (step w (right f)).event ≡ on_right f (Err NoRoom)
      unfolding step right_call
      refused_event = rw (q, right_call)

    -- Accepted.
    module _ (q : right_answer w.join w.left w.right f ≡ Ok tt) where
      pub took_step : step w (right f) ≡ record { event = on_right f (Ok tt); world = record { join = (pushed_right w.join w.left w.right f).join; left = (pushed_right w.join w.left w.right f).left; right = (pushed_right w.join w.left w.right f).right } }
      unfolding step right_call pushed_right
      took_step = rw (q, right_call)

      pub took_event : (step w (right f)).event ≡ on_right f (Ok tt)
      took_event = ap (λ s. s.event) took_step

      pub took_rights : right_frames (es ++ ((step w (right f)).event ∷ [])) ≡ right_frames es ++ (f ∷ [])
      took_rights = rw took_event (snoc_right es (on_right f (Ok tt)))

      pub took_left : left_frames (es ++ ((step w (right f)).event ∷ [])) ≡ left_frames es
      took_left = rw took_event (snoc_left es (on_right f (Ok tt)) ∙ append-nil (left_frames es))

      pub took_at : At (es ++ ((step w (right f)).event ∷ [])) (step w (right f)).world false fs ls outs
      unfolding done_by
      took_at =
          let ev = on_right f (Ok tt) in
          let eo : outputs (es ++ ((step w (right f)).event ∷ [])) ≡ outputs es = rw took_event (snoc_out es ev ∙ append-nil (outputs es)) in
          moved_on es w false (f ∷ fs) ls outs a (right f) false fs ls outs took_left (rw took_rights (append_assoc (right_frames es) (f ∷ []) fs)) (rw (eo, took_left) a.waits) a.room
          (rw took_event (snoc_ended es ev ∙ or-false (is_right_ended es) ∙ a.ended)) (rw took_event (snoc_done es ev ∙ or-false (node_done es) ∙ a.undone)) a.frames.1 codes_parts.1

      pub took_held : held_now (es ++ ((step w (right f)).event ∷ [])) (step w (right f)).world ≡ held_now es w ++ frame_rows (right_columns o) f
      unfolding pushed_right rows_in
      took_held =
          let p : (step w (right f)).world.join.pruned ≡ w.join.pruned = ap (λ s. s.world.join.pruned) took_step in
          rw (p, took_rights, rows_in_append (right_columns o) (right_frames es) (f ∷ []), append-nil (frame_rows (right_columns o) f))
          (drop_more w.join.pruned (rows_in (right_columns o) (right_frames es)) (frame_rows (right_columns o) f) (omega (arith, a.inv.stock.rows)))

  -- ---- the end of right
  module _ (es : List Event) (w : World) (ls outs : List Words) (a : At es w false [] ls outs) where
    end_answers : end_answer w.join w.left w.right ≡ Ok tt
    unfolding end_judged
    end_answers =
        let i = a.inv in
        let en : w.join.right_ended ≡ false = i.flags.ended ∙ a.ended in
        rw (good o l r allowed es w i, unfailed es w false [] ls outs a, en, not_done es w false [] ls outs a) refl

    pub end_step : step w end ≡ record { event = on_end (Ok tt); world = record { join = ended_right w.join; left = w.left; right = w.right } }
    unfolding step end_call
    end_step = rw (end_answers, end_call)

    pub end_event : (step w end).event ≡ on_end (Ok tt)
    end_event = ap (λ s. s.event) end_step

    pub end_rights : right_frames (es ++ ((step w end).event ∷ [])) ≡ right_frames es
    end_rights = rw end_event (snoc_right es (on_end (Ok tt)) ∙ append-nil (right_frames es))

    pub end_left : left_frames (es ++ ((step w end).event ∷ [])) ≡ left_frames es
    end_left = rw end_event (snoc_left es (on_end (Ok tt)) ∙ append-nil (left_frames es))

    pub end_at : At (es ++ ((step w end).event ∷ [])) (step w end).world true [] ls outs
    unfolding done_by
    end_at =
        let ev = on_end (Ok tt) in
        let eo : outputs (es ++ ((step w end).event ∷ [])) ≡ outputs es = rw end_event (snoc_out es ev ∙ append-nil (outputs es)) in
        moved_on es w false [] ls outs a end true [] ls outs end_left (ap (λ (z : List Words). z ++ []) end_rights) (rw (eo, end_left) a.waits) a.room
        (rw end_event (snoc_ended es ev ∙ rw a.ended refl)) (rw end_event (snoc_done es ev ∙ or-false (node_done es) ∙ a.undone)) tt a.codes

    pub end_held : held_now (es ++ ((step w end).event ∷ [])) (step w end).world ≡ held_now es w
    end_held = let p : (step w end).world.join.pruned ≡ w.join.pruned = ap (λ s. s.world.join.pruned) end_step in rw (p, end_rights) refl
