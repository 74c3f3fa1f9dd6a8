-- From a fresh join: all left frames waiting, right ended where there is no right frame, and then the rounds. Assumes nothing.
use Rattle.std.specs.Prelude.{Ok}
use mathlib.Core.Path.{◌≡◌, refl, sym, ap, ◌∙◌}
use mathlib.Core.Bool.{true, false}
use mathlib.Core.List.{List, [], ◌∷◌, ◌++◌, append-nil, append_assoc, map}
use Prim.Native.Nat.{ℕ, zero, suc, ◌+◌, ◌≤◌}
use native.Mathlib.Omega.{arith}
use borrow.Author.Tests.{le-ltb}
use lib.ListN.{length, drop, length-append, length-map}
use Rattle.callrules.specs.Judged.{left_judged}
use Rattle.frames.specs.Cells.{Rows, Words}
use Rattle.frames.specs.Frame.{is_frame, frame_rows}
use Rattle.order.specs.options.Options.{columns, right_columns, refused_options}
use Rattle.order.specs.Order.{sorted}
use Rattle.order.specs.Listed.{lacks_code}
use Rattle.order.specs.declared.options.Options.{Options}
use Rattle.order.proofs.SortedLaws.{sorted_cut}
use Rattle.order.proofs.ListedLaws.{lacks_parts}
use Rattle.buffer.specs.area.Area.{capacity}
use Rattle.frames.specs.outcomes.Answers.{is_running}
use Rattle.node.specs.Calls.{left_answer, left_call, queued}
use Rattle.lists.specs.Lists.{Call, left, end, Event, on_left, on_end, World, start, step, events, final, right_in, left_frames, right_frames, rows_in, output_in, outputs, back_to_back, is_right_ended, left_ended, node_done, done_after, done_by, turn_in}
use Rattle.lists.proofs.ListLaws.{rows_in_append, words_append, final_append, left_ended_append}
use Rattle.lists.proofs.Stock.{Frames, waiting_length}
use Rattle.lists.proofs.Invariant.{Inv, good}
use Rattle.lists.proofs.Turned.{turned_sorted}
use Rattle.lists.proofs.Steps.{SoundAt, inv_step, sound_step, inv_start, sound_start}
use Rattle.schedules.specs.plan.Schedule.{end_if, rounds, schedule, no_room_right}
use Rattle.planning.specs.declared.Figures.{Figures}
use Rattle.planning.specs.Plan.{plan_from, plan}
use Rattle.schedules.specs.plan.Plan.{AllFrames, Planned, figures, Holds, Plans}
use Rattle.schedules.proofs.plan.EventLaws.{snoc_left, snoc_right, snoc_out, snoc_ended, snoc_done}
use Rattle.schedules.proofs.plan.Follow.{At, held_now, end_event, end_at}
use Rattle.schedules.proofs.plan.Rounds.{each_length, same_figures, adding, before, meets_later, ResultOf, all_rounds}

all_frames : (c : ℕ) (fs : List Words) → AllFrames c fs → Frames c fs
all_frames c [] h = tt
all_frames c (f ∷ fs) h = (h.0, all_frames c fs h.1)

dropped_none : (n : ℕ) (rs : Rows) → rs ≡ [] → drop n rs ≡ []
dropped_none zero rs e = e
dropped_none (suc n) rs e = rw e refl

module _ (o : Options) (l r : Words) (allowed : refused_options o ≡ false) where
  -- The left frames `done` wait, and nothing else has come.
  pub record Queued (es : List Event) (w : World) (done : List Words) : Type 0 where
    pub inv : Inv o l r es w
    pub sound : SoundAt o es w
    pub lefts : left_frames es ≡ done
    pub rights : right_frames es ≡ []
    pub outs : outputs es ≡ []
    pub unclosed : is_right_ended es ≡ false
    pub undone : node_done es ≡ false
    pub unended : left_ended es ≡ false

  -- A call that is no turn and no right frame, where no row is held.
  quiet_on : (w : World) (cl : Call) (cs : List Call) (e : Event) (p : Figures) (n : ℕ) → (step w cl).event ≡ e → no_room_right e ≡ false → turn_in e ≡ [] → right_in e ≡ [] → output_in e ≡ [] → w.join.held ≡ 0
      → ResultOf o l r allowed (step w cl).world cs p n → ResultOf o l r allowed w (cl ∷ cs) p n
  quiet_on w cl cs e p n q u t g i h ih = record {
    fit = λ b. same_figures w (cl ∷ cs) (adding w e p) p (length (output_in e) + n) n (before w cl cs e p n q u (ih.fit b)) (omega arith) (rw t (omega arith)) (rw g (omega arith)) (rw i (omega arith));
    short = λ b. meets_later w cl cs (ih.short b);
  }

  module _ (es : List Event) (w : World) (done : List Words) (a : Queued es w done) where
    none_held : w.join.held ≡ 0
    unfolding rows_in
    none_held = let z : length (rows_in (right_columns o) (right_frames es)) ≡ 0 = rw a.rights refl in omega (arith, a.inv.stock.rows)

    module _ (f : Words) (frame : is_frame (columns o) f ≡ true) (codes : lacks_code o (frame_rows (columns o) f) ≡ false) (sl : sorted o (rows_in (columns o) (done ++ (f ∷ []))) ≡ true) (room : length (back_to_back done) + length f ≤ length l) where
      running : is_running w.join.state ≡ true
      running = a.inv.flags.running ∙ rw (a.unended, a.undone) refl

      unfailed : w.join.failed ≡ false
      unfolding rows_in sorted
      unfailed =
          let s : sorted o (rows_in (columns o) (left_frames es)) ≡ true = rw a.lefts (sorted_cut o (rows_in (columns o) done) (rows_in (columns o) (f ∷ [])) (rw (← rows_in_append (columns o) done (f ∷ [])) sl)).0 in
          (a.sound (turned_sorted o (left_frames es) (outputs es) s) (rw a.rights refl)).unfailed s

      waiting_words : w.join.queue_words ≡ length (back_to_back done)
      waiting_words =
          sym (waiting_length o l r (left_frames es) (right_frames es) (outputs es) w.join w.left w.right a.inv.stock)
          ∙ ap length a.inv.stock.waits
          ∙ rw (a.outs, a.lefts) refl

      left_answers : left_answer w.join w.left w.right f ≡ Ok tt
      unfolding left_judged
      left_answers =
          rw (good o l r allowed es w a.inv, unfailed, running, a.inv.stock.options, frame, codes, le-ltb (length w.left) (w.join.queue_words + length f) (omega (arith, a.inv.stock.left_length, waiting_words))) refl

      left_event : (step w (left f)).event ≡ on_left f (Ok tt)
      unfolding step left_call queued
      left_event = rw (left_answers, left_call) refl

      queued_next : Queued (es ++ ((step w (left f)).event ∷ [])) (step w (left f)).world (done ++ (f ∷ []))
      unfolding done_by left_ended
      queued_next =
          let ev = on_left f (Ok tt) in
          record {
            inv = inv_step o l r allowed es w a.inv (left f);
            sound = sound_step o l r allowed es w a.inv a.sound (left f);
            lefts = rw left_event (snoc_left es ev ∙ rw a.lefts refl);
            rights = rw left_event (snoc_right es ev ∙ rw a.rights refl);
            outs = rw left_event (snoc_out es ev ∙ rw a.outs refl);
            unclosed = rw left_event (snoc_ended es ev ∙ rw a.unclosed refl);
            undone = rw left_event (snoc_done es ev ∙ rw a.undone refl);
            unended = rw left_event (left_ended_append es (ev ∷ []) ∙ rw a.unended refl);
          }

  room_first : (done : List Words) (f : Words) (todo : List Words) → length (back_to_back (done ++ (f ∷ todo))) ≤ length l → length (back_to_back done) + length f ≤ length l
  unfolding back_to_back
  room_first done f todo room =
      let n = ap length (words_append done (f ∷ todo)) ∙ length-append (back_to_back done) (f ++ back_to_back todo) in
      let m = length-append f (back_to_back todo) in
      omega (arith, room, n, m)

  -- All left frames, one after the other: they wait, and what comes behind them has the same figures.
  pub record AllQueued (es : List Event) (w : World) (done todo : List Words) : Type 0 where
    pub wait : Queued (es ++ events w (map left todo)) (final w (map left todo)) (done ++ todo)
    pub same : (cs : List Call) (p : Figures) (n : ℕ) → ResultOf o l r allowed (final w (map left todo)) cs p n → ResultOf o l r allowed w (map left todo ++ cs) p n

  queue_all : (todo : List Words) (es : List Event) (w : World) (done : List Words) → Queued es w done → Frames (columns o) todo → lacks_code o (rows_in (columns o) todo) ≡ false → sorted o (rows_in (columns o) (done ++ todo)) ≡ true
      → length (back_to_back (done ++ todo)) ≤ length l → AllQueued es w done todo
  unfolding final events rows_in
  queue_all [] es w done a fr lc s room = record { wait = rw (append-nil done, append-nil es) a; same = λ cs p n h. h }
  queue_all (f ∷ todo) es w done a fr lc s room =
      let k = lacks_parts o (frame_rows (columns o) f) (rows_in (columns o) todo) lc in
      let e : (done ++ (f ∷ [])) ++ todo ≡ done ++ (f ∷ todo) = append_assoc done (f ∷ []) todo in
      let sn = (sorted_cut o (rows_in (columns o) (done ++ (f ∷ []))) (rows_in (columns o) todo) (rw (← rows_in_append (columns o) (done ++ (f ∷ [])) todo, e) s)).0 in
      let rn : length (back_to_back done) + length f ≤ length l = room_first done f todo room in
      let q = queue_all todo (es ++ ((step w (left f)).event ∷ [])) (step w (left f)).world (done ++ (f ∷ [])) (queued_next es w done a f fr.0 k.0 sn rn) fr.1 k.1 (rw e s) (rw e room) in
      record {
        wait = rw (← e) (rw (append_assoc es ((step w (left f)).event ∷ []) (events (step w (left f)).world (map left todo))) at q.wait);
        same = λ cs p n h. quiet_on w (left f) (map left todo ++ cs) (on_left f (Ok tt)) p n (left_event es w done a f fr.0 k.0 sn rn) refl refl refl refl (none_held es w done a) (q.same cs p n h);
      }

  queued_start : Queued [] (start o l r) []
  unfolding left_frames right_frames outputs is_right_ended done_after left_ended
  queued_start = record { inv = inv_start o l r allowed; sound = sound_start o l r allowed; lefts = refl; rights = refl; outs = refl; unclosed = refl; undone = refl; unended = refl }

  -- ---- then the rounds
  module _ (lefts rights outs : List Words) (h : Planned o l lefts rights outs) where
    pub all_queued : AllQueued [] (start o l r) [] lefts
    all_queued = queue_all lefts [] (start o l r) [] queued_start (all_frames (columns o) lefts h.left_frames) h.left_codes h.left_sorted h.left_room

    abbrev pub es₀ : List Event
    es₀ = events (start o l r) (map left lefts)

    abbrev pub w₀ : World
    w₀ = final (start o l r) (map left lefts)

    pub q₀ : Queued es₀ w₀ lefts
    q₀ = all_queued.wait

    pub at_first : At o l r allowed es₀ w₀ false rights lefts outs
    at_first = record {
      inv = q₀.inv;
      sound = q₀.sound;
      sl = rw q₀.lefts h.left_sorted;
      sr = rw q₀.rights h.right_sorted;
      waits = rw (q₀.outs, q₀.lefts) refl;
      room = h.outputs;
      ended = q₀.unclosed;
      undone = q₀.undone;
      few = rw q₀.rights h.few_rights;
      frames = all_frames (right_columns o) rights h.right_frames;
      codes = h.right_codes;
      short = rw q₀.lefts h.few_lefts;
    }

    pub none_yet : (es : List Event) (w : World) → right_frames es ≡ [] → held_now o l r allowed es w ≡ []
    unfolding rows_in
    none_yet es w e = dropped_none w.join.pruned (rows_in (right_columns o) (right_frames es)) (rw e refl)

  -- Where there are right frames, and where there is none.
  first_rounds : (lefts : List Words) (rights outs : List Words) (h : Planned o l lefts rights outs)
      → ResultOf o l r allowed (final (start o l r) (map left lefts)) (end_if rights ++ rounds (length lefts + length rights) (final (final (start o l r) (map left lefts)) (end_if rights)) rights outs)
      (plan_from (length lefts + length rights) o [] (map (frame_rows (right_columns o)) rights) (map (frame_rows (columns o)) lefts)) (length outs)
  unfolding final
  first_rounds lefts [] outs h =
      let a = at_first lefts [] outs h in
      let e = es₀ lefts [] outs h in
      let w = w₀ lefts [] outs h in
      let q = q₀ lefts [] outs h in
      let ev = end_event o l r allowed e w lefts outs a in
      let er : right_frames (e ++ ((step w end).event ∷ [])) ≡ [] = rw ev (snoc_right e (on_end (Ok tt)) ∙ rw q.rights refl) in
      let i = all_rounds o l r allowed (length lefts + 0) (e ++ ((step w end).event ∷ [])) (step w end).world true [] lefts outs (end_at o l r allowed e w lefts outs a) refl (omega arith) in
      let k = rw (none_yet lefts [] outs h (e ++ ((step w end).event ∷ [])) (step w end).world er) at i in
      quiet_on w end (rounds (length lefts + 0) (step w end).world [] outs) (on_end (Ok tt)) (plan_from (length lefts + 0) o [] [] (map (frame_rows (columns o)) lefts)) (length outs) ev refl refl refl refl (none_held e w lefts q) k
  first_rounds lefts (f ∷ fs) outs h =
      let a = at_first lefts (f ∷ fs) outs h in
      let e = es₀ lefts (f ∷ fs) outs h in
      let w = w₀ lefts (f ∷ fs) outs h in
      let i = all_rounds o l r allowed (length lefts + suc (length fs)) e w false (f ∷ fs) lefts outs a refl (omega arith) in
      rw (none_yet lefts (f ∷ fs) outs h e w (q₀ lefts (f ∷ fs) outs h).rights) at i

  whole : (lefts rights outs : List Words) (h : Planned o l lefts rights outs) → ResultOf o l r allowed (start o l r) (schedule o l r lefts rights outs) (figures o lefts rights) (length outs)
  unfolding schedule plan
  whole lefts rights outs h =
      rw (append_assoc (map left lefts) (end_if rights) (rounds (length lefts + length rights) (final (start o l r) (map left lefts ++ end_if rights)) rights outs), final_append (start o l r) (map left lefts) (end_if rights), length-map lefts (frame_rows (columns o)), length-map rights (frame_rows (right_columns o)))
      ((all_queued lefts rights outs h).same _ _ _ (first_rounds lefts rights outs h))

holds : (o : Options) (l r : Words) (lefts rights outs : List Words) (h : Planned o l lefts rights outs) → (figures o lefts rights).rows ≤ capacity (right_columns o) r → Holds o l r lefts rights outs (figures o lefts rights)
holds o l r lefts rights outs h b =
    let f = (whole o l r h.allowed lefts rights outs h).fit b in
    record { unrefused = f.unrefused; written = f.written ∙ sym (each_length h.outputs); rows = f.most; turns = f.turns; rights_taken = f.rights }

pub plans : Plans
plans = record { enough = holds; short = λ o l r lefts rights outs h b. (whole o l r h.allowed lefts rights outs h).short b }
