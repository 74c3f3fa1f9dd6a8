-- Where the schedule ends: every left frame is written, over the right frames that it took; so it writes the whole-table matches. Assumes nothing.
use Rattle.frames.specs.declared.outcomes.Turn.TheVariants.{Wrote, WantsRight}
use Rattle.std.specs.Prelude.{Ok}
use mathlib.Core.Path.{◌≡◌, refl, sym, ap, ◌∙◌}
use mathlib.Core.Bool.{Bool, true, false}
use mathlib.Core.List.{List, [], ◌∷◌, ◌++◌, append-nil, append_assoc, map}
use Prim.Native.Nat.{ℕ, zero, suc, ◌+◌, ◌≤◌}
use native.Mathlib.Omega.{arith}
use borrow.Author.Tests.{le-ltb}
use lib.ListN.{length, take, length-append, length-map, take-append-drop}
use Rattle.frames.specs.Cells.{Rows, Words}
use Rattle.frames.specs.Frame.{row_count, frame_rows}
use Rattle.order.specs.options.Options.{columns, right_columns, answer_columns, refused_options}
use Rattle.order.specs.declared.options.Options.{Options}
use Rattle.order.specs.Order.{sorted}
use Rattle.frames.proofs.FrameLaws.{frame_rows_lem}
use Rattle.searching.specs.Reach.{need_more}
use Rattle.node.specs.Calls.{right_answer, turn_answer}
use Rattle.lists.specs.Lists.{Call, left, right, end, turn, Event, on_end, World, start, step, events, final, left_frames, right_frames, is_right_ended, rows_in, outputs, matches_in}
use Rattle.lists.specs.WholeTables.{due_over}
use Rattle.lists.proofs.ListLaws.{events_append, final_append, rows_in_append}
use Rattle.lists.proofs.WholeTableTheorem.{whole_table_theorem}
use Rattle.schedules.specs.plan.Schedule.{end_if, rounds, schedule}
use Rattle.planning.specs.declared.Figures.{Figures}
use Rattle.planning.specs.Plan.{kept_after, plan_from, plan}
use Rattle.planning.proofs.PlanLaws.{plan_takes, plan_turns, plan_last, plan_least}
use Rattle.schedules.specs.plan.Plan.{Planned}
use Rattle.schedules.specs.plan.Written.{Writes}
use Rattle.schedules.proofs.plan.EventLaws.{snoc_right}
use Rattle.schedules.proofs.plan.Follow.{At, held_now, held_count, turn_answers, wants_world, wants_left, wants_rights, wants_at, wants_held, wrote_left, wrote_rights, wrote_at, wrote_held, right_answers, took_left, took_rights, took_at, took_held, end_event, end_left, end_rights, end_at, end_held}
use Rattle.schedules.proofs.plan.Rounds.{each_length, is_nil, cap, F, G, rounds_wrote, rounds_wants}
use Rattle.schedules.proofs.plan.Planned.{at_first, es₀, w₀, q₀, none_yet}

module _ (o : Options) (l r : Words) (allowed : refused_options o ≡ false) where
  -- After the calls no left frame waits; the frames `over` are the right frames that were never taken.
  pub record Ended (es : List Event) (w : World) (fs : List Words) (cs : List Call) : Type 0 where
    pub closed : Bool
    pub over : List Words
    pub at_end : At o l r allowed (es ++ events w cs) (final w cs) closed over [] []
    pub all_taken : closed ≡ is_nil over
    pub same_left : left_frames (es ++ events w cs) ≡ left_frames es
    pub same_right : right_frames (es ++ events w cs) ++ over ≡ right_frames es ++ fs

  ended_before : (es : List Event) (w : World) (fs : List Words) (cl : Call) (cs : List Call) (fs' : List Words) → left_frames (es ++ ((step w cl).event ∷ [])) ≡ left_frames es
      → right_frames (es ++ ((step w cl).event ∷ [])) ++ fs' ≡ right_frames es ++ fs → Ended (es ++ ((step w cl).event ∷ [])) (step w cl).world fs' cs → Ended es w fs (cl ∷ cs)
  unfolding events final
  ended_before es w fs cl cs fs' el er d =
      let e = append_assoc es ((step w cl).event ∷ []) (events (step w cl).world cs) in
      record {
        closed = d.closed;
        over = d.over;
        at_end = rw e at d.at_end;
        all_taken = d.all_taken;
        same_left = rw e at d.same_left ∙ el;
        same_right = rw e at d.same_right ∙ er;
      }

  abbrev pub Hope : ℕ → Type 0
  Hope fuel =
      (es : List Event) (w : World) (e : Bool) (fs ls outs : List Words) → At o l r allowed es w e fs ls outs → e ≡ is_nil fs → length ls + length fs ≤ fuel
      → (plan_from fuel o (held_now o l r allowed es w) (map (G o l r allowed) fs) (map (F o l r allowed) ls)).rows ≤ cap o l r allowed → Ended es w fs (rounds fuel w fs outs)

  writes : (fuel : ℕ) → Hope fuel → (es : List Event) (w : World) (e : Bool) (fs : List Words) (f : Words) (ls : List Words) (out : Words) (outs : List Words) (a : At o l r allowed es w e fs (f ∷ ls) (out ∷ outs))
      → e ≡ is_nil fs → suc (length ls) + length fs ≤ suc fuel → turn_answer w.join w.left w.right out ≡ Ok (Wrote w.join.sequence)
      → (plan_from fuel o (kept_after o (frame_rows (columns o) f) (held_now o l r allowed es w)) (map (G o l r allowed) fs) (map (F o l r allowed) ls)).rows ≤ cap o l r allowed
      → Ended es w fs (rounds (suc fuel) w fs (out ∷ outs))
  writes fuel ih es w e fs f ls out outs a n b q k =
      rw (rounds_wrote fuel w fs out outs w.join.sequence q)
      (ended_before es w fs (turn out) (rounds fuel (step w (turn out)).world fs outs) fs (wrote_left o l r allowed es w e fs f ls out outs a q) (ap (λ (z : List Words). z ++ fs) (wrote_rights o l r allowed es w e fs f ls out outs a q))
      (ih (es ++ ((step w (turn out)).event ∷ [])) (step w (turn out)).world e fs ls outs (wrote_at o l r allowed es w e fs f ls out outs a q) n (omega arith) (rw (wrote_held o l r allowed es w e fs f ls out outs a q) k)))

  -- A turn that wants right, and the frame that it gets.
  module _ (fuel : ℕ) (es : List Event) (w : World) (g : Words) (gs : List Words) (f : Words) (ls : List Words) (out : Words) (outs : List Words) (a : At o l r allowed es w false (g ∷ gs) (f ∷ ls) (out ∷ outs))
      (q : turn_answer w.join w.left w.right out ≡ Ok WantsRight)
      (k : (plan_from fuel o (held_now o l r allowed es w ++ frame_rows (right_columns o) g) (map (G o l r allowed) gs) (frame_rows (columns o) f ∷ map (F o l r allowed) ls)).rows ≤ cap o l r allowed) where
    abbrev es₁ : List Event
    es₁ = es ++ ((step w (turn out)).event ∷ [])

    abbrev u₁ : World
    u₁ = (step w (turn out)).world

    abbrev es₂ : List Event
    es₂ = es₁ ++ ((step u₁ (right g)).event ∷ [])

    abbrev u₂ : World
    u₂ = (step u₁ (right g)).world

    a₁ : At o l r allowed es₁ u₁ false (g ∷ gs) (f ∷ ls) (out ∷ outs)
    a₁ = wants_at o l r allowed es w false (g ∷ gs) f ls out outs a q

    fits : u₁.join.held + row_count g ≤ cap o l r allowed
    fits =
        let hs = held_now o l r allowed es w in
        let h₁ : u₁.join.held ≡ w.join.held = ap (λ (z : World). z.join.held) (wants_world o l r allowed es w false (g ∷ gs) f ls out outs a q) in
        omega (arith, k, plan_least fuel o (hs ++ frame_rows (right_columns o) g) (map (G o l r allowed) gs) (frame_rows (columns o) f ∷ map (F o l r allowed) ls), length-append hs (frame_rows (right_columns o) g), held_count o l r allowed es w false (g ∷ gs) (f ∷ ls) (out ∷ outs) a, frame_rows_lem (right_columns o) g a.frames.0, h₁)

    taken : right_answer u₁.join u₁.left u₁.right g ≡ Ok tt
    taken = right_answers o l r allowed es₁ u₁ g gs (f ∷ ls) (out ∷ outs) a₁ ∙ rw (le-ltb (cap o l r allowed) (u₁.join.held + row_count g) fits) refl

    a₂ : At o l r allowed es₂ u₂ false gs (f ∷ ls) (out ∷ outs)
    a₂ = took_at o l r allowed es₁ u₁ g gs (f ∷ ls) (out ∷ outs) a₁ taken

    held₂ : held_now o l r allowed es₂ u₂ ≡ held_now o l r allowed es w ++ frame_rows (right_columns o) g
    held₂ = took_held o l r allowed es₁ u₁ g gs (f ∷ ls) (out ∷ outs) a₁ taken ∙ ap (λ (z : Rows). z ++ frame_rows (right_columns o) g) (wants_held o l r allowed es w false (g ∷ gs) f ls out outs a q)

    both : (cs : List Call) → Ended es₂ u₂ gs cs → Ended es w (g ∷ gs) (turn out ∷ right g ∷ cs)
    both cs d =
        ended_before es w (g ∷ gs) (turn out) (right g ∷ cs) (g ∷ gs) (wants_left o l r allowed es w false (g ∷ gs) f ls out outs a q) (ap (λ (z : List Words). z ++ (g ∷ gs)) (wants_rights o l r allowed es w false (g ∷ gs) f ls out outs a q))
        (ended_before es₁ u₁ (g ∷ gs) (right g) cs gs (took_left o l r allowed es₁ u₁ g gs (f ∷ ls) (out ∷ outs) a₁ taken)
        (ap (λ (z : List Words). z ++ gs) (took_rights o l r allowed es₁ u₁ g gs (f ∷ ls) (out ∷ outs) a₁ taken) ∙ append_assoc (right_frames es₁) (g ∷ []) gs) d)

  takes : (fuel : ℕ) → Hope fuel → (es : List Event) (w : World) (g : Words) (gs : List Words) (f : Words) (ls : List Words) (out : Words) (outs : List Words) (a : At o l r allowed es w false (g ∷ gs) (f ∷ ls) (out ∷ outs))
      → suc (length ls) + suc (length gs) ≤ suc fuel → (q : turn_answer w.join w.left w.right out ≡ Ok WantsRight)
      → (plan_from fuel o (held_now o l r allowed es w ++ frame_rows (right_columns o) g) (map (G o l r allowed) gs) (frame_rows (columns o) f ∷ map (F o l r allowed) ls)).rows ≤ cap o l r allowed
      → Ended es w (g ∷ gs) ((turn out ∷ right g ∷ end_if gs) ++ rounds fuel (final w (turn out ∷ right g ∷ end_if gs)) gs (out ∷ outs))
  unfolding final
  takes fuel ih es w g [] f ls out outs a b q k =
      let x₂ = a₂ fuel es w g [] f ls out outs a q k in
      let e₂ = es₂ fuel es w g [] f ls out outs a q k in
      let z₂ = u₂ fuel es w g [] f ls out outs a q k in
      let hd = end_held o l r allowed e₂ z₂ (f ∷ ls) (out ∷ outs) x₂ ∙ held₂ fuel es w g [] f ls out outs a q k in
      let d = ih (e₂ ++ ((step z₂ end).event ∷ [])) (step z₂ end).world true [] (f ∷ ls) (out ∷ outs) (end_at o l r allowed e₂ z₂ (f ∷ ls) (out ∷ outs) x₂) refl (omega arith) (rw hd k) in
      both fuel es w g [] f ls out outs a q k (end ∷ rounds fuel (step z₂ end).world [] (out ∷ outs))
      (ended_before e₂ z₂ [] end (rounds fuel (step z₂ end).world [] (out ∷ outs)) [] (end_left o l r allowed e₂ z₂ (f ∷ ls) (out ∷ outs) x₂) (ap (λ (z : List Words). z ++ []) (end_rights o l r allowed e₂ z₂ (f ∷ ls) (out ∷ outs) x₂)) d)
  takes fuel ih es w g (m ∷ gs) f ls out outs a b q k =
      let x₂ = a₂ fuel es w g (m ∷ gs) f ls out outs a q k in
      let e₂ = es₂ fuel es w g (m ∷ gs) f ls out outs a q k in
      let z₂ = u₂ fuel es w g (m ∷ gs) f ls out outs a q k in
      both fuel es w g (m ∷ gs) f ls out outs a q k (rounds fuel z₂ (m ∷ gs) (out ∷ outs))
      (ih e₂ z₂ false (m ∷ gs) (f ∷ ls) (out ∷ outs) x₂ refl (omega arith) (rw (held₂ fuel es w g (m ∷ gs) f ls out outs a q k) k))

  one_more : (fuel : ℕ) → Hope fuel → (es : List Event) (w : World) (g : Words) (gs : List Words) (f : Words) (ls : List Words) (out : Words) (outs : List Words) → At o l r allowed es w false (g ∷ gs) (f ∷ ls) (out ∷ outs)
      → suc (length ls) + suc (length gs) ≤ suc fuel
      → (plan_from (suc fuel) o (held_now o l r allowed es w) (frame_rows (right_columns o) g ∷ map (G o l r allowed) gs) (frame_rows (columns o) f ∷ map (F o l r allowed) ls)).rows ≤ cap o l r allowed
      → Ended es w (g ∷ gs) (rounds (suc fuel) w (g ∷ gs) (out ∷ outs))
  one_more fuel ih es w g gs f ls out outs a b k = by (need_more o (frame_rows (columns o) f) (held_now o l r allowed es w)) refl
    where
      by : (t : Bool) → need_more o (frame_rows (columns o) f) (held_now o l r allowed es w) ≡ t → Ended es w (g ∷ gs) (rounds (suc fuel) w (g ∷ gs) (out ∷ outs))
      by true t =
          let q : turn_answer w.join w.left w.right out ≡ Ok WantsRight = turn_answers o l r allowed es w false (g ∷ gs) f ls out outs a ∙ rw t refl in
          let p = ap (λ (z : Figures). z.rows) (plan_takes fuel o (held_now o l r allowed es w) (frame_rows (right_columns o) g) (map (G o l r allowed) gs) (frame_rows (columns o) f) (map (F o l r allowed) ls) t) in
          rw (rounds_wants fuel w g gs out outs q) (takes fuel ih es w g gs f ls out outs a b q (omega (arith, p, k)))
      by false t =
          let q : turn_answer w.join w.left w.right out ≡ Ok (Wrote w.join.sequence) = turn_answers o l r allowed es w false (g ∷ gs) f ls out outs a ∙ rw t refl in
          let p = ap (λ (z : Figures). z.rows) (plan_turns fuel o (held_now o l r allowed es w) (frame_rows (right_columns o) g) (map (G o l r allowed) gs) (frame_rows (columns o) f) (map (F o l r allowed) ls) t) in
          writes fuel ih es w false (g ∷ gs) f ls out outs a refl b q (omega (arith, p, k))

  none_more : (fuel : ℕ) → Hope fuel → (es : List Event) (w : World) (f : Words) (ls : List Words) (out : Words) (outs : List Words) → At o l r allowed es w true [] (f ∷ ls) (out ∷ outs)
      → suc (length ls) + 0 ≤ suc fuel → (plan_from (suc fuel) o (held_now o l r allowed es w) [] (frame_rows (columns o) f ∷ map (F o l r allowed) ls)).rows ≤ cap o l r allowed
      → Ended es w [] (rounds (suc fuel) w [] (out ∷ outs))
  none_more fuel ih es w f ls out outs a b k =
      let q : turn_answer w.join w.left w.right out ≡ Ok (Wrote w.join.sequence) = turn_answers o l r allowed es w true [] f ls out outs a in
      let p = ap (λ (z : Figures). z.rows) (plan_last fuel o (held_now o l r allowed es w) (frame_rows (columns o) f) (map (F o l r allowed) ls)) in
      writes fuel ih es w true [] f ls out outs a refl b q (omega (arith, p, k))

  nothing : (fuel : ℕ) (es : List Event) (w : World) (e : Bool) (fs : List Words) → At o l r allowed es w e fs [] [] → e ≡ is_nil fs → Ended es w fs (rounds fuel w fs [])
  unfolding rounds events final
  nothing zero es w e fs a n = record { closed = e; over = fs; at_end = rw (append-nil es) a; all_taken = n; same_left = rw (append-nil es) refl; same_right = rw (append-nil es) refl }
  nothing (suc fuel) es w e fs a n = record { closed = e; over = fs; at_end = rw (append-nil es) a; all_taken = n; same_left = rw (append-nil es) refl; same_right = rw (append-nil es) refl }

  at_none : Hope zero
  at_none es w e fs [] [] a n b k = nothing zero es w e fs a n
  at_none es w e fs [] (out ∷ outs) a n b k = absurd (omega (arith, each_length a.room))
  at_none es w e fs (f ∷ ls) outs a n b k = absurd (omega arith)

  at_more : (fuel : ℕ) → Hope fuel → Hope (suc fuel)
  at_more fuel ih es w e fs [] [] a n b k = nothing (suc fuel) es w e fs a n
  at_more fuel ih es w e fs [] (out ∷ outs) a n b k = absurd (omega (arith, each_length a.room))
  at_more fuel ih es w e fs (f ∷ ls) [] a n b k = absurd (omega (arith, each_length a.room))
  at_more fuel ih es w e [] (f ∷ ls) (out ∷ outs) a n b k = none_more fuel ih es w f ls out outs (rw n at a) b k
  at_more fuel ih es w e (g ∷ gs) (f ∷ ls) (out ∷ outs) a n b k = one_more fuel ih es w g gs f ls out outs (rw n at a) b k

  pub all_end : (fuel : ℕ) → Hope fuel
  all_end zero = at_none
  all_end (suc fuel) = at_more fuel (all_end fuel)

  -- ---- from a fresh join
  from_first : (lefts : List Words) (rights outs : List Words) (h : Planned o l lefts rights outs)
      → (plan_from (length lefts + length rights) o [] (map (frame_rows (right_columns o)) rights) (map (frame_rows (columns o)) lefts)).rows ≤ cap o l r allowed
      → Ended (es₀ o l r allowed lefts rights outs h) (w₀ o l r allowed lefts rights outs h) rights
      (end_if rights ++ rounds (length lefts + length rights) (final (w₀ o l r allowed lefts rights outs h) (end_if rights)) rights outs)
  unfolding final
  from_first lefts [] outs h k =
      let a = at_first o l r allowed lefts [] outs h in
      let e = es₀ o l r allowed lefts [] outs h in
      let w = w₀ o l r allowed lefts [] outs h in
      let ev = end_event o l r allowed e w lefts outs a in
      let er : right_frames (e ++ ((step w end).event ∷ [])) ≡ [] = rw ev (snoc_right e (on_end (Ok tt)) ∙ rw (q₀ o l r allowed lefts [] outs h).rights refl) in
      let n = none_yet o l r allowed lefts [] outs h (e ++ ((step w end).event ∷ [])) (step w end).world er in
      ended_before e w [] end (rounds (length lefts + 0) (step w end).world [] outs) [] (end_left o l r allowed e w lefts outs a) (ap (λ (z : List Words). z ++ []) (end_rights o l r allowed e w lefts outs a))
      (all_end (length lefts + 0) (e ++ ((step w end).event ∷ [])) (step w end).world true [] lefts outs (end_at o l r allowed e w lefts outs a) refl (omega arith) (rw n k))
  from_first lefts (f ∷ fs) outs h k =
      let e = es₀ o l r allowed lefts (f ∷ fs) outs h in
      let w = w₀ o l r allowed lefts (f ∷ fs) outs h in
      let n = none_yet o l r allowed lefts (f ∷ fs) outs h e w (q₀ o l r allowed lefts (f ∷ fs) outs h).rights in
      all_end (length lefts + suc (length fs)) e w false (f ∷ fs) lefts outs (at_first o l r allowed lefts (f ∷ fs) outs h) refl (omega arith) (rw n k)

  -- ---- what stands written at such an end
  -- What is written is settled: `settled` of the whole-table theorem, told of events.
  abbrev SettledAt : List Event → Type 0
  SettledAt es =
      sorted o (rows_in (columns o) (take (length (outputs es)) (left_frames es))) ≡ true → (more : Rows) → (is_right_ended es ≡ true → more ≡ []) → sorted o (rows_in (right_columns o) (right_frames es) ++ more) ≡ true
      → matches_in (answer_columns o) (outputs es) ≡ map (due_over o (rows_in (right_columns o) (right_frames es) ++ more)) (rows_in (columns o) (take (length (outputs es)) (left_frames es)))

  module _ (es : List Event) (w : World) (e : Bool) (over L R : List Words) (a : At o l r allowed es w e over [] []) (n : e ≡ is_nil over) (el : left_frames es ≡ L) (er : right_frames es ++ over ≡ R) where
    none_over : (fs : List Words) → is_nil fs ≡ true → rows_in (right_columns o) fs ≡ []
    unfolding rows_in
    none_over [] h = refl
    none_over (f ∷ fs) h = let z : ◌≡◌ {A = ℕ} 0 1 = cc in absurd (omega arith)

    all_rows : rows_in (right_columns o) (right_frames es) ++ rows_in (right_columns o) over ≡ rows_in (right_columns o) R
    all_rows = sym (rows_in_append (right_columns o) (right_frames es) over) ∙ ap (rows_in (right_columns o)) er

    every_left : take (length (outputs es)) (left_frames es) ≡ left_frames es
    every_left =
        let k = length (outputs es) in
        sym (append-nil (take k (left_frames es))) ∙ ap (λ (z : List Words). take k (left_frames es) ++ z) (sym a.waits) ∙ take-append-drop k (left_frames es)

    -- The right frames that were never taken may as well come behind those that were.
    written : SettledAt es → matches_in (answer_columns o) (outputs es) ≡ map (due_over o (rows_in (right_columns o) R)) (rows_in (columns o) L)
    written settled =
        settled (rw every_left a.sl) (rows_in (right_columns o) over) (λ h. none_over over (sym n ∙ sym a.ended ∙ h)) (rw (← rows_in_append (right_columns o) (right_frames es) over) a.sr)
        ∙ rw (all_rows, every_left, el) refl

pub writes_all : Writes
unfolding schedule plan
writes_all o l r lefts rights outs h k =
    let allowed = h.allowed in
    let e = es₀ o l r allowed lefts rights outs h in
    let w = w₀ o l r allowed lefts rights outs h in
    let cs = end_if rights ++ rounds (length lefts + length rights) (final w (end_if rights)) rights outs in
    let d = from_first o l r allowed lefts rights outs h (rw (length-map lefts (frame_rows (columns o)), length-map rights (frame_rows (right_columns o))) at k) in
    let q = q₀ o l r allowed lefts rights outs h in
    let same : events (start o l r) (schedule o l r lefts rights outs) ≡ e ++ events w cs =
    rw (append_assoc (map left lefts) (end_if rights) (rounds (length lefts + length rights) (final (start o l r) (map left lefts ++ end_if rights)) rights outs), final_append (start o l r) (map left lefts) (end_if rights), events_append (start o l r) (map left lefts) cs) in
    let settled : SettledAt o l r allowed (e ++ events w cs) = rw same at (whole_table_theorem o allowed l r (schedule o l r lefts rights outs)).settled in
    rw same (written o l r allowed (e ++ events w cs) (final w cs) d.closed d.over lefts rights d.at_end d.all_taken (d.same_left ∙ q.lefts) (d.same_right ∙ rw q.rights refl) settled)
