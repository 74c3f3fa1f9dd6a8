-- The rounds of the schedule have the figures of the plan, where there is room, and meet refusal 6 where there is less. Assumes nothing.
use Rattle.frames.specs.declared.outcomes.Turn.TheVariants.{Wrote, WantsRight}
use Rattle.std.specs.Prelude.{Ok, Err}
use mathlib.Core.Path.{◌≡◌, refl, sym, ap, ◌∙◌}
use mathlib.Core.Bool.{Bool, true, false, or-true}
use mathlib.Core.List.{List, [], ◌∷◌, ◌++◌, map}
use Prim.Native.Nat.{ℕ, zero, suc, ◌+◌, ◌≤◌, ◌<◌, max}
use native.Mathlib.Omega.{arith}
use native.Mathlib.Decide.{dec_lt}
use borrow.Author.Tests.{lt-ltb, le-ltb}
use lib.ListN.{length, length-append}
use Rattle.frames.specs.Cells.{Rows, Words}
use Rattle.frames.specs.Frame.{row_count, frame_rows}
use Rattle.order.specs.options.Options.{columns, right_columns, refused_options}
use Rattle.order.specs.declared.options.Options.{Options}
use Rattle.frames.proofs.FrameLaws.{frame_rows_lem}
use Rattle.buffer.specs.area.Area.{capacity}
use Rattle.searching.specs.Reach.{need_more}
use Rattle.frames.specs.declared.refusals.Refusal.TheVariants.{NoRoom}
use Rattle.node.specs.Calls.{right_answer, turn_answer, turned}
use Rattle.lists.specs.Lists.{Call, right, end, turn, Event, on_right, on_end, on_turn, World, step, events, final, right_in, right_frames, output_in, outputs, turn_in, turns_in}
use Rattle.lists.specs.WholeTables.{Each, ends, pairs}
use Rattle.schedules.specs.plan.Schedule.{end_if, rounds, most_held, no_room_right, meets_no_room}
use Rattle.planning.specs.declared.Figures.{Figures}
use Rattle.planning.specs.Plan.{rest, after_turn, after_taking, kept_after, plan_from}
use Rattle.planning.proofs.PlanLaws.{plan_takes, plan_turns, plan_least, plan_last}
use Rattle.schedules.proofs.plan.EventLaws.{most_least}
use Rattle.schedules.proofs.plan.Follow.{At, held_now, held_count, turn_answers, wants_event, wants_world, wants_at, wants_held, wrote_event, wrote_at, wrote_held, right_answers, refused_event, took_event, took_at, took_held, end_step, end_event, end_at, end_held}

pub each_length : {A B : Type 0} {P : A → B → Type 0} {xs : List A} {ys : List B} → Each P xs ys → length xs ≡ length ys
each_length ends = refl
each_length (pairs p q) = ap suc (each_length q)

-- ---- the figures of a list of calls that meets no refusal 6 on the right and writes n frames
pub record Follows (w : World) (cs : List Call) (p : Figures) (n : ℕ) : Type 0 where
  pub most : most_held w cs ≡ p.rows
  pub turns : length (turns_in (events w cs)) ≡ p.turns
  pub rights : length (right_frames (events w cs)) ≡ p.rights
  pub written : length (outputs (events w cs)) ≡ n
  pub unrefused : meets_no_room (events w cs) ≡ false

pub same_figures : (w : World) (cs : List Call) (p q : Figures) (n m : ℕ) → Follows w cs p n → p.rows ≡ q.rows → p.turns ≡ q.turns → p.rights ≡ q.rights → n ≡ m → Follows w cs q m
same_figures w cs p q n m f a b d e = record { most = f.most ∙ a; turns = f.turns ∙ b; rights = f.rights ∙ d; written = f.written ∙ e; unrefused = f.unrefused }

-- One call before them.
abbrev pub adding : World → Event → Figures → Figures
adding w e p = record { rows = max w.join.held p.rows; turns = length (turn_in e) + p.turns; rights = length (right_in e) + p.rights }

pub before : (w : World) (cl : Call) (cs : List Call) (e : Event) (p : Figures) (n : ℕ) → (step w cl).event ≡ e → no_room_right e ≡ false → Follows (step w cl).world cs p n
    → Follows w (cl ∷ cs) (adding w e p) (length (output_in e) + n)
unfolding events most_held turns_in right_frames outputs meets_no_room
before w cl cs e p n q u f =
    let es = events (step w cl).world cs in
    record {
      most = ap (max w.join.held) f.most;
      turns = rw q (length-append (turn_in e) (turns_in es) ∙ ap (λ (k : ℕ). length (turn_in e) + k) f.turns);
      rights = rw q (length-append (right_in e) (right_frames es) ∙ ap (λ (k : ℕ). length (right_in e) + k) f.rights);
      written = rw q (length-append (output_in e) (outputs es) ∙ ap (λ (k : ℕ). length (output_in e) + k) f.written);
      unrefused = rw (q, u) f.unrefused;
    }

pub meets_later : (w : World) (cl : Call) (cs : List Call) → meets_no_room (events (step w cl).world cs) ≡ true → meets_no_room (events w (cl ∷ cs)) ≡ true
unfolding events meets_no_room
meets_later w cl cs h = rw h (or-true (no_room_right (step w cl).event))

meets_here : (w : World) (f : Words) (cs : List Call) → (step w (right f)).event ≡ on_right f (Err NoRoom) → meets_no_room (events w (right f ∷ cs)) ≡ true
unfolding events meets_no_room
meets_here w f cs q = rw q refl

abbrev pub is_nil : List Words → Bool
is_nil [] = true
is_nil (f ∷ fs) = false

-- ---- the rounds, by the turn's answer
pub rounds_wrote : (fuel : ℕ) (w : World) (fs : List Words) (out : Words) (outs : List Words) (s : ℕ) → turn_answer w.join w.left w.right out ≡ Ok (Wrote s)
    → rounds (suc fuel) w fs (out ∷ outs) ≡ turn out ∷ rounds fuel (step w (turn out)).world fs outs
unfolding rounds
rounds_wrote fuel w [] out outs s q = rw (q, rounds) refl
rounds_wrote fuel w (f ∷ fs) out outs s q = rw (q, rounds) refl

pub rounds_wants : (fuel : ℕ) (w : World) (f : Words) (fs : List Words) (out : Words) (outs : List Words) → turn_answer w.join w.left w.right out ≡ Ok WantsRight
    → rounds (suc fuel) w (f ∷ fs) (out ∷ outs) ≡ (turn out ∷ right f ∷ end_if fs) ++ rounds fuel (final w (turn out ∷ right f ∷ end_if fs)) fs (out ∷ outs)
unfolding rounds
rounds_wants fuel w f fs out outs q = rw (q, rounds) refl

module _ (o : Options) (l r : Words) (allowed : refused_options o ≡ false) where
  abbrev pub cap : ℕ
  cap = capacity (right_columns o) r

  -- With room for the first figure the calls have the figures; with less they meet refusal 6.
  pub record ResultOf (w : World) (cs : List Call) (p : Figures) (n : ℕ) : Type 0 where
    pub fit : p.rows ≤ cap → Follows w cs p n
    pub short : cap < p.rows → meets_no_room (events w cs) ≡ true

  within : (es : List Event) (w : World) (e : Bool) (fs ls outs : List Words) → At o l r allowed es w e fs ls outs → w.join.held ≤ cap
  within es w e fs ls outs a = let s = a.inv.stock in let c : capacity (right_columns o) w.right ≡ cap = rw s.right_length refl in omega (arith, s.right_room, c)

  -- Nothing is left to write.
  none_left : (w : World) (held : Rows) → length held ≡ w.join.held → w.join.held ≤ cap → ResultOf w [] (rest held) 0
  unfolding events most_held turns_in right_frames outputs meets_no_room
  none_left w held h k = record { fit = λ b. record { most = sym h; turns = refl; rights = refl; written = refl; unrefused = refl }; short = λ b. absurd (omega arith) }

  -- A turn that writes.
  turns_on : (w : World) (out : Words) (cs : List Call) (held : Rows) (p : Figures) (n s : ℕ) (out' : Words) → (step w (turn out)).event ≡ on_turn (Ok (Wrote s)) out' → length held ≡ w.join.held → w.join.held ≤ cap
      → ResultOf (step w (turn out)).world cs p n → ResultOf w (turn out ∷ cs) (after_turn held p) (suc n)
  turns_on w out cs held p n s out' q h k ih = record {
    fit = λ b. same_figures w (turn out ∷ cs) (adding w (on_turn (Ok (Wrote s)) out') p) (after_turn held p) (1 + n) (suc n) (before w (turn out) cs (on_turn (Ok (Wrote s)) out') p n q refl (ih.fit (omega arith)))
        (omega arith) (omega arith) (omega arith) (omega arith);
    short = λ b. meets_later w (turn out) cs (ih.short (omega arith));
  }

  -- A turn that wants right, and a frame that is refused.
  refused_on : (w : World) (out f : Words) (cs : List Call) (p : Figures) (n : ℕ) → (step (step w (turn out)).world (right f)).event ≡ on_right f (Err NoRoom) → cap < p.rows
      → ResultOf w (turn out ∷ right f ∷ cs) p n
  refused_on w out f cs p n q k = record {
    fit = λ b. absurd (omega arith);
    short = λ b. meets_later w (turn out) (right f ∷ cs) (meets_here (step w (turn out)).world f cs q);
  }

  -- A turn that wants right, and the frame that it gets, with others behind it.
  module _ (w : World) (out f : Words) where
    abbrev w₁ : World
    w₁ = (step w (turn out)).world

    abbrev w₂ : World
    w₂ = (step w₁ (right f)).world

    abbrev w₃ : World
    w₃ = (step w₂ end).world

    takes_on : (cs : List Call) (held : Rows) (p : Figures) (n : ℕ) → (step w (turn out)).event ≡ on_turn (Ok WantsRight) out → (step w₁ (right f)).event ≡ on_right f (Ok tt) → length held ≡ w.join.held
        → w₁.join.held ≡ w.join.held → w.join.held ≤ cap → ResultOf w₂ cs p n → ResultOf w (turn out ∷ right f ∷ cs) (after_taking held p) n
    takes_on cs held p n q₁ q₂ h k₁ k ih = record {
      fit = λ b.
          let f₂ = before w₁ (right f) cs (on_right f (Ok tt)) p n q₂ refl (ih.fit (omega arith)) in
          let p₂ = adding w₁ (on_right f (Ok tt)) p in
          let f₁ = before w (turn out) (right f ∷ cs) (on_turn (Ok WantsRight) out) p₂ (0 + n) q₁ refl f₂ in
          same_figures w (turn out ∷ right f ∷ cs) (adding w (on_turn (Ok WantsRight) out) p₂) (after_taking held p) (0 + (0 + n)) n f₁ (omega arith) (omega arith) (omega arith) (omega arith);
      short = λ b. meets_later w (turn out) (right f ∷ cs) (meets_later w₁ (right f) cs (ih.short (omega arith)));
    }

    -- And where it is the last, with the end of right.
    ends_on : (cs : List Call) (held : Rows) (p : Figures) (n : ℕ) → (step w (turn out)).event ≡ on_turn (Ok WantsRight) out → (step w₁ (right f)).event ≡ on_right f (Ok tt) → (step w₂ end).event ≡ on_end (Ok tt) → length held ≡ w.join.held
        → w₁.join.held ≡ w.join.held → w₃.join.held ≡ w₂.join.held → w.join.held ≤ cap → ResultOf w₃ cs p n → ResultOf w (turn out ∷ right f ∷ end ∷ cs) (after_taking held p) n
    ends_on cs held p n q₁ q₂ q₃ h k₁ k₃ k ih = record {
      fit = λ b.
          let f₀ = ih.fit (omega arith) in
          let m = most_least w₃ cs in
          let f₃ = before w₂ end cs (on_end (Ok tt)) p n q₃ refl f₀ in
          let p₃ = adding w₂ (on_end (Ok tt)) p in
          let f₂ = before w₁ (right f) (end ∷ cs) (on_right f (Ok tt)) p₃ (0 + n) q₂ refl f₃ in
          let p₂ = adding w₁ (on_right f (Ok tt)) p₃ in
          let f₁ = before w (turn out) (right f ∷ end ∷ cs) (on_turn (Ok WantsRight) out) p₂ (0 + (0 + n)) q₁ refl f₂ in
          same_figures w (turn out ∷ right f ∷ end ∷ cs) (adding w (on_turn (Ok WantsRight) out) p₂) (after_taking held p) (0 + (0 + (0 + n))) n f₁ (omega (arith, f₀.most)) (omega arith) (omega arith) (omega arith);
      short = λ b. meets_later w (turn out) (right f ∷ end ∷ cs) (meets_later w₁ (right f) (end ∷ cs) (meets_later w₂ end cs (ih.short (omega arith))));
    }

  -- ---- the induction
  -- The rows of a left frame, and of a right frame.
  abbrev pub F : Words → Rows
  F f = frame_rows (columns o) f

  abbrev pub G : Words → Rows
  G g = frame_rows (right_columns o) g

  abbrev pub Goal : ℕ → List Event → World → List Words → List Words → List Words → Type 0
  Goal fuel es w fs ls outs = ResultOf w (rounds fuel w fs outs) (plan_from fuel o (held_now o l r allowed es w) (map G fs) (map F ls)) (length outs)

  abbrev pub Hyp : ℕ → Type 0
  Hyp fuel =
      (es : List Event) (w : World) (e : Bool) (fs ls outs : List Words) → At o l r allowed es w e fs ls outs → e ≡ is_nil fs → length ls + length fs ≤ fuel → Goal fuel es w fs ls outs

  -- A turn that writes.
  writes : (fuel : ℕ) → Hyp fuel → (es : List Event) (w : World) (e : Bool) (fs : List Words) (f : Words) (ls : List Words) (out : Words) (outs : List Words) (a : At o l r allowed es w e fs (f ∷ ls) (out ∷ outs))
      → e ≡ is_nil fs → suc (length ls) + length fs ≤ suc fuel → turn_answer w.join w.left w.right out ≡ Ok (Wrote w.join.sequence)
      → ResultOf w (rounds (suc fuel) w fs (out ∷ outs)) (after_turn (held_now o l r allowed es w) (plan_from fuel o (kept_after o (F f) (held_now o l r allowed es w)) (map G fs) (map F ls))) (suc (length outs))
  writes fuel ih es w e fs f ls out outs a n b q =
      let es' = es ++ ((step w (turn out)).event ∷ []) in
      let w' = (step w (turn out)).world in
      let g : Goal fuel es' w' fs ls outs = ih es' w' e fs ls outs (wrote_at o l r allowed es w e fs f ls out outs a q) n (omega arith) in
      let k = rw (wrote_held o l r allowed es w e fs f ls out outs a q) at g in
      rw (rounds_wrote fuel w fs out outs w.join.sequence q)
      (turns_on w out (rounds fuel w' fs outs) (held_now o l r allowed es w) (plan_from fuel o (kept_after o (F f) (held_now o l r allowed es w)) (map G fs) (map F ls)) (length outs) w.join.sequence (turned w.join w.left w.right out).out
      (wrote_event o l r allowed es w e fs f ls out outs a q) (held_count o l r allowed es w e fs (f ∷ ls) (out ∷ outs) a) (within es w e fs (f ∷ ls) (out ∷ outs) a) k)

  -- A turn that wants right.
  module _ (fuel : ℕ) (ih : Hyp fuel) (es : List Event) (w : World) (g : Words) (gs : List Words) (f : Words) (ls : List Words) (out : Words) (outs : List Words) (a : At o l r allowed es w false (g ∷ gs) (f ∷ ls) (out ∷ outs))
      (b : suc (length ls) + suc (length gs) ≤ suc fuel) (q : turn_answer w.join w.left w.right out ≡ Ok WantsRight) where
    abbrev hs : Rows
    hs = held_now o l r allowed es w

    abbrev es₁ : List Event
    es₁ = es ++ ((step w (turn out)).event ∷ [])

    abbrev u₁ : World
    u₁ = (step w (turn out)).world

    a₁ : At o l r allowed es₁ u₁ false (g ∷ gs) (f ∷ ls) (out ∷ outs)
    a₁ = wants_at o l r allowed es w false (g ∷ gs) f ls out outs a q

    same_held : u₁.join.held ≡ w.join.held
    same_held = ap (λ (z : World). z.join.held) (wants_world o l r allowed es w false (g ∷ gs) f ls out outs a q)

    hs_count : length hs ≡ w.join.held
    hs_count = held_count o l r allowed es w false (g ∷ gs) (f ∷ ls) (out ∷ outs) a

    g_count : length (G g) ≡ row_count g
    g_count = frame_rows_lem (right_columns o) g a.frames.0

    abbrev es₂ : List Event
    es₂ = es₁ ++ ((step u₁ (right g)).event ∷ [])

    abbrev u₂ : World
    u₂ = (step u₁ (right g)).world

    abbrev next : Figures
    next = plan_from fuel o (hs ++ G g) (map G gs) (F f ∷ map F ls)

    no_room_lem : cap < u₁.join.held + row_count g → (cs : List Call) → ResultOf w (turn out ∷ right g ∷ cs) (after_taking hs next) (suc (length outs))
    no_room_lem h cs =
        refused_on w out g cs (after_taking hs next) (suc (length outs))
        (refused_event o l r allowed es₁ u₁ g gs (f ∷ ls) (out ∷ outs) a₁ (right_answers o l r allowed es₁ u₁ g gs (f ∷ ls) (out ∷ outs) a₁ ∙ rw (lt-ltb cap (u₁.join.held + row_count g) h) refl))
        (omega (arith, plan_least fuel o (hs ++ G g) (map G gs) (F f ∷ map F ls), length-append hs (G g), hs_count, g_count, same_held))

    module _ (h : cap < u₁.join.held + row_count g → ⊥) where
      taken : right_answer u₁.join u₁.left u₁.right g ≡ Ok tt
      taken = right_answers o l r allowed es₁ u₁ g gs (f ∷ ls) (out ∷ outs) a₁ ∙ rw (le-ltb cap (u₁.join.held + row_count g) (omega arith)) refl

      a₂ : At o l r allowed es₂ u₂ false gs (f ∷ ls) (out ∷ outs)
      a₂ = took_at o l r allowed es₁ u₁ g gs (f ∷ ls) (out ∷ outs) a₁ taken

      held₂ : held_now o l r allowed es₂ u₂ ≡ hs ++ G g
      held₂ = took_held o l r allowed es₁ u₁ g gs (f ∷ ls) (out ∷ outs) a₁ taken ∙ ap (λ (z : Rows). z ++ G g) (wants_held o l r allowed es w false (g ∷ gs) f ls out outs a q)

      took : (step u₁ (right g)).event ≡ on_right g (Ok tt)
      took = took_event o l r allowed es₁ u₁ g gs (f ∷ ls) (out ∷ outs) a₁ taken

      wanted : (step w (turn out)).event ≡ on_turn (Ok WantsRight) out
      wanted = wants_event o l r allowed es w false (g ∷ gs) f ls out outs a q

      room_now : w.join.held ≤ cap
      room_now = within es w false (g ∷ gs) (f ∷ ls) (out ∷ outs) a

  takes : (fuel : ℕ) (ih : Hyp fuel) (es : List Event) (w : World) (g : Words) (gs : List Words) (f : Words) (ls : List Words) (out : Words) (outs : List Words) (a : At o l r allowed es w false (g ∷ gs) (f ∷ ls) (out ∷ outs))
      (b : suc (length ls) + suc (length gs) ≤ suc fuel) (q : turn_answer w.join w.left w.right out ≡ Ok WantsRight)
      → ResultOf w ((turn out ∷ right g ∷ end_if gs) ++ rounds fuel (final w (turn out ∷ right g ∷ end_if gs)) gs (out ∷ outs))
      (after_taking (held_now o l r allowed es w) (plan_from fuel o (held_now o l r allowed es w ++ G g) (map G gs) (F f ∷ map F ls))) (suc (length outs))
  unfolding final
  takes fuel ih es w g [] f ls out outs a b q = by (dec_lt cap ((u₁ fuel ih es w g [] f ls out outs a b q).join.held + row_count g))
    where
      by : Dec (cap < (u₁ fuel ih es w g [] f ls out outs a b q).join.held + row_count g)
          → ResultOf w (turn out ∷ right g ∷ end ∷ rounds fuel (step (step (step w (turn out)).world (right g)).world end).world [] (out ∷ outs))
          (after_taking (held_now o l r allowed es w) (plan_from fuel o (held_now o l r allowed es w ++ G g) [] (F f ∷ map F ls))) (suc (length outs))
      by (yes h) = no_room_lem fuel ih es w g [] f ls out outs a b q h (end ∷ rounds fuel (step (step (step w (turn out)).world (right g)).world end).world [] (out ∷ outs))
      by (no h) =
          let x₂ = a₂ fuel ih es w g [] f ls out outs a b q h in
          let e₂ = es₂ fuel ih es w g [] f ls out outs a b q in
          let z₂ = u₂ fuel ih es w g [] f ls out outs a b q in
          let x₃ = end_at o l r allowed e₂ z₂ (f ∷ ls) (out ∷ outs) x₂ in
          let i = ih (e₂ ++ ((step z₂ end).event ∷ [])) (step z₂ end).world true [] (f ∷ ls) (out ∷ outs) x₃ refl (omega arith) in
          let k = rw (end_held o l r allowed e₂ z₂ (f ∷ ls) (out ∷ outs) x₂ ∙ held₂ fuel ih es w g [] f ls out outs a b q h) at i in
          ends_on w out g (rounds fuel (step z₂ end).world [] (out ∷ outs)) (held_now o l r allowed es w) (plan_from fuel o (held_now o l r allowed es w ++ G g) [] (F f ∷ map F ls)) (suc (length outs))
          (wanted fuel ih es w g [] f ls out outs a b q h) (took fuel ih es w g [] f ls out outs a b q h) (end_event o l r allowed e₂ z₂ (f ∷ ls) (out ∷ outs) x₂) (hs_count fuel ih es w g [] f ls out outs a b q)
          (same_held fuel ih es w g [] f ls out outs a b q) (ap (λ s. s.world.join.held) (end_step o l r allowed e₂ z₂ (f ∷ ls) (out ∷ outs) x₂)) (room_now fuel ih es w g [] f ls out outs a b q h) k
  takes fuel ih es w g (m ∷ gs) f ls out outs a b q = by (dec_lt cap ((u₁ fuel ih es w g (m ∷ gs) f ls out outs a b q).join.held + row_count g))
    where
      by : Dec (cap < (u₁ fuel ih es w g (m ∷ gs) f ls out outs a b q).join.held + row_count g)
          → ResultOf w (turn out ∷ right g ∷ rounds fuel (step (step w (turn out)).world (right g)).world (m ∷ gs) (out ∷ outs))
          (after_taking (held_now o l r allowed es w) (plan_from fuel o (held_now o l r allowed es w ++ G g) (G m ∷ map G gs) (F f ∷ map F ls))) (suc (length outs))
      by (yes h) = no_room_lem fuel ih es w g (m ∷ gs) f ls out outs a b q h (rounds fuel (step (step w (turn out)).world (right g)).world (m ∷ gs) (out ∷ outs))
      by (no h) =
          let x₂ = a₂ fuel ih es w g (m ∷ gs) f ls out outs a b q h in
          let i = ih (es₂ fuel ih es w g (m ∷ gs) f ls out outs a b q) (u₂ fuel ih es w g (m ∷ gs) f ls out outs a b q) false (m ∷ gs) (f ∷ ls) (out ∷ outs) x₂ refl (omega arith) in
          let k = rw (held₂ fuel ih es w g (m ∷ gs) f ls out outs a b q h) at i in
          takes_on w out g (rounds fuel (step (step w (turn out)).world (right g)).world (m ∷ gs) (out ∷ outs)) (held_now o l r allowed es w) (plan_from fuel o (held_now o l r allowed es w ++ G g) (G m ∷ map G gs) (F f ∷ map F ls)) (suc (length outs))
          (wanted fuel ih es w g (m ∷ gs) f ls out outs a b q h) (took fuel ih es w g (m ∷ gs) f ls out outs a b q h) (hs_count fuel ih es w g (m ∷ gs) f ls out outs a b q)
          (same_held fuel ih es w g (m ∷ gs) f ls out outs a b q) (room_now fuel ih es w g (m ∷ gs) f ls out outs a b q h) k

  -- By the turn's answer.
  one_more : (fuel : ℕ) → Hyp fuel → (es : List Event) (w : World) (g : Words) (gs : List Words) (f : Words) (ls : List Words) (out : Words) (outs : List Words) → At o l r allowed es w false (g ∷ gs) (f ∷ ls) (out ∷ outs)
      → suc (length ls) + suc (length gs) ≤ suc fuel → Goal (suc fuel) es w (g ∷ gs) (f ∷ ls) (out ∷ outs)
  one_more fuel ih es w g gs f ls out outs a b = by (need_more o (F f) (held_now o l r allowed es w)) refl
    where
      by : (t : Bool) → need_more o (F f) (held_now o l r allowed es w) ≡ t → Goal (suc fuel) es w (g ∷ gs) (f ∷ ls) (out ∷ outs)
      by true t =
          let q : turn_answer w.join w.left w.right out ≡ Ok WantsRight = turn_answers o l r allowed es w false (g ∷ gs) f ls out outs a ∙ rw t refl in
          rw (rounds_wants fuel w g gs out outs q, plan_takes fuel o (held_now o l r allowed es w) (G g) (map G gs) (F f) (map F ls) t) (takes fuel ih es w g gs f ls out outs a b q)
      by false t =
          let q : turn_answer w.join w.left w.right out ≡ Ok (Wrote w.join.sequence) = turn_answers o l r allowed es w false (g ∷ gs) f ls out outs a ∙ rw t refl in
          rw (plan_turns fuel o (held_now o l r allowed es w) (G g) (map G gs) (F f) (map F ls) t) (writes fuel ih es w false (g ∷ gs) f ls out outs a refl b q)

  none_more : (fuel : ℕ) → Hyp fuel → (es : List Event) (w : World) (f : Words) (ls : List Words) (out : Words) (outs : List Words) → At o l r allowed es w true [] (f ∷ ls) (out ∷ outs)
      → suc (length ls) + 0 ≤ suc fuel → Goal (suc fuel) es w [] (f ∷ ls) (out ∷ outs)
  none_more fuel ih es w f ls out outs a b =
      let q : turn_answer w.join w.left w.right out ≡ Ok (Wrote w.join.sequence) = turn_answers o l r allowed es w true [] f ls out outs a in
      rw (plan_last fuel o (held_now o l r allowed es w) (F f) (map F ls)) (writes fuel ih es w true [] f ls out outs a refl b q)

  nothing : (fuel : ℕ) (es : List Event) (w : World) (e : Bool) (fs : List Words) → At o l r allowed es w e fs [] [] → Goal fuel es w fs [] []
  unfolding rounds plan_from
  nothing zero es w e fs a = none_left w (held_now o l r allowed es w) (held_count o l r allowed es w e fs [] [] a) (within es w e fs [] [] a)
  nothing (suc fuel) es w e fs a = none_left w (held_now o l r allowed es w) (held_count o l r allowed es w e fs [] [] a) (within es w e fs [] [] a)

  at_none : Hyp zero
  at_none es w e fs [] [] a n b = nothing zero es w e fs a
  at_none es w e fs [] (out ∷ outs) a n b = absurd (omega (arith, each_length a.room))
  at_none es w e fs (f ∷ ls) outs a n b = absurd (omega arith)

  at_more : (fuel : ℕ) → Hyp fuel → Hyp (suc fuel)
  at_more fuel ih es w e fs [] [] a n b = nothing (suc fuel) es w e fs a
  at_more fuel ih es w e fs [] (out ∷ outs) a n b = absurd (omega (arith, each_length a.room))
  at_more fuel ih es w e fs (f ∷ ls) [] a n b = absurd (omega (arith, each_length a.room))
  at_more fuel ih es w e [] (f ∷ ls) (out ∷ outs) a n b = none_more fuel ih es w f ls out outs (rw n at a) b
  at_more fuel ih es w e (g ∷ gs) (f ∷ ls) (out ∷ outs) a n b = one_more fuel ih es w g gs f ls out outs (rw n at a) b

  pub all_rounds : (fuel : ℕ) → Hyp fuel
  all_rounds zero = at_none
  all_rounds (suc fuel) = at_more fuel (all_rounds fuel)
