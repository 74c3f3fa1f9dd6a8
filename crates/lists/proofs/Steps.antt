-- Each call, from a join and areas that meet the invariant and are sound: what it leaves is sound. Then all lists of calls, by induction. Assumes nothing.
use Rattle.frames.specs.declared.outcomes.Turn.TheVariants.{Wrote, WantsRight, Idle}
use Rattle.frames.specs.declared.outcomes.Turn.{Turn}
use Rattle.std.specs.Prelude.{Result, Ok, Err}
use mathlib.Core.Path.{◌≡◌, refl, sym, ◌∙◌}
use mathlib.Core.Bool.{Bool, true, false, cond, ◌||◌, or-false}
use mathlib.Core.List.{List, [], ◌∷◌, ◌++◌, append-nil, append_assoc}
use Prim.Native.Nat.{ℕ, ◌*◌, ◌≤◌}
use native.Mathlib.Omega.{arith}
use lib.Dec.{eqb}
use lib.ListN.{length, drop}
use Rattle.frames.specs.Cells.{Rows, Words}
use Rattle.frames.specs.Frame.{frame_rows, is_frame}
use Rattle.order.specs.options.Options.{columns, right_columns, refused_options}
use Rattle.order.specs.Order.{sorted}
use Rattle.order.specs.Keyed.{recall}
use Rattle.order.specs.declared.options.Options.{Options}
use Rattle.order.proofs.SortedLaws.{sorted_cut}
use Rattle.matching.specs.Answer.{answered}
use Rattle.order.proofs.ListedLaws.{lacks_none}
use Rattle.node.specs.declared.Join.{Join}
use Rattle.frames.specs.declared.outcomes.PortState.{PortState}
use Rattle.frames.specs.refusals.Refusals.{marks_failed}
use Rattle.frames.proofs.refusals.RefusalLaws.{marked_ind}
use Rattle.frames.specs.declared.refusals.Refusal.{Refusal}
use Rattle.frames.specs.declared.refusals.Refusal.TheVariants.{Failed, Closed}
use Rattle.frames.specs.declared.outcomes.Ports.{Ports}
use Rattle.node.specs.State.{waiting, held_values, held_marks, ended_right, state_at, marked_failed}
use Rattle.frames.specs.outcomes.Answers.{is_done}
use Rattle.node.specs.Calls.{left_answer, left_call, queued, right_answer, right_call, pushed_right, end_answer, end_call, ports_answer, ports_call, ports_state, turn_answer, turn_call, turned, spoiled}
use Rattle.matchframe.specs.turnrows.Prunes.{bad_left, bad_right}
use Rattle.lists.specs.Lists.{Call, left, right, end, ports, turn, Event, on_left, on_right, on_end, on_ports, on_turn, World, start, step, events, final, left_in, right_in, left_frames, right_frames, rows_in, output_in, outputs, is_right_ended, turn_refusal, matches_in, back_to_back, left_ended, done_after, refused_with, turns_in}
use Rattle.lists.proofs.ListLaws.{left_append, right_append, outputs_append, ended_append, rows_in_append}
use Rattle.lists.proofs.Stock.{next_frame}
use Rattle.lists.proofs.Invariant.{Inv, right_passed, inv_left, inv_right, inv_end, inv_ports}
use Rattle.lists.proofs.Turn.{judged, judged_all, Passed, passed, left_by, matched_by, held, rows, answer_is, turned_is, idle_is, no_write, inv_turn}
use Rattle.lists.proofs.Turned.{turned_of, next_sorted, turned_after, turned_more, together_start}
use Rattle.lists.proofs.Sound.{Sound, contra, left_fine, right_fine, sound_turn, sound_same, sound_left, sound_right}

-- Sound, where the left rows turned and the right rows are sorted.
abbrev pub SoundAt : Options → List Event → World → Type 0
SoundAt o es w =
    sorted o (turned_of o (left_frames es) (outputs es)) ≡ true → sorted o (rows_in (right_columns o) (right_frames es)) ≡ true
    → Sound o (left_frames es) (right_frames es) (outputs es) (is_right_ended es) w.join

-- ---- sorted rows are never refused for their order
-- Neither refusal 8 nor refusal 9.
pub record Ordered (a : Result Turn Refusal) : Type 0 where
  pub not8 : eqb (turn_refusal a) 8 ≡ false
  pub not9 : eqb (turn_refusal a) 9 ≡ false

judged_ordered : (o : Options) (j : Join) (rows held : Rows) (out : Words) → bad_left o j.last_left rows ≡ false → bad_right o j.last_right rows held ≡ false → Ordered (judged o j rows held out)
judged_ordered o j rows held out bl br =
    judged_all Ordered o j rows held out (record { not8 = refl; not9 = refl }) (record { not8 = refl; not9 = refl }) (record { not8 = refl; not9 = refl }) (record { not8 = refl; not9 = refl })
    (record { not8 = refl; not9 = refl }) (λ t. contra t bl) (λ t. contra t br) (record { not8 = refl; not9 = refl })

idle_ordered : (b d : Bool) → Ordered (cond b (Err Failed) (cond d (Err Closed) (Ok Idle)))
idle_ordered true d = record { not8 = refl; not9 = refl }
idle_ordered false true = record { not8 = refl; not9 = refl }
idle_ordered false false = record { not8 = refl; not9 = refl }

module _ (o : Options) (l r : Words) (allowed : refused_options o ≡ false) (es : List Event) (w : World) (i : Inv o l r es w) (S : SoundAt o es w) where
  abbrev j : Join
  j = w.join

  abbrev SoundNow : Type 0
  SoundNow = Sound o (left_frames es) (right_frames es) (outputs es) (is_right_ended es) w.join

  -- An event that adds no frame and no output, and a join that differs in other fields alone.
  quiet : (e : Event) (k : Join) → left_in e ≡ [] → right_in e ≡ [] → output_in e ≡ [] → k.pruned ≡ j.pruned → k.last_left ≡ j.last_left → k.last_right ≡ j.last_right
      → (SoundNow → sorted o (rows_in (right_columns o) (right_frames es)) ≡ true → sorted o (rows_in (columns o) (left_frames es)) ≡ true → k.failed ≡ false)
      → SoundAt o (es ++ (e ∷ [])) (record { join = k; left = w.left; right = w.right })
  unfolding left_frames right_frames outputs
  quiet e k el er eo ep ell err ef =
      rw (left_append es (e ∷ []), right_append es (e ∷ []), outputs_append es (e ∷ []), el, er, eo, append-nil (left_frames es), append-nil (right_frames es), append-nil (outputs es), ended_append es (e ∷ []))
      (λ st sr.
      let now = S st sr in
      sound_same o (left_frames es) (right_frames es) (outputs es) (is_right_ended es) j now k ep ell err (ef now sr) (is_right_ended es || is_right_ended (e ∷ [])) (λ t. rw t))

  still : (e : Event) → left_in e ≡ [] → right_in e ≡ [] → output_in e ≡ [] → SoundAt o (es ++ (e ∷ [])) (record { join = j; left = w.left; right = w.right })
  still e el er eo = quiet e j el er eo refl refl refl (λ n sr. n.unfailed)

  sound_queued : (f : Words)
      → SoundAt o (es ++ (on_left f (queued j w.left w.right f).answer ∷ []))
      (record { join = (queued j w.left w.right f).join; left = (queued j w.left w.right f).left; right = (queued j w.left w.right f).right })
  unfolding queued left_frames right_frames outputs is_right_ended
  sound_queued f =
      rw (left_append es (on_left f (Ok tt) ∷ []), right_append es (on_left f (Ok tt) ∷ []), outputs_append es (on_left f (Ok tt) ∷ []), append-nil (right_frames es), append-nil (outputs es), ended_append es (on_left f (Ok tt) ∷ []), or-false (is_right_ended es), turned_more o (left_frames es) (outputs es) f i.stock.gone)
      (λ st sr.
      let now = S st sr in
      sound_left o (left_frames es) (right_frames es) (outputs es) (is_right_ended es) (queued j w.left w.right f).join
      (sound_same o (left_frames es) (right_frames es) (outputs es) (is_right_ended es) j now (queued j w.left w.right f).join refl refl refl now.unfailed (is_right_ended es) (λ t. t))
      f i.stock.gone)

  pub sound_on_left : (f : Words) → SoundAt o (es ++ ((step w (left f)).event ∷ [])) (step w (left f)).world
  unfolding step left_call
  sound_on_left f = go (left_answer j w.left w.right f) refl
    where
      go : (a : Result Unit Refusal) → left_answer j w.left w.right f ≡ a → SoundAt o (es ++ ((step w (left f)).event ∷ [])) (step w (left f)).world
      go (Err n) e = rw (e, left_call) (still (on_left f (Err n)) refl refl refl)
      go (Ok tt) e = rw (e, left_call) (sound_queued f)

  or_false_both : (a b : Bool) → (a || b) ≡ false → a ≡ false
  or_false_both true b e = e
  or_false_both false b e = refl

  sound_pushed : (f : Words) → (j.right_ended || is_done j.state) ≡ false
      → SoundAt o (es ++ (on_right f (pushed_right j w.left w.right f).answer ∷ []))
      (record { join = (pushed_right j w.left w.right f).join; left = (pushed_right j w.left w.right f).left; right = (pushed_right j w.left w.right f).right })
  unfolding pushed_right left_frames right_frames outputs is_right_ended
  sound_pushed f u =
      let open-still : is_right_ended es ≡ false = sym i.flags.ended ∙ or_false_both j.right_ended (is_done j.state) u in
      rw (left_append es (on_right f (Ok tt) ∷ []), right_append es (on_right f (Ok tt) ∷ []), outputs_append es (on_right f (Ok tt) ∷ []), append-nil (left_frames es), append-nil (outputs es), ended_append es (on_right f (Ok tt) ∷ []), or-false (is_right_ended es), rows_in_append (right_columns o) (right_frames es) (f ∷ []))
      (λ st sr.
      let now = S st (sorted_cut o (rows_in (right_columns o) (right_frames es)) (rows_in (right_columns o) (f ∷ [])) sr).0 in
      sound_right o (left_frames es) (right_frames es) (outputs es) (is_right_ended es) (pushed_right j w.left w.right f).join
      (sound_same o (left_frames es) (right_frames es) (outputs es) (is_right_ended es) j now (pushed_right j w.left w.right f).join refl refl refl now.unfailed (is_right_ended es) (λ t. t))
      f open-still (omega (arith, i.stock.rows)))

  pub sound_on_right : (f : Words) → SoundAt o (es ++ ((step w (right f)).event ∷ [])) (step w (right f)).world
  unfolding step right_call
  sound_on_right f = go (right_answer j w.left w.right f) refl
    where
      go : (a : Result Unit Refusal) → right_answer j w.left w.right f ≡ a → SoundAt o (es ++ ((step w (right f)).event ∷ [])) (step w (right f)).world
      go (Err n) e = rw (e, right_call) (still (on_right f (Err n)) refl refl refl)
      go (Ok tt) e = rw (e, right_call) (sound_pushed f (right_passed o l r allowed es w i f e).unended)

  pub sound_on_end : SoundAt o (es ++ ((step w end).event ∷ [])) (step w end).world
  unfolding step end_call
  sound_on_end = go (end_answer j w.left w.right) refl
    where
      go : (a : Result Unit Refusal) → end_answer j w.left w.right ≡ a → SoundAt o (es ++ ((step w end).event ∷ [])) (step w end).world
      go (Err n) e = rw (e, end_call) (still (on_end (Err n)) refl refl refl)
      go (Ok tt) e = rw (e, end_call) (quiet (on_end (Ok tt)) (ended_right j) refl refl refl refl refl refl (λ n sr. n.unfailed))

  pub sound_on_ports : (l' r' s' : PortState) → SoundAt o (es ++ ((step w (ports l' r' s')).event ∷ [])) (step w (ports l' r' s')).world
  unfolding step ports_call
  sound_on_ports l' r' s' = go (ports_answer j w.left w.right l' r' s') refl
    where
      go : (a : Result Ports Refusal) → ports_answer j w.left w.right l' r' s' ≡ a → SoundAt o (es ++ ((step w (ports l' r' s')).event ∷ [])) (step w (ports l' r' s')).world
      go (Err n) e = rw (e, ports_call) (still (on_ports l' r' s' (Err n)) refl refl refl)
      go (Ok p) e = rw (e, ports_call) (quiet (on_ports l' r' s' (Ok p)) (state_at j (ports_state j l' s')) refl refl refl refl refl refl (λ n sr. n.unfailed))

  -- ---- turns
  module _ (sr : sorted o (rows_in (right_columns o) (right_frames es)) ≡ true) where
    few : j.pruned ≤ length (rows_in (right_columns o) (right_frames es))
    few = omega (arith, i.stock.rows)

    module _ (f : Words) (rest : List Words) (e : drop (length (outputs es)) (left_frames es) ≡ f ∷ rest) where
      frame : is_frame (columns o) f ≡ true
      frame = next_frame o l r (left_frames es) (right_frames es) (outputs es) j w.left w.right i.stock f rest e

      -- Where the frame is sorted behind the rows turned.
      module _ (st : sorted o (turned_of o (left_frames es) (outputs es) ++ frame_rows (columns o) f) ≡ true) where
        now : SoundNow
        now = S (sorted_cut o (turned_of o (left_frames es) (outputs es)) (frame_rows (columns o) f) st).0 sr

        pub no_left_fault : bad_left o j.last_left (rows o l r allowed es w i f rest e) ≡ false
        unfolding rows
        no_left_fault = left_fine o (left_frames es) (right_frames es) (outputs es) (is_right_ended es) j now i.stock.right_frames few f rest frame e st sr

        pub no_right_fault : bad_right o j.last_right (rows o l r allowed es w i f rest e) (held o l r allowed es w i) ≡ false
        unfolding rows held
        no_right_fault = right_fine o (left_frames es) (right_frames es) (outputs es) (is_right_ended es) j now i.stock.right_frames few f rest frame e st sr

        pub after_turn : (out : Words) → Passed o j (rows o l r allowed es w i f rest e) (held o l r allowed es w i)
            → Sound o (left_frames es) (right_frames es) (outputs es ++ (answered o (matched_by o j (rows o l r allowed es w i f rest e) (held o l r allowed es w i)) out ∷ [])) (is_right_ended es) (left_by o j (rows o l r allowed es w i f rest e) (held o l r allowed es w i) (length f))
        unfolding rows held
        after_turn out p =
            sound_turn o (left_frames es) (right_frames es) (outputs es) (is_right_ended es) j now i.stock.right_frames few f rest frame e st sr (λ t. p.need (i.flags.ended ∙ t)) out

    pub turn_ordered : sorted o (rows_in (columns o) (left_frames es)) ≡ true → (out : Words) → Ordered (turn_answer j w.left w.right out)
    turn_ordered sl out = go (drop (length (outputs es)) (left_frames es)) refl
      where
        go : (fs : List Words) → drop (length (outputs es)) (left_frames es) ≡ fs → Ordered (turn_answer j w.left w.right out)
        go [] e = rw (idle_is o l r allowed es w i out e) (idle_ordered j.failed (is_done j.state))
        go (f ∷ rest) e =
            let st = next_sorted o (left_frames es) (outputs es) f rest e sl in
            rw (answer_is o l r allowed es w i f rest e out) (judged_ordered o j (rows o l r allowed es w i f rest e) (held o l r allowed es w i) out (no_left_fault f rest e st) (no_right_fault f rest e st))

  -- A turn that is refused for the order of rows: they were not all sorted.
  spoils : (n : Refusal) (out : Words) → marks_failed n ≡ true → turn_answer j w.left w.right out ≡ Err n
      → SoundAt o (es ++ (on_turn (Err n) out ∷ [])) (record { join = marked_failed j; left = w.left; right = w.right })
  spoils n out t e =
      quiet (on_turn (Err n) out) (marked_failed j) refl refl refl refl refl refl (λ s sr sl. absurd (never (rw e at (turn_ordered sr sl out))))
    where
      never : Ordered (Err n) → ⊥
      never p = let q : false ≡ true = rw (p.not8, p.not9) at t in let z : ◌≡◌ {A = ℕ} 0 1 = cc in omega arith

  sound_refused : (n : Refusal) (out : Words) → turn_answer j w.left w.right out ≡ Err n
      → SoundAt o (es ++ (on_turn (Err n) out ∷ [])) (record { join = spoiled n j; left = w.left; right = w.right })
  sound_refused n out e =
      marked_ind (λ (k : Join). SoundAt o (es ++ (on_turn (Err n) out ∷ [])) (record { join = k; left = w.left; right = w.right })) n
      (λ t. spoils n out t e) (λ not8 not9. still (on_turn (Err n) out) refl refl refl)

  sound_wrote : (out : Words) (q : ℕ) (f : Words) (rest : List Words) (d : drop (length (outputs es)) (left_frames es) ≡ f ∷ rest) → turn_answer j w.left w.right out ≡ Ok (Wrote q)
      → SoundAt o (es ++ (on_turn (Ok (Wrote j.sequence)) (answered o (matched_by o j (rows o l r allowed es w i f rest d) (held o l r allowed es w i)) out) ∷ []))
      (record { join = left_by o j (rows o l r allowed es w i f rest d) (held o l r allowed es w i) (length f); left = w.left; right = w.right })
  unfolding left_frames right_frames outputs is_right_ended
  sound_wrote out q f rest d e =
      let out' = answered o (matched_by o j (rows o l r allowed es w i f rest d) (held o l r allowed es w i)) out in
      let ev = on_turn (Ok (Wrote j.sequence)) out' in
      let p = passed o j (rows o l r allowed es w i f rest d) (held o l r allowed es w i) out q (sym (answer_is o l r allowed es w i f rest d out) ∙ e) in
      rw (left_append es (ev ∷ []), right_append es (ev ∷ []), outputs_append es (ev ∷ []), append-nil (left_frames es), append-nil (right_frames es), ended_append es (ev ∷ []), or-false (is_right_ended es), turned_after o (left_frames es) (outputs es) f rest d out')
      (λ st sr. after_turn sr f rest d st out p)

  pub sound_on_turn : (out : Words) → SoundAt o (es ++ ((step w (turn out)).event ∷ [])) (step w (turn out)).world
  unfolding step turn_call
  sound_on_turn out = go (turn_answer j w.left w.right out) refl
    where
      wrote : (q : ℕ) → turn_answer j w.left w.right out ≡ Ok (Wrote q) → (fs : List Words) → drop (length (outputs es)) (left_frames es) ≡ fs
          → SoundAt o (es ++ (on_turn (turned j w.left w.right out).answer (turned j w.left w.right out).out ∷ []))
          (record { join = (turned j w.left w.right out).join; left = (turned j w.left w.right out).left; right = (turned j w.left w.right out).right })
      wrote q e [] d = absurd (no_write o l r allowed es w i out q d e)
      wrote q e (f ∷ rest) d = rw (turned_is o l r allowed es w i f rest d out) (sound_wrote out q f rest d e)

      go : (a : Result Turn Refusal) → turn_answer j w.left w.right out ≡ a → SoundAt o (es ++ ((step w (turn out)).event ∷ [])) (step w (turn out)).world
      go (Ok (Wrote q)) e = rw (e, turn_call) (wrote q e (drop (length (outputs es)) (left_frames es)) refl)
      go (Ok WantsRight) e = rw (e, turn_call) (still (on_turn (Ok WantsRight) out) refl refl refl)
      go (Ok Idle) e = rw (e, turn_call) (still (on_turn (Ok Idle) out) refl refl refl)
      go (Err n) e = rw (e, turn_call) (sound_refused n out e)

-- ---- every list of calls
module _ (o : Options) (l r : Words) (allowed : refused_options o ≡ false) where
  pub inv_step : (es : List Event) (w : World) → Inv o l r es w → (c : Call) → Inv o l r (es ++ ((step w c).event ∷ [])) (step w c).world
  inv_step es w i (left f) = inv_left o l r allowed es w i f
  inv_step es w i (right f) = inv_right o l r allowed es w i f
  inv_step es w i end = inv_end o l r allowed es w i
  inv_step es w i (ports l' r' s') = inv_ports o l r allowed es w i l' r' s'
  inv_step es w i (turn out) = inv_turn o l r allowed es w i out

  pub sound_step : (es : List Event) (w : World) → Inv o l r es w → SoundAt o es w → (c : Call) → SoundAt o (es ++ ((step w c).event ∷ [])) (step w c).world
  sound_step es w i S (left f) = sound_on_left o l r allowed es w i S f
  sound_step es w i S (right f) = sound_on_right o l r allowed es w i S f
  sound_step es w i S end = sound_on_end o l r allowed es w i S
  sound_step es w i S (ports l' r' s') = sound_on_ports o l r allowed es w i S l' r' s'
  sound_step es w i S (turn out) = sound_on_turn o l r allowed es w i S out

  pub inv_list : (cs : List Call) (es : List Event) (w : World) → Inv o l r es w → Inv o l r (es ++ events w cs) (final w cs)
  unfolding events final
  inv_list [] es w i = rw (append-nil es) i
  inv_list (c ∷ cs) es w i =
      rw (append_assoc es ((step w c).event ∷ []) (events (step w c).world cs)) at (inv_list cs (es ++ ((step w c).event ∷ [])) (step w c).world (inv_step es w i c))

  pub sound_list : (cs : List Call) (es : List Event) (w : World) → Inv o l r es w → SoundAt o es w → SoundAt o (es ++ events w cs) (final w cs)
  unfolding events final
  sound_list [] es w i S = rw (append-nil es) S
  sound_list (c ∷ cs) es w i S =
      rw (append_assoc es ((step w c).event ∷ []) (events (step w c).world cs)) at
      (sound_list cs (es ++ ((step w c).event ∷ [])) (step w c).world (inv_step es w i c) (sound_step es w i S c))

  -- A fresh join.
  pub inv_start : Inv o l r [] (start o l r)
  unfolding left_frames right_frames outputs rows_in matches_in turned_of back_to_back waiting held_values held_marks is_right_ended left_ended done_after refused_with turns_in
  inv_start = record {
    stock = record {
      options = refl;
      left_length = refl;
      right_length = refl;
      queue_room = omega arith;
      right_room = omega arith;
      few = omega arith;
      sequence = omega arith;
      gone = omega arith;
      waits = refl;
      values = let z : 0 * right_columns o ≡ 0 = omega arith in rw z;
      marks = let z : 0 * right_columns o ≡ 0 = omega arith in rw z;
      left_frames = tt;
      left_codes = lacks_none o;
      right_frames = tt;
      rows = omega arith;
      wrote = refl;
    };
    flags = record { ended = refl; done = refl; running = refl; failed = refl; unbroken = refl; fronts = (refl, refl) };
    strict = λ c. together_start o;
  }

  pub sound_start : SoundAt o [] (start o l r)
  unfolding left_frames right_frames outputs rows_in matches_in turned_of recall
  sound_start st sr = record { matches = λ F p sf. refl; harmless = λ F p sf x h. refl; left_below = λ x h. tt; right_below = λ x h. tt; unfailed = λ sl. refl }
