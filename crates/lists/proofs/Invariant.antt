-- What holds of the join and its areas after every list of calls from a fresh join, sorted or not; each call keeps it. Assumes nothing.
use Rattle.std.specs.Prelude.{Result, Ok, Err}
use mathlib.Core.Path.{◌≡◌, refl, sym, ap, ◌∙◌}
use mathlib.Core.Bool.{Bool, true, false, cond, not, ◌&&◌, ◌||◌, or-false, or-true}
use mathlib.Core.List.{List, [], ◌∷◌, ◌++◌, append-nil}
use Prim.Native.Nat.{ℕ, suc, ◌+◌, ◌%◌, ◌≤◌}
use native.Mathlib.Omega.{arith}
use borrow.Author.Tests.{le-ltb, ne_eqb, not-false, not-true}
use lib.Dec.{ltb, eqb}
use lib.ListN.{length, drop, length-append, length-drop}
use Rattle.callrules.specs.Judged.{left_judged, end_judged, right_judged}
use Rattle.frames.proofs.BoolLaws.{and_true_right}
use Rattle.frames.specs.Cells.{Words}
use Rattle.frames.specs.Frame.{row_count, is_frame, frame_rows}
use Rattle.order.specs.options.Options.{columns, right_columns, refused_options}
use Rattle.order.specs.declared.options.Options.{Options}
use Rattle.order.specs.declared.options.Check.TheVariants.{Strict}
use Rattle.frames.proofs.FrameLaws.{frame_length}
use Rattle.order.specs.Listed.{lacks_code}
use Rattle.buffer.specs.area.Area.{capacity}
use Rattle.node.proofs.Good.{left_taken, right_taken}
use Rattle.node.specs.declared.Join.{Join}
use Rattle.frames.specs.declared.outcomes.NodeState.{NodeState}
use Rattle.frames.specs.declared.outcomes.NodeState.TheVariants.{Running, Flush, Done}
use Rattle.frames.specs.declared.outcomes.PortState.{PortState}
use Rattle.frames.specs.declared.refusals.Refusal.{Refusal}
use Rattle.frames.specs.declared.refusals.Refusal.TheVariants.{Failed, Closed, BadFrame, UnknownCode, NoRoom, UsedUp}
use Rattle.frames.specs.declared.outcomes.Ports.{Ports}
use Rattle.node.specs.State.{ended_right, state_at, left_width, right_width, bad_join, over_right, over_left, over_rows, odd_sequence}
use Rattle.frames.specs.outcomes.Answers.{is_running, is_done, most_rows}
use Rattle.frames.specs.refusals.Refusals.{number}
use Rattle.node.specs.Calls.{left_answer, left_call, queued, right_answer, right_call, pushed_right, end_answer, end_call, ports_answer, ports_call, ports_state}
use Rattle.callrules.specs.ports.Ports.{ports_in, to_flush, to_done, port_done, ports_judged}
use Rattle.lists.specs.Lists.{left, right, end, ports, Event, on_left, on_right, on_end, on_ports, World, step, left_in, right_in, left_frames, right_frames, output_in, outputs, ends_right, is_right_ended, left_done, left_ended, frames_waiting, back_to_back, done_by, node_done, refusal_in, took_refusal, ports_refusal, refused_with, turn_in, turns_in}
use Rattle.lists.proofs.ListLaws.{left_append, right_append, outputs_append, turns_append, ended_append, left_ended_append, refused_append, done_snoc}
use Rattle.lists.proofs.Turned.{turned_of, turned_more, Together}
use Rattle.lists.proofs.Stock.{Frames, frames_drop, Stock, stock_same, stock_left, stock_right, waiting_length}

-- ---- the flags, told by the events
pub record Flags (es : List Event) (j : Join) : Type 0 where
  pub ended : j.right_ended ≡ is_right_ended es
  pub done : is_done j.state ≡ node_done es
  pub running : is_running j.state ≡ not (left_ended es || node_done es)
  pub failed : j.failed ≡ (refused_with 8 es || refused_with 9 es)
  pub unbroken : refused_with 2 es ≡ false
  pub fronts : (refused_with 5 (turns_in es) ≡ false) × (refused_with 12 (turns_in es) ≡ false)

-- What one more event must say of the join it leaves.
pub record Adds (es : List Event) (j : Join) (e : Event) (k : Join) : Type 0 where
  pub ended : k.right_ended ≡ (j.right_ended || ends_right e)
  pub done : is_done k.state ≡ (is_done j.state || done_by es e)
  pub running : is_running k.state ≡ (is_running j.state && not (left_done e || done_by es e))
  pub failed : k.failed ≡ (j.failed || (eqb (refusal_in e) 8 || eqb (refusal_in e) 9))
  pub unbroken : eqb (refusal_in e) 2 ≡ false
  pub front : (refused_with 5 (turn_in e) ≡ false) × (refused_with 12 (turn_in e) ≡ false)

-- A join whose flags are the same.
pub record SameFlags (j k : Join) : Type 0 where
  pub ended : k.right_ended ≡ j.right_ended
  pub state : k.state ≡ j.state
  pub failed : k.failed ≡ j.failed

pub adds_same : (es : List Event) (j : Join) (e : Event) (k : Join) → Adds es j e j → SameFlags j k → Adds es j e k
adds_same es j e k a q = record {
  ended = q.ended ∙ a.ended;
  done = rw q.state a.done;
  running = rw q.state a.running;
  failed = q.failed ∙ a.failed;
  unbroken = a.unbroken;
  front = a.front;
}

or_swap : (a b x y : Bool) → (a || b || (x || y)) ≡ (a || x || (b || y))
or_swap true b x y = refl
or_swap false true true y = refl
or_swap false true false y = refl
or_swap false false x y = refl

not_or : (a d x y : Bool) → (not (a || d) && not (x || y)) ≡ not (a || x || (d || y))
not_or true d x y = refl
not_or false true true y = refl
not_or false true false y = refl
not_or false false x y = refl

pub flags_add : (es : List Event) (j : Join) (e : Event) (k : Join) → Flags es j → Adds es j e k → Flags (es ++ (e ∷ [])) k
unfolding is_right_ended left_ended refused_with turns_in
flags_add es j e k f a = record {
  ended = rw (ended_append es (e ∷ []), a.ended, f.ended) (ap (λ (z : Bool). is_right_ended es || z) (sym (or-false (ends_right e))));
  done = rw (done_snoc [] es e, a.done, f.done);
  running =
      rw (done_snoc [] es e, left_ended_append es (e ∷ []), or-false (left_done e), a.running, f.running) (not_or (left_ended es) (node_done es) (left_done e) (done_by es e));
  failed =
      rw (refused_append 8 es (e ∷ []), refused_append 9 es (e ∷ []), or-false (eqb (refusal_in e) 8), or-false (eqb (refusal_in e) 9), a.failed, f.failed)
      (or_swap (refused_with 8 es) (refused_with 9 es) (eqb (refusal_in e) 8) (eqb (refusal_in e) 9));
  unbroken = rw (refused_append 2 es (e ∷ []), f.unbroken, a.unbroken);
  fronts = (
    rw (turns_append es (e ∷ []), append-nil (turn_in e), refused_append 5 (turns_in es) (turn_in e), f.fronts.0) a.front.0,
    rw (turns_append es (e ∷ []), append-nil (turn_in e), refused_append 12 (turns_in es) (turn_in e), f.fronts.1) a.front.1,
  );
}

-- ---- the invariant of a list of calls
pub record Inv (o : Options) (l r : Words) (es : List Event) (w : World) : Type 0 where
  pub stock : Stock o l r (left_frames es) (right_frames es) (outputs es) w.join w.left w.right
  pub flags : Flags es w.join
  pub strict : o.check ≡ Strict → Together o (turned_of o (left_frames es) (outputs es)) w.join.last_left

-- ---- tests on the way
-- A refusal that neither breaks the join nor tells of an order.
pub record Plain (n : ℕ) : Type 0 where
  pub not2 : eqb n 2 ≡ false
  pub not8 : eqb n 8 ≡ false
  pub not9 : eqb n 9 ≡ false

plain_took : (b : Bool) (x y : Result Unit Refusal) → Plain (took_refusal x) → Plain (took_refusal y) → Plain (took_refusal (cond b x y))
plain_took true x y p q = p
plain_took false x y p q = q

abbrev plain0 : Plain 0
plain0 = record { not2 = refl; not8 = refl; not9 = refl }

abbrev plain3 : Plain 3
plain3 = record { not2 = refl; not8 = refl; not9 = refl }

abbrev plain4 : Plain 4
plain4 = record { not2 = refl; not8 = refl; not9 = refl }

abbrev plain5 : Plain 5
plain5 = record { not2 = refl; not8 = refl; not9 = refl }

abbrev plain12 : Plain 12
plain12 = record { not2 = refl; not8 = refl; not9 = refl }

abbrev plain6 : Plain 6
plain6 = record { not2 = refl; not8 = refl; not9 = refl }

abbrev plain7 : Plain 7
plain7 = record { not2 = refl; not8 = refl; not9 = refl }

-- ---- the rule of the ports, for the node's state: ps and pl say that send and left came Done, none that no word waits, before that left came Done earlier
pub record Moves (t : NodeState) (ps pl none before : Bool) (u : NodeState) : Type 0 where
  pub done : is_done u ≡ (is_done t || (ps || ((before || pl) && none)))
  pub running : is_running u ≡ (is_running t && not (pl || (ps || ((before || pl) && none))))

-- A node that is Running has not seen left Done, one in Flush has.
abbrev pub Seen : NodeState → Bool → Type 0
Seen Running before = before ≡ false
Seen Flush before = before ≡ true
Seen Done before = Unit {0}

or_false_left : (a b : Bool) → (a || b) ≡ false → a ≡ false
or_false_left true b e = e
or_false_left false b e = refl

or_left : (a b : Bool) → b ≡ false → (a || b) ≡ true → a ≡ true
or_left true b n e = refl
or_left false b n e = sym n ∙ e

-- Flush with nothing waiting becomes Done.
settle : NodeState → Bool → NodeState
settle Running none = Running
settle Flush none = cond none Done Flush
settle Done none = Done

settle_is : (t : NodeState) (n : ℕ) → settle t (eqb n 0) ≡ to_done t n
unfolding settle
settle_is Running n = refl
settle_is Flush n = refl
settle_is Done n = refl

moves : (t : NodeState) (ps pl none before : Bool) → Seen t before → Moves t ps pl none before (settle (cond ps Done (cond (is_running t && pl) Flush t)) none)
unfolding settle
moves Running true pl none before e = record { done = refl; running = sym (never pl) }
  where
    never : (b : Bool) → not (b || true) ≡ false
    never true = refl
    never false = refl
moves Running false true true before e = record { done = sym (all before); running = refl }
  where
    all : (b : Bool) → ((b || true) && true) ≡ true
    all true = refl
    all false = refl
moves Running false true false before e = record { done = sym (none_of before); running = refl }
  where
    none_of : (b : Bool) → ((b || true) && false) ≡ false
    none_of true = refl
    none_of false = refl
moves Running false false none before e = rw e (record { done = refl; running = refl })
moves Flush true pl none before e = record { done = refl; running = refl }
moves Flush false pl true before e = rw e (record { done = refl; running = refl })
moves Flush false pl false before e = rw e (record { done = refl; running = refl })
moves Done true pl none before e = record { done = refl; running = refl }
moves Done false pl none before e = record { done = refl; running = refl }

module _ (o : Options) (l r : Words) (allowed : refused_options o ≡ false) (es : List Event) (w : World) (i : Inv o l r es w) where
  abbrev j : Join
  j = w.join

  abbrev s : Stock o l r (left_frames es) (right_frames es) (outputs es) w.join w.left w.right
  s = i.stock

  -- The join is never bad.
  pub good : bad_join w.join w.left w.right ≡ false
  unfolding bad_join
  good =
      let e1 : refused_options j.options ≡ false = rw s.options allowed in
      let e2 : over_right j w.right ≡ false = rw s.options (le-ltb (capacity (right_columns o) w.right) (j.base + j.held) s.right_room) in
      let e3 : over_left j w.left ≡ false = le-ltb (length w.left) (j.queue_start + j.queue_words) s.queue_room in
      let e4 : over_rows j ≡ false = le-ltb most_rows (j.pruned + j.held) s.few in
      let e5 : odd_sequence j ≡ false = ne_eqb (j.sequence % 2) 1 (λ (h : j.sequence % 2 ≡ 1). omega (arith, s.sequence)) in
      rw (e1, e2, e3, e4, e5)

  -- An event that adds nothing to the frames and the outputs, where the join keeps its stock.
  pub keep : (e : Event) (k : Join) → left_in e ≡ [] → right_in e ≡ [] → output_in e ≡ [] → k.last_left ≡ j.last_left
      → Stock o l r (left_frames es) (right_frames es) (outputs es) k w.left w.right → Adds es j e k
      → Inv o l r (es ++ (e ∷ [])) (record { join = k; left = w.left; right = w.right })
  unfolding left_frames right_frames outputs
  keep e k el er eo ll t a = record {
    stock =
        rw (left_append es (e ∷ []), right_append es (e ∷ []), outputs_append es (e ∷ []), el, er, eo, append-nil (left_frames es), append-nil (right_frames es), append-nil (outputs es)) t;
    flags = flags_add es j e k i.flags a;
    strict = rw (left_append es (e ∷ []), outputs_append es (e ∷ []), el, eo, append-nil (left_frames es), append-nil (outputs es), ll) i.strict;
  }

  -- A refused left, right or end call.
  quiet_left : (f : Words) (a : Result Unit Refusal) → Plain (took_refusal a) → Adds es j (on_left f a) j
  unfolding done_by refused_with turns_in
  quiet_left f a p = record {
    ended = sym (or-false j.right_ended);
    done = sym (or-false (is_done j.state));
    running = sym (and_true_right (is_running j.state));
    failed = rw (p.not8, p.not9) (sym (or-false j.failed));
    unbroken = p.not2;
    front = (refl, refl);
  }

  quiet_right : (f : Words) (a : Result Unit Refusal) → Plain (took_refusal a) → Adds es j (on_right f a) j
  unfolding done_by refused_with
  quiet_right f a p = let q = quiet_left f a p in record { ended = q.ended; done = q.done; running = q.running; failed = q.failed; unbroken = q.unbroken; front = q.front }

  -- ---- a left frame
  left_plain : (f : Words) → Plain (took_refusal (left_answer j w.left w.right f))
  unfolding left_judged
  left_plain f =
      rw good
      (plain_took j.failed (Err Failed) _ plain3
      (plain_took (not (is_running j.state)) (Err Closed) _ plain4
      (plain_took (not (is_frame (left_width j) f)) (Err BadFrame) _ plain5
      (plain_took (lacks_code j.options (frame_rows (left_width j) f)) (Err UnknownCode) _ plain12
      (plain_took (ltb (length w.left) (j.queue_words + length f)) (Err NoRoom) (Ok tt) plain6 plain0)))))

  -- What an accepted left frame passed.
  pub record LeftPassed (f : Words) : Type 0 where
    pub frame : is_frame (columns o) f ≡ true
    pub codes : lacks_code o (frame_rows (columns o) f) ≡ false
    pub room : j.queue_words + length f ≤ length w.left

  pub left_passed : (f : Words) → left_answer j w.left w.right f ≡ Ok tt → LeftPassed f
  left_passed f e = let t = left_taken j w.left w.right f e in record { frame = rw s.options at t.frame; codes = rw s.options at t.codes; room = t.room }

  inv_queued : (f : Words) → LeftPassed f
      → Inv o l r (es ++ (on_left f (queued j w.left w.right f).answer ∷ []))
      (record { join = (queued j w.left w.right f).join; left = (queued j w.left w.right f).left; right = (queued j w.left w.right f).right })
  unfolding queued left_frames right_frames outputs
  inv_queued f p = record {
    stock =
        rw (left_append es (on_left f (Ok tt) ∷ []), right_append es (on_left f (Ok tt) ∷ []), outputs_append es (on_left f (Ok tt) ∷ []), append-nil (right_frames es), append-nil (outputs es))
        (stock_left o l r (left_frames es) (right_frames es) (outputs es) j w.left w.right s f p.frame p.codes p.room);
    flags = flags_add es j (on_left f (Ok tt)) (queued j w.left w.right f).join i.flags (adds_same es j (on_left f (Ok tt)) (queued j w.left w.right f).join (quiet_left f (Ok tt) plain0) (record { ended = refl; state = refl; failed = refl }));
    strict = rw (left_append es (on_left f (Ok tt) ∷ []), outputs_append es (on_left f (Ok tt) ∷ []), append-nil (outputs es), turned_more o (left_frames es) (outputs es) f s.gone) i.strict;
  }

  pub inv_left : (f : Words) → Inv o l r (es ++ ((step w (left f)).event ∷ [])) (step w (left f)).world
  unfolding step left_call
  inv_left f = go (left_answer j w.left w.right f) refl
    where
      go : (a : Result Unit Refusal) → left_answer j w.left w.right f ≡ a → Inv o l r (es ++ ((step w (left f)).event ∷ [])) (step w (left f)).world
      go (Err n) e = rw (e, left_call) (keep (on_left f (Err n)) j refl refl refl refl s (quiet_left f (Err n) (rw e at (left_plain f))))
      go (Ok tt) e = rw (e, left_call) (inv_queued f (left_passed f e))

  -- ---- a right frame
  right_plain : (f : Words) → Plain (took_refusal (right_answer j w.left w.right f))
  unfolding right_judged
  right_plain f =
      rw good
      (plain_took j.failed (Err Failed) _ plain3
      (plain_took (j.right_ended || is_done j.state) (Err Closed) _ plain4
      (plain_took (not (is_frame (right_width j) f)) (Err BadFrame) _ plain5
      (plain_took (lacks_code j.options (frame_rows (right_width j) f)) (Err UnknownCode) _ plain12
      (plain_took (ltb (capacity (right_width j) w.right) (j.held + row_count f)) (Err NoRoom) _ plain6
      (plain_took (ltb most_rows (j.pruned + j.held + row_count f)) (Err UsedUp) (Ok tt) plain7 plain0))))))

  -- What an accepted right frame passed.
  pub record RightPassed (f : Words) : Type 0 where
    pub unended : (j.right_ended || is_done j.state) ≡ false
    pub frame : is_frame (right_columns o) f ≡ true
    pub room : j.held + row_count f ≤ capacity (right_columns o) w.right
    pub few : j.pruned + j.held + row_count f ≤ most_rows

  pub right_passed : (f : Words) → right_answer j w.left w.right f ≡ Ok tt → RightPassed f
  right_passed f e =
      let t = right_taken j w.left w.right f e in
      record { unended = t.unended; frame = rw s.options at t.frame; room = rw s.options at t.room; few = t.rows }

  inv_pushed : (f : Words) → RightPassed f
      → Inv o l r (es ++ (on_right f (pushed_right j w.left w.right f).answer ∷ []))
      (record { join = (pushed_right j w.left w.right f).join; left = (pushed_right j w.left w.right f).left; right = (pushed_right j w.left w.right f).right })
  unfolding pushed_right left_frames right_frames outputs
  inv_pushed f p = record {
    stock =
        rw (left_append es (on_right f (Ok tt) ∷ []), right_append es (on_right f (Ok tt) ∷ []), outputs_append es (on_right f (Ok tt) ∷ []), append-nil (left_frames es), append-nil (outputs es))
        (stock_right o l r (left_frames es) (right_frames es) (outputs es) j w.left w.right s f p.frame p.room p.few);
    flags = flags_add es j (on_right f (Ok tt)) (pushed_right j w.left w.right f).join i.flags (adds_same es j (on_right f (Ok tt)) (pushed_right j w.left w.right f).join (quiet_right f (Ok tt) plain0) (record { ended = refl; state = refl; failed = refl }));
    strict = rw (left_append es (on_right f (Ok tt) ∷ []), outputs_append es (on_right f (Ok tt) ∷ []), append-nil (left_frames es), append-nil (outputs es)) i.strict;
  }

  pub inv_right : (f : Words) → Inv o l r (es ++ ((step w (right f)).event ∷ [])) (step w (right f)).world
  unfolding step right_call
  inv_right f = go (right_answer j w.left w.right f) refl
    where
      go : (a : Result Unit Refusal) → right_answer j w.left w.right f ≡ a → Inv o l r (es ++ ((step w (right f)).event ∷ [])) (step w (right f)).world
      go (Err n) e = rw (e, right_call) (keep (on_right f (Err n)) j refl refl refl refl s (quiet_right f (Err n) (rw e at (right_plain f))))
      go (Ok tt) e = rw (e, right_call) (inv_pushed f (right_passed f e))

  -- ---- the end of right
  end_plain : Plain (took_refusal (end_answer j w.left w.right))
  unfolding end_judged
  end_plain =
      rw good
      (plain_took j.failed (Err Failed) _ plain3
      (plain_took (j.right_ended || is_done j.state) (Err Closed) (Ok tt) plain4 plain0))

  quiet_end : (n : Refusal) → Plain (number n) → Adds es j (on_end (Err n)) j
  unfolding done_by refused_with
  quiet_end n p = let q = quiet_left [] (Err n) p in record { ended = q.ended; done = q.done; running = q.running; failed = q.failed; unbroken = q.unbroken; front = q.front }

  adds_end : Adds es j (on_end (Ok tt)) (ended_right j)
  unfolding done_by refused_with
  adds_end = let q = quiet_left [] (Ok tt) plain0 in record { ended = sym (or-true j.right_ended); done = q.done; running = q.running; failed = q.failed; unbroken = q.unbroken; front = q.front }

  pub inv_end : Inv o l r (es ++ ((step w end).event ∷ [])) (step w end).world
  unfolding step end_call
  inv_end = go (end_answer j w.left w.right) refl
    where
      go : (a : Result Unit Refusal) → end_answer j w.left w.right ≡ a → Inv o l r (es ++ ((step w end).event ∷ [])) (step w end).world
      go (Err n) e = rw (e, end_call) (keep (on_end (Err n)) j refl refl refl refl s (quiet_end n (rw e at end_plain)))
      go (Ok tt) e =
          rw (e, end_call)
          (keep (on_end (Ok tt)) (ended_right j) refl refl refl refl (stock_same o l r (left_frames es) (right_frames es) (outputs es) j w.left w.right s (ended_right j) refl refl refl refl refl refl refl) adds_end)

  -- ---- ports
  -- No word waits exactly where no frame waits.
  no_words : (fs : List Words) → Frames (columns o) fs → eqb (length (back_to_back fs)) 0 ≡ eqb (length fs) 0
  unfolding back_to_back
  no_words [] p = refl
  no_words (f ∷ fs) p =
      let n : 2 ≤ length f = omega (arith, frame_length (columns o) f p.0) in
      ne_eqb (length (f ++ back_to_back fs)) 0 (λ (h : length (f ++ back_to_back fs) ≡ 0). omega (arith, length-append f (back_to_back fs)))
      ∙ sym (ne_eqb (suc (length fs)) 0 (λ (h : suc (length fs) ≡ 0). omega arith))

  pub nothing_waits : eqb j.queue_words 0 ≡ eqb (frames_waiting es) 0
  unfolding frames_waiting
  nothing_waits =
      ap (λ (n : ℕ). eqb n 0) (sym (waiting_length o l r (left_frames es) (right_frames es) (outputs es) j w.left w.right s) ∙ ap length s.waits)
      ∙ no_words (drop (length (outputs es)) (left_frames es)) (frames_drop (columns o) (length (outputs es)) (left_frames es) s.left_frames)
      ∙ ap (λ (n : ℕ). eqb n 0) (length-drop (length (outputs es)) (left_frames es))

  -- What the flags say of left Done: a node that is Running has not seen it, one in Flush has.
  seen : Seen j.state (left_ended es)
  seen = go j.state i.flags.done i.flags.running
    where
      go : (t : NodeState) → is_done t ≡ node_done es → is_running t ≡ not (left_ended es || node_done es) → Seen t (left_ended es)
      go Running d k = or_false_left (left_ended es) (node_done es) (not-true (left_ended es || node_done es) (sym k))
      go Flush d k = or_left (left_ended es) (node_done es) (sym d) (not-false (left_ended es || node_done es) (sym k))
      go Done d k = tt

  ports_move : (l' s' : PortState) → Moves j.state (port_done s') (port_done l') (eqb (frames_waiting es) 0) (left_ended es) (ports_state j l' s')
  ports_move l' s' =
      rw (← settle_is (to_flush j.state l' s') j.queue_words, nothing_waits) (moves j.state (port_done s') (port_done l') (eqb (frames_waiting es) 0) (left_ended es) seen)

  adds_ports : (p : Ports) (l' r' s' : PortState) → Adds es j (on_ports l' r' s' (Ok p)) (state_at j (ports_state j l' s'))
  unfolding done_by refused_with
  adds_ports p l' r' s' =
      let m = ports_move l' s' in
      record {
        ended = sym (or-false j.right_ended);
        done = m.done;
        running = m.running;
        failed = sym (or-false j.failed);
        unbroken = refl;
        front = (refl, refl);
      }

  ports_plain : (l' r' s' : PortState) → Plain (ports_refusal (ports_answer j w.left w.right l' r' s'))
  unfolding ports_judged
  ports_plain l' r' s' = rw good (go j.failed (ports_state j l' s'))
    where
      go : (b : Bool) (t : NodeState) → Plain (ports_refusal (cond b (Err Failed) (Ok (ports_in t l' r' s'))))
      go true t = plain3
      go false t = plain0

  quiet_ports : (l' r' s' : PortState) (n : Refusal) → Plain (number n) → Adds es j (on_ports l' r' s' (Err n)) j
  unfolding done_by refused_with
  quiet_ports l' r' s' n p = let q = quiet_left [] (Err n) p in record { ended = q.ended; done = q.done; running = q.running; failed = q.failed; unbroken = q.unbroken; front = q.front }

  pub inv_ports : (l' r' s' : PortState) → Inv o l r (es ++ ((step w (ports l' r' s')).event ∷ [])) (step w (ports l' r' s')).world
  unfolding step ports_call
  inv_ports l' r' s' = go (ports_answer j w.left w.right l' r' s') refl
    where
      go : (a : Result Ports Refusal) → ports_answer j w.left w.right l' r' s' ≡ a → Inv o l r (es ++ ((step w (ports l' r' s')).event ∷ [])) (step w (ports l' r' s')).world
      go (Err n) e = rw (e, ports_call) (keep (on_ports l' r' s' (Err n)) j refl refl refl refl s (quiet_ports l' r' s' n (rw e at (ports_plain l' r' s'))))
      go (Ok p) e =
          rw (e, ports_call)
          (keep (on_ports l' r' s' (Ok p)) (state_at j (ports_state j l' s')) refl refl refl refl
          (stock_same o l r (left_frames es) (right_frames es) (outputs es) j w.left w.right s (state_at j (ports_state j l' s')) refl refl refl refl refl refl refl) (adds_ports p l' r' s'))
