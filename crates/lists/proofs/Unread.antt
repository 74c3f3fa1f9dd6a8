-- Free words are unread: over areas that are alike one join holds the same, so all answers are the same (Elsewhere); and since the areas are as long, so are the places.
-- Assumes nothing.
use Rattle.frames.specs.declared.outcomes.Turn.TheVariants.{Wrote, WantsRight, Idle}
use Rattle.frames.specs.declared.outcomes.Turn.{Turn}
use Rattle.frames.specs.declared.refusals.Refusal.{Refusal}
use Rattle.std.specs.Prelude.{Result, Ok, Err}
use mathlib.Core.Path.{◌≡◌, refl, sym, ◌∙◌}
use mathlib.Core.List.{List, [], ◌∷◌}
use lib.ListN.{length}
use Rattle.callrules.specs.Judged.{left_judged, right_judged}
use Rattle.frames.specs.Cells.{Words}
use Rattle.buffer.specs.area.Area.{new_base}
use Rattle.buffer.proofs.area.PushLaws.{new_base_room, append_length, pushed_length}
use Rattle.node.specs.declared.Join.{Join}
use Rattle.frames.specs.declared.outcomes.PortState.{PortState}
use Rattle.frames.specs.declared.outcomes.Ports.{Ports}
use Rattle.node.specs.State.{ended_right, right_width, bad_join}
use Rattle.node.specs.Calls.{After, after, left_answer, left_call, queued, right_answer, right_call, pushed_right, end_answer, end_call, ports_answer, ports_call, turn_answer, turn_call, turned}
use Rattle.node.proofs.Good.{left_taken, right_taken}
use Rattle.lists.specs.Lists.{Call, left, right, end, ports, turn, World, step, events, final}
use Rattle.lists.specs.Elsewhere.{SameLive, no_room}
use Rattle.lists.specs.Unread.{Alike, AlikeWorlds, Unread}
use Rattle.lists.proofs.Elsewhere.{by_took, Live, Same, left_says, right_says, end_answer_lem, ports_answer_lem, turn_answer_lem, holds, turn_same, step_same}

-- ---- the lengths of the areas stay
record Lengths {A : Type 0} (x : After A) (l r : Words) : Type 0 where
  in_left : length x.left ≡ length l
  in_right : length x.right ≡ length r

module _ (j : Join) (l r : Words) where
  took_lengths : (t : Result Unit Refusal) (done : After (Result Unit Refusal)) → (t ≡ Ok tt → Lengths done l r) → Lengths (by_took t done j l r) l r
  took_lengths (Ok tt) done f = f refl
  took_lengths (Err n) done f = record { in_left = refl; in_right = refl }

  left_lengths : (f : Words) → Lengths (left_call j l r f) l r
  unfolding left_call queued
  left_lengths f =
      let qs = j.queue_start in
      let qw = j.queue_words in
      took_lengths (left_answer j l r f) (queued j l r f)
      (λ e. let t = left_taken j l r f e in
      record {
        in_left = append_length l qs (new_base qs qw (length f) (length l)) qw f (new_base_room qs qw (length f) (length l) t.room) t.good.left_room;
        in_right = refl;
      })

  right_lengths : (f : Words) → Lengths (right_call j l r f) l r
  unfolding right_call pushed_right
  right_lengths f =
      took_lengths (right_answer j l r f) (pushed_right j l r f)
      (λ e. let t = right_taken j l r f e in record { in_left = refl; in_right = pushed_length (right_width j) j.base j.held f r t.frame t.good.right_room t.room })

  end_lengths : Lengths (end_call j l r) l r
  unfolding end_call
  end_lengths = took_lengths (end_answer j l r) (after (Ok tt) (ended_right j) l r []) (λ e. record { in_left = refl; in_right = refl })

  ports_lengths : (x y z : PortState) → Lengths (ports_call j l r x y z) l r
  unfolding ports_call
  ports_lengths x y z = go (ports_answer j l r x y z) refl
    where
      go : (p : Result Ports Refusal) → ports_answer j l r x y z ≡ p → Lengths (ports_call j l r x y z) l r
      go (Ok p) e = rw (e, ports_call) (record { in_left = refl; in_right = refl })
      go (Err n) e = rw (e, ports_call) (record { in_left = refl; in_right = refl })

  turn_lengths : (out : Words) → Lengths (turn_call j l r out) l r
  unfolding turn_call turned
  turn_lengths out = go (turn_answer j l r out) refl
    where
      go : (x : Result Turn Refusal) → turn_answer j l r out ≡ x → Lengths (turn_call j l r out) l r
      go (Ok (Wrote q)) e = rw (e, turn_call) (record { in_left = refl; in_right = refl })
      go (Ok WantsRight) e = rw (e, turn_call) (record { in_left = refl; in_right = refl })
      go (Ok Idle) e = rw (e, turn_call) (record { in_left = refl; in_right = refl })
      go (Err n) e = rw (e, turn_call) (record { in_left = refl; in_right = refl })

-- ---- one join over areas that are alike
module _ (j : Join) (l r l' r' : Words) (a : Alike j l r l' r') where
  pub alike_live : Live j l' r' j l r
  unfolding bad_join
  alike_live = record { bad = rw (a.left_length, a.right_length); waits = a.waits; values = a.values; marks = a.marks }

  pub turn_unread : (out : Words) → Same (turn_call j l' r' out) (turn_call j l r out)
  turn_unread out = turn_same j j.queue_start j.base l r l' r' alike_live out

  -- A frame that finds no room finds none in an area that is as long.
  left_answer_lem : (f : Words) → left_answer j l' r' f ≡ left_answer j l r f
  unfolding left_judged bad_join
  left_answer_lem f = rw (a.left_length, a.right_length)

  right_answer_lem : (f : Words) → right_answer j l' r' f ≡ right_answer j l r f
  unfolding right_judged bad_join
  right_answer_lem f = rw (a.left_length, a.right_length)

  -- And it gets the same place.
  left_join : (f : Words) → (left_call j l' r' f).join ≡ (left_call j l r f).join
  unfolding left_call queued
  left_join f = go (left_answer j l r f) refl
    where
      go : (x : Result Unit Refusal) → left_answer j l r f ≡ x → (left_call j l' r' f).join ≡ (left_call j l r f).join
      go (Ok tt) e = rw (left_answer_lem f ∙ e, e, left_call, a.left_length)
      go (Err n) e = rw (left_answer_lem f ∙ e, e, left_call)

  right_join : (f : Words) → (right_call j l' r' f).join ≡ (right_call j l r f).join
  unfolding right_call pushed_right
  right_join f = go (right_answer j l r f) refl
    where
      go : (x : Result Unit Refusal) → right_answer j l r f ≡ x → (right_call j l' r' f).join ≡ (right_call j l r f).join
      go (Ok tt) e = rw (right_answer_lem f ∙ e, e, right_call, a.right_length)
      go (Err n) e = rw (right_answer_lem f ∙ e, e, right_call)

  end_join : (end_call j l' r').join ≡ (end_call j l r).join
  unfolding end_call
  end_join = go (end_answer j l r) refl
    where
      same : end_answer j l' r' ≡ end_answer j l r
      same = end_answer_lem j j.queue_start j.base l r l' r' alike_live

      go : (x : Result Unit Refusal) → end_answer j l r ≡ x → (end_call j l' r').join ≡ (end_call j l r).join
      go (Ok tt) e = rw (same ∙ e, e, end_call)
      go (Err n) e = rw (same ∙ e, e, end_call)

  ports_join : (x y z : PortState) → (ports_call j l' r' x y z).join ≡ (ports_call j l r x y z).join
  unfolding ports_call
  ports_join x y z = go (ports_answer j l r x y z) refl
    where
      same : ports_answer j l' r' x y z ≡ ports_answer j l r x y z
      same = ports_answer_lem j j.queue_start j.base l r l' r' alike_live x y z

      go : (p : Result Ports Refusal) → ports_answer j l r x y z ≡ p → (ports_call j l' r' x y z).join ≡ (ports_call j l r x y z).join
      go (Ok p) e = rw (same ∙ e, e, ports_call)
      go (Err n) e = rw (same ∙ e, e, ports_call)

  turned_join : (out : Words) → (turned j l' r' out).join ≡ (turned j l r out).join
  unfolding turned
  turned_join out = rw (a.waits, holds j j.queue_start j.base l r l' r' alike_live)

  turn_join : (out : Words) → (turn_call j l' r' out).join ≡ (turn_call j l r out).join
  unfolding turn_call
  turn_join out = go (turn_answer j l r out) refl
    where
      same : turn_answer j l' r' out ≡ turn_answer j l r out
      same = turn_answer_lem j j.queue_start j.base l r l' r' alike_live out

      go : (x : Result Turn Refusal) → turn_answer j l r out ≡ x → (turn_call j l' r' out).join ≡ (turn_call j l r out).join
      go (Ok (Wrote q)) e = rw (same ∙ e, e, turn_call) (turned_join out)
      go (Ok WantsRight) e = rw (same ∙ e, e, turn_call)
      go (Ok Idle) e = rw (same ∙ e, e, turn_call)
      go (Err n) e = rw (same ∙ e, e, turn_call)

-- ---- one call, and lists of calls
-- Worlds that are alike hold the same.
alike_same : (v w : World) → AlikeWorlds v w → SameLive v w
alike_same v w a =
    let z = alike_live w.join w.left w.right v.left v.right a.areas in
    rw a.join (record { join = refl; bad = z.bad; waits = z.waits; values = z.values; marks = z.marks })

alike_room : (v w : World) → AlikeWorlds v w → (c : Call) → no_room (step v c).event ≡ no_room (step w c).event
unfolding step
alike_room v w a (left f) = rw (a.join, left_says w.join v.left v.right f, left_says w.join w.left w.right f, left_answer_lem w.join w.left w.right v.left v.right a.areas f)
alike_room v w a (right f) = rw (a.join, right_says w.join v.left v.right f, right_says w.join w.left w.right f, right_answer_lem w.join w.left w.right v.left v.right a.areas f)
alike_room v w a end = refl
alike_room v w a (ports x y z) = refl
alike_room v w a (turn out) = refl

-- The same join, and areas as long, from what is left of both.
alike_again : {A : Type 0} (x y : After A) (l r l' r' : Words) → Lengths x l' r' → Lengths y l r → length l' ≡ length l → length r' ≡ length r → x.join ≡ y.join
    → SameLive (record { join = x.join; left = x.left; right = x.right }) (record { join = y.join; left = y.left; right = y.right })
    → AlikeWorlds (record { join = x.join; left = x.left; right = x.right }) (record { join = y.join; left = y.left; right = y.right })
alike_again x y l r l' r' m n p q e z = record {
  join = e;
  areas = record {
    left_length = m.in_left ∙ p ∙ sym n.in_left;
    right_length = m.in_right ∙ q ∙ sym n.in_right;
    waits = rw e at z.waits;
    values = rw e at z.values;
    marks = rw e at z.marks;
  };
}

module _ (v w : World) (a : AlikeWorlds v w) where
  abbrev j : Join
  j = w.join

  abbrev l : Words
  l = w.left

  abbrev r : Words
  r = w.right

  abbrev l' : Words
  l' = v.left

  abbrev r' : Words
  r' = v.right

  leaves : (c : Call) → SameLive (step v c).world (step w c).world → AlikeWorlds (step v c).world (step w c).world
  unfolding step
  leaves (left f) z =
      rw a.join (alike_again (left_call j l' r' f) (left_call j l r f) l r l' r' (left_lengths j l' r' f) (left_lengths j l r f) a.areas.left_length a.areas.right_length (left_join j l r l' r' a.areas f) (rw a.join at z))
  leaves (right f) z =
      rw a.join (alike_again (right_call j l' r' f) (right_call j l r f) l r l' r' (right_lengths j l' r' f) (right_lengths j l r f) a.areas.left_length a.areas.right_length (right_join j l r l' r' a.areas f) (rw a.join at z))
  leaves end z =
      rw a.join (alike_again (end_call j l' r') (end_call j l r) l r l' r' (end_lengths j l' r') (end_lengths j l r) a.areas.left_length a.areas.right_length (end_join j l r l' r' a.areas) (rw a.join at z))
  leaves (ports x y p) z =
      rw a.join (alike_again (ports_call j l' r' x y p) (ports_call j l r x y p) l r l' r' (ports_lengths j l' r' x y p) (ports_lengths j l r x y p) a.areas.left_length a.areas.right_length (ports_join j l r l' r' a.areas x y p) (rw a.join at z))
  leaves (turn out) z =
      rw a.join (alike_again (turn_call j l' r' out) (turn_call j l r out) l r l' r' (turn_lengths j l' r' out) (turn_lengths j l r out) a.areas.left_length a.areas.right_length (turn_join j l r l' r' a.areas out) (rw a.join at z))

pub step_unread : (v w : World) → AlikeWorlds v w → (c : Call) → ((step v c).event ≡ (step w c).event) × AlikeWorlds (step v c).world (step w c).world
step_unread v w a c = let z = step_same v w (alike_same v w a) c (alike_room v w a c) in (z.0, leaves v w a c z.1)

-- Whatever the free words are altered to, all calls from there on answer the same and write the same.
list_unread : (cs : List Call) (v w : World) → AlikeWorlds v w → (events v cs ≡ events w cs) × AlikeWorlds (final v cs) (final w cs)
unfolding events final
list_unread [] v w a = (refl, a)
list_unread (c ∷ cs) v w a =
    let s = step_unread v w a c in
    let t = list_unread cs (step v c).world (step w c).world s.1 in
    (rw (s.0, t.0), t.1)

pub free_unread : Unread
free_unread v w a cs = let z = list_unread cs v w a in record { answers = z.0; leaves = z.1 }
