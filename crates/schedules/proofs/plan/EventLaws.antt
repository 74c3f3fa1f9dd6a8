-- One more event, and one more call: what the readings of a list of calls say of it. Assumes nothing.
use mathlib.Core.Path.{◌≡◌, refl, ap, ◌∙◌}
use mathlib.Core.Bool.{Bool, true, false, ◌||◌, or-false}
use mathlib.Core.List.{List, [], ◌∷◌, ◌++◌, append-nil}
use Prim.Native.Nat.{◌≤◌, max}
use native.Mathlib.Omega.{arith}
use Rattle.frames.specs.Cells.{Words}
use Rattle.lists.specs.Lists.{Call, Event, World, step, final, left_in, right_in, output_in, ends_right, done_by, left_frames, right_frames, outputs, is_right_ended, node_done}
use Rattle.lists.proofs.ListLaws.{left_append, right_append, outputs_append, ended_append, done_snoc}
use Rattle.schedules.specs.plan.Schedule.{most_held, no_room_right, meets_no_room}

module _ (es : List Event) (e : Event) where
  pub snoc_left : left_frames (es ++ (e ∷ [])) ≡ left_frames es ++ left_in e
  unfolding left_frames
  snoc_left = left_append es (e ∷ []) ∙ ap (λ (z : List Words). left_frames es ++ z) (append-nil (left_in e))

  pub snoc_right : right_frames (es ++ (e ∷ [])) ≡ right_frames es ++ right_in e
  unfolding right_frames
  snoc_right = right_append es (e ∷ []) ∙ ap (λ (z : List Words). right_frames es ++ z) (append-nil (right_in e))

  pub snoc_out : outputs (es ++ (e ∷ [])) ≡ outputs es ++ output_in e
  unfolding outputs
  snoc_out = outputs_append es (e ∷ []) ∙ ap (λ (z : List Words). outputs es ++ z) (append-nil (output_in e))

  pub snoc_ended : is_right_ended (es ++ (e ∷ [])) ≡ (is_right_ended es || ends_right e)
  unfolding is_right_ended
  snoc_ended = ended_append es (e ∷ []) ∙ ap (λ (z : Bool). is_right_ended es || z) (or-false (ends_right e))

  pub snoc_done : node_done (es ++ (e ∷ [])) ≡ (node_done es || done_by es e)
  snoc_done = done_snoc [] es e

-- The most rows held are at least those held at first; and over one list after another.
pub most_least : (w : World) (cs : List Call) → w.join.held ≤ most_held w cs
unfolding most_held
most_least w [] = omega arith
most_least w (c ∷ cs) = omega arith

pub most_append : (w : World) (cs ds : List Call) → most_held w (cs ++ ds) ≡ max (most_held w cs) (most_held (final w cs) ds)
unfolding most_held final
most_append w [] ds = omega (arith, most_least w ds)
most_append w (c ∷ cs) ds = rw (most_append (step w c).world cs ds) (omega arith)

pub meets_append : (xs ys : List Event) → meets_no_room (xs ++ ys) ≡ (meets_no_room xs || meets_no_room ys)
unfolding meets_no_room
meets_append [] ys = refl
meets_append (x ∷ xs) ys = rw (meets_append xs ys) (assoc (no_room_right x) (meets_no_room xs) (meets_no_room ys))
  where
    assoc : (a b c : Bool) → (a || (b || c)) ≡ ((a || b) || c)
    assoc true b c = refl
    assoc false b c = refl
