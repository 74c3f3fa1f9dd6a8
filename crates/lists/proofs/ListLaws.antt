-- Lists of calls and of events, one after the other: what is read off a list with one more event at its end. Assumes nothing.
use mathlib.Core.Path.{◌≡◌, refl, sym, ap}
use mathlib.Core.Bool.{Bool, false, ◌||◌, or-false, or_assoc}
use mathlib.Core.List.{List, [], ◌∷◌, ◌++◌, append-nil, append_assoc}
use Prim.Native.Nat.{ℕ, zero, suc, ◌≤◌}
use native.Mathlib.Omega.{arith}
use lib.Dec.{eqb}
use lib.ListN.{length, take, drop}
use Rattle.frames.specs.Cells.{Words}
use Rattle.frames.specs.Frame.{frame_rows}
use Rattle.lists.specs.Lists.{Call, Event, World, step, events, final, left_in, right_in, left_frames, right_frames, rows_in, output_in, outputs, written_in, matches_in, ends_right, is_right_ended, left_done, left_ended, done_by, done_after, back_to_back, refusal_in, refused_with, turn_in, turns_in}

-- ---- calls
pub events_append : (w : World) (cs ds : List Call) → events w (cs ++ ds) ≡ events w cs ++ events (final w cs) ds
unfolding events final
events_append w [] ds = refl
events_append w (c ∷ cs) ds = rw (events_append (step w c).world cs ds)

pub final_append : (w : World) (cs ds : List Call) → final w (cs ++ ds) ≡ final (final w cs) ds
unfolding final
final_append w [] ds = refl
final_append w (c ∷ cs) ds = final_append (step w c).world cs ds

-- ---- what joins: a list that each event, frame or output adds its part to
module _ {A B : Type 0} (g : A → List B) (f : List A → List B) (nil : f [] ≡ []) (cons : (a : A) (xs : List A) → f (a ∷ xs) ≡ g a ++ f xs) where
  pub join_append : (xs ys : List A) → f (xs ++ ys) ≡ f xs ++ f ys
  join_append [] ys = rw nil
  join_append (x ∷ xs) ys = rw (cons x (xs ++ ys), cons x xs, join_append xs ys) (sym (append_assoc (g x) (f xs) (f ys)))

pub left_append : (xs ys : List Event) → left_frames (xs ++ ys) ≡ left_frames xs ++ left_frames ys
unfolding left_frames
left_append = join_append left_in left_frames refl (λ a xs. refl)

pub right_append : (xs ys : List Event) → right_frames (xs ++ ys) ≡ right_frames xs ++ right_frames ys
unfolding right_frames
right_append = join_append right_in right_frames refl (λ a xs. refl)

pub outputs_append : (xs ys : List Event) → outputs (xs ++ ys) ≡ outputs xs ++ outputs ys
unfolding outputs
outputs_append = join_append output_in outputs refl (λ a xs. refl)

pub turns_append : (xs ys : List Event) → turns_in (xs ++ ys) ≡ turns_in xs ++ turns_in ys
unfolding turns_in
turns_append = join_append turn_in turns_in refl (λ a xs. refl)

pub rows_in_append : (c : ℕ) (xs ys : List Words) → rows_in c (xs ++ ys) ≡ rows_in c xs ++ rows_in c ys
unfolding rows_in
rows_in_append c = join_append (frame_rows c) (rows_in c) refl (λ a xs. refl)

pub words_append : (xs ys : List Words) → back_to_back (xs ++ ys) ≡ back_to_back xs ++ back_to_back ys
unfolding back_to_back
words_append = join_append (λ (f : Words). f) back_to_back refl (λ a xs. refl)

pub matches_append : (c : ℕ) (xs ys : List Words) → matches_in c (xs ++ ys) ≡ matches_in c xs ++ matches_in c ys
unfolding matches_in
matches_append c = join_append (written_in c) (matches_in c) refl (λ a xs. refl)

-- ---- what is told: a flag that each event may raise
module _ {A : Type 0} (g : A → Bool) (f : List A → Bool) (nil : f [] ≡ false) (cons : (a : A) (xs : List A) → f (a ∷ xs) ≡ (g a || f xs)) where
  pub flag_append : (xs ys : List A) → f (xs ++ ys) ≡ (f xs || f ys)
  flag_append [] ys = rw nil
  flag_append (x ∷ xs) ys = rw (cons x (xs ++ ys), cons x xs, flag_append xs ys) (sym (or_assoc (g x) (f xs) (f ys)))

pub ended_append : (xs ys : List Event) → is_right_ended (xs ++ ys) ≡ (is_right_ended xs || is_right_ended ys)
unfolding is_right_ended
ended_append = flag_append ends_right is_right_ended refl (λ a xs. refl)

pub left_ended_append : (xs ys : List Event) → left_ended (xs ++ ys) ≡ (left_ended xs || left_ended ys)
unfolding left_ended
left_ended_append = flag_append left_done left_ended refl (λ a xs. refl)

pub refused_append : (n : ℕ) (xs ys : List Event) → refused_with n (xs ++ ys) ≡ (refused_with n xs || refused_with n ys)
unfolding refused_with
refused_append n = flag_append (λ (e : Event). eqb (refusal_in e) n) (refused_with n) refl (λ a xs. refl)

pub done_snoc : (before xs : List Event) (e : Event) → done_after before (xs ++ (e ∷ [])) ≡ (done_after before xs || done_by (before ++ xs) e)
unfolding done_after
done_snoc before [] e = rw (append-nil before) (or-false (done_by before e))
done_snoc before (x ∷ xs) e =
    rw (done_snoc (before ++ (x ∷ [])) xs e, append_assoc before (x ∷ []) xs)
    (sym (or_assoc (done_by before x) (done_after (before ++ (x ∷ [])) xs) (done_by (before ++ (x ∷ xs)) e)))

-- ---- a list and its front: what has gone, and what waits
module _ {A : Type 0} where
  pub take_more : (k : ℕ) (xs ys : List A) → k ≤ length xs → take k (xs ++ ys) ≡ take k xs
  take_more zero xs ys h = refl
  take_more (suc k) [] ys h = absurd (omega arith)
  take_more (suc k) (x ∷ xs) ys h = ap (λ (z : List A). x ∷ z) (take_more k xs ys (omega arith))

  pub drop_more : (k : ℕ) (xs ys : List A) → k ≤ length xs → drop k (xs ++ ys) ≡ drop k xs ++ ys
  drop_more zero xs ys h = refl
  drop_more (suc k) [] ys h = absurd (omega arith)
  drop_more (suc k) (x ∷ xs) ys h = drop_more k xs ys (omega arith)

  -- The next one that waits goes: one more has gone, one less waits.
  pub take_next : (k : ℕ) (xs : List A) (y : A) (ys : List A) → drop k xs ≡ y ∷ ys → take (suc k) xs ≡ take k xs ++ (y ∷ [])
  take_next zero [] y ys e = cc
  take_next zero (x ∷ xs) y ys e = cc
  take_next (suc k) [] y ys e = cc
  take_next (suc k) (x ∷ xs) y ys e = ap (λ (z : List A). x ∷ z) (take_next k xs y ys e)

  pub drop_next : (k : ℕ) (xs : List A) (y : A) (ys : List A) → drop k xs ≡ y ∷ ys → drop (suc k) xs ≡ ys
  drop_next zero [] y ys e = cc
  drop_next zero (x ∷ xs) y ys e = cc
  drop_next (suc k) [] y ys e = cc
  drop_next (suc k) (x ∷ xs) y ys e = drop_next k xs y ys e
