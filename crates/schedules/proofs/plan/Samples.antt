-- Plans by computation, and the schedule at the first figure and one row below it. Assumes nothing.
use mathlib.Core.Path.{◌≡◌, refl}
use mathlib.Core.Bool.{true, false}
use mathlib.Core.List.{List, [], ◌∷◌, map}
use Prim.Native.Nat.{ℕ}
use lib.IntN.{pos, negsuc}
use Rattle.frames.specs.Cells.{Cell, Words}
use Rattle.order.specs.ranks.Ranks.{rises, rises_behind, below, placed, listed}
use Rattle.order.specs.declared.options.Options.{Options}
use Rattle.order.specs.Listed.{unlisted_in}
use Rattle.order.proofs.Samples.{options, plain, carrying, ranks_by, ranking, row, keys, frame_of}
use Rattle.matchframe.specs.turnrows.Prunes.{kept_rows, last_prune}
use Rattle.lists.specs.Lists.{start, events, final, left_frames, right_frames, outputs, turns_in}
use Rattle.lists.proofs.Script.{left_area, right_area, space, speak_all}
use Rattle.schedules.specs.plan.Schedule.{rounds, schedule, most_held, turn_calls, rights_taken, meets_no_room}
use Rattle.planning.specs.declared.Figures.{Figures}
use Rattle.planning.specs.Plan.{plan_from, plan}
use Rattle.schedules.specs.plan.Plan.{figures}

abbrev pub told : ℕ → ℕ → ℕ → Figures
told a b d = record { rows = a; turns = b; rights = d }

-- Left 5, 15 and then 20, 25; right 10, 20 and then 20, 30 and then 40: Backward takes all but the last.
unfoldable pub lefts : List Words
lefts = frame_of 1 (keys (5 ∷ 15 ∷ [])) ∷ frame_of 1 (keys (20 ∷ 25 ∷ [])) ∷ []

unfoldable pub rights : List Words
rights = frame_of 1 (keys (10 ∷ 20 ∷ [])) ∷ frame_of 1 (keys (20 ∷ 30 ∷ [])) ∷ frame_of 1 (keys (40 ∷ [])) ∷ []

unfoldable pub outs : List Words
outs = space 6 ∷ space 6 ∷ []

-- A sale behind all notices: every right frame is taken, and right ends behind the last.
unfoldable pub late : List Words
late = frame_of 1 (keys (35 ∷ [])) ∷ frame_of 1 (keys (50 ∷ [])) ∷ []

unfoldable pub few : List Words
few = frame_of 1 (keys (10 ∷ 20 ∷ [])) ∷ frame_of 1 (keys (20 ∷ 30 ∷ [])) ∷ []

pub planned_late : figures (plain 0 true) late few ≡ told 4 4 2
unfolding late few outs plan plan_from speak_all last_prune kept_rows
planned_late = refl

pub follows_late : (outputs (events (start (plain 0 true) (left_area 20) (right_area 8)) (schedule (plain 0 true) (left_area 20) (right_area 8) late few outs))
    ≡ (pos 1 ∷ pos 1 ∷ pos 3 ∷ pos 1 ∷ negsuc 8 ∷ negsuc 8 ∷ []) ∷ (pos 1 ∷ pos 1 ∷ pos 3 ∷ pos 1 ∷ negsuc 8 ∷ negsuc 8 ∷ []) ∷ [])
    × (turn_calls (events (start (plain 0 true) (left_area 20) (right_area 8)) (schedule (plain 0 true) (left_area 20) (right_area 8) late few outs)) ≡ 4)
unfolding late few outs schedule rounds speak_all events final left_frames right_frames outputs turns_in
follows_late = (refl, refl)

-- Rows that a turn dropped make room: four of the five rows are held at most.
unfoldable pub apart : List Words
apart = frame_of 1 (keys (25 ∷ [])) ∷ frame_of 1 (keys (45 ∷ [])) ∷ []

unfoldable pub five : List Words
five = frame_of 1 (keys (10 ∷ 20 ∷ [])) ∷ frame_of 1 (keys (30 ∷ 40 ∷ [])) ∷ frame_of 1 (keys (50 ∷ [])) ∷ []

pub planned_apart : figures (plain 0 true) apart five ≡ told 4 5 3
unfolding apart five outs plan plan_from speak_all last_prune kept_rows
planned_apart = refl

pub planned : (figures (plain 0 true) lefts rights ≡ told 4 4 2)
    × (figures (plain 0 true) lefts [] ≡ told 0 2 0)
    × (figures (plain 0 true) [] rights ≡ told 0 0 0)
unfolding lefts rights outs plan plan_from speak_all last_prune kept_rows
planned = (refl, refl, refl)

-- Room for four rows, and for three.
pub follows : (most_held (start (plain 0 true) (left_area 20) (right_area 8)) (schedule (plain 0 true) (left_area 20) (right_area 8) lefts rights outs) ≡ 4)
    × (turn_calls (events (start (plain 0 true) (left_area 20) (right_area 8)) (schedule (plain 0 true) (left_area 20) (right_area 8) lefts rights outs)) ≡ 4)
    × (rights_taken (events (start (plain 0 true) (left_area 20) (right_area 8)) (schedule (plain 0 true) (left_area 20) (right_area 8) lefts rights outs)) ≡ 2)
    × (meets_no_room (events (start (plain 0 true) (left_area 20) (right_area 8)) (schedule (plain 0 true) (left_area 20) (right_area 8) lefts rights outs)) ≡ false)
    × (meets_no_room (events (start (plain 0 true) (left_area 20) (right_area 6)) (schedule (plain 0 true) (left_area 20) (right_area 6) lefts rights outs)) ≡ true)
unfolding lefts rights outs schedule rounds most_held meets_no_room speak_all events final left_frames right_frames outputs turns_in
follows = (refl, refl, refl, refl, refl)

-- The same notices with a price behind each key: the figures are the same, and four rows of two columns want 16 words.
abbrev pub priced : ℕ → ℕ → List Cell
priced k p = row (k ∷ p ∷ [])

unfoldable pub prices : List Words
prices =
    frame_of 2 (priced 10 100 ∷ priced 20 200 ∷ []) ∷ frame_of 2 (priced 20 201 ∷ priced 30 300 ∷ []) ∷ frame_of 2 (priced 40 400 ∷ []) ∷ []

unfoldable pub longer : List Words
longer = space 10 ∷ space 10 ∷ []

pub carried : (figures (carrying 1 (plain 0 true)) lefts prices ≡ told 4 4 2)
    × (meets_no_room (events (start (carrying 1 (plain 0 true)) (left_area 20) (right_area 16)) (schedule (carrying 1 (plain 0 true)) (left_area 20) (right_area 16) lefts prices longer)) ≡ false)
    × (meets_no_room (events (start (carrying 1 (plain 0 true)) (left_area 20) (right_area 15)) (schedule (carrying 1 (plain 0 true)) (left_area 20) (right_area 15) lefts prices longer)) ≡ true)
    × (outputs (events (start (carrying 1 (plain 0 true)) (left_area 20) (right_area 16)) (schedule (carrying 1 (plain 0 true)) (left_area 20) (right_area 16) lefts prices longer))
    ≡ map pos (2 ∷ 2 ∷ 0 ∷ 0 ∷ 0 ∷ 100 ∷ 0 ∷ 0 ∷ 1 ∷ 1 ∷ []) ∷ map pos (2 ∷ 2 ∷ 2 ∷ 201 ∷ 2 ∷ 201 ∷ 1 ∷ 1 ∷ 1 ∷ 1 ∷ []) ∷ [])
unfolding lefts prices longer plan plan_from last_prune kept_rows schedule rounds meets_no_room speak_all events final left_frames right_frames outputs
carried = (refl, refl, refl, refl)

-- By rank the stalls, 7, come first, then the circle, 3, then the gods, 5.
abbrev pub banded : List ℕ → Options
banded codes = ranking (ranks_by 0 (map pos codes)) (options 1 0 true (negsuc 0) false [] [])

abbrev pub bands : Options
bands = banded (7 ∷ 3 ∷ 5 ∷ [])

unfoldable pub sales : List Words
sales = frame_of 2 (map row ((7 ∷ 15 ∷ []) ∷ (3 ∷ 4 ∷ []) ∷ [])) ∷ frame_of 2 (map row ((5 ∷ 9 ∷ []) ∷ [])) ∷ []

unfoldable pub notices : List Words
notices =
    frame_of 2 (map row ((7 ∷ 10 ∷ []) ∷ (7 ∷ 12 ∷ []) ∷ [])) ∷ frame_of 2 (map row ((3 ∷ 1 ∷ []) ∷ (5 ∷ 2 ∷ []) ∷ [])) ∷ frame_of 2 (map row ((5 ∷ 20 ∷ []) ∷ [])) ∷ []

-- The circle's sale wants the frame behind the stalls' notices: four rows of two columns, 16 words. The turn drops the stalls' notices, and the gods' sale takes the last frame.
pub ranked : (figures bands sales notices ≡ told 4 5 3)
    × (meets_no_room (events (start bands (left_area 20) (right_area 16)) (schedule bands (left_area 20) (right_area 16) sales notices outs)) ≡ false)
    × (meets_no_room (events (start bands (left_area 20) (right_area 15)) (schedule bands (left_area 20) (right_area 15) sales notices outs)) ≡ true)
    × (outputs (events (start bands (left_area 20) (right_area 16)) (schedule bands (left_area 20) (right_area 16) sales notices outs))
    ≡ (pos 2 ∷ pos 1 ∷ pos 1 ∷ pos 2 ∷ pos 1 ∷ pos 1 ∷ []) ∷ (pos 1 ∷ pos 1 ∷ pos 3 ∷ pos 1 ∷ negsuc 8 ∷ negsuc 8 ∷ []) ∷ [])
unfolding sales notices outs plan plan_from last_prune kept_rows schedule rounds meets_no_room speak_all events final left_frames right_frames outputs rises rises_behind placed below listed unlisted_in
ranked = (refl, refl, refl, refl)
