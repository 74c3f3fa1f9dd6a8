-- Matches at small tables. Assumes nothing.
use Rattle.std.specs.Prelude.{Some, None}
use mathlib.Core.Path.{◌≡◌, refl}
use mathlib.Core.Bool.{true, false}
use mathlib.Core.List.{[], ◌∷◌}
use Prim.Native.Nat.{◌^◌, ◌-◌}
use lib.IntN.{pos, negsuc}
use Rattle.frames.specs.Cells.{null, value}
use Rattle.order.specs.Order.{cmp_first, null_in}
use Rattle.order.proofs.Samples.{options, plain, row, keys}
use Rattle.order.specs.declared.options.Options.{Options}
use Rattle.matching.specs.Match.{fits, takes_over, choose, tolerate, match_in, match_table, whole_table}
use Rattle.matching.specs.Moves.{Move, left_on, right_on, walk_on, walk}
use Rattle.matching.specs.Groups.{match_frame, by_runs, runs, join_run, pass, passes, used}

abbrev grouped : Options
grouped = options 1 0 true (negsuc 0) false [] []

-- A nearest tie goes to the greater key, of equal keys to the last; distances reach to 2^64 − 1.
pub ties :
    match_in (plain 2 true) 0 (keys (10 ∷ 20 ∷ [])) (row (15 ∷ [])) ∷ match_in (plain 2 true) 0 (keys (10 ∷ 20 ∷ 20 ∷ [])) (row (15 ∷ []))
    ∷ match_in (plain 2 true) 0 ((value (negsuc (2 ^ 63 - 1)) ∷ []) ∷ (value (pos 0) ∷ []) ∷ []) (value (pos (2 ^ 63 - 1)) ∷ []) ∷ []
    ≡ Some 1 ∷ Some 2 ∷ Some 1 ∷ []
unfolding match_in choose tolerate fits takes_over
ties = refl

-- Null groups do not match each other: by runs, and in the whole table.
pub nulls :
    match_frame grouped 0 ((null ∷ value (pos 1) ∷ []) ∷ row (1 ∷ 1 ∷ []) ∷ []) ((null ∷ value (pos 2) ∷ []) ∷ row (1 ∷ 2 ∷ []) ∷ row (1 ∷ 0 ∷ []) ∷ row (3 ∷ 2 ∷ []) ∷ []) ≡ None ∷ Some 1 ∷ None ∷ None ∷ []
unfolding match_frame by_runs runs join_run pass passes used match_in choose tolerate fits takes_over cmp_first null_in
nulls = refl

pub nulls_whole :
    whole_table grouped ((null ∷ value (pos 1) ∷ []) ∷ row (1 ∷ 1 ∷ []) ∷ []) (null ∷ value (pos 2) ∷ []) ≡ None
unfolding whole_table match_table choose tolerate fits takes_over cmp_first null_in
nulls_whole = refl

-- Equal keys: Backward and Forward with equality take them, Backward the last of them, Forward the first; without equality they are passed over.
pub equals :
    match_in (plain 0 true) 0 (keys (10 ∷ 20 ∷ 20 ∷ 30 ∷ [])) (row (20 ∷ [])) ∷ match_in (plain 0 false) 0 (keys (10 ∷ 20 ∷ 20 ∷ 30 ∷ [])) (row (20 ∷ []))
    ∷ match_in (plain 1 true) 0 (keys (10 ∷ 20 ∷ 20 ∷ 30 ∷ [])) (row (20 ∷ [])) ∷ match_in (plain 1 false) 0 (keys (10 ∷ 20 ∷ 20 ∷ 30 ∷ [])) (row (20 ∷ [])) ∷ []
    ≡ Some 2 ∷ Some 0 ∷ Some 1 ∷ Some 3 ∷ []
unfolding match_in choose tolerate fits takes_over
equals = refl

-- A distance equal to the tolerance is within it.
pub tolerances :
    match_in (options 0 0 true (pos 4) false [] []) 0 (keys (20 ∷ [])) (row (25 ∷ [])) ∷ match_in (options 0 0 true (pos 5) false [] []) 0 (keys (20 ∷ [])) (row (25 ∷ [])) ∷ []
    ≡ None ∷ Some 0 ∷ []
unfolding match_in choose tolerate fits takes_over
tolerances = refl

-- The moves of a walk, one after the other: Backward rests one row after its match, Forward and Nearest at theirs, and each left row goes on from where the one before it stopped.
pub walks :
    walk (plain 0 true) (keys (15 ∷ 15 ∷ 30 ∷ [])) (keys (10 ∷ 20 ∷ 30 ∷ [])) ∷ walk (plain 1 true) (keys (15 ∷ 15 ∷ 30 ∷ [])) (keys (10 ∷ 20 ∷ 30 ∷ []))
    ∷ walk (plain 2 true) (keys (15 ∷ 15 ∷ 30 ∷ [])) (keys (10 ∷ 20 ∷ 30 ∷ [])) ∷ []
    ≡ (right_on ∷ left_on ∷ left_on ∷ right_on ∷ right_on ∷ left_on ∷ []) ∷ (right_on ∷ left_on ∷ left_on ∷ right_on ∷ left_on ∷ []) ∷ (right_on ∷ left_on ∷ left_on ∷ right_on ∷ left_on ∷ []) ∷ []
unfolding walk walk_on
walks = refl

-- Rows without a key: on the right they are passed first, on the left they move the left cursor alone.
pub walks_nulls :
    walk (plain 1 true) ((null ∷ []) ∷ row (5 ∷ []) ∷ []) ((null ∷ []) ∷ (null ∷ []) ∷ row (1 ∷ []) ∷ []) ∷ walk (plain 2 true) (keys (5 ∷ [])) ((null ∷ []) ∷ []) ∷ []
    ≡ (right_on ∷ right_on ∷ left_on ∷ right_on ∷ left_on ∷ []) ∷ (right_on ∷ left_on ∷ []) ∷ []
unfolding walk walk_on
walks_nulls = refl

-- Rows in no order: a null run is passed wherever it stands, and a null left run leaves the cursor.
abbrev lasting : Options
lasting = options 1 0 true (negsuc 0) false [] (true ∷ [])

pub cursor :
    match_frame lasting 0 ((null ∷ value (pos 1) ∷ []) ∷ row (1 ∷ 1 ∷ []) ∷ []) (row (1 ∷ 1 ∷ []) ∷ []) ≡ Some 1 ∷ []
unfolding match_frame by_runs runs join_run pass passes used match_in choose tolerate fits takes_over cmp_first null_in
cursor = refl

pub cursor_stays :
    match_frame lasting 0 (row (1 ∷ 1 ∷ []) ∷ []) ((null ∷ value (pos 1) ∷ []) ∷ row (1 ∷ 1 ∷ []) ∷ []) ≡ None ∷ Some 0 ∷ []
unfolding match_frame by_runs runs join_run pass passes used match_in choose tolerate fits takes_over cmp_first null_in
cursor_stays = refl
