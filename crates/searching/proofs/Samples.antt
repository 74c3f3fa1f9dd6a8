-- Need more and the split of a prune, at small tables. Assumes nothing.
use mathlib.Core.Path.{◌≡◌, refl}
use mathlib.Core.Bool.{true, false}
use mathlib.Core.List.{[], ◌∷◌}
use lib.IntN.{negsuc}
use Rattle.frames.specs.Cells.{Rows}
use Rattle.order.proofs.Samples.{options, plain, row, keys}
use Rattle.order.specs.declared.options.Options.{Options}
use Rattle.searching.specs.Search.{search, search_for, find}
use Rattle.searching.specs.Reach.{narrow, narrow_by, key_needs_more, row_needs_more, need_more, split_at}

abbrev groups : Rows
groups = row (1 ∷ 10 ∷ []) ∷ row (1 ∷ 20 ∷ []) ∷ row (2 ∷ 5 ∷ []) ∷ []

abbrev grouped : Options
grouped = options 1 0 true (negsuc 0) false [] []

-- Backward keeps the row before the first key ≥ v; it does not step back into the previous group; Forward does not step back.
pub splits :
    split_at (plain 0 true) (row (25 ∷ [])) (keys (10 ∷ 20 ∷ 20 ∷ 30 ∷ [])) ∷ split_at grouped (row (2 ∷ 4 ∷ [])) groups ∷ split_at grouped (row (1 ∷ 15 ∷ [])) groups
    ∷ split_at (plain 1 true) (row (25 ∷ [])) (keys (10 ∷ 20 ∷ 20 ∷ 30 ∷ [])) ∷ []
    ≡ 2 ∷ 2 ∷ 0 ∷ 3 ∷ []
unfolding split_at narrow narrow_by find search search_for
splits = refl

-- Backward with equality is not complete at a first key equal to v; without equality it is; Nearest wants a second, greater key.
pub wants :
    need_more (plain 0 true) (keys (20 ∷ [])) (keys (10 ∷ 20 ∷ 20 ∷ [])) ∷ need_more (plain 0 false) (keys (20 ∷ [])) (keys (10 ∷ 20 ∷ 20 ∷ []))
    ∷ need_more (plain 2 true) (keys (25 ∷ [])) (keys (10 ∷ 20 ∷ 30 ∷ [])) ∷ need_more (plain 2 true) (keys (25 ∷ [])) (keys (10 ∷ 20 ∷ 30 ∷ 31 ∷ [])) ∷ []
    ≡ true ∷ false ∷ true ∷ false ∷ []
unfolding need_more row_needs_more key_needs_more narrow narrow_by find search search_for
wants = refl
