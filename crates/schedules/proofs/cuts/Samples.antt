-- A programme cut in parts, by computation: an absent boundary group, empty halves, null groups, a list of ranks, and numbers counted on. Assumes nothing.
use Rattle.std.specs.Prelude.{Some, None}
use mathlib.Core.Path.{◌≡◌, refl}
use mathlib.Core.Bool.{true, false}
use mathlib.Core.List.{List, [], ◌∷◌, map}
use Prim.Native.Nat.{ℕ}
use lib.IntN.{pos, negsuc}
use lib.ListN.{length}
use Rattle.frames.specs.Cells.{null, value}
use Rattle.order.specs.Order.{cmp_first, null_in}
use Rattle.order.proofs.Samples.{options, ranks_by, ranking, row}
use Rattle.order.specs.ranks.Ranks.{below, placed}
use Rattle.order.specs.declared.options.Options.{Options}
use Rattle.matching.specs.Match.{choose, takes_over, fits, tolerate, match_table, whole_table}
use Rattle.lists.specs.Lists.{Entry}
use Rattle.cutting.specs.boundaries.Boundaries.{cut_at}
use Rattle.schedules.specs.cuts.Apart.{later_entry}
use Rattle.cutting.specs.cutpairs.Cut.{Pair, cut_by, joined}
use Rattle.schedules.specs.cuts.Appended.{appended}

-- Backward, one by-column; the same descending, nulls last.
abbrev pub up : Options
up = options 1 0 true (negsuc 0) false [] []

abbrev pub down : Options
down = options 1 0 true (negsuc 0) false (true ∷ []) (true ∷ [])

-- Performances 1, 2 and 4; a notice and a sale of none.
unfoldable pub season : Pair
season = record {
  left = (null ∷ value (pos 3) ∷ []) ∷ map row ((1 ∷ 15 ∷ []) ∷ (1 ∷ 16 ∷ []) ∷ (2 ∷ 4 ∷ []) ∷ (4 ∷ 9 ∷ []) ∷ (4 ∷ 30 ∷ []) ∷ []);
  right = (null ∷ value (pos 3) ∷ []) ∷ map row ((1 ∷ 10 ∷ []) ∷ (2 ∷ 5 ∷ []) ∷ (4 ∷ 1 ∷ []) ∷ (4 ∷ 20 ∷ []) ∷ []);
}

-- How many rows each pair has on either side.
pub record Size : Type 0 where
  pub lefts : ℕ
  pub rights : ℕ

abbrev pub size : ℕ → ℕ → Size
size l r = record { lefts = l; rights = r }

abbrev pub sizes : List Pair → List Size
sizes [] = []
sizes (p ∷ ps) = size (length p.left) (length p.right) ∷ sizes ps

-- By 2: cut before it. By 3, which is absent: behind it. By 1, then 9: no rows are behind the last.
pub cut : (sizes (cut_by up (map row ((2 ∷ []) ∷ [])) season) ≡ size 3 2 ∷ size 3 3 ∷ [])
    × (sizes (cut_by up (map row ((3 ∷ []) ∷ [])) season) ≡ size 4 3 ∷ size 2 2 ∷ [])
    × (sizes (cut_by up (map row ((1 ∷ []) ∷ (9 ∷ []) ∷ [])) season) ≡ size 1 1 ∷ size 5 4 ∷ size 0 0 ∷ [])
unfolding cut_by cut_at season cmp_first
cut = (refl, refl, refl)

-- Descending, nulls last: 4, 4, 2, 1, none.
unfoldable pub turned : Pair
turned = record {
  left = map row ((4 ∷ 9 ∷ []) ∷ (1 ∷ 15 ∷ []) ∷ []);
  right = map row ((4 ∷ 1 ∷ []) ∷ (2 ∷ 5 ∷ []) ∷ (1 ∷ 10 ∷ []) ∷ []);
}

pub cut_down : sizes (cut_by down (map row ((3 ∷ []) ∷ (2 ∷ []) ∷ [])) turned) ≡ size 1 1 ∷ size 0 0 ∷ size 1 2 ∷ []
unfolding cut_by cut_at turned cmp_first
cut_down = refl

-- By rank the stalls, 7, come first, then the circle, 3, then the gods, 5; descending, the other way round.
abbrev pub ranked : Options → Options
ranked o = ranking (ranks_by 0 (map pos (7 ∷ 3 ∷ 5 ∷ []))) o

unfoldable pub house : Pair
house = record {
  left = map row ((7 ∷ 15 ∷ []) ∷ (3 ∷ 4 ∷ []) ∷ (5 ∷ 9 ∷ []) ∷ (5 ∷ 30 ∷ []) ∷ []);
  right = map row ((7 ∷ 10 ∷ []) ∷ (3 ∷ 1 ∷ []) ∷ (3 ∷ 2 ∷ []) ∷ (5 ∷ 1 ∷ []) ∷ (5 ∷ 20 ∷ []) ∷ []);
}

unfoldable pub house_down : Pair
house_down = record {
  left = map row ((5 ∷ 9 ∷ []) ∷ (5 ∷ 30 ∷ []) ∷ (3 ∷ 4 ∷ []) ∷ (7 ∷ 15 ∷ []) ∷ []);
  right = map row ((5 ∷ 1 ∷ []) ∷ (3 ∷ 1 ∷ []) ∷ (3 ∷ 2 ∷ []) ∷ (7 ∷ 10 ∷ []) ∷ []);
}

pub cut_ranked : (sizes (cut_by (ranked up) (map row ((3 ∷ []) ∷ (5 ∷ []) ∷ [])) house) ≡ size 1 1 ∷ size 1 2 ∷ size 2 2 ∷ [])
    × (sizes (cut_by (ranked down) (map row ((3 ∷ []) ∷ (7 ∷ []) ∷ [])) house_down) ≡ size 2 1 ∷ size 1 2 ∷ size 1 1 ∷ [])
unfolding cut_by cut_at house house_down cmp_first placed below
cut_ranked = (refl, refl)

pub parts_ranked : (joined (ranked up) house ≡ Some 0 ∷ Some 2 ∷ Some 3 ∷ Some 4 ∷ [])
    × (appended (ranked up) 0 (cut_by (ranked up) (map row ((3 ∷ []) ∷ (5 ∷ []) ∷ [])) house) ≡ Some 0 ∷ Some 2 ∷ Some 3 ∷ Some 4 ∷ [])
unfolding appended cut_by cut_at joined house whole_table match_table choose takes_over fits tolerate cmp_first null_in placed below
parts_ranked = (refl, refl)

-- The uncut join, and the answers of three pairs appended.
pub whole : joined up season ≡ None ∷ Some 1 ∷ Some 1 ∷ None ∷ Some 3 ∷ Some 4 ∷ []
unfolding joined season whole_table match_table choose takes_over fits tolerate cmp_first null_in
whole = refl

pub parts : appended up 0 (cut_by up (map row ((2 ∷ []) ∷ (3 ∷ []) ∷ [])) season) ≡ None ∷ Some 1 ∷ Some 1 ∷ None ∷ Some 3 ∷ Some 4 ∷ []
unfolding appended cut_by cut_at joined season whole_table match_table choose takes_over fits tolerate cmp_first null_in
parts = refl

-- Counted on by two: a number, not what is carried behind it; none stays as it is.
abbrev pub entry : List ℕ → List ℕ → Entry
entry vs ms = record { values = map pos vs; marks = map pos ms }

pub counted : map (later_entry 2) (entry (1 ∷ 500 ∷ []) (1 ∷ 1 ∷ []) ∷ entry (0 ∷ 0 ∷ []) (1 ∷ 0 ∷ []) ∷ entry (0 ∷ 0 ∷ []) (0 ∷ 0 ∷ []) ∷ [])
    ≡ entry (3 ∷ 500 ∷ []) (1 ∷ 1 ∷ []) ∷ entry (2 ∷ 0 ∷ []) (1 ∷ 0 ∷ []) ∷ entry (0 ∷ 0 ∷ []) (0 ∷ 0 ∷ []) ∷ []
counted = refl
