-- The pairs by the places of the cuts in the uncut tables, as the call for these places tells them (SCOPE 19.27). The statement; its proof stands in proofs/. Assumes nothing.
use Rattle.std.specs.Prelude.{◌≡◌, true, List, [], ◌∷◌, map, ℕ, ◌-◌, take, drop}
use Rattle.frames.specs.Cells.{Rows}
use Rattle.order.specs.declared.options.Options.{Options}
use Rattle.cutting.specs.boundaries.Boundaries.{cut_at, ascending}
use Rattle.cutting.specs.cutpairs.Cut.{Pair, cut_by}

-- The stretches of a table between one place and the next, from row `from` on; the last goes to the end.
unfoldable pub stretches : ℕ → List ℕ → Rows → List Rows
stretches from [] rows = drop from rows ∷ []
stretches from (k ∷ ks) rows = take (k - from) (drop from rows) ∷ stretches k ks rows

-- The places of a table's cuts.
abbrev pub places_in : Options → Rows → Rows → List ℕ
places_in o gs rows = map (λ g. cut_at o g rows) gs

-- Both tables are cut at their places.
pub record AtPlaces (o : Options) (gs : Rows) (p : Pair) : Type 0 where
  pub left : map (λ q. q.left) (cut_by o gs p) ≡ stretches 0 (places_in o gs p.left) p.left
  pub right : map (λ q. q.right) (cut_by o gs p) ≡ stretches 0 (places_in o gs p.right) p.right

-- For all boundaries that ascend, and all tables.
abbrev pub CutAtPlaces : Type 0
CutAtPlaces = (o : Options) (gs : Rows) → ascending o gs ≡ true → (p : Pair) → AtPlaces o gs p
