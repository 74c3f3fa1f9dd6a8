-- A rival's notices cannot move a company's matches: one group of two lists of calls. The statement; its proof stands in proofs/. Assumes nothing.
use Rattle.std.specs.Prelude.{◌≡◌, Bool, true, false, cond, ◌&&◌, List, [], ◌∷◌, map, ℕ, ltb, ℤ, pos, negsuc, length, take, get_or, Option, Some, None}
use Rattle.frames.specs.Cells.{Cell, Rows, Words, is_zero}
use Rattle.order.specs.options.Options.{refused_options}
use Rattle.order.specs.Order.{cmp_group, is_equal, null_group}
use Rattle.order.specs.declared.options.Options.{Options}
use Rattle.matching.specs.Match.{whole_table}
use Rattle.lists.specs.Lists.{Call, Entry, left_frames, outputs, is_right_ended}
use Rattle.lists.specs.WholeTables.{all, lefts, rights, turned_rows, matches, Declared}

-- A group is told by any row g of it. A row is of that group if its by-values are equal.
abbrev pub in_group : Options → List Cell → List Cell → Bool
in_group o g r = is_equal (cmp_group o r g)

-- The rows of one group, in order.
unfoldable pub of_group : Options → List Cell → Rows → Rows
of_group o g [] = []
of_group o g (r ∷ rs) = cond (in_group o g r) (r ∷ of_group o g rs) (of_group o g rs)

-- The matches of that group: of the matches written, one beside each left row, those beside its rows.
unfoldable pub written_for : Options → List Cell → Rows → List Entry → List Entry
written_for o g [] es = []
written_for o g (x ∷ xs) [] = []
written_for o g (x ∷ xs) (e ∷ es) = cond (in_group o g x) (e ∷ written_for o g xs es) (written_for o g xs es)

-- What a match is to the group: none; the place, among the group's own notices, of the row that it names; or a row that is none of these.
pub data Own : Type 0 where
  none : Own
  place : ℕ → Own
  foreign : Own

-- SCOPE 18.1: how many of the group's own right rows come before right row n.
abbrev pub own_before : Options → List Cell → Rows → ℕ → ℕ
own_before o g rights n = length (of_group o g (take n rights))

-- Of a right number.
unfoldable pub own_at : Options → List Cell → Rows → ℤ → Own
own_at o g rights (pos n) = cond (ltb n (length rights) && in_group o g (get_or rights n [])) (place (own_before o g rights n)) foreign
own_at o g rights (negsuc n) = foreign

-- Of a match as it is written, by its right number and the number's mark.
unfoldable pub own : Options → List Cell → Rows → Entry → Own
own o g rights e = cond (is_zero (get_or e.marks 0 (pos 0))) none (own_at o g rights (get_or e.values 0 (pos 0)))

-- Of a match over the group's own notices alone.
abbrev pub own_choice : Option ℕ → Own
own_choice (Some k) = place k
own_choice None = none

-- One group of a list of calls (SCOPE 15).
module _ (o : Options) (g : List Cell) (l r : Words) (calls : List Call) where
  -- Its left rows and its right rows, among those that the list accepts.
  abbrev pub own_lefts : Rows
  own_lefts = of_group o g (lefts o l r calls)

  -- Its own notices.
  abbrev pub own_rights : Rows
  own_rights = of_group o g (rights o l r calls)

  -- Its matches, each counted by position among its own notices.
  abbrev pub own_matches : List Own
  own_matches = map (own o g (rights o l r calls)) (written_for o g (turned_rows o l r calls) (matches o l r calls))

  -- Sorted sides: then these are, at any point of the list, the matches of the group's left rows turned over its own notices alone, as if no other group were there.
  abbrev pub Alone : Type 0
  Alone = Declared o l r calls → own_matches ≡ map (λ x. own_choice (whole_table o own_rights x)) (of_group o g (turned_rows o l r calls))

-- SCOPE 18.2: what is supposed of each of the two lists.
pub record Finished (o : Options) (l r : Words) (calls : List Call) : Type 0 where
  pub declared : Declared o l r calls
  pub ended : is_right_ended (all o l r calls) ≡ true
  pub turned : length (outputs (all o l r calls)) ≡ length (left_frames (all o l r calls))

-- SCOPE 18.2 is `same`, for two lists with areas of their own. SCOPE 18.3 is `alone`, for one list: a match of a group is none or one of
-- the group's own right rows, the one that the whole-table rule gives over these alone.
pub record Isolation : Type 0 where
  pub alone : (o : Options) → refused_options o ≡ false → (g : List Cell) (l r : Words) (calls : List Call) → Alone o g l r calls
  pub same : (o : Options) → refused_options o ≡ false → (g : List Cell) → null_group o g ≡ false
      → (l₁ r₁ : Words) (calls₁ : List Call) → Finished o l₁ r₁ calls₁ → (l₂ r₂ : Words) (calls₂ : List Call) → Finished o l₂ r₂ calls₂
      → own_lefts o g l₁ r₁ calls₁ ≡ own_lefts o g l₂ r₂ calls₂ → own_rights o g l₁ r₁ calls₁ ≡ own_rights o g l₂ r₂ calls₂
      → own_matches o g l₁ r₁ calls₁ ≡ own_matches o g l₂ r₂ calls₂
