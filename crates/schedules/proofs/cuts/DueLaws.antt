-- What is due for a left row of a pair, over the pair's own right rows, is due over the uncut table once the right rows before the pair are counted: the row that is
-- matched, what it carries and how far it is, is the same of both. Assumes nothing.
use Rattle.std.specs.Prelude.{Option, Some, None}
use mathlib.Core.Path.{◌≡◌, refl, sym, ap, ◌∙◌}
use mathlib.Core.Bool.{Bool, true, false, cond}
use mathlib.Core.List.{List, [], ◌∷◌, ◌++◌, append-nil, append_assoc, map, map-append, map-map}
use Prim.Native.Nat.{ℕ, suc, ◌+◌, ◌-◌}
use native.Mathlib.Omega.{arith}
use lib.ListN.{length, take, drop, replicate, take-append-drop, length-append}
use lib.Seq.{drop_at, length-take-le}
use Rattle.frames.specs.Cells.{Cell, null, Rows}
use Rattle.order.specs.declared.options.Options.{Options}
use Rattle.order.specs.Order.{cmp_group}
use Rattle.std.specs.declared.cmp.Ordering.TheVariants.{Less}
use Rattle.order.proofs.OrderLaws.{AtMost}
use Rattle.order.proofs.SortedLaws.{All, ordered, sorted_drop}
use Rattle.matching.specs.Match.{whole_table}
use Rattle.matching.specs.Answer.{answer_row}
use Rattle.matching.proofs.FromLaws.{From, table_from, row_from_lem}
use Rattle.lists.specs.Lists.{Entry}
use Rattle.lists.specs.WholeTables.{as_written, due_over}
use Rattle.cutting.specs.boundaries.Boundaries.{cut_at}
use Rattle.cutting.specs.cutpairs.Cut.{Pair, behind, cut_by}
use Rattle.schedules.specs.cuts.Appended.{later}
use Rattle.schedules.specs.cuts.Apart.{BothSorted, later_entry}
use Rattle.cutting.proofs.boundaries.PlaceLaws.{cut_within}
use Rattle.schedules.proofs.cuts.CutLaws.{cut_before, cut_behind, match_later, match_before, match_behind}

-- Two functions that agree on each row.
pub map_agree : {A : Type 0} (f g : List Cell → A) (xs : Rows) → All (λ x. f x ≡ g x) xs → map f xs ≡ map g xs
map_agree f g [] h = refl
map_agree f g (x ∷ xs) h = rw (h.0, map_agree f g xs h.1)

pub all_to : (P Q : List Cell → Type 0) (f : (x : List Cell) → P x → Q x) (xs : Rows) → All P xs → All Q xs
all_to P Q f [] h = tt
all_to P Q f (x ∷ xs) h = (f x h.0, all_to P Q f xs h.1)

map_same : {A : Type 0} (f g : List Cell → A) → ((x : List Cell) → f x ≡ g x) → (xs : Rows) → map f xs ≡ map g xs
map_same f g h [] = refl
map_same f g h (x ∷ xs) = rw (h x, map_same f g h xs)

-- Numbers counted on twice, and not at all.
pub later_twice : (n k : ℕ) (m : Option ℕ) → later (n + k) m ≡ later n (later k m)
later_twice n k (Some i) = let q : n + k + i ≡ n + (k + i) = omega arith in rw q
later_twice n k None = refl

pub later_zero : (m : Option ℕ) → later 0 m ≡ m
later_zero (Some i) = let q : 0 + i ≡ i = omega arith in rw q
later_zero None = refl

module _ (o : Options) where
  -- No match is null in its first column, however many there are, and stays as it is.
  later_none : (n : ℕ) (d : Bool) → let r = replicate (cond d (suc (suc o.carried)) (suc o.carried)) null in later_entry n (as_written r) ≡ as_written r
  later_none n true = refl
  later_none n false = refl

  -- A row of the answer as it is written, counted on: the row of the counted choice, over rows whose first has the number n.
  later_row : (x : List Cell) (n : ℕ) (R : Rows) (m : Option ℕ) → later_entry n (as_written (answer_row o 0 R x m)) ≡ as_written (answer_row o n R x (later n m))
  unfolding answer_row
  later_row x n R (Some k) = let z : n + k - n ≡ k - 0 = omega arith in rw z
  later_row x n R None = later_none n o.with_distance

  -- What is due for x over the right rows R, which stand behind the rows A of a table and before the rows B.
  abbrev pub due_within : Rows → Rows → Rows → List Cell → Entry
  due_within A R B x = as_written (answer_row o 0 ((A ++ R) ++ B) x (later (length A) (whole_table o R x)))

  pub later_due : (A R B : Rows) (x : List Cell) → later_entry (length A) (due_over o R x) ≡ due_within A R B x
  later_due A R B x =
      let n = length A in
      let m = later n (whole_table o R x) in
      let d : drop n (A ++ R) ≡ R = drop_at A R n refl in
      let f : From n (n + length R) m = rw (match_later o x n R) at (table_from o x n R) in
      later_row x n R (whole_table o R x) ∙ ap as_written (rw d at (row_from_lem o n (A ++ R) B x m (rw d f)))

  later_dues : (A R B L : Rows) → map (later_entry (length A)) (map (due_over o R) L) ≡ map (due_within A R B) L
  later_dues A R B L = map-map (later_entry (length A)) (due_over o R) L ∙ map_same (λ x. later_entry (length A) (due_over o R x)) (due_within A R B) (later_due A R B) L

  -- The dues of pairs appended, where n right rows stand before the first.
  unfoldable pub all_due : ℕ → List Pair → List Entry
  all_due n [] = []
  all_due n (p ∷ ps) = map (later_entry n) (map (due_over o p.right) p.left) ++ all_due (n + length p.right) ps

  -- One cut of a pair that stands behind the right rows A.
  module _ (g : List Cell) (A : Rows) (p : Pair) (s : BothSorted o p) where
    abbrev a : ℕ
    a = cut_at o g p.left

    abbrev b : ℕ
    b = cut_at o g p.right

    abbrev R₁ : Rows
    R₁ = take b p.right

    abbrev R₂ : Rows
    R₂ = drop b p.right

    parts : R₁ ++ R₂ ≡ p.right
    parts = take-append-drop b p.right

    -- The whole table is the same.
    whole_before : (A ++ R₁) ++ R₂ ≡ (A ++ p.right) ++ []
    whole_before = append_assoc A R₁ R₂ ∙ ap (λ (z : Rows). A ++ z) parts ∙ sym (append-nil (A ++ p.right))

    whole_behind : ((A ++ R₁) ++ R₂) ++ [] ≡ (A ++ p.right) ++ []
    whole_behind = append-nil ((A ++ R₁) ++ R₂) ∙ whole_before

    count : length (A ++ R₁) ≡ length A + b
    count = length-append A R₁ ∙ ap (λ (k : ℕ). length A + k) (length-take-le b p.right (cut_within o g p.right))

    -- For a left row before the cut, and for one behind it.
    due_before : map (due_within A R₁ R₂) (take a p.left) ≡ map (due_within A p.right []) (take a p.left)
    due_before =
        map_agree (due_within A R₁ R₂) (due_within A p.right []) (take a p.left) (all_to (λ x. cmp_group o x g ≡ Less) (λ x. due_within A R₁ R₂ x ≡ due_within A p.right [] x) (λ x l. rw (whole_before, match_before o g p.right s.1 x l) refl) (take a p.left) (cut_before o g p.left))

    due_behind : map (due_within (A ++ R₁) R₂ []) (drop a p.left) ≡ map (due_within A p.right []) (drop a p.left)
    due_behind =
        map_agree (due_within (A ++ R₁) R₂ []) (due_within A p.right []) (drop a p.left)
        (all_to (λ x. AtMost (cmp_group o) g x) (λ x. due_within (A ++ R₁) R₂ [] x ≡ due_within A p.right [] x) (λ x h. rw (whole_behind, count, later_twice (length A) b (whole_table o R₂ x), match_behind o g p.right s.1 x h) refl) (drop a p.left) (cut_behind o g p.left (ordered o p.left s.0)))

    pub due_cut : map (due_within A R₁ R₂) (take a p.left) ++ map (due_within (A ++ R₁) R₂ []) (drop a p.left) ≡ map (due_within A p.right []) p.left
    due_cut =
        rw (due_before, due_behind)
        (sym (map-append (due_within A p.right []) (take a p.left) (drop a p.left)) ∙ ap (map (due_within A p.right [])) (take-append-drop a p.left))

    pub behind_sorted : BothSorted o (behind o g p)
    behind_sorted = (sorted_drop o a p.left s.0, sorted_drop o b p.right s.1)

  -- All cuts.
  cuts_due : (gs : Rows) (A : Rows) (p : Pair) → BothSorted o p → all_due (length A) (cut_by o gs p) ≡ map (due_within A p.right []) p.left
  unfolding all_due cut_by
  cuts_due [] A p s = append-nil (map (later_entry (length A)) (map (due_over o p.right) p.left)) ∙ later_dues A p.right [] p.left
  cuts_due (g ∷ gs) A p s =
      rw (later_dues A (R₁ g A p s) (R₂ g A p s) (take (a g A p s) p.left), ← length-append A (R₁ g A p s), cuts_due gs (A ++ R₁ g A p s) (behind o g p) (behind_sorted g A p s)) (due_cut g A p s)

  -- So over the uncut tables.
  pub uncut_due : (gs : Rows) (p : Pair) → BothSorted o p → all_due 0 (cut_by o gs p) ≡ map (due_over o p.right) p.left
  uncut_due gs p s =
      cuts_due gs [] p s
      ∙ map_same (due_within [] p.right []) (due_over o p.right) (λ x. rw (append-nil p.right, later_zero (whole_table o p.right x)) refl) p.left
