-- Matching by the three strategies; the whole table; qualifies. Assumes nothing.
use Rattle.std.specs.Prelude.{Bool, true, false, cond, not, ◌&&◌, ◌||◌, List, [], ◌∷◌, ℕ, suc, ltb, eqb, pos, nat_abs, Option, Some, None}
use Rattle.std.specs.Int.Signed.{le_z}
use Rattle.frames.specs.Cells.{Cell, Rows}
use Rattle.order.specs.options.Options.{strategy_of, key_rule}
use Rattle.order.specs.Order.{cmp_cell, cmp_group, is_less, is_equal, is_greater, key_of, null_group, null_key, distance}
use Rattle.order.specs.declared.options.Options.{Options}
use Rattle.std.specs.declared.cmp.Ordering.{Ordering}
use Rattle.order.specs.declared.options.Strategy.{Strategy}
use Rattle.order.specs.declared.options.Strategy.TheVariants.{Backward, Forward, Nearest}

-- The best row so far, with its number; or none.
pub data Hit : Type 0 where
  nobody : Hit
  hit : ℕ → List Cell → Hit

-- SCOPE 10.2: the side of the left key on which a right key may lie, by how it compares with the left key.
abbrev pub on_side : Strategy → Bool → Ordering → Bool
on_side Backward eq x = is_less x || (eq && is_equal x)
on_side Forward eq x = is_greater x || (eq && is_equal x)
on_side Nearest eq x = true

-- SCOPE 10.1, 10.2: the right row r may be chosen for the left row x, as far as keys decide.
unfoldable pub fits : Options → List Cell → List Cell → Bool
fits o x r = not (null_key o x) && not (null_key o r) && on_side (strategy_of o) o.allow_eq (cmp_cell key_rule (key_of o r) (key_of o x))

-- SCOPE 10.3, Nearest: for the left key v, the key r of a later row is preferred to the key c of an earlier one.
abbrev pub nearer : Cell → Cell → Cell → Bool
nearer v r c = ltb (distance r v) (distance c v) || (eqb (distance r v) (distance c v) && not (is_less (cmp_cell key_rule r c)))

-- SCOPE 10.3: for the left row x, the later row r is preferred to the earlier row c.
unfoldable pub takes_over : Options → Strategy → List Cell → List Cell → List Cell → Bool
takes_over o Backward x r c = true
takes_over o Forward x r c = false
takes_over o Nearest x r c = nearer (key_of o x) (key_of o r) (key_of o c)

-- The row r, numbered i, meets the choice so far.
abbrev pub meet : Options → List Cell → ℕ → List Cell → Hit → Hit
meet o x i r nobody = hit i r
meet o x i r (hit k c) = cond (takes_over o (strategy_of o) x r c) (hit i r) (hit k c)

-- The choice for x among rows numbered from i, of those that may be chosen, where c is the choice so far.
unfoldable pub choose : Options → List Cell → (List Cell → Bool) → Hit → ℕ → Rows → Hit
choose o x may c i [] = c
choose o x may c i (r ∷ rs) = choose o x may (cond (may r) (meet o x i r c) c) (suc i) rs

-- SCOPE 3.3: the tolerance is set, and the distance is greater.
abbrev pub too_far : Options → List Cell → List Cell → Bool
too_far o x r = le_z (pos 0) o.tolerance && ltb (nat_abs o.tolerance) (distance (key_of o r) (key_of o x))

-- SCOPE 10.4: the choice, unless it is too far.
unfoldable pub tolerate : Options → List Cell → Hit → Option ℕ
tolerate o x nobody = None
tolerate o x (hit i r) = cond (too_far o x r) None (Some i)

-- Matching: the choice for x among the rows of a run, numbered from i.
unfoldable pub match_in : Options → ℕ → Rows → List Cell → Option ℕ
match_in o i rows x = tolerate o x (choose o x (fits o x) nobody i rows)

-- Two rows of equal group, of which neither is null.
abbrev pub same_group : Options → List Cell → List Cell → Bool
same_group o x r = not (null_group o x) && not (null_group o r) && is_equal (cmp_group o r x)

-- Matching over all rows of equal group among the rows given, which are numbered from i.
unfoldable pub match_table : Options → ℕ → Rows → List Cell → Option ℕ
match_table o i rows x = tolerate o x (choose o x (λ r. same_group o x r && fits o x r) nobody i rows)

-- SCOPE 14: the whole-table rule.
unfoldable pub whole_table : Options → Rows → List Cell → Option ℕ
whole_table o rights x = match_table o 0 rights x

-- SCOPE 10.5: the right row r qualifies for the left row x.
unfoldable pub qualifies : Options → List Cell → List Cell → Bool
qualifies o x r = same_group o x r && fits o x r && not (too_far o x r)
