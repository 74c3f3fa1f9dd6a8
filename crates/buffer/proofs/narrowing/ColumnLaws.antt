-- A stretch narrowed by one column: by two finds, and as a step of narrowing. Assumes nothing.
use mathlib.Core.Path.{◌≡◌, ◌∙◌}
use mathlib.Core.List.{List}
use mathlib.Core.Bool.{true, false}
use Prim.Native.Nat.{ℕ, ◌≤◌}
use native.Mathlib.Omega.{arith}
use lib.ListN.{length, take, get_or}
use Rattle.frames.specs.Cells.{Cell, cell, Rows}
use Rattle.order.specs.ranks.Ranks.{Indexed}
use Rattle.order.specs.options.Options.{Rule, by_rule, is_ranked, Few}
use Rattle.order.specs.declared.options.Options.{Options}
use Rattle.order.proofs.ranks.KeptLaws.{none_indexed}
use Rattle.order.proofs.options.OptionLaws.{ranked_list, ranked_rule, plain_rule}
use Rattle.searching.specs.Search.{find}
use Rattle.searching.specs.Reach.{Range, narrow_by}
use Rattle.searching.specs.declared.Seek.TheVariants.{AtLeast, Above}
use Rattle.buffer.specs.narrowing.Column.{narrow_to}

-- What two finds give.
pub narrowed_to : (k : Rule) (j : ℕ) (x : Cell) (held : Rows) (s : Range) (a b : ℕ) → a ≡ find AtLeast k j x held s.start s.end → b ≡ find Above k j x held a s.end
    → ◌≡◌ {A = Range} (record { start = a; end = b }) (narrow_to k j x held s)
unfolding narrow_to
narrowed_to k j x held s a b e f = rw (f, e)

-- By the rule of by-column j and the left row's cell it is the step by that column.
pub column_step : (o : Options) (held : Rows) (t : List Cell) (k : Rule) (j : ℕ) (x : Cell) (s r : Range) → k ≡ by_rule o j → cell j t ≡ x → r ≡ narrow_to k j x held s → r ≡ narrow_by o held t j s
unfolding narrow_to narrow_by
column_step o held t k j x s r e f g = g ∙ rw (e, f)

-- By-column j goes by n codes and as many places: those of the list where it has the list, and none where it has not.
pub record Taken (o : Options) (j n : ℕ) : Type 0 where
  pub codes : n ≤ length o.ranks.codes
  pub places : n ≤ length o.ranks.rising
  pub indexed : Indexed (take n o.ranks.codes) (take n o.ranks.rising)
  pub rule : ◌≡◌ {A = Rule} (record { descending = get_or o.descending j false; nulls_last = get_or o.nulls_last j false; codes = take n o.ranks.codes }) (by_rule o j)

pub taken_list : (o : Options) (j n : ℕ) → Few o → is_ranked o j ≡ true → n ≡ o.ranks.count → Taken o j n
taken_list o j n few e f =
    let k = ranked_list o j e few in
    rw f (record { codes = k.codes; places = k.places; indexed = k.indexed; rule = ranked_rule o j e })

pub taken_none : (o : Options) (j n : ℕ) → is_ranked o j ≡ false → n ≡ 0 → Taken o j n
taken_none o j n e f = rw f (record { codes = omega arith; places = omega arith; indexed = none_indexed; rule = plain_rule o j e })
