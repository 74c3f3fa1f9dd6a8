-- Sales that come in group order, and what counting their rows asks. Assumes nothing.
use Rattle.std.specs.Prelude.{◌≡◌, Bool, true, cond, List, ℕ, ◌+◌, ◌<◌, length}
use Rattle.frames.specs.Cells.{Cell, Words}
use Rattle.order.specs.options.Options.{Few}
use Rattle.order.specs.declared.options.Options.{Options}
use Rattle.order.specs.Order.{cmp_group}
use Rattle.std.specs.declared.cmp.Ordering.{Ordering}
use Rattle.std.specs.declared.cmp.Ordering.TheVariants.{Less, Equal}
use Rattle.sales.specs.salekind.Kinds.{kind_of}
use Rattle.sales.specs.salecount.Counts.{is_amount}

-- How the last sale's group, if there was one, stands to that of the left row x.
abbrev pub group_side : Options → Bool → List Cell → List Cell → Ordering
group_side o any l x = cond any (cmp_group o l x) Less

-- The same, if x with its answer row a is a sale with an amount.
abbrev pub side_of : Options → Bool → List Cell → List Cell → List Cell → Ordering
side_of o any l x a = cond (is_amount (kind_of o x a)) (group_side o any l x) Equal

-- Two left rows and an answer row are there, and groups compare.
pub record SideIn (o : Options) (any : Bool) (p q : ℕ) (lv lm : Words) (z : ℕ) (am : Words) : Type 0 where
  pub compare : Few o
  pub last : any ≡ true → (p + o.by < length lv) × (p + o.by < length lm)
  pub values : q + o.by < length lv
  pub marks : q + o.by < length lm
  pub answer : z + 1 < length am
