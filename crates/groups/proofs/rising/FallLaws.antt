-- Two neighbouring rows: whether the first is greater than the second, by their keys where their groups are equal. Assumes nothing.
use mathlib.Core.Path.{◌≡◌, refl}
use mathlib.Core.Bool.{true, false}
use mathlib.Core.List.{List}
use Rattle.frames.specs.Cells.{Cell, null, value, is_null}
use Rattle.order.specs.options.Options.{key_rule}
use Rattle.order.specs.declared.options.Options.{Options}
use Rattle.order.specs.Order.{cmp_cell, cmp_group, cmp_row, is_greater, key_of}
use Rattle.std.specs.declared.cmp.Ordering.TheVariants.{Equal}

-- A null is greater than no key.
pub null_first : (x y : Cell) → is_null x ≡ true → is_greater (cmp_cell key_rule x y) ≡ false
null_first null null e = refl
null_first null (value b) e = refl
null_first (value a) y e = cc

-- In equal groups the keys decide.
pub keys_decide : (o : Options) (r s : List Cell) → cmp_group o r s ≡ Equal → cmp_row o r s ≡ cmp_cell key_rule (key_of o r) (key_of o s)
unfolding cmp_row
keys_decide o r s e = rw e
