-- The order of cells, groups and rows. Assumes nothing.
use Rattle.std.specs.Prelude.{Bool, true, false, cond, not, ◌&&◌, ◌||◌, List, [], ◌∷◌, ℕ, zero, suc, ℤ, pos, nat_abs, ◌-ℤ◌}
use Rattle.std.specs.Int.Signed.{lt_z}
use Rattle.frames.specs.Cells.{Cell, null, value, cell, is_null, Rows, Words}
use Rattle.order.specs.ranks.Ranks.{place_in}
use Rattle.order.specs.options.Options.{Rule, by_rule, key_rule}
use Rattle.order.specs.declared.options.Options.{Options}
use Rattle.std.specs.declared.cmp.Ordering.{Ordering}
use Rattle.std.specs.declared.cmp.Ordering.TheVariants.{Less, Equal, Greater}

-- The first is before the other.
abbrev pub is_less : Ordering → Bool
is_less Less = true
is_less Equal = false
is_less Greater = false

-- Neither is before the other.
abbrev pub is_equal : Ordering → Bool
is_equal Less = false
is_equal Equal = true
is_equal Greater = false

-- The first is after the other.
abbrev pub is_greater : Ordering → Bool
is_greater Less = false
is_greater Equal = false
is_greater Greater = true

-- The first that is not Equal decides.
abbrev pub next : Ordering → Ordering → Ordering
next Less y = Less
next Equal y = y
next Greater y = Greater

-- Values compare as numbers.
abbrev pub cmp_z : ℤ → ℤ → Ordering
cmp_z a b = cond (lt_z a b) Less (cond (lt_z b a) Greater Equal)

-- SCOPE 4.9: values of a column with a list compare by place in it; values that it lacks stand behind all that it has, by number. Without a
-- list all are such values. Equal are equal numbers alone.
abbrev pub cmp_value : Words → ℤ → ℤ → Ordering
cmp_value cs a b = next (cmp_z (pos (place_in cs a)) (pos (place_in cs b))) (cmp_z a b)

-- SCOPE 4.1, 4.2: two cells of one column.
abbrev pub cmp_cell : Rule → Cell → Cell → Ordering
cmp_cell k null null = Equal
cmp_cell k null (value b) = cond k.nulls_last Greater Less
cmp_cell k (value a) null = cond k.nulls_last Less Greater
cmp_cell k (value a) (value b) = cond k.descending (cmp_value k.codes b a) (cmp_value k.codes a b)

-- SCOPE 4.4: two rows by their first j by-columns.
unfoldable pub cmp_first : Options → ℕ → List Cell → List Cell → Ordering
cmp_first o zero r s = Equal
cmp_first o (suc j) r s = next (cmp_first o j r s) (cmp_cell (by_rule o j) (cell j r) (cell j s))

-- SCOPE 4.6: two rows by their groups alone.
abbrev pub cmp_group : Options → List Cell → List Cell → Ordering
cmp_group o r s = cmp_first o o.by r s

-- The key is column b.
abbrev pub key_of : Options → List Cell → Cell
key_of o r = cell o.by r

-- SCOPE 4.4: two rows, by group and then by key.
unfoldable pub cmp_row : Options → List Cell → List Cell → Ordering
cmp_row o r s = next (cmp_group o r s) (cmp_cell key_rule (key_of o r) (key_of o s))

-- SCOPE 4.5: rows are sorted.
unfoldable pub sorted : Options → Rows → Bool
sorted o [] = true
sorted o (r ∷ []) = true
sorted o (r ∷ s ∷ rs) = not (is_greater (cmp_row o r s)) && sorted o (s ∷ rs)

-- SCOPE 4.7: among the first j by-values there is a null.
unfoldable pub null_in : ℕ → List Cell → Bool
null_in zero r = false
null_in (suc j) r = null_in j r || is_null (cell j r)

-- The group of a row is null.
abbrev pub null_group : Options → List Cell → Bool
null_group o r = null_in o.by r

-- A row without a key.
abbrev pub null_key : Options → List Cell → Bool
null_key o r = is_null (key_of o r)

-- SCOPE 4.8: the distance of two keys. With a null it is 0, which no definition uses.
abbrev pub distance : Cell → Cell → ℕ
distance null y = 0
distance (value a) null = 0
distance (value a) (value b) = nat_abs (a -ℤ b)
