-- Options, rows and frames for examples; and the distance at its ends. Assumes nothing.
use mathlib.Core.Path.{◌≡◌, refl}
use mathlib.Core.Bool.{Bool, true, false, cond}
use mathlib.Core.List.{List, [], ◌∷◌, ◌++◌, map}
use Prim.Native.Nat.{ℕ, ◌-◌, ◌^◌}
use lib.IntN.{ℤ, pos, negsuc}
use lib.ListN.{length, replicate}
use Rattle.frames.specs.Cells.{Cell, null, value, value_word, mark_word, Rows, Words, cells_of}
use Rattle.order.specs.options.Options.{columns}
use Rattle.order.specs.Order.{distance, cmp_row, null_group, null_in, cmp_first}
use Rattle.order.specs.Keyed.{first_left, last_left_at, first_from, last_below, row_at, recall, remember, remember_at, no_row, out_of_order}
use Rattle.order.specs.declared.options.Options.{Options}
use Rattle.order.specs.ranks.Ranks.{ranks_for}
use Rattle.order.specs.declared.ranks.Ranks.{Ranks}
use Rattle.order.specs.declared.options.Check.{Check}
use Rattle.order.specs.declared.options.Check.TheVariants.{Off, On, Strict}
use Rattle.std.specs.declared.cmp.Ordering.TheVariants.{Less}
use Rattle.order.specs.declared.Row.{Row}

-- Four flags: those given, and false behind them.
abbrev pub four : List Bool → List Bool
four bs = bs ++ replicate (4 - length bs) false

-- No list of ranks; and a list of codes for by-column j, with zeros behind them.
abbrev pub no_ranks : Ranks
no_ranks = ranks_for false 0 0 (replicate 64 (pos 0))

abbrev pub ranks_by : ℕ → List ℤ → Ranks
ranks_by j cs = ranks_for true j (length cs) (cs ++ replicate (64 - length cs) (pos 0))

-- Options by b, strategy, equality, tolerance, check, descending, nulls last; nothing is carried, no column is ranked, no distance is written.
abbrev pub options : ℕ → ℕ → Bool → ℤ → Bool → List Bool → List Bool → Options
options b strategy eq tolerance check desc last = record {
  by = b;
  strategy = strategy;
  allow_eq = eq;
  tolerance = tolerance;
  check = cond check On Off;
  descending = four desc;
  nulls_last = four last;
  carried = 0;
  ranks = no_ranks;
  with_distance = false;
}

-- Options with p carried columns, another setting of the order check, other ranks, and a distance or none.
abbrev altered : ℕ → Check → Ranks → Bool → Options → Options
altered p c k d o = record {
  by = o.by;
  strategy = o.strategy;
  allow_eq = o.allow_eq;
  tolerance = o.tolerance;
  check = c;
  descending = o.descending;
  nulls_last = o.nulls_last;
  carried = p;
  ranks = k;
  with_distance = d;
}

-- The same with p carried columns.
abbrev pub carrying : ℕ → Options → Options
carrying p o = altered p o.check o.ranks o.with_distance o

-- The same with another setting of the order check.
abbrev pub checking : Check → Options → Options
checking c o = altered o.carried c o.ranks o.with_distance o

-- The same with other ranks.
abbrev pub ranking : Ranks → Options → Options
ranking k o = altered o.carried o.check k o.with_distance o

-- The same with the distance written.
abbrev pub distancing : Options → Options
distancing o = altered o.carried o.check o.ranks true o

-- No by-columns, no tolerance, check off.
abbrev pub plain : ℕ → Bool → Options
plain strategy eq = options 0 strategy eq (negsuc 0) false [] []

-- A row of whole numbers; rows of a key alone.
abbrev pub row : List ℕ → List Cell
row ns = map (λ n. value (pos n)) ns

abbrev pub keys : List ℕ → Rows
keys ks = map (λ k. row (k ∷ [])) ks

-- A frame of c columns from its rows.
abbrev pub words_of : (Cell → ℤ) → Rows → Words
words_of word [] = []
words_of word (r ∷ rs) = map word r ++ words_of word rs

abbrev pub frame_of : ℕ → Rows → Words
frame_of c rs = pos (length rs) ∷ pos c ∷ words_of value_word rs ++ words_of mark_word rs

-- From −2^63 to 2^63 − 1 it is 2^64 − 1.
pub farthest : distance (value (negsuc (2 ^ 63 - 1))) (value (pos (2 ^ 63 - 1))) ≡ 2 ^ 64 - 1
farthest = refl

-- A descending column is reversed, its nulls are not; the key is ascending, nulls first.
abbrev down : Options
down = options 1 0 true (negsuc 0) false (true ∷ []) []

pub orders : cmp_row down (row (2 ∷ 5 ∷ [])) (row (1 ∷ 5 ∷ [])) ∷ cmp_row down (null ∷ null ∷ []) (row (1 ∷ 5 ∷ [])) ∷ cmp_row down (row (1 ∷ 4 ∷ [])) (row (1 ∷ 5 ∷ []))
    ∷ cmp_row down (value (pos 1) ∷ null ∷ []) (row (1 ∷ 5 ∷ [])) ∷ []
    ≡ Less ∷ Less ∷ Less ∷ Less ∷ []
unfolding cmp_row cmp_first
orders = refl

pub null_groups : null_group down (null ∷ value (pos 1) ∷ []) ∷ null_group down (value (pos 1) ∷ null ∷ []) ∷ [] ≡ true ∷ false ∷ []
unfolding null_in
null_groups = refl

-- Which of some left frames are before the row that is remembered of those before them.
abbrev faults : Options → Row → List Rows → List Bool
faults o m [] = []
faults o m (rows ∷ frames) = out_of_order o (recall (columns o) m) (row_at rows (first_left o rows)) ∷ faults o (remember_at o m rows (last_left_at o rows)) frames

-- One by-column, ascending, with a setting of the order check.
abbrev up : Check → Options
up c = checking c (options 1 0 true (negsuc 0) false [] [])

-- Rows of one by-value and no key.
abbrev keyless : List ℕ → Rows
keyless ns = map (λ n. value (pos n) ∷ null ∷ []) ns

-- Strict compares and remembers rows without a key, on does not; a frame without rows neither compares nor forgets.
abbrev frames : List Rows
frames = (row (2 ∷ 5 ∷ []) ∷ []) ∷ [] ∷ keyless (1 ∷ 3 ∷ []) ∷ (row (2 ∷ 8 ∷ []) ∷ []) ∷ [] ∷ (row (2 ∷ 7 ∷ []) ∷ []) ∷ []

pub strict_faults : faults (up Strict) no_row frames ≡ false ∷ false ∷ true ∷ true ∷ false ∷ true ∷ []
unfolding cells_of recall remember cmp_row cmp_first
strict_faults = refl

pub on_faults : faults (up On) no_row frames ≡ false ∷ false ∷ false ∷ false ∷ false ∷ true ∷ []
unfolding cells_of recall remember cmp_row cmp_first first_from last_below
on_faults = refl
