-- The options that a join is opened with. Assumes nothing.
use Rattle.std.specs.Prelude.{◌≡◌, Bool, true, false, cond, not, ◌&&◌, ◌||◌, List, [], ℕ, suc, ◌+◌, ◌≤◌, ltb, eqb, negsuc, length, get_or}
use Rattle.std.specs.Int.Signed.{lt_z}
use Rattle.frames.specs.Cells.{Words}
use Rattle.order.specs.ranks.Ranks.{codes_of, bad_ranks}
use Rattle.order.specs.declared.options.Options.{Options}
use Rattle.order.specs.declared.options.Terms.{Terms}
use Rattle.order.specs.declared.options.Rules.{Rules}
use Rattle.order.specs.declared.options.Strategy.{Strategy}
use Rattle.order.specs.declared.options.Strategy.TheVariants.{Backward, Forward, Nearest}
use Rattle.order.specs.declared.options.Check.{Check}
use Rattle.order.specs.declared.options.Check.TheVariants.{Off, On, Strict}

-- ---- options in parts
-- The options without the codes of the list.
abbrev pub terms_of : Options → Terms
terms_of o = record {
  by = o.by;
  strategy = o.strategy;
  allow_eq = o.allow_eq;
  tolerance = o.tolerance;
  check = o.check;
  descending = o.descending;
  nulls_last = o.nulls_last;
  carried = o.carried;
  given = o.ranks.given;
  column = o.ranks.column;
  count = o.ranks.count;
  with_distance = o.with_distance;
}

-- The options that have these terms and, for their list, these words of codes and these places.
abbrev pub with_list : Terms → Words → List ℕ → Options
with_list t codes rising = record {
  by = t.by;
  strategy = t.strategy;
  allow_eq = t.allow_eq;
  tolerance = t.tolerance;
  check = t.check;
  descending = t.descending;
  nulls_last = t.nulls_last;
  carried = t.carried;
  ranks = record { given = t.given; column = t.column; count = t.count; codes = codes; rising = rising };
  with_distance = t.with_distance;
}

-- The options that rules tell.
abbrev pub options_of : Rules → Options
options_of r = with_list r.terms r.codes.now r.rising.now

-- The options that have these terms and no list: what looks at keys alone is the same with them.
abbrev pub without_list : Terms → Options
without_list t = record {
  by = t.by;
  strategy = t.strategy;
  allow_eq = t.allow_eq;
  tolerance = t.tolerance;
  check = t.check;
  descending = t.descending;
  nulls_last = t.nulls_last;
  carried = t.carried;
  ranks = record { given = false; column = 0; count = 0; codes = []; rising = [] };
  with_distance = t.with_distance;
}

-- ---- what the options say
-- SCOPE 3.1: the strategy by its number.
abbrev pub strategy_of : Options → Strategy
strategy_of o = cond (eqb o.strategy 0) Backward (cond (eqb o.strategy 1) Forward Nearest)

-- The order check by number: 0 off, 1 on, 2 strict.
abbrev pub check_code : Check → ℕ
check_code Off = 0
check_code On = 1
check_code Strict = 2

-- SCOPE 3.4: whether the order check is on; strict does all that on does.
abbrev pub is_on : Check → Bool
is_on Off = false
is_on On = true
is_on Strict = true

-- SCOPE 8.9: whether rows without a key count between left frames.
abbrev pub is_strict : Check → Bool
is_strict Off = false
is_strict On = false
is_strict Strict = true

-- SCOPE 2.5: the columns of a left frame, by-columns and key.
abbrev pub columns : Options → ℕ
columns o = suc o.by

-- SCOPE 2.5: the columns of a right frame, and of a held row: by-columns, key, and behind it what is carried.
abbrev pub right_columns : Options → ℕ
right_columns o = columns o + o.carried

-- SCOPE 12.5: the columns of an answer without its distance: the right number, and what is carried.
abbrev pub shared_columns : Options → ℕ
shared_columns o = suc o.carried

-- SCOPE 12.5: the columns of an answer: a join may be opened to add the distance as the last.
abbrev pub answer_columns : Options → ℕ
answer_columns o = cond o.with_distance (suc (shared_columns o)) (shared_columns o)

-- SCOPE 3.6: the options are invalid.
unfoldable pub bad_options : Options → Bool
bad_options o =
    ltb 4 o.by || ltb 2 o.strategy || lt_z o.tolerance (negsuc 0) || (eqb o.strategy 2 && not o.allow_eq)

-- SCOPE 3.8: more columns are carried than may be.
abbrev pub many_carried : Options → Bool
many_carried o = ltb 8 o.carried

-- SCOPE 3.10: the list of ranks is one that opening refuses.
abbrev pub bad_ranked : Options → Bool
bad_ranked o = bad_ranks o.by o.ranks

-- SCOPE 3.9: options that opening refuses, and with which a join is inconsistent.
unfoldable pub refused_options : Options → Bool
refused_options o = bad_options o || many_carried o || bad_ranked o

-- What comparing rows needs of the options: few by-columns, and no list of ranks or one that opening takes, with all its words there.
pub record Few (o : Options) : Type 0 where
  pub by : o.by ≤ 4
  pub list : bad_ranked o ≡ false
  pub there : o.ranks.given ≡ true → (64 ≤ length o.ranks.codes) × (64 ≤ length o.ranks.rising)

-- How a column is ordered: its flags, and the codes by whose places it compares; without codes it compares by number.
pub record Rule : Type 0 where
  pub descending : Bool
  pub nulls_last : Bool
  pub codes : Words

-- SCOPE 3.10: whether by-column j has the list.
abbrev pub is_ranked : Options → ℕ → Bool
is_ranked o j = o.ranks.given && eqb j o.ranks.column

-- The same of terms.
abbrev pub has_list : Terms → ℕ → Bool
has_list t j = t.given && eqb j t.column

-- SCOPE 3.5, 3.10: the flags of by-column j, and the codes of its list.
abbrev pub by_rule : Options → ℕ → Rule
by_rule o j = record { descending = get_or o.descending j false; nulls_last = get_or o.nulls_last j false; codes = cond (is_ranked o j) (codes_of o.ranks) [] }

-- SCOPE 4.3: the key has neither flag and no list.
abbrev pub key_rule : Rule
key_rule = record { descending = false; nulls_last = false; codes = [] }
