-- Of what looks at keys alone, options with a list and without one are the same. Assumes nothing.
use Rattle.std.specs.Prelude.{Option, Some, None}
use mathlib.Core.Path.{◌≡◌, refl, ap}
use mathlib.Core.Bool.{true, false, cond}
use mathlib.Core.List.{List, [], ◌∷◌}
use Prim.Native.Nat.{ℕ, zero, suc}
use lib.ListN.{length, get_or}
use Rattle.frames.specs.Cells.{Rows, Words}
use Rattle.order.specs.options.Options.{is_strict, with_list, without_list}
use Rattle.order.specs.declared.options.Terms.{Terms}
use Rattle.order.proofs.options.TermLaws.{few_terms}
use Rattle.order.specs.Order.{null_key}
use Rattle.order.specs.Keyed.{first_from, last_below, first_row, last_row, first_left, last_left_at, remember_at}
use Rattle.order.specs.Requires.{RowAt, RowsIn, KeysIn}
use Rattle.order.specs.declared.Row.{Row}

module _ (t : Terms) (codes : Words) (rising : List ℕ) where
  -- ---- what is asked of words
  pub row_terms : (p : ℕ) (vs ms : Words) → RowAt (with_list t codes rising) p vs ms → RowAt (without_list t) p vs ms
  row_terms p vs ms h = record { few = few_terms t h.few.by; values = h.values; marks = h.marks }

  pub rows_terms : (w n : ℕ) (vs ms : Words) → RowsIn (with_list t codes rising) w n vs ms → RowsIn (without_list t) w n vs ms
  rows_terms w n vs ms h = record { few = few_terms t h.few.by; wide = h.wide; values = h.values; marks = h.marks }

  pub keys_terms : (w n : ℕ) (ms : Words) → KeysIn (with_list t codes rising) w n ms → KeysIn (without_list t) w n ms
  keys_terms w n ms h = record { few = few_terms t h.few.by; wide = h.wide; marks = h.marks }

  -- ---- rows with a key
  pub first_terms : (i : ℕ) (rs : Rows) → first_from (without_list t) i rs ≡ first_from (with_list t codes rising) i rs
  unfolding first_from
  first_terms i [] = refl
  first_terms i (r ∷ rs) = ap (λ (k : Option ℕ). elim (null_key (with_list t codes rising) r) [ true ↦ k | false ↦ Some i ]) (first_terms (suc i) rs)

  pub last_terms : (rs : Rows) (n : ℕ) → last_below (without_list t) rs n ≡ last_below (with_list t codes rising) rs n
  unfolding last_below
  last_terms rs zero = refl
  last_terms rs (suc n) = ap (λ (k : Option ℕ). elim (null_key (with_list t codes rising) (get_or rs n [])) [ true ↦ k | false ↦ Some n ]) (last_terms rs n)

  -- The row of a left frame that is compared, and the one that is remembered.
  pub first_left_terms : (rs : Rows) → first_left (without_list t) rs ≡ first_left (with_list t codes rising) rs
  first_left_terms rs = ap (λ (k : Option ℕ). cond (is_strict t.check) (first_row rs) k) (first_terms 0 rs)

  pub last_left_terms : (rs : Rows) → last_left_at (without_list t) rs ≡ last_left_at (with_list t codes rising) rs
  last_left_terms rs = ap (λ (k : Option ℕ). cond (is_strict t.check) (last_row rs) k) (last_terms rs (length rs))

  pub remember_terms : (m : Row) (rs : Rows) (k : Option ℕ) → remember_at (without_list t) m rs k ≡ remember_at (with_list t codes rising) m rs k
  remember_terms m rs (Some i) = refl
  remember_terms m rs None = refl
