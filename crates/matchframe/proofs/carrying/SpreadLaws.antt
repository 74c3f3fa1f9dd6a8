-- Rows of an answer, spread from the last one on: what is written of a row, and that the numbers before it stay until it is their turn. Assumes nothing.
use Rattle.std.specs.Prelude.{Option, Some, None}
use mathlib.Core.Path.{◌≡◌, refl, sym, ap, ◌∙◌}
use mathlib.Core.Bool.{Bool, true, false, cond}
use mathlib.Core.List.{List, [], ◌∷◌, ◌++◌}
use Prim.Native.Nat.{ℕ, zero, suc, ◌+◌, ◌-◌, ◌*◌, ◌^◌, ◌≤◌, ◌<◌}
use native.Mathlib.Nat.{add-zero, add-mul, sub-zero, le-mul_of_pos_right}
use native.Mathlib.Numerals.{add-one}
use native.Mathlib.Omega.{arith}
use lib.Dec.{T}
use lib.IntN.{ℤ, pos, negsuc, nat_abs}
use lib.Signed.{mag, non_neg}
use lib.ListN.{length, get_or, set, replicate, length-append, length-replicate}
use Rattle.frames.specs.Cells.{Cell, null, value, value_word, mark_word, is_zero, rows_of, row_from, Rows, Words}
use Rattle.order.specs.options.Options.{columns, right_columns, answer_columns}
use Rattle.order.specs.declared.options.Options.{Options}
use Rattle.frames.proofs.WordLaws.{rows_length}
use Rattle.order.proofs.options.ColumnLaws.{columns_some}
use Rattle.order.specs.Order.{key_of, distance}
use Rattle.order.specs.Requires.{cell_at}
use Rattle.order.proofs.RowLaws.{row_cell, rows_from, row_room}
use Rattle.tables.specs.Lay.{flat, lay_cells}
use Rattle.tables.proofs.LayLaws.{lay_append, lay_keeps, lay_order, value_apart, mark_apart}
use Rattle.matching.specs.Answer.{cells_from, distance_cell, last_column, answer_row, answer_rows}
use Rattle.matching.proofs.FromLaws.{From}
use Rattle.matchframe.specs.carrying.Loops.{cells_at, last_at, row_with, rows_with, RightIn, RowSpread}
use Rattle.matchframe.specs.carrying.Spread.{choice_at, choices_from, spread, Numbered, SpreadIn}

-- ---- cells one by one: j of p are laid, from cell k on
module _ (m : ℕ) (vs ms : Words) (q p k : ℕ) where
  pub carry_first : (out : Words) → lay_cells m k (cells_at q p vs ms) out ≡ lay_cells m (k + 0) (cells_at (q + 0) (p - 0) vs ms) out
  carry_first out = rw (add-zero k, add-zero q, sub-zero p)

  pub carry_more : (j : ℕ) (out : Words) → j < p → lay_cells m (k + j) (cells_at (q + j) (p - j) vs ms) out
      ≡ lay_cells m (k + (j + 1)) (cells_at (q + (j + 1)) (p - (j + 1)) vs ms) (set (set out (2 + (k + j)) (value_word (cell_at (q + j) vs ms))) (2 + m + (k + j)) (mark_word (cell_at (q + j) vs ms)))
  unfolding lay_cells cells_at
  carry_more j out h =
      let a : p - j ≡ suc (p - (j + 1)) = omega arith in
      let b : k + (j + 1) ≡ suc (k + j) = omega arith in
      let d : q + (j + 1) ≡ suc (q + j) = omega arith in
      rw (a, b, d)

  pub carry_done : (j : ℕ) (out : Words) → p ≤ j → lay_cells m (k + j) (cells_at (q + j) (p - j) vs ms) out ≡ out
  unfolding lay_cells cells_at
  carry_done j out h = let a : p - j ≡ 0 = omega arith in rw a

module _ (m p k : ℕ) where
  pub nulls_first : (out : Words) → lay_cells m k (replicate p null) out ≡ lay_cells m (k + 0) (replicate (p - 0) null) out
  nulls_first out = rw (add-zero k, sub-zero p)

  pub nulls_more : (j : ℕ) (out : Words) → j < p → lay_cells m (k + j) (replicate (p - j) null) out
      ≡ lay_cells m (k + (j + 1)) (replicate (p - (j + 1)) null) (set (set out (2 + (k + j)) (pos 0)) (2 + m + (k + j)) (pos 0))
  unfolding lay_cells
  nulls_more j out h =
      let a : p - j ≡ suc (p - (j + 1)) = omega arith in
      let b : k + (j + 1) ≡ suc (k + j) = omega arith in
      rw (a, b)

  pub nulls_done : (j : ℕ) (out : Words) → p ≤ j → lay_cells m (k + j) (replicate (p - j) null) out ≡ out
  unfolding lay_cells
  nulls_done j out h = let a : p - j ≡ 0 = omega arith in rw a

pub cells_length : (q p : ℕ) (vs ms : Words) → length (cells_at q p vs ms) ≡ p
unfolding cells_at
cells_length q zero vs ms = refl
cells_length q (suc p) vs ms = ap suc (cells_length (suc q) p vs ms)

-- ---- the row of a choice, by words and by rows
last_length : (o : Options) (v : Cell) (q : ℕ) (vs ms : Words) → suc (o.carried + length (last_at o v q vs ms)) ≡ answer_columns o
last_length o v q vs ms = go o.with_distance
  where
    go : (b : Bool) → suc (o.carried + length (cond b (distance_cell (distance (cell_at (q + o.by) vs ms) v) ∷ []) [])) ≡ cond b (suc (suc o.carried)) (suc o.carried)
    go true = omega arith
    go false = omega arith

module _ (o : Options) (number w : ℕ) (vs ms : Words) where
  pub row_length : (v : Cell) (k : Option ℕ) → length (row_with o number w vs ms v k) ≡ answer_columns o
  unfolding row_with
  row_length v (Some k) =
      let q : ℕ = (k - number) * w in
      omega (arith, length-append (cells_at (q + columns o) o.carried vs ms) (last_at o v q vs ms), cells_length (q + columns o) o.carried vs ms, last_length o v q vs ms)
  row_length v None = length-replicate (answer_columns o) null

  cells_from_lem : (i j p : ℕ) → j + p ≤ w → i * w + w ≤ length vs → cells_from j p (row_from w (i * w) vs ms) ≡ cells_at (i * w + j) p vs ms
  unfolding cells_from cells_at
  cells_from_lem i j zero h l = refl
  cells_from_lem i j (suc p) h l =
      let z : i * w + suc j ≡ suc (i * w + j) = omega arith in
      rw (row_cell w (i * w) j vs ms (omega arith) (omega arith), ← z) (ap (λ (r : List Cell). cell_at (i * w + j) vs ms ∷ r) (cells_from_lem i (suc j) p (omega arith) l))

  module _ (nr : ℕ) (wide : right_columns o ≤ w) (there : nr * w ≤ length vs) where
    row_words : (x : List Cell) (v : Cell) (k : Option ℕ) → key_of o x ≡ v → From number (number + nr) k → answer_row o number (rows_of w nr vs ms) x k ≡ row_with o number w vs ms v k
    unfolding row_with answer_row
    row_words x v (Some k) e h =
        let i : ℕ = k - number in
        let a = h.0 in
        let b = h.1 in
        let l = row_room i nr w (omega arith) in
        ap (λ (r : List Cell). value (pos k) ∷ cells_from (columns o) o.carried r ++ last_column o x r) (rows_from w nr i vs ms (omega arith))
        ∙ ap (λ (y : Cell). value (pos k) ∷ cells_from (columns o) o.carried (row_from w (i * w) vs ms) ++ cond o.with_distance (distance_cell (distance y (key_of o x)) ∷ []) []) (row_cell w (i * w) o.by vs ms (omega arith) (omega arith))
        ∙ ap (λ (y : Cell). value (pos k) ∷ cells_from (columns o) o.carried (row_from w (i * w) vs ms) ++ cond o.with_distance (distance_cell (distance (cell_at (i * w + o.by) vs ms) y) ∷ []) []) e
        ∙ ap (λ (r : List Cell). value (pos k) ∷ r ++ last_at o v (i * w) vs ms) (cells_from_lem i (columns o) o.carried (omega arith) (omega arith))
    row_words x v None e h = refl

    -- All rows of n choices, by the keys of the left rows.
    pub rows_words : (key : ℕ → Cell) (m n i : ℕ) (out : Words) (lefts : Rows) → length lefts ≡ n → ((j : ℕ) → j < n → key_of o (get_or lefts j []) ≡ key (i + j)) → ((j : ℕ) → i ≤ j → j < i + n → From number (number + nr) (choice_at m out j))
        → answer_rows o number (rows_of w nr vs ms) lefts (choices_from m out i n) ≡ rows_with o number w vs ms key m out i n
    unfolding answer_rows choices_from rows_with
    rows_words key m zero i out [] e g h = refl
    rows_words key m zero i out (x ∷ xs) e g h = absurd (omega arith)
    rows_words key m (suc n) i out [] e g h = absurd (omega arith)
    rows_words key m (suc n) i out (x ∷ xs) e g h =
        let here : i + 0 ≡ i = omega arith in
        let r = row_words x (key i) (choice_at m out i) (rw here at (g 0 (omega arith))) (h i (omega arith) (omega arith)) in
        let rs = rows_words key m n (suc i) out xs (omega arith) (λ j b. let z : i + suc j ≡ suc i + j = omega arith in rw z at (g (suc j) (omega arith))) (λ j a b. h j (omega arith) (omega arith)) in
        ap (λ (z : List Cell). z ∷ answer_rows o number (rows_of w nr vs ms) xs (choices_from m out (suc i) n)) r
        ∙ ap (λ (z : Rows). row_with o number w vs ms (key i) (choice_at m out i) ∷ z) rs

-- What is said of the words of a choice is said of the choice.
pub numbered_from : (number nr m : ℕ) (out : Words) (i : ℕ) → Numbered number nr m out i → From number (number + nr) (choice_at m out i)
numbered_from number nr m out i h = by (is_zero (get_or out (2 + m + i) (pos 0))) h.from h.below
  where
    by : (b : Bool) → (b ≡ false → number ≤ nat_abs (get_or out (2 + i) (pos 0))) → (b ≡ false → nat_abs (get_or out (2 + i) (pos 0)) < number + nr)
        → From number (number + nr) (cond b None (Some (nat_abs (get_or out (2 + i) (pos 0)))))
    by true f g = tt
    by false f g = (f refl, g refl)

-- ---- the words of a choice, and those of its row
-- A number that is not negative is read as it stands.
pub whole_fits : (z : ℤ) → z ≡ pos (nat_abs z) → mag z < 2 ^ 63 → T (non_neg z) × (nat_abs z < 2 ^ 63)
whole_fits (pos n) e h = (tt, h)
whole_fits (negsuc n) e h = let z : ◌≡◌ {A = ℕ} 0 1 = cc in absurd (omega arith)

module _ (o : Options) (number w : ℕ) (vs ms : Words) (v : Cell) (m k : ℕ) (out : Words) (x : Option ℕ) where
  -- A number, behind it what its right row carries, and last the distance.
  pub row_chosen : (r q : ℕ) (out₁ out₂ out₃ : Words) → x ≡ Some r → q ≡ (r - number) * w → out₁ ≡ set (set out (2 + k) (pos r)) (2 + m + k) (pos 1)
      → out₂ ≡ lay_cells m (k + 1) (cells_at (q + o.by + 1) o.carried vs ms) out₁ → out₃ ≡ lay_cells m (k + 1 + o.carried) (last_at o v q vs ms) out₂ → out₃ ≡ lay_cells m k (row_with o number w vs ms v x) out
  unfolding lay_cells row_with
  row_chosen r q out₁ out₂ out₃ e p a b d =
      let place : ℕ = (r - number) * w in
      let cells : List Cell = cells_at (place + columns o) o.carried vs ms in
      let last : List Cell = last_at o v place vs ms in
      let first : Words = set (set out (2 + k) (pos r)) (2 + m + k) (pos 1) in
      let z : q + o.by + 1 ≡ place + columns o = omega arith in
      let y : k + 1 + o.carried ≡ suc k + length cells = omega (arith, cells_length (place + columns o) o.carried vs ms) in
      let carried : out₂ ≡ lay_cells m (suc k) cells first =
      b ∙ ap (λ (t : ℕ). lay_cells m (k + 1) (cells_at t o.carried vs ms) out₁) z ∙ ap (λ (t : ℕ). lay_cells m t cells out₁) (add-one k) ∙ ap (lay_cells m (suc k) cells) a in
      let all : out₃ ≡ lay_cells m (suc k + length cells) last (lay_cells m (suc k) cells first) =
      d ∙ ap (λ (t : ℕ). lay_cells m (k + 1 + o.carried) (last_at o v t vs ms) out₂) p ∙ ap (λ (t : ℕ). lay_cells m t last out₂) y ∙ ap (lay_cells m (suc k + length cells) last) carried in
      let row : lay_cells m k (row_with o number w vs ms v (Some r)) out ≡ lay_cells m (suc k + length cells) last (lay_cells m (suc k) cells first) = lay_append m (suc k) cells last first in
      all ∙ sym row ∙ ap (λ (t : Option ℕ). lay_cells m k (row_with o number w vs ms v t) out) (sym e)

  pub row_none : (c : ℕ) (out₁ : Words) → x ≡ None → c ≡ answer_columns o → out₁ ≡ lay_cells m k (replicate c null) out → out₁ ≡ lay_cells m k (row_with o number w vs ms v x) out
  unfolding row_with
  row_none c out₁ e p a = rw (a, e, p)

-- ---- rows from the last one on
module _ (o : Options) (number w : ℕ) (vs ms : Words) (key : ℕ → Cell) (m n : ℕ) (out : Words) where
  -- The cells of the rows from row i on.
  abbrev pub cells_on_of : ℕ → List Cell
  cells_on_of i = flat (rows_with o number w vs ms key m out i (n - i))

  -- The output if the rows from row i on are spread.
  abbrev pub spread_on : ℕ → Words
  spread_on i = lay_cells m (i * answer_columns o) (cells_on_of i) out

  cells_on : (i : ℕ) → i < n → cells_on_of i ≡ row_with o number w vs ms (key i) (choice_at m out i) ++ cells_on_of (i + 1)
  unfolding flat rows_with
  cells_on i h =
      let z : n - i ≡ suc (n - (i + 1)) = omega arith in
      rw (z, add-one i)

  flat_wide : (i k : ℕ) → length (flat (rows_with o number w vs ms key m out i k)) ≡ k * answer_columns o
  unfolding flat rows_with
  flat_wide i zero = omega arith
  flat_wide i (suc k) =
      length-append (row_with o number w vs ms (key i) (choice_at m out i)) (flat (rows_with o number w vs ms key m out (suc i) k))
      ∙ (let a = row_length o number w vs ms (key i) (choice_at m out i) in let b = flat_wide (suc i) k in omega arith)

  cells_wide : (i : ℕ) → length (cells_on_of i) ≡ (n - i) * answer_columns o
  cells_wide i = flat_wide i (n - i)

  pub spread_none : spread_on n ≡ out
  unfolding flat rows_with lay_cells
  spread_none = let z : n - n ≡ 0 = omega arith in rw z

  module _ (within : n * answer_columns o ≤ m) where
    fits : (i : ℕ) → i ≤ n → i * answer_columns o + length (cells_on_of i) ≤ m
    fits i h =
        let k : ℕ = n - i in
        let e : n ≡ i + k = omega arith in
        let d : n * answer_columns o ≡ i * answer_columns o + k * answer_columns o = ap (λ (z : ℕ). z * answer_columns o) e ∙ add-mul i k (answer_columns o) in
        let l : length (cells_on_of i) ≡ k * answer_columns o = cells_wide i in
        omega arith

    before : (i j : ℕ) → j < i → j < i * answer_columns o
    before i j h = omega (arith, le-mul_of_pos_right {m = answer_columns o} i (columns_some o))

    -- The words of the choice of a row before them are as they were.
    pub number_kept : (i j : ℕ) → i ≤ n → j < i → get_or (spread_on i) (2 + j) (pos 0) ≡ get_or out (2 + j) (pos 0)
    number_kept i j h l = lay_keeps m (i * answer_columns o) (cells_on_of i) out (2 + j) (value_apart m (i * answer_columns o) (length (cells_on_of i)) j (before i j l) (fits i h))

    pub mark_kept : (i j : ℕ) → i ≤ n → j < i → get_or (spread_on i) (2 + m + j) (pos 0) ≡ get_or out (2 + m + j) (pos 0)
    mark_kept i j h l = lay_keeps m (i * answer_columns o) (cells_on_of i) out (2 + m + j) (mark_apart m (i * answer_columns o) (length (cells_on_of i)) j (before i j l) (fits i h))

    -- One row more, before them.
    pub spread_more : (i : ℕ) (now : Words) → i < n → now ≡ spread_on (i + 1) → lay_cells m (i * answer_columns o) (row_with o number w vs ms (key i) (choice_at m now i)) now ≡ spread_on i
    spread_more i now h e =
        let c : ℕ = answer_columns o in
        let r : List Cell = row_with o number w vs ms (key i) (choice_at m out i) in
        let k : choice_at m now i ≡ choice_at m out i = rw (e, number_kept (i + 1) i (omega arith) (omega arith), mark_kept (i + 1) i (omega arith) (omega arith)) in
        let l : length r ≡ c = row_length o number w vs ms (key i) (choice_at m out i) in
        let z : (i + 1) * c ≡ i * c + length r = omega arith in
        let f : (i + 1) * c + length (cells_on_of (i + 1)) ≤ m = fits (i + 1) (omega arith) in
        rw (k, e) (
        sym (lay_order m (i * c) r ((i + 1) * c) (cells_on_of (i + 1)) out (omega arith) f)
        ∙ ap (λ (q : ℕ). lay_cells m q (cells_on_of (i + 1)) (lay_cells m (i * c) r out)) z
        ∙ sym (lay_append m (i * c) r (cells_on_of (i + 1)) out)
        ∙ ap (λ (q : List Cell). lay_cells m (i * c) q out) (sym (cells_on i h))
        )

module _ (o : Options) (n wl : ℕ) (lv lm : Words) (w nr : ℕ) (vs ms : Words) (number m : ℕ) (out : Words) (h : SpreadIn o n wl lv lm w nr vs ms number m out) where
  -- The keys of the left rows.
  abbrev pub key_in : ℕ → Cell
  key_in i = cell_at (i * wl + o.by) lv lm

  -- A right number that is there has its words there.
  right_in_lem : (x : Option ℕ) → From number (number + nr) x → RightIn o w vs ms number x
  right_in_lem (Some k) f =
      let i : ℕ = k - number in
      let a = f.0 in
      let b = f.1 in
      let l : i * w + w ≤ nr * w = row_room i nr w (omega arith) in
      let e = h.wide in
      let v = h.right.values in
      let z = h.right.marks in
      let y = h.numbers in
      (a, omega arith, record { values = omega arith; marks = omega arith })
  right_in_lem None f = tt

  -- Row i may be spread, if those behind it are.
  pub row_asked : (i : ℕ) (now : Words) → i < n → length now ≡ length out → now ≡ spread_on o number w vs ms key_in m n out (i + 1) → RowSpread o i wl lv lm w vs ms number m now
  row_asked i now l g e =
      let c : ℕ = answer_columns o in
      let t : i * c + c ≤ n * c = row_room i n c l in
      let f = h.within in
      let d = h.room in
      let s = h.chosen i l in
      let v : get_or now (2 + i) (pos 0) ≡ get_or out (2 + i) (pos 0) = rw e (number_kept o number w vs ms key_in m n out f (i + 1) i (omega arith) (omega arith)) in
      let z : get_or now (2 + m + i) (pos 0) ≡ get_or out (2 + m + i) (pos 0) = rw e (mark_kept o number w vs ms key_in m n out f (i + 1) i (omega arith) (omega arith)) in
      let b : i < i * c + c = before_own i in
      let x : i * wl + wl ≤ n * wl = row_room i n wl l in
      let u = h.left in
      record {
        left = record { values = omega (arith, u.wide, u.values); marks = omega (arith, u.wide, u.marks) };
        few = h.right.few.by;
        carried = h.carried;
        there = omega arith;
        choice = record { there = omega arith; room = omega arith; whole = rw (v, z) s.whole };
        chosen = rw (v, z) (right_in_lem (choice_at m out i) (numbered_from number nr m out i s));
      }
    where
      before_own : (i : ℕ) → i < i * answer_columns o + answer_columns o
      before_own i = omega (arith, le-mul_of_pos_right {m = answer_columns o} i (columns_some o), columns_some o)

  -- All rows spread are what is asked for.
  pub spread_all : (now : Words) → now ≡ spread_on o number w vs ms key_in m n out 0 → now ≡ spread o number (rows_of w nr vs ms) (rows_of wl n lv lm) m out
  unfolding spread
  spread_all now e =
      let z : n - 0 ≡ n = omega arith in
      let y : 0 * answer_columns o ≡ 0 = omega arith in
      let l = rows_length wl n lv lm in
      let r = rows_words o number w vs ms nr h.wide h.right.values key_in m n 0 out (rows_of wl n lv lm) l left_key (λ j a b. numbered_from number nr m out j (h.chosen j (omega arith))) in
      e ∙ rw (z, y, l) (ap (λ (q : Rows). lay_cells m 0 (flat q) out) (sym r))
    where
      left_key : (j : ℕ) → j < n → key_of o (get_or (rows_of wl n lv lm) j []) ≡ key_in (0 + j)
      left_key j g =
          let x : j * wl + wl ≤ n * wl = row_room j n wl g in
          let z : j ≡ 0 + j = omega arith in
          ap (key_of o) (rows_from wl n j lv lm g) ∙ row_cell wl (j * wl) o.by lv lm h.left.wide (omega (arith, h.left.values, h.left.wide)) ∙ ap key_in z
