-- The choices of an answer, laid at its first places: they are read back there, and spread they are the answer's cells. Assumes nothing.
use Rattle.std.specs.Prelude.{Option, Some, None}
use mathlib.Core.Path.{◌≡◌, refl, sym, ap, subst, ◌∙◌}
use mathlib.Core.Bool.{Bool, true, false, cond}
use mathlib.Core.List.{List, [], ◌∷◌, map}
use Prim.Native.Nat.{ℕ, suc, ◌+◌, ◌*◌, ◌≤◌, ◌<◌}
use native.Mathlib.Decide.{ℕ_discrete}
use native.Mathlib.Nat.{le-mul_of_pos_right}
use native.Mathlib.Omega.{arith}
use lib.IntN.{pos}
use lib.ListN.{length, get_or, set, length-append, length-map, length-set}
use lib.Seq.{get_or-set_same, get_or-set_other}
use Rattle.frames.specs.Cells.{Cell, null, value, is_zero, rows_of, Rows, Words}
use Rattle.frames.proofs.WordLaws.{rows_length}
use Rattle.order.specs.options.Options.{answer_columns}
use Rattle.order.specs.declared.options.Options.{Options}
use Rattle.tables.specs.Lay.{flat, lay_cells}
use Rattle.tables.proofs.TableLaws.{Wide}
use Rattle.tables.proofs.LayLaws.{lay_keeps, lay_over, lay_table, value_apart, mark_apart}
use Rattle.matching.specs.Groups.{match_frame}
use Rattle.matching.specs.Answer.{number_word, choice_mark, cells_from, answer_row, answer_rows, frame_answer, answered}
use Rattle.matching.specs.Stretches.{lay}
use Rattle.matching.specs.Requires.{FrameRoom, AnswerRoom}
use Rattle.matching.proofs.AnswerRows.{answer_wide, answer_count}
use Rattle.matching.proofs.FromLaws.{From, AllFrom, frame_from_lem}
use Rattle.matching.proofs.GroupLaws.{frame_length}
use Rattle.matchframe.specs.carrying.Spread.{choice_at, choices_from, spread, Numbered, SpreadIn}
use Rattle.order.proofs.options.ColumnLaws.{columns_some}

-- The cell that a choice is written as.
abbrev choice_cell : Option ℕ → Cell
choice_cell (Some k) = value (pos k)
choice_cell None = null

-- Choices are laid as these cells.
lay_cells_lem : (m i : ℕ) (ks : List (Option ℕ)) (out : Words) → lay m i ks out ≡ lay_cells m i (map choice_cell ks) out
unfolding lay lay_cells
lay_cells_lem m i [] out = refl
lay_cells_lem m i (Some k ∷ ks) out = lay_cells_lem m (suc i) ks (set (set out (2 + i) (pos k)) (2 + m + i) (pos 1))
lay_cells_lem m i (None ∷ ks) out = lay_cells_lem m (suc i) ks (set (set out (2 + i) (pos 0)) (2 + m + i) (pos 0))

-- Rows of c cells have c cells each.
flat_length : (c : ℕ) (rs : Rows) → Wide c rs → length (flat rs) ≡ length rs * c
unfolding flat
flat_length c [] h = omega arith
flat_length c (r ∷ rs) h =
    let a = length-append r (flat rs) in
    let b : length r ≡ c = h.0 in
    let d = flat_length c rs h.1 in
    omega arith

-- An answer of one column carries nothing and has no distance.
one_column : (o : Options) → answer_columns o ≡ 1 → (o.carried ≡ 0) × (o.with_distance ≡ false)
one_column o e = go o.with_distance e
  where
    go : (b : Bool) → cond b (suc (suc o.carried)) (suc o.carried) ≡ 1 → (o.carried ≡ 0) × (b ≡ false)
    go true e = absurd (omega arith)
    go false e = (omega arith, refl)

-- If nothing is carried and no distance is written, a row is the cell of its choice.
module _ (o : Options) (i : ℕ) (rights : Rows) (p : o.carried ≡ 0) (d : o.with_distance ≡ false) where
  plain_row : (x : List Cell) (k : Option ℕ) → answer_row o i rights x k ≡ choice_cell k ∷ []
  unfolding answer_row cells_from
  plain_row x (Some k) = rw (d, p)
  plain_row x None = rw (d, p)

  plain_cells : (xs : Rows) (ks : List (Option ℕ)) → length xs ≡ length ks → flat (answer_rows o i rights xs ks) ≡ map choice_cell ks
  unfolding flat answer_rows
  plain_cells [] [] e = refl
  plain_cells [] (k ∷ ks) e = absurd (omega arith)
  plain_cells (x ∷ xs) [] e = absurd (omega arith)
  plain_cells (x ∷ xs) (k ∷ ks) e = rw (plain_row x k) (ap (λ (z : List Cell). choice_cell k ∷ z) (plain_cells xs ks (omega arith)))

-- ---- the words of a choice that was laid
module _ (m : ℕ) where
  words_laid : (i : ℕ) (k : Option ℕ) (ks : List (Option ℕ)) (out : Words) → i + suc (length ks) ≤ m → 2 + 2 * m ≤ length out
      → (get_or (lay m i (k ∷ ks) out) (2 + i) (pos 0) ≡ number_word k) × (get_or (lay m i (k ∷ ks) out) (2 + m + i) (pos 0) ≡ choice_mark k)
  unfolding lay
  words_laid i k ks out h r =
      let v : Words = set out (2 + i) (number_word k) in
      let u : Words = set v (2 + m + i) (choice_mark k) in
      let l = length-map ks choice_cell in
      let lv : length v ≡ length out = length-set out (2 + i) (number_word k) in
      let a : get_or (lay m (suc i) ks u) (2 + i) (pos 0) ≡ get_or u (2 + i) (pos 0) =
      rw (lay_cells_lem m (suc i) ks u) (lay_keeps m (suc i) (map choice_cell ks) u (2 + i) (value_apart m (suc i) (length (map choice_cell ks)) i (omega arith) (omega arith))) in
      let b : get_or (lay m (suc i) ks u) (2 + m + i) (pos 0) ≡ get_or u (2 + m + i) (pos 0) =
      rw (lay_cells_lem m (suc i) ks u) (lay_keeps m (suc i) (map choice_cell ks) u (2 + m + i) (mark_apart m (suc i) (length (map choice_cell ks)) i (omega arith) (omega arith))) in (
        a ∙ get_or-set_other v (2 + m + i) (2 + i) (choice_mark k) (pos 0) (λ e. omega arith) ∙ get_or-set_same out (2 + i) (number_word k) (pos 0) (omega arith),
        b ∙ get_or-set_same v (2 + m + i) (choice_mark k) (pos 0) (omega arith),
      )

  choice_back : (k : Option ℕ) (out : Words) (i : ℕ) → get_or out (2 + i) (pos 0) ≡ number_word k → get_or out (2 + m + i) (pos 0) ≡ choice_mark k → choice_at m out i ≡ k
  choice_back (Some k) out i a b = rw (a, b)
  choice_back None out i a b = rw (a, b)

  -- Choices that are laid are read back.
  choices_back : (i : ℕ) (ks : List (Option ℕ)) (out : Words) → i + length ks ≤ m → 2 + 2 * m ≤ length out → choices_from m (lay m i ks out) i (length ks) ≡ ks
  unfolding choices_from lay
  choices_back i [] out h r = refl
  choices_back i (k ∷ ks) out h r =
      let w = words_laid i k ks out h r in
      let u : Words = set (set out (2 + i) (number_word k)) (2 + m + i) (choice_mark k) in
      let l : length u ≡ length out = simp length-set in
      ap (λ (z : Option ℕ). z ∷ choices_from m (lay m i (k ∷ ks) out) (suc i) (length ks)) (choice_back k (lay m i (k ∷ ks) out) i w.0 w.1)
      ∙ ap (λ (z : List (Option ℕ)). k ∷ z) (choices_back (suc i) ks u (omega arith) (omega arith))

  module _ (number nr : ℕ) where
    numbered_by : (k : Option ℕ) (out : Words) (i : ℕ) → From number (number + nr) k → get_or out (2 + i) (pos 0) ≡ number_word k → get_or out (2 + m + i) (pos 0) ≡ choice_mark k → Numbered number nr m out i
    numbered_by (Some k) out i f a b = record { whole = λ e. rw a; from = λ e. rw a f.0; below = λ e. rw a f.1 }
    numbered_by None out i f a b = record { whole = λ e. absurd (none e); from = λ e. absurd (none e); below = λ e. absurd (none e) }
      where
        none : is_zero (get_or out (2 + m + i) (pos 0)) ≡ false → ⊥
        none e = let t : true ≡ false = rw b at e in let z : ◌≡◌ {A = ℕ} 0 1 = cc in omega arith

    -- Each of them has the number of a right row, if the choices have.
    numbered_laid : (i : ℕ) (ks : List (Option ℕ)) (out : Words) → AllFrom number (number + nr) ks → i + length ks ≤ m → 2 + 2 * m ≤ length out
        → (j : ℕ) → i ≤ j → j < i + length ks → Numbered number nr m (lay m i ks out) j
    unfolding lay
    numbered_laid i [] out f h r j a b = absurd (omega arith)
    numbered_laid i (k ∷ ks) out f h r j a b =
        let u : Words = set (set out (2 + i) (number_word k)) (2 + m + i) (choice_mark k) in
        let l : length u ≡ length out = simp length-set in
        by (λ g. numbered_laid (suc i) ks u f.1 (omega arith) (omega arith) j (omega arith) (omega arith)) (ℕ_discrete i j)
      where
        by : (suc i ≤ j → Numbered number nr m (lay m i (k ∷ ks) out) j) → Dec (i ≡ j) → Numbered number nr m (lay m i (k ∷ ks) out) j
        by ih (yes e) = let w = words_laid i k ks out h r in subst (λ (z : ℕ). Numbered number nr m (lay m i (k ∷ ks) out) z) e (numbered_by k (lay m i (k ∷ ks) out) i f.0 w.0 w.1)
        by ih (no e) = ih (omega arith)

-- ---- the answer of a frame
module _ (o : Options) (wl nl : ℕ) (lv lm : Words) (wr nr : ℕ) (rv rm : Words) (number m : ℕ) (out : Words) (h : AnswerRoom o wl nl lv lm wr nr rv rm number m out) where
  -- The held rows, the frame's rows, and their choices.
  abbrev held : Rows
  held = rows_of wr nr rv rm

  abbrev left : Rows
  left = rows_of wl nl lv lm

  abbrev choices : List (Option ℕ)
  choices = match_frame o number held left

  numbers_in : nl ≤ m
  numbers_in = omega (arith, le-mul_of_pos_right {m = answer_columns o} nl (columns_some o), h.within)

  -- There is room for the numbers alone.
  pub frame_room : FrameRoom o wl nl lv lm wr nr rv rm number m out
  frame_room = record { left = h.left; right = h.right; numbers = h.numbers; within = numbers_in; room = h.room }

  choices_count : length choices ≡ nl
  choices_count = frame_length o number held left ∙ rows_length wl nl lv lm

  -- Each row has its cells.
  pub cells_count : length (flat (frame_answer o number held left)) ≡ nl * answer_columns o
  cells_count =
      flat_length (answer_columns o) (frame_answer o number held left) (answer_wide o number held left choices)
      ∙ ap (λ (z : ℕ). z * answer_columns o) (answer_count o number held left choices (sym (frame_length o number held left)) ∙ choices_count)

  -- The numbers laid may be spread.
  pub spread_in : (out₁ : Words) → length out₁ ≡ length out → out₁ ≡ lay m 0 choices out → SpreadIn o nl wl lv lm wr nr rv rm number m out₁
  spread_in out₁ l e =
      let n = numbers_in in
      let c = choices_count in
      let f : AllFrom number (number + nr) choices = rw (rows_length wr nr rv rm) at (frame_from_lem o number held left) in
      record {
        left = h.left;
        right = h.right;
        carried = h.carried;
        wide = h.wide;
        numbers = h.numbers;
        within = h.within;
        room = omega (arith, h.room);
        chosen = λ i g. rw e (numbered_laid m number nr 0 choices out f (omega arith) h.room i (omega arith) (omega arith));
      }

  -- Spread, they are the answer's cells.
  pub answer_spread : (out₁ out₂ : Words) → out₁ ≡ lay m 0 choices out → out₂ ≡ spread o number held left m out₁ → out₂ ≡ lay_cells m 0 (flat (frame_answer o number held left)) out
  unfolding spread
  answer_spread out₁ out₂ e s =
      let n = numbers_in in
      let c = choices_count in
      let k : length left ≡ length choices = sym (frame_length o number held left) in
      let b : choices_from m out₁ 0 (length left) ≡ choices = rw (e, k) (choices_back m 0 choices out (omega arith) h.room) in
      let w = cells_count in
      let v = length-map choices choice_cell in
      let t = h.within in
      let u = le-mul_of_pos_right {m = answer_columns o} nl (columns_some o) in
      s
      ∙ ap (λ (z : List (Option ℕ)). lay_cells m 0 (flat (answer_rows o number held left z)) out₁) b
      ∙ ap (lay_cells m 0 (flat (frame_answer o number held left))) (e ∙ lay_cells_lem m 0 choices out)
      ∙ lay_over m 0 (flat (frame_answer o number held left)) (map choice_cell choices) out (omega arith) (omega arith)

  -- If an answer has one column, they are so as they stand.
  pub answer_plain : (out₁ : Words) → answer_columns o ≡ 1 → out₁ ≡ lay m 0 choices out → out₁ ≡ lay_cells m 0 (flat (frame_answer o number held left)) out
  answer_plain out₁ p e =
      let q = one_column o p in
      e ∙ lay_cells_lem m 0 choices out ∙ ap (λ (z : List Cell). lay_cells m 0 z out) (sym (plain_cells o number held q.0 q.1 left choices (sym (frame_length o number held left))))

  -- With the head words they are the answer.
  pub answer_whole : (c : ℕ) (out₁ out₂ : Words) → m ≡ nl * c → c ≡ answer_columns o → out₁ ≡ lay_cells m 0 (flat (frame_answer o number held left)) out → out₂ ≡ set (set out₁ 0 (pos nl)) 1 (pos c)
      → out₂ ≡ answered o (frame_answer o number held left) out
  unfolding answered
  answer_whole c out₁ out₂ e d p q =
      let n : length (frame_answer o number held left) ≡ nl = answer_count o number held left choices (sym (frame_length o number held left)) ∙ choices_count in
      let w : length (flat (frame_answer o number held left)) ≡ m = cells_count ∙ ap (λ (z : ℕ). nl * z) (sym d) ∙ sym e in
      q ∙ ap (λ (z : Words). set (set z 0 (pos nl)) 1 (pos c)) p
      ∙ ap (λ (z : ℕ). set (set (lay_cells m 0 (flat (frame_answer o number held left)) out) 0 (pos z)) 1 (pos c)) (sym n)
      ∙ ap (λ (z : ℕ). set (set (lay_cells m 0 (flat (frame_answer o number held left)) out) 0 (pos (length (frame_answer o number held left)))) 1 (pos z)) d
      ∙ lay_table m (answer_columns o) (frame_answer o number held left) out w h.room
