-- Sorted rows: what is written are the matches of the whole table, what was dropped matters to no later row, and no order fault is told. Assumes nothing.
use Rattle.std.specs.Prelude.{Option}
use mathlib.Core.Path.{◌≡◌, refl, sym, ap, ◌∙◌}
use mathlib.Core.Bool.{Bool, true, false, cond, ◌||◌, and-false}
use mathlib.Core.List.{List, [], ◌∷◌, ◌++◌, append-nil, append_assoc, map}
use Prim.Native.Nat.{ℕ, zero, suc, ◌+◌, ◌-◌, ◌≤◌, ◌<◌}
use native.Mathlib.Omega.{arith}
use borrow.Author.Tests.{eqb-false, eqb-true}
use lib.Dec.{eqb}
use lib.ListN.{length, get_or, take, drop, take-append-drop}
use lib.Seq.{take-append-le, drop-append-le, drop-drop, take-add}
use Rattle.frames.specs.Cells.{Cell, Rows, Words}
use Rattle.frames.specs.Frame.{is_frame, frame_rows}
use Rattle.order.specs.options.Options.{columns, right_columns, answer_columns, is_on}
use Rattle.order.specs.Order.{cmp_row, sorted}
use Rattle.order.specs.Keyed.{recall, remember_last, remember_at, first_left, last_left_at}
use Rattle.order.specs.declared.options.Options.{Options}
use Rattle.order.proofs.OrderLaws.{AtMost}
use Rattle.order.proofs.SortedLaws.{All, all_at, all_by, all_map, all_cut, all_join, sorted_cut, sorted_at, sorted_drop}
use Rattle.frames.proofs.WordLaws.{map-append}
use Rattle.order.proofs.KeyedLaws.{Below, first_left_found, last_left_found, below_fine, remember_below, remember_last_below, wide_enough}
use Rattle.searching.specs.Reach.{need_more, row_needs_more, prune_by, no_prune, split_at}
use Rattle.searching.proofs.SplitLaw.{split}
use Rattle.searching.proofs.EnoughLaw.{enough}
use Rattle.searching.proofs.CheckLaw.{split_fine}
use Rattle.matching.specs.Match.{match_table, whole_table}
use Rattle.matching.specs.Answer.{answer_row, answer_rows, answered}
use Rattle.matching.specs.Groups.{match_frame}
use Rattle.lists.proofs.PruneLaw.{prune_keeps}
use Rattle.lists.proofs.EnoughLaw.{enough_keeps}
use Rattle.matching.proofs.GroupLaws.{frame_match}
use Rattle.matching.proofs.FromLaws.{table_from, row_from_lem}
use Rattle.matching.proofs.AnswerRows.{answer_map}
use Rattle.node.specs.declared.Join.{Join}
use Rattle.node.specs.Calls.{dropped, dequeued}
use Rattle.matchframe.specs.turnrows.Prunes.{bad_left, bad_right, first_prune, remembered, remembered_left, kept_rows, last_prune}
use Rattle.lists.specs.Lists.{rows_in, Entry, written_in, matches_in}
use Rattle.lists.specs.WholeTables.{as_written, due_over}
use Rattle.lists.proofs.ListLaws.{rows_in_append, matches_append}
use Rattle.lists.proofs.Turned.{frame_cells, turned_of, turned_after, turned_more}
use Rattle.lists.proofs.Stock.{Frames}
use Rattle.lists.proofs.EntryLaws.{written_back}
use Rattle.matchframe.proofs.turnrows.PruneLaws.{first_within}
use Rattle.lists.proofs.Turn.{left_by, matched_by, matched_wide}

-- ---- small laws of lists
map_same : {A B : Type 0} (f g : A → B) (xs : List A) → ((i : ℕ) → i < length xs → (d : A) → f (get_or xs i d) ≡ g (get_or xs i d)) → map f xs ≡ map g xs
map_same f g [] h = refl
map_same f g (x ∷ xs) h = rw (h 0 (omega arith) x, map_same f g xs (λ i l d. h (suc i) (omega arith) d))

map-map : {A B C : Type 0} (f : B → C) (g : A → B) (xs : List A) → map f (map g xs) ≡ map (λ x. f (g x)) xs
map-map f g [] = refl
map-map f g (x ∷ xs) = rw (map-map f g xs)

-- The rows of frames of c columns have c cells each.
pub rows_in_wide : (c : ℕ) (fs : List Words) → Frames c fs → All (λ r. length r ≡ c) (rows_in c fs)
unfolding rows_in
rows_in_wide c [] p = tt
rows_in_wide c (f ∷ fs) p =
    all_join (λ r. length r ≡ c) (frame_rows c f) (rows_in c fs)
    (frame_cells c f p.0) (rows_in_wide c fs p.1)

-- What holds where the left rows turned and the right rows are sorted: L, R the accepted frames, Os the outputs written, `ended` whether right has ended.
-- F is any rows that may come behind the right ones.
pub record Sound (o : Options) (L R Os : List Words) (ended : Bool) (j : Join) : Type 0 where
  pub matches : (F : Rows) → (ended ≡ true → F ≡ []) → sorted o (rows_in (right_columns o) R ++ F) ≡ true
      → matches_in (answer_columns o) Os ≡ map (due_over o (rows_in (right_columns o) R ++ F)) (turned_of o L Os)
  pub harmless : (F : Rows) → (ended ≡ true → F ≡ []) → sorted o (rows_in (right_columns o) R ++ F) ≡ true → (x : List Cell) → All (λ y. AtMost (cmp_row o) y x) (turned_of o L Os)
      → match_table o 0 (rows_in (right_columns o) R ++ F) x ≡ match_table o j.pruned (drop j.pruned (rows_in (right_columns o) R) ++ F) x
  pub left_below : (x : List Cell) → All (λ y. AtMost (cmp_row o) y x) (turned_of o L Os) → Below o (recall (columns o) j.last_left) x
  pub right_below : (x : List Cell) → All (λ y. AtMost (cmp_row o) y x) (take j.pruned (rows_in (right_columns o) R)) → Below o (recall (columns o) j.last_right) x
  pub unfailed : sorted o (rows_in (columns o) L) ≡ true → j.failed ≡ false

-- ---- rows
module _ (o : Options) where
  -- Rows before: each is at most row i behind them.
  pub before_row : (T rows : Rows) → sorted o (T ++ rows) ≡ true → (i : ℕ) → i < length rows → All (λ y. AtMost (cmp_row o) y (get_or rows i [])) T
  before_row T rows s i h =
      all_map (λ a. All (AtMost (cmp_row o) a) rows) (λ y. AtMost (cmp_row o) y (get_or rows i [])) (λ a p. all_at (AtMost (cmp_row o) a) rows p i h) T (sorted_cut o T rows s).2

  sorted_more : (n : ℕ) (held F : Rows) → n ≤ length held → sorted o (held ++ F) ≡ true → sorted o (drop n held ++ F) ≡ true
  sorted_more n held F h s = rw (← drop-append-le n held F h) (sorted_drop o n (held ++ F) s)

  sorted_alone : (held F : Rows) → sorted o (held ++ F) ≡ true → sorted o (held ++ []) ≡ true
  sorted_alone held F s = rw (append-nil held) (sorted_cut o held F s).0

  -- A prune by row i of the left frame changes no match of a row that is not before it.
  prune_by_lem : (i : ℕ) (left held F : Rows) → sorted o (held ++ F) ≡ true → (x : List Cell) → (no_prune left held ≡ false → AtMost (cmp_row o) (get_or left i []) x) → (n : ℕ)
      → match_table o n (held ++ F) x ≡ match_table o (n + prune_by o i left held) (drop (prune_by o i left held) held ++ F) x
  unfolding prune_by
  prune_by_lem i left held F s x h n = go (no_prune left held) refl
    where
      p : ℕ
      p = split_at o (get_or left i []) held

      go : (b : Bool) → no_prune left held ≡ b → match_table o n (held ++ F) x ≡ match_table o (n + cond b 0 (split_at o (get_or left i []) held)) (drop (cond b 0 (split_at o (get_or left i []) held)) held ++ F) x
      go true e = let z : n + 0 ≡ n = omega arith in rw z
      go false e = prune_keeps o (get_or left i []) held F (split_at o (get_or left i []) held) (split o (get_or left i []) held (sorted_cut o held F s).0) s x (h e) n

  -- The prune by row 0, where the check is off.
  first_by : (left held F : Rows) → sorted o (held ++ F) ≡ true → (x : List Cell) → (no_prune left held ≡ false → AtMost (cmp_row o) (get_or left 0 []) x) → (n : ℕ)
      → match_table o n (held ++ F) x ≡ match_table o (n + first_prune o left held) (kept_rows o left held ++ F) x
  unfolding kept_rows first_prune
  first_by left held F s x h n = go (is_on o.check)
    where
      go : (b : Bool) → match_table o n (held ++ F) x ≡ match_table o (n + cond b 0 (prune_by o 0 left held)) (drop (cond b 0 (prune_by o 0 left held)) held ++ F) x
      go true = let z : n + 0 ≡ n = omega arith in rw z
      go false = prune_by_lem 0 left held F s x h n

  not_empty : (left held : Rows) → no_prune left held ≡ false → 0 < length left
  not_empty left held e = go (eqb (length left) 0) refl e
    where
      go : (b : Bool) → eqb (length left) 0 ≡ b → (b || eqb (length held) 0) ≡ false → 0 < length left
      go true q e = let z : ◌≡◌ {A = ℕ} 0 1 = cc in absurd (omega arith)
      go false q e = let n = eqb-false (length left) 0 q in pos_of (length left) n
        where
          pos_of : (n : ℕ) → (n ≡ 0 → ⊥) → 0 < n
          pos_of zero k = absurd (k refl)
          pos_of (suc n) k = omega arith

  -- Rows that come behind change no match of a frame that needs no more.
  wait_by : (left held F : Rows) → sorted o (held ++ F) ≡ true → need_more o left held ≡ false → sorted o left ≡ true → (i : ℕ) → i < length left → (n : ℕ)
      → match_table o n (held ++ F) (get_or left i []) ≡ match_table o n held (get_or left i [])
  unfolding need_more
  wait_by left held F s e t i h n =
      enough_keeps o last held F (enough o last held F s (no_more (eqb (length left) 0) refl e)) (get_or left i []) (sorted_at o left t i (length left - 1) (omega arith) (omega arith)) n
    where
      last : List Cell
      last = get_or left (length left - 1) []

      no_more : (b : Bool) → eqb (length left) 0 ≡ b → cond b false (row_needs_more o (get_or left (length left - 1) []) held) ≡ false → row_needs_more o (get_or left (length left - 1) []) held ≡ false
      no_more true q z = absurd (omega (arith, eqb-true (length left) 0 q))
      no_more false q z = z

all_take : (P : List Cell → Type 0) (n : ℕ) (rs : Rows) → All P rs → All P (take n rs)
all_take P n rs h = (all_cut P (take n rs) (drop n rs) (rw (take-append-drop n rs) h)).0

all_drop : (P : List Cell → Type 0) (n : ℕ) (rs : Rows) → All P rs → All P (drop n rs)
all_drop P n rs h = (all_cut P (take n rs) (drop n rs) (rw (take-append-drop n rs) h)).1

-- Of the first p + d rows: the first p, and the d behind them.
all_parts : (P : List Cell → Type 0) (p d : ℕ) (rs : Rows) → All P (take (p + d) rs) → All P (take p rs) × All P (take d (drop p rs))
all_parts P p d rs h = all_cut P (take p rs) (take d (drop p rs)) (rw (take-add p d rs) at h)

-- ---- what is kept for matching
module _ (o : Options) (left held : Rows) where
  kept_sorted : sorted o held ≡ true → sorted o (kept_rows o left held) ≡ true
  unfolding kept_rows
  kept_sorted s = sorted_drop o (first_prune o left held) held s

  kept_sorted_more : (F : Rows) → sorted o (held ++ F) ≡ true → sorted o (kept_rows o left held ++ F) ≡ true
  unfolding kept_rows
  kept_sorted_more F s = sorted_more o (first_prune o left held) held F (first_within o left held) s

  gone_rows : (n : ℕ) → drop n (kept_rows o left held) ≡ drop n (drop (first_prune o left held) held)
  unfolding kept_rows
  gone_rows n = refl

  -- The prune by the last row, over what is kept.
  last_by_lem : (F : Rows) → sorted o (kept_rows o left held ++ F) ≡ true → (x : List Cell)
      → (no_prune left (kept_rows o left held) ≡ false → AtMost (cmp_row o) (get_or left (length left - 1) []) x) → (n : ℕ)
      → match_table o n (kept_rows o left held ++ F) x ≡ match_table o (n + last_prune o left held) (drop (last_prune o left held) (kept_rows o left held) ++ F) x
  unfolding last_prune
  last_by_lem F s x h n = prune_by_lem o (length left - 1) left (kept_rows o left held) F s x h n

-- A place in a list does not ask for what stands behind it.
get_d_any : {A : Type 0} (xs : List A) (i : ℕ) (d e : A) → i < length xs → get_or xs i d ≡ get_or xs i e
get_d_any [] i d e h = absurd (omega arith)
get_d_any (x ∷ xs) zero d e h = refl
get_d_any (x ∷ xs) (suc i) d e h = get_d_any xs i d e (omega arith)

-- ---- a turn
module _ (o : Options) (L R Os : List Words) (ended : Bool) (j : Join) (S : Sound o L R Os ended j) (right_frames : Frames (right_columns o) R)
    (few : j.pruned ≤ length (rows_in (right_columns o) R)) (f : Words) (rest : List Words) (frame : is_frame (columns o) f ≡ true) (e : drop (length Os) L ≡ f ∷ rest)
    (sorted-turned : sorted o (turned_of o L Os ++ frame_rows (columns o) f) ≡ true) (sr : sorted o (rows_in (right_columns o) R) ≡ true) where
  abbrev A : Rows
  A = rows_in (right_columns o) R

  abbrev held : Rows
  held = drop j.pruned (rows_in (right_columns o) R)

  abbrev rows : Rows
  rows = frame_rows (columns o) f

  abbrev T : Rows
  T = turned_of o L Os

  sorted_rows : sorted o rows ≡ true
  sorted_rows = (sorted_cut o T rows sorted-turned).1

  sorted_held : sorted o held ≡ true
  sorted_held = sorted_drop o j.pruned A sr

  before_held : (i : ℕ) → i < length held → All (λ y. AtMost (cmp_row o) y (get_or held i [])) (take j.pruned A)
  before_held = before_row o (take j.pruned A) held (rw (take-append-drop j.pruned A) sr)

  -- (O) No false alarm, with the check on or off.
  pub left_fine : bad_left o j.last_left rows ≡ false
  unfolding bad_left
  left_fine =
      rw (below_fine o (recall (columns o) j.last_left) rows (λ i h. S.left_below (get_or rows i []) (before_row o T rows sorted-turned i h)) (first_left o rows) (first_left_found o rows), sorted_rows) (and-false (is_on o.check))

  pub right_fine : bad_right o j.last_right rows held ≡ false
  unfolding bad_right
  right_fine =
      rw (sorted_held, split_fine o j.last_right held sorted_held (all_by (Below o (recall (columns o) j.last_right)) held (λ i h. S.right_below (get_or held i []) (before_held i h))) (length rows - 1) rows)
      (and-false (is_on o.check))

  abbrev first : ℕ
  first = first_prune o rows held

  abbrev last : ℕ
  last = last_prune o rows held

  first_few : first ≤ length held
  first_few = first_within o rows held

  -- What a turn that writes leaves.
  module _ (need : ended ≡ false → need_more o rows held ≡ false) where
    module _ (F : Rows) (open_to : ended ≡ true → F ≡ []) (sf : sorted o (A ++ F) ≡ true) where
      sorted_hf : sorted o (held ++ F) ≡ true
      sorted_hf = sorted_more o j.pruned A F few sf

      waited : (i : ℕ) → i < length rows → match_table o j.pruned (held ++ F) (get_or rows i []) ≡ match_table o j.pruned held (get_or rows i [])
      waited i h = go ended refl
        where
          go : (b : Bool) → ended ≡ b → match_table o j.pruned (held ++ F) (get_or rows i []) ≡ match_table o j.pruned held (get_or rows i [])
          go true q = rw (open_to q, append-nil held)
          go false q = wait_by o rows held F sorted_hf (need q) sorted_rows i h j.pruned

      -- The match of each row of the frame is that of the whole table.
      each_row : (i : ℕ) → i < length rows → match_table o (j.pruned + first) (kept_rows o rows held) (get_or rows i []) ≡ match_table o 0 (A ++ F) (get_or rows i [])
      each_row i h =
          let x = get_or rows i [] in
          let p = first_by o rows held [] (sorted_alone o held F sorted_hf) x (λ n. sorted_at o rows sorted_rows 0 i (omega arith) h) j.pruned in
          let q : match_table o j.pruned held x ≡ match_table o (j.pruned + first) (kept_rows o rows held) x = rw (append-nil held, append-nil (kept_rows o rows held)) at p in
          sym (S.harmless F open_to sf x (before_row o T rows sorted-turned i h) ∙ waited i h ∙ q)

      -- So is its row of the answer: the row that is chosen among those kept is the one with this number among all.
      kept_are : kept_rows o rows held ≡ drop (j.pruned + first) A
      unfolding kept_rows
      kept_are = drop-drop first j.pruned A

      each_answer : (i : ℕ) → i < length rows
          → answer_row o (j.pruned + first) (kept_rows o rows held) (get_or rows i []) (match_table o (j.pruned + first) (kept_rows o rows held) (get_or rows i []))
          ≡ answer_row o 0 (A ++ F) (get_or rows i []) (whole_table o (A ++ F) (get_or rows i []))
      unfolding whole_table
      each_answer i h =
          let x = get_or rows i [] in
          let n = j.pruned + first in
          let m = match_table o n (drop n A) x in
          rw kept_are (row_from_lem o n A F x m (table_from o x n (drop n A)) ∙ ap (answer_row o 0 (A ++ F) x) (rw kept_are at (each_row i h)))

      frame_written : (out : Words) → written_in (answer_columns o) (answered o (matched_by o j rows held) out) ≡ map (due_over o (A ++ F)) rows
      unfolding matched_by
      frame_written out =
          let n = j.pruned + first in
          let kept = kept_rows o rows held in
          written_back o (answer_rows o n kept rows (match_frame o n kept rows)) out (matched_wide o j rows held)
          ∙ ap (λ (ms : List (Option ℕ)). map as_written (answer_rows o n kept rows ms)) (frame_match o n kept rows (kept_sorted o rows held sorted_held) sorted_rows)
          ∙ ap (map as_written) (answer_map o n kept (match_table o n kept) rows)
          ∙ map-map as_written (λ x. answer_row o n kept x (match_table o n kept x)) rows
          ∙ map_same (λ x. as_written (answer_row o n kept x (match_table o n kept x))) (due_over o (A ++ F)) rows by_row
        where
          by_row : (i : ℕ) → i < length rows → (d : List Cell)
              → as_written (answer_row o (j.pruned + first) (kept_rows o rows held) (get_or rows i d) (match_table o (j.pruned + first) (kept_rows o rows held) (get_or rows i d))) ≡ due_over o (A ++ F) (get_or rows i d)
          by_row i h d = rw (get_d_any rows i d [] h) (ap as_written (each_answer i h))

      -- What was dropped matters to no later row.
      pub harmless_after : (x : List Cell) → All (λ y. AtMost (cmp_row o) y x) (T ++ rows)
          → match_table o 0 (A ++ F) x ≡ match_table o (j.pruned + (first + last)) (drop (j.pruned + (first + last)) A ++ F) x
      harmless_after x h =
          let c = all_cut (λ y. AtMost (cmp_row o) y x) T rows h in
          let in_rows = all_at (λ y. AtMost (cmp_row o) y x) rows c.1 in
          let a = S.harmless F open_to sf x c.0 in
          let b = first_by o rows held F sorted_hf x (λ n. in_rows 0 (not_empty o rows held n)) j.pruned in
          let d = last_by_lem o rows held F (sorted_kept_f) x (λ n. in_rows (length rows - 1) (omega (arith, not_empty o rows (kept_rows o rows held) n))) (j.pruned + first) in
          let n : j.pruned + (first + last) ≡ j.pruned + first + last = omega arith in
          a ∙ b ∙ d ∙ rw (n) (ap (λ (z : Rows). match_table o (j.pruned + first + last) (z ++ F) x) (gone_rows o rows held last ∙ ap (λ (z : Rows). drop last z) (drop-drop first j.pruned A) ∙ drop-drop last (j.pruned + first) A))
        where
          sorted_kept_f : sorted o (kept_rows o rows held ++ F) ≡ true
          sorted_kept_f = kept_sorted_more o rows held F sorted_hf

    -- The frame's last row, or its last with a key, or what was remembered, is below every later left row.
    left_below_after : (x : List Cell) → All (λ y. AtMost (cmp_row o) y x) (T ++ rows) → Below o (recall (columns o) (remembered_left o j.last_left rows)) x
    unfolding remembered_left
    left_below_after x h = go (is_on o.check)
      where
        c : All (λ y. AtMost (cmp_row o) y x) T × All (λ y. AtMost (cmp_row o) y x) rows
        c = all_cut (λ y. AtMost (cmp_row o) y x) T rows h

        go : (b : Bool) → Below o (recall (columns o) (cond b (remember_at o j.last_left rows (last_left_at o rows)) j.last_left)) x
        go true = remember_below o j.last_left rows (wide_enough o (columns o) (omega arith) rows (frame_cells (columns o) f frame)) x c.1 (last_left_at o rows) (last_left_found o rows) (S.left_below x c.0)
        go false = S.left_below x c.0

    -- The last row with a key of those dropped, or what was remembered, is below every row that is held or comes.
    right_below_after : (x : List Cell) → All (λ y. AtMost (cmp_row o) y x) (take (j.pruned + (first + last)) A)
        → Below o (recall (columns o) (remembered o j.last_right (take last (kept_rows o rows held)))) x
    unfolding remembered kept_rows
    right_below_after x h = go (is_on o.check)
      where
        c : All (λ y. AtMost (cmp_row o) y x) (take j.pruned A) × All (λ y. AtMost (cmp_row o) y x) (take (first + last) held)
        c = all_parts (λ y. AtMost (cmp_row o) y x) j.pruned (first + last) A h

        d : All (λ y. AtMost (cmp_row o) y x) (take last (drop first held))
        d = (all_parts (λ y. AtMost (cmp_row o) y x) first last held c.1).1

        wide : All (λ r. length r ≡ right_columns o) (take last (drop first held))
        wide =
            all_take (λ r. length r ≡ right_columns o) last (drop first held)
            (all_drop (λ r. length r ≡ right_columns o) first held (all_drop (λ r. length r ≡ right_columns o) j.pruned A (rows_in_wide (right_columns o) R right_frames)))

        go : (b : Bool) → Below o (recall (columns o) (cond b (remember_last o j.last_right (take last (drop first held))) j.last_right)) x
        go true = remember_last_below o j.last_right (take last (drop first held)) (wide_enough o (right_columns o) (omega arith) (take last (drop first held)) wide) x d (S.right_below x c.0)
        go false = S.right_below x c.0

    pub sound_turn : (out : Words) → Sound o L R (Os ++ (answered o (matched_by o j rows held) out ∷ [])) ended (left_by o j rows held (length f))
    unfolding left_by dropped dequeued matches_in
    sound_turn out =
        let out' = answered o (matched_by o j rows held) out in
        let n = turned_after o L Os f rest e out' in
        record {
          matches = λ F q sf.
              rw (n, matches_append (answer_columns o) Os (out' ∷ []), append-nil (written_in (answer_columns o) out'), map-append (due_over o (A ++ F)) T rows, frame_written F q sf out)
              (ap (λ (z : List Entry). z ++ map (due_over o (A ++ F)) rows) (S.matches F q sf));
          harmless = λ F q sf x h. harmless_after F q sf x (rw n at h);
          left_below = λ x h. left_below_after x (rw n at h);
          right_below = right_below_after;
          unfailed = S.unfailed;
        }

pub contra : {A : Type 0} {b : Bool} → b ≡ true → b ≡ false → A
contra p q = let z : ◌≡◌ {A = ℕ} 0 1 = cc in absurd (omega arith)

-- ---- the other calls that change what Sound speaks of
module _ (o : Options) (L R Os : List Words) (ended : Bool) (j : Join) (S : Sound o L R Os ended j) where
  -- A join that differs in other fields alone; right may end.
  pub sound_same : (k : Join) → k.pruned ≡ j.pruned → k.last_left ≡ j.last_left → k.last_right ≡ j.last_right → (sorted o (rows_in (columns o) L) ≡ true → k.failed ≡ false)
      → (now : Bool) → (ended ≡ true → now ≡ true) → Sound o L R Os now k
  sound_same k ep el er ef now q = record {
    matches = λ F p sf. S.matches F (λ t. p (q t)) sf;
    harmless = λ F p sf x h. rw ep (S.harmless F (λ t. p (q t)) sf x h);
    left_below = λ x h. rw el (S.left_below x h);
    right_below = λ x h. rw er (S.right_below x (rw ep at h));
    unfailed = ef;
  }

  -- A left frame more.
  pub sound_left : (f : Words) → length Os ≤ length L → Sound o (L ++ (f ∷ [])) R Os ended j
  sound_left f g =
      let n = turned_more o L Os f g in
      record {
        matches = λ F p sf. rw n (S.matches F p sf);
        harmless = λ F p sf x h. S.harmless F p sf x (rw n at h);
        left_below = λ x h. S.left_below x (rw n at h);
        right_below = S.right_below;
        unfailed = λ sl. S.unfailed (sorted_cut o (rows_in (columns o) L) (rows_in (columns o) (f ∷ [])) (rw (rows_in_append (columns o) L (f ∷ [])) at sl)).0;
      }

  -- A right frame more, while right has not ended.
  pub sound_right : (f : Words) → ended ≡ false → j.pruned ≤ length (rows_in (right_columns o) R) → Sound o L (R ++ (f ∷ [])) Os ended j
  unfolding rows_in
  sound_right f open-still few =
      let A = rows_in (right_columns o) R in
      let new = frame_rows (right_columns o) f in
      let n : rows_in (right_columns o) (R ++ (f ∷ [])) ≡ A ++ new = rows_in_append (right_columns o) R (f ∷ []) ∙ ap (λ (z : Rows). A ++ z) (append-nil new) in
      record {
        matches = λ F p sf. rw (n, append_assoc A new F) (S.matches (new ++ F) (λ t. contra t open-still) (rw (n, append_assoc A new F) at sf));
        harmless = λ F p sf x h. rw (n, append_assoc A new F, drop-append-le j.pruned A new few, append_assoc (drop j.pruned A) new F) (S.harmless (new ++ F) (λ t. contra t open-still) (rw (n, append_assoc A new F) at sf) x h);
        left_below = S.left_below;
        right_below = λ x h. S.right_below x (rw (n, take-append-le j.pruned A new few) at h);
        unfailed = S.unfailed;
      }
