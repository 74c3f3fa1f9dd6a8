-- A turn over the stock: what it answers and leaves, told by the accepted frames; and that it keeps the invariant. Assumes nothing.
use Rattle.frames.specs.declared.outcomes.Turn.TheVariants.{Wrote, WantsRight, Idle}
use Rattle.frames.specs.declared.outcomes.Turn.{Turn}
use Rattle.std.specs.Prelude.{Result, Ok, Err}
use mathlib.Core.Path.{◌≡◌, refl, sym, ap, ◌∙◌}
use mathlib.Core.Bool.{Bool, true, false, cond, not, ◌&&◌, or-false, or-true}
use mathlib.Core.List.{List, [], ◌∷◌, ◌++◌, append-nil}
use Prim.Native.Nat.{ℕ, ◌+◌, ◌≤◌}
use native.Mathlib.Omega.{arith}
use borrow.Author.Tests.{ne_eqb, eq-eqb}
use lib.Dec.{ltb, eqb}
use lib.ListN.{length, take, drop, length-drop}
use Rattle.frames.proofs.BoolLaws.{and_true_right}
use Rattle.frames.specs.Cells.{Rows, Words}
use Rattle.frames.specs.Frame.{row_count, frame_words, is_frame, frame_rows, front}
use Rattle.order.specs.options.Options.{columns, right_columns, answer_columns, refused_options}
use Rattle.order.specs.declared.options.Options.{Options}
use Rattle.order.specs.declared.options.Check.TheVariants.{Strict}
use Rattle.frames.proofs.FrameLaws.{frame_length, frame_rows_lem}
use Rattle.order.proofs.KeyedLaws.{wide_enough}
use Rattle.searching.specs.Reach.{need_more}
use Rattle.matching.specs.Groups.{match_frame}
use Rattle.matching.specs.Answer.{frame_answer, answered}
use Rattle.matching.proofs.ChoiceLaws.{cond_ind}
use Rattle.matching.proofs.GroupLaws.{frame_length as match-length}
use Rattle.matching.proofs.AnswerRows.{answer_wide, answer_count}
use Rattle.tables.proofs.TableLaws.{Wide}
use Rattle.order.specs.Listed.{lacks_code}
use Rattle.node.specs.declared.Join.{Join}
use Rattle.frames.specs.refusals.Refusals.{marks_failed}
use Rattle.frames.proofs.refusals.RefusalLaws.{marked_ind}
use Rattle.frames.proofs.outcomes.Tests.{past}
use Rattle.frames.specs.declared.refusals.Refusal.{Refusal}
use Rattle.frames.specs.declared.refusals.Refusal.TheVariants.{Failed, Closed, NoRoom, UsedUp, LeftOrder, RightOrder}
use Rattle.node.specs.State.{next_turn, marked_failed, bad_join, held_of, waiting}
use Rattle.frames.specs.outcomes.Answers.{is_running, is_done, last_sequence}
use Rattle.node.specs.Calls.{after, turn_answer, turn_call, turned, dropped, dequeued, spoiled}
use Rattle.matchframe.specs.turnrows.Prunes.{bad_left, bad_right, first_prune, remembered, remembered_left, kept_rows, last_prune}
use Rattle.matchframe.proofs.turnrows.PruneLaws.{drops_within}
use Rattle.frames.specs.refusals.Tests.{test, first_of}
use Rattle.node.specs.turnparts.Part.{room_tests, order_tests}
use Rattle.lists.specs.Lists.{turn, Event, on_turn, World, step, left_frames, right_frames, rows_in, output_in, outputs, back_to_back, done_by, refused_with, turn_refusal}
use Rattle.lists.proofs.ListLaws.{left_append, right_append, outputs_append}
use Rattle.lists.proofs.Turned.{frame_cells, turned_of, turned_after, Together, together_more}
use Rattle.lists.proofs.Stock.{Stock, stock_same, stock_turn, waiting_length, next_frame, front_next, front_room, held_rows_lem, next_codes}
use Rattle.lists.proofs.Invariant.{Inv, Adds, SameFlags, adds_same, flags_add, good, keep}

-- ---- the turn's answer and what it leaves, told by the frame's rows and the held rows
unfoldable pub judged : Options → Join → Rows → Rows → Words → Result Turn Refusal
judged o j rows held out =
    first_of (
    test j.failed (Err Failed)
    ∷ test (is_done j.state) (Err Closed)
    ∷ room_tests o j.right_ended j.sequence rows held (length out)
    ++ order_tests (bad_left o j.last_left rows) (bad_right o j.last_right rows held)
    )
    (Ok (Wrote j.sequence))

-- The join that a turn that writes leaves, and what it writes.
unfoldable pub left_by : Options → Join → Rows → Rows → ℕ → Join
left_by o j rows held n =
    next_turn (dequeued (dropped j (first_prune o rows held + last_prune o rows held)) n) (remembered_left o j.last_left rows) (remembered o j.last_right (take (last_prune o rows held) (kept_rows o rows held)))

unfoldable pub matched_by : Options → Join → Rows → Rows → Rows
matched_by o j rows held = frame_answer o (j.pruned + first_prune o rows held) (kept_rows o rows held) rows

count_matched : (o : Options) (j : Join) (rows held : Rows) → length (matched_by o j rows held) ≡ length rows
unfolding matched_by
count_matched o j rows held =
    let i : ℕ = j.pruned + first_prune o rows held in
    let n = match-length o i (kept_rows o rows held) rows in
    answer_count o i (kept_rows o rows held) rows (match_frame o i (kept_rows o rows held) rows) (sym n) ∙ n

-- Its rows are as wide as an answer is.
pub matched_wide : (o : Options) (j : Join) (rows held : Rows) → Wide (answer_columns o) (matched_by o j rows held)
unfolding matched_by
matched_wide o j rows held =
    let i : ℕ = j.pruned + first_prune o rows held in
    answer_wide o i (kept_rows o rows held) rows (match_frame o i (kept_rows o rows held) rows)

module _ (o : Options) (j : Join) (left right f : Words) (rows : Rows) (opened : j.options ≡ o) (fronted : front (columns o) (waiting j left) ≡ f) (holds : held_of j right ≡ rows) where
  own_front : front (columns j.options) (waiting j left) ≡ f
  own_front = ap (λ (q : Options). front (columns q) (waiting j left)) opened ∙ fronted

  pub answer_by : bad_join j left right ≡ false → eqb j.queue_words 0 ≡ false → is_frame (columns o) f ≡ true → lacks_code o (frame_rows (columns o) f) ≡ false → (out : Words) → turn_answer j left right out ≡ judged o j (frame_rows (columns o) f) rows out
  unfolding turn_answer judged
  answer_by fine some frame codes out = rw (fine, own_front, some, holds, opened, frame, codes)

  pub turned_by_lem : (out : Words) → turned j left right out
      ≡ after (Ok (Wrote j.sequence)) (left_by o j (frame_rows (columns o) f) rows (length f)) left right (answered o (matched_by o j (frame_rows (columns o) f) rows) out)
  unfolding turned left_by kept_rows last_prune matched_by
  turned_by_lem out = rw (own_front, holds, opened)

-- ---- what no turn answers
-- Neither refusal 2, nor 5, nor 12.
pub record Fine (a : Result Turn Refusal) : Type 0 where
  pub not2 : eqb (turn_refusal a) 2 ≡ false
  pub not5 : eqb (turn_refusal a) 5 ≡ false
  pub not12 : eqb (turn_refusal a) 12 ≡ false

fine_idle : (b d : Bool) → Fine (cond b (Err Failed) (cond d (Err Closed) (Ok Idle)))
fine_idle true d = record { not2 = refl; not5 = refl; not12 = refl }
fine_idle false true = record { not2 = refl; not5 = refl; not12 = refl }
fine_idle false false = record { not2 = refl; not5 = refl; not12 = refl }

idle_writes : (b d : Bool) (q : ℕ) → cond b (Err Failed) (cond d (Err Closed) (Ok Idle)) ≡ Ok (Wrote q) → ⊥
idle_writes true d q e = let z : ◌≡◌ {A = ℕ} 0 1 = cc in omega arith
idle_writes false true q e = let z : ◌≡◌ {A = ℕ} 0 1 = cc in omega arith
idle_writes false false q e = let z : ◌≡◌ {A = ℕ} 0 1 = cc in omega arith

-- What holds of each answer that a turn over a waiting frame can give holds of its answer.
pub judged_all : (P : Result Turn Refusal → Type 0) (o : Options) (j : Join) (rows held : Rows) (out : Words) → P (Err Failed) → P (Err Closed) → P (Ok WantsRight) → P (Err NoRoom) → P (Err UsedUp)
    → (bad_left o j.last_left rows ≡ true → P (Err LeftOrder)) → (bad_right o j.last_right rows held ≡ true → P (Err RightOrder)) → P (Ok (Wrote j.sequence)) → P (judged o j rows held out)
unfolding judged
judged_all P o j rows held out p3 p4 pw p6 p7 p8 p9 p =
    cond_ind P j.failed (λ t. p3) (λ t.
    cond_ind P (is_done j.state) (λ t. p4) (λ t.
    cond_ind P (not j.right_ended && need_more o rows held) (λ t. pw) (λ t.
    cond_ind P (ltb (length out) (frame_words (length rows) (answer_columns o))) (λ t. p6) (λ t.
    cond_ind P (eqb j.sequence last_sequence) (λ t. p7) (λ t.
    cond_ind P (bad_left o j.last_left rows) p8 (λ t.
    cond_ind P (bad_right o j.last_right rows held) p9 (λ t. p)))))))

fine_judged : (o : Options) (j : Join) (rows held : Rows) (out : Words) → Fine (judged o j rows held out)
fine_judged o j rows held out =
    judged_all Fine o j rows held out (record { not2 = refl; not5 = refl; not12 = refl }) (record { not2 = refl; not5 = refl; not12 = refl }) (record { not2 = refl; not5 = refl; not12 = refl }) (record { not2 = refl; not5 = refl; not12 = refl })
    (record { not2 = refl; not5 = refl; not12 = refl }) (λ t. record { not2 = refl; not5 = refl; not12 = refl }) (λ t. record { not2 = refl; not5 = refl; not12 = refl }) (record { not2 = refl; not5 = refl; not12 = refl })

-- ---- what a turn that writes has passed
pub record Passed (o : Options) (j : Join) (rows held : Rows) : Type 0 where
  pub need : j.right_ended ≡ false → need_more o rows held ≡ false
  pub left_order : bad_left o j.last_left rows ≡ false
  pub right_order : bad_right o j.last_right rows held ≡ false

not_and : (a b : Bool) → (not a && b) ≡ false → a ≡ false → b ≡ false
not_and true b e f = let z : ◌≡◌ {A = ℕ} 0 1 = cc in absurd (omega arith)
not_and false b e f = e

refused_apart : (n : Refusal) (q : ℕ) → ◌≡◌ {A = Result Turn Refusal} (Err n) (Ok (Wrote q)) → ⊥
refused_apart n q e = let z : ◌≡◌ {A = ℕ} 0 1 = cc in omega arith

wants_apart : (q : ℕ) → ◌≡◌ {A = Result Turn Refusal} (Ok WantsRight) (Ok (Wrote q)) → ⊥
wants_apart q e = let z : ◌≡◌ {A = ℕ} 0 1 = cc in omega arith

pub passed : (o : Options) (j : Join) (rows held : Rows) (out : Words) (q : ℕ) → judged o j rows held out ≡ Ok (Wrote q) → Passed o j rows held
unfolding judged
passed o j rows held out q e =
    let p3 = past j.failed (Err Failed) _ (Ok (Wrote q)) (refused_apart Failed q) e in
    let p4 = past (is_done j.state) (Err Closed) _ (Ok (Wrote q)) (refused_apart Closed q) p3.1 in
    let p = past (not j.right_ended && need_more o rows held) (Ok WantsRight) _ (Ok (Wrote q)) (wants_apart q) p4.1 in
    let p6 = past (ltb (length out) (frame_words (length rows) (answer_columns o))) (Err NoRoom) _ (Ok (Wrote q)) (refused_apart NoRoom q) p.1 in
    let p7 = past (eqb j.sequence last_sequence) (Err UsedUp) _ (Ok (Wrote q)) (refused_apart UsedUp q) p6.1 in
    let p8 = past (bad_left o j.last_left rows) (Err LeftOrder) _ (Ok (Wrote q)) (refused_apart LeftOrder q) p7.1 in
    let p9 = past (bad_right o j.last_right rows held) (Err RightOrder) _ (Ok (Wrote q)) (refused_apart RightOrder q) p8.1 in
    record { need = not_and j.right_ended (need_more o rows held) p.0; left_order = p8.0; right_order = p9.0 }

-- The flags that a turn that writes leaves as they were.
by_fields : (o : Options) (j : Join) (rows held : Rows) (n : ℕ) → SameFlags j (left_by o j rows held n)
unfolding left_by dequeued dropped
by_fields o j rows held n = record { ended = refl; state = refl; failed = refl }

module _ (o : Options) (l r : Words) (allowed : refused_options o ≡ false) (es : List Event) (w : World) (i : Inv o l r es w) where
  abbrev j : Join
  j = w.join

  abbrev s : Stock o l r (left_frames es) (right_frames es) (outputs es) w.join w.left w.right
  s = i.stock

  -- The held rows: the accepted right rows that were not dropped.
  unfoldable pub held : Rows
  held = drop w.join.pruned (rows_in (right_columns o) (right_frames es))

  pub held_is : held_of j w.right ≡ held
  unfolding held
  held_is = held_rows_lem o l r (left_frames es) (right_frames es) (outputs es) j w.left w.right s

  pub held_length : length held ≡ j.held
  unfolding held
  held_length = length-drop j.pruned (rows_in (right_columns o) (right_frames es)) ∙ omega (arith, s.rows)

  -- A turn that breaks nothing and tells of no order leaves the flags.
  quiet_turn : (a : Result Turn Refusal) (out : Words) → Fine a → eqb (turn_refusal a) 8 ≡ false → eqb (turn_refusal a) 9 ≡ false → Adds es j (on_turn a out) j
  unfolding done_by refused_with
  quiet_turn a out p n8 n9 = record {
    ended = sym (or-false j.right_ended);
    done = sym (or-false (is_done j.state));
    running = sym (and_true_right (is_running j.state));
    failed = rw (n8, n9) (sym (or-false j.failed));
    unbroken = p.not2;
    front = (rw p.not5, rw p.not12);
  }

  -- ---- where a frame waits
  module _ (f : Words) (rest : List Words) (e : drop (length (outputs es)) (left_frames es) ≡ f ∷ rest) where
    unfoldable pub rows : Rows
    rows = frame_rows (columns o) f

    frame : is_frame (columns o) f ≡ true
    frame = next_frame o l r (left_frames es) (right_frames es) (outputs es) j w.left w.right s f rest e

    codes : lacks_code o (frame_rows (columns o) f) ≡ false
    codes = next_codes o l r (left_frames es) (right_frames es) (outputs es) j w.left w.right s f rest e

    pub rows_count : length rows ≡ row_count f
    unfolding rows
    rows_count = frame_rows_lem (columns o) f frame

    is_front : front (columns o) (waiting j w.left) ≡ f
    is_front = front_next o l r (left_frames es) (right_frames es) (outputs es) j w.left w.right s f rest e

    some_words : eqb j.queue_words 0 ≡ false
    some_words =
        let n : 2 ≤ length f = omega (arith, frame_length (columns o) f frame) in
        ne_eqb j.queue_words 0 (λ (h : j.queue_words ≡ 0). omega (arith, front_room o l r (left_frames es) (right_frames es) (outputs es) j w.left w.right s f rest e))

    pub answer_is : (out : Words) → turn_answer j w.left w.right out ≡ judged o j rows held out
    unfolding rows
    answer_is = answer_by o j w.left w.right f held s.options is_front held_is (good o l r allowed es w i) some_words frame codes

    pub turned_is : (out : Words) → turned j w.left w.right out
        ≡ after (Ok (Wrote j.sequence)) (left_by o j rows held (length f)) w.left w.right (answered o (matched_by o j rows held) out)
    unfolding rows
    turned_is = turned_by_lem o j w.left w.right f held s.options is_front held_is

    gone : first_prune o rows held + last_prune o rows held ≤ j.held
    gone = omega (arith, drops_within o rows held, held_length)

    turned_stock : (out : Words)
        → Stock o l r (left_frames es) (right_frames es) (outputs es ++ (answered o (matched_by o j rows held) out ∷ [])) (left_by o j rows held (length f)) w.left w.right
    unfolding left_by
    turned_stock out =
        stock_turn o l r (left_frames es) (right_frames es) (outputs es) j w.left w.right s f rest e (first_prune o rows held + last_prune o rows held) gone (matched_by o j rows held)
        (matched_wide o j rows held) (matched_length ∙ rows_count) out (remembered_left o j.last_left rows) (remembered o j.last_right (take (last_prune o rows held) (kept_rows o rows held)))
      where
        matched_length : length (matched_by o j rows held) ≡ length rows
        matched_length = count_matched o j rows held

    -- A strict join: the rows turned stay sorted, and the last of them is remembered.
    strict_wrote : Passed o j rows held → (out' : Words) → o.check ≡ Strict → Together o (turned_of o (left_frames es) (outputs es ++ (out' ∷ []))) (remembered_left o j.last_left rows)
    unfolding rows
    strict_wrote p out' c =
        rw (turned_after o (left_frames es) (outputs es) f rest e out')
        (together_more o c (turned_of o (left_frames es) (outputs es)) rows j.last_left (wide_enough o (columns o) (omega arith) rows (frame_cells (columns o) f frame)) (i.strict c) p.left_order)

    -- A turn that writes keeps the invariant.
    pub inv_wrote : (out : Words) → Passed o j rows held
        → Inv o l r (es ++ (on_turn (Ok (Wrote j.sequence)) (answered o (matched_by o j rows held) out) ∷ [])) (record { join = left_by o j rows held (length f); left = w.left; right = w.right })
    unfolding left_frames right_frames outputs left_by dequeued dropped
    inv_wrote out p =
        let out' = answered o (matched_by o j rows held) out in
        let ev = on_turn (Ok (Wrote j.sequence)) out' in
        record {
          stock =
              rw (left_append es (ev ∷ []), right_append es (ev ∷ []), outputs_append es (ev ∷ []), append-nil (left_frames es), append-nil (right_frames es)) (turned_stock out);
          flags = flags_add es j ev (left_by o j rows held (length f)) i.flags (adds_wrote out);
          strict = rw (left_append es (ev ∷ []), outputs_append es (ev ∷ []), append-nil (left_frames es)) (strict_wrote p out');
        }
      where
        adds_wrote : (out : Words) → Adds es j (on_turn (Ok (Wrote j.sequence)) (answered o (matched_by o j rows held) out)) (left_by o j rows held (length f))
        adds_wrote out = adds_same es j (on_turn (Ok (Wrote j.sequence)) (answered o (matched_by o j rows held) out)) (left_by o j rows held (length f)) (quiet_turn (Ok (Wrote j.sequence)) (answered o (matched_by o j rows held) out) (record { not2 = refl; not5 = refl; not12 = refl }) refl refl) (by_fields o j rows held (length f))

  -- ---- every turn
  -- An empty queue is Idle, or refused for the join's state.
  pub idle_is : (out : Words) → drop (length (outputs es)) (left_frames es) ≡ [] → turn_answer j w.left w.right out ≡ cond j.failed (Err Failed) (cond (is_done j.state) (Err Closed) (Ok Idle))
  unfolding turn_answer back_to_back
  idle_is out e =
      let z : j.queue_words ≡ 0 = sym (waiting_length o l r (left_frames es) (right_frames es) (outputs es) j w.left w.right s) ∙ ap length (s.waits ∙ ap back_to_back e) in
      rw (good o l r allowed es w i, eq-eqb j.queue_words 0 z)

  -- No turn meets refusal 2, 5 or 12; none writes where no frame waits.
  pub turn_fine : (out : Words) → Fine (turn_answer j w.left w.right out)
  turn_fine out = go (drop (length (outputs es)) (left_frames es)) refl
    where
      go : (fs : List Words) → drop (length (outputs es)) (left_frames es) ≡ fs → Fine (turn_answer j w.left w.right out)
      go [] e = rw (idle_is out e) (fine_idle j.failed (is_done j.state))
      go (f ∷ rest) e = rw (answer_is f rest e out) (fine_judged o j (rows f rest e) held out)

  pub no_write : (out : Words) (q : ℕ) → drop (length (outputs es)) (left_frames es) ≡ [] → turn_answer j w.left w.right out ≡ Ok (Wrote q) → ⊥
  no_write out q e h = idle_writes j.failed (is_done j.state) q (sym (idle_is out e) ∙ h)

  spoils : (n : Refusal) (out : Words) → Fine (Err n) → marks_failed n ≡ true → Adds es j (on_turn (Err n) out) (marked_failed j)
  unfolding done_by refused_with
  spoils n out p t = record {
    ended = sym (or-false j.right_ended);
    done = sym (or-false (is_done j.state));
    running = sym (and_true_right (is_running j.state));
    failed = rw t (sym (or-true j.failed));
    unbroken = p.not2;
    front = (rw p.not5, rw p.not12);
  }

  stays : (a : Result Turn Refusal) (out : Words) → Fine a → eqb (turn_refusal a) 8 ≡ false → eqb (turn_refusal a) 9 ≡ false → output_in (on_turn a out) ≡ []
      → Inv o l r (es ++ (on_turn a out ∷ [])) (record { join = j; left = w.left; right = w.right })
  stays a out p n8 n9 eo = keep o l r allowed es w i (on_turn a out) j refl refl eo refl s (quiet_turn a out p n8 n9)

  marks : (n : Refusal) (out : Words) → Fine (Err n) → marks_failed n ≡ true
      → Inv o l r (es ++ (on_turn (Err n) out ∷ [])) (record { join = marked_failed j; left = w.left; right = w.right })
  marks n out p t =
      keep o l r allowed es w i (on_turn (Err n) out) (marked_failed j) refl refl refl refl
      (stock_same o l r (left_frames es) (right_frames es) (outputs es) j w.left w.right s (marked_failed j) refl refl refl refl refl refl refl) (spoils n out p t)

  inv_refused : (n : Refusal) (out : Words) → Fine (Err n) → Inv o l r (es ++ (on_turn (Err n) out ∷ [])) (record { join = spoiled n j; left = w.left; right = w.right })
  inv_refused n out p =
      marked_ind (λ (k : Join). Inv o l r (es ++ (on_turn (Err n) out ∷ [])) (record { join = k; left = w.left; right = w.right })) n
      (marks n out p) (λ not8 not9. stays (Err n) out p not8 not9 refl)

  pub inv_turn : (out : Words) → Inv o l r (es ++ ((step w (turn out)).event ∷ [])) (step w (turn out)).world
  unfolding step turn_call
  inv_turn out = go (turn_answer j w.left w.right out) refl
    where
      wrote : (q : ℕ) → turn_answer j w.left w.right out ≡ Ok (Wrote q) → (fs : List Words) → drop (length (outputs es)) (left_frames es) ≡ fs
          → Inv o l r (es ++ (on_turn (turned j w.left w.right out).answer (turned j w.left w.right out).out ∷ []))
          (record { join = (turned j w.left w.right out).join; left = (turned j w.left w.right out).left; right = (turned j w.left w.right out).right })
      wrote q e [] d = absurd (no_write out q d e)
      wrote q e (f ∷ rest) d = rw (turned_is f rest d out) (inv_wrote f rest d out (passed o j (rows f rest d) held out q (sym (answer_is f rest d out) ∙ e)))

      go : (a : Result Turn Refusal) → turn_answer j w.left w.right out ≡ a → Inv o l r (es ++ ((step w (turn out)).event ∷ [])) (step w (turn out)).world
      go (Ok (Wrote q)) e = rw (e, turn_call) (wrote q e (drop (length (outputs es)) (left_frames es)) refl)
      go (Ok WantsRight) e = rw (e, turn_call) (stays (Ok WantsRight) out (rw e at (turn_fine out)) refl refl refl)
      go (Ok Idle) e = rw (e, turn_call) (stays (Ok Idle) out (rw e at (turn_fine out)) refl refl refl)
      go (Err n) e = rw (e, turn_call) (inv_refused n out (rw e at (turn_fine out)))
