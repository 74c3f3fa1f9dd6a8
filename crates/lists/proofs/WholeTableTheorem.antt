-- The whole-table theorem, proved: the statement of specs/WholeTables.antt, for all options that are not refused, areas and lists of calls. Assumes nothing.
use Rattle.frames.specs.declared.outcomes.Turn.TheVariants.{Wrote}
use Rattle.std.specs.Prelude.{Option, Some, None, Ok}
use mathlib.Core.Path.{◌≡◌, refl, sym, ap, ◌∙◌}
use mathlib.Core.Bool.{Bool, true, false, ◌||◌, or-false}
use mathlib.Core.List.{List, [], ◌∷◌, ◌++◌, append-nil, append_assoc, map}
use Prim.Native.Nat.{ℕ, zero, suc, ◌+◌, ◌-◌, ◌^◌, ◌≤◌, ◌<◌}
use native.Mathlib.Omega.{arith}
use borrow.Author.Tests.{le-ltb, ne_eqb}
use lib.Dec.{ltb, eqb}
use lib.IntN.{ℤ, pos}
use lib.ListN.{length, take, drop, replicate, take-append-drop, length-append, length-drop}
use lib.Seq.{drop_at}
use Rattle.frames.specs.Cells.{Cell, null, value_word, mark_word, Rows, Words}
use Rattle.frames.specs.Frame.{row_count, frame_words, front}
use Rattle.order.specs.options.Options.{columns, right_columns, answer_columns, refused_options}
use Rattle.order.specs.Order.{sorted}
use Rattle.order.specs.declared.options.Options.{Options}
use Rattle.frames.proofs.FrameLaws.{frame_length, count_append}
use Rattle.order.proofs.SortedLaws.{sorted_cut}
use Rattle.matching.specs.Match.{match_table, whole_table}
use Rattle.matching.specs.Answer.{answer_row}
use Rattle.matching.proofs.PickedLaw.{picked_none, picked_row}
use Rattle.node.specs.declared.Join.{Join}
use Rattle.node.specs.State.{waiting}
use Rattle.frames.specs.outcomes.Answers.{last_sequence, is_done}
use Rattle.node.specs.Calls.{turn_answer, turn_call, turned}
use Rattle.matchframe.specs.turnrows.Prunes.{bad_left, bad_right}
use Rattle.lists.specs.Lists.{turn, Event, on_turn, World, start, step, events, final, left_frames, right_frames, rows_in, output_in, outputs, matches_in, is_right_ended, node_done, done_by, refused_with, back_to_back, frames_in, queue_rows}
use Rattle.lists.specs.WholeTables.{as_written, due_over, Correct, is_none, is_row, Each, ends, pairs, WholeTableTheorem}
use Rattle.lists.proofs.ListLaws.{rows_in_append, matches_append, drop_next, left_append, right_append, outputs_append, ended_append, done_snoc}
use Rattle.lists.proofs.Stock.{Frames, frames_drop, front_is}
use Rattle.lists.proofs.Invariant.{Inv}
use Rattle.lists.proofs.Turn.{judged, held, rows, answer_is, rows_count}
use Rattle.lists.proofs.Turned.{turned_of, turned_sorted, next_sorted}
use Rattle.lists.proofs.Steps.{SoundAt, no_left_fault, no_right_fault, inv_step, sound_step, inv_list, sound_list, inv_start, sound_start}

-- ---- 2. the whole-table rule picks the row that qualifies and that none is better than
-- None is written as 0 and 0 in all columns.
nulls : (word : Cell → ℤ) → word null ≡ pos 0 → (n : ℕ) → map word (replicate n null) ≡ replicate n (pos 0)
nulls word e zero = refl
nulls word e (suc n) = rw e (ap (λ (z : Words). pos 0 ∷ z) (nulls word e n))

module _ (o : Options) (rights : Rows) (s : sorted o rights ≡ true) where
  correct : (x : List Cell) → Correct o rights x (due_over o rights x)
  unfolding whole_table answer_row
  correct x = go (match_table o 0 rights x) refl
    where
      go : (m : Option ℕ) → match_table o 0 rights x ≡ m → Correct o rights x (as_written (answer_row o 0 rights x (match_table o 0 rights x)))
      go None e = rw (e, nulls value_word refl (answer_columns o), nulls mark_word refl (answer_columns o)) (is_none (picked_none o rights s x e))
      go (Some k) e = let z : k - 0 ≡ k = omega arith in rw (e, z) (is_row k (picked_row o rights s x k e))

  pub each_correct : (xs : Rows) → Each (Correct o rights) xs (map (due_over o rights) xs)
  each_correct [] = ends
  each_correct (x ∷ xs) = pairs (correct x) (each_correct xs)

-- ---- 4. the frames that stand in the queue's words are those that wait
front_then : (fuel c : ℕ) (ws : Words) → 0 < length ws → frames_in (suc fuel) c ws ≡ front c ws ∷ frames_in fuel c (drop (frame_words (row_count ws) c) ws)
unfolding frames_in
front_then fuel c [] h = absurd (omega arith)
front_then fuel c (x ∷ ws) h = refl

frames_back : (c fuel : ℕ) (fs : List Words) → Frames c fs → length (back_to_back fs) ≤ fuel → frames_in fuel c (back_to_back fs) ≡ fs
unfolding back_to_back frames_in
frames_back c zero [] p h = refl
frames_back c (suc fuel) [] p h = refl
frames_back c zero (f ∷ fs) p h = absurd (omega (arith, length-append f (back_to_back fs), frame_length c f p.0))
frames_back c (suc fuel) (f ∷ fs) p h =
    let n = frame_length c f p.0 in
    let k = length-append f (back_to_back fs) in
    front_then fuel c (f ++ back_to_back fs) (omega arith)
    ∙ rw (front_is c f (back_to_back fs) p.0, count_append c f p.0 (back_to_back fs), drop_at f (back_to_back fs) (frame_words (row_count f) c) n) (ap (λ (z : List Words). f ∷ z) (frames_back c fuel fs p.1 (omega arith)))

-- ---- 3. a turn that nothing stops writes
judged_writes : (o : Options) (j : Join) (rows held : Rows) (out : Words) → j.failed ≡ false → is_done j.state ≡ false → j.right_ended ≡ true
    → ltb (length out) (frame_words (length rows) (answer_columns o)) ≡ false → eqb j.sequence last_sequence ≡ false → bad_left o j.last_left rows ≡ false → bad_right o j.last_right rows held ≡ false
    → judged o j rows held out ≡ Ok (Wrote j.sequence)
unfolding judged
judged_writes o j rows held out e₁ e₂ e₃ e₄ e₅ e₆ e₇ = rw (e₁, e₂, e₃, e₄, e₅, e₆, e₇)

module _ (o : Options) (l r : Words) (allowed : refused_options o ≡ false) where
  -- ---- at any point of a list
  module _ (es : List Event) (w : World) (i : Inv o l r es w) (S : SoundAt o es w) where
    -- What is written is settled.
    pub settled_so_far : sorted o (turned_of o (left_frames es) (outputs es)) ≡ true → (F : Rows) → (is_right_ended es ≡ true → F ≡ []) → sorted o (rows_in (right_columns o) (right_frames es) ++ F) ≡ true
        → matches_in (answer_columns o) (outputs es) ≡ map (due_over o (rows_in (right_columns o) (right_frames es) ++ F)) (turned_of o (left_frames es) (outputs es))
    settled_so_far st F q sf = (S st (sorted_cut o (rows_in (right_columns o) (right_frames es)) F sf).0).matches F q sf

    -- 1. What is written.
    pub written_so_far : sorted o (turned_of o (left_frames es) (outputs es)) ≡ true → sorted o (rows_in (right_columns o) (right_frames es)) ≡ true
        → matches_in (answer_columns o) (outputs es) ≡ map (due_over o (rows_in (right_columns o) (right_frames es))) (turned_of o (left_frames es) (outputs es))
    written_so_far st sr =
        let z = append-nil (rows_in (right_columns o) (right_frames es)) in
        rw z at (settled_so_far st [] (λ t. refl) (rw z sr))

    -- The next turn, where right has ended, the node is not done and output and sequence numbers are left: it writes.
    module _ (sl : sorted o (rows_in (columns o) (left_frames es)) ≡ true) (sr : sorted o (rows_in (right_columns o) (right_frames es)) ≡ true) (ended : is_right_ended es ≡ true) (undone : node_done es ≡ false) (left_over : length (left_frames es) < 2 ^ 63) (f : Words) (rest : List Words)
        (e : drop (length (outputs es)) (left_frames es) ≡ f ∷ rest) (out : Words) (room : frame_words (row_count f) (answer_columns o) ≤ length out) where
      abbrev j : Join
      j = w.join

      turn_writes : turn_answer j w.left w.right out ≡ Ok (Wrote j.sequence)
      turn_writes =
          let rs = rows o l r allowed es w i f rest e in
          let hs = held o l r allowed es w i in
          let st = next_sorted o (left_frames es) (outputs es) f rest e sl in
          let words = frame_words (length rs) (answer_columns o) in
          let fits : ltb (length out) words ≡ false = le-ltb (length out) words (rw (rows_count o l r allowed es w i f rest e) room) in
          let more : length (outputs es) < length (left_frames es) = omega (arith, length-drop (length (outputs es)) (left_frames es), ap length e) in
          let seq : eqb j.sequence last_sequence ≡ false = ne_eqb j.sequence last_sequence (λ (h : j.sequence ≡ last_sequence). omega (arith, i.stock.sequence)) in
          answer_is o l r allowed es w i f rest e out
          ∙ judged_writes o j rs hs out ((S (turned_sorted o (left_frames es) (outputs es) sl) sr).unfailed sl) (i.flags.done ∙ undone) (i.flags.ended ∙ ended) fits seq (no_left_fault o l r allowed es w i S sr f rest e st) (no_right_fault o l r allowed es w i S sr f rest e st)

      -- Its event and what it leaves.
      step_writes : step w (turn out) ≡ record { event = on_turn (Ok (Wrote j.sequence)) (turned j w.left w.right out).out; world = record { join = (turned j w.left w.right out).join; left = (turned j w.left w.right out).left; right = (turned j w.left w.right out).right } }
      unfolding step turn_call turned
      step_writes = rw (turn_writes, turn_call)

-- ---- 3. all the turns that are left
each_nil : {A B : Type 0} {P : A → B → Type 0} {xs : List A} → Each P xs [] → xs ≡ []
each_nil ends = refl

each_cons : {A B : Type 0} {P : A → B → Type 0} {xs : List A} {y : B} {ys : List B} → Each P xs (y ∷ ys) → (x : A) × (rest : List A) × (xs ≡ x ∷ rest) × P x y × Each P rest ys
each_cons (pairs {a} {b} {xs} {ys} p q) = (a, xs, refl, p, q)

stitch : (c : ℕ) (xs : List Words) (out : Words) (ys : List Words) → matches_in c xs ++ matches_in c ((out ∷ []) ++ ys) ≡ matches_in c (xs ++ (out ∷ [])) ++ matches_in c ys
stitch c xs out ys = rw (matches_append c (out ∷ []) ys, matches_append c xs (out ∷ [])) (sym (append_assoc (matches_in c xs) (matches_in c (out ∷ [])) (matches_in c ys)))

-- A turn that wrote adds its output, and nothing else.
module _ (es : List Event) (q : ℕ) (out : Words) where
  abbrev wrote : Event
  wrote = on_turn (Ok (Wrote q)) out

  wrote_left : left_frames (es ++ (on_turn (Ok (Wrote q)) out ∷ [])) ≡ left_frames es
  unfolding left_frames
  wrote_left = left_append es (wrote ∷ []) ∙ append-nil (left_frames es)

  wrote_right : right_frames (es ++ (on_turn (Ok (Wrote q)) out ∷ [])) ≡ right_frames es
  unfolding right_frames
  wrote_right = right_append es (wrote ∷ []) ∙ append-nil (right_frames es)

  wrote_out : outputs (es ++ (on_turn (Ok (Wrote q)) out ∷ [])) ≡ outputs es ++ (out ∷ [])
  unfolding outputs
  wrote_out = outputs_append es (wrote ∷ [])

  wrote_ended : is_right_ended (es ++ (on_turn (Ok (Wrote q)) out ∷ [])) ≡ is_right_ended es
  unfolding is_right_ended
  wrote_ended = ended_append es (wrote ∷ []) ∙ or-false (is_right_ended es)

  wrote_done : node_done (es ++ (on_turn (Ok (Wrote q)) out ∷ [])) ≡ node_done es
  unfolding done_by
  wrote_done = done_snoc [] es wrote ∙ or-false (node_done es)

module _ (o : Options) (l r : Words) (allowed : refused_options o ≡ false) where
  abbrev Room : List Words → List Words → Type 0
  Room fs outs = Each (λ f out. frame_words (row_count f) (answer_columns o) ≤ length out) fs outs

  -- What is to be shown of further turns from the events es and the world w.
  record Finishes (es : List Event) (w : World) (outs : List Words) : Type 0 where
    all_write : length (outputs (events w (map turn outs))) ≡ length outs
    all_matched : matches_in (answer_columns o) (outputs es) ++ matches_in (answer_columns o) (outputs (events w (map turn outs))) ≡ map (due_over o (rows_in (right_columns o) (right_frames es))) (rows_in (columns o) (left_frames es))

  finish : (outs : List Words) (es : List Event) (w : World) → Inv o l r es w → SoundAt o es w → sorted o (rows_in (columns o) (left_frames es)) ≡ true → sorted o (rows_in (right_columns o) (right_frames es)) ≡ true
      → is_right_ended es ≡ true → node_done es ≡ false → length (left_frames es) < 2 ^ 63 → Room (drop (length (outputs es)) (left_frames es)) outs → Finishes es w outs
  unfolding events outputs matches_in turned_of
  finish [] es w i S sl sr en un few room =
      let k = length (outputs es) in
      let d : drop k (left_frames es) ≡ [] = each_nil room in
      let t : take k (left_frames es) ≡ left_frames es = sym (append-nil (take k (left_frames es))) ∙ ap (λ (z : List Words). take k (left_frames es) ++ z) (sym d) ∙ take-append-drop k (left_frames es) in
      record {
        all_write = refl;
        all_matched = append-nil (matches_in (answer_columns o) (outputs es)) ∙ written_so_far o l r allowed es w i S (turned_sorted o (left_frames es) (outputs es) sl) sr ∙ ap (λ (z : List Words). map (due_over o (rows_in (right_columns o) (right_frames es))) (rows_in (columns o) z)) t;
      }
  finish (out ∷ outs) es w i S sl sr en un few room =
      let c = each_cons room in
      let st = step_writes o l r allowed es w i S sl sr en un few c.0 c.1 c.2 out c.3 in
      let q = w.join.sequence in
      let out' = (turned w.join w.left w.right out).out in
      let se : (step w (turn out)).event ≡ on_turn (Ok (Wrote q)) out' = ap (λ s. s.event) st in
      let es' = es ++ ((step w (turn out)).event ∷ []) in
      let w' = (step w (turn out)).world in
      let el : left_frames es' ≡ left_frames es = rw se (wrote_left es q out') in
      let er : right_frames es' ≡ right_frames es = rw se (wrote_right es q out') in
      let eo : outputs es' ≡ outputs es ++ (out' ∷ []) = rw se (wrote_out es q out') in
      let ee : is_right_ended es' ≡ true = rw se (wrote_ended es q out') ∙ en in
      let ed : node_done es' ≡ false = rw se (wrote_done es q out') ∙ un in
      let n : length (outputs es') ≡ suc (length (outputs es)) = ap length eo ∙ length-append (outputs es) (out' ∷ []) ∙ omega arith in
      let rm : Room (drop (length (outputs es')) (left_frames es')) outs = rw (n, el, drop_next (length (outputs es)) (left_frames es) c.0 c.1 c.2) c.4 in
      let ih = finish outs es' w' (inv_step o l r allowed es w i (turn out)) (sound_step o l r allowed es w i S (turn out)) (rw el sl) (rw er sr) ee ed (rw el few) rm in
      record {
        all_write = rw se (ap suc ih.all_write);
        all_matched =
            ap (λ (z : Event). matches_in (answer_columns o) (outputs es) ++ matches_in (answer_columns o) (output_in z ++ outputs (events w' (map turn outs)))) se
            ∙ stitch (answer_columns o) (outputs es) out' (outputs (events w' (map turn outs)))
            ∙ ap (λ (z : List Words). matches_in (answer_columns o) z ++ matches_in (answer_columns o) (outputs (events w' (map turn outs)))) (sym eo)
            ∙ ih.all_matched
            ∙ ap (λ (z : List Words). map (due_over o (rows_in (right_columns o) z)) (rows_in (columns o) (left_frames es'))) er
            ∙ ap (λ (z : List Words). map (due_over o (rows_in (right_columns o) (right_frames es))) (rows_in (columns o) z)) el;
      }

-- ---- 4. accepted left rows are those written and those in the queue
queue_rows_lem : (o : Options) (w : World) (fs : List Words) → w.join.options ≡ o → waiting w.join w.left ≡ back_to_back fs → Frames (columns o) fs → queue_rows w ≡ rows_in (columns o) fs
unfolding queue_rows
queue_rows_lem o w fs e q p = rw (q, e) (ap (rows_in (columns o)) (frames_back (columns o) (length (back_to_back fs)) fs p (omega arith)))

left_count : (o : Options) (l r : Words) (es : List Event) (w : World) → Inv o l r es w → length (rows_in (columns o) (left_frames es)) ≡ length (matches_in (answer_columns o) (outputs es)) + length (queue_rows w)
left_count o l r es w i =
    let k = length (outputs es) in
    let q = queue_rows_lem o w (drop k (left_frames es)) i.stock.options i.stock.waits (frames_drop (columns o) k (left_frames es) i.stock.left_frames) in
    ap (λ (fs : List Words). length (rows_in (columns o) fs)) (sym (take-append-drop k (left_frames es)))
    ∙ ap length (rows_in_append (columns o) (take k (left_frames es)) (drop k (left_frames es)))
    ∙ length-append (rows_in (columns o) (take k (left_frames es))) (rows_in (columns o) (drop k (left_frames es)))
    ∙ rw (i.stock.wrote, q)

-- ---- the whole
or_false_both : (a b : Bool) → (a || b) ≡ false → (a ≡ false) × (b ≡ false)
or_false_both true b e = let z : ◌≡◌ {A = ℕ} 0 1 = cc in absurd (omega arith)
or_false_both false b e = (refl, e)

-- What holds of each pair, from what held of it.
each_map : {A B : Type 0} {P Q : A → B → Type 0} → ((a : A) (b : B) → P a b → Q a b) → (xs : List A) (ys : List B) → Each P xs ys → Each Q xs ys
each_map f [] [] ends = ends
each_map f (a ∷ xs) (b ∷ ys) (pairs p e) = pairs (f a b p) (each_map f xs ys e)
each_map f [] (b ∷ ys) e = elim e [ ]
each_map f (a ∷ xs) [] e = elim e [ ]

-- The whole-table theorem.
pub whole_table_theorem : WholeTableTheorem
unfolding turned_of
whole_table_theorem o allowed l r calls =
    let es = events (start o l r) calls in
    let w = final (start o l r) calls in
    let i : Inv o l r es w = inv_list o l r allowed calls [] (start o l r) (inv_start o l r allowed) in
    let S : SoundAt o es w = sound_list o l r allowed calls [] (start o l r) (inv_start o l r allowed) (sound_start o l r allowed) in
    let k = length (outputs es) in
    let turned = turned_sorted o (left_frames es) (outputs es) in
    record {
      whole_table = λ d. written_so_far o l r allowed es w i S (turned d.0) d.1;
      none_exactly = λ d.
          rw (written_so_far o l r allowed es w i S (turned d.0) d.1) (each_correct o (rows_in (right_columns o) (right_frames es)) d.1 (rows_in (columns o) (take k (left_frames es))));
      rest_written = λ d en un outs room few.
          let enough = each_map {Q = λ (f out : Words). frame_words (row_count f) (answer_columns o) ≤ length out} (λ f out e. omega (arith, e)) (drop k (left_frames es)) outs room in
          let z = finish o l r allowed outs es w i S d.0 d.1 en un (omega (arith, few)) enough in
          (z.all_write, z.all_matched);
      counts = (i.stock.rows, left_count o l r es w i);
      never_broken = (i.flags.unbroken, i.flags.fronts.0, i.flags.fronts.1);
      no_false_alarm = λ d. or_false_both (refused_with 8 es) (refused_with 9 es) (sym i.flags.failed ∙ (S (turned d.0) d.1).unfailed d.0);
      words_kept = (i.stock.waits, i.stock.values, i.stock.marks, i.stock.left_length, i.stock.right_length);
      settled = λ st more none sf. settled_so_far o l r allowed es w i S st more (λ t. none t) sf;
    }
