-- What the join and the areas hold, told by the frames accepted and the outputs written; each call that changes them keeps it. Assumes nothing.
use mathlib.Core.Path.{◌≡◌, refl, sym, ap, ◌∙◌}
use mathlib.Core.Bool.{true, false}
use mathlib.Core.List.{List, [], ◌∷◌, ◌++◌, map, append-nil}
use Prim.Native.Nat.{ℕ, zero, suc, ◌+◌, ◌-◌, ◌*◌, ◌/◌, ◌≤◌}
use native.Mathlib.Nat.{mul-le-mul_right}
use native.Mathlib.Omega.{arith}
use lib.ListN.{length, take, drop, length-append, length-drop, length-map, take-append-drop}
use lib.Seq.{drop-append-le, drop-drop, drop_at, take_at, length-take-le}
use Rattle.frames.specs.Cells.{Rows, Words, rows_of}
use Rattle.frames.specs.Frame.{row_count, frame_words, values_in, marks_in, is_frame, frame_rows, front}
use Rattle.order.specs.options.Options.{columns, right_columns, answer_columns}
use Rattle.order.specs.declared.options.Options.{Options}
use Rattle.order.specs.Listed.{lacks_code}
use Rattle.order.proofs.ListedLaws.{lacks_both, lacks_parts}
use Rattle.order.specs.declared.Row.{Row}
use Rattle.frames.proofs.WordLaws.{map-append, drop_take, rows_read, rows_append, rows_drop}
use Rattle.frames.proofs.FrameLaws.{frame_length, values_length, marks_length, frame_rows_lem, count_append}
use Rattle.buffer.specs.area.Area.{capacity, held_rows, new_base, pushed, moved, written}
use Rattle.buffer.proofs.area.PushLaws.{new_base_room, append_length, append_part, pushed_length, pushed_values, pushed_marks}
use Rattle.tables.proofs.TableLaws.{Wide}
use Rattle.matching.specs.Answer.{answered}
use Rattle.node.specs.declared.Join.{Join}
use Rattle.node.specs.State.{next_turn, held_of, held_values, held_marks, waiting}
use Rattle.frames.specs.outcomes.Answers.{most_rows}
use Rattle.node.specs.Calls.{dropped, dequeued, queued, pushed_right}
use Rattle.lists.specs.Lists.{rows_in, written_in, matches_in, back_to_back}
use Rattle.lists.specs.WholeTables.{as_written}
use Rattle.lists.proofs.ListLaws.{words_append, rows_in_append, matches_append, drop_more, take_more, take_next, drop_next}
use Rattle.lists.proofs.EntryLaws.{written_back}

-- Each is a frame of c columns.
abbrev pub Frames : ℕ → List Words → Type 0
Frames c [] = Unit {0}
Frames c (f ∷ fs) = (is_frame c f ≡ true) × Frames c fs

pub frames_join : (c : ℕ) (fs gs : List Words) → Frames c fs → Frames c gs → Frames c (fs ++ gs)
frames_join c [] gs p q = q
frames_join c (f ∷ fs) gs p q = (p.0, frames_join c fs gs p.1 q)

pub frames_drop : (c k : ℕ) (fs : List Words) → Frames c fs → Frames c (drop k fs)
frames_drop c zero fs p = p
frames_drop c (suc k) [] p = tt
frames_drop c (suc k) (f ∷ fs) p = frames_drop c k fs p.1

-- ---- the values and the marks of accepted frames, back to back, and their rows
abbrev pub all_values : ℕ → List Words → Words
all_values c fs = back_to_back (map (values_in c) fs)

abbrev pub all_marks : ℕ → List Words → Words
all_marks c fs = back_to_back (map (marks_in c) fs)

-- n × c words of each frame, back to back.
parts_length : (c : ℕ) (part : Words → Words) → ((f : Words) → is_frame c f ≡ true → length (part f) ≡ row_count f * c) → (fs : List Words) → Frames c fs
    → length (back_to_back (map part fs)) ≡ length (rows_in c fs) * c
unfolding back_to_back rows_in
parts_length c part law [] p = omega arith
parts_length c part law (f ∷ fs) p =
    rw (length-append (part f) (back_to_back (map part fs)), length-append (frame_rows c f) (rows_in c fs), law f p.0, frame_rows_lem c f p.0, parts_length c part law fs p.1) (omega arith)

pub all_values_length : (c : ℕ) (fs : List Words) → Frames c fs → length (all_values c fs) ≡ length (rows_in c fs) * c
all_values_length c = parts_length c (values_in c) (values_length c)

pub all_marks_length : (c : ℕ) (fs : List Words) → Frames c fs → length (all_marks c fs) ≡ length (rows_in c fs) * c
all_marks_length c = parts_length c (marks_in c) (marks_length c)

-- The rows of accepted frames are those that their words, back to back, tell.
frame_then : (c : ℕ) (f : Words) (rs : Rows) → rows_of c (row_count f) (values_in c f) (marks_in c f) ++ rs ≡ frame_rows c f ++ rs
unfolding frame_rows
frame_then c f rs = refl

pub all_rows : (c : ℕ) (fs : List Words) → Frames c fs → rows_of c (length (rows_in c fs)) (all_values c fs) (all_marks c fs) ≡ rows_in c fs
unfolding back_to_back rows_in rows_of
all_rows c [] p = refl
all_rows c (f ∷ fs) p =
    let e : length (frame_rows c f ++ rows_in c fs) ≡ row_count f + length (rows_in c fs) = rw (length-append (frame_rows c f) (rows_in c fs), frame_rows_lem c f p.0) in
    rw e
    (rows_append c (row_count f) (length (rows_in c fs)) (values_in c f) (all_values c fs) (marks_in c f) (all_marks c fs) (values_length c f p.0) (marks_length c f p.0)
    ∙ rw (all_rows c fs p.1) (frame_then c f (rows_in c fs)))

-- ---- the stock: L, R the accepted frames, Os the outputs written
pub record Stock (o : Options) (l r : Words) (L R Os : List Words) (j : Join) (left right : Words) : Type 0 where
  pub options : j.options ≡ o
  pub left_length : length left ≡ length l
  pub right_length : length right ≡ length r
  pub queue_room : j.queue_start + j.queue_words ≤ length left
  pub right_room : j.base + j.held ≤ capacity (right_columns o) right
  pub few : j.pruned + j.held ≤ most_rows
  pub sequence : j.sequence ≡ 2 * length Os
  pub gone : length Os ≤ length L
  pub waits : waiting j left ≡ back_to_back (drop (length Os) L)
  pub values : held_values j right ≡ drop (j.pruned * right_columns o) (all_values (right_columns o) R)
  pub marks : held_marks j right ≡ drop (j.pruned * right_columns o) (all_marks (right_columns o) R)
  pub left_frames : Frames (columns o) L
  pub left_codes : lacks_code o (rows_in (columns o) L) ≡ false
  pub right_frames : Frames (right_columns o) R
  pub rows : length (rows_in (right_columns o) R) ≡ j.pruned + j.held
  pub wrote : length (matches_in (answer_columns o) Os) ≡ length (rows_in (columns o) (take (length Os) L))

-- ---- the three calls that change it
module _ (o : Options) (l r : Words) (L R Os : List Words) (j : Join) (left right : Words) (s : Stock o l r L R Os j left right) where
  c : ℕ
  c = columns o

  -- A join that differs in other fields alone.
  pub stock_same : (k : Join) → k.options ≡ j.options → k.base ≡ j.base → k.held ≡ j.held → k.pruned ≡ j.pruned → k.queue_start ≡ j.queue_start
      → k.queue_words ≡ j.queue_words → k.sequence ≡ j.sequence → Stock o l r L R Os k left right
  unfolding waiting held_values held_marks
  stock_same k eo eb eh ep eq ew es = record {
    options = eo ∙ s.options;
    left_length = s.left_length;
    right_length = s.right_length;
    queue_room = rw (eq, ew) s.queue_room;
    right_room = rw (eb, eh) s.right_room;
    few = rw (ep, eh) s.few;
    sequence = es ∙ s.sequence;
    gone = s.gone;
    waits = rw (eq, ew) s.waits;
    values = rw (eb, eh, ep, eo) s.values;
    marks = rw (eb, eh, ep, eo) s.marks;
    left_frames = s.left_frames;
    left_codes = s.left_codes;
    right_frames = s.right_frames;
    rows = rw (ep, eh) s.rows;
    wrote = s.wrote;
  }

  -- A left frame that is queued.
  pub stock_left : (f : Words) → is_frame (columns o) f ≡ true → lacks_code o (frame_rows (columns o) f) ≡ false → j.queue_words + length f ≤ length left
      → Stock o l r (L ++ (f ∷ [])) R Os (queued j left right f).join (queued j left right f).left (queued j left right f).right
  unfolding queued waiting held_values held_marks back_to_back rows_in
  stock_left f h codes room =
      let start = new_base j.queue_start j.queue_words (length f) (length left) in
      let nb : start + j.queue_words + length f ≤ length left = new_base_room j.queue_start j.queue_words (length f) (length left) room in
      let len : length (written f (start + j.queue_words) (moved j.queue_start start j.queue_words left)) ≡ length left = append_length left j.queue_start start j.queue_words f nb s.queue_room in
      record {
        options = s.options;
        left_length = len ∙ s.left_length;
        right_length = s.right_length;
        queue_room = rw len (omega arith);
        right_room = s.right_room;
        few = s.few;
        sequence = s.sequence;
        gone = rw (length-append L (f ∷ [])) (omega (arith, s.gone));
        waits =
            append_part left j.queue_start start j.queue_words f nb s.queue_room
            ∙ rw (s.waits, drop_more (length Os) L (f ∷ []) s.gone, words_append (drop (length Os) L) (f ∷ []), append-nil f);
        values = s.values;
        marks = s.marks;
        left_frames = frames_join (columns o) L (f ∷ []) s.left_frames (h, tt);
        left_codes = rw (rows_in_append (columns o) L (f ∷ []), append-nil (frame_rows (columns o) f)) (lacks_both o (rows_in (columns o) L) (frame_rows (columns o) f) s.left_codes codes);
        right_frames = s.right_frames;
        rows = s.rows;
        wrote = rw (take_more (length Os) L (f ∷ []) s.gone) s.wrote;
      }

  -- A right frame whose rows are pushed.
  part_more : (part : Words → Words) → ((f : Words) → is_frame (right_columns o) f ≡ true → length (part f) ≡ row_count f * right_columns o) → (f : Words)
      → drop (j.pruned * right_columns o) (back_to_back (map part R)) ++ part f ≡ drop (j.pruned * right_columns o) (back_to_back (map part (R ++ (f ∷ []))))
  unfolding back_to_back
  part_more part law f =
      let m : j.pruned * right_columns o ≤ length (rows_in (right_columns o) R) * right_columns o = mul-le-mul_right (right_columns o) (omega (arith, s.rows)) in
      let n : j.pruned * right_columns o ≤ length (back_to_back (map part R)) = rw (parts_length (right_columns o) part law R s.right_frames) m in
      rw (map-append part R (f ∷ []), words_append (map part R) (part f ∷ []), append-nil (part f))
      (sym (drop-append-le (j.pruned * right_columns o) (back_to_back (map part R)) (part f) n))

  pub stock_right : (f : Words) → is_frame (right_columns o) f ≡ true → j.held + row_count f ≤ capacity (right_columns o) right → j.pruned + j.held + row_count f ≤ most_rows
      → Stock o l r L (R ++ (f ∷ [])) Os (pushed_right j left right f).join (pushed_right j left right f).left (pushed_right j left right f).right
  unfolding pushed_right waiting held_values held_marks rows_in
  stock_right f h room few =
      let b = new_base j.base j.held (row_count f) (capacity (right_columns o) right) in
      let len : length (pushed (right_columns o) j.base j.held f right) ≡ length right = pushed_length (right_columns o) j.base j.held f right h s.right_room room in
      let cap : capacity (right_columns o) (pushed (right_columns o) j.base j.held f right) ≡ capacity (right_columns o) right = ap (λ (n : ℕ). n / (2 * right_columns o)) len in
      record {
        options = s.options;
        left_length = s.left_length;
        right_length = rw s.options (len ∙ s.right_length);
        queue_room = s.queue_room;
        right_room = rw (s.options, cap) (omega (arith, new_base_room j.base j.held (row_count f) (capacity (right_columns o) right) room));
        few = omega arith;
        sequence = s.sequence;
        gone = s.gone;
        waits = s.waits;
        values =
            rw s.options
            (pushed_values (right_columns o) j.base j.held f right h s.right_room room
            ∙ ap (λ (z : Words). z ++ values_in (right_columns o) f) (rw s.options at s.values) ∙ part_more (values_in (right_columns o)) (values_length (right_columns o)) f);
        marks =
            rw (s.options, cap)
            (pushed_marks (right_columns o) j.base j.held f right h s.right_room room
            ∙ ap (λ (z : Words). z ++ marks_in (right_columns o) f) (rw s.options at s.marks) ∙ part_more (marks_in (right_columns o)) (marks_length (right_columns o)) f);
        left_frames = s.left_frames;
        left_codes = s.left_codes;
        right_frames = frames_join (right_columns o) R (f ∷ []) s.right_frames (h, tt);
        rows = rw (rows_in_append (right_columns o) R (f ∷ []), length-append (rows_in (right_columns o) R) (rows_in (right_columns o) (f ∷ [])), s.rows, append-nil (frame_rows (right_columns o) f), frame_rows_lem (right_columns o) f h) (omega arith);
        wrote = s.wrote;
      }

-- ---- the front of the queue
pub front_is : (c : ℕ) (f g : Words) → is_frame c f ≡ true → front c (f ++ g) ≡ f
unfolding front
front_is c f g h = rw (count_append c f h g) (take_at f g (frame_words (row_count f) c) (frame_length c f h))

module _ (o : Options) (l r : Words) (L R Os : List Words) (j : Join) (left right : Words) (s : Stock o l r L R Os j left right) where
  -- All the words that wait are in the area.
  pub waiting_length : length (waiting j left) ≡ j.queue_words
  unfolding waiting
  waiting_length = length-take-le j.queue_words (drop j.queue_start left) (rw (length-drop j.queue_start left) (omega (arith, s.queue_room)))

  -- The words of the held rows, at their width by the options.
  pub held_values_lem : take (j.held * right_columns o) (drop (j.base * right_columns o) right) ≡ drop (j.pruned * right_columns o) (all_values (right_columns o) R)
  unfolding held_values
  held_values_lem = rw s.options at s.values

  pub held_marks_lem : take (j.held * right_columns o) (drop ((capacity (right_columns o) right + j.base) * right_columns o) right) ≡ drop (j.pruned * right_columns o) (all_marks (right_columns o) R)
  unfolding held_marks
  held_marks_lem = rw s.options at s.marks

  module _ (f : Words) (rest : List Words) (e : drop (length Os) L ≡ f ∷ rest) where
    pub next_frame : is_frame (columns o) f ≡ true
    next_frame = frames_drop_head (frames_drop (columns o) (length Os) L s.left_frames)
      where
        frames_drop_head : Frames (columns o) (drop (length Os) L) → is_frame (columns o) f ≡ true
        frames_drop_head p = (rw e at p).0

    pub next_codes : lacks_code o (frame_rows (columns o) f) ≡ false
    unfolding rows_in
    next_codes =
        let all : rows_in (columns o) L ≡ rows_in (columns o) (take (length Os) L) ++ (frame_rows (columns o) f ++ rows_in (columns o) rest) =
        ap (rows_in (columns o)) (sym (take-append-drop (length Os) L)) ∙ rows_in_append (columns o) (take (length Os) L) (drop (length Os) L) ∙ rw e
        in
        (lacks_parts o (frame_rows (columns o) f) (rows_in (columns o) rest) (lacks_parts o (rows_in (columns o) (take (length Os) L)) (frame_rows (columns o) f ++ rows_in (columns o) rest) (rw all at s.left_codes)).1).0

    pub waits_front : waiting j left ≡ f ++ back_to_back rest
    unfolding back_to_back
    waits_front = rw e at s.waits

    pub front_next : front (columns o) (waiting j left) ≡ f
    front_next = rw waits_front (front_is (columns o) f (back_to_back rest) next_frame)

    pub front_room : length f ≤ j.queue_words
    front_room = omega (arith, waiting_length, ap length waits_front ∙ length-append f (back_to_back rest))

    more_gone : suc (length Os) ≤ length L
    more_gone = omega (arith, length-drop (length Os) L, ap length e)

    -- Of a part of n words that is the end of others, all but the first m.
    part_less : (p n m k : ℕ) (ws : Words) → take n (drop p right) ≡ drop k ws → take (n - m) (drop (p + m) right) ≡ drop (k + m) ws
    part_less p n m k ws q = rw (← drop-drop m p right, ← drop_take m n (drop p right), q) (drop-drop m k ws)

    -- A turn that writes: d rows are dropped, the frame leaves, the answer is written.
    pub stock_turn : (d : ℕ) → d ≤ j.held → (ms : Rows) → Wide (answer_columns o) ms → length ms ≡ row_count f → (out : Words) (lr rr : Row)
        → Stock o l r L R (Os ++ (answered o ms out ∷ [])) (next_turn (dequeued (dropped j d) (length f)) lr rr) left right
    unfolding dequeued dropped waiting held_values held_marks matches_in rows_in
    stock_turn d h ms wide k out lr rr =
        let n : length (Os ++ (answered o ms out ∷ [])) ≡ suc (length Os) = rw (length-append Os (answered o ms out ∷ [])) (omega arith) in
        let x : ℕ = j.held - d in
        let hx : j.held ≡ x + d = omega arith in
        let hc : (j.held - d) * right_columns o ≡ j.held * right_columns o - d * right_columns o = omega (arith, ap (λ (n : ℕ). n * right_columns o) hx) in
        let pb : (j.base + d) * right_columns o ≡ j.base * right_columns o + d * right_columns o = omega arith in
        let pm : (capacity (right_columns o) right + (j.base + d)) * right_columns o ≡ (capacity (right_columns o) right + j.base) * right_columns o + d * right_columns o = omega arith in
        let pk : (j.pruned + d) * right_columns o ≡ j.pruned * right_columns o + d * right_columns o = omega arith in
        record {
          options = s.options;
          left_length = s.left_length;
          right_length = s.right_length;
          queue_room = omega (arith, s.queue_room, front_room);
          right_room = omega (arith, s.right_room);
          few = omega (arith, s.few);
          sequence = rw n (omega (arith, s.sequence));
          gone = rw n more_gone;
          waits =
              rw (n, drop_next (length Os) L f rest e, ← drop-drop (length f) j.queue_start left, ← drop_take (length f) j.queue_words (drop j.queue_start left))
              (ap (λ (z : Words). drop (length f) z) waits_front ∙ drop_at f (back_to_back rest) (length f) refl);
          values = rw (s.options, hc, pb, pk) (part_less (j.base * right_columns o) (j.held * right_columns o) (d * right_columns o) (j.pruned * right_columns o) (all_values (right_columns o) R) held_values_lem);
          marks = rw (s.options, hc, pm, pk) (part_less ((capacity (right_columns o) right + j.base) * right_columns o) (j.held * right_columns o) (d * right_columns o) (j.pruned * right_columns o) (all_marks (right_columns o) R) held_marks_lem);
          left_frames = s.left_frames;
          left_codes = s.left_codes;
          right_frames = s.right_frames;
          rows = omega (arith, s.rows);
          wrote =
              rw (
                n,
                matches_append (answer_columns o) Os (answered o ms out ∷ []),
                length-append (matches_in (answer_columns o) Os) (matches_in (answer_columns o) (answered o ms out ∷ [])),
                append-nil (written_in (answer_columns o) (answered o ms out)),
                written_back o ms out wide,
                length-map ms as_written,
                k,
                take_next (length Os) L f rest e,
                rows_in_append (columns o) (take (length Os) L) (f ∷ []),
                length-append (rows_in (columns o) (take (length Os) L)) (rows_in (columns o) (f ∷ [])),
                append-nil (frame_rows (columns o) f),
                frame_rows_lem (columns o) f next_frame,
                s.wrote,
              );
        }

  -- The held rows are the accepted ones that were not dropped.
  pub held_rows_lem : held_of j right ≡ drop j.pruned (rows_in (right_columns o) R)
  unfolding held_of held_rows
  held_rows_lem =
      let c = right_columns o in
      let v = drop (j.base * c) right in
      let m = drop ((capacity c right + j.base) * c) right in
      let e : j.pruned + j.held - j.pruned ≡ j.held = omega arith in
      rw s.options
      (sym (rows_read c j.held (j.held * c) v m (omega arith))
      ∙ rw (held_values_lem, held_marks_lem)
      (ap (λ (n : ℕ). rows_of c n (drop (j.pruned * c) (all_values c R)) (drop (j.pruned * c) (all_marks c R))) (sym e)
      ∙ rows_drop c (j.pruned + j.held) j.pruned (all_values c R) (all_marks c R) (omega arith)
      ∙ ap (λ (z : Rows). drop j.pruned z) (ap (λ (n : ℕ). rows_of c n (all_values c R) (all_marks c R)) (sym s.rows) ∙ all_rows c R s.right_frames)))
