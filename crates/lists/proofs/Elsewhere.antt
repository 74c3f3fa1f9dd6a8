-- Places and lengths are not told, proved call by call: two joins that hold the same give the same answer and output, and hold the same afterwards. Assumes nothing.
use Rattle.frames.specs.declared.outcomes.Turn.TheVariants.{Wrote, WantsRight, Idle}
use Rattle.frames.specs.declared.outcomes.Turn.{Turn}
use Rattle.std.specs.Prelude.{Result, Ok, Err}
use mathlib.Core.Path.{◌≡◌, refl, sym, ap, ◌∙◌, subst}
use mathlib.Core.Bool.{Bool, true, false, cond, not, ◌||◌}
use mathlib.Core.List.{List, [], ◌∷◌, ◌++◌, map}
use Prim.Native.Nat.{ℕ, ◌+◌, ◌-◌, ◌*◌, ◌/◌, ◌%◌, ◌≤◌}
use native.Mathlib.Omega.{arith}
use borrow.Author.Tests.{le-ltb, ne_eqb}
use lib.Dec.{ltb, eqb}
use lib.ListN.{length, take, drop, length-take}
use lib.Seq.{drop-drop}
use Rattle.callrules.specs.ports.Ports.{ports_judged}
use Rattle.callrules.specs.Judged.{end_judged, left_judged, right_judged}
use Rattle.frames.specs.Cells.{Rows, Words, rows_of}
use Rattle.order.specs.declared.Row.{Row}
use Rattle.frames.specs.Frame.{row_count, values_in, marks_in, frame_rows, frame_words, is_frame, front}
use Rattle.frames.proofs.WordLaws.{drop_take, rows_read, rows_length}
use Rattle.order.specs.Listed.{lacks_code}
use Rattle.buffer.specs.area.Area.{capacity, held_rows, new_base, pushed}
use Rattle.searching.specs.Reach.{prune_by}
use Rattle.buffer.proofs.area.PushLaws.{new_base_room, append_length, append_part, pushed_length, pushed_values, pushed_marks}
use Rattle.node.specs.declared.Join.{Join}
use Rattle.frames.specs.outcomes.Answers.{is_running, is_done, most_rows}
use Rattle.frames.specs.declared.outcomes.PortState.{PortState}
use Rattle.frames.specs.refusals.Refusals.{marks_failed}
use Rattle.frames.specs.declared.refusals.Refusal.{Refusal}
use Rattle.frames.specs.declared.refusals.Refusal.TheVariants.{BadJoin, Failed, Closed, BadFrame, UnknownCode, NoRoom, UsedUp}
use Rattle.frames.specs.declared.outcomes.Ports.{Ports}
use Rattle.frames.specs.declared.outcomes.NodeState.{NodeState}
use Rattle.node.specs.State.{queue_at, held_at, next_turn, ended_right, state_at, marked_failed, left_width, right_width, bad_join, held_of, held_values, held_marks, waiting}
use Rattle.node.specs.Calls.{After, after, left_answer, left_call, queued, right_answer, right_call, pushed_right, end_answer, end_call, ports_answer, ports_call, ports_state, turn_answer, turn_call, turned, dropped, dequeued, spoiled}
use Rattle.matchframe.specs.turnrows.Prunes.{first_prune, kept_rows, last_prune}
use Rattle.node.proofs.Good.{Good, LeftTaken, left_taken, RightTaken, right_taken}
use Rattle.matchframe.proofs.turnrows.PruneLaws.{drops_within}
use Rattle.lists.specs.Lists.{Call, left, right, end, ports, turn, Event, on_left, on_right, on_end, on_ports, on_turn, World, stepped, step, events, final, took_refusal}
use Rattle.lists.specs.Elsewhere.{placed_at, SameLive, no_room, Elsewhere}

-- ---- a join that is not bad
pub unbroken : (j : Join) (l r : Words) → Good j l r → bad_join j l r ≡ false
unfolding bad_join
unbroken j l r g =
    rw (
      g.options,
      le-ltb (capacity (right_width j) r) (j.base + j.held) g.right_room,
      le-ltb (length l) (j.queue_start + j.queue_words) g.left_room,
      le-ltb most_rows (j.pruned + j.held) g.rows,
      ne_eqb (j.sequence % 2) 1 (λ (h : j.sequence % 2 ≡ 1). omega (arith, g.even)),
    )

-- ---- held rows
pub held_read : (j : Join) (r : Words) → held_of j r ≡ rows_of (right_width j) j.held (held_values j r) (held_marks j r)
unfolding held_of held_rows held_values held_marks
held_read j r = sym (rows_read (right_width j) j.held (j.held * right_width j) (drop (j.base * right_width j) r) (drop ((capacity (right_width j) r + j.base) * right_width j) r) (omega arith))

held_count : (j : Join) (r : Words) → length (held_of j r) ≡ j.held
unfolding held_of held_rows
held_count j r = rows_length (right_width j) j.held (drop (j.base * right_width j) r) (drop ((capacity (right_width j) r + j.base) * right_width j) r)

-- A turn drops no more rows than are held, and takes no more words than wait.
gone : (j : Join) (r : Words) (rows : Rows) → first_prune j.options rows (held_of j r) + prune_by j.options (length rows - 1) rows (drop (first_prune j.options rows (held_of j r)) (held_of j r)) ≤ j.held
unfolding last_prune kept_rows
gone j r rows = rw (held_count j r) at (drops_within j.options rows (held_of j r))

taken : (c : ℕ) (j : Join) (l : Words) → length (front c (waiting j l)) ≤ j.queue_words
unfolding front waiting
taken c j l =
    let ws = take j.queue_words (drop j.queue_start l) in
    omega (arith, length-take (frame_words (row_count ws) c) ws, length-take j.queue_words (drop j.queue_start l))

-- Of n words from p on, and of as many from q on, all but the first m.
part_less : (p q n m : ℕ) (ws vs : Words) → take n (drop p ws) ≡ take n (drop q vs) → take (n - m) (drop (p + m) ws) ≡ take (n - m) (drop (q + m) vs)
part_less p q n m ws vs e = rw (← drop-drop m p ws, ← drop_take m n (drop p ws), ← drop-drop m q vs, ← drop_take m n (drop q vs)) (ap (λ (z : Words). drop m z) e)

-- ---- two joins that hold the same
-- SameLive, without the fields of the joins.
pub record Live (k : Join) (l' r' : Words) (j : Join) (l r : Words) : Type 0 where
  pub bad : bad_join k l' r' ≡ bad_join j l r
  pub waits : waiting k l' ≡ waiting j l
  pub values : held_values k r' ≡ held_values j r
  pub marks : held_marks k r' ≡ held_marks j r

-- A call that leaves x of the one and y of the other.
pub record Same {A : Type 0} (x y : After A) : Type 0 where
  pub answer : x.answer ≡ y.answer
  pub join : x.join ≡ placed_at y.join x.join.queue_start x.join.base
  pub out : x.out ≡ y.out
  pub live : Live x.join x.left x.right y.join y.left y.right

-- ---- a frame with the same answer, but for room
-- Whether the answer is 6.
abbrev short : Result Unit Refusal → Bool
short t = eqb (took_refusal t) 6

past : (b : Bool) (n : Refusal) (x y : Result Unit Refusal) → (short x ≡ short y → x ≡ y) → short (cond b (Err n) x) ≡ short (cond b (Err n) y) → cond b (Err n) x ≡ cond b (Err n) y
past true n x y f e = refl
past false n x y f e = f e

room_last : (t : Result Unit Refusal) → short t ≡ false → (a b : Bool) → short (cond a (Err NoRoom) t) ≡ short (cond b (Err NoRoom) t) → cond a (Err NoRoom) t ≡ cond b (Err NoRoom) t
room_last t h true true e = refl
room_last t h false false e = refl
room_last t h true false e = let z : ◌≡◌ {A = ℕ} 0 1 = cc in absurd (omega arith)
room_last t h false true e = let z : ◌≡◌ {A = ℕ} 0 1 = cc in absurd (omega arith)

used_up : (b : Bool) → short (cond b (Err UsedUp) (Ok tt)) ≡ false
used_up true = refl
used_up false = refl

-- What a frame's call answers: it does what is done where it is accepted, else nothing.
abbrev pub by_took : Result Unit Refusal → After (Result Unit Refusal) → Join → Words → Words → After (Result Unit Refusal)
by_took t done j l r = elim t [ Ok tt ↦ done | Err n ↦ after (Err n) j l r [] ]

took_says : (t : Result Unit Refusal) (done : After (Result Unit Refusal)) (j : Join) (l r : Words) → done.answer ≡ Ok tt → (by_took t done j l r).answer ≡ t
took_says (Ok tt) done j l r e = e
took_says (Err n) done j l r e = refl

pub left_says : (j : Join) (l r f : Words) → (left_call j l r f).answer ≡ left_answer j l r f
unfolding left_call queued
left_says j l r f = took_says (left_answer j l r f) (queued j l r f) j l r refl

pub right_says : (j : Join) (l r f : Words) → (right_call j l r f).answer ≡ right_answer j l r f
unfolding right_call pushed_right
right_says j l r f = took_says (right_answer j l r f) (pushed_right j l r f) j l r refl

module _ (j : Join) (s b : ℕ) (l r l' r' : Words) (a : Live (placed_at j s b) l' r' j l r) where
  abbrev k : Join
  k = placed_at j s b

  abbrev c : ℕ
  c = right_width j

  pub holds : held_of k r' ≡ held_of j r
  holds = held_read k r' ∙ rw (a.values, a.marks) (sym (held_read j r))

  -- ---- a turn
  pub turn_answer_lem : (out : Words) → turn_answer k l' r' out ≡ turn_answer j l r out
  unfolding turn_answer
  turn_answer_lem out = rw (a.bad, a.waits, holds)

  -- What a turn leaves fits the areas where what it came with did.
  next_bad : (i : Join) (x y : Words) (d n : ℕ) (lr rr : Row) → d ≤ i.held → n ≤ i.queue_words → bad_join (next_turn (dequeued (dropped i d) n) lr rr) x y ≡ bad_join i x y
  unfolding bad_join dequeued dropped
  next_bad i x y d n lr rr h g =
      let e1 : i.base + d + (i.held - d) ≡ i.base + i.held = omega arith in
      let e2 : i.queue_start + n + (i.queue_words - n) ≡ i.queue_start + i.queue_words = omega arith in
      let e3 : i.pruned + d + (i.held - d) ≡ i.pruned + i.held = omega arith in
      let e4 : (i.sequence + 2) % 2 ≡ i.sequence % 2 = omega arith in
      rw (e1, e2, e3, e4)

  next_live : (d n : ℕ) (lr rr : Row) → d ≤ j.held → n ≤ j.queue_words → Live (next_turn (dequeued (dropped k d) n) lr rr) l' r' (next_turn (dequeued (dropped j d) n) lr rr) l r
  unfolding dequeued dropped waiting held_values held_marks
  next_live d n lr rr h g =
      let x : ℕ = j.held - d in
      let hx : j.held ≡ x + d = omega arith in
      let hc : (j.held - d) * c ≡ j.held * c - d * c = omega (arith, ap (λ (z : ℕ). z * c) hx) in
      let pb : (j.base + d) * c ≡ j.base * c + d * c = omega arith in
      let pb' : (b + d) * c ≡ b * c + d * c = omega arith in
      let pm : (capacity c r + (j.base + d)) * c ≡ (capacity c r + j.base) * c + d * c = omega arith in
      let pm' : (capacity c r' + (b + d)) * c ≡ (capacity c r' + b) * c + d * c = omega arith in
      record {
        bad = next_bad k l' r' d n lr rr h g ∙ a.bad ∙ sym (next_bad j l r d n lr rr h g);
        waits = part_less s j.queue_start j.queue_words n l' l a.waits;
        values = rw (hc, pb, pb') (part_less (b * c) (j.base * c) (j.held * c) (d * c) r' r a.values);
        marks = rw (hc, pm, pm') (part_less ((capacity c r' + b) * c) ((capacity c r + j.base) * c) (j.held * c) (d * c) r' r a.marks);
      }

  turned_same : (out : Words) → Same (turned k l' r' out) (turned j l r out)
  unfolding turned dequeued dropped
  turned_same out =
      let f = front (left_width j) (waiting j l) in
      let rows = frame_rows (left_width j) f in
      rw (a.waits, holds)
      (record {
        answer = refl;
        join = refl;
        out = refl;
        live = next_live (first_prune j.options rows (held_of j r) + prune_by j.options (length rows - 1) rows (drop (first_prune j.options rows (held_of j r)) (held_of j r))) (length f) _ _ (gone j r rows) (taken (left_width j) j l);
      })

  -- What changes nothing, or marks the join failed.
  spoiled_same : (n : Refusal) (out : Words) → Same {A = Result Turn Refusal} (record { answer = Err n; join = spoiled n k; left = l'; right = r'; out = out }) (record { answer = Err n; join = spoiled n j; left = l; right = r; out = out })
  unfolding bad_join waiting held_values held_marks
  spoiled_same n out = go (marks_failed n)
    where
      go : (b : Bool)
          → Same {A = Result Turn Refusal} (record { answer = Err n; join = cond b (marked_failed k) k; left = l'; right = r'; out = out }) (record { answer = Err n; join = cond b (marked_failed j) j; left = l; right = r; out = out })
      go true = record { answer = refl; join = refl; out = refl; live = record { bad = a.bad; waits = a.waits; values = a.values; marks = a.marks } }
      go false = record { answer = refl; join = refl; out = refl; live = a }

  pub turn_same : (out : Words) → Same (turn_call k l' r' out) (turn_call j l r out)
  unfolding turn_call
  turn_same out = go (turn_answer j l r out) refl
    where
      go : (x : Result Turn Refusal) → turn_answer j l r out ≡ x → Same (turn_call k l' r' out) (turn_call j l r out)
      go (Ok (Wrote q)) e = rw (turn_answer_lem out ∙ e, e, turn_call) (turned_same out)
      go (Ok WantsRight) e = rw (turn_answer_lem out ∙ e, e, turn_call) (record { answer = refl; join = refl; out = refl; live = a })
      go (Ok Idle) e = rw (turn_answer_lem out ∙ e, e, turn_call) (record { answer = refl; join = refl; out = refl; live = a })
      go (Err n) e = rw (turn_answer_lem out ∙ e, e, turn_call) (spoiled_same n out)

  -- ---- a left frame
  left_answer_lem : (f : Words) → short (left_answer k l' r' f) ≡ short (left_answer j l r f) → left_answer k l' r' f ≡ left_answer j l r f
  unfolding left_judged
  left_answer_lem f e =
      let x' = ltb (length l') (j.queue_words + length f) in
      let x = ltb (length l) (j.queue_words + length f) in
      let t5' = cond x' (Err NoRoom) (Ok tt) in
      let t5 = cond x (Err NoRoom) (Ok tt) in
      let lack = lacks_code j.options (frame_rows (left_width j) f) in
      let t12' = cond lack (Err UnknownCode) t5' in
      let t12 = cond lack (Err UnknownCode) t5 in
      let t4' = cond (not (is_frame (left_width j) f)) (Err BadFrame) t12' in
      let t4 = cond (not (is_frame (left_width j) f)) (Err BadFrame) t12 in
      let t3' = cond (not (is_running j.state)) (Err Closed) t4' in
      let t3 = cond (not (is_running j.state)) (Err Closed) t4 in
      let t2' = cond j.failed (Err Failed) t3' in
      let t2 = cond j.failed (Err Failed) t3 in
      rw a.bad
      (past (bad_join j l r) BadJoin t2' t2
      (past j.failed Failed t3' t3
      (past (not (is_running j.state)) Closed t4' t4
      (past (not (is_frame (left_width j) f)) BadFrame t12' t12
      (past lack UnknownCode t5' t5
      (room_last (Ok tt) refl x' x))))) (rw a.bad at e))

  queued_same : (f : Words) → LeftTaken k l' r' f → LeftTaken j l r f → Same (queued k l' r' f) (queued j l r f)
  unfolding queued waiting held_values held_marks
  queued_same f t' t =
      let qs = j.queue_start in
      let qw = j.queue_words in
      let n = new_base qs qw (length f) (length l) in
      let n' = new_base s qw (length f) (length l') in
      let nb : n + qw + length f ≤ length l = new_base_room qs qw (length f) (length l) t.room in
      let nb' : n' + qw + length f ≤ length l' = new_base_room s qw (length f) (length l') t'.room in
      let ll = append_length l qs n qw f nb t.good.left_room in
      let ll' = append_length l' s n' qw f nb' t'.good.left_room in
      let g = t.good in
      let g' = t'.good in
      record {
        answer = refl;
        join = refl;
        out = refl;
        live = record {
          bad =
              unbroken (queue_at k n' (qw + length f)) _ r' (record { options = g'.options; by = g'.by; list = g'.list; carried = g'.carried; right_room = g'.right_room; left_room = rw ll' (omega arith); rows = g'.rows; even = g'.even })
              ∙ sym (unbroken (queue_at j n (qw + length f)) _ r (record { options = g.options; by = g.by; list = g.list; carried = g.carried; right_room = g.right_room; left_room = rw ll (omega arith); rows = g.rows; even = g.even }));
          waits = append_part l' s n' qw f nb' g'.left_room ∙ ap (λ (z : Words). z ++ f) a.waits ∙ sym (append_part l qs n qw f nb g.left_room);
          values = a.values;
          marks = a.marks;
        };
      }

  pub left_same : (f : Words) → short (left_answer k l' r' f) ≡ short (left_answer j l r f) → Same (left_call k l' r' f) (left_call j l r f)
  unfolding left_call
  left_same f p = go (left_answer j l r f) refl
    where
      go : (x : Result Unit Refusal) → left_answer j l r f ≡ x → Same (left_call k l' r' f) (left_call j l r f)
      go (Ok tt) e = rw (left_answer_lem f p ∙ e, e, left_call) (queued_same f (left_taken k l' r' f (left_answer_lem f p ∙ e)) (left_taken j l r f e))
      go (Err n) e = rw (left_answer_lem f p ∙ e, e, left_call) (record { answer = refl; join = refl; out = refl; live = a })

  -- ---- a right frame
  right_answer_lem : (f : Words) → short (right_answer k l' r' f) ≡ short (right_answer j l r f) → right_answer k l' r' f ≡ right_answer j l r f
  unfolding right_judged
  right_answer_lem f e =
      let ended = j.right_ended || is_done j.state in
      let u = cond (ltb most_rows (j.pruned + j.held + row_count f)) (Err UsedUp) (Ok tt) in
      let x' = ltb (capacity c r') (j.held + row_count f) in
      let x = ltb (capacity c r) (j.held + row_count f) in
      let t5' = cond x' (Err NoRoom) u in
      let t5 = cond x (Err NoRoom) u in
      let lack = lacks_code j.options (frame_rows c f) in
      let t12' = cond lack (Err UnknownCode) t5' in
      let t12 = cond lack (Err UnknownCode) t5 in
      let t4' = cond (not (is_frame c f)) (Err BadFrame) t12' in
      let t4 = cond (not (is_frame c f)) (Err BadFrame) t12 in
      let t3' = cond ended (Err Closed) t4' in
      let t3 = cond ended (Err Closed) t4 in
      let t2' = cond j.failed (Err Failed) t3' in
      let t2 = cond j.failed (Err Failed) t3 in
      rw a.bad
      (past (bad_join j l r) BadJoin t2' t2
      (past j.failed Failed t3' t3
      (past ended Closed t4' t4
      (past (not (is_frame c f)) BadFrame t12' t12
      (past lack UnknownCode t5' t5
      (room_last u (used_up (ltb most_rows (j.pruned + j.held + row_count f))) x' x))))) (rw a.bad at e))

  pushed_same : (f : Words) → RightTaken k l' r' f → RightTaken j l r f → Same (pushed_right k l' r' f) (pushed_right j l r f)
  unfolding pushed_right waiting held_values held_marks
  pushed_same f t' t =
      let g = t.good in
      let g' = t'.good in
      let to = new_base j.base j.held (row_count f) (capacity c r) in
      let to' = new_base b j.held (row_count f) (capacity c r') in
      let n = pushed_length c j.base j.held f r t.frame g.right_room t.room in
      let n' = pushed_length c b j.held f r' t'.frame g'.right_room t'.room in
      let q : capacity c (pushed c j.base j.held f r) ≡ capacity c r = ap (λ (z : ℕ). z / (2 * c)) n in
      let q' : capacity c (pushed c b j.held f r') ≡ capacity c r' = ap (λ (z : ℕ). z / (2 * c)) n' in
      let nb = new_base_room j.base j.held (row_count f) (capacity c r) t.room in
      let nb' = new_base_room b j.held (row_count f) (capacity c r') t'.room in
      record {
        answer = refl;
        join = refl;
        out = refl;
        live = record {
          bad =
              unbroken (held_at k to' (j.held + row_count f) j.pruned) l' _ (record { options = g'.options; by = g'.by; list = g'.list; carried = g'.carried; right_room = rw q' (omega (arith, nb')); left_room = g'.left_room; rows = omega (arith, t'.rows); even = g'.even })
              ∙ sym (unbroken (held_at j to (j.held + row_count f) j.pruned) l _ (record { options = g.options; by = g.by; list = g.list; carried = g.carried; right_room = rw q (omega (arith, nb)); left_room = g.left_room; rows = omega (arith, t.rows); even = g.even }));
          waits = a.waits;
          values =
              pushed_values c b j.held f r' t'.frame g'.right_room t'.room ∙ ap (λ (z : Words). z ++ values_in c f) a.values
              ∙ sym (pushed_values c j.base j.held f r t.frame g.right_room t.room);
          marks =
              rw (q, q')
              (pushed_marks c b j.held f r' t'.frame g'.right_room t'.room ∙ ap (λ (z : Words). z ++ marks_in c f) a.marks
              ∙ sym (pushed_marks c j.base j.held f r t.frame g.right_room t.room));
        };
      }

  pub right_same : (f : Words) → short (right_answer k l' r' f) ≡ short (right_answer j l r f) → Same (right_call k l' r' f) (right_call j l r f)
  unfolding right_call
  right_same f p = go (right_answer j l r f) refl
    where
      go : (x : Result Unit Refusal) → right_answer j l r f ≡ x → Same (right_call k l' r' f) (right_call j l r f)
      go (Ok tt) e = rw (right_answer_lem f p ∙ e, e, right_call) (pushed_same f (right_taken k l' r' f (right_answer_lem f p ∙ e)) (right_taken j l r f e))
      go (Err n) e = rw (right_answer_lem f p ∙ e, e, right_call) (record { answer = refl; join = refl; out = refl; live = a })

  -- ---- the end of right, and ports
  pub end_answer_lem : end_answer k l' r' ≡ end_answer j l r
  unfolding end_judged
  end_answer_lem = rw a.bad

  ended_live : Live (ended_right k) l' r' (ended_right j) l r
  unfolding bad_join waiting held_values held_marks
  ended_live = record { bad = a.bad; waits = a.waits; values = a.values; marks = a.marks }

  pub end_same : Same (end_call k l' r') (end_call j l r)
  unfolding end_call
  end_same = go (end_answer j l r) refl
    where
      go : (x : Result Unit Refusal) → end_answer j l r ≡ x → Same (end_call k l' r') (end_call j l r)
      go (Ok tt) e = rw (end_answer_lem ∙ e, e, end_call) (record { answer = refl; join = refl; out = refl; live = ended_live })
      go (Err n) e = rw (end_answer_lem ∙ e, e, end_call) (record { answer = refl; join = refl; out = refl; live = a })

  pub ports_answer_lem : (x y z : PortState) → ports_answer k l' r' x y z ≡ ports_answer j l r x y z
  unfolding ports_judged
  ports_answer_lem x y z = rw a.bad

  state_live : (q : NodeState) → Live (state_at k q) l' r' (state_at j q) l r
  unfolding bad_join waiting held_values held_marks
  state_live q = record { bad = a.bad; waits = a.waits; values = a.values; marks = a.marks }

  pub ports_same : (x y z : PortState) → Same (ports_call k l' r' x y z) (ports_call j l r x y z)
  unfolding ports_call
  ports_same x y z = go (ports_answer j l r x y z) refl
    where
      go : (p : Result Ports Refusal) → ports_answer j l r x y z ≡ p → Same (ports_call k l' r' x y z) (ports_call j l r x y z)
      go (Ok p) q = rw (ports_answer_lem x y z ∙ q, q, ports_call) (record { answer = refl; join = refl; out = refl; live = state_live (ports_state j x z) })
      go (Err n) q = rw (ports_answer_lem x y z ∙ q, q, ports_call) (record { answer = refl; join = refl; out = refl; live = a })

-- ---- one call
abbrev world : Join → Words → Words → World
world j l r = record { join = j; left = l; right = r }

-- What a call of both is to show.
abbrev Answered : World → World → Call → Type 0
Answered v w c = ((step v c).event ≡ (step w c).event) × SameLive (step v c).world (step w c).world

from_same : {A : Type 0} (on : A → Event) (x y : After A) → Same x y → ((stepped on x).event ≡ (stepped on y).event) × SameLive (stepped on x).world (stepped on y).world
from_same on x y z = (ap on z.answer, record { join = z.join; bad = z.live.bad; waits = z.live.waits; values = z.live.values; marks = z.live.marks })

from_turn : (x y : After (Result Turn Refusal)) → Same x y → ((stepped (λ z. on_turn z x.out) x).event ≡ (stepped (λ z. on_turn z y.out) y).event) × SameLive (stepped (λ z. on_turn z x.out) x).world (stepped (λ z. on_turn z y.out) y).world
from_turn x y z = (rw (z.answer, z.out), record { join = z.join; bad = z.live.bad; waits = z.live.waits; values = z.live.values; marks = z.live.marks })

placed_step : (c : Call) (j : Join) (s b : ℕ) (l r l' r' : Words) → Live (placed_at j s b) l' r' j l r
    → no_room (step (world (placed_at j s b) l' r') c).event ≡ no_room (step (world j l r) c).event → Answered (world (placed_at j s b) l' r') (world j l r) c
unfolding step
placed_step (left f) j s b l r l' r' a p =
    from_same (on_left f) _ _ (left_same j s b l r l' r' a f (rw (left_says (placed_at j s b) l' r' f, left_says j l r f) at p))
placed_step (right f) j s b l r l' r' a p =
    from_same (on_right f) _ _ (right_same j s b l r l' r' a f (rw (right_says (placed_at j s b) l' r' f, right_says j l r f) at p))
placed_step end j s b l r l' r' a p = from_same on_end _ _ (end_same j s b l r l' r' a)
placed_step (ports x y z) j s b l r l' r' a p = from_same (on_ports x y z) _ _ (ports_same j s b l r l' r' a x y z)
placed_step (turn out) j s b l r l' r' a p = from_turn _ _ (turn_same j s b l r l' r' a out)

-- A join that is another one at other places.
at_places : (P : Join → Type 0) (k j : Join) → k ≡ placed_at j k.queue_start k.base → ((s b : ℕ) → P (placed_at j s b)) → P k
at_places P k j e f = subst P (sym e) (f k.queue_start k.base)

pub step_same : (v w : World) → SameLive v w → (c : Call) → no_room (step v c).event ≡ no_room (step w c).event → Answered v w c
step_same v w a c =
    at_places
    (λ (k : Join). Live k v.left v.right w.join w.left w.right → no_room (step (world k v.left v.right) c).event ≡ no_room (step w c).event → Answered (world k v.left v.right) w c)
    v.join w.join a.join (λ s b. placed_step c w.join s b w.left w.right v.left v.right)
    (record { bad = a.bad; waits = a.waits; values = a.values; marks = a.marks })

-- ---- lists of calls
list_same : (cs : List Call) (v w : World) → SameLive v w → map no_room (events v cs) ≡ map no_room (events w cs) → (events v cs ≡ events w cs) × SameLive (final v cs) (final w cs)
unfolding events final
list_same [] v w a p = (refl, a)
list_same (c ∷ cs) v w a p =
    let s = step_same v w a c cc in
    let t = list_same cs (step v c).world (step w c).world s.1 cc in
    (rw (s.0, t.0), t.1)

pub elsewhere : Elsewhere
elsewhere = record { call = step_same; list = λ v w a cs. list_same cs v w a }
