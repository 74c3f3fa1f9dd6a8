-- What is known of a join that is not bad, and of a frame that is accepted. Assumes nothing.
use Rattle.std.specs.Prelude.{Result, Ok, Err}
use mathlib.Core.Path.{◌≡◌, refl}
use mathlib.Core.Bool.{Bool, true, false, cond, not, ◌||◌}
use Prim.Native.Nat.{ℕ, ◌+◌, ◌%◌, ◌≤◌}
use native.Mathlib.Omega.{arith}
use borrow.Author.Tests.{ltb-false, eqb-false, not-false}
use lib.Dec.{ltb}
use lib.ListN.{length}
use Rattle.callrules.specs.Judged.{left_judged, end_judged, right_judged}
use Rattle.frames.specs.Cells.{Words}
use Rattle.frames.specs.Frame.{row_count, is_frame, frame_rows}
use Rattle.order.specs.options.Options.{refused_options, bad_ranked, Few}
use Rattle.callrules.specs.Judged.{bad_numbers}
use Rattle.frames.specs.Front.{HasCount}
use Rattle.order.specs.declared.options.Options.{Options}
use Rattle.frames.proofs.FrontLaws.{frame_count}
use Rattle.order.specs.Listed.{lacks_code}
use Rattle.buffer.specs.area.Area.{capacity}
use Rattle.order.proofs.options.OptionLaws.{or_both, allowed_parts}
use Rattle.node.specs.State.{fresh, left_width, right_width, bad_join, over_right, over_left, over_rows, odd_sequence}
use Rattle.frames.specs.outcomes.Answers.{is_running, is_done, most_rows}
use Rattle.node.specs.Calls.{left_answer, right_answer, end_answer}
use Rattle.node.specs.declared.Join.{Join}
use Rattle.frames.specs.declared.refusals.Refusal.{Refusal}
use Rattle.frames.specs.declared.refusals.Refusal.TheVariants.{BadJoin, Failed, Closed, BadFrame, UnknownCode, NoRoom, UsedUp}

-- ---- tests
-- A chain of refusals that came to Accepted did not stop at its first.
passed : (b : Bool) (n : Refusal) (t : Result Unit Refusal) → cond b (Err n) t ≡ Ok tt → (b ≡ false) × (t ≡ Ok tt)
passed true n t e = let z : ◌≡◌ {A = ℕ} 0 1 = cc in absurd (omega arith)
passed false n t e = (refl, e)

-- ---- a join that is not bad
pub record Good (j : Join) (left right : Words) : Type 0 where
  pub options : refused_options j.options ≡ false
  pub by : j.options.by ≤ 4
  pub list : bad_ranked j.options ≡ false
  pub carried : j.options.carried ≤ 8
  pub right_room : j.base + j.held ≤ capacity (right_width j) right
  pub left_room : j.queue_start + j.queue_words ≤ length left
  pub rows : j.pruned + j.held ≤ most_rows
  pub even : j.sequence % 2 ≡ 0

pub good : (j : Join) (left right : Words) → bad_join j left right ≡ false → Good j left right
unfolding bad_join
good j left right h =
    let a = refused_options j.options in
    let p = or_both (a || over_right j right || over_left j left || over_rows j) (odd_sequence j) h in
    let q = or_both (a || over_right j right || over_left j left) (over_rows j) p.0 in
    let r = or_both (a || over_right j right) (over_left j left) q.0 in
    let s = or_both a (over_right j right) r.0 in
    let t = allowed_parts j.options s.0 in
    record {
      options = s.0;
      by = t.by;
      list = t.list;
      carried = t.carried;
      right_room = ltb-false (capacity (right_width j) right) (j.base + j.held) s.1;
      left_room = ltb-false (length left) (j.queue_start + j.queue_words) r.1;
      rows = ltb-false most_rows (j.pruned + j.held) q.1;
      even = let n = eqb-false (j.sequence % 2) 1 p.1 in omega (arith, n);
    }

-- With arrays of 64 its rows can be compared by its options.
pub few_told : (j : Join) (left right : Words) → Good j left right → length j.options.ranks.codes ≡ 64 → length j.options.ranks.rising ≡ 64 → Few j.options
few_told j left right g a b = record { by = g.by; list = g.list; there = λ e. (omega arith, omega arith) }

-- What is told by the numbers of the join and by rules that are its options'.
pub bad_told : (j : Join) (left right : Words) (o : Options) (b : Bool) → o ≡ j.options → b ≡ bad_numbers o j.base j.held j.pruned j.queue_start j.queue_words j.sequence left right → b ≡ bad_join j left right
unfolding bad_join bad_numbers
bad_told j left right o b e h = rw e at h

-- Rules that are a join's options, with all words of the list there, are few where the join is good.
pub few_by : (j : Join) (left right : Words) (o : Options) → Good j left right → o ≡ j.options → length o.ranks.codes ≡ 64 → length o.ranks.rising ≡ 64 → Few o
few_by j left right o g e a b = rw e (few_told j left right g (rw e at a) (rw e at b))

-- The join of a refused opening is bad, with any areas.
pub opened_bad : (o : Options) (left right : Words) → refused_options o ≡ true → bad_join (fresh o) left right ≡ true
unfolding bad_join
opened_bad o left right e = rw e

-- ---- a frame
-- Its first word is there and is a number of rows.
pub has_count : (c : ℕ) (f : Words) → is_frame c f ≡ true → HasCount f
has_count c f h = frame_count c f h

-- ---- what is accepted
module _ (j : Join) (left right : Words) where
  -- Right is open: neither it nor the node has ended.
  pub record EndTaken : Type 0 where
    pub unbroken : bad_join j left right ≡ false
    pub good : Good j left right
    pub unfailed : j.failed ≡ false
    pub unended : (j.right_ended || is_done j.state) ≡ false

  pub end_taken : end_answer j left right ≡ Ok tt → EndTaken
  unfolding end_judged
  end_taken e =
      let p2 = passed (bad_join j left right) BadJoin _ e in
      let p3 = passed j.failed Failed _ p2.1 in
      let p4 = passed (j.right_ended || is_done j.state) Closed (Ok tt) p3.1 in
      record { unbroken = p2.0; good = good j left right p2.0; unfailed = p3.0; unended = p4.0 }

  pub record LeftTaken (f : Words) : Type 0 where
    pub good : Good j left right
    pub unfailed : j.failed ≡ false
    pub running : is_running j.state ≡ true
    pub frame : is_frame (left_width j) f ≡ true
    pub codes : lacks_code j.options (frame_rows (left_width j) f) ≡ false
    pub room : j.queue_words + length f ≤ length left

  pub left_taken : (f : Words) → left_answer j left right f ≡ Ok tt → LeftTaken f
  unfolding left_judged
  left_taken f e =
      let p2 = passed (bad_join j left right) BadJoin _ e in
      let p3 = passed j.failed Failed _ p2.1 in
      let p4 = passed (not (is_running j.state)) Closed _ p3.1 in
      let p5 = passed (not (is_frame (left_width j) f)) BadFrame _ p4.1 in
      let p12 = passed (lacks_code j.options (frame_rows (left_width j) f)) UnknownCode _ p5.1 in
      let p6 = passed (ltb (length left) (j.queue_words + length f)) NoRoom (Ok tt) p12.1 in
      record {
        good = good j left right p2.0;
        unfailed = p3.0;
        running = not-false (is_running j.state) p4.0;
        frame = not-false (is_frame (left_width j) f) p5.0;
        codes = p12.0;
        room = ltb-false (length left) (j.queue_words + length f) p6.0;
      }

  pub record RightTaken (f : Words) : Type 0 where
    pub good : Good j left right
    pub unfailed : j.failed ≡ false
    pub unended : (j.right_ended || is_done j.state) ≡ false
    pub frame : is_frame (right_width j) f ≡ true
    pub codes : lacks_code j.options (frame_rows (right_width j) f) ≡ false
    pub room : j.held + row_count f ≤ capacity (right_width j) right
    pub rows : j.pruned + j.held + row_count f ≤ most_rows

  pub right_taken : (f : Words) → right_answer j left right f ≡ Ok tt → RightTaken f
  unfolding right_judged
  right_taken f e =
      let p2 = passed (bad_join j left right) BadJoin _ e in
      let p3 = passed j.failed Failed _ p2.1 in
      let p4 = passed (j.right_ended || is_done j.state) Closed _ p3.1 in
      let p5 = passed (not (is_frame (right_width j) f)) BadFrame _ p4.1 in
      let p12 = passed (lacks_code j.options (frame_rows (right_width j) f)) UnknownCode _ p5.1 in
      let p6 = passed (ltb (capacity (right_width j) right) (j.held + row_count f)) NoRoom _ p12.1 in
      let p7 = passed (ltb most_rows (j.pruned + j.held + row_count f)) UsedUp (Ok tt) p6.1 in
      record {
        good = good j left right p2.0;
        unfailed = p3.0;
        unended = p4.0;
        frame = not-false (is_frame (right_width j) f) p5.0;
        codes = p12.0;
        room = ltb-false (capacity (right_width j) right) (j.held + row_count f) p6.0;
        rows = ltb-false most_rows (j.pruned + j.held + row_count f) p7.0;
      }
