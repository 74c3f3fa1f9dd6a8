-- The answers by numbers: what is known once a frame is accepted, and what it leaves. Assumes nothing.
use Rattle.std.specs.Prelude.{Result, Ok, Err, is_err}
use mathlib.Core.Path.{◌≡◌, refl, sym, ◌∙◌}
use mathlib.Core.Bool.{Bool, true, false, cond, not, ◌||◌}
use Prim.Native.Nat.{ℕ, ◌+◌, ◌≤◌}
use native.Mathlib.Omega.{arith}
use borrow.Author.Tests.{ltb-false, not-false}
use lib.Dec.{ltb}
use lib.ListN.{length}
use Rattle.frames.specs.Cells.{Words}
use Rattle.frames.specs.Frame.{row_count, is_frame, frame_rows}
use Rattle.frames.specs.Front.{HasCount}
use Rattle.order.specs.options.Options.{columns, right_columns}
use Rattle.order.specs.declared.options.Options.{Options}
use Rattle.order.specs.Listed.{lacks_code}
pub use Rattle.order.proofs.options.OptionLaws.{or_both, few_columns}
use Rattle.frames.proofs.FrontLaws.{frame_count}
use Rattle.buffer.specs.area.Area.{capacity, new_base, pushed, moved, written}
use Rattle.frames.specs.outcomes.Answers.{is_running, is_done, most_rows}
use Rattle.frames.specs.declared.outcomes.NodeState.{NodeState}
use Rattle.frames.specs.declared.refusals.Refusal.{Refusal}
use Rattle.frames.specs.declared.refusals.Refusal.TheVariants.{BadJoin, Failed, Closed, BadFrame, UnknownCode, NoRoom, UsedUp}
use Rattle.callrules.specs.Judged.{left_judged, end_judged, right_judged, LeftFed, RightFed}

-- A chain of refusals that came to Accepted did not stop at its first.
pub passed : (b : Bool) (n : Refusal) (t : Result Unit Refusal) → cond b (Err n) t ≡ Ok tt → (b ≡ false) × (t ≡ Ok tt)
passed true n t e = let z : ◌≡◌ {A = ℕ} 0 1 = cc in absurd (omega arith)
passed false n t e = (refl, e)

-- What is not refused is taken.
pub taken_of : {b : Bool} (t : Result Unit Refusal) → b ≡ is_err t → b ≡ false → t ≡ Ok tt
taken_of (Ok tt) e f = refl
taken_of (Err n) e f = let z : ◌≡◌ {A = Bool} true false = sym e ∙ f in cc

-- A frame's first word is there and is a number of rows.
pub has_count : (c : ℕ) (f : Words) → is_frame c f ≡ true → HasCount f
has_count c f h = frame_count c f h

-- ---- a left frame
module _ (bad failed : Bool) (state : NodeState) (o : Options) (words : ℕ) (left f : Words) where
  pub record LeftTaken : Type 0 where
    pub unbroken : bad ≡ false
    pub unfailed : failed ≡ false
    pub running : is_running state ≡ true
    pub frame : is_frame (columns o) f ≡ true
    pub codes : lacks_code o (frame_rows (columns o) f) ≡ false
    pub room : words + length f ≤ length left

  pub left_taken : left_judged bad failed state o words left f ≡ Ok tt → LeftTaken
  unfolding left_judged
  left_taken e =
      let p2 = passed bad BadJoin _ e in
      let p3 = passed failed Failed _ p2.1 in
      let p4 = passed (not (is_running state)) Closed _ p3.1 in
      let p5 = passed (not (is_frame (columns o) f)) BadFrame _ p4.1 in
      let p12 = passed (lacks_code o (frame_rows (columns o) f)) UnknownCode _ p5.1 in
      let p6 = passed (ltb (length left) (words + length f)) NoRoom (Ok tt) p12.1 in
      record {
        unbroken = p2.0;
        unfailed = p3.0;
        running = not-false (is_running state) p4.0;
        frame = not-false (is_frame (columns o) f) p5.0;
        codes = p12.0;
        room = ltb-false (length left) (words + length f) p6.0;
      }

  module _ (start : ℕ) (t : Result Unit Refusal) (judged : t ≡ left_judged bad failed state o words left f) where
    pub left_refused : (n : Refusal) → t ≡ Err n → LeftFed bad failed state o start words left f (record { answer = t; start = start; words = words }) left
    left_refused n is = let e = sym judged ∙ is in record { answer = judged; start_is = rw e; words_are = rw e; area = rw e }

    pub left_accepted : t ≡ Ok tt → (to : ℕ) (area : Words) → to ≡ new_base start words (length f) (length left) → area ≡ written f (to + words) (moved start to words left)
        → LeftFed bad failed state o start words left f (record { answer = t; start = to; words = words + length f }) area
    left_accepted is to area at put = let e = sym judged ∙ is in record { answer = judged; start_is = rw e at; words_are = rw e; area = rw (e, ← at) put }

-- ---- a right frame
-- What a right frame meets once the end of right would be accepted: its words, its room, its rows' numbers.
abbrev pub right_rest : Options → ℕ → ℕ → Words → Words → Result Unit Refusal
right_rest o held pruned right f =
    cond (not (is_frame (right_columns o) f)) (Err BadFrame)
    (cond (lacks_code o (frame_rows (right_columns o) f)) (Err UnknownCode)
    (cond (ltb (capacity (right_columns o) right) (held + row_count f)) (Err NoRoom)
    (cond (ltb most_rows (pruned + held + row_count f)) (Err UsedUp)
    (Ok tt))))

module _ (bad failed ended : Bool) (state : NodeState) where
  pub record EndTaken : Type 0 where
    pub unbroken : bad ≡ false
    pub unfailed : failed ≡ false
    pub unended : (ended || is_done state) ≡ false

  pub end_taken : end_judged bad failed ended state ≡ Ok tt → EndTaken
  unfolding end_judged
  end_taken e =
      let p2 = passed bad BadJoin _ e in
      let p3 = passed failed Failed _ p2.1 in
      let p4 = passed (ended || is_done state) Closed (Ok tt) p3.1 in
      record { unbroken = p2.0; unfailed = p3.0; unended = p4.0 }

  module _ (o : Options) (held pruned : ℕ) (right f : Words) where
    -- A right frame is judged as the end of right is, and then by itself.
    pub right_shut : (n : Refusal) → end_judged bad failed ended state ≡ Err n → right_judged bad failed ended state o held pruned right f ≡ Err n
    unfolding end_judged right_judged
    right_shut n e = stops bad failed (ended || is_done state) (right_rest o held pruned right f) n e
      where
        stops : (a b d : Bool) (t : Result Unit Refusal) (n : Refusal) → ◌≡◌ {A = Result Unit Refusal} (cond a (Err BadJoin) (cond b (Err Failed) (cond d (Err Closed) (Ok tt)))) (Err n)
            → cond a (Err BadJoin) (cond b (Err Failed) (cond d (Err Closed) t)) ≡ Err n
        stops true b d t n e = e
        stops false true d t n e = e
        stops false false true t n e = e
        stops false false false t n e = let z : ◌≡◌ {A = ℕ} 0 1 = cc in absurd (omega arith)

    pub right_open : end_judged bad failed ended state ≡ Ok tt → right_judged bad failed ended state o held pruned right f ≡ right_rest o held pruned right f
    unfolding right_judged
    right_open e = let t = end_taken e in rw (t.unbroken, t.unfailed, t.unended)

    pub record RightTaken : Type 0 where
      pub unbroken : bad ≡ false
      pub unfailed : failed ≡ false
      pub unended : (ended || is_done state) ≡ false
      pub frame : is_frame (right_columns o) f ≡ true
      pub codes : lacks_code o (frame_rows (right_columns o) f) ≡ false
      pub room : held + row_count f ≤ capacity (right_columns o) right
      pub rows : pruned + held + row_count f ≤ most_rows

    pub right_taken : right_judged bad failed ended state o held pruned right f ≡ Ok tt → RightTaken
    unfolding right_judged
    right_taken e =
        let p2 = passed bad BadJoin _ e in
        let p3 = passed failed Failed _ p2.1 in
        let p4 = passed (ended || is_done state) Closed _ p3.1 in
        let p5 = passed (not (is_frame (right_columns o) f)) BadFrame _ p4.1 in
        let p12 = passed (lacks_code o (frame_rows (right_columns o) f)) UnknownCode _ p5.1 in
        let p6 = passed (ltb (capacity (right_columns o) right) (held + row_count f)) NoRoom _ p12.1 in
        let p7 = passed (ltb most_rows (pruned + held + row_count f)) UsedUp (Ok tt) p6.1 in
        record {
          unbroken = p2.0;
          unfailed = p3.0;
          unended = p4.0;
          frame = not-false (is_frame (right_columns o) f) p5.0;
          codes = p12.0;
          room = ltb-false (capacity (right_columns o) right) (held + row_count f) p6.0;
          rows = ltb-false most_rows (pruned + held + row_count f) p7.0;
        }

    module _ (base : ℕ) (t : Result Unit Refusal) (judged : t ≡ right_judged bad failed ended state o held pruned right f) where
      pub right_refused : (n : Refusal) → t ≡ Err n → RightFed bad failed ended state o base held pruned right f (record { answer = t; base = base; held = held }) right
      right_refused n is = let e = sym judged ∙ is in record { answer = judged; base_is = rw e; held_is = rw e; area = rw e }

      pub right_accepted : t ≡ Ok tt → (n to : ℕ) (area : Words) → n ≡ row_count f → to ≡ new_base base held (row_count f) (capacity (right_columns o) right) → area ≡ pushed (right_columns o) base held f right
          → RightFed bad failed ended state o base held pruned right f (record { answer = t; base = to; held = held + n }) area
      right_accepted is n to area count at put = let e = sym judged ∙ is in record { answer = judged; base_is = rw e at; held_is = rw (e, count); area = rw e put }
