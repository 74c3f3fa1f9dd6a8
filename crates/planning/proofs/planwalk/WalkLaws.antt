-- The walk, over plain values: how it starts, a turn that takes, a turn that writes, how it ends. Assumes nothing.
use mathlib.Core.Path.{◌≡◌, refl, sym, ap, ◌∙◌}
use mathlib.Core.Bool.{Bool, true, false, cond, ◌&&◌}
use mathlib.Core.List.{List, [], ◌∷◌, ◌++◌}
use Prim.Native.Nat.{ℕ, zero, suc, ◌+◌, ◌-◌, ◌*◌, ◌^◌, ◌≤◌, ◌<◌, max}
use native.Mathlib.Nat.{mul-le-mul_right}
use native.Mathlib.Omega.{arith}
use borrow.Author.Tests.{ltb-true, ltb-false}
use lib.Dec.{ltb}
use lib.IntN.{pos, nat_abs}
use lib.ListN.{length, take, drop, get_or, length-take, length-drop, drop_of_length-le}
use lib.Seq.{drop-drop, take-add}
use Rattle.frames.specs.Cells.{Rows, Words, rows_of}
use Rattle.frames.proofs.BoolLaws.{and-true}
use Rattle.frames.proofs.WordLaws.{rows_length}
use Rattle.buffer.proofs.area.AreaLaws.{rows_words}
use Rattle.order.specs.declared.options.Options.{Options}
use Rattle.order.specs.Order.{sorted}
use Rattle.order.specs.Requires.{RowsIn}
use Rattle.order.proofs.SortedLaws.{sorted_take, sorted_drop}
use Rattle.searching.specs.Reach.{need_more, prune_by}
use Rattle.matchframe.proofs.turnrows.PruneLaws.{prune_within}
use Rattle.planning.specs.Heights.{total, heights_of, in_frames}
use Rattle.planning.specs.Plan.{rest, after_turn, after_taking, kept_after, plan_from, plan}
use Rattle.planning.specs.declared.Figures.{Figures}
use Rattle.planning.proofs.PlanLaws.{plan_takes, plan_turns, plan_last, plan_least, plan_none}
use Rattle.planning.proofs.HeightLaws.{rows_part, heights_at, frames_length}
use Rattle.planning.proofs.OnePrune.{one_prune}
use Rattle.planning.specs.declared.planwalk.Walk.{Walk}
use Rattle.planning.specs.planwalk.Walk.{WalkIn, TablesIn, TurnIn, taken_by, written_by, turned_by, frame_from, held_from, joined, figures_at, held_at, left_at, right_at, turns_at, ahead, Stands}

-- ---- lists
drop_take : {A : Type 0} (d k : ℕ) (xs : List A) → drop d (take k xs) ≡ take (k - d) (drop d xs)
drop_take zero k xs = let e : k - 0 ≡ k = omega arith in rw e
drop_take (suc d) zero xs = let e : 0 - suc d ≡ 0 = omega arith in rw e refl
drop_take (suc d) (suc k) [] = let e : suc k - suc d ≡ k - d = omega arith in rw e (nil (k - d))
  where
    nil : {B : Type 0} (n : ℕ) → ◌≡◌ {A = List B} [] (take n [])
    nil zero = refl
    nil (suc n) = refl
drop_take (suc d) (suc k) (x ∷ xs) = let e : suc k - suc d ≡ k - d = omega arith in rw e (drop_take d k xs)

-- Figures are the same if each is.
figures_same : (a b c a' b' c' : ℕ) → a ≡ a' → b ≡ b' → c ≡ c' → ◌≡◌ {A = Figures} (record { rows = a; turns = b; rights = c }) (record { rows = a'; turns = b'; rights = c' })
figures_same a b c a' b' c' e f g = rw (e, f, g) refl

-- ---- the heights from one on
module _ (hs : List ℕ) (i n : ℕ) (later : List ℕ) (next : drop i hs ≡ n ∷ later) where
  frames_at : (rs : Rows) → in_frames (drop i hs) rs ≡ take n rs ∷ in_frames later (drop n rs)
  unfolding in_frames
  frames_at rs = rw next refl

  total_at : total (drop i hs) ≡ n + total later
  unfolding total
  total_at = rw next refl

  next_in : i < length hs
  next_in = let e : suc (length later) ≡ length hs - i = rw next at (length-drop i hs) in omega (arith, e)

  behind : drop (i + 1) hs ≡ later
  behind = sym (drop-drop 1 i hs) ∙ rw next refl

frames_end : (hs : List ℕ) (rs : Rows) → hs ≡ [] → in_frames hs rs ≡ []
unfolding in_frames
frames_end hs rs e = rw e refl

-- Heights that are words: from one on, and the next, which is there or not.
pub heights_drop : (zs : Words) (i : ℕ) → drop i (heights_of zs) ≡ heights_of (drop i zs)
unfolding heights_of
heights_drop zs zero = refl
heights_drop [] (suc i) = refl
heights_drop (z ∷ zs) (suc i) = heights_drop zs i

pub heights_here : (zs : Words) (i n : ℕ) → i < length zs → n ≡ nat_abs (get_or zs i (pos 0)) → drop i (heights_of zs) ≡ n ∷ heights_of (drop (suc i) zs)
heights_here zs i n h e = rw e (heights_drop zs i ∙ heights_at zs i h)

pub heights_next : (zs : Words) (i n : ℕ) → n ≡ nat_abs (get_or zs i (pos 0)) → drop i (heights_of zs) ≡ cond (ltb i (length zs)) (n ∷ heights_of (drop (suc i) zs)) []
unfolding heights_of
heights_next zs i n is = by (ltb i (length zs)) refl
  where
    by : (t : Bool) → ltb i (length zs) ≡ t → drop i (heights_of zs) ≡ cond t (n ∷ heights_of (drop (suc i) zs)) []
    by true e = heights_here zs i n (ltb-true i (length zs) e) is
    by false e = heights_drop zs i ∙ rw (drop_of_length-le zs (ltb-false i (length zs) e)) refl

pub height_none : (zs : Words) (i : ℕ) → length zs ≤ i → 0 ≡ nat_abs (get_or zs i (pos 0))
height_none [] i h = refl
height_none (z ∷ zs) zero h = absurd (omega arith)
height_none (z ∷ zs) (suc i) h = height_none zs i (omega arith)

-- ---- the start
abbrev pub first : Walk
first = record { lefts = 0; passed = 0; rights = 0; from = 0; to = 0; most = 0 }

module _ (o : Options) (hl hr : List ℕ) (L R : Rows) where
  pub starts : length L ≡ total hl → length R ≡ total hr → Stands o hl hr L R first
  unfolding plan
  starts a b =
      let n : turns_at o hl hr L R first ≡ length (in_frames hl L) + length (in_frames hr R) = omega (arith, frames_length hl L, frames_length hr R) in
      let p : Figures = plan o (in_frames hl L) (in_frames hr R) in
      record {
        lefts = omega arith;
        rights = omega arith;
        left_rows = omega (arith, a);
        right_rows = omega (arith, b);
        held = omega arith;
        most = omega arith;
        whole = rw n (figures_same (max 0 p.rows) (0 + 0 + p.turns) (0 + p.rights) p.rows p.turns p.rights (omega arith) (omega arith) (omega arith));
      }

  module _ (s : Walk) (h : Stands o hl hr L R s) where
    -- ---- the rows held
    held_count : length (held_at o hl hr L R s) ≡ s.to - s.from
    held_count = length-take (s.to - s.from) (drop s.from R) ∙ omega (arith, length-drop s.from R, h.right_rows, h.held)

    at_to : drop (s.to - s.from) (drop s.from R) ≡ drop s.to R
    at_to = let e : s.from + (s.to - s.from) ≡ s.to = omega (arith, h.held) in drop-drop (s.to - s.from) s.from R ∙ rw e refl

    -- ---- the end
    pub ends : drop s.lefts hl ≡ [] → figures_at s ≡ plan o (in_frames hl L) (in_frames hr R)
    ends e =
        let a : ahead o hl hr L R s ≡ rest (held_at o hl hr L R s) = rw (frames_end (drop s.lefts hl) (drop s.passed L) e) (plan_none (turns_at o hl hr L R s) o (held_at o hl hr L R s) (right_at o hl hr L R s)) in
        figures_same s.most (s.lefts + s.rights) s.rights (max s.most (length (held_at o hl hr L R s))) (s.lefts + s.rights + 0) (s.rights + 0) (omega (arith, held_count, h.most)) (omega arith) (omega arith)
        ∙ ap (joined s) (sym a) ∙ h.whole

    module _ (n : ℕ) (later : List ℕ) (next : drop s.lefts hl ≡ n ∷ later) where
      -- ---- the frame of this turn
      more : s.lefts < length hl
      more = next_in hl s.lefts n later next

      left_in : s.passed + n ≤ length L
      left_in = omega (arith, h.left_rows, total_at hl s.lefts n later next)

      abbrev frame : Rows
      frame = take n (drop s.passed L)

      abbrev others : List Rows
      others = in_frames later (drop n (drop s.passed L))

      left_is : left_at o hl hr L R s ≡ frame ∷ others
      left_is = frames_at hl s.lefts n later next (drop s.passed L)

      -- ---- a turn that takes
      module _ (k : ℕ) (after : List ℕ) (at : drop s.rights hr ≡ k ∷ after) where
        right_in_lem : s.to + k ≤ length R
        right_in_lem = omega (arith, h.right_rows, total_at hr s.rights k after at)

        more_held : held_at o hl hr L R s ++ take k (drop s.to R) ≡ held_at o hl hr L R (taken_by s k)
        more_held =
            let e : s.to - s.from + k ≡ s.to + k - s.from = omega (arith, h.held) in
            rw (← at_to, ← e) (sym (take-add (s.to - s.from) k (drop s.from R)))

        right_is : right_at o hl hr L R s ≡ take k (drop s.to R) ∷ right_at o hl hr L R (taken_by s k)
        right_is = rw (behind hr s.rights k after at, ← drop-drop k s.to R) (frames_at hr s.rights k after at (drop s.to R))

        takes : need_more o frame (held_at o hl hr L R s) ≡ true → Stands o hl hr L R (taken_by s k)
        takes q =
            let t = taken_by s k in
            let p : Figures = ahead o hl hr L R t in
            let some = next_in hr s.rights k after at in
            let u : turns_at o hl hr L R s ≡ suc (turns_at o hl hr L R t) = omega (arith, some) in
            let a : ahead o hl hr L R s ≡ after_taking (held_at o hl hr L R s) p
            = rw (u, right_is, left_is, ← more_held) (plan_takes (turns_at o hl hr L R t) o (held_at o hl hr L R s) (take k (drop s.to R)) (right_at o hl hr L R t) frame others q) in
            let l₁ = held_count in
            let l₂ : length (held_at o hl hr L R t) ≡ s.to + k - s.from = length-take (s.to + k - s.from) (drop s.from R) ∙ omega (arith, length-drop s.from R, right_in_lem, h.held) in
            let l₃ = plan_least (turns_at o hl hr L R t) o (held_at o hl hr L R t) (right_at o hl hr L R t) (left_at o hl hr L R t) in
            record {
              lefts = h.lefts;
              rights = omega (arith, some);
              left_rows = h.left_rows;
              right_rows = rw (behind hr s.rights k after at) (omega (arith, h.right_rows, total_at hr s.rights k after at));
              held = omega (arith, h.held);
              most = omega arith;
              whole = figures_same (max t.most p.rows) (t.lefts + t.rights + p.turns) (t.rights + p.rights) (max s.most (max (length (held_at o hl hr L R s)) p.rows)) (s.lefts + s.rights + suc p.turns) (s.rights + suc p.rights)
                  (omega (arith, l₁, l₂, l₃, h.most)) (omega arith) (omega arith) ∙ ap (joined s) (sym a) ∙ h.whole;
            }

      -- ---- a turn that writes
      module _ (left_sorted : sorted o L ≡ true) (right_sorted : sorted o R ≡ true) where
        abbrev dropped : ℕ
        dropped = prune_by o (n - 1) frame (held_at o hl hr L R s)

        frame_count : length frame ≡ n
        frame_count = length-take n (drop s.passed L) ∙ omega (arith, length-drop s.passed L, left_in)

        drop_in : s.from + dropped ≤ s.to
        drop_in = omega (arith, prune_within o (n - 1) frame (held_at o hl hr L R s), held_count, h.held)

        kept_is : kept_after o frame (held_at o hl hr L R s) ≡ held_at o hl hr L R (written_by s n dropped)
        kept_is =
            let i = one_prune o frame (held_at o hl hr L R s) (sorted_take o n (drop s.passed L) (sorted_drop o s.passed L left_sorted)) (sorted_take o (s.to - s.from) (drop s.from R) (sorted_drop o s.from R right_sorted)) in
            let j = rw frame_count at i in
            let e : s.to - s.from - dropped ≡ s.to - (s.from + dropped) = omega arith in
            rw (j, drop_take dropped (s.to - s.from) (drop s.from R), drop-drop dropped s.from R, e) refl

        left_on_lem : others ≡ left_at o hl hr L R (written_by s n dropped)
        left_on_lem = rw (behind hl s.lefts n later next, drop-drop n s.passed L) refl

        writes_as : (fs : List Rows) → right_at o hl hr L R s ≡ fs
            → plan_from (suc (turns_at o hl hr L R (written_by s n dropped))) o (held_at o hl hr L R s) fs (frame ∷ others) ≡ after_turn (held_at o hl hr L R s) (plan_from (turns_at o hl hr L R (written_by s n dropped)) o (kept_after o frame (held_at o hl hr L R s)) fs others)
            → Stands o hl hr L R (written_by s n dropped)
        writes_as fs same turn =
            let t = written_by s n dropped in
            let p : Figures = ahead o hl hr L R t in
            let u : turns_at o hl hr L R s ≡ suc (turns_at o hl hr L R t) = omega (arith, more) in
            let a : ahead o hl hr L R s ≡ after_turn (held_at o hl hr L R s) p = rw (u, left_is, same, ← left_on_lem) (rw (kept_is) at turn) in
            record {
              lefts = omega (arith, more);
              rights = h.rights;
              left_rows = rw (behind hl s.lefts n later next) (omega (arith, h.left_rows, total_at hl s.lefts n later next));
              right_rows = h.right_rows;
              held = drop_in;
              most = omega (arith, h.most);
              whole = figures_same (max t.most p.rows) (t.lefts + t.rights + p.turns) (t.rights + p.rights) (max s.most (max (length (held_at o hl hr L R s)) p.rows)) (s.lefts + s.rights + suc p.turns) (s.rights + p.rights)
                  (omega (arith, held_count, h.most)) (omega arith) (omega arith) ∙ ap (joined s) (sym a) ∙ h.whole;
            }

        -- ---- a turn
        -- No right frame is left; or one is left, and wanted or not.
        turns : (some : Bool) (k : ℕ) (after : List ℕ) → drop s.rights hr ≡ cond some (k ∷ after) [] → Stands o hl hr L R (turned_by o s n some k frame (held_at o hl hr L R s))
        unfolding turned_by
        turns false k after e = writes_as [] (frames_end (drop s.rights hr) (drop s.to R) e) (plan_last (turns_at o hl hr L R (written_by s n dropped)) o (held_at o hl hr L R s) frame others)
        turns true k after e = by (need_more o frame (held_at o hl hr L R s)) refl
          where
            by : (t : Bool) → need_more o frame (held_at o hl hr L R s) ≡ t → Stands o hl hr L R (cond t (taken_by s k) (written_by s n dropped))
            by true q = takes k after e q
            by false q =
                writes_as (take k (drop s.to R) ∷ in_frames after (drop k (drop s.to R))) (frames_at hr s.rights k after e (drop s.to R))
                (plan_turns (turns_at o hl hr L R (written_by s n dropped)) o (held_at o hl hr L R s) (take k (drop s.to R)) (in_frames after (drop k (drop s.to R))) frame others q)

-- Each turn counts as one.
pub turn_counts : (o : Options) (s : Walk) (n : ℕ) (some : Bool) (k : ℕ) (x held : Rows) → (turned_by o s n some k x held).lefts + (turned_by o s n some k x held).rights ≡ suc (s.lefts + s.rights)
unfolding turned_by
turn_counts o s n some k x held = by (some && need_more o x held)
  where
    by : (t : Bool) → (cond t (taken_by s k) (written_by s n (prune_by o (n - 1) x held))).lefts + (cond t (taken_by s k) (written_by s n (prune_by o (n - 1) x held))).rights ≡ suc (s.lefts + s.rights)
    by true = omega arith
    by false = omega arith

-- ---- the words
-- A part of the rows that are there.
words_in : (a m w : ℕ) (xs : Words) → a ≤ m → m * w ≤ length xs → a * w ≤ length xs
words_in a m w xs h k = omega (arith, mul-le-mul_right {m = a} {n = m} w h)

part_in_lem : {o : Options} {w m : ℕ} {vs ms : Words} → RowsIn o w m vs ms → (a n : ℕ) → a + n ≤ m → (us ns : Words) → us ≡ drop (a * w) vs → ns ≡ drop (a * w) ms → RowsIn o w n us ns
part_in_lem {o} {w} {m} {vs} {ms} r a n h us ns ev em =
    let k : a * w + n * w ≤ m * w = omega (arith, mul-le-mul_right {m = a + n} {n = m} w h) in
    record {
      few = r.few;
      wide = r.wide;
      values = rw (ev, length-drop (a * w) vs) (omega (arith, k, r.values));
      marks = rw (em, length-drop (a * w) ms) (omega (arith, k, r.marks));
    }

first_in : {o : Options} {w m : ℕ} {vs ms : Words} → RowsIn o w m vs ms → (n : ℕ) → n ≤ m → RowsIn o w n vs ms
first_in {o} {w} {m} {vs} {ms} r n h = record { few = r.few; wide = r.wide; values = words_in n m w vs h r.values; marks = words_in n m w ms h r.marks }

-- As many rows as words at most.
pub few_rows_lem : {o : Options} {w m : ℕ} {vs ms : Words} → RowsIn o w m vs ms → m ≤ length vs
few_rows_lem {o} {w} {m} r = omega (arith, rows_words m w (omega (arith, r.wide)), r.values)

-- ---- what a turn reads
module _ {o : Options} {c : ℕ} {lv lm : Words} {w : ℕ} {rv rm : Words} {s : Walk} {n : ℕ} {some : Bool} {k : ℕ} (i : TurnIn o c lv lm w rv rm s n some k) where
  pub passed_words : (s.passed * c ≤ length lv) × (s.passed * c ≤ length lm)
  passed_words = (words_in s.passed (s.passed + n) c lv (omega arith) i.left.values, words_in s.passed (s.passed + n) c lm (omega arith) i.left.marks)

  pub from_words : (s.from * w ≤ length rv) × (s.from * w ≤ length rm)
  from_words = (words_in s.from s.to w rv i.held i.right.values, words_in s.from s.to w rm i.held i.right.marks)

  module _ (fv fm kv km : Words) (ev : fv ≡ drop (s.passed * c) lv) (em : fm ≡ drop (s.passed * c) lm) (ek : kv ≡ drop (s.from * w) rv) (el : km ≡ drop (s.from * w) rm) where
    pub read_in_lem : RowsIn o c n fv fm × RowsIn o w (s.to - s.from) kv km
    read_in_lem = (part_in_lem i.left s.passed n (omega arith) fv fm ev em, part_in_lem i.right s.from (s.to - s.from) (omega (arith, i.held)) kv km ek el)

    module _ (t : Bool) (wanted : t ≡ (some && need_more o (rows_of c n fv fm) (rows_of w (s.to - s.from) kv km))) where
      -- A turn that takes.
      pub take_fits : t ≡ true → (s.rights + 1 < 2 ^ 64) × (s.to + k < 2 ^ 64) × (s.from ≤ s.to)
      take_fits q = (i.rights, i.fits (and-true some (need_more o (rows_of c n fv fm) (rows_of w (s.to - s.from) kv km)) (sym wanted ∙ q)).0, i.held)

      pub turn_takes : t ≡ true → (r : Walk) → r ≡ taken_by s k → r ≡ turned_by o s n some k (frame_from c lv lm s n) (held_from w rv rm s)
      unfolding turned_by
      turn_takes q r e = rw (← ev, ← em, ← ek, ← el, ← wanted, q) e

      -- A turn that writes.
      module _ (d : ℕ) (is : d ≡ prune_by o (n - 1) (rows_of c n fv fm) (rows_of w (s.to - s.from) kv km)) where
        pub write_fits : length lv < 2 ^ 64 → length rv < 2 ^ 64 → (s.lefts + 1 < 2 ^ 64) × (s.passed + n < 2 ^ 64) × (s.from + d < 2 ^ 64)
        write_fits a b =
            let e = prune_within o (n - 1) (rows_of c n fv fm) (rows_of w (s.to - s.from) kv km) in
            (i.lefts, omega (arith, few_rows_lem i.left, a), omega (arith, is, e, rows_length w (s.to - s.from) kv km, i.held, few_rows_lem i.right, b))

        pub turn_writes : t ≡ false → (r : Walk) → r ≡ written_by s n d → r ≡ turned_by o s n some k (frame_from c lv lm s n) (held_from w rv rm s)
        unfolding turned_by
        turn_writes q r e = rw (← ev, ← em, ← ek, ← el, ← wanted, q, ← is) e

-- ---- a turn over tables
module _ {o : Options} {c m : ℕ} {lv lm : Words} {w j : ℕ} {rv rm : Words} (i : TablesIn o c m lv lm w j rv rm) {hl hr : List ℕ} {s : Walk} (h : Stands o hl hr (rows_of c m lv lm) (rows_of w j rv rm) s)
    {n : ℕ} {later : List ℕ} (next : drop s.lefts hl ≡ n ∷ later) (some : Bool) (k : ℕ) (after : List ℕ) (at : drop s.rights hr ≡ cond some (k ∷ after) []) where
  frame_fit : s.passed + n ≤ m
  frame_fit = omega (arith, left_in o hl hr (rows_of c m lv lm) (rows_of w j rv rm) s h n later next, rows_length c m lv lm)

  to_in : s.to ≤ j
  to_in = omega (arith, h.right_rows, rows_length w j rv rm)

  taken_fit : some ≡ true → s.to + k ≤ j
  taken_fit e = omega (arith, right_in_lem o hl hr (rows_of c m lv lm) (rows_of w j rv rm) s h n later next k after (rw e at at), rows_length w j rv rm)

  pub turn_in_lem : length hl + 1 < 2 ^ 64 → length hr + 1 < 2 ^ 64 → length rv < 2 ^ 64 → TurnIn o c lv lm w rv rm s n some k
  turn_in_lem a b d = record {
    left = first_in i.left (s.passed + n) frame_fit;
    right = first_in i.right s.to to_in;
    held = h.held;
    lefts = omega (arith, h.lefts, a);
    rights = omega (arith, h.rights, b);
    fits = λ e. omega (arith, taken_fit e, few_rows_lem i.right, d);
  }

  -- After the turn the walk stands, and one turn more is counted.
  pub turn_stands : (r : Walk) → r ≡ turned_by o s n some k (frame_from c lv lm s n) (held_from w rv rm s) → Stands o hl hr (rows_of c m lv lm) (rows_of w j rv rm) r × (r.lefts + r.rights ≡ suc (s.lefts + s.rights))
  turn_stands r e =
      let x = rows_part c m s.passed n lv lm frame_fit in
      let y = rows_part w j s.from (s.to - s.from) rv rm (omega (arith, to_in, h.held)) in
      rw e (rw (x, y) (turns o hl hr (rows_of c m lv lm) (rows_of w j rv rm) s h n later next i.left_sorted i.right_sorted some k after at), turn_counts o s n some k (frame_from c lv lm s n) (held_from w rv rm s))

-- Tables whose heights are words.
pub tables_in_lem : {o : Options} {c : ℕ} {hl lv lm : Words} {w : ℕ} {hr rv rm : Words} → WalkIn o c hl lv lm w hr rv rm → TablesIn o c (total (heights_of hl)) lv lm w (total (heights_of hr)) rv rm
tables_in_lem i = record { left = i.left; right = i.right; left_sorted = i.left_sorted; right_sorted = i.right_sorted }
