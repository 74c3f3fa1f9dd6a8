-- Pairs cut one after the other: what is left of the question whether an area is too short for any of them. Assumes nothing.
use mathlib.Core.Path.{◌≡◌, refl, sym, ap, ◌∙◌}
use mathlib.Core.Bool.{Bool, true, false, ◌||◌}
use mathlib.Core.List.{List}
use Prim.Native.Nat.{ℕ, ◌+◌, ◌-◌, ◌*◌, ◌/◌, ◌≤◌, ◌<◌}
use native.Mathlib.Nat.{mul-le-mul_right}
use native.Mathlib.Omega.{arith}
use borrow.Author.Tests.{leb-true, leb-false, lt-ltb, le-ltb}
use lib.Dec.{leb, ltb}
use lib.ListN.{length, drop, length-drop}
use lib.Seq.{drop-drop}
use Rattle.frames.specs.Cells.{Cell, Rows, Words, rows_of, row_from}
use Rattle.frames.proofs.WordLaws.{rows_length, rows_drop}
use Rattle.order.specs.options.Options.{columns, right_columns}
use Rattle.order.specs.declared.options.Options.{Options}
use Rattle.order.specs.Requires.{TableIn}
use Rattle.order.proofs.RowLaws.{rest, rest_all, rest_more}
use Rattle.order.proofs.SortedLaws.{sorted_take, sorted_drop}
use Rattle.planning.specs.Plan.{plan}
use Rattle.planning.specs.Heights.{full_heights, full_frames}
use Rattle.planning.proofs.HeightLaws.{rows_take, rows_part}
use Rattle.cutting.specs.boundaries.Boundaries.{cut_at}
use Rattle.cutting.proofs.boundaries.PlaceLaws.{cut_within}
use Rattle.cutting.specs.cutpairs.Cut.{Pair, before, behind, cut_by}
use Rattle.cutting.specs.cutpairs.Driver.{words_for, too_short, any_short}
use Rattle.cutting.specs.cutroom.Requires.{pair_in, parts_in, PartsIn, CutsIn}

-- ---- a part of a sorted table
pub table_behind : (o : Options) (w n a : ℕ) (vs ms : Words) → a ≤ n → TableIn o w n vs ms → TableIn o w (n - a) (drop (a * w) vs) (drop (a * w) ms)
table_behind o w n a vs ms h t =
    let r = t.rows in
    let s : n * w ≡ a * w + (n - a) * w = let e : n ≡ a + (n - a) = omega arith in ap (λ (k : ℕ). k * w) e ∙ omega arith in
    record {
      rows = record { few = r.few; wide = r.wide; values = rw (length-drop (a * w) vs) (omega (arith, r.values, s)); marks = rw (length-drop (a * w) ms) (omega (arith, r.marks, s)) };
      in_order = rw (rows_drop w n a vs ms h) (sorted_drop o a (rows_of w n vs ms) t.in_order);
    }

pub table_front : (o : Options) (w n a : ℕ) (vs ms : Words) → a ≤ n → TableIn o w n vs ms → TableIn o w a vs ms
table_front o w n a vs ms h t =
    let r = t.rows in
    let s = mul-le-mul_right {m = a} {n = n} w h in
    record {
      rows = record { few = r.few; wide = r.wide; values = omega (arith, r.values, s); marks = omega (arith, r.marks, s) };
      in_order = rw (rows_take w n a vs ms h) (sorted_take o a (rows_of w n vs ms) t.in_order);
    }

-- A part of each of two tables is what one pair's question asks.
pub parts_in_lem : (o : Options) (c nl : ℕ) (lv lm : Words) (w nr : ℕ) (rv rm : Words) (k : ℕ) (gv gm : Words) → CutsIn o c nl lv lm w nr rv rm k gv gm
    → (a n b m : ℕ) → a + n ≤ nl → b + m ≤ nr → PartsIn o a c n lv lm b w m rv rm
parts_in_lem o c nl lv lm w nr rv rm k gv gm p a n b m ha hb =
    let ma = mul-le-mul_right {m = a} {n = nl} c (omega arith) in
    let mb = mul-le-mul_right {m = b} {n = nr} w (omega arith) in
    let mn = mul-le-mul_right {m = n} {n = nl} c (omega arith) in
    let x = p.left.rows in
    let y = p.right.rows in
    record {
      left = table_front o c (nl - a) n _ _ (omega arith) (table_behind o c nl a lv lm (omega arith) p.left);
      right = table_front o w (nr - b) m _ _ (omega arith) (table_behind o w nr b rv rm (omega arith) p.right);
      left_wide = p.left_wide;
      right_wide = p.right_wide;
      carried = p.carried;
      few_cells = omega (arith, mn, p.few_cells);
      left_from = (omega (arith, ma, x.values), omega (arith, ma, x.marks));
      right_from = (omega (arith, mb, y.values), omega (arith, mb, y.marks));
    }

-- ---- one pair
module _ (o : Options) (l r c n w m : ℕ) (lv lm rv rm : Words) (ec : c ≡ columns o) (ew : w ≡ right_columns o) where
  abbrev frames : ℕ
  frames = words_for c (full_heights n)

  length_left : length (rows_of c n lv lm) ≡ n
  length_left = rows_length c n lv lm

  pub no_frames : leb frames l ≡ false → true ≡ too_short o l r (pair_in c n lv lm w m rv rm)
  unfolding too_short
  no_frames e = rw (length_left, ← ec, lt-ltb l frames (leb-false frames l e))

  pub by_held : leb frames l ≡ true → (held : ℕ) → held ≡ (plan o (full_frames (rows_of c n lv lm)) (full_frames (rows_of w m rv rm))).rows → ltb (r / (2 * w)) held ≡ too_short o l r (pair_in c n lv lm w m rv rm)
  unfolding too_short
  by_held e held q =
      let most = (plan o (full_frames (rows_of c n lv lm)) (full_frames (rows_of w m rv rm))).rows in
      let fit : ltb l (words_for (columns o) (full_heights (length (rows_of c n lv lm)))) ≡ false =
      ap (λ (k : ℕ). ltb l (words_for k (full_heights (length (rows_of c n lv lm))))) (sym ec)
      ∙ ap (λ (k : ℕ). ltb l (words_for c (full_heights k))) length_left
      ∙ le-ltb l frames (leb-true frames l e) in
      ap (λ (k : ℕ). ltb (r / (2 * w)) k) q ∙ ap (λ (k : ℕ). ltb (r / (2 * k)) most) ew ∙ sym (ap (λ (t : Bool). t || ltb (r / (2 * right_columns o)) most) fit)

-- ---- pair after pair
module _ (o : Options) (c nl : ℕ) (lv lm : Words) (w nr : ℕ) (rv rm : Words) (k : ℕ) (gv gm : Words) (l r : ℕ) where
  abbrev left : Rows
  left = rows_of c nl lv lm

  abbrev right : Rows
  right = rows_of w nr rv rm

  -- What is left of the tables behind a and b rows, and of the boundaries behind i.
  abbrev rest_of : ℕ → ℕ → Pair
  rest_of a b = record { left = drop a left; right = drop b right }

  abbrev groups_from : ℕ → Rows
  groups_from i = rest o.by (i * o.by) (k - i) gv gm

  abbrev pub short : Bool
  short = any_short o l r (cut_by o (rows_of o.by k gv gm) (pair_in c nl lv lm w nr rv rm))

  -- Of i boundaries the pairs were looked at, and none is too short.
  pub record Stands (i a b : ℕ) : Type 0 where
    pub boundaries : i ≤ k
    pub left : a ≤ nl
    pub right : b ≤ nr
    pub whole : short ≡ any_short o l r (cut_by o (groups_from i) (rest_of a b))

  pub starts : Stands 0 0 0
  starts =
      let z : 0 * o.by ≡ 0 = omega arith in
      let y : k - 0 ≡ k = omega arith in
      record { boundaries = omega arith; left = omega arith; right = omega arith; whole = rw (z, y, ← rest_all o o.by gv gm k) }

  module _ (i a b : ℕ) (s : Stands i a b) where
    abbrev next : List Cell
    next = row_from o.by (i * o.by) gv gm

    -- Where the next boundary cuts.
    module _ (t : i < k) (n m : ℕ) (en : n ≡ cut_at o next (drop a left)) (em : m ≡ cut_at o next (drop b right)) where
      pub left_fits : a + n ≤ nl
      left_fits = omega (arith, en, cut_within o next (drop a left), length-drop a left, rows_length c nl lv lm, s.left)

      pub right_fits : b + m ≤ nr
      right_fits = omega (arith, em, cut_within o next (drop b right), length-drop b right, rows_length w nr rv rm, s.right)

      pair : before o next (rest_of a b) ≡ parts_in a c n lv lm b w m rv rm
      pair = rw (rows_part c nl a n lv lm left_fits, rows_part w nr b m rv rm right_fits, ← en, ← em) refl

      others : behind o next (rest_of a b) ≡ rest_of (a + n) (b + m)
      others = rw (← en, ← em, drop-drop n a left, drop-drop m b right) refl

      stepped : short ≡ (too_short o l r (parts_in a c n lv lm b w m rv rm) || any_short o l r (cut_by o (groups_from (i + 1)) (rest_of (a + n) (b + m))))
      unfolding cut_by any_short
      stepped =
          let p : i * o.by + o.by ≡ (i + 1) * o.by = omega arith in
          let q : k - i - 1 ≡ k - (i + 1) = omega arith in
          s.whole ∙ rw (rest_more o o.by gv gm (i * o.by) (k - i) (omega arith), p, q, pair, others) refl

      pub met : too_short o l r (parts_in a c n lv lm b w m rv rm) ≡ true → true ≡ short
      met e = sym (stepped ∙ rw e)

      pub steps : too_short o l r (parts_in a c n lv lm b w m rv rm) ≡ false → Stands (i + 1) (a + n) (b + m)
      steps e = record { boundaries = omega arith; left = left_fits; right = right_fits; whole = stepped ∙ rw e }

    -- Behind the last boundary.
    pub ends : k ≤ i → too_short o l r (parts_in a c (nl - a) lv lm b w (nr - b) rv rm) ≡ short
    unfolding cut_by any_short rest rows_of
    ends h =
        let q : k - i ≡ 0 = omega (arith, s.boundaries) in
        sym (s.whole ∙ rw (q, ← rows_drop c nl a lv lm s.left, ← rows_drop w nr b rv rm s.right) (or-false (too_short o l r (parts_in a c (nl - a) lv lm b w (nr - b) rv rm))))
      where
        or-false : (x : Bool) → (x || false) ≡ x
        or-false true = refl
        or-false false = refl
