-- The choice where every row has a key and the keys do not fall: from where the right cursor stands, by strategy; and what a move of the cursor keeps. Assumes nothing.
use Rattle.std.specs.Prelude.{Option, None}
use mathlib.Core.Path.{◌≡◌, refl, sym, ◌∙◌}
use mathlib.Core.Bool.{Bool, true, false, not, ◌&&◌}
use mathlib.Core.List.{List}
use Prim.Native.Nat.{ℕ, ◌+◌, ◌-◌, ◌*◌, ◌≤◌, ◌<◌}
use native.Mathlib.Omega.{arith}
use native.Mathlib.Decide.{dec_lt}
use lib.Dec.{ltb}
use lib.IntN.{ℤ, pos, nat_abs, ◌-ℤ◌}
use lib.ListN.{length}
use lib.Signed.{le_z}
use Rattle.frames.specs.Cells.{Cell, value, Words, row_from}
use Rattle.order.specs.options.Options.{strategy_of, key_rule}
use Rattle.order.specs.Order.{cmp_cell, key_of}
use Rattle.order.specs.declared.options.Options.{Options}
use Rattle.std.specs.declared.cmp.Ordering.{Ordering}
use Rattle.std.specs.declared.cmp.Ordering.TheVariants.{Less, Equal, Greater}
use Rattle.order.specs.declared.options.Strategy.{Strategy}
use Rattle.order.specs.declared.options.Strategy.TheVariants.{Backward, Forward, Nearest}
use Rattle.matching.specs.Match.{nobody, on_side, nearer, fits, choose, tolerate, match_in}
use Rattle.matching.specs.Moves.{key_at, NotAbove, Rising, fits_key, Behind, Stopped, CursorAt, passes_row, goes_on, walk_on}
use Rattle.matching.specs.Stretches.{between, hit_at}
use Rattle.matching.proofs.ChoiceLaws.{choose_dead}
use Rattle.matching.proofs.MayLaws.{never, is_false}
use Rattle.matching.proofs.BestLaws.{key_at_lem, none_far, row_near}
use Rattle.matching.proofs.WalkLaws.{between_none, between_more}
use Rattle.matching.proofs.CursorLaws.{back_up, back_down, near_stop}
use Rattle.matching.proofs.MoveLaws.{row_walked}
use Rattle.matching.proofs.RestLaws.{all_between, rest_hit}
use Rattle.matchrun.specs.advance.Below.{value_at, keyed, below}
use Rattle.matchrun.specs.choices.Choices.{unless_far}
use Rattle.matchrun.specs.walk.Keyed.{Marked}

-- Forward's side is where Backward's is not, with equality the other way.
pub fore_not : (eq : Bool) (z : Ordering) → on_side Forward eq z ≡ not (on_side Backward (not eq) z)
fore_not true Less = refl
fore_not true Equal = refl
fore_not true Greater = refl
fore_not false Less = refl
fore_not false Equal = refl
fore_not false Greater = refl

-- ---- a left row x with the key v, over right rows at..end
module _ (o : Options) (w at end : ℕ) (vs ms : Words) (marked : Marked o w at end vs ms) (up : Rising (keyed w o.by vs) at end) (first : ℕ) (x : List Cell) (v : ℤ) (ex : key_of o x ≡ value v) where
  abbrev key : ℕ → Cell
  key k = keyed w o.by vs k

  abbrev val : ℕ → ℤ
  val k = value_at w o.by vs k

  -- No row fits: there is no choice.
  none_fits : (s : Strategy) → strategy_of o ≡ s → ((k : ℕ) → at ≤ k → k < end → fits_key s o.allow_eq (value v) (key k) ≡ false)
      → match_in o (first + at) (between w at end vs ms) x ≡ None
  unfolding match_in tolerate fits
  none_fits s told none = rw (choose_dead o x (fits o x) nobody (first + at) (between w at end vs ms) (all_between w vs ms (λ r. fits o x r ≡ false) at end dead))
    where
      dead : (k : ℕ) → at ≤ k → k < end → fits o x (row_from w (k * w) vs ms) ≡ false
      dead k l h = rw (ex, key_at_lem o w end vs ms marked.rows k h, marked.keys k l h, told) (none k l h)

  -- The cursor rests at row c, which fits: it is the choice, unless it is too far.
  rests_at_lem : (s : Strategy) → strategy_of o ≡ s → (c : ℕ) → at ≤ c → c < end → Behind s o.allow_eq (keyed w o.by vs) at (value v) c
      → Stopped s o.allow_eq (keyed w o.by vs) end (value v) c → fits_key s o.allow_eq (value v) (key c) ≡ true
      → unless_far o.tolerance v (val c) (first + c) ≡ match_in o (first + at) (between w at end vs ms) x
  rests_at_lem s told c l h b st f = by (le_z (pos 0) o.tolerance && ltb (nat_abs o.tolerance) (nat_abs (val c -ℤ v))) refl
    where
      e : key_at o w vs ms c ≡ key c
      e = marked.keys c l h

      cursor : CursorAt o s w at end vs ms v c
      cursor = record {
        rows = marked.rows;
        rising = λ i k g m t. rw (marked.keys i g (omega (arith, m, t)), marked.keys k (omega (arith, g, m)) t) (up i k g m t);
        told = sym told;
        upward = l;
        there = h;
        behind = λ k g m. rw (marked.keys k g (omega (arith, m, h)), e) (b k g m);
      }

      stopped : Stopped s o.allow_eq (key_at o w vs ms) end (value v) c
      stopped m = rw (e, marked.keys (c + 1) (omega (arith, l)) m) (st m)

      found : hit_at first w end vs ms c ≡ choose o x (fits o x) nobody (first + at) (between w at end vs ms)
      found = rest_hit o s w at end vs ms v c cursor stopped first x ex (rw e f)

      right : key_of o (row_from w (c * w) vs ms) ≡ value (val c)
      right = key_at_lem o w end vs ms marked.rows c h ∙ e

      by : (t : Bool) → (le_z (pos 0) o.tolerance && ltb (nat_abs o.tolerance) (nat_abs (val c -ℤ v))) ≡ t
          → unless_far o.tolerance v (val c) (first + c) ≡ match_in o (first + at) (between w at end vs ms) x
      by true t = rw t (sym (none_far o x first w end vs ms (between w at end vs ms) (first + at) c found h v (val c) ex right true (sym t) refl))
      by false t = rw t (sym (row_near o x first w end vs ms (between w at end vs ms) (first + at) c found h v (val c) ex right false (sym t) refl))

  -- ---- rows at..c are below v, and row c is not
  module _ (inclusive : Bool) (c : ℕ) (l : at ≤ c) (before : (k : ℕ) → at ≤ k → k < c → below inclusive v (val k) ≡ true) (stop : c < end → below inclusive v (val c) ≡ false) where
    -- Nor is any row behind it.
    not_below : (k : ℕ) → c ≤ k → k < end → below inclusive v (val k) ≡ false
    not_below k g h =
        is_false (below inclusive v (val k)) (λ t. never (below inclusive v (val c)) (back_down inclusive (key c) (key k) (value v) (up c k l g h) t) (stop (omega (arith, g, h))))

    back_none : strategy_of o ≡ Backward → o.allow_eq ≡ inclusive → c ≡ at → match_in o (first + at) (between w at end vs ms) x ≡ None
    back_none told q e = none_fits Backward told (λ k g h. rw q (not_below k (omega (arith, e, g)) h))

    back_last : strategy_of o ≡ Backward → o.allow_eq ≡ inclusive → c ≤ end → at < c → unless_far o.tolerance v (val (c - 1)) (first + (c - 1)) ≡ match_in o (first + at) (between w at end vs ms) x
    back_last told q m h =
        let e : c - 1 + 1 ≡ c = omega arith in
        let f : below inclusive v (val (c - 1)) ≡ true = before (c - 1) (omega arith) (omega arith) in
        rests_at_lem Backward told (c - 1) (omega arith) (omega arith) (λ k g t. rw q f) (λ t. rw (q, e) (stop (omega (arith, t)))) (rw q f)

    -- The last row that is below v, or none.
    pub back_choice : strategy_of o ≡ Backward → o.allow_eq ≡ inclusive → c ≤ end → (r : Option ℕ) → (c ≡ at → r ≡ None)
        → (at < c → r ≡ unless_far o.tolerance v (val (c - 1)) (first + (c - 1))) → r ≡ match_in o (first + at) (between w at end vs ms) x
    back_choice told q m r none some = by (dec_lt at c)
      where
        by : Dec (at < c) → r ≡ match_in o (first + at) (between w at end vs ms) x
        by (yes h) = some h ∙ back_last told q m h
        by (no h) = let e : c ≡ at = omega (arith, h, l) in none e ∙ sym (back_none told q e)

    fore_none : strategy_of o ≡ Forward → not o.allow_eq ≡ inclusive → c ≡ end → match_in o (first + at) (between w at end vs ms) x ≡ None
    fore_none told q e = none_fits Forward told (λ k g h. rw (fore_not o.allow_eq (cmp_cell key_rule (key k) (value v)), q, before k g (omega (arith, e, h))))

    fore_first : strategy_of o ≡ Forward → not o.allow_eq ≡ inclusive → c < end → unless_far o.tolerance v (val c) (first + c) ≡ match_in o (first + at) (between w at end vs ms) x
    fore_first told q h =
        rests_at_lem Forward told c l h (λ k g t. rw (fore_not o.allow_eq (cmp_cell key_rule (key k) (value v)), q, before k g t))
        (λ t. rw (fore_not o.allow_eq (cmp_cell key_rule (key c) (value v)), q, stop h)) (rw (fore_not o.allow_eq (cmp_cell key_rule (key c) (value v)), q, stop h))

    -- The first row that is not below v, or none.
    pub fore_choice : strategy_of o ≡ Forward → not o.allow_eq ≡ inclusive → c ≤ end → (r : Option ℕ) → (c ≡ end → r ≡ None)
        → (c < end → r ≡ unless_far o.tolerance v (val c) (first + c)) → r ≡ match_in o (first + at) (between w at end vs ms) x
    fore_choice told q m r none some = by (dec_lt c end)
      where
        by : Dec (c < end) → r ≡ match_in o (first + at) (between w at end vs ms) x
        by (yes h) = some h ∙ fore_first told q h
        by (no h) = let e : c ≡ end = omega (arith, h, m) in none e ∙ sym (fore_none told q e)

  pub near_rests : strategy_of o ≡ Nearest → (c : ℕ) → at ≤ c → c < end → Behind Nearest true (keyed w o.by vs) at (value v) c → Stopped Nearest true (keyed w o.by vs) end (value v) c
      → unless_far o.tolerance v (val c) (first + c) ≡ match_in o (first + at) (between w at end vs ms) x
  near_rests told c l h b st = rests_at_lem Nearest told c l h b st refl

-- ---- the moves for left row i, by which the right cursor comes from row c to row d
module _ (o : Options) (wl from to : ℕ) (lv lm : Words) (ml : Marked o wl from to lv lm) (w at end : ℕ) (vs ms : Words) (mr : Marked o w at end vs ms) where
  -- Whether it passes row k.
  abbrev passes : ℕ → ℕ → Bool
  passes i k = passes_row o (strategy_of o) (keyed wl o.by lv i) (keyed w o.by vs k) (between w (k + 1) end vs ms)

  pub row_counted : (i : ℕ) → from ≤ i → i < to → (c d : ℕ) → at ≤ c → c ≤ d → d ≤ end → ((k : ℕ) → c ≤ k → k < d → passes i k ≡ true) → (d < end → passes i d ≡ false)
      → length (walk_on o (between wl i to lv lm) (between w c end vs ms)) ≡ (d - c) + 1 + length (walk_on o (between wl (i + 1) to lv lm) (between w d end vs ms))
  row_counted i l h c d g t m on stop =
      rw (between_more wl lv lm i to h)
      (row_walked o w end vs ms (row_from wl (i * wl) lv lm) (between wl (i + 1) to lv lm) c d t m (λ k p q. goes true k (omega arith) (omega arith) (on k p q)) (rests (dec_lt d end)))
    where
      goes : (b : Bool) (k : ℕ) → at ≤ k → k < end → passes i k ≡ b → goes_on o (row_from wl (i * wl) lv lm) (between w k end vs ms) ≡ b
      goes b k p q e = rw (between_more w vs ms k end q, key_at_lem o wl to lv lm ml.rows i h, ml.keys i l h, key_at_lem o w end vs ms mr.rows k q, mr.keys k p q) e

      rests : Dec (d < end) → goes_on o (row_from wl (i * wl) lv lm) (between w d end vs ms) ≡ false
      rests (yes q) = goes false d (omega arith) q (stop q)
      rests (no q) = let z : d ≡ end = omega arith in rw (z, between_none w vs ms end)

  -- Nearest passes row k for a next one that takes its place.
  near_next : (v a : Cell) (k : ℕ) → at ≤ k → k + 1 < end → passes_row o Nearest v a (between w (k + 1) end vs ms) ≡ nearer v (keyed w o.by vs (k + 1)) a
  near_next v a k l h = rw (between_more w vs ms (k + 1) end h, key_at_lem o w end vs ms mr.rows (k + 1) h, mr.keys (k + 1) (omega arith) h)

  pub near_counted : strategy_of o ≡ Nearest → Rising (keyed w o.by vs) at end → (i : ℕ) → from ≤ i → i < to → (c d : ℕ) → at ≤ c → c ≤ d → d < end
      → Behind Nearest true (keyed w o.by vs) c (keyed wl o.by lv i) d → Stopped Nearest true (keyed w o.by vs) end (keyed wl o.by lv i) d
      → length (walk_on o (between wl i to lv lm) (between w c end vs ms)) ≡ (d - c) + 1 + length (walk_on o (between wl (i + 1) to lv lm) (between w d end vs ms))
  near_counted told up i l h c d g t m behind stopped = row_counted i l h c d g t (omega arith) (λ k p q. rw told (on k p q)) (λ q. rw told (stops (dec_lt (d + 1) end)))
    where
      v : Cell
      v = keyed wl o.by lv i

      key : ℕ → Cell
      key k = keyed w o.by vs k

      -- were it to stop before row d, row d would not take the place of what it stopped at
      by : (b : Bool) (k : ℕ) → c ≤ k → k < d → nearer v (key (k + 1)) (key k) ≡ b → nearer v (key (k + 1)) (key k) ≡ true
      by true k p q e = e
      by false k p q e =
          absurd (never (nearer v (key d) (key k)) (behind k p q) (near_stop v (key k) (key (k + 1)) (key d) refl refl (up k (k + 1) (omega arith) (omega arith) (omega arith)) (up (k + 1) d (omega arith) (omega arith) m) e))

      on : (k : ℕ) → c ≤ k → k < d → passes_row o Nearest v (key k) (between w (k + 1) end vs ms) ≡ true
      on k p q = near_next v (key k) k (omega arith) (omega arith) ∙ by (nearer v (key (k + 1)) (key k)) k p q refl

      stops : Dec (d + 1 < end) → passes_row o Nearest v (key d) (between w (d + 1) end vs ms) ≡ false
      stops (yes q) = near_next v (key d) d (omega arith) q ∙ stopped q
      stops (no q) = let z : d + 1 ≡ end = omega arith in rw (z, between_none w vs ms end)

-- Where a row begins that is not the first.
pub row_before_lem : (n w : ℕ) → 0 < n → n * w ≡ (n - 1) * w + w
row_before_lem n w h =
    let e : n - 1 + 1 ≡ n = omega arith in
    let f : (n - 1 + 1) * w ≡ (n - 1) * w + w = omega arith in
    rw e at f

-- ---- what the cursor has passed, for all left keys that are not below the one of row i
-- Left rows before row i are not above u.
abbrev pub Reached : (ℕ → Cell) → ℕ → ℕ → ℤ → Type 0
Reached left from i u = (j : ℕ) → from ≤ j → j < i → NotAbove (left j) (value u)

module _ (left : ℕ → Cell) (from to : ℕ) (rises : Rising left from to) (i : ℕ) (h : i < to) where
  -- They are not above the key of row i.
  pub reached_here : (v : ℤ) → left i ≡ value v → Reached left from i v
  reached_here v e = λ j l g. rw e at (rises j i l (omega (arith, g)) h)

module _ (inclusive : Bool) (val : ℕ → ℤ) (at : ℕ) where
  -- Rows at..c are below v, and so they are below a greater key.
  pub below_later : (v u : ℤ) (c : ℕ) → NotAbove (value v) (value u) → ((k : ℕ) → at ≤ k → k < c → below inclusive v (val k) ≡ true) → (k : ℕ) → at ≤ k → k < c → below inclusive u (val k) ≡ true
  below_later v u c h f k l g = back_up inclusive (value (val k)) (value v) (value u) h (f k l g)

  -- Rows at..c and then c..d.
  pub below_on : (v : ℤ) (c d : ℕ) → ((k : ℕ) → at ≤ k → k < c → below inclusive v (val k) ≡ true) → ((k : ℕ) → c ≤ k → k < d → below inclusive v (val k) ≡ true)
      → (k : ℕ) → at ≤ k → k < d → below inclusive v (val k) ≡ true
  below_on v c d f g k l h = by (dec_lt k c)
    where
      by : Dec (k < c) → below inclusive v (val k) ≡ true
      by (yes e) = f k l e
      by (no e) = g k (omega (arith, e)) h
