-- Why nothing outside of the candidates is chosen: on keys, then on the choice among rows, by strategy. Assumes nothing.
use mathlib.Core.Path.{◌≡◌, refl, sym, ap, ◌∙◌}
use mathlib.Core.Bool.{Bool, true, false, not}
use mathlib.Core.List.{List, []}
use mathlib.Core.Logic.{◌⊎◌, inl, inr}
use Prim.Native.Nat.{ℕ, ◌+◌, ◌-◌, ◌*◌, ◌≤◌, ◌<◌}
use native.Mathlib.Omega.{arith}
use borrow.Author.Tests.{lt-ltb, not-true}
use lib.IntN.{ℤ}
use lib.ListN.{length, get_or}
use Rattle.frames.specs.Cells.{Cell, value, is_null, Rows, Words, row_from}
use Rattle.order.specs.options.Options.{strategy_of, key_rule}
use Rattle.order.specs.Order.{cmp_cell, key_of, distance}
use Rattle.order.specs.Requires.{RowsIn}
use Rattle.order.proofs.OrderLaws.{AtMost, IsOrder, cmp_cell_is, greater_less, less_or, at_most_refl}
use Rattle.order.proofs.KeyLaws.{farther_above, nearer_below}
use Rattle.frames.proofs.BoolLaws.{and-true}
use Rattle.order.specs.declared.options.Options.{Options}
use Rattle.std.specs.declared.cmp.Ordering.{Ordering}
use Rattle.std.specs.declared.cmp.Ordering.TheVariants.{Less, Equal, Greater}
use Rattle.order.specs.declared.options.Strategy.{Strategy}
use Rattle.order.specs.declared.options.Strategy.TheVariants.{Backward, Forward, Nearest}
use Rattle.matching.specs.Match.{Hit, nobody, hit, on_side, fits, nearer, takes_over, choose, tolerate, match_in}
use Rattle.matching.specs.Stretches.{between}
use Rattle.matching.specs.Moves.{key_at, NotAbove, fits_key}
use Rattle.matching.proofs.ChoiceLaws.{Has, Keeps, Wins, keeps_dead, choose_best, choose_skip, choose_wait}
use Rattle.matching.proofs.MayLaws.{never, is_false, nearer_least, nearer_by}
use Rattle.matching.proofs.WalkLaws.{between_length, between_more, between_none, between_cut}
use Rattle.matching.proofs.BestLaws.{key_at_lem}
use Rattle.matching.proofs.CursorLaws.{back_up, fore_down}
use Rattle.matching.proofs.RestLaws.{between_at, all_between}
use Rattle.matchrun.specs.look.Fit.{LastFit, FirstFit}

-- ---- what fits a key fits those on its other side
back_fits : (eq : Bool) (b v u : Cell) → NotAbove v u → fits_key Backward eq v b ≡ true → fits_key Backward eq u b ≡ true
back_fits eq b v u h e =
    let p = and-true (not (is_null b)) (on_side Backward eq (cmp_cell key_rule b v)) e in
    rw (p.0, back_up eq b v u h p.1)

fore_fits : (eq : Bool) (b v u : Cell) → NotAbove v u → fits_key Forward eq u b ≡ true → fits_key Forward eq v b ≡ true
fore_fits eq b v u h e =
    let p = and-true (not (is_null b)) (on_side Forward eq (cmp_cell key_rule b u)) e in
    rw (p.0, fore_down eq b v u h p.1)

-- ---- Nearest: a key that is the left key takes the place of any before it, and no greater key takes its place
K : IsOrder (cmp_cell key_rule)
K = cmp_cell_is key_rule

side_above : (z : Ordering) → on_side Backward true z ≡ false → z ≡ Greater
side_above Less e = cc
side_above Equal e = cc
side_above Greater e = refl

same_wins : (v c : Cell) → is_null v ≡ false → is_null c ≡ false → nearer v v c ≡ true
same_wins v c nv nc = by (less_or K v c)
  where
    by : (cmp_cell key_rule v c ≡ Less) ⊎ AtMost (cmp_cell key_rule) c v → nearer v v c ≡ true
    by (inl l) = rw (lt-ltb (distance v v) (distance c v) (farther_above v v c nv (at_most_refl K v) l))
    by (inr h) = nearer_by v v c (nearer_below v v c nc h (at_most_refl K v)) h

same_stays : (v b : Cell) → is_null v ≡ false → is_null b ≡ false → fits_key Backward true v b ≡ false → nearer v b v ≡ false
same_stays v b nv nb e =
    let g = greater_less K b v (side_above (cmp_cell key_rule b v) (rw nb at e)) in
    let d = farther_above v v b nv (at_most_refl K v) g in
    is_false (nearer v b v) (λ t. let n = nearer_least v b v t in omega arith)

-- ---- the choice among rows at..end is that among lo..hi
module _ (o : Options) (x : List Cell) (w at end : ℕ) (vs ms : Words) (first : ℕ) where
  abbrev row : ℕ → List Cell
  row k = row_from w (k * w) vs ms

  abbrev part : ℕ → ℕ → Hit
  part lo hi = choose o x (fits o x) nobody (first + lo) (between w lo hi vs ms)

  -- Rows before lo give way to row lo, or do not fit; rows behind hi do not take the place of what is chosen among lo..hi.
  pub cut : (lo hi : ℕ) → at ≤ lo → lo ≤ hi → hi ≤ end
      → ((k : ℕ) → at ≤ k → k < lo → fits o x (row k) ≡ true → (lo < end) × (fits o x (row lo) ≡ true) × (takes_over o (strategy_of o) x (row lo) (row k) ≡ true))
      → ((k : ℕ) → hi ≤ k → k < end → Keeps o x (fits o x) (part lo hi) (row k))
      → match_in o (first + at) (between w at end vs ms) x ≡ match_in o (first + lo) (between w lo hi vs ms) x
  unfolding match_in
  cut lo hi hl hh he before behind = ap (tolerate o x) (skip ∙ wait)
    where
      A : Rows
      A = between w at lo vs ms

      B : Rows
      B = between w lo end vs ms

      e : at + (lo - at) ≡ lo
      e = omega (arith, hl)

      f : lo + (hi - lo) ≡ hi
      f = omega (arith, hh)

      wins : (k : ℕ) → at ≤ k → k < lo → fits o x (row k) ≡ true → Wins o x (fits o x) B (row k)
      wins k l h t =
          let p = before k l h t in
          rw (between_more w vs ms lo end p.0) (p.1, p.2)

      n : first + at + length A ≡ first + lo
      n = omega (arith, hl, between_length w vs ms at lo)

      skip : choose o x (fits o x) nobody (first + at) (between w at end vs ms) ≡ choose o x (fits o x) nobody (first + lo) B
      skip =
          let c = rw e at (between_cut w vs ms at (lo - at) end (omega (arith, hl, hh, he))) in
          let s = choose_skip o x (fits o x) (first + at) A B (all_between w vs ms (λ a. fits o x a ≡ true → Wins o x (fits o x) B a) at lo wins) in
          ap (choose o x (fits o x) nobody (first + at)) c ∙ rw n at s

      wait : choose o x (fits o x) nobody (first + lo) B ≡ part lo hi
      wait =
          let c = rw f at (between_cut w vs ms lo (hi - lo) end (omega (arith, hh, he))) in
          ap (choose o x (fits o x) nobody (first + lo)) c
          ∙ choose_wait o x (fits o x) nobody (first + lo) (between w lo hi vs ms) (between w hi end vs ms) (all_between w vs ms (Keeps o x (fits o x) (part lo hi)) hi end behind)

-- ---- a key fits a row as it fits the row's key
module _ (o : Options) (s : Strategy) (told : strategy_of o ≡ s) (w end : ℕ) (vs ms : Words) (rows : RowsIn o w end vs ms) (x : List Cell) (u : ℤ) (ex : key_of o x ≡ value u) where
  row_fits : (k : ℕ) → k < end → fits o x (row_from w (k * w) vs ms) ≡ fits_key s o.allow_eq (value u) (key_at o w vs ms k)
  unfolding fits
  row_fits k h = rw (ex, key_at_lem o w end vs ms rows k h, told)

-- ---- the parts, by strategy: for a left row x with a key u from f to l
module _ (o : Options) (w at end : ℕ) (vs ms : Words) (rows : RowsIn o w end vs ms) (first : ℕ) (x : List Cell) (u : ℤ) (ex : key_of o x ≡ value u) where
  abbrev key : ℕ → Cell
  key k = key_at o w vs ms k

  module _ (told : strategy_of o ≡ Backward) (f l : ℤ) (fu : NotAbove (value f) (value u)) (ul : NotAbove (value u) (value l)) (hi : ℕ)
      (b : LastFit o.allow_eq (key_at o w vs ms) at end (value l) hi) where
    back_behind : (lo k : ℕ) → hi ≤ k → k < end → Keeps o x (fits o x) (part o x w at end vs ms first lo hi) (row_from w (k * w) vs ms)
    back_behind lo k g h =
        keeps_dead o x (fits o x) (part o x w at end vs ms first lo hi) (row_from w (k * w) vs ms)
        (row_fits o Backward told w end vs ms rows x u ex k h
        ∙ is_false (fits_key Backward o.allow_eq (value u) (key k)) (λ t. never (fits_key Backward o.allow_eq (value l) (key k)) (back_fits o.allow_eq (key k) (value u) (value l) ul t) (b.behind k g h)))

    -- Row lo fits f: rows before it give way.
    pub backward_cut : (lo : ℕ) → at ≤ lo → lo < hi → fits_key Backward o.allow_eq (value f) (key_at o w vs ms lo) ≡ true
        → match_in o (first + at) (between w at end vs ms) x ≡ match_in o (first + lo) (between w lo hi vs ms) x
    unfolding takes_over
    backward_cut lo g h t =
        cut o x w at end vs ms first lo hi g (omega (arith, h)) b.within
        (λ k p q r. (omega (arith, h, b.within), row_fits o Backward told w end vs ms rows x u ex lo (omega (arith, h, b.within)) ∙ back_fits o.allow_eq (key lo) (value f) (value u) fu t, rw told))
        (back_behind lo)

    -- No row fits f: no row is left out before.
    pub backward_whole : match_in o (first + at) (between w at end vs ms) x ≡ match_in o (first + at) (between w at hi vs ms) x
    backward_whole = cut o x w at end vs ms first at hi (omega arith) b.start b.within (λ k p q r. absurd (omega (arith, p, q))) (back_behind at)

  module _ (told : strategy_of o ≡ Forward) (f l : ℤ) (fu : NotAbove (value f) (value u)) (ul : NotAbove (value u) (value l)) (lo : ℕ)
      (b : FirstFit o.allow_eq (key_at o w vs ms) at end (value f) lo) where
    fore_before : (k : ℕ) → at ≤ k → k < lo → fits o x (row_from w (k * w) vs ms) ≡ true
        → (lo < end) × (fits o x (row_from w (lo * w) vs ms) ≡ true) × (takes_over o (strategy_of o) x (row_from w (lo * w) vs ms) (row_from w (k * w) vs ms) ≡ true)
    fore_before k g h t =
        let e = sym (row_fits o Forward told w end vs ms rows x u ex k (omega (arith, h, b.within))) ∙ t in
        never (fits_key Forward o.allow_eq (value f) (key k)) (fore_fits o.allow_eq (key k) (value f) (value u) fu e) (b.before k g h)

    -- Row j fits l: rows behind it do not take its place.
    pub forward_cut : (j : ℕ) → lo ≤ j → j < end → fits_key Forward o.allow_eq (value l) (key_at o w vs ms j) ≡ true
        → match_in o (first + at) (between w at end vs ms) x ≡ match_in o (first + lo) (between w lo (j + 1) vs ms) x
    unfolding takes_over
    forward_cut j g h t = cut o x w at end vs ms first lo (j + 1) b.start (omega (arith, g)) (omega (arith, h)) fore_before (λ k p q. keeps (part o x w at end vs ms first lo (j + 1)) has k)
      where
        fj : fits o x (row_from w (j * w) vs ms) ≡ true
        fj = row_fits o Forward told w end vs ms rows x u ex j h ∙ fore_fits o.allow_eq (key j) (value u) (value l) ul t

        row_j : get_or (between w lo (j + 1) vs ms) (j - lo) [] ≡ row_from w (j * w) vs ms
        row_j =
            let e : lo + (j - lo) ≡ j = omega (arith, g) in
            rw e at (between_at w vs ms lo (j + 1) (j - lo) (omega (arith, g)))

        has : Has (λ r. Unit {0}) (part o x w at end vs ms first lo (j + 1))
        has =
            choose_best o x (fits o x) (λ r. Unit {0}) (λ r c e q. tt) nobody (first + lo) (between w lo (j + 1) vs ms) (j - lo)
            (omega (arith, g, between_length w vs ms lo (j + 1))) (rw row_j fj) tt (λ c e. tt)

        keeps : (c : Hit) → Has (λ r. Unit {0}) c → (k : ℕ) → Keeps o x (fits o x) c (row_from w (k * w) vs ms)
        keeps nobody n k = absurd n
        keeps (hit i c) n k = λ t. rw told

    -- No row fits l: no row is left out behind.
    pub forward_whole : match_in o (first + at) (between w at end vs ms) x ≡ match_in o (first + lo) (between w lo end vs ms) x
    forward_whole = cut o x w at end vs ms first lo end b.start b.within (omega arith) fore_before (λ k p q. absurd (omega (arith, p, q)))

  -- Row j has the key u, and rows behind it have greater keys or none.
  module _ (told : strategy_of o ≡ Nearest) (j : ℕ) (g : at ≤ j) (h : j < end) (ej : key_at o w vs ms j ≡ value u)
      (b : (k : ℕ) → j < k → k < end → fits_key Backward true (value u) (key_at o w vs ms k) ≡ false) where
    keyed : (k : ℕ) → k < end → fits o x (row_from w (k * w) vs ms) ≡ true → is_null (key k) ≡ false
    keyed k l t =
        not-true (is_null (key k)) (and-true (not (is_null (key k))) true (sym (row_fits o Nearest told w end vs ms rows x u ex k l) ∙ t)).0

    fits_j : fits o x (row_from w (j * w) vs ms) ≡ true
    fits_j = row_fits o Nearest told w end vs ms rows x u ex j h ∙ rw ej

    one : part o x w at end vs ms first j (j + 1) ≡ hit (first + j) (row_from w (j * w) vs ms)
    unfolding choose
    one = rw (between_more w vs ms j (j + 1) (omega arith), between_none w vs ms (j + 1), fits_j)

    over : (k i : ℕ) → k < end → i < end → takes_over o (strategy_of o) x (row_from w (k * w) vs ms) (row_from w (i * w) vs ms) ≡ nearer (value u) (key k) (key i)
    unfolding takes_over
    over k i p q = rw (told, ex, key_at_lem o w end vs ms rows k p, key_at_lem o w end vs ms rows i q)

    pub nearest_cut : match_in o (first + at) (between w at end vs ms) x ≡ match_in o (first + j) (between w j (j + 1) vs ms) x
    nearest_cut =
        cut o x w at end vs ms first j (j + 1) g (omega arith) (omega (arith, h))
        (λ k p q t. (h, fits_j, over j k h (omega (arith, q, h)) ∙ rw ej (same_wins (value u) (key k) refl (keyed k (omega (arith, q, h)) t))))
        (λ k p q. rw one (λ t. over k j q h ∙ rw ej (same_stays (value u) (key k) refl (keyed k q t) (b k (omega (arith, p)) q))))
