-- A walk over rows: what is left of a stretch, of a run, of the cursor's way and of a scan, each told one step further. Assumes nothing.
use Rattle.std.specs.Prelude.{Option}
use mathlib.Core.Path.{◌≡◌, refl, sym, ap, ◌∙◌}
use mathlib.Core.Bool.{Bool, true, false, cond, ◌||◌}
use mathlib.Core.List.{List, [], ◌∷◌, ◌++◌, map}
use Prim.Native.Nat.{ℕ, zero, suc, ◌+◌, ◌-◌, ◌*◌, ◌≤◌, ◌<◌}
use native.Mathlib.Omega.{arith}
use lib.ListN.{length, take, drop}
use lib.Seq.{drop-drop, take_at, drop_at}
use Rattle.frames.specs.Cells.{Cell, Rows, Words, rows_of, row_from}
use Rattle.order.specs.Order.{cmp_group, null_group, is_less}
use Rattle.frames.proofs.WordLaws.{rows_length}
use Rattle.order.specs.declared.options.Options.{Options}
use Rattle.std.specs.declared.cmp.Ordering.{Ordering}
use Rattle.std.specs.declared.cmp.Ordering.TheVariants.{Less, Equal, Greater}
use Rattle.matching.specs.Match.{match_in}
use Rattle.matching.specs.Groups.{Cursor, same_run, join_run, runs, head_of, passes, pass, used, by_runs}
use Rattle.matching.specs.Stretches.{between, run_on, run_length, standing}
use Rattle.matching.specs.Loops.{Passed, Serves}
use Rattle.matching.specs.declared.RunCursor.{RunCursor}
use Rattle.matching.proofs.ChoiceLaws.{pick_ind}

-- ---- the rows of a stretch
rows_split : (w n m : ℕ) (vs ms : Words) → rows_of w (n + m) vs ms ≡ rows_of w n vs ms ++ rows_of w m (drop (n * w) vs) (drop (n * w) ms)
unfolding rows_of
rows_split w zero m vs ms =
    let z : 0 + m ≡ m = omega arith in
    let y : 0 * w ≡ 0 = omega arith in
    rw (z, y)
rows_split w (suc n) m vs ms =
    let e : suc n + m ≡ suc (n + m) = omega arith in
    let f : suc n * w ≡ w + n * w = omega arith in
    rw (e, f, ← drop-drop (n * w) w vs, ← drop-drop (n * w) w ms, rows_split w n m (drop w vs) (drop w ms))

module _ (w : ℕ) (vs ms : Words) where
  pub between_all : (n : ℕ) → between w 0 n vs ms ≡ rows_of w n vs ms
  unfolding between
  between_all n =
      let z : n - 0 ≡ n = omega arith in
      let y : 0 * w ≡ 0 = omega arith in
      rw (z, y)

  pub between_none : (i : ℕ) → between w i i vs ms ≡ []
  unfolding between rows_of
  between_none i = let z : i - i ≡ 0 = omega arith in rw z

  pub between_length : (i n : ℕ) → length (between w i n vs ms) ≡ n - i
  unfolding between
  between_length i n = rows_length w (n - i) (drop (i * w) vs) (drop (i * w) ms)

  pub between_more : (i n : ℕ) → i < n → between w i n vs ms ≡ row_from w (i * w) vs ms ∷ between w (i + 1) n vs ms
  unfolding between rows_of row_from
  between_more i n h =
      let e : n - i ≡ suc (n - (i + 1)) = omega arith in
      let f : (i + 1) * w ≡ i * w + w = omega arith in
      rw (e, f, ← drop-drop w (i * w) vs, ← drop-drop w (i * w) ms)

  pub between_cut : (i d n : ℕ) → i + d ≤ n → between w i n vs ms ≡ between w i (i + d) vs ms ++ between w (i + d) n vs ms
  unfolding between
  between_cut i d n h =
      let a : n - i ≡ d + (n - (i + d)) = omega arith in
      let b : i + d - i ≡ d = omega arith in
      let f : (i + d) * w ≡ i * w + d * w = omega arith in
      rw (a, b, f, ← drop-drop (d * w) (i * w) vs, ← drop-drop (d * w) (i * w) ms) (rows_split w d (n - (i + d)) (drop (i * w) vs) (drop (i * w) ms))

  between_take : (i d n : ℕ) → i + d ≤ n → take d (between w i n vs ms) ≡ between w i (i + d) vs ms
  between_take i d n h =
      let l : length (between w i (i + d) vs ms) ≡ d = between_length i (i + d) ∙ omega arith in
      rw (between_cut i d n h) (take_at (between w i (i + d) vs ms) (between w (i + d) n vs ms) d l)

  between_drop : (i d n : ℕ) → i + d ≤ n → drop d (between w i n vs ms) ≡ between w (i + d) n vs ms
  between_drop i d n h =
      let l : length (between w i (i + d) vs ms) ≡ d = between_length i (i + d) ∙ omega arith in
      rw (between_cut i d n h) (drop_at (between w i (i + d) vs ms) (between w (i + d) n vs ms) d l)

-- ---- the first run of rows
module _ (o : Options) where
  run_parts : (r : List Cell) (rs : Rows) → runs o (r ∷ rs) ≡ (r ∷ take (run_on o r rs) rs) ∷ runs o (drop (run_on o r rs) rs)
  unfolding runs join_run run_on
  run_parts r [] = refl
  run_parts r (s ∷ rs) = rw (run_parts s rs) (by (sym (run_parts s rs)) (same_run o r s))
    where
      m : ℕ
      m = run_on o s rs

      by : (s ∷ take m rs) ∷ runs o (drop m rs) ≡ runs o (s ∷ rs) → (b : Bool) → cond b ((r ∷ s ∷ take m rs) ∷ runs o (drop m rs)) ((r ∷ []) ∷ (s ∷ take m rs) ∷ runs o (drop m rs))
          ≡ (r ∷ take (cond b (suc m) 0) (s ∷ rs)) ∷ runs o (drop (cond b (suc m) 0) (s ∷ rs))
      by e true = refl
      by e false = ap (λ (z : List Rows). (r ∷ []) ∷ z) e

  run_most : (r : List Cell) (rs : Rows) → run_on o r rs ≤ length rs
  unfolding run_on
  run_most r [] = omega arith
  run_most r (s ∷ rs) = by (same_run o r s) (run_most s rs)
    where
      by : (b : Bool) → run_on o s rs ≤ length rs → cond b (suc (run_on o s rs)) 0 ≤ suc (length rs)
      by true h = omega arith
      by false h = omega arith

  runs_all : (rs : Rows) → 0 < length rs → (0 < run_length o rs) × (run_length o rs ≤ length rs) × (runs o rs ≡ take (run_length o rs) rs ∷ runs o (drop (run_length o rs) rs))
  unfolding run_length
  runs_all [] h = absurd (omega arith)
  runs_all (r ∷ rs) h = (omega arith, omega (arith, run_most r rs), run_parts r rs)

  module _ (w n : ℕ) (vs ms : Words) where
    -- The run at row i: it has a row, it ends within the stretch, and it is the first of the runs.
    pub run_up : (i : ℕ) → i < n → 0 < run_length o (between w i n vs ms)
    run_up i h =
        let l = between_length w vs ms i n in
        (runs_all (between w i n vs ms) (omega arith)).0

    pub run_within : (i : ℕ) → i < n → i + run_length o (between w i n vs ms) ≤ n
    run_within i h =
        let l = between_length w vs ms i n in
        let t = (runs_all (between w i n vs ms) (omega arith)).1 in
        omega arith

    pub run_first : (i e : ℕ) → i < n → e ≡ i + run_length o (between w i n vs ms) → runs o (between w i n vs ms) ≡ between w i e vs ms ∷ runs o (between w e n vs ms)
    run_first i e h q =
        let l = between_length w vs ms i n in
        let k : i + run_length o (between w i n vs ms) ≤ n = run_within i h in
        let t = (runs_all (between w i n vs ms) (omega arith)).2 in
        rw (between_take w vs ms i (run_length o (between w i n vs ms)) n k, between_drop w vs ms i (run_length o (between w i n vs ms)) n k, ← q) at t

    -- Behind the last row there is none.
    pub run_past : run_length o (between w n n vs ms) ≡ 0
    unfolding run_length
    run_past = rw (between_none w vs ms n)

    pub runs_past : runs o (between w n n vs ms) ≡ []
    unfolding runs
    runs_past = rw (between_none w vs ms n)

    -- ---- the walk to a run's end: e rows are passed, r is the last of them
    pub on_first : (i : ℕ) → i < n → i + run_length o (between w i n vs ms) ≡ i + 1 + run_on o (row_from w (i * w) vs ms) (between w (i + 1) n vs ms)
    unfolding run_length
    on_first i h = rw (between_more w vs ms i n h) (omega arith)

    module _ (r : List Cell) (e : ℕ) where
      pub on_more : e < n → same_run o r (row_from w (e * w) vs ms) ≡ true
          → e + run_on o r (between w e n vs ms) ≡ e + 1 + run_on o (row_from w (e * w) vs ms) (between w (e + 1) n vs ms)
      unfolding run_on
      on_more h t = rw (between_more w vs ms e n h, t) (omega arith)

      pub on_stop : e < n → same_run o r (row_from w (e * w) vs ms) ≡ false → e + run_on o r (between w e n vs ms) ≡ e
      unfolding run_on
      on_stop h t = rw (between_more w vs ms e n h, t) (omega arith)

      pub on_end_lem : e ≡ n → e + run_on o r (between w e n vs ms) ≡ e
      unfolding run_on
      on_end_lem q = rw (q, between_none w vs ms n) (omega arith)

-- ---- the cursor's way
module _ (o : Options) (x : List Cell) where
  stand_less : (r : List Cell) → standing o x r ≡ Less → (null_group o r || is_less (cmp_group o r x)) ≡ true
  unfolding standing
  stand_less r e = by (null_group o r) (cmp_group o r x) e
    where
      by : (b : Bool) (c : Ordering) → cond b Less c ≡ Less → (b || is_less c) ≡ true
      by true c e = refl
      by false Less e = refl
      by false Equal e = cc
      by false Greater e = cc

  stand_not : (r : List Cell) (y : Ordering) → is_less y ≡ false → standing o x r ≡ y → ((null_group o r || is_less (cmp_group o r x)) ≡ false) × (cmp_group o r x ≡ y)
  unfolding standing
  stand_not r y n e = by (null_group o r) (cmp_group o r x) y n e
    where
      by : (b : Bool) (c y : Ordering) → is_less y ≡ false → cond b Less c ≡ y → ((b || is_less c) ≡ false) × (c ≡ y)
      by true c Less n e = ((cc), (cc))
      by true c Equal n e = ((cc), (cc))
      by true c Greater n e = ((cc), (cc))
      by false c y n e = (rw e n, e)

  module _ (w n : ℕ) (vs ms : Words) (i e : ℕ) (h : i < n) (q : e ≡ i + run_length o (between w i n vs ms)) where
    pub run_head : head_of (between w i e vs ms) ≡ row_from w (i * w) vs ms
    run_head =
        let u = run_up o w n vs ms i h in
        rw (between_more w vs ms i e (omega arith))

    pub pass_on : (k : ℕ) → standing o x (row_from w (i * w) vs ms) ≡ Less → pass o x (k + i) (runs o (between w i n vs ms)) ≡ pass o x (k + e) (runs o (between w e n vs ms))
    unfolding pass passes
    pass_on k s =
        let u = run_up o w n vs ms i h in
        let g : Rows = between w i e vs ms in
        let f : (null_group o (head_of g) || is_less (cmp_group o (head_of g) x)) ≡ true = rw run_head (stand_less (row_from w (i * w) vs ms) s) in
        let a : k + i + (e - i) ≡ k + e = omega arith in
        rw (run_first o w n vs ms i e h q)
        (pick_ind (λ (z : Cursor). z ≡ pass o x (k + e) (runs o (between w e n vs ms))) (null_group o (head_of g) || is_less (cmp_group o (head_of g) x))
        (λ t. rw (between_length w vs ms i e, a)) (λ t. cc))

    pub pass_stop : (k : ℕ) (y : Ordering) → is_less y ≡ false → standing o x (row_from w (i * w) vs ms) ≡ y → pass o x k (runs o (between w i n vs ms)) ≡ record { at = k; rest = runs o (between w i n vs ms) }
    unfolding pass passes
    pass_stop k y l s =
        let g : Rows = between w i e vs ms in
        let f : (null_group o (head_of g) || is_less (cmp_group o (head_of g) x)) ≡ false = rw run_head (stand_not (row_from w (i * w) vs ms) y l s).0 in
        let t : List Rows = runs o (between w e n vs ms) in
        rw (run_first o w n vs ms i e h q)
        (pick_ind (λ (z : Cursor). z ≡ record { at = k; rest = g ∷ t }) (null_group o (head_of g) || is_less (cmp_group o (head_of g) x)) (λ y. cc) (λ y. refl))

    -- The run is used where its group is equal; else none of it.
    pub used_run : standing o x (row_from w (i * w) vs ms) ≡ Equal → used o x (runs o (between w i n vs ms)) ≡ between w i e vs ms
    unfolding used
    used_run s =
        let f = (stand_not (row_from w (i * w) vs ms) Equal refl s).1 in
        rw (run_first o w n vs ms i e h q, run_head, f)

    pub used_none : standing o x (row_from w (i * w) vs ms) ≡ Greater → used o x (runs o (between w i n vs ms)) ≡ between w i i vs ms
    unfolding used
    used_none s =
        let f = (stand_not (row_from w (i * w) vs ms) Greater refl s).1 in
        rw (run_first o w n vs ms i e h q, run_head, f, between_none w vs ms i)

  module _ (w n : ℕ) (vs ms : Words) where
    pub pass_end : (k : ℕ) → pass o x k (runs o (between w n n vs ms)) ≡ record { at = k; rest = runs o (between w n n vs ms) }
    unfolding pass
    pass_end k = rw (runs_past o w n vs ms)

    pub used_end : used o x (runs o (between w n n vs ms)) ≡ between w n n vs ms
    unfolding used
    used_end = rw (runs_past o w n vs ms, between_none w vs ms n)

-- ---- a left run: null, or matched over what is used
module _ (o : Options) (i : ℕ) (rights : List Rows) (l : Rows) (ls : List Rows) where
  by_null : null_group o (head_of l) ≡ true → by_runs o i rights (l ∷ ls) ≡ map (match_in o i []) l ++ by_runs o i rights ls
  unfolding by_runs
  by_null e = pick_ind (λ (z : List (Option ℕ)). z ≡ map (match_in o i []) l ++ by_runs o i rights ls) (null_group o (head_of l)) (λ t. refl) (λ t. cc)

  by_some : (c : Cursor) → null_group o (head_of l) ≡ false → pass o (head_of l) i rights ≡ c
      → by_runs o i rights (l ∷ ls) ≡ map (match_in o c.at (used o (head_of l) c.rest)) l ++ by_runs o c.at c.rest ls
  unfolding by_runs
  by_some c e q =
      pick_ind (λ (z : List (Option ℕ)). z ≡ map (match_in o c.at (used o (head_of l) c.rest)) l ++ by_runs o c.at c.rest ls) (null_group o (head_of l)) (λ t. cc) (λ t. rw q)

module _ (o : Options) (w n : ℕ) (vs ms : Words) (i : ℕ) (x : List Cell) where
  pub serve_null : (e : ℕ) → null_group o x ≡ true → Serves o w n vs ms i x (record { at = i; end = e; used = i })
  serve_null e h = record { step = λ first l ls q. rw (between_none w vs ms i) (by_null o (first + i) (runs o (between w i n vs ms)) l ls (ap (null_group o) q ∙ h)) }

  pub serve_pass : (r : RunCursor) → null_group o x ≡ false → Passed o w n vs ms i x r → Serves o w n vs ms i x r
  serve_pass r h p =
      record {
        step = λ first l ls q.
            rw (← p.uses, ← q) (by_some o (first + i) (runs o (between w i n vs ms)) l ls (record { at = first + r.at; rest = runs o (between w r.at n vs ms) }) (ap (null_group o) q ∙ h) (rw q (p.cursor first)));
      }
