-- A choice among rows that are numbered from i has the number of one of them; so the row of an answer is the same over the kept rows and over all right rows. Assumes nothing.
use Rattle.std.specs.Prelude.{Option, Some, None}
use mathlib.Core.Path.{◌≡◌, refl, sym, ◌∙◌}
use mathlib.Core.Bool.{Bool, true, false, cond, ◌&&◌}
use mathlib.Core.List.{List, [], ◌∷◌, ◌++◌, map, flatten}
use Prim.Native.Nat.{ℕ, suc, ◌+◌, ◌-◌, ◌≤◌, ◌<◌}
use native.Mathlib.Omega.{arith}
use lib.Dec.{eqb}
use lib.ListN.{length, drop, length-append, length-drop, get_or-append}
use lib.Seq.{get_or-drop}
use Rattle.frames.specs.Cells.{Cell, Rows}
use Rattle.order.specs.options.Options.{strategy_of}
use Rattle.order.specs.declared.options.Options.{Options}
use Rattle.order.specs.Order.{cmp_group, is_equal, null_group}
use Rattle.matching.specs.Match.{Hit, nobody, hit, fits, takes_over, meet, choose, too_far, tolerate, same_group, match_in, match_table}
use Rattle.matching.specs.Groups.{Cursor, head_of, passes, pass, used, runs, by_runs, match_frame}
use Rattle.matching.specs.Answer.{answer_row}
use Rattle.matching.proofs.ChoiceLaws.{cond_ind, pick_ind}
use Rattle.matching.proofs.Runs.{runs_flat}

-- A number from i on and below n, or none.
abbrev HitFrom : ℕ → ℕ → Hit → Type 0
HitFrom i n nobody = Unit {0}
HitFrom i n (hit k r) = (i ≤ k) × (k < n)

abbrev pub From : ℕ → ℕ → Option ℕ → Type 0
From i n (Some k) = (i ≤ k) × (k < n)
From i n None = Unit {0}

module _ (o : Options) (x : List Cell) (i n : ℕ) where
  meet_from : (k : ℕ) (r : List Cell) (c : Hit) → i ≤ k → k < n → HitFrom i n c → HitFrom i n (meet o x k r c)
  meet_from k r nobody l u h = (l, u)
  meet_from k r (hit j s) l u h = go (takes_over o (strategy_of o) x r s)
    where
      go : (b : Bool) → HitFrom i n (cond b (hit k r) (hit j s))
      go true = (l, u)
      go false = h

  choose_from : (may : List Cell → Bool) (c : Hit) (k : ℕ) (rows : Rows) → i ≤ k → k + length rows ≤ n → HitFrom i n c → HitFrom i n (choose o x may c k rows)
  unfolding choose
  choose_from may c k [] l u h = h
  choose_from may c k (r ∷ rows) l u h = choose_from may (cond (may r) (meet o x k r c) c) (suc k) rows (omega arith) (omega arith) (go (may r))
    where
      go : (b : Bool) → HitFrom i n (cond b (meet o x k r c) c)
      go true = meet_from k r c l (omega arith) h
      go false = h

  tolerate_from : (c : Hit) → HitFrom i n c → From i n (tolerate o x c)
  unfolding tolerate
  tolerate_from nobody h = tt
  tolerate_from (hit k r) h = go (too_far o x r)
    where
      go : (b : Bool) → From i n (cond b None (Some k))
      go true = tt
      go false = h

module _ (o : Options) (x : List Cell) (i : ℕ) (rows : Rows) where
  chosen_from : (may : List Cell → Bool) → From i (i + length rows) (tolerate o x (choose o x may nobody i rows))
  chosen_from may = tolerate_from o x i (i + length rows) (choose o x may nobody i rows) (choose_from o x i (i + length rows) may nobody i rows (omega arith) (omega arith) tt)

  -- Over rows of any group, and over those of a run.
  pub table_from : From i (i + length rows) (match_table o i rows x)
  unfolding match_table
  table_from = chosen_from (λ r. same_group o x r && fits o x r)

  pub run_from : From i (i + length rows) (match_in o i rows x)
  unfolding match_in
  run_from = chosen_from (fits o x)

-- A row of the answer does not ask for the rows behind those that its choice is among.
pub row_within : (o : Options) (d : ℕ) (rights F : Rows) (x : List Cell) (m : Option ℕ) → From d (d + length rights) m → answer_row o d (rights ++ F) x m ≡ answer_row o d rights x m
unfolding answer_row
row_within o d rights F x (Some k) h = let there : k - d < length rights = omega arith in rw get_or-append
row_within o d rights F x None h = refl

-- Of all right rows, those from d on are kept, numbered from d, and more may come behind them: a row of the answer is the same over the kept rows and over all.
pub row_from_lem : (o : Options) (d : ℕ) (rights F : Rows) (x : List Cell) (m : Option ℕ) → From d (d + length (drop d rights)) m → answer_row o d (drop d rights) x m ≡ answer_row o 0 (rights ++ F) x m
unfolding answer_row
row_from_lem o d rights F x m h = all m h ∙ sym (row_within o 0 rights F x m (up m h))
  where
    up : (m : Option ℕ) → From d (d + length (drop d rights)) m → From 0 (0 + length rights) m
    up (Some k) h = (omega arith, omega (arith, length-drop d rights))
    up None h = tt

    all : (m : Option ℕ) → From d (d + length (drop d rights)) m → answer_row o d (drop d rights) x m ≡ answer_row o 0 rights x m
    all (Some k) h =
        let z : d + (k - d) ≡ k - 0 = omega arith in
        rw (get_or-drop d rights (k - d) [], z)
    all None h = refl

-- ---- the choices of a frame
-- So each of a list.
abbrev pub AllFrom : ℕ → ℕ → List (Option ℕ) → Type 0
AllFrom i n [] = Unit {0}
AllFrom i n (m ∷ ms) = From i n m × AllFrom i n ms

module _ (o : Options) (i n : ℕ) where
  -- More rows below the same end.
  from_up : (k : ℕ) (m : Option ℕ) (j : ℕ) → i ≤ j → j + k ≤ n → From j (j + k) m → From i n m
  from_up k (Some q) j l u h = (omega arith, omega arith)
  from_up k None j l u h = tt

  all_from : (j : ℕ) (rows : Rows) → i ≤ j → j + length rows ≤ n → (xs : Rows) → AllFrom i n (map (match_in o j rows) xs)
  all_from j rows l u [] = tt
  all_from j rows l u (x ∷ xs) = (from_up (length rows) (match_in o j rows x) j l u (run_from o x j rows), all_from j rows l u xs)

  all_append : (ms ks : List (Option ℕ)) → AllFrom i n ms → AllFrom i n ks → AllFrom i n (ms ++ ks)
  all_append [] ks h k = k
  all_append (m ∷ ms) ks h k = (h.0, all_append ms ks h.1 k)

  -- The cursor stays within the rows, and what it serves does too.
  pass_from : (x : List Cell) (j : ℕ) (gs : List Rows) → i ≤ j → j + length (flatten gs) ≤ n → (i ≤ (pass o x j gs).at) × ((pass o x j gs).at + length (flatten (pass o x j gs).rest) ≤ n)
  unfolding pass flatten
  pass_from x j [] l u = (l, u)
  pass_from x j (g ∷ gs) l u =
      pick_ind (λ (c : Cursor). (i ≤ c.at) × (c.at + length (flatten c.rest) ≤ n)) (passes o x g)
      (λ e. pass_from x (j + length g) gs (omega arith) (omega (arith, length-append g (flatten gs))))
      (λ e. (l, u))

  used_from : (x : List Cell) (gs : List Rows) → length (used o x gs) ≤ length (flatten gs)
  unfolding used flatten
  used_from x [] = omega arith
  used_from x (g ∷ gs) =
      cond_ind (λ (rs : Rows). length rs ≤ length (g ++ flatten gs)) (is_equal (cmp_group o (head_of g) x)) (λ e. omega (arith, length-append g (flatten gs))) (λ e. omega arith)

  runs_from : (j : ℕ) (gs ls : List Rows) → i ≤ j → j + length (flatten gs) ≤ n → AllFrom i n (by_runs o j gs ls)
  unfolding by_runs
  runs_from j gs [] l u = tt
  runs_from j gs (xs ∷ ls) l u =
      let p = pass_from (head_of xs) j gs l u in
      let c = pass o (head_of xs) j gs in
      let w = used_from (head_of xs) c.rest in
      pick_ind (λ (z : List (Option ℕ)). AllFrom i n z) (null_group o (head_of xs))
      (λ e. all_append (map (match_in o j []) xs) (by_runs o j gs ls) (all_from j [] l (omega arith) xs) (runs_from j gs ls l u))
      (λ e. all_append (map (match_in o c.at (used o (head_of xs) c.rest)) xs) (by_runs o c.at c.rest ls) (all_from c.at (used o (head_of xs) c.rest) p.0 (omega (arith, p.1, w)) xs) (runs_from c.at c.rest ls p.0 p.1))

-- Each choice of a frame is none or the number of a held row.
pub frame_from_lem : (o : Options) (i : ℕ) (held left : Rows) → AllFrom i (i + length held) (match_frame o i held left)
unfolding match_frame
frame_from_lem o i held left =
    cond_ind (λ (z : List (Option ℕ)). AllFrom i (i + length held) z) (eqb o.by 0)
    (λ e. all_from o i (i + length held) i held (omega arith) (omega arith) left)
    (λ e. runs_from o i (i + length held) i (runs o held) (runs o left) (omega arith) (rw (runs_flat o held) (omega arith)))
