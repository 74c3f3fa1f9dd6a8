-- Of what looks at keys and carried cells alone, options with a list and without one are the same. Assumes nothing.
use Rattle.std.specs.Prelude.{Option, Some, None}
use mathlib.Core.Path.{◌≡◌, refl, ap, ◌∙◌}
use mathlib.Core.Bool.{Bool, true, false, cond, not, ◌&&◌}
use mathlib.Core.List.{List, [], ◌∷◌, map}
use Prim.Native.Nat.{ℕ, suc}
use Rattle.frames.specs.Cells.{Cell, Rows, Words}
use Rattle.order.specs.options.Options.{with_list, without_list, key_rule, strategy_of}
use Rattle.order.specs.declared.options.Terms.{Terms}
use Rattle.order.specs.declared.options.Strategy.{Strategy}
use Rattle.order.specs.declared.options.Strategy.TheVariants.{Backward, Forward, Nearest}
use Rattle.order.specs.Order.{cmp_cell, is_greater, key_of, null_key}
use Rattle.order.proofs.TermLaws.{rows_terms}
use Rattle.matching.specs.Match.{Hit, nobody, hit, fits, takes_over, meet, choose, tolerate, match_in}
use Rattle.matching.specs.Moves.{keys_sorted, Move, left_on, right_on, passes_row, goes_on, walk_on, walk}
use Rattle.matching.specs.Answer.{answer_row, answer_rows}
use Rattle.matching.specs.Stretches.{lay}
use Rattle.matching.specs.Loops.{RunRoom}

module _ (t : Terms) (codes : Words) (rising : List ℕ) where
  -- ---- what is asked of words
  pub room_terms : (wl m : ℕ) (lv lm : Words) (from to wr : ℕ) (rv rm : Words) (at end number : ℕ) (out : Words)
      → RunRoom (with_list t codes rising) wl m lv lm from to wr rv rm at end number out → RunRoom (without_list t) wl m lv lm from to wr rv rm at end number out
  room_terms wl m lv lm from to wr rv rm at end number out h = record {
    left = rows_terms t codes rising wl to lv lm h.left;
    upward = h.upward;
    within = h.within;
    right = rows_terms t codes rising wr end rv rm h.right;
    run = h.run;
    numbers = h.numbers;
    room = h.room;
  }

  -- ---- sorted runs
  pub sorted_terms : (rows : Rows) → keys_sorted (without_list t) rows ≡ keys_sorted (with_list t codes rising) rows
  unfolding keys_sorted
  sorted_terms [] = refl
  sorted_terms (r ∷ []) = refl
  sorted_terms (r ∷ s ∷ rs) = ap (λ (b : Bool). not (is_greater (cmp_cell key_rule (key_of (with_list t codes rising) r) (key_of (with_list t codes rising) s))) && b) (sorted_terms (s ∷ rs))

  -- ---- the moves of a walk
  passes_terms : (s : Strategy) (v a : Cell) (next : Rows) → passes_row (without_list t) s v a next ≡ passes_row (with_list t codes rising) s v a next
  passes_terms Backward v a next = refl
  passes_terms Forward v a next = refl
  passes_terms Nearest v a [] = refl
  passes_terms Nearest v a (b ∷ next) = refl

  on_terms : (ls rs : Rows) → walk_on (without_list t) ls rs ≡ walk_on (with_list t codes rising) ls rs
  unfolding walk_on
  on_terms [] rs = refl
  on_terms (x ∷ ls) [] = ap (λ (ms : List Move). left_on ∷ ms) (on_terms ls [])
  on_terms (x ∷ ls) (r ∷ rs) =
      let o = with_list t codes rising in
      rw (walk_on, passes_terms (strategy_of o) (key_of o x) (key_of o r) rs) (same (goes_on o x (r ∷ rs)) (on_terms (x ∷ ls) rs) (on_terms ls (r ∷ rs)))
    where
      same : (b : Bool) {k l m n : List Move} → k ≡ l → m ≡ n → ◌≡◌ {A = List Move} (elim b [ true ↦ right_on ∷ k | false ↦ left_on ∷ m ]) (elim b [ true ↦ right_on ∷ l | false ↦ left_on ∷ n ])
      same true p q = ap (λ (ms : List Move). right_on ∷ ms) p
      same false p q = ap (λ (ms : List Move). left_on ∷ ms) q

  pub walk_terms : (ls rs : Rows) → walk (without_list t) ls rs ≡ walk (with_list t codes rising) ls rs
  unfolding walk
  walk_terms ls [] = on_terms ls []
  walk_terms ls (r ∷ rs) = same (null_key (with_list t codes rising) r) (walk_terms ls rs) (on_terms ls (r ∷ rs))
    where
      same : (b : Bool) {k l m n : List Move} → k ≡ l → m ≡ n → ◌≡◌ {A = List Move} (elim b [ true ↦ right_on ∷ k | false ↦ m ]) (elim b [ true ↦ right_on ∷ l | false ↦ n ])
      same true p q = ap (λ (ms : List Move). right_on ∷ ms) p
      same false p q = q

  -- ---- the choice of a row
  over_terms : (s : Strategy) (x r c : List Cell) → takes_over (without_list t) s x r c ≡ takes_over (with_list t codes rising) s x r c
  unfolding takes_over
  over_terms Backward x r c = refl
  over_terms Forward x r c = refl
  over_terms Nearest x r c = refl

  meet_terms : (x : List Cell) (i : ℕ) (r : List Cell) (c : Hit) → meet (without_list t) x i r c ≡ meet (with_list t codes rising) x i r c
  meet_terms x i r nobody = refl
  meet_terms x i r (hit k c) = ap (λ (b : Bool). cond b (hit i r) (hit k c)) (over_terms (strategy_of (without_list t)) x r c)

  choose_terms : (x : List Cell) (may : List Cell → Bool) (c : Hit) (i : ℕ) (rows : Rows) → choose (without_list t) x may c i rows ≡ choose (with_list t codes rising) x may c i rows
  unfolding choose
  choose_terms x may c i [] = refl
  choose_terms x may c i (r ∷ rs) =
      choose_terms x may (cond (may r) (meet (without_list t) x i r c) c) (suc i) rs
      ∙ ap (λ (h : Hit). choose (with_list t codes rising) x may (cond (may r) h c) (suc i) rs) (meet_terms x i r c)

  tolerate_terms : (x : List Cell) (h : Hit) → tolerate (without_list t) x h ≡ tolerate (with_list t codes rising) x h
  unfolding tolerate
  tolerate_terms x nobody = refl
  tolerate_terms x (hit i r) = refl

  pub match_terms : (i : ℕ) (rows : Rows) (x : List Cell) → match_in (without_list t) i rows x ≡ match_in (with_list t codes rising) i rows x
  unfolding match_in fits
  match_terms i rows x =
      tolerate_terms x (choose (without_list t) x (fits (without_list t) x) nobody i rows)
      ∙ ap (tolerate (with_list t codes rising) x) (choose_terms x (fits (without_list t) x) nobody i rows)

  -- The choices of a run's rows, and their words.
  pub matches_terms : (i : ℕ) (rows xs : Rows) → map (match_in (without_list t) i rows) xs ≡ map (match_in (with_list t codes rising) i rows) xs
  matches_terms i rows [] = refl
  matches_terms i rows (x ∷ xs) =
      ap (λ (k : Option ℕ). k ∷ map (match_in (without_list t) i rows) xs) (match_terms i rows x)
      ∙ ap (λ (ks : List (Option ℕ)). match_in (with_list t codes rising) i rows x ∷ ks) (matches_terms i rows xs)

  pub lay_terms : (m j i : ℕ) (rows xs : Rows) (out : Words) → lay m j (map (match_in (without_list t) i rows) xs) out ≡ lay m j (map (match_in (with_list t codes rising) i rows) xs) out
  lay_terms m j i rows xs out = ap (λ (ks : List (Option ℕ)). lay m j ks out) (matches_terms i rows xs)

  -- ---- the rows of an answer
  answer_terms : (i : ℕ) (rights : Rows) (x : List Cell) (k : Option ℕ) → answer_row (without_list t) i rights x k ≡ answer_row (with_list t codes rising) i rights x k
  unfolding answer_row
  answer_terms i rights x (Some k) = refl
  answer_terms i rights x None = refl

  pub answers_terms : (i : ℕ) (rights xs : Rows) (ms : List (Option ℕ)) → answer_rows (without_list t) i rights xs ms ≡ answer_rows (with_list t codes rising) i rights xs ms
  unfolding answer_rows
  answers_terms i rights [] ms = refl
  answers_terms i rights (x ∷ xs) [] = refl
  answers_terms i rights (x ∷ xs) (m ∷ ms) =
      ap (λ (r : List Cell). r ∷ answer_rows (without_list t) i rights xs ms) (answer_terms i rights x m)
      ∙ ap (λ (rs : Rows). answer_row (with_list t codes rising) i rights x m ∷ rs) (answers_terms i rights xs ms)
