-- The laws of the choice, for every strategy and every test of what may be chosen: what may be dropped before, what may come behind, and which row is chosen.
-- Assumes nothing.
use mathlib.Core.Path.{◌≡◌, refl, sym, ap, ◌∙◌}
use mathlib.Core.Bool.{Bool, true, false, cond}
use mathlib.Core.List.{List, [], ◌∷◌, ◌++◌}
use Prim.Native.Nat.{ℕ, zero, suc, ◌+◌, ◌<◌}
use native.Mathlib.Nat.{add-zero, add-suc, suc-add}
use native.Mathlib.Omega.{arith}
use lib.ListN.{length, get_or}
use Rattle.frames.specs.Cells.{Cell, Rows}
use Rattle.order.specs.options.Options.{strategy_of}
use Rattle.order.proofs.SortedLaws.{All}
use Rattle.order.specs.declared.options.Options.{Options}
use Rattle.matching.specs.Match.{Hit, nobody, hit, meet, choose, takes_over}

-- A choice by a test, from a fact of each way.
pub cond_ind {ℓ κ} : {A : Type ℓ} (P : A → Type κ) (b : Bool) {x y : A} → (b ≡ true → P x) → (b ≡ false → P y) → P (cond b x y)
cond_ind P true f g = f refl
cond_ind P false f g = g refl

-- The same for elim.
pub pick_ind {ℓ κ} : {A : Type ℓ} (P : A → Type κ) (b : Bool) {x y : A} → (b ≡ true → P x) → (b ≡ false → P y) → P (elim b [ true ↦ x | false ↦ y ])
pick_ind P true f g = f refl
pick_ind P false f g = g refl

-- What holds of the row chosen, if one is; and: one is chosen, and it holds of it.
abbrev pub Of : (List Cell → Type 0) → Hit → Type 0
Of P nobody = Unit {0}
Of P (hit n r) = P r

abbrev pub Has : (List Cell → Type 0) → Hit → Type 0
Has P nobody = ⊥
Has P (hit n r) = P r

module _ (o : Options) (x : List Cell) where
  -- Does r take the place of c?
  abbrev pub beats : List Cell → List Cell → Bool
  beats r c = takes_over o (strategy_of o) x r c

  -- The same rows may be chosen: the same choice.
  pub choose_same : (may be : List Cell → Bool) (c : Hit) (i : ℕ) (rs : Rows) → All (λ r. may r ≡ be r) rs → choose o x may c i rs ≡ choose o x be c i rs
  unfolding choose
  choose_same may be c i [] h = refl
  choose_same may be c i (r ∷ rs) h = rw h.0 (choose_same may be (cond (be r) (meet o x i r c) c) (suc i) rs h.1)

  module _ (may : List Cell → Bool) where
    pub choose_append : (c : Hit) (i : ℕ) (A B : Rows) → choose o x may c i (A ++ B) ≡ choose o x may (choose o x may c i A) (i + length A) B
    unfolding choose
    choose_append c i [] B = rw add-zero
    choose_append c i (a ∷ A) B = rw (add-suc, ← suc-add) (choose_append (cond (may a) (meet o x i a c) c) (suc i) A B)

    -- ---- what holds of every row that may be chosen holds of the choice
    meet_of : (Q : List Cell → Type 0) (c : Hit) (i : ℕ) (r : List Cell) → Of Q c → Q r → Of Q (meet o x i r c)
    meet_of Q nobody i r h k = k
    meet_of Q (hit n c) i r h k = cond_ind (Of Q) (beats r c) (λ t. k) (λ t. h)

    pub choose_of : (Q : List Cell → Type 0) (c : Hit) (i : ℕ) (rs : Rows) → Of Q c → All (λ r. may r ≡ true → Q r) rs → Of Q (choose o x may c i rs)
    unfolding choose
    choose_of Q c i [] h k = h
    choose_of Q c i (r ∷ rs) h k =
        choose_of Q (cond (may r) (meet o x i r c) c) (suc i) rs (cond_ind (Of Q) (may r) (λ t. meet_of Q c i r h (k.0 t)) (λ t. h)) k.1

    -- ---- once a row may be chosen, one is, and it is as good: Q, which that row has, and all that it does not beat, passes to what beats it
    module _ (Q : List Cell → Type 0) (up : (r c : List Cell) → beats r c ≡ true → Q c → Q r) where
      meet_has : (c : Hit) (i : ℕ) (r : List Cell) → Has Q c → Has Q (meet o x i r c)
      meet_has nobody i r h = absurd h
      meet_has (hit n c) i r h = cond_ind (Has Q) (beats r c) (λ t. up r c t h) (λ t. h)

      choose_has : (c : Hit) (i : ℕ) (rs : Rows) → Has Q c → Has Q (choose o x may c i rs)
      unfolding choose
      choose_has c i [] h = h
      choose_has c i (r ∷ rs) h = choose_has (cond (may r) (meet o x i r c) c) (suc i) rs (cond_ind (Has Q) (may r) (λ t. meet_has c i r h) (λ t. h))

      meet_best : (c : Hit) (i : ℕ) (r : List Cell) → Q r → ((c : List Cell) → beats r c ≡ false → Q c) → Has Q (meet o x i r c)
      meet_best nobody i r q f = q
      meet_best (hit n c) i r q f = cond_ind (Has Q) (beats r c) (λ t. q) (λ t. f c t)

      pub choose_best : (c : Hit) (i : ℕ) (rs : Rows) (k : ℕ) → k < length rs → may (get_or rs k []) ≡ true → Q (get_or rs k [])
          → ((c : List Cell) → beats (get_or rs k []) c ≡ false → Q c) → Has Q (choose o x may c i rs)
      unfolding choose
      choose_best c i [] k l t q f = absurd (omega arith)
      choose_best c i (r ∷ rs) zero l t q f =
          choose_has (cond (may r) (meet o x i r c) c) (suc i) rs
          (cond_ind (Has Q) (may r) (λ u. meet_best c i r q f) (λ u. let z : ◌≡◌ {A = ℕ} 0 1 = cc in absurd (omega arith)))
      choose_best c i (r ∷ rs) (suc k) l t q f = choose_best (cond (may r) (meet o x i r c) c) (suc i) rs k (omega arith) t q f

    -- ---- rows behind that change nothing: each may not be chosen, or does not beat the choice that is there
    abbrev pub Keeps : Hit → List Cell → Type 0
    Keeps nobody r = may r ≡ false
    Keeps (hit n c) r = may r ≡ true → beats r c ≡ false

    pub keeps_dead : (c : Hit) (r : List Cell) → may r ≡ false → Keeps c r
    keeps_dead nobody r h = h
    keeps_dead (hit n c) r h = λ t. let z : ◌≡◌ {A = ℕ} 0 1 = cc in absurd (omega arith)

    step_keep : (c : Hit) (i : ℕ) (r : List Cell) → Keeps c r → cond (may r) (meet o x i r c) c ≡ c
    step_keep nobody i r k = rw k
    step_keep (hit n c) i r k = cond_ind (λ z. z ≡ hit n c) (may r) (λ t. rw (k t)) (λ t. refl)

    pub choose_keep : (c : Hit) (i : ℕ) (F : Rows) → All (Keeps c) F → choose o x may c i F ≡ c
    unfolding choose
    choose_keep c i [] k = refl
    choose_keep c i (r ∷ rs) k = rw (step_keep c i r k.0) (choose_keep c (suc i) rs k.1)

    pub choose_wait : (c : Hit) (i : ℕ) (H F : Rows) → All (Keeps (choose o x may c i H)) F → choose o x may c i (H ++ F) ≡ choose o x may c i H
    choose_wait c i H F k = choose_append c i H F ∙ choose_keep (choose o x may c i H) (i + length H) F k

    -- Rows of which none may be chosen leave the choice as it is.
    pub choose_dead : (c : Hit) (i : ℕ) (rs : Rows) → All (λ r. may r ≡ false) rs → choose o x may c i rs ≡ c
    unfolding choose
    choose_dead c i [] h = refl
    choose_dead c i (r ∷ rs) h = rw h.0 (choose_dead c (suc i) rs h.1)

    -- ---- rows before that may be dropped: for each that may be chosen, the first row behind them may be and beats it
    abbrev pub Wins : Rows → List Cell → Type 0
    Wins [] a = ⊥
    Wins (b ∷ B) a = (may b ≡ true) × (beats b a ≡ true)

    drop_wins : (c : Hit) (i : ℕ) (B : Rows) → Of (Wins B) c → choose o x may c i B ≡ choose o x may nobody i B
    unfolding choose
    drop_wins nobody i B w = refl
    drop_wins (hit n c) i [] w = absurd w
    drop_wins (hit n c) i (b ∷ B) w = rw (w.0, w.1)

    pub choose_skip : (i : ℕ) (A B : Rows) → All (λ a. may a ≡ true → Wins B a) A → choose o x may nobody i (A ++ B) ≡ choose o x may nobody (i + length A) B
    choose_skip i A B k = choose_append nobody i A B ∙ drop_wins (choose o x may nobody i A) (i + length A) B (choose_of (Wins B) nobody i A tt k)
