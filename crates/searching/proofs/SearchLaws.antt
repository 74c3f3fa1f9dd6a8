-- The laws of binary search: the answer lies in the range whatever the predicate is; where the predicate is first false and then true,
-- it is the first true place or the end; and the rule step by step, as a loop goes. Assumes nothing.
use mathlib.Core.Path.{◌≡◌, refl, sym, ◌∙◌}
use mathlib.Core.Bool.{Bool, true, false}
use mathlib.Core.Logic.{◌⊎◌, inl, inr}
use Prim.Native.Nat.{ℕ, zero, suc, ◌+◌, ◌-◌, ◌/◌, ◌≤◌, ◌<◌}
use native.Mathlib.Omega.{arith}
use borrow.Author.Tests.{ltb-true, ltb-false}
use lib.Dec.{ltb}
use Rattle.searching.specs.Search.{search_for, search}

-- ---- tests
-- A test never has both answers.
pub true_false {ℓ} : {A : Type ℓ} (b : Bool) → b ≡ true → b ≡ false → A
true_false b t f = let z : ◌≡◌ {A = ℕ} 0 1 = cc in absurd (omega arith)

pub not_true_false : (b : Bool) → (b ≡ true → ⊥) → b ≡ false
not_true_false true h = absurd (h refl)
not_true_false false h = refl

-- One place is before another, or not.
pub before_or : (i k : ℕ) → (i < k) ⊎ (k ≤ i)
before_or i k = by (ltb i k) refl
  where
    by : (b : Bool) → ltb i k ≡ b → (i < k) ⊎ (k ≤ i)
    by true e = inl (ltb-true i k e)
    by false e = inr (ltb-false i k e)

-- A choice by a test, from a fact of each way; and two choices by the same test.
pub pick_ind {ℓ κ} : {A : Type ℓ} (P : A → Type κ) (b : Bool) {x y : A} → (b ≡ true → P x) → (b ≡ false → P y) → P (elim b [ true ↦ x | false ↦ y ])
pick_ind P true f g = f refl
pick_ind P false f g = g refl

pick_same {ℓ} : {A : Type ℓ} (b : Bool) {x y v w : A} → (b ≡ true → x ≡ v) → (b ≡ false → y ≡ w)
    → ◌≡◌ {A = A} (elim b [ true ↦ x | false ↦ y ]) (elim b [ true ↦ v | false ↦ w ])
pick_same true f g = f refl
pick_same false f g = g refl

-- ---- where the answer lies, and what it is
-- Over lower..upper, p is false before the place `at` and true from it on.
pub record Cut (p : ℕ → Bool) (lower upper at : ℕ) : Type 0 where
  pub from : lower ≤ at
  pub to : at ≤ upper
  pub before : (i : ℕ) → lower ≤ i → i < at → p i ≡ false
  pub after : (i : ℕ) → at ≤ i → i < upper → p i ≡ true

-- First false and then true.
abbrev pub Rising : (ℕ → Bool) → ℕ → ℕ → Type 0
Rising p lower upper = (i k : ℕ) → lower ≤ i → i ≤ k → k < upper → p i ≡ true → p k ≡ true

module _ (p : ℕ → Bool) where
  search_for_within : (fuel lower upper : ℕ) → lower ≤ upper → (lower ≤ search_for fuel p lower upper) × (search_for fuel p lower upper ≤ upper)
  unfolding search_for
  search_for_within zero lower upper h = (omega arith, h)
  search_for_within (suc fuel) lower upper h =
      pick_ind (λ z. (lower ≤ z) × (z ≤ upper)) (ltb lower upper)
      (λ t. let l : lower < upper = ltb-true lower upper t in
      pick_ind (λ z. (lower ≤ z) × (z ≤ upper)) (p ((lower + upper) / 2))
      (λ q. let w = search_for_within fuel lower ((lower + upper) / 2) (omega arith) in (w.0, omega (arith, w.1)))
      (λ q. let w = search_for_within fuel (suc ((lower + upper) / 2)) upper (omega arith) in (omega (arith, w.0), w.1)))
      (λ t. (omega arith, h))

  pub search_within : (lower upper : ℕ) → lower ≤ upper → (lower ≤ search p lower upper) × (search p lower upper ≤ upper)
  unfolding search
  search_within lower upper h = search_for_within (upper - lower) lower upper h

  -- A probe that is true cuts off what is from it on, one that is false what is up to it.
  cut_down : {lower m upper at : ℕ} → Rising p lower upper → lower ≤ m → m < upper → p m ≡ true → Cut p lower m at → Cut p lower upper at
  cut_down {lower} {m} {upper} {at} up a b t c = record {
    from = c.from;
    to = omega arith;
    before = c.before;
    after = λ i u v. by i u v (before_or i m);
  }
    where
      by : (i : ℕ) → at ≤ i → i < upper → (i < m) ⊎ (m ≤ i) → p i ≡ true
      by i u v (inl s) = c.after i u s
      by i u v (inr s) = up m i a s v t

  cut_up : {lower m upper at : ℕ} → Rising p lower upper → lower ≤ m → m < upper → p m ≡ false → Cut p (suc m) upper at → Cut p lower upper at
  cut_up {lower} {m} {upper} {at} up a b t c = record {
    from = omega arith;
    to = c.to;
    before = λ i u v. by i u v (before_or m i);
    after = c.after;
  }
    where
      by : (i : ℕ) → lower ≤ i → i < at → (m < i) ⊎ (i ≤ m) → p i ≡ false
      by i u v (inl s) = c.before i s v
      by i u v (inr s) = not_true_false (p i) (λ q. true_false (p m) (up i m u s b q) t)

  cut_empty : {lower upper : ℕ} → lower ≤ upper → upper ≤ lower → Cut p lower upper lower
  cut_empty h k = record { from = omega arith; to = h; before = λ i a b. absurd (omega arith); after = λ i a b. absurd (omega arith) }

  search_for_cut : (fuel lower upper : ℕ) → lower ≤ upper → upper - lower ≤ fuel → Rising p lower upper → Cut p lower upper (search_for fuel p lower upper)
  unfolding search_for
  search_for_cut zero lower upper h k up = cut_empty h (omega arith)
  search_for_cut (suc fuel) lower upper h k up =
      pick_ind (Cut p lower upper) (ltb lower upper)
      (λ t. let l : lower < upper = ltb-true lower upper t in
      pick_ind (Cut p lower upper) (p ((lower + upper) / 2))
      (λ q. cut_down up (omega arith) (omega arith) q (search_for_cut fuel lower ((lower + upper) / 2) (omega arith) (omega arith) (λ i k a b c. up i k a b (omega arith))))
      (λ q. cut_up up (omega arith) (omega arith) q (search_for_cut fuel (suc ((lower + upper) / 2)) upper (omega arith) (omega arith) (λ i k a b c. up i k (omega arith) b c))))
      (λ t. cut_empty h (ltb-false lower upper t))

  pub search_cut : (lower upper : ℕ) → lower ≤ upper → Rising p lower upper → Cut p lower upper (search p lower upper)
  unfolding search
  search_cut lower upper h up = search_for_cut (upper - lower) lower upper h (omega arith) up

  -- The same over the whole of 0..n, by a search of a part of it: of q, which is false before the part and true behind it, and is p in it.
  pub search_part : (q : ℕ → Bool) (lower upper n : ℕ) → lower ≤ upper → upper ≤ n → Rising q 0 n
      → ((i : ℕ) → i < lower → q i ≡ false)
      → ((i : ℕ) → upper ≤ i → i < n → q i ≡ true)
      → ((i : ℕ) → lower ≤ i → i < upper → q i ≡ p i)
      → Cut q 0 n (search p lower upper)
  search_part q lower upper n lu un up below above same = record {
    from = omega arith;
    to = omega (arith, c.to);
    before = λ i a b. low i b (before_or i lower);
    after = λ i a b. high i a b (before_or i upper);
  }
    where
      c : Cut p lower upper (search p lower upper)
      c = search_cut lower upper lu (λ i k a b d t. sym (same k (omega arith) d) ∙ up i k (omega arith) b (omega arith) (same i a (omega arith) ∙ t))

      low : (i : ℕ) → i < search p lower upper → (i < lower) ⊎ (lower ≤ i) → q i ≡ false
      low i b (inl h) = below i h
      low i b (inr h) = same i h (omega (arith, c.to)) ∙ c.before i h b

      high : (i : ℕ) → search p lower upper ≤ i → i < n → (i < upper) ⊎ (upper ≤ i) → q i ≡ true
      high i a b (inl h) = same i (omega (arith, c.from)) h ∙ c.after i a h
      high i a b (inr h) = above i h b

  -- ---- step by step, whatever p is: a loop's invariant is that what is left gives the same answer
  -- An empty range needs no fuel, and any fuel that is enough gives the same.
  empty_range : (fuel lower upper : ℕ) → upper ≤ lower → search_for fuel p lower upper ≡ lower
  unfolding search_for
  empty_range zero lower upper h = refl
  empty_range (suc fuel) lower upper h = pick_ind (λ z. z ≡ lower) (ltb lower upper) (λ t. absurd (omega (arith, ltb-true lower upper t))) (λ t. refl)

  any_fuel : (n m lower upper : ℕ) → upper - lower ≤ n → upper - lower ≤ m → search_for n p lower upper ≡ search_for m p lower upper
  unfolding search_for
  any_fuel zero m lower upper a b = sym (empty_range m lower upper (omega arith))
  any_fuel (suc n) zero lower upper a b = empty_range (suc n) lower upper (omega arith)
  any_fuel (suc n) (suc m) lower upper a b =
      pick_same (ltb lower upper)
      (λ t. let l : lower < upper = ltb-true lower upper t in
      pick_same (p ((lower + upper) / 2)) (λ u. any_fuel n m lower ((lower + upper) / 2) (omega arith) (omega arith))
      (λ u. any_fuel n m (suc ((lower + upper) / 2)) upper (omega arith) (omega arith)))
      (λ t. refl)

  pub search_end : (lower upper : ℕ) → upper ≤ lower → search p lower upper ≡ lower
  unfolding search
  search_end lower upper h = empty_range (upper - lower) lower upper h

  search_step : (lower upper : ℕ) → lower < upper
      → search p lower upper ≡ elim (p ((lower + upper) / 2)) [ true ↦ search p lower ((lower + upper) / 2) | false ↦ search p (suc ((lower + upper) / 2)) upper ]
  unfolding search search_for
  search_step lower upper h =
      any_fuel (upper - lower) (suc (upper - lower)) lower upper (omega arith) (omega arith)
      ∙ pick_ind (λ z. z ≡ elim (p ((lower + upper) / 2)) [ true ↦ search p lower ((lower + upper) / 2) | false ↦ search p (suc ((lower + upper) / 2)) upper ]) (ltb lower upper)
      (λ t. pick_same (p ((lower + upper) / 2))
      (λ u. any_fuel (upper - lower) ((lower + upper) / 2 - lower) lower ((lower + upper) / 2) (omega arith) (omega arith))
      (λ u. any_fuel (upper - lower) (upper - suc ((lower + upper) / 2)) (suc ((lower + upper) / 2)) upper (omega arith) (omega arith)))
      (λ t. absurd (omega (arith, ltb-false lower upper t)))

  pub search_true : (lower upper : ℕ) → lower < upper → p ((lower + upper) / 2) ≡ true → search p lower upper ≡ search p lower ((lower + upper) / 2)
  search_true lower upper h t = rw t at (search_step lower upper h)

  pub search_false : (lower upper : ℕ) → lower < upper → p ((lower + upper) / 2) ≡ false → search p lower upper ≡ search p (suc ((lower + upper) / 2)) upper
  search_false lower upper h t = rw t at (search_step lower upper h)
