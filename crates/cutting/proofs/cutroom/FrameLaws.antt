-- The words of full frames, counted. Assumes nothing.
use mathlib.Core.Path.{◌≡◌, refl, sym, ap, ◌∙◌}
use mathlib.Core.Bool.{Bool, true, false, cond}
use mathlib.Core.List.{List, [], ◌∷◌, ◌++◌}
use Prim.Native.Nat.{ℕ, zero, suc, ◌+◌, ◌-◌, ◌*◌, ◌/◌, ◌%◌, ◌≤◌, ◌<◌}
use native.Mathlib.Omega.{arith}
use borrow.Author.Tests.{eqb-true, eqb-false, leb-true, leb-false, le-leb, lt-leb}
use lib.Dec.{leb, eqb}
use lib.ListN.{replicate}
use Rattle.frames.specs.Frame.{frame_words}
use Rattle.planning.specs.Heights.{full_heights}
use Rattle.cutting.specs.cutpairs.Driver.{words_for}
use Rattle.cutting.specs.cutroom.Words.{head_words}

words_append : (c : ℕ) (xs ys : List ℕ) → words_for c (xs ++ ys) ≡ words_for c xs + words_for c ys
unfolding words_for
words_append c [] ys = omega arith
words_append c (x ∷ xs) ys = let e = words_append c xs ys in omega (arith, e)

words_full : (c h k : ℕ) → words_for c (replicate k h) ≡ k * frame_words h c
unfolding words_for
words_full c h zero = omega arith
words_full c h (suc k) = let e = words_full c h k in omega (arith, e)

words_rest_lem : (c m : ℕ) → words_for c (cond (eqb m 0) [] (m ∷ [])) ≡ cond (eqb m 0) 0 2 + 2 * (m * c)
unfolding words_for
words_rest_lem c m = by (eqb m 0) refl
  where
    by : (t : Bool) → eqb m 0 ≡ t → words_for c (cond t [] (m ∷ [])) ≡ cond t 0 2 + 2 * (m * c)
    by true e = let z = eqb-true m 0 e in let q : m * c ≡ 0 = ap (λ (k : ℕ). k * c) z ∙ omega arith in omega (arith, q)
    by false e = omega arith

-- Two words for each frame, and two for each cell.
pub words_counted : (c n : ℕ) → words_for c (full_heights n) ≡ head_words n + 2 * (n * c)
unfolding full_heights
words_counted c n =
    let k = n / 4096 in
    let m = n % 4096 in
    let s : n ≡ k * 4096 + m = omega arith in
    let p : n * c ≡ k * (4096 * c) + m * c = ap (λ (z : ℕ). z * c) s ∙ omega arith in
    words_append c (replicate k 4096) (cond (eqb m 0) [] (m ∷ [])) ∙ rw (words_full c 4096 k, words_rest_lem c m) (omega (arith, p))

-- The same as the code counts.
pub heads_more : (n : ℕ) → n / 4096 * 4096 < n → 2 * (n / 4096) + 2 ≡ head_words n
heads_more n l = by (eqb (n % 4096) 0) refl
  where
    by : (t : Bool) → eqb (n % 4096) 0 ≡ t → 2 * (n / 4096) + 2 ≡ 2 * (n / 4096) + cond t 0 2
    by true e = let z = eqb-true (n % 4096) 0 e in absurd (omega (arith, z))
    by false e = refl

pub heads_none : (n : ℕ) → n ≤ n / 4096 * 4096 → 2 * (n / 4096) ≡ head_words n
heads_none n l = by (eqb (n % 4096) 0) refl
  where
    by : (t : Bool) → eqb (n % 4096) 0 ≡ t → 2 * (n / 4096) ≡ 2 * (n / 4096) + cond t 0 2
    by true e = omega arith
    by false e = absurd (eqb-false (n % 4096) 0 e (omega arith))

module _ (c n l : ℕ) where
  pub frames_short : l < head_words n → false ≡ leb (words_for c (full_heights n)) l
  frames_short e = sym (lt-leb (words_for c (full_heights n)) l (rw (words_counted c n) (omega arith)))

  pub frames_hold : head_words n ≤ l → leb (2 * (n * c)) (l - head_words n) ≡ leb (words_for c (full_heights n)) l
  frames_hold e = by (leb (2 * (n * c)) (l - head_words n)) refl
    where
      by : (t : Bool) → leb (2 * (n * c)) (l - head_words n) ≡ t → t ≡ leb (words_for c (full_heights n)) l
      by true z = sym (le-leb (words_for c (full_heights n)) l (rw (words_counted c n) (omega (arith, leb-true (2 * (n * c)) (l - head_words n) z))))
      by false z = sym (lt-leb (words_for c (full_heights n)) l (rw (words_counted c n) (omega (arith, leb-false (2 * (n * c)) (l - head_words n) z))))
