-- One word more, as the loops go; and a row of subtotals as one stretch of words. Assumes nothing.
use mathlib.Core.Path.{◌≡◌, sym, ap, ◌∙◌}
use mathlib.Core.List.{[], ◌∷◌, ◌++◌, append_assoc}
use Prim.Native.Nat.{ℕ, suc, ◌+◌, ◌-◌, ◌≤◌, ◌<◌, ◌^◌}
use native.Mathlib.Numerals.{add-one}
use native.Mathlib.Omega.{arith}
use lib.IntN.{ℤ, pos}
use lib.Signed.{mag}
use lib.ListN.{length, take, drop, get_or, set, length-drop, length-append, take-append-drop, get_or-append}
use lib.Seq.{paste, paste-suc, take-suc, drop-cons, set_at, get_or-take, take_all, length-take-le, drop-drop}
use mir.Syntax.{w64}
use mir.Val.{to_z, of_z}
use Rattle.frames.proofs.Signed.{back}
use Rattle.frames.specs.Cells.{Words}

-- ---- words copied
-- With the first i words written, one more.
pub copy_step : (b₀ b ws : Words) (at i : ℕ) → b ≡ paste b₀ at ws i → at + i < length b₀ → i < length ws → mag (get_or ws i (pos 0)) < 2 ^ 63
    → set b (at + i) (to_z w64 (of_z w64 (get_or ws i (pos 0)))) ≡ paste b₀ at ws (i + 1)
copy_step b₀ b ws at i e h k m = rw (back (get_or ws i (pos 0)) m, e, add-one) (paste-suc b₀ at ws i (pos 0) h k)

-- ---- words moved up
-- With k words below still to move, the words from k on stand w places higher.
pub shift_step : (b₀ b : Words) (k to w : ℕ) (a : ℤ) → suc k ≤ to → to + w ≤ length b₀ → b ≡ paste b₀ (suc k + w) (drop (suc k) b₀) (to - suc k) → a ≡ get_or b k (pos 0)
    → set b (k + w) a ≡ paste b₀ (k + w) (drop k b₀) (to - k)
shift_step b₀ b k to w a h r e f =
    let m : to - k ≡ suc (to - suc k) = omega arith in
    let s : suc k + w ≡ suc (k + w) = omega arith in
    let n : suc (k + w) + (to - suc k) ≡ k + w + suc (to - suc k) = omega arith in
    let T : Words = take (k + w) b₀ in
    let M : Words = take (to - suc k) (drop (suc k) b₀) in
    let E : Words = drop (k + w + suc (to - suc k)) b₀ in
    let lt : length T ≡ k + w = length-take-le (k + w) b₀ (omega arith) in
    let first : take (suc (k + w)) b₀ ≡ T ++ (get_or b₀ (k + w) (pos 0) ∷ []) = take-suc b₀ (k + w) (pos 0) (omega arith) in
    let all : b ≡ T ++ get_or b₀ (k + w) (pos 0) ∷ (M ++ E) =
    e ∙ ap (λ (z : ℕ). take z b₀ ++ M ++ drop (z + (to - suc k)) b₀) s ∙ ap (λ (z : ℕ). take (suc (k + w)) b₀ ++ M ++ drop z b₀) n
    ∙ ap (λ (z : Words). z ++ M ++ E) first ∙ simp append_assoc in
    let read : a ≡ get_or b₀ k (pos 0) =
    f ∙ ap (λ (z : Words). get_or z k (pos 0)) (e ∙ append_assoc (take (suc k + w) b₀) M (drop (suc k + w + (to - suc k)) b₀))
    ∙ get_or-append (take (suc k + w) b₀) (M ++ drop (suc k + w + (to - suc k)) b₀) (pos 0) k (omega (arith, length-take-le (suc k + w) b₀ (omega arith)))
    ∙ get_or-take (suc k + w) b₀ k (pos 0) (omega arith) in
    let next : take (suc (to - suc k)) (drop k b₀) ≡ get_or b₀ k (pos 0) ∷ M = ap (take (suc (to - suc k))) (drop-cons b₀ k (pos 0) (omega arith)) in
    ap (λ (z : Words). set z (k + w) a) all ∙ set_at T (get_or b₀ (k + w) (pos 0)) (M ++ E) a (k + w) lt
    ∙ rw (m, next, read) (simp append_assoc)

pub shift_starts : (b₀ : Words) (to w : ℕ) → to + w ≤ length b₀ → b₀ ≡ paste b₀ (to + w) (drop to b₀) (to - to)
shift_starts b₀ to w h =
    let z : to - to ≡ 0 = omega arith in
    let y : to + w + 0 ≡ to + w = omega arith in
    rw (z, y) (sym (take-append-drop (to + w) b₀) ∙ simp append_assoc)

-- ---- a part written whole
pub put_pasted : (b g : Words) (at n : ℕ) → length g ≡ n → take at b ++ (g ++ drop n (drop at b)) ≡ paste b at g n
put_pasted b g at n l = rw (take_all n g (omega arith), drop-drop n at b) (sym (append_assoc (take at b) g (drop (at + n) b)))

-- ---- a row
pub row_laid : (b b₁ g : Words) (at n : ℕ) (x y : ℤ) → at + n + 2 ≤ length b → length g ≡ n → b₁ ≡ paste b at g n → set (set b₁ (at + n) x) (at + n + 1) y ≡ paste b at (g ++ x ∷ y ∷ []) (n + 2)
row_laid b b₁ g at n x y h l e =
    let T : Words = take at b in
    let R : Words = drop (at + n) b in
    let lt : length T ≡ at = length-take-le at b (omega arith) in
    let lr : length R ≡ length b - (at + n) = length-drop (at + n) b in
    let c1 : R ≡ get_or R 0 (pos 0) ∷ drop 1 R = drop-cons R 0 (pos 0) (omega arith) in
    let c2 : drop 1 R ≡ get_or R 1 (pos 0) ∷ drop 2 R = drop-cons R 1 (pos 0) (omega arith) in
    let tg : take n g ≡ g = take_all n g (omega arith) in
    let P : Words = T ++ g in
    let lp : length P ≡ at + n = length-append T g ∙ omega (arith, lt, l) in
    let s1 : b₁ ≡ P ++ get_or R 0 (pos 0) ∷ get_or R 1 (pos 0) ∷ drop 2 R = e ∙ rw tg (ap (λ (z : Words). (T ++ g) ++ z) (c1 ∙ ap (λ (z : Words). get_or R 0 (pos 0) ∷ z) c2)) in
    let s2 : set b₁ (at + n) x ≡ P ++ x ∷ get_or R 1 (pos 0) ∷ drop 2 R = ap (λ (z : Words). set z (at + n) x) s1 ∙ set_at P (get_or R 0 (pos 0)) (get_or R 1 (pos 0) ∷ drop 2 R) x (at + n) lp in
    let Q : Words = P ++ (x ∷ []) in
    let lq : length Q ≡ at + n + 1 = length-append P (x ∷ []) ∙ omega (arith, lp) in
    let s3 : set b₁ (at + n) x ≡ Q ++ get_or R 1 (pos 0) ∷ drop 2 R = s2 ∙ simp append_assoc in
    let s4 : set (set b₁ (at + n) x) (at + n + 1) y ≡ Q ++ y ∷ drop 2 R = ap (λ (z : Words). set z (at + n + 1) y) s3 ∙ set_at Q (get_or R 1 (pos 0)) (drop 2 R) y (at + n + 1) lq in
    let w : Words = g ++ x ∷ y ∷ [] in
    let lw : length w ≡ n + 2 = length-append g (x ∷ y ∷ []) ∙ omega (arith, l) in
    let tw : take (n + 2) w ≡ w = take_all (n + 2) w (omega arith) in
    let dr : drop 2 R ≡ drop (at + (n + 2)) b = drop-drop 2 (at + n) b ∙ (let z : at + n + 2 ≡ at + (n + 2) = omega arith in rw z) in
    s4 ∙ rw (tw, dr) (simp append_assoc)
