-- Marks that fit their values, four at a time. Assumes nothing.
use Rattle.std.proofs.Common.{◌≡◌, ℕ, ◌+◌, ◌≤◌, true, false, ◌&&◌, length, get_or, drop, pos, ◌∙◌, arith}
use Rattle.frames.specs.Cells.{Words}
use Rattle.frames.specs.Frame.{same_z, pair_fine, pairs_fine}
use Rattle.frames.proofs.FrontLaws.{pairs_more}
use Rattle.rows.specs.framerule.Pairs.{FineBetween}

module _ (vs ms : Words) (i : ℕ) where
  -- The pairs from place i on are four pairs and those behind them.
  pub pairs_four : i + 4 ≤ length vs → i + 4 ≤ length ms → pairs_fine (drop i vs) (drop i ms)
      ≡ (pair_fine (get_or vs i (pos 0)) (get_or ms i (pos 0)) && (pair_fine (get_or vs (i + 1) (pos 0)) (get_or ms (i + 1) (pos 0)) && (pair_fine (get_or vs (i + 2) (pos 0)) (get_or ms (i + 2) (pos 0))
      && (pair_fine (get_or vs (i + 3) (pos 0)) (get_or ms (i + 3) (pos 0)) && pairs_fine (drop (i + 4) vs) (drop (i + 4) ms)))))
  pairs_four h k =
      let b : i + 1 + 1 ≡ i + 2 = omega arith in
      let c : i + 2 + 1 ≡ i + 3 = omega arith in
      let d : i + 3 + 1 ≡ i + 4 = omega arith in
      let p = pairs_more vs ms i (omega arith) (omega arith) in
      let q = rw b at (pairs_more vs ms (i + 1) (omega arith) (omega arith)) in
      let r = rw c at (pairs_more vs ms (i + 2) (omega arith) (omega arith)) in
      let s = rw d at (pairs_more vs ms (i + 3) (omega arith) (omega arith)) in
      rw (p, q, r, s)

  -- Four marks that are 1 fit.
  pub ones_four : i + 4 ≤ length ms → same_z (get_or ms i (pos 0)) (pos 1) ≡ true → same_z (get_or ms (i + 1) (pos 0)) (pos 1) ≡ true → same_z (get_or ms (i + 2) (pos 0)) (pos 1) ≡ true → same_z (get_or ms (i + 3) (pos 0)) (pos 1) ≡ true → FineBetween i (i + 4) vs ms
  ones_four k p q r s = λ h. pairs_four h k ∙ rw (p, q, r, s)

  -- One stretch behind the other.
  pub between_join : (j k : ℕ) → j ≤ k → FineBetween i j vs ms → FineBetween j k vs ms → FineBetween i k vs ms
  between_join j k h p q = λ l. p (omega arith) ∙ q l

-- Of a test that failed nothing is asked.
pub not_asked : {A : Type 0} → false ≡ true → A
not_asked e = let z : ◌≡◌ {A = ℕ} 0 1 = cc in absurd (omega arith)
