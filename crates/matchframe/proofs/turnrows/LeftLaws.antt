-- The row of a left frame that is compared, and the one that is remembered: where they stand, and that they are rows of the frame. Assumes nothing.
use Rattle.std.specs.Prelude.{Option, Some, None}
use mathlib.Core.Path.{◌≡◌, sym, ◌∙◌}
use mathlib.Core.Bool.{true}
use Prim.Native.Nat.{ℕ, zero, suc, ◌-◌, ◌<◌}
use native.Mathlib.Omega.{arith}
use lib.ListN.{drop}
use Rattle.frames.specs.Cells.{rows_of, Words}
use Rattle.frames.proofs.WordLaws.{rows_length}
use Rattle.order.specs.options.Options.{is_strict}
use Rattle.order.specs.declared.options.Options.{Options}
use Rattle.order.specs.Keyed.{first_left, last_left_at}
use Rattle.buffer.specs.splitcheck.Requires.{FoundAmong}
use Rattle.order.proofs.KeyedLaws.{first_left_found, last_left_found}

module _ (o : Options) where
  -- Strict: the first and the last of n rows.
  module _ (w : ℕ) (vs ms : Words) (e : is_strict o.check ≡ true) where
    pub first_none : (n : ℕ) → n ≡ 0 → first_left o (rows_of w n vs ms) ≡ None
    unfolding rows_of
    first_none n z = rw (e, z)

    pub first_some : (n : ℕ) → 0 < n → first_left o (rows_of w n vs ms) ≡ Some 0
    unfolding rows_of
    first_some zero h = absurd (omega arith)
    first_some (suc n) h = rw e

    pub last_none : (n : ℕ) → n ≡ 0 → last_left_at o (rows_of w n vs ms) ≡ None
    unfolding rows_of
    last_none n z = rw (e, z)

    pub last_some : (n : ℕ) → 0 < n → last_left_at o (rows_of w n vs ms) ≡ Some (n - 1)
    unfolding rows_of
    last_some zero h = absurd (omega arith)
    last_some (suc n) h =
        let z : suc n - 1 ≡ n = omega arith in
        rw (e, rows_length w n (drop w vs) (drop w ms), z)

  -- They are rows of the frame.
  module _ (w n : ℕ) (vs ms : Words) where
    pub first_left_among : (found : Option ℕ) → found ≡ first_left o (rows_of w n vs ms) → FoundAmong found n
    first_left_among found e i h =
        let f : first_left o (rows_of w n vs ms) ≡ Some i = sym e ∙ h in
        omega (arith, (rw f at (first_left_found o (rows_of w n vs ms))).1, rows_length w n vs ms)

    pub last_left_among : (found : Option ℕ) → found ≡ last_left_at o (rows_of w n vs ms) → FoundAmong found n
    last_left_among found e i h =
        let f : last_left_at o (rows_of w n vs ms) ≡ Some i = sym e ∙ h in
        omega (arith, (rw f at (last_left_found o (rows_of w n vs ms))).1, rows_length w n vs ms)
