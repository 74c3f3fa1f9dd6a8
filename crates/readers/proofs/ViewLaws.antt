-- What a view tells, test by test. Assumes nothing.
use Rattle.std.specs.Prelude.{Err, Ok, Result}
use mathlib.Core.Path.{◌≡◌, refl, sym, ◌∙◌, ap}
use mathlib.Core.Bool.{Bool, true, false, cond, not, ◌||◌}
use Prim.Native.Nat.{ℕ, suc, ◌+◌, ◌≤◌, ◌<◌}
use native.Mathlib.Omega.{arith}
use borrow.Author.Tests.{lt-ltb, le-ltb, le-leb, eq-eqb, ne_eqb, eqb-true}
use lib.Dec.{ltb, eqb}
use lib.IntN.{ℤ, pos, negsuc, nat_abs}
use lib.Signed.{lt_z, le_z}
use lib.ListN.{length, get_or}
use Rattle.frames.specs.Cells.{Words}
use Rattle.frames.specs.Frame.{same_z, row_count, is_frame}
use Rattle.frames.specs.Front.{HasCount}
use Rattle.frames.proofs.FrontLaws.{same_negative, table_short, table_other_columns, frame_parts, frame_count}
use Rattle.frames.specs.declared.refusals.Refusal.TheVariants.{BadFrame, TooManyCarried, BadColumns}
use Rattle.frames.specs.declared.refusals.Refusal.{Refusal}
use Rattle.readers.specs.declared.View.{View}
use Rattle.readers.specs.Reader.{view_of}
use Rattle.readers.specs.Reader.{column_count, framed, plain_knows, distance_knows, known_by, view_by}
use Rattle.readers.specs.Places.{HasColumns}

-- ---- words that are a frame of as many columns as they tell
module _ (f : Words) where
  pub framed_short : length f < 2 → framed f ≡ false
  unfolding framed is_frame
  framed_short l = rw (table_short (column_count f) f l)

  pub framed_negative : lt_z (get_or f 1 (pos 0)) (pos 0) ≡ true → framed f ≡ false
  unfolding framed is_frame
  framed_negative l = rw (table_other_columns (column_count f) f (same_negative (get_or f 1 (pos 0)) (column_count f) l))

  pub framed_by : is_frame (column_count f) f ≡ framed f
  unfolding framed
  framed_by = refl

  same_counted : (z : ℤ) (c : ℕ) → same_z z (pos c) ≡ true → le_z (pos 0) z ≡ true
  same_counted (pos n) c h = le-leb 0 n (omega arith)
  same_counted (negsuc n) c h = cc

  pub framed_columns : framed f ≡ true → HasColumns f
  framed_columns h =
      let p = frame_parts (column_count f) f (framed_by ∙ h) in
      record { long = p.long; counted = same_counted (get_or f 1 (pos 0)) (column_count f) p.columns }

  pub framed_count : framed f ≡ true → HasCount f
  framed_count h = frame_count (column_count f) f (framed_by ∙ h)

-- A frame of c columns tells c.
same_is : (z : ℤ) (c : ℕ) → same_z z (pos c) ≡ true → nat_abs z ≡ c
same_is (pos a) c h = eqb-true a c h
same_is (negsuc a) c h = cc

pub count_is : (c : ℕ) (f : Words) → is_frame c f ≡ true → column_count f ≡ c
count_is c f h = same_is (get_or f 1 (pos 0)) c (frame_parts c f h).columns

pub frame_framed : (c : ℕ) (f : Words) → is_frame c f ≡ true → framed f ≡ true
unfolding framed
frame_framed c f h = rw (count_is c f h) h

-- ---- the column counts that a reader knows
or-true : (b : Bool) → (b || true) ≡ true
or-true true = refl
or-true false = refl

pub plain_knows_lem : (p : ℕ) → plain_knows p (suc p) ≡ true
unfolding plain_knows
plain_knows_lem p = eq-eqb (suc p) (suc p) refl

pub plain_not : (p : ℕ) → plain_knows p (suc (suc p)) ≡ false
unfolding plain_knows
plain_not p = ne_eqb (suc (suc p)) (suc p) (λ (e : suc (suc p) ≡ suc p). omega arith)

pub distance_knows_plain : (p : ℕ) → distance_knows p (suc p) ≡ true
unfolding distance_knows
distance_knows_plain p = rw (eq-eqb (suc p) (suc p) refl)

pub distance_knows_lem : (p : ℕ) → distance_knows p (suc (suc p)) ≡ true
unfolding distance_knows
distance_knows_lem p = rw (eq-eqb (suc (suc p)) (suc (suc p)) refl) (or-true (eqb (suc (suc p)) (suc p)))

-- As the code tests them.
module _ (p c : ℕ) where
  pub knows_shared : (d : Bool) → c ≡ p + 1 → known_by d p c ≡ true
  knows_shared true e = let z : c ≡ suc p = omega arith in rw z (distance_knows_plain p)
  knows_shared false e = let z : c ≡ suc p = omega arith in rw z (plain_knows_lem p)

  pub knows_last : (d : Bool) → d ≡ true → (c ≡ p + 1 → ⊥) → known_by d p c ≡ eqb c (p + 2)
  unfolding distance_knows
  knows_last true t n =
      let z : p + 2 ≡ suc (suc p) = omega arith in
      rw (z, ne_eqb c (suc p) (λ (e : c ≡ suc p). n (omega arith)))
  knows_last false t n = cc

  pub knows_no : (d : Bool) → d ≡ false → (c ≡ p + 1 → ⊥) → known_by d p c ≡ false
  unfolding plain_knows
  knows_no true t n = cc
  knows_no false t n = ne_eqb c (suc p) (λ (e : c ≡ suc p). n (omega arith))

-- ---- a view, by its tests
-- The rows and the columns that it tells.
abbrev rows_told : Result View Refusal → ℕ
rows_told (Ok v) = v.rows
rows_told (Err r) = 0

abbrev columns_told : Result View Refusal → ℕ
columns_told (Ok v) = v.columns
columns_told (Err r) = 0

view_by_lem : (a b d : Bool) (m k n c : ℕ) → cond a (Err TooManyCarried) (cond (not b) (Err BadFrame) (cond (not d) (Err BadColumns) (Ok (view_of m k)))) ≡ Ok (view_of n c) → (b ≡ true) × (m ≡ n) × (k ≡ c)
view_by_lem true b d m k n c e = let z : ◌≡◌ {A = ℕ} 0 1 = cc in absurd (omega arith)
view_by_lem false false d m k n c e = let z : ◌≡◌ {A = ℕ} 0 1 = cc in absurd (omega arith)
view_by_lem false true false m k n c e = let z : ◌≡◌ {A = ℕ} 0 1 = cc in absurd (omega arith)
view_by_lem false true true m k n c e = (refl, ap rows_told e, ap columns_told e)

module _ (knows : ℕ → ℕ → Bool) (p : ℕ) (f : Words) where
  pub view_carried : 8 < p → view_by knows p f ≡ Err TooManyCarried
  unfolding view_by
  view_carried h = rw (lt-ltb 8 p h)

  pub view_unframed : p ≤ 8 → framed f ≡ false → view_by knows p f ≡ Err BadFrame
  unfolding view_by
  view_unframed h e = rw (le-ltb 8 p h, e)

  pub view_unknown : p ≤ 8 → framed f ≡ true → knows p (column_count f) ≡ false → view_by knows p f ≡ Err BadColumns
  unfolding view_by
  view_unknown h e k = rw (le-ltb 8 p h, e, k)

  pub view_known : p ≤ 8 → framed f ≡ true → knows p (column_count f) ≡ true → view_by knows p f ≡ Ok (view_of (row_count f) (column_count f))
  unfolding view_by
  view_known h e k = rw (le-ltb 8 p h, e, k)

  -- What a view that is not refused says of the words: a frame of these columns, with these rows.
  pub view_told : (n c : ℕ) → view_by knows p f ≡ Ok (view_of n c) → (is_frame c f ≡ true) × (n ≡ row_count f)
  unfolding view_by
  view_told n c e =
      let t = view_by_lem (ltb 8 p) (framed f) (knows p (column_count f)) (row_count f) (column_count f) n c e in
      (rw t.2 at (framed_by f ∙ t.0), sym t.1)

  -- A view of a frame of c columns, in one line.
  pub view_frame : (c : ℕ) → is_frame c f ≡ true → view_by knows p f ≡ cond (ltb 8 p) (Err TooManyCarried) (cond (not (knows p c)) (Err BadColumns) (Ok (view_of (row_count f) c)))
  unfolding view_by
  view_frame c h = rw (frame_framed c f h, count_is c f h)
