-- Laws of groups and keys: what stands between two rows of one group, nulls before every key, and distances on one side of a key. Assumes nothing.
use mathlib.Core.Path.{◌≡◌, refl, sym, ◌∙◌}
use mathlib.Core.Bool.{Bool, true, false}
use mathlib.Core.List.{List}
use mathlib.Core.Logic.{◌⊎◌, inl, inr}
use Prim.Native.Nat.{ℕ, zero, suc, ◌+◌, ◌-◌, ◌≤◌, ◌<◌}
use native.Mathlib.Omega.{arith}
use native.Mathlib.Decide.{dec_lt}
use borrow.Author.Tests.{ltb-true, ltb-false, lt-ltb, le-ltb}
use lib.IntN.{ℤ, pos, negsuc, nat_abs, sub_ℕ}
use lib.Signed.{lt_z}
use Rattle.frames.specs.Cells.{Cell, null, value, cell, is_null}
use Rattle.order.specs.options.Options.{key_rule}
use Rattle.order.specs.Order.{cmp_z, cmp_cell, cmp_group, cmp_row, null_in, null_group, distance}
use Rattle.order.specs.declared.options.Options.{Options}
use Rattle.std.specs.declared.cmp.Ordering.TheVariants.{Less, Equal, Greater}
use Rattle.order.proofs.OrderLaws.{AtMost, three, three_less, less_greater, equal_at_most, equal_flip, at_most, at_most_equal, cmp_z_is, cmp_cell_is, cell_equal, cmp_group_is, cmp_key, group_equal, group_at_most, row_by_key}

-- ---- rows of one group compare by their keys
module _ (o : Options) (r s : List Cell) (e : cmp_group o r s ≡ Equal) where
  pub key_at_most : AtMost (cmp_row o) r s → AtMost (cmp_key o) r s
  key_at_most h = λ g. h (row_by_key o r s e ∙ g)

  pub key_less : cmp_row o r s ≡ Less → cmp_key o r s ≡ Less
  key_less h = sym (row_by_key o r s e) ∙ h

-- Row s between rows r and u of one group: it has their group, and its key stands between theirs.
pub record Inside (o : Options) (r s u : List Cell) : Type 0 where
  pub before : cmp_group o r s ≡ Equal
  pub behind : cmp_group o s u ≡ Equal
  pub from : AtMost (cmp_key o) r s
  pub to : AtMost (cmp_key o) s u

pub inside : (o : Options) (r s u : List Cell) → AtMost (cmp_row o) r s → AtMost (cmp_row o) s u → cmp_group o r u ≡ Equal → Inside o r s u
inside o r s u h k e =
    let G = cmp_group_is o in
    let b : cmp_group o r s ≡ Equal = at_most_equal G r s (group_at_most o r s h) (at_most G s u r (group_at_most o s u k) (equal_at_most G u r (equal_flip G r u e))) in
    let c : cmp_group o s u ≡ Equal = sym (G.same r s u b) ∙ e in
    record { before = b; behind = c; from = key_at_most o r s b h; to = key_at_most o s u c k }

-- ---- nulls
-- Nulls are first: what a key is at most is a key.
pub key_up : (c d : Cell) → AtMost (cmp_cell key_rule) c d → is_null c ≡ false → is_null d ≡ false
key_up null d h e = let z : ◌≡◌ {A = ℕ} 0 1 = cc in absurd (omega arith)
key_up (value a) null h e = absurd (h refl)
key_up (value a) (value b) h e = refl

-- Of equal groups both are null or neither.
null_in_lem : (j : ℕ) (r s : List Cell) → ((i : ℕ) → i < j → cell i r ≡ cell i s) → null_in j r ≡ null_in j s
unfolding null_in
null_in_lem zero r s h = refl
null_in_lem (suc j) r s h = rw (null_in_lem j r s (λ i l. h i (omega arith)), h j (omega arith))

pub null_group_lem : (o : Options) (r s : List Cell) → cmp_group o r s ≡ Equal → null_group o r ≡ null_group o s
null_group_lem o r s e = null_in_lem o.by r s (group_equal o r s e)

-- ---- distances, by the signs
sub_abs : (a b : ℕ) → nat_abs (sub_ℕ a b) ≡ (a - b) + (b - a)
sub_abs a b = by (dec_lt a b)
  where
    by : Dec (a < b) → nat_abs (sub_ℕ a b) ≡ (a - b) + (b - a)
    by (yes l) = simp (lt-ltb a b l) (omega arith)
    by (no g) = simp (le-ltb a b (omega arith)) (omega arith)

unfoldable pub gap : ℤ → ℤ → ℕ
gap (pos a) (pos b) = (a - b) + (b - a)
gap (pos a) (negsuc b) = a + suc b
gap (negsuc a) (pos b) = suc a + b
gap (negsuc a) (negsuc b) = (a - b) + (b - a)

pub distance_gap : (a b : ℤ) → distance (value a) (value b) ≡ gap a b
unfolding gap
distance_gap (pos a) (pos zero) = omega arith
distance_gap (pos a) (pos (suc b)) = sub_abs a (suc b)
distance_gap (pos a) (negsuc b) = refl
distance_gap (negsuc a) (pos zero) = sub_abs zero (suc a) ∙ omega arith
distance_gap (negsuc a) (pos (suc b)) = omega arith
distance_gap (negsuc a) (negsuc b) = sub_abs (suc b) (suc a) ∙ omega arith

-- Of two numbers on one side of v the one between is nearer: a ≤ c ≤ v, and v ≤ h < f.
gap_below : (v c a : ℤ) → lt_z c a ≡ false → lt_z v c ≡ false → gap c v ≤ gap a v
unfolding gap
gap_below (pos v) (pos c) (pos a) h k = omega (arith, ltb-false c a h, ltb-false v c k)
gap_below (pos v) (pos c) (negsuc a) h k = omega (arith, ltb-false v c k)
gap_below (pos v) (negsuc c) (pos a) h k = let z : ◌≡◌ {A = ℕ} 0 1 = cc in absurd (omega arith)
gap_below (pos v) (negsuc c) (negsuc a) h k = omega (arith, ltb-false a c h)
gap_below (negsuc v) (pos c) a h k = let z : ◌≡◌ {A = ℕ} 0 1 = cc in absurd (omega arith)
gap_below (negsuc v) (negsuc c) (pos a) h k = let z : ◌≡◌ {A = ℕ} 0 1 = cc in absurd (omega arith)
gap_below (negsuc v) (negsuc c) (negsuc a) h k = omega (arith, ltb-false a c h, ltb-false c v k)

gap_above : (v h f : ℤ) → lt_z h v ≡ false → lt_z h f ≡ true → gap h v < gap f v
unfolding gap
gap_above (pos v) (pos h) (pos f) a k = omega (arith, ltb-false h v a, ltb-true h f k)
gap_above (pos v) (pos h) (negsuc f) a k = let z : ◌≡◌ {A = ℕ} 0 1 = cc in absurd (omega arith)
gap_above (pos v) (negsuc h) f a k = let z : ◌≡◌ {A = ℕ} 0 1 = cc in absurd (omega arith)
gap_above (negsuc v) (pos h) (pos f) a k = omega (arith, ltb-true h f k)
gap_above (negsuc v) (pos h) (negsuc f) a k = let z : ◌≡◌ {A = ℕ} 0 1 = cc in absurd (omega arith)
gap_above (negsuc v) (negsuc h) (pos f) a k = omega (arith, ltb-false v h a)
gap_above (negsuc v) (negsuc h) (negsuc f) a k = omega (arith, ltb-false v h a, ltb-true f h k)

-- The order of numbers as a test.
not_above : (a b : ℤ) → AtMost cmp_z a b → lt_z b a ≡ false
not_above a b h = by (lt_z b a) refl
  where
    by : (t : Bool) → lt_z b a ≡ t → lt_z b a ≡ false
    by true e = absurd (h (less_greater cmp_z_is b a (rw e)))
    by false e = e

-- ---- the same for keys
pub nearer_below : (v c a : Cell) → is_null a ≡ false → AtMost (cmp_cell key_rule) a c → AtMost (cmp_cell key_rule) c v → distance c v ≤ distance a v
nearer_below v c null n h k = let z : ◌≡◌ {A = ℕ} 0 1 = cc in absurd (omega arith)
nearer_below v null (value a) n h k = absurd (h refl)
nearer_below null (value c) (value a) n h k = absurd (k refl)
nearer_below (value v) (value c) (value a) n h k = rw (distance_gap c v, distance_gap a v) (gap_below v c a (not_above a c h) (not_above c v k))

pub farther_above : (v h f : Cell) → is_null v ≡ false → AtMost (cmp_cell key_rule) v h → cmp_cell key_rule h f ≡ Less → distance h v < distance f v
farther_above null h f n a k = let z : ◌≡◌ {A = ℕ} 0 1 = cc in absurd (omega arith)
farther_above (value v) null f n a k = absurd (a refl)
farther_above (value v) (value h) null n a k = let z : ◌≡◌ {A = ℕ} 0 1 = cc in absurd (omega arith)
farther_above (value v) (value h) (value f) n a k =
    rw (distance_gap h v, distance_gap f v) (gap_above v h f (not_above v h a) (three_less (lt_z h f) (lt_z f h) k))

pub nearer_above : (v h f : Cell) → is_null v ≡ false → AtMost (cmp_cell key_rule) v h → AtMost (cmp_cell key_rule) h f → distance h v ≤ distance f v
nearer_above v h f n a k = by (three (cmp_cell_is key_rule) h f)
  where
    by : (cmp_cell key_rule h f ≡ Less) ⊎ ((cmp_cell key_rule h f ≡ Equal) ⊎ (cmp_cell key_rule h f ≡ Greater)) → distance h v ≤ distance f v
    by (inl l) = omega (arith, farther_above v h f n a l)
    by (inr (inl e)) = rw (cell_equal key_rule h f e) (omega arith)
    by (inr (inr g)) = absurd (k g)
