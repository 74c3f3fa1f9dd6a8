-- The tests of the leaves: of a key's side, of two distances, of the tolerance, of two rows' runs. Assumes nothing.
use mathlib.Core.Path.{◌≡◌, refl, sym}
use mathlib.Core.Bool.{Bool, true, false, cond, ◌&&◌, ◌||◌, or-true, or-false}
use mathlib.Core.List.{List}
use mathlib.Core.Logic.{◌⊎◌}
use Prim.Native.Nat.{ℕ, ◌≤◌, ◌<◌}
use native.Mathlib.Omega.{arith}
use borrow.Author.Tests.{lt-ltb, le-ltb, eq-eqb, ne_eqb, ltb-true}
use denote.Enum.Declared.{tag_of}
use lib.Dec.{ltb, eqb, leb-zero}
use lib.IntN.{ℤ, pos, negsuc}
use lib.Signed.{lt_z, le_z}
use Rattle.frames.specs.Cells.{Cell, null, value, is_zero, cell_of, is_null}
use Rattle.order.specs.options.Options.{key_rule}
use Rattle.order.specs.Order.{cmp_z, cmp_cell, cmp_group, null_group, is_less, is_equal, is_greater}
use Rattle.order.specs.declared.options.Options.{Options}
use Rattle.std.specs.declared.cmp.Ordering.{Ordering}
use Rattle.std.specs.declared.cmp.Ordering.TheVariants.{Less, Equal, Greater}
use Rattle.std.specs.contracts.cmp.Ordering.{the_type}
use Rattle.order.proofs.OrderLaws.{cmp_z_is, less_greater}
use Rattle.order.proofs.RowLaws.{next_stop}
use Rattle.matching.specs.Groups.{same_run}

-- A cell that is not null is its value.
pub present : (v m : ℤ) → is_null (cell_of v m) ≡ false → cell_of v m ≡ value v
present v m = by (is_zero m)
  where
    by : (z : Bool) → is_null (cond z null (value v)) ≡ false → cond z null (value v) ≡ value v
    by true e = cc
    by false e = refl

-- ---- two neighbouring keys, of which the first is there: whether it is greater than the second
falls_null : (x y : Cell) → is_null x ≡ false → is_null y ≡ true → is_greater (cmp_cell key_rule x y) ≡ true
falls_null null y e f = cc
falls_null (value a) null e f = refl
falls_null (value a) (value b) e f = cc

module _ (va ma vb mb : ℤ) (k : is_null (cell_of va ma) ≡ false) where
  pub falls_end : is_null (cell_of vb mb) ≡ true → is_greater (cmp_cell key_rule (cell_of va ma) (cell_of vb mb)) ≡ true
  falls_end n = falls_null (cell_of va ma) (cell_of vb mb) k n

  pub falls_less : is_null (cell_of vb mb) ≡ false → lt_z vb va ≡ true → is_greater (cmp_cell key_rule (cell_of va ma) (cell_of vb mb)) ≡ true
  falls_less n h = rw (present va ma k, present vb mb n, less_greater cmp_z_is vb va (rw h))

  pub falls_not : is_null (cell_of vb mb) ≡ false → lt_z vb va ≡ false → is_greater (cmp_cell key_rule (cell_of va ma) (cell_of vb mb)) ≡ false
  falls_not n h = rw (present va ma k, present vb mb n, h) (below (lt_z va vb))
    where
      below : (t : Bool) → is_greater (cond t Less Equal) ≡ false
      below true = refl
      below false = refl

-- ---- two distances, and what decides a tie
module _ (x y : ℕ) (z : Bool) where
  pub near_first : x < y → true ≡ (ltb x y || (eqb x y && z))
  near_first h = rw (lt-ltb x y h)

  pub near_behind : y < x → false ≡ (ltb x y || (eqb x y && z))
  near_behind h = rw (le-ltb x y (omega arith), ne_eqb x y (λ (e : x ≡ y). omega arith))

  pub near_tie : x ≤ y → y ≤ x → z ≡ (ltb x y || (eqb x y && z))
  near_tie h k = rw (le-ltb x y k, eq-eqb x y (omega arith))

pub not_less : (a b : ℤ) → lt_z a b ≡ false → is_less (cmp_z a b) ≡ false
not_less a b h = rw h (by (lt_z b a))
  where
    by : (t : Bool) → is_less (cond t Greater Equal) ≡ false
    by true = refl
    by false = refl

-- ---- the tolerance: below 0 it is none
pub far_none : (t : ℤ) (b : Bool) → lt_z t (pos 0) ≡ true → false ≡ (le_z (pos 0) t && b)
far_none (pos n) b h = let l = ltb-true n 0 h in absurd (omega arith)
far_none (negsuc n) b h = refl

pub far_some : (t : ℤ) (b : Bool) → lt_z t (pos 0) ≡ false → b ≡ (le_z (pos 0) t && b)
far_some (pos n) b h = rw (leb-zero n)
far_some (negsuc n) b h = cc

-- ---- one run: equal groups, or both null
module _ (o : Options) (r s : List Cell) where
  pub same_yes : cmp_group o r s ≡ Equal → true ≡ same_run o r s
  same_yes e = rw e (sym (or-true (null_group o r && null_group o s)))

  pub same_no : is_equal (cmp_group o r s) ≡ false → null_group o r ≡ false → false ≡ same_run o r s
  same_no e q = rw (q, e)

  pub same_nulls : is_equal (cmp_group o r s) ≡ false → null_group o r ≡ true → null_group o s ≡ same_run o r s
  same_nulls e q = rw (q, e) (sym (or-false (null_group o s)))

-- Where Equal has an arm of its own.
pub not_equal_arm : (x : Ordering) → (tag_of the_type x ≡ 0) ⊎ (tag_of the_type x ≡ 2) → is_equal x ≡ false
not_equal_arm Less t = refl
not_equal_arm Equal t = let e = next_stop Equal Less t in cc
not_equal_arm Greater t = refl
