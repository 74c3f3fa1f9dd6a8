-- Two tables in group order, side by side, are the one added to the other. Assumes nothing.
use mathlib.Core.Path.{◌≡◌, refl, sym, ap, ◌∙◌}
use mathlib.Core.List.{List, [], ◌∷◌}
use Prim.Native.Nat.{ℕ}
use native.Mathlib.Omega.{arith}
use Rattle.frames.specs.Cells.{Cell}
use Rattle.order.specs.Order.{cmp_group}
use Rattle.order.specs.declared.options.Options.{Options}
use Rattle.std.specs.declared.cmp.Ordering.{Ordering}
use Rattle.std.specs.declared.cmp.Ordering.TheVariants.{Less, Equal, Greater}
use Rattle.order.proofs.OrderLaws.{cmp_group_is, greater_less, less_greater, equal_flip}
use Rattle.takings.specs.Subtotals.{Subtotal, cmp_sub, plus, insert, add_all}
use Rattle.takings.proofs.SubtotalLaws.{every_map, Above, Rising}
use Rattle.subtotals.specs.takejoin.Join.{side, joined}

-- ---- an arm that is known
module _ (x y v : List Subtotal) where
  arm_less : (z : Ordering) → z ≡ Less → ◌≡◌ {A = List Subtotal} (elim z [ Less ↦ x | Equal ↦ y | Greater ↦ v ]) x
  arm_less Less e = refl
  arm_less Equal e = let n : ◌≡◌ {A = ℕ} 0 1 = cc in absurd (omega arith)
  arm_less Greater e = let n : ◌≡◌ {A = ℕ} 0 1 = cc in absurd (omega arith)

  arm_equal : (z : Ordering) → z ≡ Equal → ◌≡◌ {A = List Subtotal} (elim z [ Less ↦ x | Equal ↦ y | Greater ↦ v ]) y
  arm_equal Less e = let n : ◌≡◌ {A = ℕ} 0 1 = cc in absurd (omega arith)
  arm_equal Equal e = refl
  arm_equal Greater e = let n : ◌≡◌ {A = ℕ} 0 1 = cc in absurd (omega arith)

  arm_greater : (z : Ordering) → z ≡ Greater → ◌≡◌ {A = List Subtotal} (elim z [ Less ↦ x | Equal ↦ y | Greater ↦ v ]) v
  arm_greater Less e = let n : ◌≡◌ {A = ℕ} 0 1 = cc in absurd (omega arith)
  arm_greater Equal e = let n : ◌≡◌ {A = ℕ} 0 1 = cc in absurd (omega arith)
  arm_greater Greater e = refl

-- ---- two answers are not one
pub less_not_greater : Less ≡ Greater → ⊥
less_not_greater e = let n : ◌≡◌ {A = ℕ} 0 1 = cc in omega arith

pub equal_not_greater : Equal ≡ Greater → ⊥
equal_not_greater e = let n : ◌≡◌ {A = ℕ} 0 1 = cc in omega arith

pub equal_not_less : Equal ≡ Less → ⊥
equal_not_less e = let n : ◌≡◌ {A = ℕ} 0 1 = cc in omega arith

pub greater_not_less : Greater ≡ Less → ⊥
greater_not_less e = let n : ◌≡◌ {A = ℕ} 0 1 = cc in omega arith

module _ (o : Options) where
  -- ---- the next row
  pub joined_less : (t : Subtotal) (ts us : List Subtotal) → side o (t ∷ ts) us ≡ Less → joined o (t ∷ ts) us ≡ t ∷ joined o ts us
  unfolding joined
  joined_less t [] [] e = refl
  joined_less t (x ∷ ts) [] e = refl
  joined_less t ts (u ∷ us) e = arm_less (t ∷ joined o ts (u ∷ us)) (plus t u ∷ joined o ts us) (u ∷ joined o (t ∷ ts) us) (cmp_sub o t u) e

  pub joined_greater : (ts : List Subtotal) (u : Subtotal) (us : List Subtotal) → side o ts (u ∷ us) ≡ Greater → joined o ts (u ∷ us) ≡ u ∷ joined o ts us
  unfolding joined
  joined_greater [] u us e = refl
  joined_greater (t ∷ ts) u us e = arm_greater (t ∷ joined o ts (u ∷ us)) (plus t u ∷ joined o ts us) (u ∷ joined o (t ∷ ts) us) (cmp_sub o t u) e

  pub joined_equal : (t : Subtotal) (ts : List Subtotal) (u : Subtotal) (us : List Subtotal) → side o (t ∷ ts) (u ∷ us) ≡ Equal → joined o (t ∷ ts) (u ∷ us) ≡ plus t u ∷ joined o ts us
  unfolding joined
  joined_equal t ts u us e = arm_equal (t ∷ joined o ts (u ∷ us)) (plus t u ∷ joined o ts us) (u ∷ joined o (t ∷ ts) us) (cmp_sub o t u) e

  -- ---- added one by one
  insert_above : (u t : Subtotal) (ts : List Subtotal) → cmp_sub o u t ≡ Greater → insert o u (t ∷ ts) ≡ t ∷ insert o u ts
  unfolding insert
  insert_above u t ts e = arm_greater (u ∷ t ∷ ts) (plus t u ∷ ts) (t ∷ insert o u ts) (cmp_sub o u t) e

  -- A row before all that is added stays where it is.
  stays : (t : Subtotal) (ts us : List Subtotal) → Above o t.group us → add_all o (t ∷ ts) us ≡ t ∷ add_all o ts us
  unfolding add_all
  stays t ts [] a = refl
  stays t ts (u ∷ us) a =
      ap (λ (z : List Subtotal). add_all o z us) (insert_above u t ts (less_greater (cmp_group_is o) t.group u.group a.0)) ∙ stays t (insert o u ts) us a.1

  above_then : (g h : List Cell) (ts : List Subtotal) → cmp_group o g h ≡ Less → Above o h ts → Above o g ts
  above_then g h ts l = every_map (λ t. cmp_group o h t.group ≡ Less) (λ t. cmp_group o g t.group ≡ Less) (λ t. (cmp_group_is o).less g h t.group l) ts

  above_same : (g h : List Cell) (ts : List Subtotal) → cmp_group o g h ≡ Equal → Above o h ts → Above o g ts
  above_same g h ts l = every_map (λ t. cmp_group o h t.group ≡ Less) (λ t. cmp_group o g t.group ≡ Less) (λ t k. (cmp_group_is o).same g h t.group l ∙ k) ts

  nothing_added : (ts : List Subtotal) → add_all o ts [] ≡ ts
  unfolding add_all
  nothing_added ts = refl

  one_added : (ts : List Subtotal) (u : Subtotal) (us : List Subtotal) → add_all o ts (u ∷ us) ≡ add_all o (insert o u ts) us
  unfolding add_all
  one_added ts u us = refl

  insert_nil : (u : Subtotal) → insert o u [] ≡ u ∷ []
  unfolding insert
  insert_nil u = refl

  insert_less : (u t : Subtotal) (ts : List Subtotal) → cmp_sub o u t ≡ Less → insert o u (t ∷ ts) ≡ u ∷ t ∷ ts
  unfolding insert
  insert_less u t ts e = arm_less (u ∷ t ∷ ts) (plus t u ∷ ts) (t ∷ insert o u ts) (cmp_sub o u t) e

  insert_equal : (u t : Subtotal) (ts : List Subtotal) → cmp_sub o u t ≡ Equal → insert o u (t ∷ ts) ≡ plus t u ∷ ts
  unfolding insert
  insert_equal u t ts e = arm_equal (u ∷ t ∷ ts) (plus t u ∷ ts) (t ∷ insert o u ts) (cmp_sub o u t) e

  joined_nil : (us : List Subtotal) → joined o [] us ≡ us
  unfolding joined
  joined_nil us = refl

  joined_none : (ts : List Subtotal) → joined o ts [] ≡ ts
  unfolding joined
  joined_none [] = refl
  joined_none (t ∷ ts) = refl

  pub added_joined : (ts us : List Subtotal) → Rising o us → add_all o ts us ≡ joined o ts us
  added_joined ts [] r = nothing_added ts ∙ sym (joined_none ts)
  added_joined [] (u ∷ us) r =
      one_added [] u us ∙ ap (λ (z : List Subtotal). add_all o z us) (insert_nil u) ∙ stays u [] us r.0
      ∙ ap (λ (z : List Subtotal). u ∷ z) (added_joined [] us r.1 ∙ joined_nil us) ∙ sym (joined_nil (u ∷ us))
  added_joined (t ∷ ts) (u ∷ us) r =
      by (cmp_sub o t u) refl (added_joined ts (u ∷ us) r) (added_joined ts us r.1) (added_joined (t ∷ ts) us r.1)
    where
      by : (z : Ordering) → cmp_sub o t u ≡ z → add_all o ts (u ∷ us) ≡ joined o ts (u ∷ us) → add_all o ts us ≡ joined o ts us → add_all o (t ∷ ts) us ≡ joined o (t ∷ ts) us
          → add_all o (t ∷ ts) (u ∷ us) ≡ joined o (t ∷ ts) (u ∷ us)
      by Less e a b c = stays t ts (u ∷ us) (e, above_then t.group u.group us e r.0) ∙ ap (λ (z : List Subtotal). t ∷ z) a ∙ sym (joined_less t ts (u ∷ us) e)
      by Equal e a b c =
          one_added (t ∷ ts) u us ∙ ap (λ (z : List Subtotal). add_all o z us) (insert_equal u t ts (equal_flip (cmp_group_is o) t.group u.group e))
          ∙ stays (plus t u) ts us (above_same t.group u.group us e r.0) ∙ ap (λ (z : List Subtotal). plus t u ∷ z) b ∙ sym (joined_equal t ts u us e)
      by Greater e a b c =
          one_added (t ∷ ts) u us ∙ ap (λ (z : List Subtotal). add_all o z us) (insert_less u t ts (greater_less (cmp_group_is o) t.group u.group e))
          ∙ stays u (t ∷ ts) us r.0 ∙ ap (λ (z : List Subtotal). u ∷ z) c ∙ sym (joined_greater (t ∷ ts) u us e)
