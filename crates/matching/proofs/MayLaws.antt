-- The right rows that may be chosen for a left row, taken apart once; what a strategy's side says of keys; and nearness as an order of keys. Assumes nothing.
use mathlib.Core.Path.{◌≡◌, refl, ap, ◌∙◌}
use mathlib.Core.Bool.{Bool, true, false, not, ◌&&◌, ◌||◌}
use mathlib.Core.List.{List}
use mathlib.Core.Logic.{◌⊎◌, inl, inr}
use Prim.Native.Nat.{ℕ, ◌≤◌, ◌<◌}
use native.Mathlib.Omega.{arith}
use native.Mathlib.Decide.{dec_lt}
use borrow.Author.Tests.{ltb-true, eqb-true, lt-ltb, le-ltb, eq-eqb, not-true}
use lib.Dec.{ltb, eqb}
use Rattle.frames.specs.Cells.{Cell}
use Rattle.order.specs.options.Options.{strategy_of, key_rule}
use Rattle.order.specs.Order.{cmp_cell, cmp_group, is_less, is_equal, null_group, null_key, key_of, distance}
use Rattle.order.proofs.OrderLaws.{AtMost, cmp_cell_is, cmp_key, at_most, less_greater, greater_less, less_at_most}
use Rattle.frames.proofs.BoolLaws.{and-true}
use Rattle.order.proofs.KeyLaws.{null_group_lem}
use Rattle.order.specs.declared.options.Options.{Options}
use Rattle.std.specs.declared.cmp.Ordering.{Ordering}
use Rattle.std.specs.declared.cmp.Ordering.TheVariants.{Less, Equal, Greater}
use Rattle.order.specs.declared.options.Strategy.{Strategy}
use Rattle.order.specs.declared.options.Strategy.TheVariants.{Backward, Forward, Nearest}
use Rattle.matching.specs.Match.{on_side, fits, nearer, takes_over, same_group}

-- ---- tests: none is both, and what cannot be true is false
pub never : {A : Type 0} (t : Bool) → t ≡ true → t ≡ false → A
never t p q = let z : ◌≡◌ {A = ℕ} 0 1 = cc in absurd (omega arith)

pub is_false : (t : Bool) → (t ≡ true → ⊥) → t ≡ false
is_false true h = absurd (h refl)
is_false false h = refl

-- ---- what may be chosen
abbrev pub may : Options → List Cell → List Cell → Bool
may o x r = same_group o x r && fits o x r

-- Neither group is null, since they are equal.
pub record May (o : Options) (x r : List Cell) : Type 0 where
  pub group : cmp_group o r x ≡ Equal
  pub whole : null_group o x ≡ false
  pub left : null_key o x ≡ false
  pub right : null_key o r ≡ false
  pub side : on_side (strategy_of o) o.allow_eq (cmp_key o r x) ≡ true

is_equal_lem : (z : Ordering) → is_equal z ≡ true → z ≡ Equal
is_equal_lem Less e = cc
is_equal_lem Equal e = refl
is_equal_lem Greater e = cc

pub may_out : (o : Options) (x r : List Cell) → may o x r ≡ true → May o x r
unfolding fits
may_out o x r e =
    let p = and-true (same_group o x r) (fits o x r) e in
    let g = and-true (not (null_group o x) && not (null_group o r)) (is_equal (cmp_group o r x)) p.0 in
    let n = and-true (not (null_group o x)) (not (null_group o r)) g.0 in
    let f = and-true (not (null_key o x) && not (null_key o r)) (on_side (strategy_of o) o.allow_eq (cmp_key o r x)) p.1 in
    let k = and-true (not (null_key o x)) (not (null_key o r)) f.0 in
    record {
      group = is_equal_lem (cmp_group o r x) g.1;
      whole = not-true (null_group o x) n.0;
      left = not-true (null_key o x) k.0;
      right = not-true (null_key o r) k.1;
      side = f.1;
    }

pub may_in : (o : Options) (x r : List Cell) → May o x r → may o x r ≡ true
unfolding fits
may_in o x r m = rw (m.whole, null_group_lem o r x m.group ∙ m.whole, m.group, m.left, m.right, m.side)

-- Where one row may be chosen, so may another that has the group, a key, and a place on the side.
pub may_too : (o : Options) (x r s : List Cell) → May o x r → cmp_group o s x ≡ Equal → null_key o s ≡ false → on_side (strategy_of o) o.allow_eq (cmp_key o s x) ≡ true
    → may o x s ≡ true
may_too o x r s m g n d = may_in o x s (record { group = g; whole = m.whole; left = m.left; right = n; side = d })

-- ---- the sides: Backward's keys are at most the left key, less where equality is off; Forward's are at least it
pub back_side : (q : Bool) (z : Ordering) → on_side Backward q z ≡ true → z ≡ Greater → ⊥
back_side q Less e g = let u : ◌≡◌ {A = ℕ} 0 1 = cc in omega arith
back_side q Equal e g = let u : ◌≡◌ {A = ℕ} 0 1 = cc in omega arith
back_side true Greater e g = let u : ◌≡◌ {A = ℕ} 0 1 = cc in omega arith
back_side false Greater e g = let u : ◌≡◌ {A = ℕ} 0 1 = cc in omega arith

pub back_less : (z : Ordering) → on_side Backward false z ≡ true → z ≡ Less
back_less Less e = refl
back_less Equal e = cc
back_less Greater e = cc

pub fore_side : (q : Bool) (z : Ordering) → on_side Forward q z ≡ true → z ≡ Less → ⊥
fore_side true Less e g = let u : ◌≡◌ {A = ℕ} 0 1 = cc in omega arith
fore_side false Less e g = let u : ◌≡◌ {A = ℕ} 0 1 = cc in omega arith
fore_side q Equal e g = let u : ◌≡◌ {A = ℕ} 0 1 = cc in omega arith
fore_side q Greater e g = let u : ◌≡◌ {A = ℕ} 0 1 = cc in omega arith

pub side_fore : (z : Ordering) → (z ≡ Less → ⊥) → on_side Forward true z ≡ true
side_fore Less h = absurd (h refl)
side_fore Equal h = refl
side_fore Greater h = refl

-- ---- nearness to v: least distance, then greater key
abbrev Near : Cell → Cell → Cell → Type 0
Near v r c = (distance r v < distance c v) ⊎ ((distance r v ≡ distance c v) × AtMost (cmp_cell key_rule) c r)

tests : (a b c : Bool) → (a || (b && not c)) ≡ true → (a ≡ true) ⊎ ((b ≡ true) × (c ≡ false))
tests true b c e = inl refl
tests false true c e = inr (refl, not-true c e)
tests false false c e = inl e

less_not : (z : Ordering) → (z ≡ Less → ⊥) → is_less z ≡ false
less_not Less h = absurd (h refl)
less_not Equal h = refl
less_not Greater h = refl

module _ (v : Cell) where
  near_out : (r c : Cell) → nearer v r c ≡ true → Near v r c
  near_out r c e = by (tests (ltb (distance r v) (distance c v)) (eqb (distance r v) (distance c v)) (is_less (cmp_cell key_rule r c)) e)
    where
      by : (ltb (distance r v) (distance c v) ≡ true) ⊎ ((eqb (distance r v) (distance c v) ≡ true) × (is_less (cmp_cell key_rule r c) ≡ false)) → Near v r c
      by (inl l) = inl (ltb-true (distance r v) (distance c v) l)
      by (inr p) = inr (eqb-true (distance r v) (distance c v) p.0, λ g. never (is_less (cmp_cell key_rule r c)) (ap is_less (greater_less (cmp_cell_is key_rule) c r g)) p.1)

  near_in : (r c : Cell) → Near v r c → nearer v r c ≡ true
  near_in r c (inl l) = rw (lt-ltb (distance r v) (distance c v) l)
  near_in r c (inr p) =
      rw (
        le-ltb (distance r v) (distance c v) (omega arith),
        eq-eqb (distance r v) (distance c v) p.0,
        less_not (cmp_cell key_rule r c) (λ l. p.1 (less_greater (cmp_cell_is key_rule) r c l)),
      )

  -- Of two keys one is nearer, or as near.
  near_or : (r c : Cell) → nearer v r c ≡ false → Near v c r
  near_or r c e = by (dec_lt (distance c v) (distance r v)) (dec_lt (distance r v) (distance c v))
    where
      no_way : {A : Type 0} → Near v r c → A
      no_way n = never (nearer v r c) (near_in r c n) e

      by : Dec (distance c v < distance r v) → Dec (distance r v < distance c v) → Near v c r
      by (yes l) d = inl l
      by (no g) (yes l) = no_way (inl l)
      by (no g) (no h) = inr (omega arith, λ z. no_way (inr (omega arith, less_at_most (cmp_cell_is key_rule) c r (greater_less (cmp_cell_is key_rule) r c z))))

  near_trans : (r c a : Cell) → Near v r c → Near v c a → Near v r a
  near_trans r c a (inl l) (inl k) = inl (omega arith)
  near_trans r c a (inl l) (inr k) = inl (omega arith)
  near_trans r c a (inr l) (inl k) = inl (omega arith)
  near_trans r c a (inr l) (inr k) = inr (omega arith, at_most (cmp_cell_is key_rule) a c r k.1 l.1)

  near_least : (r c : Cell) → Near v r c → distance r v ≤ distance c v
  near_least r c (inl l) = omega arith
  near_least r c (inr l) = omega arith

  -- By distances: what is nearer is no farther, nor is what the other is not nearer than; what is no farther is nearer where its key is at least as great.
  pub nearer_least : (r c : Cell) → nearer v r c ≡ true → distance r v ≤ distance c v
  nearer_least r c e = near_least r c (near_out r c e)

  pub not_nearer_least : (r c : Cell) → nearer v r c ≡ false → distance c v ≤ distance r v
  not_nearer_least r c e = near_least c r (near_or r c e)

  pub nearer_by : (r c : Cell) → distance r v ≤ distance c v → AtMost (cmp_cell key_rule) c r → nearer v r c ≡ true
  nearer_by r c l k = near_in r c (by (dec_lt (distance r v) (distance c v)))
    where
      by : Dec (distance r v < distance c v) → Near v r c
      by (yes h) = inl h
      by (no h) = inr (omega arith, k)

  -- What is nearer than c is nearer than what c is nearer than, and than what is not nearer than c.
  pub nearer_then : (r c s : Cell) → nearer v r c ≡ true → nearer v c s ≡ true → nearer v r s ≡ true
  nearer_then r c s h k = near_in r s (near_trans r c s (near_out r c h) (near_out c s k))

  pub nearer_or : (r c s : Cell) → nearer v r c ≡ true → nearer v s c ≡ false → nearer v r s ≡ true
  nearer_or r c s h k = near_in r s (near_trans r c s (near_out r c h) (near_or s c k))

-- ---- by every strategy: what takes over c takes over what c takes over, and what does not take over c
module _ (o : Options) (x r c s : List Cell) where
  pub over_then : (w : Strategy) → takes_over o w x r c ≡ true → takes_over o w x c s ≡ true → takes_over o w x r s ≡ true
  unfolding takes_over
  over_then Backward h k = refl
  over_then Forward h k = h
  over_then Nearest h k = nearer_then (key_of o x) (key_of o r) (key_of o c) (key_of o s) h k

  pub over_or : (w : Strategy) → takes_over o w x r c ≡ true → takes_over o w x s c ≡ false → takes_over o w x r s ≡ true
  unfolding takes_over
  over_or Backward h k = refl
  over_or Forward h k = h
  over_or Nearest h k = nearer_or (key_of o x) (key_of o r) (key_of o c) (key_of o s) h k
