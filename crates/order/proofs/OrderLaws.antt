-- The laws of the order: each comparison is reflexive, flips with its sides, treats equals alike and is transitive; rows and groups are Equal exactly where
-- all compared cells are equal. Layers above use these laws, never the text of a comparison. Assumes nothing.
use mathlib.Core.Path.{◌≡◌, refl, sym, ap, ◌∙◌}
use mathlib.Core.Bool.{Bool, true, false, cond}
use mathlib.Core.List.{List}
use mathlib.Core.Logic.{◌⊎◌, inl, inr}
use Prim.Native.Nat.{ℕ, zero, suc, ◌<◌}
use native.Mathlib.Omega.{arith}
use native.Mathlib.Decide.{ℕ_discrete}
use borrow.Author.Tests.{ltb-true, ltb-false, lt-ltb, le-ltb}
use lib.IntN.{ℤ, pos, negsuc}
use lib.Signed.{lt_z}
use Rattle.frames.specs.Cells.{Cell, null, value, cell, Words}
use Rattle.order.specs.ranks.Ranks.{place_in}
use Rattle.order.specs.options.Options.{Rule, by_rule, key_rule}
use Rattle.order.specs.Order.{next, cmp_z, cmp_value, cmp_cell, cmp_first, cmp_group, cmp_row, key_of}
use Rattle.order.specs.declared.options.Options.{Options}
use Rattle.std.specs.declared.cmp.Ordering.{Ordering}
use Rattle.std.specs.declared.cmp.Ordering.TheVariants.{Less, Equal, Greater}

-- An order with its sides swapped.
abbrev pub flip : Ordering → Ordering
flip Less = Greater
flip Equal = Equal
flip Greater = Less

-- The laws of a comparison.
pub record IsOrder {A : Type 0} (f : A → A → Ordering) : Type 0 where
  pub equal : (x : A) → f x x ≡ Equal
  pub flipped : (x y : A) → f x y ≡ flip (f y x)
  pub same : (x y z : A) → f x y ≡ Equal → f x z ≡ f y z
  pub less : (x y z : A) → f x y ≡ Less → f y z ≡ Less → f x z ≡ Less

-- At most: not greater.
abbrev pub AtMost : {A : Type 0} → (A → A → Ordering) → A → A → Type 0
AtMost f x y = f x y ≡ Greater → ⊥

-- ---- what follows from the laws
module _ {A : Type 0} {f : A → A → Ordering} (F : IsOrder f) where
  -- Equals compare alike on the right too.
  pub same_right : (x y z : A) → f y z ≡ Equal → f x z ≡ f x y
  same_right x y z e = F.flipped x z ∙ ap flip (F.same z y x (F.flipped z y ∙ ap flip e)) ∙ sym (F.flipped x y)

  -- One of three.
  pub three : (x y : A) → (f x y ≡ Less) ⊎ ((f x y ≡ Equal) ⊎ (f x y ≡ Greater))
  three x y = by (f x y) refl
    where
      by : (r : Ordering) → f x y ≡ r → (f x y ≡ Less) ⊎ ((f x y ≡ Equal) ⊎ (f x y ≡ Greater))
      by Less e = inl e
      by Equal e = inr (inl e)
      by Greater e = inr (inr e)

  pub less_at_most : (x y : A) → f x y ≡ Less → AtMost f x y
  less_at_most x y h = λ g. let e : ◌≡◌ {A = ℕ} 0 1 = cc in omega arith

  pub equal_at_most : (x y : A) → f x y ≡ Equal → AtMost f x y
  equal_at_most x y h = λ g. let e : ◌≡◌ {A = ℕ} 0 1 = cc in omega arith

  pub at_most_refl : (x : A) → AtMost f x x
  at_most_refl x = equal_at_most x x (F.equal x)

  pub less_greater : (x y : A) → f x y ≡ Less → f y x ≡ Greater
  less_greater x y h = F.flipped y x ∙ ap flip h

  pub greater_less : (x y : A) → f x y ≡ Greater → f y x ≡ Less
  greater_less x y h = F.flipped y x ∙ ap flip h

  pub equal_flip : (x y : A) → f x y ≡ Equal → f y x ≡ Equal
  equal_flip x y h = F.flipped y x ∙ ap flip h

  -- Either x is less than y, or y is at most x.
  pub less_or : (x y : A) → (f x y ≡ Less) ⊎ AtMost f y x
  less_or x y = by (three x y)
    where
      by : (f x y ≡ Less) ⊎ ((f x y ≡ Equal) ⊎ (f x y ≡ Greater)) → (f x y ≡ Less) ⊎ AtMost f y x
      by (inl h) = inl h
      by (inr (inl h)) = inr (equal_at_most y x (equal_flip x y h))
      by (inr (inr h)) = inr (less_at_most y x (greater_less x y h))

  -- Less and at most exclude each other.
  pub not_both : (x y : A) → f x y ≡ Less → AtMost f y x → ⊥
  not_both x y h k = k (less_greater x y h)

  pub not_less : (x y : A) → (f x y ≡ Less → ⊥) → AtMost f y x
  not_less x y h = λ g. h (greater_less y x g)

  pub less_then : (x y z : A) → f x y ≡ Less → AtMost f y z → f x z ≡ Less
  less_then x y z h k = by (three y z)
    where
      by : (f y z ≡ Less) ⊎ ((f y z ≡ Equal) ⊎ (f y z ≡ Greater)) → f x z ≡ Less
      by (inl p) = F.less x y z h p
      by (inr (inl p)) = same_right x y z p ∙ h
      by (inr (inr p)) = absurd (k p)

  pub then_less : (x y z : A) → AtMost f x y → f y z ≡ Less → f x z ≡ Less
  then_less x y z h k = by (three x y)
    where
      by : (f x y ≡ Less) ⊎ ((f x y ≡ Equal) ⊎ (f x y ≡ Greater)) → f x z ≡ Less
      by (inl p) = F.less x y z p k
      by (inr (inl p)) = F.same x y z p ∙ k
      by (inr (inr p)) = absurd (h p)

  pub at_most : (x y z : A) → AtMost f x y → AtMost f y z → AtMost f x z
  at_most x y z h k = λ g. not_both z y (less_then z x y (greater_less x z g) h) k

  -- At most each other: equal.
  pub at_most_equal : (x y : A) → AtMost f x y → AtMost f y x → f x y ≡ Equal
  at_most_equal x y h k = by (three x y)
    where
      by : (f x y ≡ Less) ⊎ ((f x y ≡ Equal) ⊎ (f x y ≡ Greater)) → f x y ≡ Equal
      by (inl p) = absurd (not_both x y p k)
      by (inr (inl p)) = p
      by (inr (inr p)) = absurd (h p)

-- ---- ways to make one
-- What is pulled back along a function.
module _ {A B : Type 0} {f : B → B → Ordering} (h : A → B) (F : IsOrder f) where
  pub on : IsOrder (λ (x y : A). f (h x) (h y))
  on = record {
    equal = λ x. F.equal (h x);
    flipped = λ x y. F.flipped (h x) (h y);
    same = λ x y z. F.same (h x) (h y) (h z);
    less = λ x y z. F.less (h x) (h y) (h z);
  }

-- What is reversed.
module _ {A : Type 0} {f : A → A → Ordering} (F : IsOrder f) where
  pub reversed : IsOrder (λ (x y : A). f y x)
  reversed = record {
    equal = F.equal;
    flipped = λ x y. F.flipped y x;
    same = λ x y z e. sym (same_right F z x y (F.flipped x y ∙ ap flip e));
    less = λ x y z p q. F.less z y x q p;
  }

next_flip : (o r : Ordering) → next (flip o) (flip r) ≡ flip (next o r)
next_flip Less r = refl
next_flip Equal r = refl
next_flip Greater r = refl

pub next_equal : (o r : Ordering) → next o r ≡ Equal → (o ≡ Equal) × (r ≡ Equal)
next_equal Equal r e = (refl, e)
next_equal Less r e = ((cc), (cc))
next_equal Greater r e = ((cc), (cc))

pub next_less : (o r : Ordering) → next o r ≡ Less → (o ≡ Less) ⊎ ((o ≡ Equal) × (r ≡ Less))
next_less Less r e = inl refl
next_less Equal r e = inr (refl, e)
next_less Greater r e = inl (cc)

-- Two, the second where the first says Equal.
module _ {A : Type 0} {f g : A → A → Ordering} (F : IsOrder f) (G : IsOrder g) where
  both_less : (x y z : A) → (f x y ≡ Less) ⊎ ((f x y ≡ Equal) × (g x y ≡ Less)) → (f y z ≡ Less) ⊎ ((f y z ≡ Equal) × (g y z ≡ Less)) → next (f x z) (g x z) ≡ Less
  both_less x y z (inl p) (inl q) = rw (F.less x y z p q)
  both_less x y z (inl p) (inr q) = rw (same_right F x y z q.0 ∙ p)
  both_less x y z (inr p) (inl q) = rw (F.same x y z p.0 ∙ q)
  both_less x y z (inr p) (inr q) = rw (F.same x y z p.0 ∙ q.0, G.less x y z p.1 q.1)

  pub then : IsOrder (λ (x y : A). next (f x y) (g x y))
  then = record {
    equal = λ x. rw (F.equal x) (G.equal x);
    flipped = λ x y. rw (F.flipped x y, G.flipped x y) (next_flip (f y x) (g y x));
    same = λ x y z e. let p = next_equal (f x y) (g x y) e in rw (F.same x y z p.0, G.same x y z p.1);
    less = λ x y z p q. both_less x y z (next_less (f x y) (g x y) p) (next_less (f y z) (g y z) q);
  }

-- ---- whole numbers
lt_irrefl : (a : ℤ) → lt_z a a ≡ false
lt_irrefl (pos a) = le-ltb a a (omega arith)
lt_irrefl (negsuc a) = le-ltb a a (omega arith)

lt_asym : (a b : ℤ) → lt_z a b ≡ true → lt_z b a ≡ false
lt_asym (pos a) (pos b) h = le-ltb b a (omega (arith, ltb-true a b h))
lt_asym (pos a) (negsuc b) h = cc
lt_asym (negsuc a) (pos b) h = refl
lt_asym (negsuc a) (negsuc b) h = le-ltb a b (omega (arith, ltb-true b a h))

lt_trans : (a b c : ℤ) → lt_z a b ≡ true → lt_z b c ≡ true → lt_z a c ≡ true
lt_trans (pos a) (pos b) (pos c) h k = lt-ltb a c (omega (arith, ltb-true a b h, ltb-true b c k))
lt_trans (pos a) (pos b) (negsuc c) h k = k
lt_trans (pos a) (negsuc b) c h k = cc
lt_trans (negsuc a) (pos b) (pos c) h k = refl
lt_trans (negsuc a) (pos b) (negsuc c) h k = cc
lt_trans (negsuc a) (negsuc b) (pos c) h k = refl
lt_trans (negsuc a) (negsuc b) (negsuc c) h k = lt-ltb c a (omega (arith, ltb-true b a h, ltb-true c b k))

lt_neither : (a b : ℤ) → lt_z a b ≡ false → lt_z b a ≡ false → a ≡ b
lt_neither (pos a) (pos b) h k = ap pos (omega (arith, ltb-false a b h, ltb-false b a k))
lt_neither (pos a) (negsuc b) h k = cc
lt_neither (negsuc a) (pos b) h k = cc
lt_neither (negsuc a) (negsuc b) h k = ap negsuc (omega (arith, ltb-false b a h, ltb-false a b k))

-- A three-way comparison by two tests.
three_flip : (t u : Bool) → (t ≡ true → u ≡ false) → cond t Less (cond u Greater Equal) ≡ flip (cond u Less (cond t Greater Equal))
three_flip true true h = let e = h refl in cc
three_flip true false h = refl
three_flip false true h = refl
three_flip false false h = refl

pub three_less : (t u : Bool) → cond t Less (cond u Greater Equal) ≡ Less → t ≡ true
three_less true u e = refl
three_less false true e = cc
three_less false false e = cc

pub three_equal : (t u : Bool) → cond t Less (cond u Greater Equal) ≡ Equal → (t ≡ false) × (u ≡ false)
three_equal true u e = ((cc), (cc))
three_equal false true e = ((cc), (cc))
three_equal false false e = (refl, refl)

pub cmp_z_equal : (a b : ℤ) → cmp_z a b ≡ Equal → a ≡ b
cmp_z_equal a b e = let p = three_equal (lt_z a b) (lt_z b a) e in lt_neither a b p.0 p.1

pub cmp_z_is : IsOrder cmp_z
cmp_z_is = record {
  equal = λ a. rw (lt_irrefl a);
  flipped = λ a b. three_flip (lt_z a b) (lt_z b a) (lt_asym a b);
  same = λ a b c e. ap (λ (x : ℤ). cmp_z x c) (cmp_z_equal a b e);
  less = λ a b c p q. rw (lt_trans a b c (three_less (lt_z a b) (lt_z b a) p) (three_less (lt_z b c) (lt_z c b) q));
}

-- ---- cells
-- By place, and by number where the places are equal: each is an order, and so is the one after the other.
pub cmp_value_is : (cs : Words) → IsOrder (cmp_value cs)
cmp_value_is cs = then (on (λ (a : ℤ). pos (place_in cs a)) cmp_z_is) cmp_z_is

-- Equal values are equal numbers, with a list or without.
pub cmp_value_equal : (cs : Words) (a b : ℤ) → cmp_value cs a b ≡ Equal → a ≡ b
cmp_value_equal cs a b e = cmp_z_equal a b (next_equal (cmp_z (pos (place_in cs a)) (pos (place_in cs b))) (cmp_z a b) e).1

by_way : (d : Bool) (cs : Words) → IsOrder (λ (a b : ℤ). cond d (cmp_value cs b a) (cmp_value cs a b))
by_way true cs = reversed (cmp_value_is cs)
by_way false cs = cmp_value_is cs

way_equal : (d : Bool) (cs : Words) (a b : ℤ) → cond d (cmp_value cs b a) (cmp_value cs a b) ≡ Equal → a ≡ b
way_equal true cs a b e = sym (cmp_value_equal cs b a e)
way_equal false cs a b e = cmp_value_equal cs a b e

-- A null against a value, by the flag that says where nulls stand.
null_less : (l : Bool) → cond l Greater Less ≡ flip (cond l Less Greater)
null_less true = refl
null_less false = refl

value_less : (l : Bool) → cond l Less Greater ≡ flip (cond l Greater Less)
value_less true = refl
value_less false = refl

never_equal : (l : Bool) {A : Type 0} → cond l Greater Less ≡ Equal → A
never_equal true e = let z : ◌≡◌ {A = ℕ} 0 1 = cc in absurd (omega arith)
never_equal false e = let z : ◌≡◌ {A = ℕ} 0 1 = cc in absurd (omega arith)

equal_never : (l : Bool) {A : Type 0} → cond l Less Greater ≡ Equal → A
equal_never true e = let z : ◌≡◌ {A = ℕ} 0 1 = cc in absurd (omega arith)
equal_never false e = let z : ◌≡◌ {A = ℕ} 0 1 = cc in absurd (omega arith)

not_and_not : (l : Bool) {A : Type 0} → cond l Greater Less ≡ Less → cond l Less Greater ≡ Less → A
not_and_not true p q = let z : ◌≡◌ {A = ℕ} 0 1 = cc in absurd (omega arith)
not_and_not false p q = let z : ◌≡◌ {A = ℕ} 0 1 = cc in absurd (omega arith)

module _ (k : Rule) where
  pub cell_equal : (x y : Cell) → cmp_cell k x y ≡ Equal → x ≡ y
  cell_equal null null e = refl
  cell_equal null (value b) e = never_equal k.nulls_last e
  cell_equal (value a) null e = equal_never k.nulls_last e
  cell_equal (value a) (value b) e = ap value (way_equal k.descending k.codes a b e)

  cell_refl : (x : Cell) → cmp_cell k x x ≡ Equal
  cell_refl null = refl
  cell_refl (value a) = (by_way k.descending k.codes).equal a

  cell_flip : (x y : Cell) → cmp_cell k x y ≡ flip (cmp_cell k y x)
  cell_flip null null = refl
  cell_flip null (value b) = null_less k.nulls_last
  cell_flip (value a) null = value_less k.nulls_last
  cell_flip (value a) (value b) = (by_way k.descending k.codes).flipped a b

  cell_less : (x y z : Cell) → cmp_cell k x y ≡ Less → cmp_cell k y z ≡ Less → cmp_cell k x z ≡ Less
  cell_less null null z p q = q
  cell_less null (value b) null p q = not_and_not k.nulls_last p q
  cell_less null (value b) (value c) p q = p
  cell_less (value a) null null p q = p
  cell_less (value a) null (value c) p q = not_and_not k.nulls_last q p
  cell_less (value a) (value b) null p q = q
  cell_less (value a) (value b) (value c) p q = (by_way k.descending k.codes).less a b c p q

  pub cmp_cell_is : IsOrder (cmp_cell k)
  cmp_cell_is = record {
    equal = cell_refl;
    flipped = cell_flip;
    same = λ x y z e. ap (λ (c : Cell). cmp_cell k c z) (cell_equal x y e);
    less = cell_less;
  }

-- ---- groups, keys and rows
module _ (o : Options) where
  pub cmp_first_is : (j : ℕ) → IsOrder (cmp_first o j)
  unfolding cmp_first
  cmp_first_is zero = record { equal = λ x. refl; flipped = λ x y. refl; same = λ x y z e. refl; less = λ x y z p q. p }
  cmp_first_is (suc j) = then (cmp_first_is j) (on (λ (r : List Cell). cell j r) (cmp_cell_is (by_rule o j)))

  abbrev pub cmp_key : List Cell → List Cell → Ordering
  cmp_key r s = cmp_cell key_rule (key_of o r) (key_of o s)

  pub cmp_group_is : IsOrder (cmp_group o)
  cmp_group_is = cmp_first_is o.by

  pub cmp_key_is : IsOrder cmp_key
  cmp_key_is = on (λ (r : List Cell). key_of o r) (cmp_cell_is key_rule)

  pub cmp_row_is : IsOrder (cmp_row o)
  unfolding cmp_row
  cmp_row_is = then cmp_group_is cmp_key_is

  -- Equal by the first j columns exactly where each of these cells is equal.
  pub first_equal : (j : ℕ) (r s : List Cell) → cmp_first o j r s ≡ Equal → (i : ℕ) → i < j → cell i r ≡ cell i s
  unfolding cmp_first
  first_equal zero r s e i h = absurd (omega arith)
  first_equal (suc j) r s e i h =
      let p = next_equal (cmp_first o j r s) (cmp_cell (by_rule o j) (cell j r) (cell j s)) e in
      go (first_equal j r s p.0) (cell_equal (by_rule o j) (cell j r) (cell j s) p.1) (ℕ_discrete i j)
    where
      go : ((i : ℕ) → i < j → cell i r ≡ cell i s) → cell j r ≡ cell j s → Dec (i ≡ j) → cell i r ≡ cell i s
      go ih q (yes d) = rw d q
      go ih q (no d) = ih i (omega arith)

  pub equal_first : (j : ℕ) (r s : List Cell) → ((i : ℕ) → i < j → cell i r ≡ cell i s) → cmp_first o j r s ≡ Equal
  unfolding cmp_first
  equal_first zero r s h = refl
  equal_first (suc j) r s h = rw (equal_first j r s (λ i l. h i (omega arith)), h j (omega arith)) ((cmp_cell_is (by_rule o j)).equal (cell j s))

  pub group_equal : (r s : List Cell) → cmp_group o r s ≡ Equal → (i : ℕ) → i < o.by → cell i r ≡ cell i s
  group_equal = first_equal o.by

  pub equal_group : (r s : List Cell) → ((i : ℕ) → i < o.by → cell i r ≡ cell i s) → cmp_group o r s ≡ Equal
  equal_group = equal_first o.by

  -- Rows: by group, then by key.
  pub row_equal : (r s : List Cell) → cmp_row o r s ≡ Equal → (cmp_group o r s ≡ Equal) × (key_of o r ≡ key_of o s)
  unfolding cmp_row
  row_equal r s e = let p = next_equal (cmp_group o r s) (cmp_key r s) e in (p.0, cell_equal key_rule (key_of o r) (key_of o s) p.1)

  pub row_by_key : (r s : List Cell) → cmp_group o r s ≡ Equal → cmp_row o r s ≡ cmp_key r s
  unfolding cmp_row
  row_by_key r s e = rw e

  pub row_by_group : (r s : List Cell) → cmp_group o r s ≡ Less → cmp_row o r s ≡ Less
  unfolding cmp_row
  row_by_group r s e = rw e

  -- A row that is at most another is so by group.
  pub group_at_most : (r s : List Cell) → AtMost (cmp_row o) r s → AtMost (cmp_group o) r s
  unfolding cmp_row
  group_at_most r s h = λ g. h (rw g)
