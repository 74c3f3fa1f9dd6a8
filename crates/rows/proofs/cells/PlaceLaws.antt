-- Values compared by their places, case by case as the code asks. Assumes nothing.
use Rattle.std.proofs.Common.{◌≡◌, ℕ, ◌<◌, Bool, true, [], ◌∷◌, length, ℤ, pos, refl, ◌∙◌, arith, le-ltb, lt-ltb}
use Rattle.frames.specs.Cells.{Cell, null, value, cell_of, is_zero, Words}
use Rattle.order.specs.ranks.Ranks.{place_in}
use Rattle.order.specs.options.Options.{Rule}
use Rattle.order.specs.Order.{next, cmp_z, cmp_value, cmp_cell}
use Rattle.std.specs.declared.cmp.Ordering.TheVariants.{Less, Equal, Greater}
use Rattle.order.proofs.OrderLaws.{cmp_value_is}

module _ (cs : Words) (a b : ℤ) (p q : ℕ) (at : p ≡ place_in cs a) (other : q ≡ place_in cs b) where
  places : cmp_value cs a b ≡ next (cmp_z (pos p) (pos q)) (cmp_z a b)
  places = rw (at, other)

  -- The place that is less decides.
  pub place_less : p < q → cmp_value cs a b ≡ Less
  place_less h = places ∙ rw (lt-ltb p q h)

  pub place_greater : q < p → cmp_value cs a b ≡ Greater
  place_greater h = places ∙ rw (le-ltb p q (omega arith), lt-ltb q p h)

  -- Of equal places the numbers decide.
  pub place_same : p ≡ q → cmp_value cs a b ≡ cmp_z a b
  place_same h = places ∙ rw (le-ltb p q (omega arith), le-ltb q p (omega arith))

-- The same number is Equal.
pub place_equal : (cs : Words) (a b : ℤ) → a ≡ b → cmp_value cs a b ≡ Equal
place_equal cs a b e = rw e ((cmp_value_is cs).equal b)

module _ (d l : Bool) (cs : Words) where
  -- The rule of a column with the list, and of one without.
  abbrev with-list : Rule
  with-list = record { descending = d; nulls_last = l; codes = cs }

  abbrev without : Rule
  without = record { descending = d; nulls_last = l; codes = [] }

  -- An empty list is none.
  pub empty_list : length cs ≡ 0 → (x y : Cell) → cmp_cell without x y ≡ cmp_cell with-list x y
  empty_list e x y = rw (none cs e)
    where
      none : (cs : Words) → length cs ≡ 0 → cs ≡ []
      none [] e = refl
      none (c ∷ cs) e = let z : ◌≡◌ {A = ℕ} 0 1 = cc in absurd (omega arith)

  -- Beside a null the list is not looked at.
  pub left_null : (v m : ℤ) (y : Cell) → is_zero m ≡ true → cmp_cell without (cell_of v m) y ≡ cmp_cell with-list (cell_of v m) y
  left_null v m y e = rw e (go y)
    where
      go : (y : Cell) → cmp_cell without null y ≡ cmp_cell with-list null y
      go null = refl
      go (value b) = refl

  pub right_null : (v m : ℤ) (x : Cell) → is_zero m ≡ true → cmp_cell without x (cell_of v m) ≡ cmp_cell with-list x (cell_of v m)
  right_null v m x e = rw e (go x)
    where
      go : (x : Cell) → cmp_cell without x null ≡ cmp_cell with-list x null
      go null = refl
      go (value a) = refl
