-- The row that a notice names is the last of its group and key. Assumes nothing.
use mathlib.Core.Path.{◌≡◌, refl, sym, ap, ◌∙◌}
use mathlib.Core.Bool.{Bool, true, false, cond, not, ◌||◌}
use mathlib.Core.List.{List, [], ◌∷◌}
use Prim.Native.Nat.{ℕ, zero, suc, ◌+◌, ◌-◌, ◌<◌, ◌≤◌}
use native.Mathlib.Omega.{arith}
use borrow.Author.Tests.{eq-eqb, ne_eqb}
use lib.Dec.{eqb}
use lib.ListN.{length, drop, get_or, length-drop}
use lib.Seq.{get_or-drop}
use Rattle.frames.specs.Cells.{Cell, Rows}
use Rattle.order.specs.Order.{is_equal}
use Rattle.order.specs.declared.options.Options.{Options}
use Rattle.order.proofs.OrderLaws.{cmp_row_is}
use Rattle.books.specs.Standing.{corrects, corrected, last_of, LastIs, named_by, NamesLast}

module _ (o : Options) (r : List Cell) where
  -- No row of rs corrects r and m is n; or the last that does is row k of rs, which has the number m.
  data Last (n i : ℕ) (rs : Rows) (m : ℕ) : Type 0 where
    none : m ≡ n → corrected o r rs ≡ false → ((k : ℕ) → k < length rs → corrects o (get_or rs k []) r ≡ false) → Last n i rs m
    some : (k : ℕ) → m ≡ i + k → k < length rs → corrected o r rs ≡ true → corrects o (get_or rs k []) r ≡ true
        → ((j : ℕ) → k < j → j < length rs → corrects o (get_or rs j []) r ≡ false) → Last n i rs m

  or-true : (a : Bool) → (a || true) ≡ true
  or-true true = refl
  or-true false = refl

  find_last : (n i : ℕ) (rs : Rows) → Last n i rs (last_of o r n i rs)
  unfolding last_of corrected
  find_last n i [] = none refl refl (λ k l. absurd (omega arith))
  find_last n i (s ∷ rs) = by (corrects o s r) refl (find_last (cond (corrects o s r) i n) (suc i) rs)
    where
      m : ℕ
      m = last_of o r (cond (corrects o s r) i n) (suc i) rs

      rest_false : ((k : ℕ) → k < length rs → corrects o (get_or rs k []) r ≡ false) → (j : ℕ) → 0 < j → j < length (s ∷ rs) → corrects o (get_or (s ∷ rs) j []) r ≡ false
      rest_false f zero a l = absurd (omega arith)
      rest_false f (suc j) a l = f j (omega arith)

      all_false : corrects o s r ≡ false → ((k : ℕ) → k < length rs → corrects o (get_or rs k []) r ≡ false) → (j : ℕ) → j < length (s ∷ rs) → corrects o (get_or (s ∷ rs) j []) r ≡ false
      all_false e f zero l = e
      all_false e f (suc j) l = f j (omega arith)

      later : (k : ℕ) → ((j : ℕ) → k < j → j < length rs → corrects o (get_or rs j []) r ≡ false) → (j : ℕ) → suc k < j → j < length (s ∷ rs) → corrects o (get_or (s ∷ rs) j []) r ≡ false
      later k f zero a l = absurd (omega arith)
      later k f (suc j) a l = f j (omega arith) (omega arith)

      by : (b : Bool) → corrects o s r ≡ b → Last (cond b i n) (suc i) rs m → Last n i (s ∷ rs) m
      by true e (none d q f) = some 0 (d ∙ omega arith) (omega arith) (rw e) e (rest_false f)
      by false e (none d q f) = none d (rw (e, q)) (all_false e f)
      by b e (some k d l q t f) = some (suc k) (d ∙ omega arith) (omega arith) (rw q (or-true (corrects o s r))) t (later k f)

-- A row is corrected exactly where the last row of its group and key is another.
pub corrected_last : (o : Options) (r : List Cell) (i : ℕ) (rs : Rows) → corrected o r rs ≡ not (eqb (last_of o r i (suc i) rs) i)
corrected_last o r i rs = by (last_of o r i (suc i) rs) (find_last o r i (suc i) rs)
  where
    by : (m : ℕ) → Last o r i (suc i) rs m → corrected o r rs ≡ not (eqb m i)
    by m (none d q f) = q ∙ ap not (sym (eq-eqb m i d))
    by m (some k d l q t f) = q ∙ ap not (sym (ne_eqb m i (λ e. omega arith)))

module _ (o : Options) (rows : Rows) (i : ℕ) (h : i < length rows) where
  abbrev head : List Cell
  head = get_or rows i []

  abbrev tail : Rows
  tail = drop (suc i) rows

  row_is : (k : ℕ) → get_or tail k [] ≡ get_or rows (suc i + k) []
  row_is k = get_or-drop (suc i) rows k []

  long : length tail ≡ length rows - suc i
  long = length-drop (suc i) rows

  -- A row behind row i, by its place behind it.
  behind : (m j : ℕ) → i ≤ m → m < j → j < length rows → ((k : ℕ) → k < length tail → m < suc i + k → corrects o (get_or tail k []) head ≡ false) → corrects o (get_or rows j []) head ≡ false
  behind m j a b l f =
      let e : suc i + (j - suc i) ≡ j = omega arith in
      ap (λ (z : ℕ). corrects o (get_or rows z []) head) (sym e) ∙ ap (λ (z : List Cell). corrects o z head) (sym (row_is (j - suc i))) ∙ f (j - suc i) (omega (arith, long)) (omega arith)

  itself_alike : corrects o head head ≡ true
  itself_alike = ap is_equal ((cmp_row_is o).equal head)

  last_is : (m : ℕ) → Last o head i (suc i) tail m → LastIs o rows i m × (corrected o head tail ≡ not (eqb m i))
  last_is m (none d q f) = (
    record {
      there = omega arith;
      alike = ap (λ (z : ℕ). corrects o (get_or rows z []) head) d ∙ itself_alike;
      last = λ j a l. behind m j (omega arith) a l (λ k u v. f k u);
    },
    q ∙ ap not (sym (eq-eqb m i d)),
  )
  last_is m (some k d l q t f) = (
    record {
      there = omega (arith, long);
      alike = ap (λ (z : ℕ). corrects o (get_or rows z []) head) d ∙ ap (λ (z : List Cell). corrects o z head) (sym (row_is k)) ∙ t;
      last = λ j a u. behind m j (omega arith) a u (λ n v w. f n (omega arith) v);
    },
    q ∙ ap not (sym (ne_eqb m i (λ e. omega arith))),
  )

  pub names_last : NamesLast o rows i
  names_last = let p = last_is (named_by o rows i) (find_last o head i (suc i) tail) in record { named = p.0; itself = p.1 }
