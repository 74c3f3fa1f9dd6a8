-- The cells of a table, laid one by one behind its two head words, are the table's words. Assumes nothing.
use mathlib.Core.Path.{◌≡◌, refl, sym, ap, ◌∙◌}
use mathlib.Core.List.{List, [], ◌∷◌, ◌++◌, map, append_assoc}
use Prim.Native.Nat.{ℕ, suc, ◌+◌, ◌-◌, ◌*◌, ◌≤◌, ◌<◌}
use native.Mathlib.Nat.{add-zero}
use native.Mathlib.Omega.{arith}
use lib.IntN.{ℤ, pos}
use lib.ListN.{length, take, drop, get_or, set, length-append, length-map, length-drop, length-set, take-append-drop}
use lib.Seq.{set_at, set-set, set_comm, get_or-set_other, length-take-le, drop-drop, take-length}
use Rattle.frames.specs.Cells.{Cell, value_word, mark_word, Rows, Words}
use Rattle.frames.proofs.WordLaws.{map-append}
use Rattle.tables.specs.Table.{words_of, table_of, laid}
use Rattle.tables.specs.Lay.{flat, lay_cells}

-- The words of rows are those of their cells.
pub words_flat : (word : Cell → ℤ) (rs : Rows) → words_of word rs ≡ map word (flat rs)
unfolding words_of flat
words_flat word [] = refl
words_flat word (r ∷ rs) = rw (words_flat word rs) (sym (map-append word r (flat rs)))

pub flat_append : (A B : Rows) → flat (A ++ B) ≡ flat A ++ flat B
unfolding flat
flat_append [] B = refl
flat_append (r ∷ A) B = rw (flat_append A B) (sym (append_assoc r (flat A) (flat B)))

module _ (m : ℕ) where
  pub lay_none : (k : ℕ) (out : Words) → lay_cells m k [] out ≡ out
  unfolding lay_cells
  lay_none k out = refl

  pub lay_append : (k : ℕ) (A B : List Cell) (out : Words) → lay_cells m k (A ++ B) out ≡ lay_cells m (k + length A) B (lay_cells m k A out)
  unfolding lay_cells
  lay_append k [] B out = rw add-zero
  lay_append k (a ∷ A) B out =
      let z : k + suc (length A) ≡ suc k + length A = omega arith in
      rw z (lay_append (suc k) A B (set (set out (2 + k) (value_word a)) (2 + m + k) (mark_word a)))

  pub lay_length : (k : ℕ) (A : List Cell) (out : Words) → length (lay_cells m k A out) ≡ length out
  unfolding lay_cells
  lay_length k [] out = refl
  lay_length k (a ∷ A) out = lay_length (suc k) A (set (set out (2 + k) (value_word a)) (2 + m + k) (mark_word a)) ∙ simp length-set

  -- Place p holds no word of n cells from cell k on.
  abbrev pub Apart : ℕ → ℕ → ℕ → Type 0
  Apart k n p = (i : ℕ) → k ≤ i → i < k + n → (p ≡ 2 + i → ⊥) × (p ≡ 2 + m + i → ⊥)

  -- The words of earlier cells are apart from those of later ones.
  pub value_apart : (k n j : ℕ) → j < k → k + n ≤ m → Apart k n (2 + j)
  value_apart k n j h l i a b = (λ e. omega arith, λ e. omega arith)

  pub mark_apart : (k n j : ℕ) → j < k → k + n ≤ m → Apart k n (2 + m + j)
  mark_apart k n j h l i a b = (λ e. omega arith, λ e. omega arith)

  -- A word apart from the cells that are laid stays.
  pub lay_keeps : (k : ℕ) (A : List Cell) (out : Words) (p : ℕ) → Apart k (length A) p → get_or (lay_cells m k A out) p (pos 0) ≡ get_or out p (pos 0)
  unfolding lay_cells
  lay_keeps k [] out p h = refl
  lay_keeps k (a ∷ A) out p h =
      let q = h k (omega arith) (omega arith) in
      lay_keeps (suc k) A (set (set out (2 + k) (value_word a)) (2 + m + k) (mark_word a)) p (λ i l r. h i (omega arith) (omega arith))
      ∙ get_or-set_other (set out (2 + k) (value_word a)) (2 + m + k) p (mark_word a) (pos 0) q.1
      ∙ get_or-set_other out (2 + k) p (value_word a) (pos 0) q.0

  -- Such a word may be written before or after them.
  pub lay_set : (k : ℕ) (A : List Cell) (out : Words) (p : ℕ) (v : ℤ) → Apart k (length A) p → lay_cells m k A (set out p v) ≡ set (lay_cells m k A out) p v
  unfolding lay_cells
  lay_set k [] out p v h = refl
  lay_set k (a ∷ A) out p v h =
      let q = h k (omega arith) (omega arith) in
      let e : set (set (set out p v) (2 + k) (value_word a)) (2 + m + k) (mark_word a) ≡ set (set (set out (2 + k) (value_word a)) (2 + m + k) (mark_word a)) p v =
      ap (λ (z : Words). set z (2 + m + k) (mark_word a)) (set_comm out p (2 + k) v (value_word a) q.0)
      ∙ set_comm (set out (2 + k) (value_word a)) p (2 + m + k) v (mark_word a) q.1 in
      ap (lay_cells m (suc k) A) e
      ∙ lay_set (suc k) A (set (set out (2 + k) (value_word a)) (2 + m + k) (mark_word a)) p v (λ i l r. h i (omega arith) (omega arith))

  -- An earlier cell may be laid before or after later ones.
  lay_first : (k : ℕ) (A : List Cell) (out : Words) (j : ℕ) (x : Cell) → j < k → k + length A ≤ m
      → lay_cells m k A (set (set out (2 + j) (value_word x)) (2 + m + j) (mark_word x)) ≡ set (set (lay_cells m k A out) (2 + j) (value_word x)) (2 + m + j) (mark_word x)
  lay_first k A out j x h l =
      lay_set k A (set out (2 + j) (value_word x)) (2 + m + j) (mark_word x) (mark_apart k (length A) j h l)
      ∙ ap (λ (z : Words). set z (2 + m + j) (mark_word x)) (lay_set k A out (2 + j) (value_word x) (value_apart k (length A) j h l))

  -- And so may earlier cells.
  pub lay_order : (j : ℕ) (A : List Cell) (k : ℕ) (B : List Cell) (out : Words) → j + length A ≤ k → k + length B ≤ m
      → lay_cells m k B (lay_cells m j A out) ≡ lay_cells m j A (lay_cells m k B out)
  unfolding lay_cells
  lay_order j [] k B out h l = refl
  lay_order j (a ∷ A) k B out h l =
      lay_order (suc j) A k B (set (set out (2 + j) (value_word a)) (2 + m + j) (mark_word a)) (omega arith) l
      ∙ ap (lay_cells m (suc j) A) (lay_first k B out j a (omega arith) l)

  -- Of cells that are laid over by others no word is left.
  pub lay_over : (k : ℕ) (A B : List Cell) (out : Words) → length B ≤ length A → k + length A ≤ m → lay_cells m k A (lay_cells m k B out) ≡ lay_cells m k A out
  unfolding lay_cells
  lay_over k A [] out h l = refl
  lay_over k [] (b ∷ B) out h l = absurd (omega arith)
  lay_over k (a ∷ A) (b ∷ B) out h l =
      let u : Words = set (set out (2 + k) (value_word b)) (2 + m + k) (mark_word b) in
      let e : set (set u (2 + k) (value_word a)) (2 + m + k) (mark_word a) ≡ set (set out (2 + k) (value_word a)) (2 + m + k) (mark_word a) =
      ap (λ (z : Words). set z (2 + m + k) (mark_word a)) (set_comm (set out (2 + k) (value_word b)) (2 + m + k) (2 + k) (mark_word b) (value_word a) (λ z. omega arith))
      ∙ set-set (set (set out (2 + k) (value_word b)) (2 + k) (value_word a)) (2 + m + k) (mark_word b) (mark_word a)
      ∙ ap (λ (z : Words). set z (2 + m + k) (mark_word a)) (set-set out (2 + k) (value_word b) (value_word a)) in
      ap (lay_cells m (suc k) A) (sym (lay_first (suc k) B u k a (omega arith) (omega arith)))
      ∙ lay_over (suc k) A B (set (set u (2 + k) (value_word a)) (2 + m + k) (mark_word a)) (omega arith) (omega arith)
      ∙ ap (lay_cells m (suc k) A) e

  -- Values go from B's places on, marks from D's.
  lay_parts : (i : ℕ) (xs : List Cell) (A B C D E : Words) → length A ≡ 2 + i → length B ≡ length xs → length C ≡ i → length D ≡ length xs → i + length xs ≡ m
      → lay_cells m i xs (A ++ (B ++ (C ++ (D ++ E)))) ≡ A ++ (map value_word xs ++ (C ++ (map mark_word xs ++ E)))
  unfolding lay_cells
  lay_parts i [] A [] C [] E a b c d e = refl
  lay_parts i [] A (x ∷ B) C D E a b c d e = absurd (omega arith)
  lay_parts i [] A [] C (y ∷ D) E a b c d e = absurd (omega arith)
  lay_parts i (z ∷ xs) A [] C D E a b c d e = absurd (omega arith)
  lay_parts i (z ∷ xs) A (x ∷ B) C [] E a b c d e = absurd (omega arith)
  lay_parts i (z ∷ xs) A (x ∷ B) C (y ∷ D) E a b c d e =
      let v = value_word z in
      let k = mark_word z in
      let A' : Words = A ++ v ∷ [] in
      let C' : Words = C ++ k ∷ [] in
      let s : set (A ++ (x ∷ (B ++ (C ++ (y ∷ (D ++ E)))))) (2 + i) v ≡ A ++ (v ∷ (B ++ (C ++ (y ∷ (D ++ E))))) = set_at A x (B ++ (C ++ (y ∷ (D ++ E)))) v (2 + i) a in
      let p : Words = A ++ (v ∷ (B ++ C)) in
      let l : length p ≡ 2 + m + i = length-append A (v ∷ (B ++ C)) ∙ omega (arith, length-append B C) in
      let g : A ++ (v ∷ (B ++ (C ++ (y ∷ (D ++ E))))) ≡ p ++ (y ∷ (D ++ E)) = simp append_assoc in
      let h : p ++ (k ∷ (D ++ E)) ≡ A' ++ (B ++ (C' ++ (D ++ E))) = simp append_assoc in
      let u : set (set (A ++ (x ∷ (B ++ (C ++ (y ∷ (D ++ E)))))) (2 + i) v) (2 + m + i) k ≡ A' ++ (B ++ (C' ++ (D ++ E))) = ap (λ (z : Words). set z (2 + m + i) k) (s ∙ g) ∙ set_at p y (D ++ E) k (2 + m + i) l ∙ h in
      let ih = lay_parts (suc i) xs A' B C' D E (length-append A (v ∷ []) ∙ omega arith) (omega arith) (length-append C (k ∷ []) ∙ omega arith) (omega arith) (omega arith) in
      rw u (ih ∙ simp append_assoc)

  heads : (n c : ℤ) (A : Words) → length A ≡ 2 → (rest : Words) → set (set (A ++ rest) 0 n) 1 c ≡ n ∷ c ∷ rest
  heads n c [] a rest = absurd (omega arith)
  heads n c (x ∷ []) a rest = absurd (omega arith)
  heads n c (x ∷ y ∷ []) a rest = refl
  heads n c (x ∷ y ∷ z ∷ A) a rest = absurd (omega arith)

  -- All cells and the two head words: the table.
  pub lay_table : (c : ℕ) (rs : Rows) (out : Words) → length (flat rs) ≡ m → 2 + 2 * m ≤ length out
      → set (set (lay_cells m 0 (flat rs) out) 0 (pos (length rs))) 1 (pos c) ≡ laid (table_of c rs) out
  unfolding laid table_of
  lay_table c rs out e h =
      let A : Words = take 2 out in
      let R : Words = drop 2 out in
      let B : Words = take m R in
      let S : Words = drop m R in
      let D : Words = take m S in
      let E : Words = drop m S in
      let la : length A ≡ 2 = length-take-le 2 out (omega arith) in
      let lr : length R ≡ length out - 2 = length-drop 2 out in
      let lb : length B ≡ m = length-take-le m R (omega arith) in
      let ls : length S ≡ length R - m = length-drop m R in
      let ld : length D ≡ m = length-take-le m S (omega arith) in
      let es : S ≡ D ++ E = sym (take-append-drop m S) in
      let er : R ≡ B ++ S = sym (take-append-drop m R) in
      let eo : out ≡ A ++ R = sym (take-append-drop 2 out) in
      let o : out ≡ A ++ (B ++ ([] ++ (D ++ E))) = eo ∙ ap (λ (z : Words). A ++ z) (er ∙ ap (λ (z : Words). B ++ z) es) in
      let Vs : Words = map value_word (flat rs) in
      let Ms : Words = map mark_word (flat rs) in
      let ws : Words = pos (length rs) ∷ pos c ∷ words_of value_word rs ++ words_of mark_word rs in
      let ew : ws ≡ pos (length rs) ∷ pos c ∷ (Vs ++ Ms) = ap (λ (z : Words). pos (length rs) ∷ pos c ∷ (z ++ words_of mark_word rs)) (words_flat value_word rs) ∙ ap (λ (z : Words). pos (length rs) ∷ pos c ∷ (Vs ++ z)) (words_flat mark_word rs) in
      let lw : length ws ≡ 2 + 2 * m = ap length ew ∙ omega (arith, length-append Vs Ms, length-map (flat rs) value_word, length-map (flat rs) mark_word) in
      let dn : E ≡ drop (0 + length ws) out = drop-drop m m R ∙ drop-drop (m + m) 2 out ∙ (let z : 2 + (m + m) ≡ 0 + length ws = omega arith in rw z) in
      let w : lay_cells m 0 (flat rs) out ≡ A ++ (Vs ++ (Ms ++ E)) = ap (lay_cells m 0 (flat rs)) o ∙ lay_parts 0 (flat rs) A B [] D E (la ∙ omega arith) (lb ∙ sym e) refl (ld ∙ sym e) (omega arith) in
      let z : set (set (lay_cells m 0 (flat rs) out) 0 (pos (length rs))) 1 (pos c) ≡ pos (length rs) ∷ pos c ∷ (Vs ++ (Ms ++ E)) =
      ap (λ (y : Words). set (set y 0 (pos (length rs))) 1 (pos c)) w ∙ heads (pos (length rs)) (pos c) A la (Vs ++ (Ms ++ E)) in
      let t : take (length ws) ws ≡ pos (length rs) ∷ pos c ∷ (Vs ++ Ms) = take-length ws ∙ ew in
      z ∙ ap (λ (y : Words). pos (length rs) ∷ pos c ∷ y) (sym (append_assoc Vs Ms E))
      ∙ ap (λ (y : Words). (pos (length rs) ∷ pos c ∷ (Vs ++ Ms)) ++ y) dn
      ∙ ap (λ (y : Words). y ++ drop (0 + length ws) out) (sym t)
