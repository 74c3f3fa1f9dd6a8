-- Words in an area after a copy: what was copied, and what stood before and behind it; rows decoded from words that are cut or joined. Assumes nothing.
use mathlib.Core.Path.{◌≡◌, refl, sym, ap, ◌∙◌}
use mathlib.Core.List.{List, [], ◌∷◌, ◌++◌, append_assoc, map}
use Prim.Native.Nat.{ℕ, zero, suc, ◌+◌, ◌-◌, ◌*◌, ◌≤◌, ◌<◌}
use native.Mathlib.Nat.{mul-le-mul_right}
use native.Mathlib.Numerals.{unary_clauses}
use native.Mathlib.Omega.{arith}
use lib.ListN.{length, take, drop, get_or, length-drop, take-append-drop}
use lib.Seq.{take_at, drop_at, take-append-le, drop-append-le, length-take-le, take-take, drop-drop, paste, length_paste_head}
use Rattle.frames.specs.Cells.{Cell, null, value, cell_of, cells_of, rows_of, Words, value_word, mark_word}

-- ---- lists
module _ {A : Type 0} where
  -- A part of what was copied to: the copy itself; what stands wholly before it; what stands behind it.
  pub part_copied : (d : List A) (at : ℕ) (s : List A) (n : ℕ) → at ≤ length d → n ≤ length s → take n (drop at (paste d at s n)) ≡ take n s
  part_copied d at s n h k =
      let e : drop at (paste d at s n) ≡ take n s ++ drop (at + n) d = rw (append_assoc (take at d) (take n s) (drop (at + n) d)) (drop_at (take at d) (take n s ++ drop (at + n) d) at (length-take-le at d h)) in
      rw e (take_at (take n s) (drop (at + n) d) n (length-take-le n s k))

  pub part_before : (d : List A) (at : ℕ) (s : List A) (n a m : ℕ) → at ≤ length d → a + m ≤ at → take m (drop a (paste d at s n)) ≡ take m (drop a d)
  part_before d at s n a m h k =
      let l : length (take at d) ≡ at = length-take-le at d h in
      let r : List A = take n s ++ drop (at + n) d in
      let la : length (drop a (take at d)) ≡ at - a = length-drop a (take at d) ∙ ap (λ (z : ℕ). z - a) l in
      let e : drop a (paste d at s n) ≡ drop a (take at d) ++ r = rw (append_assoc (take at d) (take n s) (drop (at + n) d)) (drop-append-le a (take at d) r (omega arith)) in
      let f : drop a d ≡ drop a (take at d) ++ drop at d = ap (λ (z : List A). drop a z) (sym (take-append-drop at d)) ∙ drop-append-le a (take at d) (drop at d) (omega arith) in
      rw (e, f) (take-append-le m (drop a (take at d)) r (omega arith) ∙ sym (take-append-le m (drop a (take at d)) (drop at d) (omega arith)))

  pub part_behind : (d : List A) (at : ℕ) (s : List A) (n a : ℕ) → at ≤ length d → n ≤ length s → at + n ≤ a → drop a (paste d at s n) ≡ drop a d
  part_behind d at s n a h k l =
      let e : a ≡ at + n + (a - (at + n)) = omega arith in
      let lh = length_paste_head d at s n h k in
      let z : drop (at + n) (paste d at s n) ≡ drop (at + n) d = drop_at (take at d ++ take n s) (drop (at + n) d) (at + n) lh in
      rw e (sym (drop-drop (a - (at + n)) (at + n) (paste d at s n)) ∙ ap (λ (y : List A). drop (a - (at + n)) y) z ∙ drop-drop (a - (at + n)) (at + n) d)

  pub map-append {κ} : {B : Type κ} (f : A → B) (xs ys : List A) → map f (xs ++ ys) ≡ map f xs ++ map f ys
  map-append f [] ys = refl
  map-append f (x ∷ xs) ys = rw (map-append f xs ys)

-- ---- rows
nil_take : (n : ℕ) → ◌≡◌ {A = Words} (take n []) []
nil_take zero = refl
nil_take (suc n) = refl

pub drop_take : (w k : ℕ) (xs : Words) → drop w (take k xs) ≡ take (k - w) (drop w xs)
drop_take zero k xs = simp unary_clauses
drop_take (suc w) zero xs = let z : 0 - suc w ≡ 0 = omega arith in rw z
drop_take (suc w) (suc k) [] = sym (nil_take (suc k - suc w))
drop_take (suc w) (suc k) (x ∷ xs) = simp unary_clauses (drop_take w k xs)

row_room : (i n w : ℕ) → i < n → i * w + w ≤ n * w
row_room i n w h = omega (arith, mul-le-mul_right {m = suc i} {n = n} w h)

pub rows_length : (w n : ℕ) (vs ms : Words) → length (rows_of w n vs ms) ≡ n
unfolding rows_of
rows_length w zero vs ms = refl
rows_length w (suc n) vs ms = ap suc (rows_length w n (drop w vs) (drop w ms))

pub cells_length : (vs ms : Words) → length vs ≡ length ms → length (cells_of vs ms) ≡ length vs
unfolding cells_of
cells_length [] ms e = refl
cells_length (v ∷ vs) [] e = absurd (omega arith)
cells_length (v ∷ vs) (m ∷ ms) e = ap suc (cells_length vs ms (omega arith))

-- Only the first n × w words are read.
pub rows_read : (w n k : ℕ) (vs ms : Words) → n * w ≤ k → rows_of w n (take k vs) (take k ms) ≡ rows_of w n vs ms
unfolding rows_of
rows_read w zero k vs ms h = refl
rows_read w (suc n) k vs ms h =
    rw (take-take w k vs (omega arith), take-take w k ms (omega arith), drop_take w k vs, drop_take w k ms, rows_read w n (k - w) (drop w vs) (drop w ms) (omega arith))

-- Rows of joined words are joined rows.
pub rows_append : (w n m : ℕ) (vs us ms ns : Words) → length vs ≡ n * w → length ms ≡ n * w → rows_of w (n + m) (vs ++ us) (ms ++ ns) ≡ rows_of w n vs ms ++ rows_of w m us ns
unfolding rows_of
rows_append w zero m [] us [] ns a p = let z : 0 + m ≡ m = omega arith in rw z
rows_append w zero m [] us (x ∷ ms) ns a p = absurd (omega arith)
rows_append w zero m (x ∷ vs) us ms ns a p = absurd (omega arith)
rows_append w (suc n) m vs us ms ns a p =
    let ha : w ≤ length vs = omega arith in
    let hp : w ≤ length ms = omega arith in
    let e : suc n + m ≡ suc (n + m) = omega arith in
    rw (
      e,
      take-append-le w vs us ha,
      take-append-le w ms ns hp,
      drop-append-le w vs us ha,
      drop-append-le w ms ns hp,
      rows_append w n m (drop w vs) us (drop w ms) ns (length-drop w vs ∙ omega arith) (length-drop w ms ∙ omega arith),
    )

-- Rows left out are words left out.
pub rows_drop : (w n k : ℕ) (vs ms : Words) → k ≤ n → rows_of w (n - k) (drop (k * w) vs) (drop (k * w) ms) ≡ drop k (rows_of w n vs ms)
unfolding rows_of
rows_drop w n zero vs ms h =
    let z : n - 0 ≡ n = omega arith in
    let y : 0 * w ≡ 0 = omega arith in
    rw (z, y)
rows_drop w zero (suc k) vs ms h = absurd (omega arith)
rows_drop w (suc n) (suc k) vs ms h =
    let e : suc k * w ≡ w + k * w = omega arith in
    let z : suc n - suc k ≡ n - k = omega arith in
    rw (e, z, ← drop-drop (k * w) w vs, ← drop-drop (k * w) w ms) (rows_drop w n k (drop w vs) (drop w ms) (omega arith))

-- The first cells of a row are those of its first words.
pub cells_take : (k : ℕ) (vs ms : Words) → take k (cells_of vs ms) ≡ cells_of (take k vs) (take k ms)
unfolding cells_of
cells_take zero vs ms = refl
cells_take (suc k) [] ms = refl
cells_take (suc k) (v ∷ vs) [] = refl
cells_take (suc k) (v ∷ vs) (m ∷ ms) = ap (λ (r : List Cell). cell_of v m ∷ r) (cells_take k vs ms)

-- Row i is decoded from its own words: those of a part of the values and of the marks.
pub rows_at : (w n i : ℕ) (vs ms : Words) → i < n → get_or (rows_of w n vs ms) i [] ≡ cells_of (take w (drop (i * w) vs)) (take w (drop (i * w) ms))
unfolding rows_of
rows_at w zero i vs ms h = absurd (omega arith)
rows_at w (suc n) zero vs ms h = let y : 0 * w ≡ 0 = omega arith in rw y
rows_at w (suc n) (suc i) vs ms h =
    let e : suc i * w ≡ w + i * w = omega arith in
    rows_at w n i (drop w vs) (drop w ms) (omega arith) ∙ rw (e, drop-drop (i * w) w vs, drop-drop (i * w) w ms)

-- Where the words are there, each row has w cells.
pub rows_wide : (w n i : ℕ) (vs ms : Words) → i < n → n * w ≤ length vs → n * w ≤ length ms → length (get_or (rows_of w n vs ms) i []) ≡ w
rows_wide w n i vs ms h a b =
    let r = row_room i n w h in
    let lv : length (take w (drop (i * w) vs)) ≡ w = length-take-le w (drop (i * w) vs) (rw (length-drop (i * w) vs) (omega arith)) in
    let lm : length (take w (drop (i * w) ms)) ≡ w = length-take-le w (drop (i * w) ms) (rw (length-drop (i * w) ms) (omega arith)) in
    rw (rows_at w n i vs ms h) (cells_length (take w (drop (i * w) vs)) (take w (drop (i * w) ms)) (lv ∙ sym lm) ∙ lv)

-- ---- a remembered row is the row
pub cell_back : (x : Cell) → cell_of (value_word x) (mark_word x) ≡ x
cell_back null = refl
cell_back (value v) = refl

pub cells_back : (r : List Cell) → cells_of (map value_word r) (map mark_word r) ≡ r
unfolding cells_of
cells_back [] = refl
cells_back (x ∷ r) = rw (cell_back x, cells_back r)
