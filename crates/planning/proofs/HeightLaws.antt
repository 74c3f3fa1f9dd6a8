-- Heights: what they cut, how they are judged, and full heights. Assumes nothing.
use mathlib.Core.Path.{◌≡◌, refl, sym, ap, ◌∙◌}
use mathlib.Core.Bool.{Bool, true, false, cond, not, ◌||◌, or-true}
use mathlib.Core.List.{List, [], ◌∷◌, ◌++◌}
use Prim.Native.Nat.{ℕ, zero, suc, ◌+◌, ◌-◌, ◌*◌, ◌/◌, ◌%◌, ◌^◌, ◌≤◌, ◌<◌}
use native.Mathlib.Omega.{arith}
use borrow.Author.Tests.{eqb-true, eqb-false, eq-eqb, ne_eqb, leb-true, leb-false, le-leb, lt-leb, ltb-true, ltb-false, not-false}
use lib.Dec.{T, leb, eqb}
use lib.IntN.{ℤ, pos, negsuc, nat_abs}
use lib.Signed.{lt_z, non_neg}
use lib.ListN.{length, take, drop, get_or, replicate, length-drop, drop_of_length-le}
use lib.Seq.{drop-cons, length-take-le}
use Rattle.frames.specs.Cells.{Rows, Words, rows_of}
use Rattle.frames.specs.Frame.{row_count, values_in, marks_in, is_table}
use Rattle.frames.specs.Front.{few_rows}
use Rattle.frames.proofs.WordLaws.{rows_drop}
use Rattle.frames.proofs.BoolLaws.{and-true}
use Rattle.frames.proofs.FrameLaws.{table_parts}
use Rattle.frames.proofs.FrontLaws.{few_count, few_negative}
use Rattle.order.proofs.options.OptionLaws.{or_both}
use Rattle.planning.specs.Heights.{total, any_bad, heights_of, bad_heights, height_within, HeightIn, in_frames, full_heights}

-- ---- a table's words
module _ (c : ℕ) (f : Words) (h : is_table c f ≡ true) where
  pub table_values_lem : length (values_in c f) ≡ row_count f * c
  table_values_lem = length-take-le (row_count f * c) (drop 2 f) (rw (length-drop 2 f) (omega (arith, (table_parts c f h).exact)))

  pub table_marks : length (marks_in c f) ≡ row_count f * c
  table_marks = length-drop (2 + row_count f * c) f ∙ omega (arith, (table_parts c f h).exact)

-- ---- rows in frames
-- The first a rows.
pub rows_take : (w n a : ℕ) (vs ms : Words) → a ≤ n → rows_of w a vs ms ≡ take a (rows_of w n vs ms)
unfolding rows_of
rows_take w n zero vs ms h = refl
rows_take w zero (suc a) vs ms h = absurd (omega arith)
rows_take w (suc n) (suc a) vs ms h = rw (rows_take w n a (drop w vs) (drop w ms) (omega arith)) refl

-- The n rows from row a on.
pub rows_part : (w m a n : ℕ) (vs ms : Words) → a + n ≤ m → rows_of w n (drop (a * w) vs) (drop (a * w) ms) ≡ take n (drop a (rows_of w m vs ms))
rows_part w m a n vs ms h =
    rows_take w (m - a) n (drop (a * w) vs) (drop (a * w) ms) (omega arith) ∙ ap (λ (z : Rows). take n z) (rows_drop w m a vs ms (omega arith))

pub frames_length : (hs : List ℕ) (rs : Rows) → length (in_frames hs rs) ≡ length hs
unfolding in_frames
frames_length [] rs = refl
frames_length (h ∷ hs) rs = ap suc (frames_length hs (drop h rs))

-- ---- heights as words
pub heights_count : (zs : Words) → length (heights_of zs) ≡ length zs
unfolding heights_of
heights_count [] = refl
heights_count (z ∷ zs) = ap suc (heights_count zs)

pub heights_at : (zs : Words) (i : ℕ) → i < length zs → heights_of (drop i zs) ≡ nat_abs (get_or zs i (pos 0)) ∷ heights_of (drop (suc i) zs)
unfolding heights_of
heights_at zs i h = rw (drop-cons zs i (pos 0) h)

any_at : (zs : Words) (i : ℕ) → any_bad zs ≡ false → i < length zs → few_rows (get_or zs i (pos 0)) ≡ true
unfolding any_bad
any_at [] i e h = absurd (omega arith)
any_at (z ∷ zs) zero e h = not-false (few_rows z) (or_both (not (few_rows z)) (any_bad zs) e).0
any_at (z ∷ zs) (suc i) e h = any_at zs i (or_both (not (few_rows z)) (any_bad zs) e).1 (omega arith)

pub height_in : (zs : Words) (i : ℕ) → any_bad zs ≡ false → i < length zs → HeightIn i zs
height_in zs i e h = record { there = h; few = any_at zs i e h }

-- Each height is at most 4,096.
abbrev pub AllFew : List ℕ → Type 0
AllFew [] = Unit {0}
AllFew (h ∷ hs) = (h ≤ 4096) × AllFew hs

pub few_heights : (zs : Words) → any_bad zs ≡ false → AllFew (heights_of zs)
unfolding any_bad heights_of
few_heights [] e = tt
few_heights (z ∷ zs) e =
    let p = or_both (not (few_rows z)) (any_bad zs) e in
    ((few_count z (not-false (few_rows z) p.0)).1, few_heights zs p.1)

-- ---- heights, judged one by one
bad_over : (n : ℕ) (z : ℤ) (zs : Words) (b : Bool) → n < nat_abs z → (b || not (eqb (nat_abs z + total (heights_of zs)) n)) ≡ true
bad_over n z zs b h = rw (ne_eqb (nat_abs z + total (heights_of zs)) n (λ e. omega arith)) (or-true b)

bad_here : (n : ℕ) (z : ℤ) (zs : Words) → height_within n z ≡ false → bad_heights n (z ∷ zs) ≡ true
unfolding bad_heights any_bad heights_of total
bad_here n z zs e = by (few_rows z) refl
  where
    by : (t : Bool) → few_rows z ≡ t → bad_heights n (z ∷ zs) ≡ true
    by false q = rw q refl
    by true q = bad_over n z zs (not (few_rows z) || any_bad zs) (leb-false (nat_abs z) n (rw q at e))

same_sum : (a b n : ℕ) → a ≤ n → eqb (a + b) n ≡ eqb b (n - a)
same_sum a b n h = by (eqb b (n - a)) refl
  where
    by : (t : Bool) → eqb b (n - a) ≡ t → eqb (a + b) n ≡ t
    by true q = let e = eqb-true b (n - a) q in eq-eqb (a + b) n (omega arith)
    by false q = let e = eqb-false b (n - a) q in ne_eqb (a + b) n (λ z. e (omega arith))

bad_later : (n : ℕ) (z : ℤ) (zs : Words) → height_within n z ≡ true → bad_heights n (z ∷ zs) ≡ bad_heights (n - nat_abs z) zs
unfolding bad_heights any_bad heights_of total
bad_later n z zs e =
    let p = and-true (few_rows z) (leb (nat_abs z) n) e in
    rw (p.0, same_sum (nat_abs z) (total (heights_of zs)) n (leb-true (nat_abs z) n p.1)) refl

-- By the tests that are made.
pub within_negative : (n : ℕ) (z : ℤ) → lt_z z (pos 0) ≡ true → height_within n z ≡ false
within_negative n z h = rw (few_negative z h) refl

pub within_many : (n : ℕ) (z : ℤ) → lt_z (pos 4096) z ≡ true → height_within n z ≡ false
within_many n (pos k) h = let l = ltb-true 4096 k h in rw (lt-leb k 4096 l, le-leb 0 k (omega arith)) refl
within_many n (negsuc k) h = refl

pub few_within : (z : ℤ) → lt_z z (pos 0) ≡ false → lt_z (pos 4096) z ≡ false → few_rows z ≡ true
few_within (pos k) a b = let l = ltb-false 4096 k b in rw (le-leb 0 k (omega arith), le-leb k 4096 l) refl
few_within (negsuc k) a b = let e : ◌≡◌ {A = ℕ} 0 1 = cc in absurd (omega arith)

pub within_count : (n : ℕ) (z : ℤ) → few_rows z ≡ true → leb (nat_abs z) n ≡ height_within n z
within_count n z h = rw h refl

pub few_word : (z : ℤ) → few_rows z ≡ true → T (non_neg z) × (nat_abs z < 2 ^ 64)
few_word z h = let p = few_count z h in (p.0, omega (arith, p.1))

pub within_parts : (n : ℕ) (z : ℤ) → height_within n z ≡ true → (few_rows z ≡ true) × (nat_abs z ≤ n)
within_parts n z h = let p = and-true (few_rows z) (leb (nat_abs z) n) h in (p.0, leb-true (nat_abs z) n p.1)

-- The heights from i on: the next decides, or it is left to those behind it; at last nothing may be left over.
pub bad_at : (zs : Words) (i n : ℕ) → i < length zs → height_within n (get_or zs i (pos 0)) ≡ false → bad_heights n (drop i zs) ≡ true
bad_at zs i n h e = rw (drop-cons zs i (pos 0) h) (bad_here n (get_or zs i (pos 0)) (drop (suc i) zs) e)

pub bad_behind : (zs : Words) (i n : ℕ) → i < length zs → height_within n (get_or zs i (pos 0)) ≡ true → bad_heights n (drop i zs) ≡ bad_heights (n - nat_abs (get_or zs i (pos 0))) (drop (i + 1) zs)
bad_behind zs i n h e = let s : i + 1 ≡ suc i = omega arith in rw (drop-cons zs i (pos 0) h, s) (bad_later n (get_or zs i (pos 0)) (drop (suc i) zs) e)

pub bad_last : (zs : Words) (i n : ℕ) → length zs ≤ i → not (bad_heights n (drop i zs)) ≡ eqb n 0
unfolding bad_heights any_bad heights_of total
bad_last zs i n h = rw (drop_of_length-le zs h) (by (eqb n 0) refl)
  where
    by : (t : Bool) → eqb n 0 ≡ t → not (not (eqb 0 n)) ≡ t
    by true q = rw (eqb-true n 0 q) refl
    by false q = rw (ne_eqb 0 n (λ e. eqb-false n 0 q (sym e))) refl

-- Heights that are not refused: each is that of a frame, and they make the table.
pub heights_fine : (n : ℕ) (zs : Words) → bad_heights n zs ≡ false → (any_bad zs ≡ false) × (total (heights_of zs) ≡ n)
unfolding bad_heights
heights_fine n zs e =
    let p = or_both (any_bad zs) (not (eqb (total (heights_of zs)) n)) e in
    (p.0, eqb-true (total (heights_of zs)) n (not-false (eqb (total (heights_of zs)) n) p.1))

-- ---- full frames and one of the rest
total_append : (xs ys : List ℕ) → total (xs ++ ys) ≡ total xs + total ys
unfolding total
total_append [] ys = omega arith
total_append (x ∷ xs) ys = rw (total_append xs ys) (omega arith)

total_full : (k : ℕ) → total (replicate k 4096) ≡ k * 4096
unfolding total
total_full zero = omega arith
total_full (suc k) = rw (total_full k) (omega arith)

total_rest : (m : ℕ) → total (cond (eqb m 0) [] (m ∷ [])) ≡ m
unfolding total
total_rest m = by (eqb m 0) refl
  where
    by : (t : Bool) → eqb m 0 ≡ t → total (cond t [] (m ∷ [])) ≡ m
    by true e = sym (eqb-true m 0 e)
    by false e = omega arith

pub full_total : (n : ℕ) → total (full_heights n) ≡ n
unfolding full_heights
full_total n = total_append (replicate (n / 4096) 4096) (cond (eqb (n % 4096) 0) [] (n % 4096 ∷ [])) ∙ rw (total_full (n / 4096), total_rest (n % 4096)) (omega arith)

few_append : (xs ys : List ℕ) → AllFew xs → AllFew ys → AllFew (xs ++ ys)
few_append [] ys a b = b
few_append (x ∷ xs) ys a b = (a.0, few_append xs ys a.1 b)

few_full : (k : ℕ) → AllFew (replicate k 4096)
few_full zero = tt
few_full (suc k) = (omega arith, few_full k)

few_rest : (m : ℕ) → m ≤ 4096 → AllFew (cond (eqb m 0) [] (m ∷ []))
few_rest m h = by (eqb m 0)
  where
    by : (t : Bool) → AllFew (cond t [] (m ∷ []))
    by true = tt
    by false = (h, tt)

pub full_few : (n : ℕ) → AllFew (full_heights n)
unfolding full_heights
full_few n = few_append (replicate (n / 4096) 4096) (cond (eqb (n % 4096) 0) [] (n % 4096 ∷ [])) (few_full (n / 4096)) (few_rest (n % 4096) (omega arith))
