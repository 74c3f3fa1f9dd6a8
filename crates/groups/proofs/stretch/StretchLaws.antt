-- Cells by their words, rows by their places, and rows with the same by-cells as one group. Assumes nothing.
use mathlib.Core.Path.{◌≡◌, sym, ◌∙◌}
use Prim.Native.Nat.{ℕ, ◌+◌, ◌-◌, ◌*◌, ◌≤◌, ◌<◌}
use native.Mathlib.Nat.{mul-le-mul_right}
use native.Mathlib.Omega.{arith}
use native.Mathlib.Decide.{ℕ_discrete, dec_lt}
use lib.IntN.{ℤ}
use lib.ListN.{length}
use Rattle.frames.specs.Cells.{Cell, Words, cell_of, row_from}
use Rattle.order.specs.declared.options.Options.{Options}
use Rattle.order.specs.Order.{cmp_group}
use Rattle.order.specs.Requires.{cell_at}
use Rattle.std.specs.declared.cmp.Ordering.TheVariants.{Equal}
use Rattle.order.proofs.OrderLaws.{equal_group}
use Rattle.order.proofs.RowLaws.{row_cell}
use Rattle.groups.specs.stretch.Stretch.{Have, SameTo}

-- The same words tell the same cell.
pub same_cell : {v w m n : ℤ} → v ≡ w → m ≡ n → cell_of v m ≡ cell_of w n
same_cell e f = rw (e, f)

-- Four rows, one w words behind the other.
pub four_places : (P : ℕ → Type 0) (q w : ℕ) → P q → P (q + w) → P (q + w + w) → P (q + w + w + w) → (j : ℕ) → j < 4 → P (q + j * w)
four_places P q w a b c d j h = by (ℕ_discrete j 0) (ℕ_discrete j 1) (ℕ_discrete j 2)
  where
    by : Dec (j ≡ 0) → Dec (j ≡ 1) → Dec (j ≡ 2) → P (q + j * w)
    by (yes e) y z = let f : q + 0 * w ≡ q = omega arith in rw (e, f) a
    by (no x) (yes e) z = let f : q + 1 * w ≡ q + w = omega arith in rw (e, f) b
    by (no x) (no y) (yes e) = let f : q + 2 * w ≡ q + w + w = omega arith in rw (e, f) c
    by (no x) (no y) (no z) =
        let e : j ≡ 3 = omega arith in
        let f : q + 3 * w ≡ q + w + w + w = omega arith in
        rw (e, f) d

-- ---- a walk over n rows, of which `left` are left, from place q on
pub walk_start : (e n w : ℕ) → e ≤ n → e * w + (n - e) * w ≡ n * w
walk_start e n w h = let z : (e + (n - e)) * w ≡ n * w = let y : e + (n - e) ≡ n = omega arith in rw y in omega arith

pub left_room : (left w d : ℕ) → d ≤ left → d * w ≤ left * w
left_room left w d h = mul-le-mul_right {m = d} {n = left} w h

-- The next d rows are passed too.
pub pass_more : (P : ℕ → Type 0) (e n w left q d : ℕ) → left ≤ n → d ≤ left → q + left * w ≡ n * w → ((k : ℕ) → e ≤ k → k + left < n → P (k * w)) → ((j : ℕ) → j < d → P (q + j * w))
    → (k : ℕ) → e ≤ k → k + (left - d) < n → P (k * w)
pass_more P e n w left q d l f r before here k g h = by (dec_lt (k + left) n)
  where
    by : Dec (k + left < n) → P (k * w)
    by (yes y) = before k g y
    by (no y) =
        let a : k + left ≡ n + (k + left - n) = omega arith in
        let b : k * w + left * w ≡ n * w + (k + left - n) * w = expand k left n (k + left - n) w a in
        let c : q + (k + left - n) * w ≡ k * w = omega arith in
        rw c at (here (k + left - n) (omega arith))
      where
        expand : (k l n d w : ℕ) → k + l ≡ n + d → k * w + l * w ≡ n * w + d * w
        expand k l n d w e = let z : (k + l) * w ≡ (n + d) * w = rw e in omega arith

pub left_less : (n w left q d : ℕ) → d ≤ left → q + left * w ≡ n * w → q + d * w + (left - d) * w ≡ n * w
left_less n w left q d h r = let z : (d + (left - d)) * w ≡ left * w = let y : d + (left - d) ≡ left = omega arith in rw y in omega arith

-- What the walk has passed when it stops.
pub have_passed : (w e n : ℕ) (vs ms : Words) (c : Cell) (left : ℕ) → e + left ≤ n → ((k : ℕ) → e ≤ k → k + left < n → cell_at (k * w) vs ms ≡ c) → Have w e n vs ms c (n - left)
have_passed w e n vs ms c left h p = record { start = omega arith; within = omega arith; have = λ k g l. p k g (omega (arith, l)) }

pub have_join : {w a m n : ℕ} {vs ms : Words} {c : Cell} {e r : ℕ} → Have w a m vs ms c e → Have w e n vs ms c r → Have w a n vs ms c r
have_join {w = w} {a = a} {vs = vs} {ms = ms} {c = c} {e = e} {r = r} x y = record { start = omega (arith, x.start, y.start); within = y.within; have = λ k g h. by k g h (dec_lt k e) }
  where
    by : (k : ℕ) → a ≤ k → k < r → Dec (k < e) → cell_at (k * w) vs ms ≡ c
    by k g h (yes l) = x.have k g l
    by k g h (no l) = y.have k (omega (arith, l)) h

-- ---- rows with the first cell of row i have the first cell of the row before them
pub one_same : (w n m : ℕ) (vs ms : Words) (i r : ℕ) (c : Cell) → m ≤ n → cell_at (i * w) vs ms ≡ c → Have w (i + 1) m vs ms c r → SameTo 1 w n vs ms i r
one_same w n m vs ms i r c b f h = record { start = omega (arith, h.start); within = omega (arith, h.within); same = λ k g l j z. pair k g l j z }
  where
    all : (k : ℕ) → i ≤ k → k < r → Dec (k ≡ i) → cell_at (k * w) vs ms ≡ c
    all k g l (yes e) = rw e f
    all k g l (no e) = h.have k (omega arith) l

    pair : (k : ℕ) → i ≤ k → k + 1 < r → (j : ℕ) → j < 1 → cell_at (k * w + j) vs ms ≡ cell_at (k * w + w + j) vs ms
    pair k g l j z =
        let e : j ≡ 0 = omega arith in
        let x : k * w + 0 ≡ k * w = omega arith in
        let y : k * w + w + 0 ≡ (k + 1) * w = omega arith in
        rw (e, x, y) (all k g (omega arith) (ℕ_discrete k i) ∙ sym (all (k + 1) (omega arith) l (ℕ_discrete (k + 1) i)))

-- ---- pairs of neighbours, one more
pub same_first : (by w n : ℕ) (vs ms : Words) (i : ℕ) → i < n → SameTo by w n vs ms i (i + 1)
same_first by w n vs ms i h = record { start = omega arith; within = omega arith; same = λ k g l j z. absurd (omega (arith, g, l)) }

pub same_more : (by w n : ℕ) (vs ms : Words) (i e p : ℕ) → SameTo by w n vs ms i e → e < n → p + w ≡ e * w → ((j : ℕ) → j < by → cell_at (p + j) vs ms ≡ cell_at (p + w + j) vs ms) → SameTo by w n vs ms i (e + 1)
same_more by w n vs ms i e p s h q f = record { start = omega (arith, s.start); within = omega arith; same = λ k g l j z. pair k g l j z (ℕ_discrete (k + 1) e) }
  where
    pair : (k : ℕ) → i ≤ k → k + 1 < e + 1 → (j : ℕ) → j < by → Dec (k + 1 ≡ e) → cell_at (k * w + j) vs ms ≡ cell_at (k * w + w + j) vs ms
    pair k g l j z (yes y) =
        let a : (k + 1) * w ≡ e * w = rw y in
        let b : k * w ≡ p = omega arith in
        rw b (f j z)
    pair k g l j z (no y) = s.same k g (omega arith) j z

-- With one by-column its cell is all.
pub first_same : (p q : ℕ) (vs ms : Words) → cell_at p vs ms ≡ cell_at q vs ms → (j : ℕ) → j < 1 → cell_at (p + j) vs ms ≡ cell_at (q + j) vs ms
first_same p q vs ms e j h =
    let z : j ≡ 0 = omega arith in
    let a : p + 0 ≡ p = omega arith in
    let b : q + 0 ≡ q = omega arith in
    rw (z, a, b) e

pub same_none : (w n : ℕ) (vs ms : Words) (i : ℕ) → i < n → SameTo 0 w n vs ms i n
same_none w n vs ms i h = record { start = h; within = omega arith; same = λ k g l j z. absurd (omega (arith, z)) }

-- ---- rows with the same by-cells are of one group, by whatever list
pub same_group_lem : (o : Options) (w p q : ℕ) (vs ms : Words) → o.by < w → p + o.by < length vs → q + o.by < length vs → ((j : ℕ) → j < o.by → cell_at (p + j) vs ms ≡ cell_at (q + j) vs ms) → cmp_group o (row_from w p vs ms) (row_from w q vs ms) ≡ Equal
same_group_lem o w p q vs ms h a b f =
    equal_group o (row_from w p vs ms) (row_from w q vs ms) (λ j k.
    row_cell w p j vs ms (omega (arith, h, k)) (omega (arith, k, a)) ∙ f j k ∙ sym (row_cell w q j vs ms (omega (arith, h, k)) (omega (arith, k, b))))
