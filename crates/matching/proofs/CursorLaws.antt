-- The right cursor's way over rows whose keys do not fall: what a move keeps, what a greater left key keeps, and what a stop says of the rows ahead. Each is argued by
-- strategy, on keys. Assumes nothing.
use mathlib.Core.Path.{◌≡◌, refl}
use mathlib.Core.Bool.{Bool, true, false, not, ◌&&◌, ◌||◌}
use mathlib.Core.Logic.{◌⊎◌, inl, inr}
use Prim.Native.Nat.{ℕ, ◌+◌, ◌≤◌, ◌<◌}
use native.Mathlib.Omega.{arith}
use native.Mathlib.Decide.{ℕ_discrete}
use borrow.Author.Tests.{not-true, not-false}
use lib.IntN.{ℤ, pos, negsuc}
use Rattle.frames.specs.Cells.{Cell, null, value, is_null}
use Rattle.order.specs.options.Options.{key_rule}
use Rattle.order.specs.Order.{cmp_cell, distance}
use Rattle.order.proofs.OrderLaws.{AtMost, IsOrder, cmp_cell_is, cell_equal, three, less_or, less_then, then_less, same_right, less_greater, greater_less, less_at_most}
use Rattle.order.proofs.KeyLaws.{gap, distance_gap, key_up, nearer_below, nearer_above, farther_above}
use Rattle.frames.proofs.BoolLaws.{and-true}
use Rattle.std.specs.declared.cmp.Ordering.{Ordering}
use Rattle.std.specs.declared.cmp.Ordering.TheVariants.{Less, Equal, Greater}
use Rattle.order.specs.declared.options.Strategy.{Strategy}
use Rattle.order.specs.declared.options.Strategy.TheVariants.{Backward, Forward, Nearest}
use Rattle.matching.specs.Match.{on_side, nearer}
use Rattle.matching.specs.Moves.{Rising, fits_key, passed, moves_on, Behind, Stopped}
use Rattle.matching.proofs.MayLaws.{never, is_false, back_side, fore_side, nearer_least, nearer_by, nearer_then}

K : IsOrder (cmp_cell key_rule)
K = cmp_cell_is key_rule

-- ---- tests
or_left : (a b : Bool) → (a || b) ≡ false → (a ≡ false) × (b ≡ false)
or_left true b e = ((cc), (cc))
or_left false b e = (refl, e)

or_map : (a b c : Bool) → (b ≡ true → c ≡ true) → (a || b) ≡ true → (a || c) ≡ true
or_map true b c f e = refl
or_map false b c f e = f e

or_in : (a b : Bool) → (a ≡ false → b ≡ true) → (a || b) ≡ true
or_in true b f = refl
or_in false b f = f refl

or_out : (a b : Bool) → (a || b) ≡ true → a ≡ false → b ≡ true
or_out true b e n = cc
or_out false b e n = e

contra : (a b : Bool) → (b ≡ true → a ≡ true) → not a ≡ true → not b ≡ true
contra a false f e = refl
contra true true f e = e
contra false true f e = let z : false ≡ true = f refl in cc

-- ---- Backward's side and Forward's: they go with the keys
back_equal : (q : Bool) (z : Ordering) → on_side Backward q Equal ≡ true → (z ≡ Greater → ⊥) → on_side Backward q z ≡ true
back_equal q Less e h = refl
back_equal q Equal e h = e
back_equal q Greater e h = absurd (h refl)

fore_equal : (q : Bool) (z : Ordering) → on_side Forward q Equal ≡ true → (z ≡ Less → ⊥) → on_side Forward q z ≡ true
fore_equal q Less e h = absurd (h refl)
fore_equal q Equal e h = e
fore_equal q Greater e h = refl

module _ (q : Bool) where
  -- What is on Backward's side of v is on that of a greater key; and what is at most it is on that of v.
  pub back_up : (b v u : Cell) → AtMost (cmp_cell key_rule) v u → on_side Backward q (cmp_cell key_rule b v) ≡ true → on_side Backward q (cmp_cell key_rule b u) ≡ true
  back_up b v u h e = by (three K b v)
    where
      by : (cmp_cell key_rule b v ≡ Less) ⊎ ((cmp_cell key_rule b v ≡ Equal) ⊎ (cmp_cell key_rule b v ≡ Greater)) → on_side Backward q (cmp_cell key_rule b u) ≡ true
      by (inl l) = rw (less_then K b v u l h)
      by (inr (inl g)) = rw (K.same b v u g) (back_equal q (cmp_cell key_rule v u) (rw g at e) h)
      by (inr (inr g)) = absurd (back_side q (cmp_cell key_rule b v) e g)

  pub back_down : (n k v : Cell) → AtMost (cmp_cell key_rule) n k → on_side Backward q (cmp_cell key_rule k v) ≡ true → on_side Backward q (cmp_cell key_rule n v) ≡ true
  back_down n k v h e = by (three K k v)
    where
      by : (cmp_cell key_rule k v ≡ Less) ⊎ ((cmp_cell key_rule k v ≡ Equal) ⊎ (cmp_cell key_rule k v ≡ Greater)) → on_side Backward q (cmp_cell key_rule n v) ≡ true
      by (inl l) = rw (then_less K n k v h l)
      by (inr (inl g)) = rw (same_right K n k v g) (back_equal q (cmp_cell key_rule n k) (rw g at e) h)
      by (inr (inr g)) = absurd (back_side q (cmp_cell key_rule k v) e g)

  -- What is on Forward's side of a key is on that of a smaller one.
  pub fore_down : (a v u : Cell) → AtMost (cmp_cell key_rule) v u → on_side Forward q (cmp_cell key_rule a u) ≡ true → on_side Forward q (cmp_cell key_rule a v) ≡ true
  fore_down a v u h e = by (three K a u)
    where
      by : (cmp_cell key_rule a u ≡ Less) ⊎ ((cmp_cell key_rule a u ≡ Equal) ⊎ (cmp_cell key_rule a u ≡ Greater)) → on_side Forward q (cmp_cell key_rule a v) ≡ true
      by (inl l) = absurd (fore_side q (cmp_cell key_rule a u) e l)
      by (inr (inl g)) = rw (K.same a u v g) (fore_equal q (cmp_cell key_rule u v) (rw g at e) (λ l. h (less_greater K u v l)))
      by (inr (inr g)) = rw (less_greater K v a (then_less K v u a h (greater_less K a u g)))

-- ---- distances
gap_same : (a b : ℤ) → gap a b ≡ gap b a
unfolding gap
gap_same (pos a) (pos b) = omega arith
gap_same (pos a) (negsuc b) = omega arith
gap_same (negsuc a) (pos b) = omega arith
gap_same (negsuc a) (negsuc b) = omega arith

distance_same : (x y : Cell) → distance x y ≡ distance y x
distance_same null null = refl
distance_same null (value b) = refl
distance_same (value a) null = refl
distance_same (value a) (value b) = rw (distance_gap a b, distance_gap b a) (gap_same a b)

-- Of keys a ≤ b: where b is no farther from v than a, it is no farther from a greater key u.
near_up : (v u a b : Cell) → is_null v ≡ false → is_null a ≡ false → AtMost (cmp_cell key_rule) a b → AtMost (cmp_cell key_rule) v u → nearer v b a ≡ true → nearer u b a ≡ true
near_up v u a b nv na ab vu e = nearer_by u b a (by (less_or K u b)) ab
  where
    near : distance b v ≤ distance a v
    near = nearer_least v b a e

    inner : AtMost (cmp_cell key_rule) u b → (cmp_cell key_rule v a ≡ Less) ⊎ AtMost (cmp_cell key_rule) a v → distance b u ≤ distance a u
    inner ub (inl l) = same (three K a b)
      where
        same : (cmp_cell key_rule a b ≡ Less) ⊎ ((cmp_cell key_rule a b ≡ Equal) ⊎ (cmp_cell key_rule a b ≡ Greater)) → distance b u ≤ distance a u
        same (inl h) = let f = farther_above v a b nv (less_at_most K v a l) h in absurd (omega (arith, near, f))
        same (inr (inl g)) = rw (cell_equal key_rule a b g) (omega arith)
        same (inr (inr g)) = absurd (ab g)
    inner ub (inr av) =
        let p : distance b u ≤ distance b v = rw (distance_same b u, distance_same b v) (nearer_below b u v nv vu ub) in
        let r : distance a v ≤ distance a u = rw (distance_same a v, distance_same a u) (nearer_above a v u na av vu) in
        omega (arith, near, p, r)

    by : (cmp_cell key_rule u b ≡ Less) ⊎ AtMost (cmp_cell key_rule) b u → distance b u ≤ distance a u
    by (inl l) = inner (less_at_most K u b l) (less_or K v a)
    by (inr h) = nearer_below u b a na ab h

-- Of keys c ≤ n ≤ k: where n does not take the place of c, nor does k.
pub near_stop : (v c n k : Cell) → is_null v ≡ false → is_null c ≡ false → AtMost (cmp_cell key_rule) c n → AtMost (cmp_cell key_rule) n k → nearer v n c ≡ false → nearer v k c ≡ false
near_stop v c n k nv nc cn nk e = is_false (nearer v k c) (λ t. never (nearer v n c) (nearer_by v n c (by t (less_or K v n)) cn) e)
  where
    by : nearer v k c ≡ true → (cmp_cell key_rule v n ≡ Less) ⊎ AtMost (cmp_cell key_rule) n v → distance n v ≤ distance c v
    by t (inl l) =
        let a = nearer_above v n k nv (less_at_most K v n l) nk in
        let b = nearer_least v k c t in
        omega arith
    by t (inr h) = nearer_below v n c nc cn h

-- ---- one move, of keys a ≤ b ≤ d: from b to d, where a was passed
near_moved : (v a b d : Cell) → (is_null a ≡ false → is_null b ≡ false) → (is_null a || nearer v b a) ≡ true → (is_null b || (not (is_null d) && nearer v d b)) ≡ true → (is_null a || nearer v d a) ≡ true
near_moved v a b d f p m =
    or_in (is_null a) (nearer v d a) (λ n.
    let x = or_out (is_null a) (nearer v b a) p n in
    let y = or_out (is_null b) (not (is_null d) && nearer v d b) m (f n) in
    nearer_then v d b a (and-true (not (is_null d)) (nearer v d b) y).1 x)

near_first : (v b d : Cell) → (is_null b || (not (is_null d) && nearer v d b)) ≡ true → (is_null b || nearer v d b) ≡ true
near_first v b d = or_map (is_null b) (not (is_null d) && nearer v d b) (nearer v d b) (λ e. (and-true (not (is_null d)) (nearer v d b) e).1)

-- ---- rows at..end, whose keys do not fall
module _ (eq : Bool) (key : ℕ → Cell) (at end : ℕ) (up : Rising key at end) where
  pub moved : (s : Strategy) (v : Cell) (c : ℕ) → at ≤ c → c + 1 < end → moves_on s eq v (key c) (key (c + 1)) ≡ true → Behind s eq key at v c → Behind s eq key at v (c + 1)
  moved Backward v c hc he m b = λ k l h. m
  moved Forward v c hc he m b = λ k l h. by k l h (ℕ_discrete k c)
    where
      by : (k : ℕ) → at ≤ k → k < c + 1 → Dec (k ≡ c) → not (fits_key Forward eq v (key k)) ≡ true
      by k l h (yes e) = rw e m
      by k l h (no e) = b k l (omega arith)
  moved Nearest v c hc he m b = λ k l h. by k l h (ℕ_discrete k c)
    where
      by : (k : ℕ) → at ≤ k → k < c + 1 → Dec (k ≡ c) → (is_null (key k) || nearer v (key (c + 1)) (key k)) ≡ true
      by k l h (yes e) = rw e (near_first v (key c) (key (c + 1)) m)
      by k l h (no e) = near_moved v (key k) (key c) (key (c + 1)) (key_up (key k) (key c) (up k c l (omega arith) (omega arith))) (b k l (omega arith)) m

  -- For a greater left key it is still so.
  pub later : (s : Strategy) (v u : Cell) (c : ℕ) → is_null v ≡ false → AtMost (cmp_cell key_rule) v u → c < end → Behind s eq key at v c → Behind s eq key at u c
  later Backward v u c n h he b = λ k l i.
      or_map (is_null (key c)) (on_side Backward eq (cmp_cell key_rule (key c) v)) (on_side Backward eq (cmp_cell key_rule (key c) u)) (back_up eq (key c) v u h) (b k l i)
  later Forward v u c n h he b = λ k l i.
      contra (fits_key Forward eq v (key k)) (fits_key Forward eq u (key k)) (λ e.
      let p = and-true (not (is_null (key k))) (on_side Forward eq (cmp_cell key_rule (key k) u)) e in
      rw (p.0, fore_down eq (key k) v u h p.1)) (b k l i)
  later Nearest v u c n h he b = λ k l i.
      or_in (is_null (key k)) (nearer u (key c) (key k)) (λ m.
      near_up v u (key k) (key c) n m (up k c l (omega arith) he) h (or_out (is_null (key k)) (nearer v (key c) (key k)) (b k l i) m))

  -- ---- what is chosen
  abbrev pub takes_key : Strategy → Cell → Cell → Cell → Bool
  takes_key Backward v a b = true
  takes_key Forward v a b = false
  takes_key Nearest v a b = nearer v a b

  -- A row behind that fits gives way to row c, which fits.
  pub gives_way : (s : Strategy) (v : Cell) (c k : ℕ) → Behind s eq key at v c → at ≤ k → k < c → c < end → fits_key s eq v (key k) ≡ true
      → (fits_key s eq v (key c) ≡ true) × (takes_key s v (key c) (key k) ≡ true)
  gives_way Backward v c k b l h he e =
      let p = and-true (not (is_null (key k))) (on_side Backward eq (cmp_cell key_rule (key k) v)) e in
      let n = key_up (key k) (key c) (up k c l (omega arith) he) (not-true (is_null (key k)) p.0) in
      (rw (n, or_out (is_null (key c)) (on_side Backward eq (cmp_cell key_rule (key c) v)) (b k l h) n), refl)
  gives_way Forward v c k b l h he e = absurd (never (fits_key Forward eq v (key k)) e (not-true (fits_key Forward eq v (key k)) (b k l h)))
  gives_way Nearest v c k b l h he e =
      let p = and-true (not (is_null (key k))) true e in
      let m = not-true (is_null (key k)) p.0 in
      let n = key_up (key k) (key c) (up k c l (omega arith) he) m in
      (rw n, or_out (is_null (key k)) (nearer v (key c) (key k)) (b k l h) m)

  -- A row ahead that fits does not take the place of row c, which fits.
  pub holds_place : (s : Strategy) (v : Cell) (c k : ℕ) → is_null v ≡ false → Stopped s eq key end v c → at ≤ c → c < k → k < end → fits_key s eq v (key k) ≡ true
      → (fits_key s eq v (key c) ≡ true) × (takes_key s v (key k) (key c) ≡ false)
  holds_place Backward v c k nv st l h he e =
      let p = and-true (not (is_null (key k))) (on_side Backward eq (cmp_cell key_rule (key k) v)) e in
      let q = or_left (is_null (key (c + 1))) (on_side Backward eq (cmp_cell key_rule (key (c + 1)) v)) (st (omega arith)) in
      absurd (never (on_side Backward eq (cmp_cell key_rule (key (c + 1)) v)) (back_down eq (key (c + 1)) (key k) v (up (c + 1) k (omega arith) (omega arith) he) p.1) q.1)
  holds_place Forward v c k nv st l h he e = (not-false (fits_key Forward eq v (key c)) (st (omega arith)), refl)
  holds_place Nearest v c k nv st l h he e =
      let q = or_left (is_null (key c)) (not (is_null (key (c + 1))) && nearer v (key (c + 1)) (key c)) (st (omega arith)) in
      let n = key_up (key c) (key (c + 1)) (up c (c + 1) l (omega arith) (omega arith)) q.0 in
      let m : nearer v (key (c + 1)) (key c) ≡ false = rw n at q.1 in
      (rw q.0, near_stop v (key c) (key (c + 1)) (key k) nv q.0 (up c (c + 1) l (omega arith) (omega arith)) (up (c + 1) k (omega arith) (omega arith) he) m)
