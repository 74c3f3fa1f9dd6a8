-- A table's rows passed on, and a sale added behind or among them. Assumes nothing.
use mathlib.Core.Path.{◌≡◌, refl, sym, ap, ◌∙◌}
use mathlib.Core.Bool.{Bool, true, false, cond}
use mathlib.Core.List.{List, [], ◌∷◌, ◌++◌, append_assoc}
use Prim.Native.Nat.{ℕ, zero, suc, ◌+◌, ◌-◌, ◌*◌, ◌≤◌, ◌<◌}
use native.Mathlib.Omega.{arith}
use native.Mathlib.Decide.{dec_lt}
use lib.IntN.{ℤ, pos}
use lib.ListN.{length, take, drop, get_or, length-append, length-drop, take-append-drop, get_or-append}
use lib.Seq.{paste, take_at, drop_at, get_or-append-add, get_or-take, get_or-drop, drop-drop, drop-append-add, length-take-le, take-take, take_all}
use Rattle.frames.specs.Cells.{Cell, Words, row_from}
use Rattle.order.specs.declared.options.Options.{Options}
use Rattle.order.specs.Order.{cmp_group}
use Rattle.std.specs.declared.cmp.Ordering.{Ordering}
use Rattle.std.specs.declared.cmp.Ordering.TheVariants.{Less, Equal, Greater}
use Rattle.order.proofs.OrderLaws.{cmp_group_is, greater_less, less_greater}
use Rattle.order.proofs.RowLaws.{row_room}
use Rattle.takings.specs.Subtotals.{Subtotal, cmp_sub, plus, insert, ascending}
use Rattle.takings.proofs.SubtotalLaws.{Above, Rising, rising, rising_ascending, rising_insert}
use Rattle.sales.specs.saleplace.Place.{cmp_at, Placed}
use Rattle.sales.specs.saleinsert.Held.{EachPlain, Held, Addable, sub_at, Stands, unit_of, Inserted}
use Rattle.sales.proofs.saleinsert.InsertLaws.{table_values, values_append, values_long, body_long, before_long, cut_gap, plain_take, plain_drop, plain_append, above_then, first_greater, row_told, placed_stands}
use Rattle.sales.specs.salepass.Pass.{Written, Added, Behind, EachAddable}

abbrev nothing : Subtotal
nothing = record { group = []; total = pos 0; count = 0 }

true_false : {A : Type 0} → true ≡ false → A
true_false e = let z : ◌≡◌ {A = ℕ} 0 1 = cc in absurd (omega arith)

module _ (o : Options) where
  abbrev w : ℕ
  w = suc (suc o.by)

  -- ---- tables in group order, one behind the other
  above_front : (g : List Cell) (xs ys : List Subtotal) → Above o g (xs ++ ys) → Above o g xs
  above_front g [] ys a = tt
  above_front g (x ∷ xs) ys a = (a.0, above_front g xs ys a.1)

  above_back : (g : List Cell) (xs ys : List Subtotal) → Above o g (xs ++ ys) → Above o g ys
  above_back g [] ys a = a
  above_back g (x ∷ xs) ys a = above_back g xs ys a.1

  rising_front : (xs ys : List Subtotal) → Rising o (xs ++ ys) → Rising o xs
  rising_front [] ys r = tt
  rising_front (x ∷ xs) ys r = (above_front x.group xs ys r.0, rising_front xs ys r.1)

  above_equal : (g h : List Cell) (ts : List Subtotal) → cmp_group o h g ≡ Equal → Above o h ts → Above o g ts
  above_equal g h [] e a = tt
  above_equal g h (t ∷ ts) e a = (sym ((cmp_group_is o).same h g t.group e) ∙ a.0, above_equal g h ts e a.1)

  -- A row of the first is before each row of the second.
  rest_above : (xs ys : List Subtotal) (p : ℕ) → Rising o (xs ++ ys) → p < length xs → Above o (sub_at xs p).group ys
  rest_above [] ys p r l = absurd (omega arith)
  rest_above (x ∷ xs) ys zero r l = above_back x.group xs ys r.0
  rest_above (x ∷ xs) ys (suc p) r l = rest_above xs ys p r.1 (omega arith)

  -- A group that has its place among the rows of the first is before each row of the second.
  pub stands_above : (xs ys : List Subtotal) (g : List Cell) (p : ℕ) (here : Bool) → Rising o (xs ++ ys) → p < length xs → Stands o xs g p here → Above o g ys
  stands_above xs ys g p true r l s = above_equal g (sub_at xs p).group ys (s.yes refl).1 (rest_above xs ys p r l)
  stands_above xs ys g p false r l s = above_then o g (sub_at xs p).group ys (greater_less (cmp_group_is o) (sub_at xs p).group g ((s.no refl).1 l)) (rest_above xs ys p r l)

  -- One that is less than the first of them is before each.
  first_above : (g : List Cell) (T : List Subtotal) (e : ℕ) → Rising o T → (e < length T → cmp_group o (sub_at T e).group g ≡ Greater) → Above o g (drop e T)
  first_above g [] zero r h = tt
  first_above g [] (suc e) r h = tt
  first_above g (t ∷ ts) zero r h = let l = greater_less (cmp_group_is o) t.group g (h (omega arith)) in (l, above_then o g t.group ts l r.0)
  first_above g (t ∷ ts) (suc e) r h = first_above g ts e r.1 (λ k. h (omega arith))

  -- ---- a sale before all rows behind
  insert_front : (u : Subtotal) (xs ys : List Subtotal) → Above o u.group ys → insert o u (xs ++ ys) ≡ insert o u xs ++ ys
  unfolding insert
  insert_front u [] [] a = refl
  insert_front u [] (y ∷ ys) a = first_greater o u (y ∷ ys) (λ l. less_greater (cmp_group_is o) u.group y.group a.0)
  insert_front u (x ∷ xs) ys a = by (cmp_sub o u x) (insert_front u xs ys a)
    where
      by : (z : Ordering) → insert o u (xs ++ ys) ≡ insert o u xs ++ ys
          → ◌≡◌ {A = List Subtotal} (elim z [ Less ↦ u ∷ x ∷ (xs ++ ys) | Equal ↦ plus x u ∷ (xs ++ ys) | Greater ↦ x ∷ insert o u (xs ++ ys) ]) (elim z [ Less ↦ u ∷ x ∷ xs | Equal ↦ plus x u ∷ xs | Greater ↦ x ∷ insert o u xs ] ++ ys)
      by Less e = refl
      by Equal e = refl
      by Greater e = ap (λ (z : List Subtotal). x ∷ z) e

  -- ---- rows that are passed
  -- Rows passed, and those that are left.
  pub rest_passed : (from to : ℕ) (T : List Subtotal) → from ≤ to → take (to - from) (drop from T) ++ drop to T ≡ drop from T
  rest_passed from to T l =
      let e : from + (to - from) ≡ to = omega arith in
      ap (λ (z : List Subtotal). take (to - from) (drop from T) ++ z) (rw e at (sym (drop-drop (to - from) from T))) ∙ take-append-drop (to - from) (drop from T)

  words_passed : (n : ℕ) (T : List Subtotal) (table : Words) → Held o n T table table → (from to : ℕ) → from ≤ to → to ≤ n
      → take ((to - from) * w) (drop (from * w) table) ≡ table_values (take (to - from) (drop from T))
  words_passed n T table k from to l h =
      let R : Words = drop (n * w) table in
      let D : List Subtotal = drop from T in
      let d : ℕ = to - from in
      let m = k.rows in
      let ld : length D ≡ n - from = length-drop from T ∙ ap (λ (z : ℕ). z - from) m in
      let a : drop (from * w) table ≡ table_values D ++ R =
      ap (drop (from * w)) (k.words ∙ cut_gap o.by n T R k.each m from (omega arith)) ∙ drop_at (table_values (take from T)) (table_values D ++ R) (from * w) (before_long o.by n T R k.each m from (omega arith)) in
      let f = plain_drop o.by T from k.each in
      ap (take (d * w)) (a ∙ cut_gap o.by (n - from) D R f ld d (omega arith)) ∙ take_at (table_values (take d D)) (table_values (drop d D) ++ R) (d * w) (before_long o.by (n - from) D R f ld d (omega arith))

  module _ (n m : ℕ) (T ts : List Subtotal) (table b₀ body : Words) (k : Held o m ts b₀ body) (s : Held o n T table table) (from to : ℕ) (l : from ≤ to) (h : to ≤ n) where
    abbrev S : List Subtotal
    S = take (to - from) (drop from T)

    passed_count : length S ≡ to - from
    passed_count = length-take-le (to - from) (drop from T) (omega (arith, length-drop from T, s.rows))

    -- They are held too.
    pub passed_held : ascending o (ts ++ drop from T) ≡ true → (m + (to - from)) * w ≤ length body → (body' : Words) → body' ≡ paste body (m * w) (drop (from * w) table) ((to - from) * w)
        → Held o (m + (to - from)) (ts ++ S) b₀ body'
    passed_held a room body' e =
        let d : ℕ = to - from in
        let R : Words = drop (m * w) b₀ in
        let x : (m + d) * w ≡ m * w + d * w = omega arith in
        let lv : length (table_values ts) ≡ m * w = values_long o.by ts k.each ∙ ap (λ (z : ℕ). z * w) k.rows in
        let front : take (m * w) body ≡ table_values ts = ap (take (m * w)) k.words ∙ take_at (table_values ts) R (m * w) lv in
        let dr : drop (m * w + d * w) body ≡ drop ((m + d) * w) b₀ =
        ap (drop (m * w + d * w)) k.words ∙ rw lv at (drop-append-add (table_values ts) R (d * w)) ∙ drop-drop (d * w) (m * w) b₀ ∙ ap (λ (z : ℕ). drop z b₀) (sym x) in
        let words : body' ≡ table_values (ts ++ S) ++ drop ((m + d) * w) b₀ =
        e ∙ ap (λ (z : Words). z ++ take (d * w) (drop (from * w) table) ++ drop (m * w + d * w) body) front
        ∙ ap (λ (z : Words). table_values ts ++ z ++ drop (m * w + d * w) body) (words_passed n T table s from to l h)
        ∙ ap (λ (z : Words). table_values ts ++ table_values S ++ z) dr
        ∙ ap (λ (z : Words). z ++ drop ((m + d) * w) b₀) (sym (values_append ts S)) in
        let count : length (ts ++ S) ≡ m + d = length-append ts S ∙ omega (arith, k.rows, passed_count) in
        let each : EachPlain o.by (ts ++ S) = plain_append o.by ts S k.each (plain_take o.by (drop from T) d (plain_drop o.by T from s.each)) in
        let all : ts ++ drop from T ≡ (ts ++ S) ++ drop to T = ap (λ (z : List Subtotal). ts ++ z) (sym (rest_passed from to T l)) ∙ sym (append_assoc ts S (drop to T)) in
        record {
          rows = count;
          words = words;
          long = body_long o.by (m + d) (ts ++ S) (drop ((m + d) * w) b₀) body' count each words ∙ omega (arith, length-drop ((m + d) * w) b₀, room, k.long);
          order = rising_ascending o (ts ++ S) (rising_front (ts ++ S) (drop to T) (rw all at (rising o (ts ++ drop from T) a)));
          each = each;
        }

    -- Row j of the table is row m + (j - from) now.
    passed_at : (j : ℕ) → from ≤ j → j < to → sub_at (ts ++ S) (m + (j - from)) ≡ sub_at T j
    passed_at j p q =
        let e : from + (j - from) ≡ j = omega arith in
        rw (← k.rows) (get_or-append-add ts S (j - from) nothing) ∙ get_or-take (to - from) (drop from T) (j - from) nothing (omega arith) ∙ get_or-drop from T (j - from) nothing ∙ ap (λ (z : ℕ). sub_at T z) e

    -- Those that were there stay.
    stayed_at : (j : ℕ) → j < m → sub_at (ts ++ S) j ≡ sub_at ts j
    stayed_at j q = get_or-append ts S nothing j (omega (arith, k.rows))

  -- ---- places
  -- A place at the end is behind all rows.
  pub placed_behind : (m : ℕ) (body : Words) (x : List Cell) (p : ℕ) (here : Bool) → Placed o w 0 m body x p here → m ≤ p → Behind o m body x
  placed_behind m body x p true h l = absurd (omega (arith, (h.yes refl).0))
  placed_behind m body x p false h l = let e : p ≡ m = omega (arith, h.within) in rw e at (h.no refl).0

  -- The row behind the place of a group.
  abbrev pub end_of : ℕ → Bool → ℕ
  end_of p here = cond here (p + 1) p

  pub end_range : (n p : ℕ) (here : Bool) → p ≤ n → (here ≡ true → p < n) → (p ≤ end_of p here) × (end_of p here ≤ n)
  end_range n p true l h = (omega arith, omega (arith, h refl))
  end_range n p false l h = (omega arith, l)

  -- A group behind all m rows, with its place in the table: its place once the rows up to it are passed.
  module _ (n m taken : ℕ) (T ts : List Subtotal) (table b₀ body : Words) (k : Held o m ts b₀ body) (s : Held o n T table table) (x : List Cell) (p : ℕ) (behind : 0 < m → cmp_at o w body x (m - 1) ≡ Less) where
    pub behind_stands : (here : Bool) → Placed o w taken n table x p here → Stands o (ts ++ take (end_of p here - taken) (drop taken T)) (take o.by x) (m + (p - taken)) here
    behind_stands true h =
        let q = h.yes refl in
        let c = passed_count n m T ts table b₀ body k s taken (p + 1) (omega (arith, h.least)) (omega (arith, q.0)) in
        let S : List Subtotal = take (p + 1 - taken) (drop taken T) in
        let a : length (ts ++ S) ≡ m + (p + 1 - taken) = length-append ts S ∙ omega (arith, k.rows, c) in
        let e : sub_at (ts ++ S) (m + (p - taken)) ≡ sub_at T p = passed_at n m T ts table b₀ body k s taken (p + 1) (omega (arith, h.least)) (omega (arith, q.0)) p h.least (omega arith) in
        record {
          within = omega (arith, a, h.least);
          yes = λ t. (omega (arith, a, h.least), rw e (row_told o n T table table s x p q.0 Equal q.1));
          no = λ t. true_false t;
        }
    behind_stands false h =
        let q = h.no refl in
        let c = passed_count n m T ts table b₀ body k s taken p h.least h.within in
        let S : List Subtotal = take (p - taken) (drop taken T) in
        let a : length (ts ++ S) ≡ m + (p - taken) = length-append ts S ∙ omega (arith, k.rows, c) in
        record { within = omega (arith, a); yes = λ t. true_false (sym t); no = λ t. (λ l. before (dec_lt taken p) l, λ l. absurd (omega (arith, a))) }
      where
        before : Dec (taken < p) → 0 < m + (p - taken) → cmp_group o (sub_at (ts ++ take (p - taken) (drop taken T)) (m + (p - taken) - 1)).group (take o.by x) ≡ Less
        before (yes d) l =
            let i : m + (p - taken) - 1 ≡ m + (p - 1 - taken) = omega arith in
            let e = passed_at n m T ts table b₀ body k s taken p h.least h.within (p - 1) (omega arith) (omega arith) in
            rw (i, e) (row_told o n T table table s x (p - 1) (omega (arith, h.within)) Less ((h.no refl).0 d))
        before (no d) l =
            let i : m + (p - taken) - 1 ≡ m - 1 = omega (arith, h.least) in
            let e = stayed_at n m T ts table b₀ body k s taken p h.least h.within (m - 1) (omega (arith, h.least)) in
            rw (i, e) (row_told o m ts b₀ body k x (m - 1) (omega (arith, h.least)) Less (behind (omega (arith, h.least))))

    -- It is before all rows that are left.
    pub behind_above : (here : Bool) → ascending o (ts ++ drop taken T) ≡ true → Placed o w taken n table x p here → Above o (take o.by x) (drop (end_of p here) T)
    behind_above true a h =
        let q = h.yes refl in
        let l : taken ≤ p + 1 = omega (arith, h.least) in
        let S : List Subtotal = take (p + 1 - taken) (drop taken T) in
        let c = passed_count n m T ts table b₀ body k s taken (p + 1) l (omega (arith, q.0)) in
        let all : ts ++ drop taken T ≡ (ts ++ S) ++ drop (p + 1) T = ap (λ (z : List Subtotal). ts ++ z) (sym (rest_passed taken (p + 1) T l)) ∙ sym (append_assoc ts S (drop (p + 1) T)) in
        stands_above (ts ++ S) (drop (p + 1) T) (take o.by x) (m + (p - taken)) true (rw all at (rising o (ts ++ drop taken T) a)) (omega (arith, length-append ts S, k.rows, c, h.least)) (behind_stands true h)
    behind_above false a h = first_above (take o.by x) T p (rising o T s.order) (λ l. row_told o n T table table s x p (omega (arith, s.rows)) Greater ((h.no refl).1 (omega (arith, s.rows))))

  -- ---- a sale added
  -- Among the rows that are written, with all rows that are left behind it.
  pub added_written : (n m taken : ℕ) (T ts W : List Subtotal) (table b₀ body : Words) (u : Subtotal) → Held o n T table table → taken ≤ n → ascending o W ≡ true → ts ++ drop taken T ≡ W
      → Above o u.group (drop taken T) → Held o m (insert o u ts) b₀ body → Written o n m taken T (insert o u W) table b₀ body
  added_written n m taken T ts W table b₀ body u s l a e h k = record {
    ts = insert o u ts;
    held = k;
    source = s;
    within = l;
    order = rising_ascending o (insert o u W) (rising_insert o u W (rising o W a));
    whole = sym (insert_front u ts (drop taken T) h) ∙ ap (insert o u) e;
  }

  -- All sales are added: the rows that are left are passed.
  pub all_written_lem : (n m taken : ℕ) (T W : List Subtotal) (table b₀ body : Words) → Written o n m taken T W table b₀ body → (m + (n - taken)) * w ≤ length body → (body' : Words)
      → body' ≡ paste body (m * w) (drop (taken * w) table) ((n - taken) * w) → Held o (m + (n - taken)) W b₀ body'
  all_written_lem n m taken T W table b₀ body s room body' e =
      let a : take (n - taken) (drop taken T) ≡ drop taken T = take_all (n - taken) (drop taken T) (omega (arith, length-drop taken T, s.source.rows)) in
      let k = passed_held n m T s.ts table b₀ body s.held s.source taken n s.within (omega arith) (rw s.whole s.order) room body' e in
      rw (a, s.whole) at k

  module _ (n m taken q : ℕ) (table vs ms : Words) (amount : ℤ) (body : Words) (p : ℕ) (here : Bool) where
    abbrev x : List Cell
    x = row_from (suc o.by) q vs ms

    abbrev end : ℕ
    end = end_of p here

    -- A sale among the rows.
    pub among_added : Placed o w 0 m body x p here → p < m → (m' : ℕ) (body' : Words) → Inserted o m p here q vs ms amount body m' body' → Added o n m taken table q vs ms amount body m' taken body'
    among_added h l m' body' i = record {
      adds = λ T W b₀ a f e s.
          let t = placed_stands o m s.ts b₀ body x p here s.held h in
          added_written n m' taken T s.ts W table b₀ body' (unit_of o x amount) s.source s.within s.order s.whole
          (stands_above s.ts (drop taken T) (take o.by x) p here (rising o (s.ts ++ drop taken T) (rw s.whole s.order)) (omega (arith, s.held.rows)) t)
          (i.holds s.ts b₀ a f e t s.held);
    }

    -- A sale behind them: the rows up to its group are passed first.
    pub behind_added : Behind o m body x → Placed o w taken n table x p here → (m + (end - taken)) * w ≤ length body → (body₁ : Words) → body₁ ≡ paste body (m * w) (drop (taken * w) table) ((end - taken) * w)
        → (m' : ℕ) (body' : Words) → Inserted o (m + (end - taken)) (m + (p - taken)) here q vs ms amount body₁ m' body' → Added o n m taken table q vs ms amount body m' end body'
    behind_added b h room body₁ e m' body' i =
        let g = end_range n p here h.within (λ t. (h.yes t).0) in
        let l : taken ≤ end = omega (arith, h.least, g.0) in
        record {
          adds = λ T W b₀ a f z s.
              let S : List Subtotal = take (end - taken) (drop taken T) in
              let c : ascending o (s.ts ++ drop taken T) ≡ true = rw s.whole s.order in
              let k = passed_held n m T s.ts table b₀ body s.held s.source taken end l g.1 c room body₁ e in
              let t = behind_stands n m taken T s.ts table b₀ body s.held s.source x p b here h in
              let all : (s.ts ++ S) ++ drop end T ≡ W = append_assoc s.ts S (drop end T) ∙ ap (λ (y : List Subtotal). s.ts ++ y) (rest_passed taken end T l) ∙ s.whole in
              added_written n m' end T (s.ts ++ S) W table b₀ body' (unit_of o x amount) s.source g.1 s.order all
              (behind_above n m taken T s.ts table b₀ body s.held s.source x p b here c h)
              (i.holds (s.ts ++ S) b₀ a f z t k);
        }

-- ---- the words of a row that was passed
module _ (w m taken end : ℕ) (table body body₁ : Words) (e : body₁ ≡ paste body (m * w) (drop (taken * w) table) ((end - taken) * w)) (room : (m + (end - taken)) * w ≤ length body) (there : end * w ≤ length table) where
  pub word_passed : (p j : ℕ) → taken ≤ p → p < end → j < w → get_or body₁ ((m + (p - taken)) * w + j) (pos 0) ≡ get_or table (p * w + j) (pos 0)
  word_passed p j l h k =
      let X : Words = take (m * w) body in
      let Y : Words = take ((end - taken) * w) (drop (taken * w) table) in
      let Z : Words = drop (m * w + (end - taken) * w) body in
      let a : (m + (end - taken)) * w ≡ m * w + (end - taken) * w = omega arith in
      let b : (m + (p - taken)) * w ≡ m * w + (p - taken) * w = omega arith in
      let c : taken * w + (p - taken) * w ≡ p * w = (let z : p ≡ taken + (p - taken) = omega arith in let y : (taken + (p - taken)) * w ≡ taken * w + (p - taken) * w = omega arith in sym (ap (λ (i : ℕ). i * w) z ∙ y)) in
      let d : taken * w + (end - taken) * w ≡ end * w = (let z : end ≡ taken + (end - taken) = omega arith in let y : (taken + (end - taken)) * w ≡ taken * w + (end - taken) * w = omega arith in sym (ap (λ (i : ℕ). i * w) z ∙ y)) in
      let r : (p - taken) * w + w ≤ (end - taken) * w = row_room (p - taken) (end - taken) w (omega arith) in
      let lx : length X ≡ m * w = length-take-le (m * w) body (omega arith) in
      let ly : length Y ≡ (end - taken) * w = length-take-le ((end - taken) * w) (drop (taken * w) table) (omega (arith, length-drop (taken * w) table)) in
      let i : (m + (p - taken)) * w + j ≡ length X + ((p - taken) * w + j) = omega arith in
      let f : taken * w + ((p - taken) * w + j) ≡ p * w + j = omega arith in
      ap (λ (z : Words). get_or z ((m + (p - taken)) * w + j) (pos 0)) (e ∙ append_assoc X Y Z) ∙ ap (λ (z : ℕ). get_or (X ++ (Y ++ Z)) z (pos 0)) i ∙ get_or-append-add X (Y ++ Z) ((p - taken) * w + j) (pos 0)
      ∙ get_or-append Y Z (pos 0) ((p - taken) * w + j) (omega arith) ∙ get_or-take ((end - taken) * w) (drop (taken * w) table) ((p - taken) * w + j) (pos 0) (omega arith)
      ∙ get_or-drop (taken * w) table ((p - taken) * w + j) (pos 0) ∙ ap (λ (z : ℕ). get_or table z (pos 0)) f

-- Sales can be added to it, if they can be to the table's row.
pub passed_addable : (b m taken end : ℕ) (table body body₁ : Words) → body₁ ≡ paste body (m * suc (suc b)) (drop (taken * suc (suc b)) table) ((end - taken) * suc (suc b))
    → (m + (end - taken)) * suc (suc b) ≤ length body → end * suc (suc b) ≤ length table → (n p : ℕ) → EachAddable b n table → p < n → taken ≤ p → p < end
    → Addable (get_or body₁ ((m + (p - taken)) * suc (suc b) + b) (pos 0)) (get_or body₁ ((m + (p - taken)) * suc (suc b) + b + 1) (pos 0))
passed_addable b m taken end table body body₁ e room there n p h i l k =
    let w : ℕ = suc (suc b) in
    let t = word_passed w m taken end table body body₁ e room there p b l k (omega arith) in
    let u = word_passed w m taken end table body body₁ e room there p (b + 1) l k (omega arith) in
    let x : (m + (p - taken)) * w + (b + 1) ≡ (m + (p - taken)) * w + b + 1 = omega arith in
    let y : p * w + (b + 1) ≡ p * w + b + 1 = omega arith in
    rw (t, rw (x, y) at u) (h p i)

-- A part of a table, pasted whole.
pub pasted_part : (body table : Words) (at k : ℕ) → k ≤ length table → paste body at (take k table) (length (take k table)) ≡ paste body at table k
pasted_part body table at k h = rw (length-take-le k table h) (ap (λ (z : Words). take at body ++ z ++ drop (at + k) body) (take-take k k table (omega arith)))
