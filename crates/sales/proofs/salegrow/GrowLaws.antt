-- A table grown and finished: its words. Assumes nothing.
use mathlib.Core.Path.{◌≡◌, refl, sym, ap, ◌∙◌}
use mathlib.Core.List.{List, [], ◌∷◌, ◌++◌, map, append_assoc, append-nil}
use Prim.Native.Nat.{ℕ, zero, suc, ◌+◌, ◌-◌, ◌*◌, ◌≤◌, ◌<◌}
use native.Mathlib.Omega.{arith}
use lib.IntN.{ℤ, pos}
use lib.ListN.{length, take, drop, set, replicate, length-append, length-map, length-drop, length-replicate, take-append-drop, drop_of_length-le, replicate-append-replicate}
use lib.Seq.{paste, take_at, drop_at, take_all, length-take-le, drop-drop, take-length}
use Rattle.frames.specs.Cells.{value, value_word, mark_word, Words}
use Rattle.frames.proofs.WordLaws.{map-append}
use Rattle.order.specs.declared.options.Options.{Options}
use Rattle.tables.specs.Table.{words_of, table_of, laid}
use Rattle.takings.specs.Subtotals.{Subtotal, row_of}
use Rattle.sales.specs.saleinsert.Held.{Plain, EachPlain, Held}
use Rattle.sales.proofs.saleinsert.InsertLaws.{table_values, values_long}
use Rattle.sales.specs.saleadd.Adds.{Starts, AddsIn}
use Rattle.sales.specs.salegrow.Grows.{Grows, GrowIn}

-- ---- what adding asks
pub starts : (o : Options) (n rows d : ℕ) (ts : List Subtotal) (table lv lm av am body : Words) → Grows o n rows d ts table lv lm av am body → Starts o n rows d ts table lv lm av am body
starts o n rows d ts table lv lm av am body g = record { held = g.table_is.held; bounded = g.bounded; few = g.few; amounts = g.amounts; room = g.room }

pub adds : (o : Options) (n rows d : ℕ) (table lv lm av am body : Words) → GrowIn o n rows d table lv lm av am body → AddsIn o n rows d table lv lm av am body
adds o n rows d table lv lm av am body g = record {
  ts = g.ts;
  starts = starts o n rows d g.ts table lv lm av am body g.grows;
  compare = g.compare;
  frames = g.frames;
  left_values = g.left_values;
  left_paired = g.left_paired;
  left_fine = g.left_fine;
}

-- ---- all marks are 1
ones_of : (vs : Words) → map mark_word (map value vs) ≡ replicate (length vs) (pos 1)
ones_of [] = refl
ones_of (v ∷ vs) = ap (λ (z : Words). pos 1 ∷ z) (ones_of vs)

row_ones : (b : ℕ) (t : Subtotal) → Plain b t → map mark_word (row_of t) ≡ replicate (suc (suc b)) (pos 1)
row_ones b t p =
    let vs : Words = map value_word t.group in
    let l : length vs ≡ b = length-map t.group value_word ∙ p.long in
    let e : map mark_word t.group ≡ replicate b (pos 1) = ap (map mark_word) (sym p.full) ∙ ones_of vs ∙ ap (λ (z : ℕ). replicate z (pos 1)) l in
    let k : b + 2 ≡ suc (suc b) = omega arith in
    map-append mark_word t.group (value t.total ∷ value (pos t.count) ∷ []) ∙ ap (λ (z : Words). z ++ pos 1 ∷ pos 1 ∷ []) e
    ∙ replicate-append-replicate b 2 (pos 1) ∙ ap (λ (z : ℕ). replicate z (pos 1)) k

pub marks_ones : (b : ℕ) (ts : List Subtotal) → EachPlain b ts → words_of mark_word (map row_of ts) ≡ replicate (length ts * suc (suc b)) (pos 1)
unfolding words_of
marks_ones b [] h = let z : 0 * suc (suc b) ≡ 0 = omega arith in rw z
marks_ones b (t ∷ ts) h =
    let e : suc (suc b) + length ts * suc (suc b) ≡ length (t ∷ ts) * suc (suc b) = omega arith in
    ap (λ (z : Words). z ++ words_of mark_word (map row_of ts)) (row_ones b t h.0) ∙ ap (λ (z : Words). replicate (suc (suc b)) (pos 1) ++ z) (marks_ones b ts h.1)
    ∙ replicate-append-replicate (suc (suc b)) (length ts * suc (suc b)) (pos 1) ∙ ap (λ (z : ℕ). replicate z (pos 1)) e

-- ---- the whole table
heads : (n c : ℤ) (A : Words) → length A ≡ 2 → (rest : Words) → set (set (A ++ rest) 0 n) 1 c ≡ n ∷ c ∷ rest
heads n c [] a rest = absurd (omega arith)
heads n c (x ∷ []) a rest = absurd (omega arith)
heads n c (x ∷ y ∷ []) a rest = refl
heads n c (x ∷ y ∷ z ∷ A) a rest = absurd (omega arith)

paste_mid : (X Y Z s : Words) (at n : ℕ) → length X ≡ at → length Y ≡ n → length s ≡ n → paste (X ++ (Y ++ Z)) at s n ≡ X ++ (s ++ Z)
paste_mid X Y Z s at n a b c =
    let e : X ++ (Y ++ Z) ≡ (X ++ Y) ++ Z = sym (append_assoc X Y Z) in
    let l : length (X ++ Y) ≡ at + n = length-append X Y ∙ omega (arith, a, b) in
    ap (λ (z : Words). z ++ take n s ++ drop (at + n) (X ++ (Y ++ Z))) (take_at X (Y ++ Z) at a)
    ∙ ap (λ (z : Words). X ++ z ++ drop (at + n) (X ++ (Y ++ Z))) (take_all n s (omega arith))
    ∙ ap (λ (z : Words). X ++ s ++ z) (ap (drop (at + n)) e ∙ drop_at (X ++ Y) Z (at + n) l) ∙ append_assoc X s Z

pub finished : (o : Options) (m : ℕ) (T : List Subtotal) (out body out₁ out₂ : Words) → 2 ≤ length out → Held o m T (drop 2 out) body → m * suc (suc o.by) + m * suc (suc o.by) ≤ length (drop 2 out)
    → out₁ ≡ take 2 out ++ body → out₂ ≡ paste out₁ (2 + m * suc (suc o.by)) (replicate (m * suc (suc o.by)) (pos 1)) (m * suc (suc o.by))
    → set (set out₂ 0 (pos m)) 1 (pos (suc (suc o.by))) ≡ laid (table_of (suc (suc o.by)) (map row_of T)) out
unfolding laid table_of
finished o m T out body out₁ out₂ two h room e f =
    let w : ℕ = suc (suc o.by) in
    let k : ℕ = m * w in
    let X : Words = take 2 out in
    let V₁ : Words = table_values T in
    let R : Words = drop k (drop 2 out) in
    let R1 : Words = take k R in
    let R2 : Words = drop k R in
    let ones : Words = replicate k (pos 1) in
    let lx : length X ≡ 2 = length-take-le 2 out two in
    let lv : length V₁ ≡ k = values_long o.by T h.each ∙ ap (λ (z : ℕ). z * w) h.rows in
    let lr : length R ≡ length (drop 2 out) - k = length-drop k (drop 2 out) in
    let l1 : length R1 ≡ k = length-take-le k R (omega arith) in
    let a : out₁ ≡ (X ++ V₁) ++ (R1 ++ R2) = e ∙ ap (λ (z : Words). X ++ z) (h.words ∙ ap (λ (z : Words). V₁ ++ z) (sym (take-append-drop k R))) ∙ sym (append_assoc X V₁ (R1 ++ R2)) in
    let lp : length (X ++ V₁) ≡ 2 + k = length-append X V₁ ∙ omega (arith, lx, lv) in
    let b : out₂ ≡ (X ++ V₁) ++ (ones ++ R2) = f ∙ ap (λ (z : Words). paste z (2 + k) ones k) a ∙ paste_mid (X ++ V₁) R1 R2 ones (2 + k) k lp l1 (length-replicate k (pos 1)) in
    let c : set (set out₂ 0 (pos m)) 1 (pos w) ≡ pos m ∷ pos w ∷ (V₁ ++ (ones ++ R2)) =
    ap (λ (z : Words). set (set z 0 (pos m)) 1 (pos w)) (b ∙ append_assoc X V₁ (ones ++ R2)) ∙ heads (pos m) (pos w) X lx (V₁ ++ (ones ++ R2)) in
    let n : length (map row_of T) ≡ m = length-map T row_of ∙ h.rows in
    let M : Words = words_of mark_word (map row_of T) in
    let mo : M ≡ ones = marks_ones o.by T h.each ∙ ap (λ (z : ℕ). replicate (z * w) (pos 1)) h.rows in
    let ws : Words = pos (length (map row_of T)) ∷ pos w ∷ V₁ ++ M in
    let ew : ws ≡ pos m ∷ pos w ∷ (V₁ ++ ones) = ap (λ (z : ℕ). pos z ∷ pos w ∷ V₁ ++ M) n ∙ ap (λ (z : Words). pos m ∷ pos w ∷ V₁ ++ z) mo in
    let lw : length ws ≡ 2 + (k + k) = ap length ew ∙ omega (arith, length-append V₁ ones, lv, length-replicate k (pos 1)) in
    let r2 : R2 ≡ drop (0 + length ws) out = drop-drop k k (drop 2 out) ∙ drop-drop (k + k) 2 out ∙ (let z : 2 + (k + k) ≡ 0 + length ws = omega arith in rw z) in
    c ∙ ap (λ (z : Words). pos m ∷ pos w ∷ z) (sym (append_assoc V₁ ones R2)) ∙ ap (λ (z : Words). z ++ R2) (sym ew) ∙ ap (λ (z : Words). ws ++ z) r2 ∙ ap (λ (z : Words). z ++ drop (0 + length ws) out) (sym (take-length ws))

-- The part that was lent, back in its place.
pub back_whole : (out body : Words) → take 2 out ++ (body ++ drop (length out - 2) (drop 2 out)) ≡ take 2 out ++ body
back_whole out body = ap (λ (z : Words). take 2 out ++ (body ++ z)) (drop_of_length-le (drop 2 out) {i = length out - 2} (omega (arith, length-drop 2 out))) ∙ ap (λ (z : Words). take 2 out ++ z) (append-nil body)

pub lent_whole : (out : Words) → take (length out - 2) (drop 2 out) ≡ drop 2 out
lent_whole out = take_all (length out - 2) (drop 2 out) (omega (arith, length-drop 2 out))

pub at_least : (n w : ℕ) → 0 < w → n ≤ n * w
at_least zero w h = omega arith
at_least (suc n) w h = let i = at_least n w h in let e : suc n * w ≡ w + n * w = omega arith in omega arith
