-- Words copied from one area to another: to its front, by an append to nothing; and behind a place, by a copy to the front of the part from there on. Assumes nothing.
use mathlib.Core.Path.{◌≡◌, refl, sym, ap, ◌∙◌}
use mathlib.Core.Bool.{Bool, true, false, cond}
use mathlib.Core.List.{[], ◌++◌, append-nil, append_assoc}
use Prim.Native.Nat.{ℕ, ◌+◌, ◌-◌, ◌*◌, ◌≤◌}
use native.Mathlib.Nat.{mul-le-mul_right}
use native.Mathlib.Omega.{arith}
use lib.Dec.{ltb}
use lib.ListN.{length, take, drop, length-drop}
use lib.Seq.{paste-zero, drop-drop, take_all, length-take-le, drop-length}
use Rattle.frames.specs.Cells.{Words}
use Rattle.buffer.specs.area.Area.{capacity, written}
use Rattle.buffer.specs.area.Requires.{Appended}
use Rattle.buffer.proofs.area.PushLaws.{capacity_room}
use Rattle.node.specs.moves.Requires.{BothFit, RightIn, right_copied}

-- An append to nothing is a copy to the front.
pub appended_front : (ws area : Words) (r : ℕ) (after : Words) → Appended 0 0 ws area r after → after ≡ written ws 0 area
appended_front ws area r after a =
    let z : r ≡ 0 = a.base_is ∙ none (ltb (length area) (0 + 0 + length ws)) in
    a.area_is ∙ rw z (ap (λ (x : Words). written ws 0 x) (sym (paste-zero area 0 area)))
  where
    none : (b : Bool) → ◌≡◌ {A = ℕ} (cond b 0 0) 0
    none true = refl
    none false = refl

-- A copy to the front of the part from `half` on is a copy to that place.
behind : (ws area : Words) (half : ℕ) → take half area ++ written ws 0 (drop half area) ≡ written ws half area
behind ws area half =
    let z : 0 + length ws ≡ length ws = omega arith in
    rw (z, drop-drop (length ws) half area) (sym (append_assoc (take half area) (take (length ws) ws) (drop (half + length ws) area)))

-- Two copies, the second in the part that is lent from `half` on.
pub both_copied : (vs ms to v m : Words) (half : ℕ) → v ≡ written vs 0 to → m ≡ written ms 0 (take (length v - half) (drop half v))
    → take half v ++ (m ++ drop (length v - half) (drop half v)) ≡ written ms half (written vs 0 to)
both_copied vs ms to v m half e f =
    let ld : length (drop half v) ≡ length v - half = length-drop half v in
    let all : take (length v - half) (drop half v) ≡ drop half v = take_all (length v - half) (drop half v) (omega (arith, ld)) in
    let none : drop (length v - half) (drop half v) ≡ [] = rw (← ld) (drop-length (drop half v)) in
    rw (none, append-nil m, f, all) (behind ms v half ∙ ap (λ (z : Words). written ms half z) e)

-- ---- held rows
module _ {c base held : ℕ} {right to : Words} (p : RightIn c base held right to) where
  -- How many words the rows are, and how many there is room for.
  pub record Sizes : Type 0 where
    pub values : held * c ≤ length (drop (base * c) right)
    pub marks : held * c ≤ length (drop ((capacity c right + base) * c) right)
    pub half : held * c ≤ capacity c to * c
    pub both : capacity c to * c + capacity c to * c ≤ length to

  pub sizes : Sizes
  sizes =
      let h = mul-le-mul_right {m = base + held} {n = capacity c right} c p.within in
      let r = capacity_room c right in
      record {
        values = rw (length-drop (base * c) right) (omega (arith, h, r));
        marks = rw (length-drop ((capacity c right + base) * c) right) (omega (arith, h, r));
        half = mul-le-mul_right c p.room;
        both = capacity_room c to;
      }

  -- The parts that are lent, from what the rows' places give.
  pub right_fit : (vs ms : Words) → vs ≡ drop (base * c) right → ms ≡ drop ((capacity c right + base) * c) right → BothFit (capacity c to * c) (take (held * c) vs) (take (held * c) ms) to
  right_fit vs ms e f =
      let lv : length (take (held * c) vs) ≡ held * c = length-take-le (held * c) vs (rw e sizes.values) in
      let lm : length (take (held * c) ms) ≡ held * c = length-take-le (held * c) ms (rw f sizes.marks) in
      record { before = omega (arith, lv, sizes.half); behind = omega (arith, lm, sizes.half, sizes.both) }

  pub right_copied_lem : (vs ms out : Words) → vs ≡ drop (base * c) right → ms ≡ drop ((capacity c right + base) * c) right
      → out ≡ written (take (held * c) ms) (capacity c to * c) (written (take (held * c) vs) 0 to) → out ≡ right_copied c base held right to
  unfolding right_copied
  right_copied_lem vs ms out e f g = rw (← e, ← f) g
