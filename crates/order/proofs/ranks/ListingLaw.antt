-- What a list that is handed in is refused for: with the places that it is kept with, it is refused exactly if it is empty, too long, for a column that is no
-- by-column, or has a code twice. Assumes nothing.
use mathlib.Core.Path.{◌≡◌, refl, sym, ap, ◌∙◌}
use mathlib.Core.Bool.{Bool, true, false, cond, not, ◌||◌}
use mathlib.Core.Logic.{◌⊎◌, inl, inr}
use Prim.Native.Nat.{ℕ, suc, ◌≤◌, ◌<◌}
use native.Mathlib.Omega.{arith}
use borrow.Author.Tests.{ltb-false}
use lib.Dec.{ltb, eqb}
use lib.IntN.{ℤ}
use lib.Signed.{lt_z}
use lib.ListN.{length, take, get_or, replicate}
use lib.Seq.{length-take-le, get_or-take}
use Rattle.frames.specs.Cells.{Words}
use Rattle.order.specs.ranks.Ranks.{twice, code_at, rises, below, rising_for, is_short, bad_ranks}
use Rattle.order.specs.ranks.Listing.{bad_list, Listing}
use Rattle.order.proofs.ranks.RankLaws.{clash, tell, not_so, lt_neither, Reached, onto, none_twice, rising_by, indexed_once}
use Rattle.order.proofs.ranks.PlacedLaws.{below_less, below_mono, below_strict, placed_length, placed_at}

-- The places that a short list is kept with: 64.
rising_long : (cs : Words) → length (rising_for cs) ≡ 64
rising_long cs = placed_length cs 0 cs (replicate 64 0)

-- As many of them as codes.
kept_many : (cs : Words) → length cs ≤ 64 → length (take (length cs) (rising_for cs)) ≡ length cs
kept_many cs short = length-take-le (length cs) (rising_for cs) (omega (arith, rising_long cs))

-- ---- a list with no code twice
module _ (cs : Words) (short : length cs ≤ 64) (once : twice cs ≡ false) where
  -- Where the code at p stands among the codes in rising order.
  abbrev rank : ℕ → ℕ
  rank p = below cs (code_at cs p)

  -- Different places have different ranks.
  rank_apart : (p q : ℕ) → p < length cs → q < length cs → rank p ≡ rank q → p ≡ q
  rank_apart p q k l e = by (tell (lt_z (code_at cs p) (code_at cs q))) (tell (lt_z (code_at cs q) (code_at cs p)))
    where
      by : (lt_z (code_at cs p) (code_at cs q) ≡ true) ⊎ (lt_z (code_at cs p) (code_at cs q) ≡ false) → (lt_z (code_at cs q) (code_at cs p) ≡ true) ⊎ (lt_z (code_at cs q) (code_at cs p) ≡ false) → p ≡ q
      by (inl a) b = absurd (omega (arith, below_strict cs (code_at cs p) (code_at cs q) p k refl a))
      by (inr a) (inl b) = absurd (omega (arith, below_strict cs (code_at cs q) (code_at cs p) q l refl b))
      by (inr a) (inr b) = none_twice cs once p q k l (lt_neither (code_at cs p) (code_at cs q) a b)

  -- A place of each rank.
  ranked : (i : ℕ) → i < length cs → Reached (length cs) rank i
  ranked = onto (length cs) rank (record { within = λ p l. below_less cs (code_at cs p) p l refl; apart = rank_apart })

  -- The entry that is kept at i is the place of that rank.
  kept : (i : ℕ) (h : i < length cs) → get_or (take (length cs) (rising_for cs)) i 0 ≡ (ranked i h).0
  kept i h =
      let r = ranked i h in
      let b : rank r.0 < 64 = omega (arith, r.2) in
      get_or-take (length cs) (rising_for cs) i 0 h
      ∙ ap (λ (k : ℕ). get_or (rising_for cs) k 0) (sym r.2)
      ∙ placed_at cs 0 cs (replicate 64 0) r.0 rank_apart r.1 b
      ∙ omega arith

  -- A code with the lesser rank is below.
  rank_below : (c d : ℤ) → below cs c < below cs d → lt_z c d ≡ true
  rank_below c d h = by (tell (lt_z c d)) (tell (lt_z d c))
    where
      by : (lt_z c d ≡ true) ⊎ (lt_z c d ≡ false) → (lt_z d c ≡ true) ⊎ (lt_z d c ≡ false) → lt_z c d ≡ true
      by (inl a) b = a
      by (inr a) (inl b) = absurd (omega (arith, below_mono cs d c b))
      by (inr a) (inr b) = absurd (omega (arith, ap (below cs) (lt_neither c d a b)))

  -- Kept so, the places are in rising order.
  kept_rises : rises cs (take (length cs) (rising_for cs)) ≡ true
  kept_rises =
      rising_by cs (take (length cs) (rising_for cs))
      (λ i l. let h : i < length cs = omega (arith, kept_many cs short) in rw (kept i h) (ranked i h).1)
      (λ i l.
      let h : i < length cs = omega (arith, kept_many cs short) in
      let k : suc i < length cs = omega (arith, kept_many cs short) in
      let a = ranked i h in
      let b = ranked (suc i) k in
      rw (kept i h, kept (suc i) k) (rank_below (code_at cs a.0) (code_at cs b.0) (omega (arith, a.2, b.2))))

-- ---- any short list
-- It is not in rising order exactly if a code stands twice.
listing_core : (cs : Words) → length cs ≤ 64 → not (rises cs (take (length cs) (rising_for cs))) ≡ twice cs
listing_core cs short = by (tell (twice cs))
  where
    by : (twice cs ≡ true) ⊎ (twice cs ≡ false) → not (rises cs (take (length cs) (rising_for cs))) ≡ twice cs
    by (inl e) = rw (e, not_so (rises cs (take (length cs) (rising_for cs))) (λ r. clash (twice cs) e (indexed_once cs (take (length cs) (rising_for cs)) (record { many = kept_many cs short; rising = r }))))
    by (inr e) = rw (e, kept_rises cs short e)

-- Four tests of which the last counts only where the second fails.
last_of_four : (a b c x y : Bool) → (b ≡ false → x ≡ y) → (a || b || c || x) ≡ (a || b || c || y)
last_of_four true b c x y h = refl
last_of_four false true c x y h = refl
last_of_four false false true x y h = refl
last_of_four false false false x y h = h refl

-- The last of them, of a list that is short enough.
short_list : (count : ℕ) (codes : Words) → length codes ≡ 64 → ltb 64 count ≡ false
    → not (rises (take count codes) (take count (cond (is_short true count) (rising_for (take count codes)) (replicate 64 0)))) ≡ twice (take count codes)
short_list count codes h e =
    let l = ltb-false 64 count e in
    let n : length (take count codes) ≡ count = length-take-le count codes (omega arith) in
    rw e (rw n at (listing_core (take count codes) (omega arith)))

-- A list that is handed in, kept with its places, is refused exactly for that.
pub listing : Listing
unfolding bad_ranks bad_list
listing by false column count codes h = refl
listing by true column count codes h =
    last_of_four (eqb count 0) (ltb 64 count) (not (ltb column by)) (not (rises (take count codes) (take count (cond (is_short true count) (rising_for (take count codes)) (replicate 64 0))))) (twice (take count codes))
    (short_list count codes h)
