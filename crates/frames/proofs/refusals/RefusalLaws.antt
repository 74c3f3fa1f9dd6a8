-- Laws of the refusals. Assumes nothing.
use mathlib.Core.Path.{◌≡◌, refl}
use mathlib.Core.Bool.{Bool, true, false, cond, ◌||◌}
use lib.Dec.{eqb}
use Rattle.frames.specs.refusals.Refusals.{number, marks_failed}
use Rattle.frames.specs.declared.refusals.Refusal.{Refusal}
use Rattle.frames.specs.declared.refusals.Refusal.TheVariants.{BadOptions, BadJoin, Failed, Closed, BadFrame, NoRoom, UsedUp, LeftOrder, RightOrder, TooManyCarried, BadRanks, UnknownCode, BadColumns, Unsorted, Beyond, BadPoints, BadHeights, BadBoundaries}

-- No refusal has the number 0, which is that of acceptance.
pub number_above : (n : Refusal) → eqb (number n) 0 ≡ false
number_above BadOptions = refl
number_above BadJoin = refl
number_above Failed = refl
number_above Closed = refl
number_above BadFrame = refl
number_above NoRoom = refl
number_above UsedUp = refl
number_above LeftOrder = refl
number_above RightOrder = refl
number_above TooManyCarried = refl
number_above BadRanks = refl
number_above UnknownCode = refl
number_above BadColumns = refl
number_above Unsorted = refl
number_above Beyond = refl
number_above BadPoints = refl
number_above BadHeights = refl
number_above BadBoundaries = refl

-- What a refusal leaves, by whether it marks the join failed: neither 8 nor 9, or one of them.
pub marked_ind : {A : Type 0} (P : A → Type 0) (n : Refusal) {x y : A}
    → (marks_failed n ≡ true → P x) → (eqb (number n) 8 ≡ false → eqb (number n) 9 ≡ false → P y) → P (cond (marks_failed n) x y)
marked_ind {A} P n {x} {y} marks stays = go (eqb (number n) 8) (eqb (number n) 9) marks stays
  where
    go : (a b : Bool) → ((a || b) ≡ true → P x) → (a ≡ false → b ≡ false → P y) → P (cond (a || b) x y)
    go true b marks stays = marks refl
    go false true marks stays = marks refl
    go false false marks stays = stays refl refl
