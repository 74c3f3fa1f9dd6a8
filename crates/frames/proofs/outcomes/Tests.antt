-- Tests that say the same. Assumes nothing.
use mathlib.Core.Path.{◌≡◌, refl, sym}
use mathlib.Core.Bool.{Bool, true, false, cond}
use Prim.Native.Nat.{ℕ, ◌<◌}
use borrow.Author.Tests.{lt-ltb, ltb-true}
use lib.Dec.{ltb}

same_test : (p q : Bool) → (p ≡ true → q ≡ true) → (q ≡ true → p ≡ true) → p ≡ q
same_test true q f g = sym (f refl)
same_test false true f g = g refl
same_test false false f g = refl

pub ltb_same : (a b m n : ℕ) → (a < b → m < n) → (m < n → a < b) → ltb a b ≡ ltb m n
ltb_same a b m n f g = same_test _ _ (λ e. lt-ltb m n (f (ltb-true a b e))) (λ e. lt-ltb a b (g (ltb-true m n e)))

-- A chain of refusals that came to z did not stop at its first.
pub past : {A : Type 0} (b : Bool) (x y z : A) → (x ≡ z → ⊥) → cond b x y ≡ z → (b ≡ false) × (y ≡ z)
past true x y z n e = absurd (n e)
past false x y z n e = (refl, e)
