-- Flags, states and ports there and back, and lists of four. Assumes nothing.
use mathlib.Core.Path.{◌≡◌, refl}
use mathlib.Core.Bool.{Bool, true, false, ◌&&◌}
use mathlib.Core.List.{List, [], ◌∷◌}
use Prim.Native.Nat.{ℕ, zero, suc}
use native.Mathlib.Omega.{arith}
use borrow.Author.Tests.{ltb-true}
use lib.ListN.{length, get_or}
use Rattle.order.specs.declared.options.Check.{Check}
use Rattle.order.specs.declared.options.Check.TheVariants.{Off, On, Strict}
use Rattle.frames.specs.outcomes.Answers.{state_code, port_code}
use Rattle.frames.specs.declared.outcomes.NodeState.{NodeState}
use Rattle.frames.specs.declared.outcomes.NodeState.TheVariants.{Running, Flush, Done}
use Rattle.frames.specs.declared.outcomes.PortState.{PortState}
use Rattle.frames.specs.declared.outcomes.PortState.TheVariants.{Blocked, Ready, Done as PortDone}
use Rattle.order.specs.options.Options.{check_code}
use Rattle.ffi.specs.codes.Codes.{is_flag, flag_of, flag_code, are_flags, flags_of, flag_codes, check_of, is_code, state_of, port_of}

-- Of two tests that both hold each does.
pub and_both : (a b : Bool) → (a && b) ≡ true → (a ≡ true) × (b ≡ true)
and_both true b e = (refl, e)
and_both false b e = let z : ◌≡◌ {A = ℕ} 0 1 = cc in absurd (omega arith)

-- ---- flags
pub flag_is : (b : Bool) → is_flag (flag_code b) ≡ true
flag_is true = refl
flag_is false = refl

pub flag_back : (b : Bool) → flag_of (flag_code b) ≡ b
flag_back true = refl
flag_back false = refl

pub flag_there : (x : ℕ) → is_flag x ≡ true → flag_code (flag_of x) ≡ x
flag_there zero e = refl
flag_there (suc zero) e = refl
flag_there (suc (suc x)) e = absurd (omega (arith, ltb-true (suc (suc x)) 2 e))

-- ---- flags of columns
pub flags_are : (bs : List Bool) → are_flags (flag_codes bs) ≡ true
unfolding are_flags flag_codes
flags_are [] = refl
flags_are (b ∷ bs) = rw (flag_is b, flags_are bs)

pub flags_back : (bs : List Bool) → flags_of (flag_codes bs) ≡ bs
unfolding flags_of flag_codes
flags_back [] = refl
flags_back (b ∷ bs) = rw (flag_back b, flags_back bs)

pub flags_there : (xs : List ℕ) → are_flags xs ≡ true → flag_codes (flags_of xs) ≡ xs
unfolding are_flags flags_of flag_codes
flags_there [] e = refl
flags_there (x ∷ xs) e = let p = and_both (is_flag x) (are_flags xs) e in rw (flag_there x p.0, flags_there xs p.1)

-- ---- the check's setting
pub check_is : (c : Check) → is_code (check_code c) ≡ true
check_is Off = refl
check_is On = refl
check_is Strict = refl

pub check_back : (c : Check) → check_of (check_code c) ≡ c
check_back Off = refl
check_back On = refl
check_back Strict = refl

pub check_there : (x : ℕ) → is_code x ≡ true → check_code (check_of x) ≡ x
check_there zero e = refl
check_there (suc zero) e = refl
check_there (suc (suc zero)) e = refl
check_there (suc (suc (suc x))) e = absurd (omega (arith, ltb-true (suc (suc (suc x))) 3 e))

-- ---- the node's state
pub state_is : (s : NodeState) → is_code (state_code s) ≡ true
state_is Running = refl
state_is Flush = refl
state_is Done = refl

pub state_back : (s : NodeState) → state_of (state_code s) ≡ s
state_back Running = refl
state_back Flush = refl
state_back Done = refl

pub state_there : (x : ℕ) → is_code x ≡ true → state_code (state_of x) ≡ x
state_there zero e = refl
state_there (suc zero) e = refl
state_there (suc (suc zero)) e = refl
state_there (suc (suc (suc x))) e = absurd (omega (arith, ltb-true (suc (suc (suc x))) 3 e))

-- ---- ports
pub port_is : (s : PortState) → is_code (port_code s) ≡ true
port_is Blocked = refl
port_is Ready = refl
port_is PortDone = refl

pub port_back : (s : PortState) → port_of (port_code s) ≡ s
port_back Blocked = refl
port_back Ready = refl
port_back PortDone = refl

-- ---- lists of four
-- What holds of any four elements holds of every list of four.
by_four : {A : Type 0} (P : List A → Type 0) → ((p q r s : A) → P (p ∷ q ∷ r ∷ s ∷ [])) → (a : List A) → length a ≡ 4 → P a
by_four P f (p ∷ q ∷ r ∷ s ∷ []) e = f p q r s
by_four P f [] e = absurd (omega arith)
by_four P f (p ∷ []) e = absurd (omega arith)
by_four P f (p ∷ q ∷ []) e = absurd (omega arith)
by_four P f (p ∷ q ∷ r ∷ []) e = absurd (omega arith)
by_four P f (p ∷ q ∷ r ∷ s ∷ t ∷ u) e = absurd (omega arith)

-- Four tests, two and two or one by one.
tests : (a b c d : Bool) → ((a && b) && (c && d)) ≡ (a && (b && (c && (d && true))))
tests false b c d = refl
tests true false c d = refl
tests true true false d = refl
tests true true true false = refl
tests true true true true = refl

pub four_are : (a : List ℕ) → length a ≡ 4 →
    ((is_flag (get_or a 0 0) && is_flag (get_or a 1 0)) && (is_flag (get_or a 2 0) && is_flag (get_or a 3 0))) ≡ are_flags a
unfolding are_flags
four_are =
    by_four (λ (a : List ℕ). ((is_flag (get_or a 0 0) && is_flag (get_or a 1 0)) && (is_flag (get_or a 2 0) && is_flag (get_or a 3 0))) ≡ are_flags a)
    (λ p q r s. tests (is_flag p) (is_flag q) (is_flag r) (is_flag s))

pub four_of : (a : List ℕ) → length a ≡ 4 →
    flag_of (get_or a 0 0) ∷ flag_of (get_or a 1 0) ∷ flag_of (get_or a 2 0) ∷ flag_of (get_or a 3 0) ∷ [] ≡ flags_of a
unfolding flags_of
four_of =
    by_four (λ (a : List ℕ). flag_of (get_or a 0 0) ∷ flag_of (get_or a 1 0) ∷ flag_of (get_or a 2 0) ∷ flag_of (get_or a 3 0) ∷ [] ≡ flags_of a)
    (λ p q r s. refl)

pub four_codes : (a : List Bool) → length a ≡ 4 →
    flag_code (get_or a 0 false) ∷ flag_code (get_or a 1 false) ∷ flag_code (get_or a 2 false) ∷ flag_code (get_or a 3 false) ∷ [] ≡ flag_codes a
unfolding flag_codes
four_codes =
    by_four (λ (a : List Bool). flag_code (get_or a 0 false) ∷ flag_code (get_or a 1 false) ∷ flag_code (get_or a 2 false) ∷ flag_code (get_or a 3 false) ∷ [] ≡ flag_codes a)
    (λ p q r s. refl)
