-- Answers by a list of tests: the order of the list is the order in which they are made. Assumes nothing.
use Rattle.std.specs.Prelude.{Bool, cond, List, [], ◌∷◌}

-- A test, and what is answered if it says yes.
pub record Test (A : Type 0) : Type 0 where
  pub says : Bool
  pub answer : A

abbrev pub test : {A : Type 0} → Bool → A → Test A
test b a = record { says = b; answer = a }

-- SCOPE 16.1: the first test that says yes answers; if none does, the answer is a.
abbrev pub first_of : {A : Type 0} → List (Test A) → A → A
first_of [] a = a
first_of (t ∷ ts) a = cond t.says t.answer (first_of ts a)
