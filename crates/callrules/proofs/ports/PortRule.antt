-- SCOPE 13 as a rule. Two tests are computed, over every state and all that the ports can come with; what they say at each of these is the rule. Assumes nothing.
use mathlib.Core.Path.{◌≡◌, refl, sym, ap, ◌∙◌}
use mathlib.Core.Bool.{Bool, true, false, cond, not, ◌&&◌, ◌||◌}
use mathlib.Core.List.{List, [], ◌∷◌}
use mathlib.Core.Logic.{◌⊎◌, inl, inr}
use Prim.Native.Nat.{ℕ}
use native.Mathlib.Omega.{arith}
use borrow.Author.Tests.{eqb-true, eqb-false, eq-eqb, ne_eqb, not-true}
use lib.Dec.{eqb}
use Rattle.frames.proofs.BoolLaws.{and-true}
use Rattle.frames.specs.outcomes.Answers.{state_code, port_code}
use Rattle.frames.specs.declared.outcomes.NodeState.{NodeState}
use Rattle.frames.specs.declared.outcomes.NodeState.TheVariants.{Running, Flush, Done}
use Rattle.frames.specs.declared.outcomes.PortState.{PortState}
use Rattle.frames.specs.declared.outcomes.PortState.TheVariants.{Blocked, Ready, Done as PortDone}
use Rattle.frames.specs.declared.outcomes.Ports.{Ports}
use Rattle.callrules.specs.ports.Ports.{to_flush, to_done, ports_in}

-- ---- a test of each in a list
module _ {A : Type 0} where
  abbrev pub is_in : A → List A → Type 0
  is_in x [] = ⊥
  is_in x (y ∷ ys) = (x ≡ y) ⊎ is_in x ys

  abbrev all_of : List A → (A → Bool) → Bool
  all_of [] f = true
  all_of (x ∷ xs) f = f x && all_of xs f

  abbrev any_of : List A → (A → Bool) → Bool
  any_of [] f = false
  any_of (x ∷ xs) f = f x || any_of xs f

  all_at : (xs : List A) (f : A → Bool) → all_of xs f ≡ true → (x : A) → is_in x xs → f x ≡ true
  all_at [] f e x i = absurd i
  all_at (y ∷ ys) f e x (inl i) = rw i (and-true (f y) (all_of ys f) e).0
  all_at (y ∷ ys) f e x (inr i) = all_at ys f (and-true (f y) (all_of ys f) e).1 x i

  any_at : (xs : List A) (f : A → Bool) (x : A) → is_in x xs → f x ≡ true → any_of xs f ≡ true
  any_at [] f x i e = absurd i
  any_at (y ∷ ys) f x (inl i) e = let h : f y ≡ true = rw i at e in rw h
  any_at (y ∷ ys) f x (inr i) e = or_later (f y) (any_of ys f) (any_at ys f x i e)
    where
      or_later : (a b : Bool) → b ≡ true → (a || b) ≡ true
      or_later true b h = refl
      or_later false b h = h

  any_none : (xs : List A) (f : A → Bool) → ((x : A) → is_in x xs → f x ≡ true → ⊥) → any_of xs f ≡ false
  any_none [] f h = refl
  any_none (y ∷ ys) f h = rw (no (f y) (h y (inl refl))) (any_none ys f (λ x i. h x (inr i)))
    where
      no : (b : Bool) → (b ≡ true → ⊥) → b ≡ false
      no true n = absurd (n refl)
      no false n = refl

-- ---- all states, all port codes, all ports
states : List NodeState
states = Running ∷ Flush ∷ Done ∷ []

codes : List PortState
codes = Blocked ∷ Ready ∷ PortDone ∷ []

pub data Port : Type 0 where
  left : Port
  right : Port
  send : Port

abbrev pub three : PortState → PortState → PortState → Port → PortState
three l r s left = l
three l r s right = r
three l r s send = s

abbrev pub each : List Port
each = left ∷ right ∷ send ∷ []

abbrev pub behind : List Port
behind = right ∷ send ∷ []

abbrev place : Port → ℕ
place left = 0
place right = 1
place send = 2

state_in : (t : NodeState) → is_in t states
unfolding states
state_in Running = inl refl
state_in Flush = inr (inl refl)
state_in Done = inr (inr (inl refl))

code_in : (p : PortState) → is_in p codes
unfolding codes
code_in Blocked = inl refl
code_in Ready = inr (inl refl)
code_in PortDone = inr (inr (inl refl))

port_in : (p : Port) → is_in p each
port_in left = inl refl
port_in right = inr (inl refl)
port_in send = inr (inr (inl refl))

-- What has the same code is the same, where its code names it.
by_code : {A : Type 0} (code : A → ℕ) (named : ℕ → A) → ((x : A) → named (code x) ≡ x) → (x y : A) → eqb (code x) (code y) ≡ true → x ≡ y
by_code code named back x y e = sym (back x) ∙ ap named (eqb-true (code x) (code y) e) ∙ back y

abbrev pick : {A : Type 0} → A → A → A → ℕ → A
pick x y z n = cond (eqb n 0) x (cond (eqb n 1) y z)

same_state : (t u : NodeState) → eqb (state_code t) (state_code u) ≡ true → t ≡ u
same_state = by_code state_code (pick Running Flush Done) back
  where
    back : (t : NodeState) → pick Running Flush Done (state_code t) ≡ t
    back Running = refl
    back Flush = refl
    back Done = refl

same_port : (p q : PortState) → eqb (port_code p) (port_code q) ≡ true → p ≡ q
same_port = by_code port_code (pick Blocked Ready PortDone) back
  where
    back : (p : PortState) → pick Blocked Ready PortDone (port_code p) ≡ p
    back Blocked = refl
    back Ready = refl
    back PortDone = refl

same_place : (p q : Port) → eqb (place p) (place q) ≡ true → p ≡ q
same_place = by_code place (pick left right send) back
  where
    back : (p : Port) → pick left right send (place p) ≡ p
    back left = refl
    back right = refl
    back send = refl

-- ---- what the ports are told
-- Of the ports ps: told Ready unless another one came Blocked, and Blocked then.
pub record ReadyUnless (ps : List Port) (came told : Port → PortState) (p : Port) : Type 0 where
  pub ready : ((q : Port) → is_in q ps → (q ≡ p → ⊥) → came q ≡ Blocked → ⊥) → told p ≡ Ready
  pub blocked : (q : Port) → is_in q ps → (q ≡ p → ⊥) → came q ≡ Blocked → told p ≡ Blocked

-- SCOPE 13.3, as a relation.
abbrev pub Told : NodeState → (Port → PortState) → (Port → PortState) → Type 0
Told Running came told = (p : Port) → ReadyUnless each came told p
Told Flush came told = (told left ≡ PortDone) × ((p : Port) → is_in p behind → ReadyUnless behind came told p)
Told Done came told = (p : Port) → told p ≡ PortDone

-- The same as tests.
abbrev is_port : PortState → PortState → Bool
is_port p q = eqb (port_code p) (port_code q)

abbrev other_blocked : List Port → (Port → PortState) → Port → Bool
other_blocked ps came p = any_of ps (λ q. not (eqb (place q) (place p)) && is_port (came q) Blocked)

abbrev ready_test : List Port → (Port → PortState) → (Port → PortState) → Port → Bool
ready_test ps came told p = is_port (told p) (cond (other_blocked ps came p) Blocked Ready)

abbrev told_test : NodeState → (Port → PortState) → (Port → PortState) → Bool
told_test Running came told = all_of each (ready_test each came told)
told_test Flush came told = is_port (told left) PortDone && all_of behind (ready_test behind came told)
told_test Done came told = all_of each (λ p. is_port (told p) PortDone)

abbrev answer_test : NodeState → (Port → PortState) → Ports → Bool
answer_test t came p = told_test t came (three p.left p.right p.send)

-- All 3 × 27 combinations.
all_told : all_of states (λ t. all_of codes (λ l. all_of codes (λ r. all_of codes (λ s. answer_test t (three l r s) (ports_in t l r s))))) ≡ true
unfolding states codes
all_told = refl

-- What the tests say.
module _ (ps : List Port) (came told : Port → PortState) (p : Port) (h : ready_test ps came told p ≡ true) where
  is_told : told p ≡ cond (other_blocked ps came p) Blocked Ready
  is_told = same_port (told p) (cond (other_blocked ps came p) Blocked Ready) h

  ready_unless_lem : ReadyUnless ps came told p
  ready_unless_lem = record {
    ready = λ none. rw (any_none ps (λ q. not (eqb (place q) (place p)) && is_port (came q) Blocked)
        (λ q i e. let both = and-true (not (eqb (place q) (place p))) (is_port (came q) Blocked) e in
        none q i (λ is. eqb-false (place q) (place p) (not-true (eqb (place q) (place p)) both.0) (ap place is)) (same_port (came q) Blocked both.1))) at is_told;
    blocked = λ q i other is. rw (any_at ps (λ q. not (eqb (place q) (place p)) && is_port (came q) Blocked) q i
        (rw (ne_eqb (place q) (place p) (λ e. other (same_place q p (eq-eqb (place q) (place p) e))), is))) at is_told;
  }

told_by : (t : NodeState) (came told : Port → PortState) → told_test t came told ≡ true → Told t came told
told_by Running came told h = λ p. ready_unless_lem each came told p (all_at each (ready_test each came told) h p (port_in p))
told_by Flush came told h =
    let both = and-true (is_port (told left) PortDone) (all_of behind (ready_test behind came told)) h in
    (same_port (told left) PortDone both.0, λ p i. ready_unless_lem behind came told p (all_at behind (ready_test behind came told) both.1 p i))
told_by Done came told h = λ p. same_port (told p) PortDone (all_at each (λ p. is_port (told p) PortDone) h p (port_in p))

-- The rule at each combination.
pub told_rule : (t : NodeState) (l r s : PortState) (p : Ports) → ports_in t l r s ≡ p → Told t (three l r s) (three p.left p.right p.send)
told_rule t l r s p e =
    let at-t = all_at states (λ t. all_of codes (λ l. all_of codes (λ r. all_of codes (λ s. answer_test t (three l r s) (ports_in t l r s))))) all_told t (state_in t) in
    let at-l = all_at codes (λ l. all_of codes (λ r. all_of codes (λ s. answer_test t (three l r s) (ports_in t l r s)))) at-t l (code_in l) in
    let at-r = all_at codes (λ r. all_of codes (λ s. answer_test t (three l r s) (ports_in t l r s))) at-l r (code_in r) in
    let at-s = all_at codes (λ s. answer_test t (three l r s) (ports_in t l r s)) at-r s (code_in s) in
    told_by t (three l r s) (three p.left p.right p.send) (rw e at at-s)

-- ---- where the node goes
-- Left has ended: the node is in Flush, or Running with left Done.
abbrev pub LeftEnds : NodeState → PortState → Type 0
LeftEnds t l = (t ≡ Flush) ⊎ ((t ≡ Running) × (l ≡ PortDone))

-- SCOPE 13.1 and 13.2, as a relation.
pub record Moved (t : NodeState) (l s : PortState) (words : ℕ) (u : NodeState) : Type 0 where
  pub sent : s ≡ PortDone → u ≡ Done
  pub empty : LeftEnds t l → words ≡ 0 → u ≡ Done
  pub waits : LeftEnds t l → (words ≡ 0 → ⊥) → (s ≡ PortDone → ⊥) → u ≡ Flush
  pub runs : t ≡ Running → (l ≡ PortDone → ⊥) → (s ≡ PortDone → ⊥) → u ≡ Running
  pub stays : t ≡ Done → u ≡ Done

-- The same as a test; none: nothing waits.
abbrev is_state : NodeState → NodeState → Bool
is_state t u = eqb (state_code t) (state_code u)

abbrev ends_test : NodeState → PortState → Bool
ends_test t l = is_state t Flush || (is_state t Running && is_port l PortDone)

abbrev if_then : Bool → Bool → Bool
if_then a b = not a || b

abbrev moved_test : NodeState → PortState → PortState → Bool → NodeState → Bool
moved_test t l s none u =
    all_of (if_then (is_port s PortDone) (is_state u Done)
    ∷ if_then (ends_test t l && none) (is_state u Done)
    ∷ if_then (ends_test t l && not none && not (is_port s PortDone)) (is_state u Flush)
    ∷ if_then (is_state t Running && not (is_port l PortDone) && not (is_port s PortDone)) (is_state u Running)
    ∷ if_then (is_state t Done) (is_state u Done)
    ∷ []) (λ b. b)

-- All 3 × 9 combinations, with nothing waiting and with something.
abbrev words_of : Bool → ℕ
words_of none = cond none 0 1

all_moved : all_of states (λ t. all_of codes (λ l. all_of codes (λ s. all_of (true ∷ false ∷ []) (λ none. moved_test t l s none (to_done (to_flush t l s) (words_of none)))))) ≡ true
unfolding states codes
all_moved = refl

-- How many words wait says no more than whether any does.
some_words : (u : NodeState) (words : ℕ) → to_done u words ≡ to_done u (words_of (eqb words 0))
some_words Running words = refl
some_words Flush words = same (eqb words 0)
  where
    same : (none : Bool) → cond none Done Flush ≡ cond (eqb (words_of none) 0) Done Flush
    same true = refl
    same false = refl
some_words Done words = refl

then_by : (a b : Bool) → if_then a b ≡ true → a ≡ true → b ≡ true
then_by true b h e = h
then_by false b h e = let z : ◌≡◌ {A = ℕ} 0 1 = cc in absurd (omega arith)

not_port : (p q : PortState) → (p ≡ q → ⊥) → is_port p q ≡ false
not_port p q n = ne_eqb (port_code p) (port_code q) (λ e. n (same_port p q (eq-eqb (port_code p) (port_code q) e)))

ends_by : (t : NodeState) (l : PortState) → LeftEnds t l → ends_test t l ≡ true
ends_by t l (inl e) = rw e
ends_by t l (inr e) = rw (e.0, e.1)

moved_by : (t : NodeState) (l s : PortState) (words : ℕ) (u : NodeState) → moved_test t l s (eqb words 0) u ≡ true → Moved t l s words u
moved_by t l s words u h =
    let sent = is_port s PortDone in
    let none = eqb words 0 in
    let p = and-true (if_then sent (is_state u Done)) _ h in
    let q = and-true (if_then (ends_test t l && none) (is_state u Done)) _ p.1 in
    let r = and-true (if_then (ends_test t l && not none && not sent) (is_state u Flush)) _ q.1 in
    let v = and-true (if_then (is_state t Running && not (is_port l PortDone) && not sent) (is_state u Running)) _ r.1 in
    let w = and-true (if_then (is_state t Done) (is_state u Done)) true v.1 in
    record {
      sent = λ e. same_state u Done (then_by sent (is_state u Done) p.0 (rw e));
      empty = λ e n. same_state u Done (then_by (ends_test t l && none) (is_state u Done) q.0 (rw (ends_by t l e, eq-eqb words 0 n)));
      waits = λ e n o. same_state u Flush (then_by (ends_test t l && not none && not sent) (is_state u Flush) r.0 (rw (ends_by t l e, ne_eqb words 0 n, not_port s PortDone o)));
      runs = λ e n o. same_state u Running
          (then_by (is_state t Running && not (is_port l PortDone) && not sent) (is_state u Running) v.0 (rw (e, not_port l PortDone n, not_port s PortDone o)));
      stays = λ e. same_state u Done (then_by (is_state t Done) (is_state u Done) w.0 (rw e));
    }

-- The rule at each combination.
pub moved_rule : (t : NodeState) (l s : PortState) (words : ℕ) → Moved t l s words (to_done (to_flush t l s) words)
moved_rule t l s words =
    let at-t = all_at states (λ t. all_of codes (λ l. all_of codes (λ s. all_of (true ∷ false ∷ []) (λ none. moved_test t l s none (to_done (to_flush t l s) (words_of none)))))) all_moved t (state_in t) in
    let at-l = all_at codes (λ l. all_of codes (λ s. all_of (true ∷ false ∷ []) (λ none. moved_test t l s none (to_done (to_flush t l s) (words_of none))))) at-t l (code_in l) in
    let at-s = all_at codes (λ s. all_of (true ∷ false ∷ []) (λ none. moved_test t l s none (to_done (to_flush t l s) (words_of none)))) at-l s (code_in s) in
    moved_by t l s words _
    (rw (some_words (to_flush t l s) words)
    (all_at (true ∷ false ∷ []) (λ none. moved_test t l s none (to_done (to_flush t l s) (words_of none))) at-s (eqb words 0) (either (eqb words 0))))
  where
    either : (b : Bool) → is_in b (true ∷ false ∷ [])
    either true = inl refl
    either false = inr (inl refl)
