-- What the judges of words answer, test by test; and what their answer says of the calls. Assumes nothing.
use Rattle.std.specs.Prelude.{Result, Ok, Err}
use mathlib.Core.Path.{◌≡◌, refl, sym, ap, ◌∙◌}
use mathlib.Core.Bool.{Bool, true, false, cond, not, ◌&&◌, ◌||◌}
use Prim.Native.Nat.{ℕ, suc, ◌+◌, ◌^◌, ◌≤◌, ◌<◌}
use native.Mathlib.Omega.{arith}
use borrow.Author.Tests.{not-false, ltb-true, eq-eqb, ne_eqb}
use lib.Dec.{T, eqb}
use lib.IntN.{ℤ, pos, negsuc, nat_abs}
use lib.Signed.{lt_z, non_neg, mag}
use lib.ListN.{length, get_or}
use Rattle.takings.specs.declared.Taken.{Taken}
use Rattle.frames.specs.Cells.{Words}
use Rattle.frames.specs.Frame.{is_table, is_frame, row_count, frame_rows, same_z}
use Rattle.frames.proofs.FrameLaws.{table_parts}
use Rattle.frames.proofs.BoolLaws.{and-true}
use Rattle.frames.proofs.FrontLaws.{table_short, table_other_columns, frame_table}
use Rattle.order.specs.options.Options.{columns, bad_options, many_carried, bad_ranked}
use Rattle.order.specs.declared.options.Options.{Options}
use Rattle.order.proofs.options.OptionLaws.{Allowed, allowed_parts, good_allowed}
use Rattle.order.specs.Listed.{lacks_code}
use Rattle.tables.specs.Options.{unless}
use Rattle.takings.specs.Calls.{table_width, rows_in, any_frame, columns_in, known_columns, join_answer, add_answer}
use Rattle.callrules.specs.Judged.{open_answer}
use Rattle.frames.specs.declared.refusals.Refusal.{Refusal}
use Rattle.frames.specs.declared.refusals.Refusal.TheVariants.{BadOptions, TooManyCarried, BadRanks, BadFrame, UnknownCode, BadColumns}
use Rattle.subtotals.specs.takewords.Judged.{tables_judged, sales_judged}

-- ---- the tests in their order: of the options x, y, z; then a, b, d
abbrev chain : {A : Type 0} → (Refusal → A) → Bool → Bool → Bool → A → A
chain f x y z a = cond x (f BadOptions) (cond y (f TooManyCarried) (cond z (f BadRanks) a))

abbrev pub three : {A : Type 0} → (Refusal → A) → Bool → Bool → Bool → A → A
three f a b d t = cond a (f BadFrame) (cond b (f UnknownCode) (cond d (f BadColumns) t))

chain_shut : {A : Type 0} (f : Refusal → A) (a : A) (x y z : Bool) (r : Refusal) → ◌≡◌ {A = Result Unit Refusal} (chain (λ n. Err n) x y z (Ok tt)) (Err r) → chain f x y z a ≡ f r
chain_shut f a true y z r e = cc
chain_shut f a false true z r e = cc
chain_shut f a false false true r e = cc
chain_shut f a false false false r e = let n : ◌≡◌ {A = ℕ} 0 1 = cc in absurd (omega arith)

chain_open : (x y z : Bool) (t : Result Unit Refusal) → chain (λ n. Err n) x y z t ≡ Ok tt → (x ≡ false) × (y ≡ false) × (z ≡ false) × (t ≡ Ok tt)
chain_open true y z t e = let n : ◌≡◌ {A = ℕ} 0 1 = cc in absurd (omega arith)
chain_open false true z t e = let n : ◌≡◌ {A = ℕ} 0 1 = cc in absurd (omega arith)
chain_open false false true t e = let n : ◌≡◌ {A = ℕ} 0 1 = cc in absurd (omega arith)
chain_open false false false t e = (refl, refl, refl, e)

three_open : (a b d : Bool) → ◌≡◌ {A = Result Unit Refusal} (three (λ n. Err n) a b d (Ok tt)) (Ok tt) → (a ≡ false) × (b ≡ false) × (d ≡ false)
three_open true b d e = let n : ◌≡◌ {A = ℕ} 0 1 = cc in absurd (omega arith)
three_open false true d e = let n : ◌≡◌ {A = ℕ} 0 1 = cc in absurd (omega arith)
three_open false false true e = let n : ◌≡◌ {A = ℕ} 0 1 = cc in absurd (omega arith)
three_open false false false e = (refl, refl, refl)

all_shut : {A : Type 0} (f : Refusal → A) (x y z a b d : Bool) (w : A) (r : Refusal)
    → ◌≡◌ {A = Result Unit Refusal} (chain (λ n. Err n) x y z (three (λ n. Err n) a b d (Ok tt))) (Err r) → chain f x y z (three f a b d w) ≡ f r
all_shut f true y z a b d w r e = cc
all_shut f false true z a b d w r e = cc
all_shut f false false true a b d w r e = cc
all_shut f false false false true b d w r e = cc
all_shut f false false false false true d w r e = cc
all_shut f false false false false false true w r e = cc
all_shut f false false false false false false w r e = let n : ◌≡◌ {A = ℕ} 0 1 = cc in absurd (omega arith)

module _ (o : Options) where
  open_shut : (a : Result Unit Refusal) (r : Refusal) → open_answer o ≡ Err r → unless (λ n. Err n) o a ≡ Err r
  unfolding open_answer
  open_shut a r e = chain_shut (λ n. Err n) a (bad_options o) (many_carried o) (bad_ranked o) r e

  open_past : (a : Result Unit Refusal) → open_answer o ≡ Ok tt → unless (λ n. Err n) o a ≡ a
  unfolding open_answer
  open_past a e = let p = chain_open (bad_options o) (many_carried o) (bad_ranked o) (Ok tt) e in rw (p.0, p.1, p.2)

  pub open_allowed : open_answer o ≡ Ok tt → Allowed o
  unfolding open_answer
  open_allowed e =
      let p = chain_open (bad_options o) (many_carried o) (bad_ranked o) (Ok tt) e in
      allowed_parts o (good_allowed o p.0 p.1 p.2)

-- ---- two tables
module _ (o : Options) (table other : Words) where
  abbrev no_tables : Bool
  no_tables = not (is_table (table_width o) table && is_table (table_width o) other)

  abbrev lacking : Bool
  lacking = lacks_code o (rows_in o table) || lacks_code o (rows_in o other)

  abbrev pub tables_rest : Result Unit Refusal
  tables_rest = three (λ n. Err n) no_tables lacking (eqb o.carried 0) (Ok tt)

  pub tables_shut : (r : Refusal) → open_answer o ≡ Err r → tables_judged o table other ≡ Err r
  unfolding tables_judged
  tables_shut r e = open_shut o _ r e

  pub tables_open : open_answer o ≡ Ok tt → tables_judged o table other ≡ tables_rest
  unfolding tables_judged
  tables_open e = open_past o _ e

  -- Two tables that were accepted: the options are allowed, both are tables, and the answer is that of their rows.
  pub record TablesFine : Type 0 where
    pub allowed : Allowed o
    pub table_is : is_table (table_width o) table ≡ true
    pub other_is : is_table (table_width o) other ≡ true
    pub past : (w : Result Taken Refusal) → unless (λ n. Err n) o (three (λ n. Err n) no_tables lacking (eqb o.carried 0) w) ≡ w

  pub tables_fine : tables_judged o table other ≡ Ok tt → TablesFine
  unfolding tables_judged
  tables_fine e =
      let p = chain_open (bad_options o) (many_carried o) (bad_ranked o) _ e in
      let q = three_open no_tables lacking (eqb o.carried 0) p.3 in
      let b = and-true (is_table (table_width o) table) (is_table (table_width o) other) (not-false (is_table (table_width o) table && is_table (table_width o) other) q.0) in
      record {
        allowed = allowed_parts o (good_allowed o p.0 p.1 p.2);
        table_is = b.0;
        other_is = b.1;
        past = λ w. rw (p.0, p.1, p.2, q.0, q.1, q.2);
      }

  pub tables_refused : (k l : ℤ) (out : Words) (r : Refusal) → tables_judged o table other ≡ Err r → join_answer o table k other l out ≡ Err r
  unfolding tables_judged join_answer
  tables_refused k l out r e = all_shut (λ n. Err n) (bad_options o) (many_carried o) (bad_ranked o) no_tables lacking (eqb o.carried 0) _ r e

-- ---- a frame of the columns that it says
no_table : (c : ℕ) (f : Words) → is_table c f ≡ false → is_frame c f ≡ false
unfolding is_frame
no_table c f e = rw e

pub any_short_lem : (f : Words) → length f < 2 → false ≡ any_frame f
any_short_lem f h = sym (no_table (columns_in f) f (table_short (columns_in f) f h))

below : (z : ℤ) → lt_z z (pos 0) ≡ true → same_z z (pos (nat_abs z)) ≡ false
below (pos n) e = absurd (omega (arith, ltb-true n 0 e))
below (negsuc n) e = refl

pub any_below : (f : Words) → lt_z (get_or f 1 (pos 0)) (pos 0) ≡ true → false ≡ any_frame f
any_below f e = sym (no_table (columns_in f) f (table_other_columns (columns_in f) f (below (get_or f 1 (pos 0)) e)))

pub frames_first : (a b c : Bool) → a ≡ false → false ≡ (a && b && c)
frames_first a b c e = rw e

pub frames_second : (a b c : Bool) → a ≡ true → b ≡ false → false ≡ (a && b && c)
frames_second a b c e f = rw (e, f)

pub frames_last : (a b c d : Bool) → a ≡ true → b ≡ true → d ≡ c → d ≡ (a && b && c)
frames_last a b c d e f g = rw (e, f) g

pub frames_parts : (a b c : Bool) → (a && b && c) ≡ true → (a ≡ true) × (b ≡ true) × (c ≡ true)
frames_parts a b c e = let p = and-true (a && b) c e in let q = and-true a b p.0 in (q.0, q.1, p.1)

-- ---- a table, a left frame and its answer frame
and_left : (t a b c : Bool) → (t && a && b && c) ≡ (t && (a && b && c))
and_left true a b c = refl
and_left false a b c = refl

module _ (o : Options) (table left answer : Words) where
  abbrev frames : Bool
  frames = is_frame (columns o) left && any_frame answer && eqb (row_count left) (row_count answer)

  abbrev not_all : Bool
  not_all = not (is_table (table_width o) table && frames)

  abbrev wanting : Bool
  wanting = lacks_code o (rows_in o table) || lacks_code o (frame_rows (columns o) left)

  abbrev pub sales_rest : Result Unit Refusal
  sales_rest = three (λ n. Err n) not_all wanting (not (known_columns o (columns_in answer))) (Ok tt)

  pub sales_shut : (r : Refusal) → open_answer o ≡ Err r → sales_judged o table left answer ≡ Err r
  unfolding sales_judged
  sales_shut r e = open_shut o _ r e

  grouped : not (is_table (table_width o) table && is_frame (columns o) left && any_frame answer && eqb (row_count left) (row_count answer)) ≡ not_all
  grouped = ap not (and_left (is_table (table_width o) table) (is_frame (columns o) left) (any_frame answer) (eqb (row_count left) (row_count answer)))

  pub sales_open : open_answer o ≡ Ok tt → sales_judged o table left answer ≡ sales_rest
  unfolding sales_judged
  sales_open e = open_past o _ e ∙ ap (λ (z : Bool). three (λ n. Err n) z wanting (not (known_columns o (columns_in answer))) (Ok tt)) grouped

  -- What was accepted: the options are allowed, all three are what they are to be, and the answer is that of their rows.
  pub record SalesFine : Type 0 where
    pub allowed : Allowed o
    pub table_is : is_table (table_width o) table ≡ true
    pub left_is : is_frame (columns o) left ≡ true
    pub answer_is : any_frame answer ≡ true
    pub height : eqb (row_count left) (row_count answer) ≡ true
    pub known : known_columns o (columns_in answer) ≡ true
    pub past : (w : Result Taken Refusal) → unless (λ n. Err n) o (three (λ n. Err n) (not (is_table (table_width o) table && is_frame (columns o) left && any_frame answer && eqb (row_count left) (row_count answer))) wanting (not (known_columns o (columns_in answer))) w) ≡ w

  pub sales_fine : sales_judged o table left answer ≡ Ok tt → SalesFine
  unfolding sales_judged
  sales_fine e =
      let p = chain_open (bad_options o) (many_carried o) (bad_ranked o) _ e in
      let q = three_open (not (is_table (table_width o) table && is_frame (columns o) left && any_frame answer && eqb (row_count left) (row_count answer))) wanting (not (known_columns o (columns_in answer))) p.3 in
      let all = not-false (is_table (table_width o) table && is_frame (columns o) left && any_frame answer && eqb (row_count left) (row_count answer)) q.0 in
      let b = and-true (is_table (table_width o) table && is_frame (columns o) left && any_frame answer) (eqb (row_count left) (row_count answer)) all in
      let c = and-true (is_table (table_width o) table && is_frame (columns o) left) (any_frame answer) b.0 in
      let d = and-true (is_table (table_width o) table) (is_frame (columns o) left) c.0 in
      record {
        allowed = allowed_parts o (good_allowed o p.0 p.1 p.2);
        table_is = d.0;
        left_is = d.1;
        answer_is = c.1;
        height = b.1;
        known = not-false (known_columns o (columns_in answer)) q.2;
        past = λ w. rw (p.0, p.1, p.2, q.0, q.1, q.2);
      }

  pub sales_refused : (k : ℤ) (out : Words) (r : Refusal) → sales_judged o table left answer ≡ Err r → add_answer o table k left answer out ≡ Err r
  unfolding sales_judged add_answer
  sales_refused k out r e =
      all_shut (λ n. Err n) (bad_options o) (many_carried o) (bad_ranked o) (not (is_table (table_width o) table && is_frame (columns o) left && any_frame answer && eqb (row_count left) (row_count answer))) wanting (not (known_columns o (columns_in answer))) _ r e

-- ---- the columns
pub word_count : (z : ℤ) (c : ℕ) → same_z z (pos c) ≡ true → T (non_neg z)
word_count (pos n) c e = tt
word_count (negsuc n) c e = let y : ◌≡◌ {A = ℕ} 0 1 = cc in absurd (omega arith)

pub columns_told : (f : Words) → any_frame f ≡ true → (2 ≤ length f) × T (non_neg (get_or f 1 (pos 0)))
columns_told f e = let p = table_parts (columns_in f) f (frame_table (columns_in f) f e) in (p.long, word_count (get_or f 1 (pos 0)) (columns_in f) p.columns)

pub small_word : (z : ℤ) → T (non_neg z) → mag z < 2 ^ 63 → nat_abs z < 2 ^ 63
small_word (pos n) t h = h
small_word (negsuc n) t h = absurd t

-- ---- 13, test by test
module _ (o : Options) (d : ℕ) where
  pub known_none : o.carried ≡ 0 → false ≡ known_columns o d
  known_none e = rw (eq-eqb o.carried 0 e)

  pub known_plain : (o.carried ≡ 0 → ⊥) → d ≡ o.carried + 1 → true ≡ known_columns o d
  known_plain n e = let f : d ≡ suc o.carried = omega (arith, e) in rw (ne_eqb o.carried 0 n, eq-eqb d (suc o.carried) f)

  pub known_more : (m : ℕ) → (o.carried ≡ 0 → ⊥) → (d ≡ o.carried + 1 → ⊥) → m ≡ d → eqb m (o.carried + 2) ≡ known_columns o d
  known_more m n f e =
      let g : d ≡ suc o.carried → ⊥ = λ h. f (omega (arith, h)) in
      let k : o.carried + 2 ≡ suc (suc o.carried) = omega arith in
      rw (ne_eqb o.carried 0 n, ne_eqb d (suc o.carried) g, e, k)
