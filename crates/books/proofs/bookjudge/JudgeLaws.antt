-- What the judges of books answer, test by test; and what their answer says of the calls over books. Assumes nothing.
use Rattle.std.specs.Prelude.{Result, Ok, Err}
use mathlib.Core.Path.{◌≡◌, refl, ◌∙◌}
use mathlib.Core.Bool.{Bool, true, false, cond, not, ◌&&◌, ◌||◌}
use Prim.Native.Nat.{ℕ, ◌+◌, ◌*◌, ◌≤◌, ◌<◌}
use native.Mathlib.Omega.{arith}
use borrow.Author.Tests.{not-false, leb-true, leb-false, lt-ltb}
use lib.Dec.{ltb, leb}
use lib.ListN.{length, drop, length-drop}
use lib.Seq.{length-take-le}
use Rattle.frames.specs.Cells.{Rows, Words}
use Rattle.frames.specs.Frame.{is_table, frame_words, row_count, values_in, marks_in}
use Rattle.frames.proofs.FrameLaws.{table_parts}
use Rattle.frames.proofs.BoolLaws.{and-true}
use Rattle.order.specs.options.Options.{bad_options, many_carried, bad_ranked, Few}
use Rattle.order.specs.declared.options.Options.{Options}
use Rattle.order.proofs.options.OptionLaws.{Allowed, allowed_parts, good_allowed}
use Rattle.order.specs.Listed.{lacks_code}
use Rattle.tables.specs.Options.{unless}
use Rattle.tables.specs.Table.{leave}
use Rattle.books.specs.Calls.{is_book, rows_in, merge_answer, stand_answer}
use Rattle.books.specs.Requires.{Book}
use Rattle.callrules.specs.Judged.{open_answer}
use Rattle.frames.specs.declared.refusals.Refusal.{Refusal}
use Rattle.frames.specs.declared.refusals.Refusal.TheVariants.{BadOptions, TooManyCarried, BadRanks, BadFrame, UnknownCode}
use Rattle.books.specs.bookjudge.Judged.{book_judged, books_judged}

-- ---- the tests of the options, as opening makes them
abbrev pub chain : {A : Type 0} → (Refusal → A) → Bool → Bool → Bool → A → A
chain f x y z a = cond x (f BadOptions) (cond y (f TooManyCarried) (cond z (f BadRanks) a))

chain_shut : {A : Type 0} (f : Refusal → A) (a : A) (x y z : Bool) (r : Refusal) → ◌≡◌ {A = Result Unit Refusal} (chain (λ n. Err n) x y z (Ok tt)) (Err r) → chain f x y z a ≡ f r
chain_shut f a true y z r e = cc
chain_shut f a false true z r e = cc
chain_shut f a false false true r e = cc
chain_shut f a false false false r e = let n : ◌≡◌ {A = ℕ} 0 1 = cc in absurd (omega arith)

pub chain_open : (x y z : Bool) (t : Result Unit Refusal) → chain (λ n. Err n) x y z t ≡ Ok tt → (x ≡ false) × (y ≡ false) × (z ≡ false) × (t ≡ Ok tt)
chain_open true y z t e = let n : ◌≡◌ {A = ℕ} 0 1 = cc in absurd (omega arith)
chain_open false true z t e = let n : ◌≡◌ {A = ℕ} 0 1 = cc in absurd (omega arith)
chain_open false false true t e = let n : ◌≡◌ {A = ℕ} 0 1 = cc in absurd (omega arith)
chain_open false false false t e = (refl, refl, refl, e)

module _ (o : Options) where
  pub open_shut : {A : Type 0} (f : Refusal → A) (a : A) (r : Refusal) → open_answer o ≡ Err r → unless f o a ≡ f r
  unfolding open_answer
  open_shut f a r e = chain_shut f a (bad_options o) (many_carried o) (bad_ranked o) r e

  pub open_past : {A : Type 0} (f : Refusal → A) (a : A) → open_answer o ≡ Ok tt → unless f o a ≡ a
  unfolding open_answer
  open_past f a e = let p = chain_open (bad_options o) (many_carried o) (bad_ranked o) (Ok tt) e in rw (p.0, p.1, p.2)

  pub open_allowed : open_answer o ≡ Ok tt → Allowed o
  unfolding open_answer
  open_allowed e =
      let p = chain_open (bad_options o) (many_carried o) (bad_ranked o) (Ok tt) e in
      allowed_parts o (good_allowed o p.0 p.1 p.2)

-- ---- one book, behind the options
abbrev pub book_rest : Options → Words → Result Unit Refusal
book_rest o book = cond (not (is_book o book)) (Err BadFrame) (cond (lacks_code o (rows_in o book)) (Err UnknownCode) (Ok tt))

module _ (o : Options) (book : Words) where
  pub book_shut : (r : Refusal) → open_answer o ≡ Err r → book_judged o book ≡ Err r
  unfolding book_judged
  book_shut r e = open_shut o (λ n. Err n) _ r e

  pub book_open : open_answer o ≡ Ok tt → book_judged o book ≡ book_rest o book
  unfolding book_judged
  book_open e = open_past o (λ n. Err n) _ e

-- ---- two books, behind the options
abbrev pub books_rest : Options → Words → Words → Result Unit Refusal
books_rest o house festival =
    cond (not (is_book o house && is_book o festival)) (Err BadFrame) (cond (lacks_code o (rows_in o house) || lacks_code o (rows_in o festival)) (Err UnknownCode) (Ok tt))

module _ (o : Options) (house festival : Words) where
  pub books_shut : (r : Refusal) → open_answer o ≡ Err r → books_judged o house festival ≡ Err r
  unfolding books_judged
  books_shut r e = open_shut o (λ n. Err n) _ r e

  pub books_open : open_answer o ≡ Ok tt → books_judged o house festival ≡ books_rest o house festival
  unfolding books_judged
  books_open e = open_past o (λ n. Err n) _ e

-- ---- what an answer says
pub two_open : (a b : Bool) → ◌≡◌ {A = Result Unit Refusal} (cond a (Err BadFrame) (cond b (Err UnknownCode) (Ok tt))) (Ok tt) → (a ≡ false) × (b ≡ false)
two_open true b e = let n : ◌≡◌ {A = ℕ} 0 1 = cc in absurd (omega arith)
two_open false true e = let n : ◌≡◌ {A = ℕ} 0 1 = cc in absurd (omega arith)
two_open false false e = (refl, refl)

all_shut : (x y z a b : Bool) (w : Result ℕ Refusal) (r : Refusal) → ◌≡◌ {A = Result Unit Refusal} (chain (λ n. Err n) x y z (cond a (Err BadFrame) (cond b (Err UnknownCode) (Ok tt)))) (Err r)
    → chain (λ n. Err n) x y z (cond a (Err BadFrame) (cond b (Err UnknownCode) w)) ≡ Err r
all_shut true y z a b w r e = cc
all_shut false true z a b w r e = cc
all_shut false false true a b w r e = cc
all_shut false false false true b w r e = cc
all_shut false false false false true w r e = cc
all_shut false false false false false w r e = let n : ◌≡◌ {A = ℕ} 0 1 = cc in absurd (omega arith)

-- Two books that were accepted: the options are allowed, both are tables, and no value is lacked.
pub record BooksFine (o : Options) (house festival : Words) : Type 0 where
  pub allowed : Allowed o
  pub house_is : is_book o house ≡ true
  pub festival_is : is_book o festival ≡ true
  pub past : (w : Result ℕ Refusal) → unless (λ n. Err n) o (cond (not (is_book o house && is_book o festival)) (Err BadFrame) (cond (lacks_code o (rows_in o house) || lacks_code o (rows_in o festival)) (Err UnknownCode) w)) ≡ w

pub books_fine : (o : Options) (house festival : Words) → books_judged o house festival ≡ Ok tt → BooksFine o house festival
unfolding books_judged
books_fine o house festival e =
    let p = chain_open (bad_options o) (many_carried o) (bad_ranked o) _ e in
    let q = two_open (not (is_book o house && is_book o festival)) (lacks_code o (rows_in o house) || lacks_code o (rows_in o festival)) p.3 in
    let b = and-true (is_book o house) (is_book o festival) (not-false (is_book o house && is_book o festival) q.0) in
    record {
      allowed = allowed_parts o (good_allowed o p.0 p.1 p.2);
      house_is = b.0;
      festival_is = b.1;
      past = λ w. rw (p.0, p.1, p.2, q.0, q.1);
    }

pub books_refused : (o : Options) (house festival out : Words) (r : Refusal) → books_judged o house festival ≡ Err r → merge_answer o house festival out ≡ Err r
unfolding books_judged merge_answer
books_refused o house festival out r e =
    all_shut (bad_options o) (many_carried o) (bad_ranked o) (not (is_book o house && is_book o festival)) (lacks_code o (rows_in o house) || lacks_code o (rows_in o festival)) _ r e

-- One book that was accepted.
pub record BookFine (o : Options) (book : Words) : Type 0 where
  pub allowed : Allowed o
  pub is : is_book o book ≡ true
  pub past : (w : Result ℕ Refusal) → unless (λ n. Err n) o (cond (not (is_book o book)) (Err BadFrame) (cond (lacks_code o (rows_in o book)) (Err UnknownCode) w)) ≡ w

pub book_fine : (o : Options) (book : Words) → book_judged o book ≡ Ok tt → BookFine o book
unfolding book_judged
book_fine o book e =
    let p = chain_open (bad_options o) (many_carried o) (bad_ranked o) _ e in
    let q = two_open (not (is_book o book)) (lacks_code o (rows_in o book)) p.3 in
    record {
      allowed = allowed_parts o (good_allowed o p.0 p.1 p.2);
      is = not-false (is_book o book) q.0;
      past = λ w. rw (p.0, p.1, p.2, q.0, q.1);
    }

pub book_refused : (o : Options) (q : ℕ) (book out : Words) (r : Refusal) → book_judged o book ≡ Err r → stand_answer o q book out ≡ Err r
unfolding book_judged stand_answer
book_refused o q book out r e = all_shut (bad_options o) (many_carried o) (bad_ranked o) (not (is_book o book)) (lacks_code o (rows_in o book)) _ r e

-- ---- a book by its words
module _ (c : ℕ) (f : Words) (h : is_table c f ≡ true) where
  pub table_exact : length f ≡ frame_words (row_count f) c
  table_exact = (table_parts c f h).exact

  pub table_values_lem : length (values_in c f) ≡ row_count f * c
  table_values_lem = length-take-le (row_count f * c) (drop 2 f) (rw (length-drop 2 f) (omega (arith, table_exact)))

  pub table_marks : length (marks_in c f) ≡ row_count f * c
  table_marks = length-drop (2 + row_count f * c) f ∙ omega (arith, table_exact)

  -- The values and marks of a table are a book, where the order can compare its rows.
  pub book_in : (o : Options) → Few o → o.by < c → Book o c (row_count f) (values_in c f) (marks_in c f)
  book_in o few wide = record {
    rows = record { few = few; wide = wide; values = omega (arith, table_values_lem); marks = omega (arith, table_marks) };
    paired = omega (arith, table_values_lem, table_marks);
    fine = (table_parts c f h).fine;
  }

-- The answer of a call is that of what it leaves.
pub leave_answer : (c : ℕ) (rows : Rows) (w : Result ℕ Refusal) (out : Words) → w ≡ (leave c rows w out).answer
leave_answer c rows (Ok n) out = refl
leave_answer c rows (Err n) out = refl

-- ---- room, as it is tested
pub room_short : (n c room : ℕ) → leb (frame_words n c) room ≡ false → ltb room (frame_words n c) ≡ true
room_short n c room e = lt-ltb room (frame_words n c) (leb-false (frame_words n c) room e)

pub room_there : (n c room : ℕ) → leb (frame_words n c) room ≡ true → frame_words n c ≤ room
room_there n c room e = leb-true (frame_words n c) room e
