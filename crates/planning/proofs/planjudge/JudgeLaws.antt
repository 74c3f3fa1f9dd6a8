-- What the judge of two tables answers, test by test; and what its answer says of a plan. Assumes nothing.
use Rattle.planning.specs.declared.Figures.{Figures}
use Rattle.std.specs.Prelude.{Result, Ok, Err}
use mathlib.Core.Path.{◌≡◌}
use mathlib.Core.Bool.{Bool, true, false, cond, not, ◌&&◌, ◌||◌}
use Prim.Native.Nat.{ℕ}
use native.Mathlib.Omega.{arith}
use borrow.Author.Tests.{not-false}
use Rattle.frames.specs.Cells.{Words}
use Rattle.frames.specs.Frame.{is_table, frame_rows}
use Rattle.frames.proofs.BoolLaws.{and-true}
use Rattle.order.specs.options.Options.{columns, right_columns, bad_options, many_carried, bad_ranked}
use Rattle.order.specs.declared.options.Options.{Options}
use Rattle.order.proofs.options.OptionLaws.{Allowed, allowed_parts, good_allowed}
use Rattle.order.specs.Listed.{lacks_code}
use Rattle.tables.specs.Options.{unless}
use Rattle.callrules.specs.Judged.{open_answer}
use Rattle.frames.specs.declared.refusals.Refusal.{Refusal}
use Rattle.frames.specs.declared.refusals.Refusal.TheVariants.{BadFrame, UnknownCode}
use Rattle.planning.specs.Call.{plan_call}
use Rattle.books.proofs.bookjudge.JudgeLaws.{chain, chain_open, two_open, open_shut, open_past}
use Rattle.planning.specs.planjudge.Judged.{tables_judged}

-- Behind the options.
abbrev pub tables_rest : Options → Words → Words → Result Unit Refusal
tables_rest o left right =
    cond (not (is_table (columns o) left && is_table (right_columns o) right)) (Err BadFrame)
    (cond (lacks_code o (frame_rows (columns o) left) || lacks_code o (frame_rows (right_columns o) right)) (Err UnknownCode) (Ok tt))

module _ (o : Options) (left right : Words) where
  pub tables_shut : (r : Refusal) → open_answer o ≡ Err r → tables_judged o left right ≡ Err r
  unfolding tables_judged
  tables_shut r e = open_shut o (λ n. Err n) _ r e

  pub tables_open : open_answer o ≡ Ok tt → tables_judged o left right ≡ tables_rest o left right
  unfolding tables_judged
  tables_open e = open_past o (λ n. Err n) _ e

all_shut : (x y z a b : Bool) (p : Result Figures Refusal) (r : Refusal) → ◌≡◌ {A = Result Unit Refusal} (chain (λ n. Err n) x y z (cond a (Err BadFrame) (cond b (Err UnknownCode) (Ok tt)))) (Err r)
    → chain (λ n. Err n) x y z (cond a (Err BadFrame) (cond b (Err UnknownCode) p)) ≡ Err r
all_shut true y z a b p r e = cc
all_shut false true z a b p r e = cc
all_shut false false true a b p r e = cc
all_shut false false false true b p r e = cc
all_shut false false false false true p r e = cc
all_shut false false false false false p r e = let n : ◌≡◌ {A = ℕ} 0 1 = cc in absurd (omega arith)

-- Two tables that were accepted: the options are allowed, both are tables, and no value is lacked.
pub record TablesFine (o : Options) (left right : Words) : Type 0 where
  pub allowed : Allowed o
  pub left_is : is_table (columns o) left ≡ true
  pub right_is : is_table (right_columns o) right ≡ true
  pub past : (p : Result Figures Refusal) → unless (λ n. Err n) o (cond (not (is_table (columns o) left && is_table (right_columns o) right)) (Err BadFrame) (cond (lacks_code o (frame_rows (columns o) left) || lacks_code o (frame_rows (right_columns o) right)) (Err UnknownCode) p)) ≡ p

pub tables_fine : (o : Options) (left right : Words) → tables_judged o left right ≡ Ok tt → TablesFine o left right
unfolding tables_judged
tables_fine o left right e =
    let p = chain_open (bad_options o) (many_carried o) (bad_ranked o) _ e in
    let q = two_open (not (is_table (columns o) left && is_table (right_columns o) right)) (lacks_code o (frame_rows (columns o) left) || lacks_code o (frame_rows (right_columns o) right)) p.3 in
    let b = and-true (is_table (columns o) left) (is_table (right_columns o) right) (not-false (is_table (columns o) left && is_table (right_columns o) right) q.0) in
    record {
      allowed = allowed_parts o (good_allowed o p.0 p.1 p.2);
      left_is = b.0;
      right_is = b.1;
      past = λ w. rw (p.0, p.1, p.2, q.0, q.1);
    }

pub tables_refused : (o : Options) (left right hl hr : Words) (r : Refusal) → tables_judged o left right ≡ Err r → plan_call o left right hl hr ≡ Err r
unfolding tables_judged plan_call
tables_refused o left right hl hr r e =
    all_shut (bad_options o) (many_carried o) (bad_ranked o) (not (is_table (columns o) left && is_table (right_columns o) right)) (lacks_code o (frame_rows (columns o) left) || lacks_code o (frame_rows (right_columns o) right)) _ r e
