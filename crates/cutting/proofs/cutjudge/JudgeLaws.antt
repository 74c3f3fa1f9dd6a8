-- What the judge of two tables and boundaries answers, and what it means that it accepts them. Assumes nothing.
use Rattle.std.specs.Prelude.{Result, Ok, Err}
use mathlib.Core.Path.{◌≡◌}
use mathlib.Core.Bool.{true, cond, not, ◌&&◌, ◌||◌}
use borrow.Author.Tests.{not-false}
use Rattle.frames.specs.Cells.{Words}
use Rattle.frames.specs.Frame.{is_table, is_frame, frame_rows}
use Rattle.frames.proofs.BoolLaws.{and-true}
use Rattle.order.specs.options.Options.{columns, right_columns, bad_options, many_carried, bad_ranked}
use Rattle.order.specs.declared.options.Options.{Options}
use Rattle.order.proofs.options.OptionLaws.{Allowed, allowed_parts, good_allowed}
use Rattle.order.specs.Listed.{lacks_code}
use Rattle.callrules.specs.Judged.{open_answer}
use Rattle.frames.specs.declared.refusals.Refusal.{Refusal}
use Rattle.frames.specs.declared.refusals.Refusal.TheVariants.{BadFrame, UnknownCode}
use Rattle.books.proofs.bookjudge.JudgeLaws.{chain_open, two_open, open_shut, open_past}
use Rattle.cutting.specs.cutpairs.Driver.{input_judged}

-- Behind the options.
abbrev pub input_rest : Options → Words → Words → Words → Result Unit Refusal
input_rest o left right boundaries =
    cond (not (is_table (columns o) left && is_table (right_columns o) right && is_frame o.by boundaries)) (Err BadFrame)
    (cond (lacks_code o (frame_rows (columns o) left) || lacks_code o (frame_rows (right_columns o) right) || lacks_code o (frame_rows o.by boundaries)) (Err UnknownCode) (Ok tt))

-- What is accepted: the options are allowed, and all three are what they are to be.
pub record InputFine (o : Options) (left right boundaries : Words) : Type 0 where
  pub allowed : Allowed o
  pub left_is : is_table (columns o) left ≡ true
  pub right_is : is_table (right_columns o) right ≡ true
  pub boundaries_are : is_frame o.by boundaries ≡ true

module _ (o : Options) (left right boundaries : Words) where
  pub input_shut : (r : Refusal) → open_answer o ≡ Err r → input_judged o left right boundaries ≡ Err r
  unfolding input_judged
  input_shut r e = open_shut o (λ n. Err n) _ r e

  pub input_open : open_answer o ≡ Ok tt → input_judged o left right boundaries ≡ input_rest o left right boundaries
  unfolding input_judged
  input_open e = open_past o (λ n. Err n) _ e

  pub input_fine : input_judged o left right boundaries ≡ Ok tt → InputFine o left right boundaries
  unfolding input_judged
  input_fine e =
      let both = is_table (columns o) left && is_table (right_columns o) right in
      let p = chain_open (bad_options o) (many_carried o) (bad_ranked o) _ e in
      let q = two_open (not (both && is_frame o.by boundaries)) (lacks_code o (frame_rows (columns o) left) || lacks_code o (frame_rows (right_columns o) right) || lacks_code o (frame_rows o.by boundaries)) p.3 in
      let b = and-true both (is_frame o.by boundaries) (not-false (both && is_frame o.by boundaries) q.0) in
      let t = and-true (is_table (columns o) left) (is_table (right_columns o) right) b.0 in
      record { allowed = allowed_parts o (good_allowed o p.0 p.1 p.2); left_is = t.0; right_is = t.1; boundaries_are = b.1 }
