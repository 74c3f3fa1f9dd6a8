-- The plan of two tables is the plan of the frames that their heights cut. Assumes nothing.
use Rattle.std.specs.Prelude.{Result, Ok, Err}
use mathlib.Core.Path.{◌≡◌, refl, ap, ◌∙◌}
use mathlib.Core.Bool.{Bool, true, false, cond, not, ◌&&◌, ◌||◌}
use mathlib.Core.List.{List, [], ◌∷◌, map}
use Prim.Native.Nat.{ℕ, suc, ◌*◌, ◌≤◌}
use native.Mathlib.Omega.{arith}
use borrow.Author.Tests.{not-false}
use lib.ListN.{length}
use Rattle.frames.specs.Cells.{Words}
use Rattle.frames.specs.Frame.{row_count, values_in, marks_in, frame_rows, is_table}
use Rattle.order.specs.options.Options.{columns, right_columns, bad_options, many_carried, bad_ranked}
use Rattle.order.specs.Order.{sorted}
use Rattle.order.specs.Listed.{lacks_code}
use Rattle.order.proofs.options.OptionLaws.{good_allowed, or_both}
use Rattle.frames.proofs.BoolLaws.{and-true}
use Rattle.frames.proofs.FrameLaws.{table_parts}
use Rattle.frames.proofs.WordLaws.{rows_length}
use Rattle.frames.specs.outcomes.Answers.{most_rows}
use Rattle.frames.specs.declared.refusals.Refusal.{Refusal}
use Rattle.frames.specs.declared.refusals.Refusal.TheVariants.{BadOptions, TooManyCarried, BadRanks, BadFrame, UnknownCode, Unsorted, BadHeights}
use Rattle.lists.specs.Lists.{rows_in}
use Rattle.planning.specs.declared.Figures.{Figures}
use Rattle.planning.specs.Heights.{total, heights_of, bad_heights, in_frames}
use Rattle.planning.specs.Call.{plan_call}
use Rattle.planning.proofs.HeightLaws.{few_heights, heights_fine, heights_count, table_values_lem, table_marks}
use Rattle.schedules.specs.plan.Plan.{AllFrames, Planned, figures}
use Rattle.schedules.specs.plan.Table.{frames_by}
use Rattle.schedules.specs.plan.TablePlan.{cut_into, TablePlans}
use Rattle.schedules.proofs.plan.TableLaws.{table_frames, framed}
use Rattle.schedules.proofs.plan.Planned.{plans}
use Rattle.schedules.proofs.plan.Ends.{writes_all}

-- ---- the chain of refusals, passed
passes : (t : Bool) (n : Refusal) (k : Result Figures Refusal) (p : Figures) → cond t (Err n) k ≡ Ok p → (t ≡ false) × (k ≡ Ok p)
passes true n k p e = let z : ◌≡◌ {A = ℕ} 0 1 = cc in absurd (omega arith)
passes false n k p e = (refl, e)

-- The figures of an answer that has some.
abbrev figures_in : Figures → Result Figures Refusal → Figures
figures_in d (Ok p) = p
figures_in d (Err n) = d

-- ---- one side
record Side (c : ℕ) (f hs : Words) : Type 0 where
  frames : AllFrames c (cut_into c f hs)
  rows : rows_in c (cut_into c f hs) ≡ frame_rows c f
  cut : map (frame_rows c) (cut_into c f hs) ≡ in_frames (heights_of hs) (frame_rows c f)

side : (c : ℕ) (f hs : Words) → is_table c f ≡ true → bad_heights (row_count f) hs ≡ false → Side c f hs
unfolding frame_rows
side c f hs t b =
    let p = heights_fine (row_count f) hs b in
    let n : total (heights_of hs) ≡ row_count f = p.1 in
    let m : total (heights_of hs) * c ≡ row_count f * c = ap (λ (k : ℕ). k * c) n in
    let v : total (heights_of hs) * c ≤ length (values_in c f) = omega (arith, m, table_values_lem c f t) in
    let w : total (heights_of hs) * c ≤ length (marks_in c f) = omega (arith, m, table_marks c f t) in
    let r = table_frames c (heights_of hs) (values_in c f) (marks_in c f) (few_heights hs p.0) v w (table_parts c f t).fine in
    record { frames = r.0; rows = r.1 ∙ rw n refl; cut = framed c (heights_of hs) (values_in c f) (marks_in c f) v w ∙ rw n refl }

pub frames_count : (c : ℕ) (hs : List ℕ) (vs ms : Words) → length (frames_by c hs vs ms) ≡ length hs
unfolding frames_by
frames_count c [] vs ms = refl
frames_count c (h ∷ hs) vs ms = ap suc (frames_count c hs _ _)

rows_few : (c : ℕ) (f : Words) → row_count f ≤ most_rows → length (frame_rows c f) ≤ most_rows
unfolding frame_rows
rows_few c f k = rw (rows_length c (row_count f) (values_in c f) (marks_in c f)) k

pub table_plans : TablePlans
unfolding plan_call
table_plans o left right hl hr l r outs p e g =
    let c = columns o in
    let d = right_columns o in
    let p₁ = passes (bad_options o) BadOptions _ p e in
    let p₁₀ = passes (many_carried o) TooManyCarried _ p p₁.1 in
    let p₁₁ = passes (bad_ranked o) BadRanks _ p p₁₀.1 in
    let p₅ = passes (not (is_table c left && is_table d right)) BadFrame _ p p₁₁.1 in
    let t = and-true (is_table c left) (is_table d right) (not-false (is_table c left && is_table d right) p₅.0) in
    let p₁₂ = passes (lacks_code o (frame_rows c left) || lacks_code o (frame_rows d right)) UnknownCode _ p p₅.1 in
    let k = or_both (lacks_code o (frame_rows c left)) (lacks_code o (frame_rows d right)) p₁₂.0 in
    let p₁₄ = passes (not (sorted o (frame_rows c left) && sorted o (frame_rows d right))) Unsorted _ p p₁₂.1 in
    let s = and-true (sorted o (frame_rows c left)) (sorted o (frame_rows d right)) (not-false (sorted o (frame_rows c left) && sorted o (frame_rows d right)) p₁₄.0) in
    let p₁₇ = passes (bad_heights (row_count left) hl || bad_heights (row_count right) hr) BadHeights _ p p₁₄.1 in
    let b = or_both (bad_heights (row_count left) hl) (bad_heights (row_count right) hr) p₁₇.0 in
    let L = side c left hl t.0 b.0 in
    let R = side d right hr t.1 b.1 in
    let n = frames_count c (heights_of hl) (values_in c left) (marks_in c left) in
    let h : Planned o l (cut_into c left hl) (cut_into d right hr) outs = record {
      allowed = good_allowed o p₁.0 p₁₀.0 p₁₁.0;
      left_frames = L.frames;
      right_frames = R.frames;
      left_sorted = rw L.rows s.0;
      right_sorted = rw R.rows s.1;
      left_codes = rw L.rows k.0;
      right_codes = rw R.rows k.1;
      left_room = g.left_room;
      outputs = g.outputs;
      few_rights = rw R.rows (rows_few d right g.few_rights);
      few_lefts = omega (arith, n, heights_count hl, g.few_lefts);
    } in
    let q : figures o (cut_into c left hl) (cut_into d right hr) ≡ p = rw (L.cut, R.cut) (ap (figures_in p) p₁₇.1) in
    record {
      enough = rw q at (plans.enough o l r (cut_into c left hl) (cut_into d right hr) outs h);
      short = rw q at (plans.short o l r (cut_into c left hl) (cut_into d right hr) outs h);
      written = λ m. writes_all o l r (cut_into c left hl) (cut_into d right hr) outs h (rw q m) ∙ rw (L.rows, R.rows) refl;
    }
