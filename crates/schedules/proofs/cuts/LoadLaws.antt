-- A pair's frames, cut from the tables' values and marks, are the frames of its rows; where the call is not refused, they fit. Assumes nothing.
use Rattle.std.specs.Prelude.{Result, Ok, Err}
use mathlib.Core.Path.{◌≡◌, refl, ap, ◌∙◌}
use mathlib.Core.Bool.{Bool, true, false, cond, not, ◌&&◌, ◌||◌}
use mathlib.Core.List.{List, [], ◌∷◌}
use Prim.Native.Nat.{ℕ, zero, suc, ◌+◌, ◌-◌, ◌*◌, ◌/◌, ◌%◌, ◌^◌, ◌≤◌, ◌<◌}
use native.Mathlib.Nat.{mul-le-mul_right}
use native.Mathlib.Omega.{arith}
use borrow.Author.Tests.{ltb-false, not-false, eqb-false}
use lib.Dec.{ltb, eqb}
use lib.ListN.{length, take, drop, length-append, length-drop, take-append-drop, replicate}
use lib.Seq.{length-take-le}
use Rattle.frames.specs.Cells.{Rows, Words}
use Rattle.frames.specs.Frame.{row_count, frame_words, pairs_fine, is_frame, is_table, frame_rows}
use Rattle.order.specs.options.Options.{columns, right_columns, answer_columns, bad_options, many_carried, bad_ranked, refused_options}
use Rattle.order.specs.Order.{sorted}
use Rattle.order.specs.Listed.{lacks_code}
use Rattle.order.specs.declared.options.Options.{Options}
use Rattle.order.proofs.options.OptionLaws.{good_allowed, or_both}
use Rattle.order.proofs.SortedLaws.{sorted_take, sorted_drop}
use Rattle.order.proofs.ListedLaws.{lacks_parts}
use Rattle.frames.proofs.BoolLaws.{and-true}
use Rattle.frames.proofs.FrameLaws.{table_parts}
use Rattle.frames.proofs.WordLaws.{rows_length, rows_drop}
use Rattle.frames.specs.outcomes.Answers.{most_rows}
use Rattle.lists.specs.Lists.{back_to_back}
use Rattle.lists.specs.WholeTables.{Each, ends, pairs}
use Rattle.planning.specs.Plan.{plan}
use Rattle.planning.specs.Heights.{total, full_heights, full_frames}
use Rattle.planning.proofs.HeightLaws.{table_values_lem, table_marks, rows_take, full_total, full_few}
use Rattle.schedules.specs.plan.Table.{frame_from, frames_by}
use Rattle.schedules.proofs.plan.TableLaws.{fine_drop, table_frames, framed}
use Rattle.schedules.proofs.plan.TablePlanned.{frames_count}
use Rattle.cutting.specs.boundaries.Boundaries.{cut_at, bad_boundaries}
use Rattle.cutting.specs.cutpairs.Cut.{Pair, before, behind, cut_by}
use Rattle.schedules.specs.cuts.Scheduled.{Fits}
use Rattle.cutting.specs.cutcall.Calls.{groups_in, then_judged}
use Rattle.cutting.specs.cutpairs.Driver.{words_for, too_short, any_short, tables_in, input_judged, pairs_judged, join_answer}
use Rattle.schedules.specs.cuts.Loads.{Stretch, rows_within, whole_of, first_of, others_of, frames_of, Lent, load_of, loads, LentWell, DriverFits, DriverWrites}
use Rattle.frames.specs.declared.refusals.Refusal.{Refusal}
use Rattle.frames.specs.declared.refusals.Refusal.TheVariants.{BadOptions, TooManyCarried, BadRanks, BadFrame, UnknownCode, NoRoom, Unsorted, BadBoundaries}
use Rattle.schedules.proofs.cuts.Uncut.{uncut_scheduled}
use Rattle.cutting.proofs.boundaries.PlaceLaws.{cut_within}

-- Frames of these heights have as many words as are counted for them.
frame_words_lem : (c : ℕ) (hs : List ℕ) (vs ms : Words) → total hs * c ≤ length vs → total hs * c ≤ length ms → length (back_to_back (frames_by c hs vs ms)) ≡ words_for c hs
unfolding frames_by total words_for back_to_back
frame_words_lem c [] vs ms a b = refl
frame_words_lem c (h ∷ hs) vs ms a b =
    let s : (h + total hs) * c ≡ h * c + total hs * c = omega arith in
    let av : h * c + total hs * c ≤ length vs = rw s at a in
    let bm : h * c + total hs * c ≤ length ms = rw s at b in
    let lv : length (take (h * c) vs) ≡ h * c = length-take-le (h * c) vs (omega arith) in
    let lm : length (take (h * c) ms) ≡ h * c = length-take-le (h * c) ms (omega arith) in
    let ih = frame_words_lem c hs (drop (h * c) vs) (drop (h * c) ms) (rw (length-drop (h * c) vs) (omega arith)) (rw (length-drop (h * c) ms) (omega arith)) in
    let k₁ = length-append (take (h * c) vs) (take (h * c) ms) in
    let k₂ = length-append (frame_from c h (take (h * c) vs) (take (h * c) ms)) (back_to_back (frames_by c hs (drop (h * c) vs) (drop (h * c) ms))) in
    k₂ ∙ omega (arith, k₁, lv, lm, ih)

-- As many full frames as rows at most.
count_full : (k m : ℕ) → length (replicate k m) ≡ k
count_full zero m = refl
count_full (suc k) m = ap suc (count_full k m)

count_rest : (m : ℕ) → length (cond (eqb m 0) [] (m ∷ [])) ≤ m
count_rest m = by (eqb m 0) refl m refl
  where
    by : (t : Bool) → eqb m 0 ≡ t → (k : ℕ) → m ≡ k → length (cond t [] (m ∷ [])) ≤ m
    by true e k q = omega arith
    by false e zero q = absurd (eqb-false m 0 e q)
    by false e (suc k) q = omega arith

full_count : (n : ℕ) → length (full_heights n) ≤ n
unfolding full_heights
full_count n =
    omega (arith, length-append (replicate (n / 4096) 4096) (cond (eqb (n % 4096) 0) [] (n % 4096 ∷ [])), count_full (n / 4096) 4096, count_rest (n % 4096))

-- A stretch whose words are there.
record Fine (c : ℕ) (s : Stretch) : Type 0 where
  values : s.rows * c ≤ length s.values
  marks : s.rows * c ≤ length s.marks
  fits : pairs_fine s.values s.marks ≡ true

first_fine : (c a : ℕ) (s : Stretch) → a ≤ s.rows → Fine c s → Fine c (first_of a s)
first_fine c a s h f = let m : a * c ≤ s.rows * c = mul-le-mul_right {m = a} {n = s.rows} c h in record { values = omega (arith, m, f.values); marks = omega (arith, m, f.marks); fits = f.fits }

others_fine : (c a : ℕ) (s : Stretch) → a ≤ s.rows → Fine c s → Fine c (others_of c a s)
others_fine c a s h f =
    let n : s.rows ≡ a + (s.rows - a) = omega arith in
    let m : s.rows * c ≡ a * c + (s.rows - a) * c = ap (λ (k : ℕ). k * c) n ∙ omega arith in
    record {
      values = rw (length-drop (a * c) s.values) (omega (arith, m, f.values));
      marks = rw (length-drop (a * c) s.marks) (omega (arith, m, f.marks));
      fits = fine_drop (a * c) s.values s.marks f.fits;
    }

-- Rows that are sorted, and of which the list of ranks lacks no value; so are the first i of them, and the others.
record Sound (o : Options) (rs : Rows) : Type 0 where
  in_order : sorted o rs ≡ true
  codes : lacks_code o rs ≡ false

sound_take : (o : Options) (i : ℕ) (rs : Rows) → Sound o rs → Sound o (take i rs)
sound_take o i rs s = record { in_order = sorted_take o i rs s.in_order; codes = (lacks_parts o (take i rs) (drop i rs) (rw (take-append-drop i rs) s.codes)).0 }

sound_drop : (o : Options) (i : ℕ) (rs : Rows) → Sound o rs → Sound o (drop i rs)
sound_drop o i rs s = record { in_order = sorted_drop o i rs s.in_order; codes = (lacks_parts o (take i rs) (drop i rs) (rw (take-append-drop i rs) s.codes)).1 }

-- ---- one pair
module _ (o : Options) (allowed : refused_options o ≡ false) (l r : ℕ) where
  -- The rows of two stretches.
  abbrev pair_of : Stretch → Stretch → Pair
  pair_of x y = record { left = rows_within (columns o) x; right = rows_within (right_columns o) y }

  pair_fits : (x y : Stretch) → Fine (columns o) x → Fine (right_columns o) y → Sound o (rows_within (columns o) x) → Sound o (rows_within (right_columns o) y) → x.rows < 2 ^ 63 → y.rows ≤ most_rows
      → too_short o l r (pair_of x y) ≡ false → (e : Lent) → length e.left ≡ l → length e.right ≡ r
      → Each (λ f out. frame_words (row_count f) (answer_columns o) ≤ length out) (frames_of (columns o) x) e.outs → Fits o (pair_of x y) (load_of o x y e)
  unfolding too_short
  pair_fits x y fx fy sx sy nx ny short e el er outs =
      let c = columns o in
      let d = right_columns o in
      let tx = full_total x.rows in
      let ty = full_total y.rows in
      let mx : total (full_heights x.rows) * c ≡ x.rows * c = ap (λ (k : ℕ). k * c) tx in
      let my : total (full_heights y.rows) * d ≡ y.rows * d = ap (λ (k : ℕ). k * d) ty in
      let X = table_frames c (full_heights x.rows) x.values x.marks (full_few x.rows) (omega (arith, mx, fx.values)) (omega (arith, mx, fx.marks)) fx.fits in
      let Y = table_frames d (full_heights y.rows) y.values y.marks (full_few y.rows) (omega (arith, my, fy.values)) (omega (arith, my, fy.marks)) fy.fits in
      let FX = framed c (full_heights x.rows) x.values x.marks (omega (arith, mx, fx.values)) (omega (arith, mx, fx.marks)) in
      let FY = framed d (full_heights y.rows) y.values y.marks (omega (arith, my, fy.values)) (omega (arith, my, fy.marks)) in
      let WX = frame_words_lem c (full_heights x.rows) x.values x.marks (omega (arith, mx, fx.values)) (omega (arith, mx, fx.marks)) in
      let rx = rows_length c x.rows x.values x.marks in
      let ry = rows_length d y.rows y.values y.marks in
      let X₁ = rw tx at X.1 in
      let Y₁ = rw ty at Y.1 in
      let s = or_both (ltb l (words_for c (full_heights (length (rows_within c x))))) (ltb (r / (2 * d)) (plan o (full_frames (rows_within c x)) (full_frames (rows_within d y))).rows) short in
      let s₁ = rw rx at (ltb-false l (words_for c (full_heights (length (rows_within c x)))) s.0) in
      let s₂ = rw (rx, ry) at (ltb-false (r / (2 * d)) (plan o (full_frames (rows_within c x)) (full_frames (rows_within d y))).rows s.1) in
      record {
        planned = record {
          allowed = allowed;
          left_frames = X.0;
          right_frames = Y.0;
          left_sorted = rw X₁ sx.in_order;
          right_sorted = rw Y₁ sy.in_order;
          left_codes = rw X₁ sx.codes;
          right_codes = rw Y₁ sy.codes;
          left_room = omega (arith, WX, s₁, el);
          outputs = outs;
          few_rights = rw (Y₁, ry) ny;
          few_lefts = omega (arith, frames_count c (full_heights x.rows) x.values x.marks, full_count x.rows, nx);
        };
        room = rw (FX, FY, tx, ty, er) s₂;
        left = X₁;
        right = Y₁;
      }

  all_fit : (gs : Rows) (x y : Stretch) → Fine (columns o) x → Fine (right_columns o) y → Sound o (rows_within (columns o) x) → Sound o (rows_within (right_columns o) y) → x.rows < 2 ^ 63 → y.rows ≤ most_rows
      → any_short o l r (cut_by o gs (pair_of x y)) ≡ false → (es : List Lent) → LentWell o l r gs x es → Each (Fits o) (cut_by o gs (pair_of x y)) (loads o gs x y es)
  unfolding cut_by any_short LentWell loads
  all_fit [] x y fx fy sx sy nx ny a [] w = absurd w
  all_fit [] x y fx fy sx sy nx ny a (e ∷ es) w = pairs (pair_fits x y fx fy sx sy nx ny (or_both (too_short o l r (pair_of x y)) false a).0 e w.0 w.1 w.2) ends
  all_fit (g ∷ gs) x y fx fy sx sy nx ny a [] w = absurd w
  all_fit (g ∷ gs) x y fx fy sx sy nx ny a (e ∷ es) w =
      let c = columns o in
      let d = right_columns o in
      let i = cut_at o g (rows_within c x) in
      let k = cut_at o g (rows_within d y) in
      let hi : i ≤ x.rows = omega (arith, cut_within o g (rows_within c x), rows_length c x.rows x.values x.marks) in
      let hk : k ≤ y.rows = omega (arith, cut_within o g (rows_within d y), rows_length d y.rows y.values y.marks) in
      let x₁ : rows_within c (first_of i x) ≡ take i (rows_within c x) = rows_take c x.rows i x.values x.marks hi in
      let y₁ : rows_within d (first_of k y) ≡ take k (rows_within d y) = rows_take d y.rows k y.values y.marks hk in
      let x₂ : rows_within c (others_of c i x) ≡ drop i (rows_within c x) = rows_drop c x.rows i x.values x.marks hi in
      let y₂ : rows_within d (others_of d k y) ≡ drop k (rows_within d y) = rows_drop d y.rows k y.values y.marks hk in
      let p : Pair = pair_of x y in
      let p₁ : pair_of (first_of i x) (first_of k y) ≡ before o g p = rw (x₁, y₁) refl in
      let p₂ : pair_of (others_of c i x) (others_of d k y) ≡ behind o g p = rw (x₂, y₂) refl in
      let q = or_both (too_short o l r (before o g p)) (any_short o l r (cut_by o gs (behind o g p))) a in
      let f₁ = pair_fits (first_of i x) (first_of k y) (first_fine c i x hi fx) (first_fine d k y hk fy) (rw x₁ (sound_take o i (rows_within c x) sx)) (rw y₁ (sound_take o k (rows_within d y) sy)) (omega arith) (omega arith) (rw p₁ q.0) e w.0 w.1 w.2 in
      let f₂ = all_fit gs (others_of c i x) (others_of d k y) (others_fine c i x hi fx) (others_fine d k y hk fy) (rw x₂ (sound_drop o i (rows_within c x) sx)) (rw y₂ (sound_drop o k (rows_within d y) sy)) (omega arith) (omega arith) (rw p₂ q.1) es w.3 in
      pairs (rw p₁ at f₁) (rw p₂ at f₂)

-- ---- the whole
whole_fine : (c : ℕ) (f : Words) → is_table c f ≡ true → Fine c (whole_of c f)
whole_fine c f t = record { values = omega (arith, table_values_lem c f t); marks = omega (arith, table_marks c f t); fits = (table_parts c f t).fine }

-- The chain of refusals, passed, of both parts.
accepts : (t : Bool) (r : Refusal) (k : Result Unit Refusal) → cond t (Err r) k ≡ Ok tt → (t ≡ false) × (k ≡ Ok tt)
accepts true r k e = (cc, cc)
accepts false r k e = (refl, e)

writes : (t : Bool) (r : Refusal) (k : Result ℕ Refusal) (n : ℕ) → cond t (Err r) k ≡ Ok n → (t ≡ false) × (k ≡ Ok n)
writes true r k n e = (cc, cc)
writes false r k n e = (refl, e)

both_judged : (t : Result Unit Refusal) (k : Result ℕ Refusal) (n : ℕ) → then_judged t k ≡ Ok n → (t ≡ Ok tt) × (k ≡ Ok n)
both_judged (Ok tt) k n e = (refl, e)
both_judged (Err r) k n e = (cc, cc)

-- What is known where the call is not refused.
record Passed (o : Options) (left right : Words) (l r : ℕ) (gs : Rows) : Type 0 where
  allowed : refused_options o ≡ false
  left_table : is_table (columns o) left ≡ true
  right_table : is_table (right_columns o) right ≡ true
  left_sound : Sound o (tables_in o left right).left
  right_sound : Sound o (tables_in o left right).right
  room : any_short o l r (cut_by o gs (tables_in o left right)) ≡ false

passed : (o : Options) (left right boundaries : Words) (l r n rows : ℕ) → join_answer o left right boundaries l r n ≡ Ok rows → Passed o left right l r (groups_in o boundaries)
unfolding join_answer input_judged pairs_judged
passed o left right boundaries l r n rows e =
    let c = columns o in
    let d = right_columns o in
    let t = tables_in o left right in
    let gs = groups_in o boundaries in
    let j = both_judged (input_judged o left right boundaries) (pairs_judged o t gs l r n) rows e in
    let p₁ = accepts (bad_options o) BadOptions _ j.0 in
    let p₁₀ = accepts (many_carried o) TooManyCarried _ p₁.1 in
    let p₁₁ = accepts (bad_ranked o) BadRanks _ p₁₀.1 in
    let p₅ = accepts (not (is_table c left && is_table d right && is_frame o.by boundaries)) BadFrame _ p₁₁.1 in
    let u = and-true (is_table c left && is_table d right) (is_frame o.by boundaries) (not-false (is_table c left && is_table d right && is_frame o.by boundaries) p₅.0) in
    let v = and-true (is_table c left) (is_table d right) u.0 in
    let p₁₂ = accepts (lacks_code o t.left || lacks_code o t.right || lacks_code o gs) UnknownCode _ p₅.1 in
    let k = or_both (lacks_code o t.left) (lacks_code o t.right) (or_both (lacks_code o t.left || lacks_code o t.right) (lacks_code o gs) p₁₂.0).0 in
    let p₁₄ = writes (not (sorted o t.left && sorted o t.right)) Unsorted _ rows j.1 in
    let s = and-true (sorted o t.left) (sorted o t.right) (not-false (sorted o t.left && sorted o t.right) p₁₄.0) in
    let p₁₈ = writes (bad_boundaries o gs) BadBoundaries _ rows p₁₄.1 in
    let words = frame_words (length t.left) (answer_columns o) in
    let p₆ = writes (any_short o l r (cut_by o gs t) || ltb n words) NoRoom _ rows p₁₈.1 in
    record {
      allowed = good_allowed o p₁.0 p₁₀.0 p₁₁.0;
      left_table = v.0;
      right_table = v.1;
      left_sound = record { in_order = s.0; codes = k.0 };
      right_sound = record { in_order = s.1; codes = k.1 };
      room = (or_both (any_short o l r (cut_by o gs t)) (ltb n words) p₆.0).0;
    }

pub driver_fits : DriverFits
unfolding frame_rows
driver_fits o left right boundaries l r n rows e nl nr es w =
    let c = columns o in
    let d = right_columns o in
    let p = passed o left right boundaries l r n rows e in
    all_fit o p.allowed l r (groups_in o boundaries) (whole_of c left) (whole_of d right) (whole_fine c left p.left_table) (whole_fine d right p.right_table) p.left_sound p.right_sound nl nr p.room es w

pub driver_writes : DriverWrites
driver_writes o left right boundaries l r n rows e nl nr es w =
    let p = passed o left right boundaries l r n rows e in
    uncut_scheduled o (groups_in o boundaries) (tables_in o left right) (p.left_sound.in_order, p.right_sound.in_order)
    (loads o (groups_in o boundaries) (whole_of (columns o) left) (whole_of (right_columns o) right) es) (driver_fits o left right boundaries l r n rows e nl nr es w)
