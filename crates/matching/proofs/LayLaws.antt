-- The words of the choices, laid into an answer: of a run's rows one by one, of runs one behind the other. Assumes nothing.
use Rattle.std.specs.Prelude.{Option}
use mathlib.Core.Path.{◌≡◌, refl, ap, ◌∙◌}
use mathlib.Core.List.{List, [], ◌∷◌, ◌++◌, map}
use Prim.Native.Nat.{ℕ, suc, ◌+◌, ◌*◌, ◌<◌}
use native.Mathlib.Numerals.{add-one}
use native.Mathlib.Nat.{add-zero}
use native.Mathlib.Omega.{arith}
use borrow.Author.Tests.{eq-eqb, ne_eqb}
use lib.ListN.{length, set, length-map}
use Rattle.frames.specs.Cells.{Cell, Rows, Words, rows_of, row_from}
use Rattle.order.specs.declared.options.Options.{Options}
use Rattle.matching.specs.Match.{match_in}
use Rattle.matching.specs.Groups.{runs, by_runs, match_frame}
use Rattle.matching.specs.Answer.{number_word, choice_mark}
use Rattle.matching.specs.Stretches.{between, run_length, lay}
use Rattle.matching.specs.Loops.{Serves}
use Rattle.matching.specs.declared.RunCursor.{RunCursor}
use Rattle.matching.proofs.WalkLaws.{between_all, between_more, between_none, between_length, run_up, run_first, run_head, runs_past}

module _ (m : ℕ) where
  pub lay_append : (i : ℕ) (A B : List (Option ℕ)) (out : Words) → lay m i (A ++ B) out ≡ lay m (i + length A) B (lay m i A out)
  unfolding lay
  lay_append i [] B out = rw add-zero
  lay_append i (a ∷ A) B out =
      let z : i + suc (length A) ≡ suc i + length A = omega arith in
      rw z (lay_append (suc i) A B (set (set out (2 + i) (number_word a)) (2 + m + i) (choice_mark a)))

  -- One row more of from..to.
  module _ (f : List Cell → Option ℕ) (w : ℕ) (vs ms : Words) where
    pub lay_more : (i to : ℕ) (out : Words) → i < to → lay m i (map f (between w i to vs ms)) out
        ≡ lay m (i + 1) (map f (between w (i + 1) to vs ms)) (set (set out (2 + i) (number_word (f (row_from w (i * w) vs ms)))) (2 + m + i) (choice_mark (f (row_from w (i * w) vs ms))))
    unfolding lay
    lay_more i to out h = rw (between_more w vs ms i to h, add-one i)

    pub lay_done : (i : ℕ) (out : Words) → lay m i (map f (between w i i vs ms)) out ≡ out
    unfolding lay
    lay_done i out = rw (between_none w vs ms i)

  pub lay_none : (i : ℕ) (out : Words) → lay m i [] out ≡ out
  unfolding lay
  lay_none i out = refl

-- ---- the left runs from row i on, with the cursor at row `at` of the right rows
module _ (o : Options) (number m wl nl : ℕ) (lv lm : Words) (wr nr : ℕ) (rv rm : Words) where
  abbrev pub groups_from : ℕ → ℕ → List (Option ℕ)
  groups_from at i = by_runs o (number + at) (runs o (between wr at nr rv rm)) (runs o (between wl i nl lv lm))

  pub groups_all : by_runs o number (runs o (rows_of wr nr rv rm)) (runs o (rows_of wl nl lv lm)) ≡ groups_from 0 0
  groups_all =
      let z : number + 0 ≡ number = omega arith in
      rw (z, between_all wr rv rm nr, between_all wl lv lm nl)

  -- The run i..e is laid, over what the cursor serves.
  pub groups_more : (at i e : ℕ) (r : RunCursor) (out : Words) → i < nl → e ≡ i + run_length o (between wl i nl lv lm) → Serves o wr nr rv rm at (row_from wl (i * wl) lv lm) r
      → lay m i (groups_from at i) out
      ≡ lay m e (groups_from r.at e) (lay m i (map (match_in o (number + r.at) (between wr r.at r.used rv rm)) (between wl i e lv lm)) out)
  groups_more at i e r out h q s =
      let g : Rows = between wl i e lv lm in
      let f = match_in o (number + r.at) (between wr r.at r.used rv rm) in
      let u = run_up o wl nl lv lm i h in
      let n : i + length (map f g) ≡ e = (let l = length-map g f in let k = between_length wl lv lm i e in omega arith) in
      ap (λ (ls : List Rows). lay m i (by_runs o (number + at) (runs o (between wr at nr rv rm)) ls) out) (run_first o wl nl lv lm i e h q)
      ∙ ap (λ (ks : List (Option ℕ)). lay m i ks out) (s.step number g (runs o (between wl e nl lv lm)) (run_head o [] wl nl lv lm i e h q))
      ∙ lay_append m i (map f g) (groups_from r.at e) out
      ∙ ap (λ (k : ℕ). lay m k (groups_from r.at e) (lay m i (map f g) out)) n

  pub groups_end : (at : ℕ) (out : Words) → lay m nl (groups_from at nl) out ≡ out
  unfolding by_runs lay
  groups_end at out = rw (runs_past o wl nl lv lm)

  -- ---- the frame: with no by-columns one run, all against all
  pub frame_plain : o.by ≡ 0 → map (match_in o (number + 0) (between wr 0 nr rv rm)) (between wl 0 nl lv lm) ≡ match_frame o number (rows_of wr nr rv rm) (rows_of wl nl lv lm)
  unfolding match_frame
  frame_plain e =
      let z : number + 0 ≡ number = omega arith in
      rw (eq-eqb o.by 0 e, z, between_all wr rv rm nr, between_all wl lv lm nl)

  pub frame_grouped : (o.by ≡ 0 → ⊥) → by_runs o number (runs o (rows_of wr nr rv rm)) (runs o (rows_of wl nl lv lm)) ≡ match_frame o number (rows_of wr nr rv rm) (rows_of wl nl lv lm)
  unfolding match_frame
  frame_grouped e = rw (ne_eqb o.by 0 e)
