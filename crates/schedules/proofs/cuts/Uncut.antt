-- Tables cut by any list of boundaries, each pair joined apart: the join of the uncut tables, as tables and as lists of calls. Assumes nothing.
use Rattle.std.specs.Prelude.{Option}
use mathlib.Core.Path.{◌≡◌, refl, sym, ap, ◌∙◌}
use mathlib.Core.Bool.{false}
use mathlib.Core.List.{List, [], ◌∷◌, ◌++◌, append-nil, map, map-append, map-map}
use Prim.Native.Nat.{ℕ, ◌+◌}
use lib.ListN.{length, take, drop, take-append-drop}
use lib.Seq.{length-take-le}
use Rattle.frames.specs.Cells.{Cell, Rows}
use Rattle.order.specs.options.Options.{columns, refused_options}
use Rattle.order.specs.declared.options.Options.{Options}
use Rattle.order.proofs.SortedLaws.{ordered, sorted_drop}
use Rattle.matching.specs.Match.{whole_table}
use Rattle.lists.specs.WholeTables.{due_over, Each, ends, pairs, turned_rows}
use Rattle.lists.specs.Lists.{rows_in}
use Rattle.lists.proofs.WholeTableTheorem.{whole_table_theorem}
use Rattle.lists.proofs.isolation.Isolated.{all_turned}
use Rattle.cutting.specs.boundaries.Boundaries.{cut_at}
use Rattle.cutting.specs.cutpairs.Cut.{Pair, before, behind, cut_by, joined}
use Rattle.schedules.specs.cuts.Appended.{later, appended}
use Rattle.schedules.specs.cuts.Apart.{BothSorted, UncutTables, Job, Joins, written, all_written, UncutCalls}
use Rattle.schedules.specs.cuts.Scheduled.{Load, Fits, scheduled, all_scheduled, UncutScheduled}
use Rattle.schedules.proofs.plan.Ends.{writes_all}
use Rattle.schedules.proofs.cuts.DueLaws.{map_agree, all_to, later_twice, later_zero, all_due, uncut_due}
use Rattle.cutting.proofs.boundaries.PlaceLaws.{cut_within}
use Rattle.schedules.proofs.cuts.CutLaws.{cut_before, cut_behind, match_before, match_behind}

later_later : (n k : ℕ) (ms : List (Option ℕ)) → map (later (n + k)) ms ≡ map (later n) (map (later k) ms)
later_later n k [] = refl
later_later n k (m ∷ ms) = rw (later_twice n k m, later_later n k ms)

later_none : (ms : List (Option ℕ)) → map (later 0) ms ≡ ms
later_none [] = refl
later_none (m ∷ ms) = rw (later_zero m, later_none ms)

-- One cut.
module _ (o : Options) (g : List Cell) (p : Pair) (s : BothSorted o p) where
  abbrev a : ℕ
  a = cut_at o g p.left

  abbrev b : ℕ
  b = cut_at o g p.right

  one_cut : joined o p ≡ joined o (before o g p) ++ map (later b) (joined o (behind o g p))
  unfolding joined
  one_cut =
      ap (map (whole_table o p.right)) (sym (take-append-drop a p.left))
      ∙ map-append (whole_table o p.right) (take a p.left) (drop a p.left)
      ∙ rw (
        map_agree (whole_table o p.right) (whole_table o (take b p.right)) (take a p.left) (all_to _ _ (λ x l. match_before o g p.right s.1 x l) (take a p.left) (cut_before o g p.left)),
        map_agree (whole_table o p.right) (λ x. later b (whole_table o (drop b p.right) x)) (drop a p.left) (all_to _ _ (λ x h. match_behind o g p.right s.1 x h) (drop a p.left) (cut_behind o g p.left (ordered o p.left s.0))),
        map-map (later b) (whole_table o (drop b p.right)) (drop a p.left),
      ) refl

  behind_sorted : BothSorted o (behind o g p)
  behind_sorted = (sorted_drop o a p.left s.0, sorted_drop o b p.right s.1)

  before_count : length (before o g p).right ≡ b
  before_count = length-take-le b p.right (cut_within o g p.right)

-- All of them.
cuts : (o : Options) (gs : Rows) (n : ℕ) (p : Pair) → BothSorted o p → appended o n (cut_by o gs p) ≡ map (later n) (joined o p)
unfolding appended cut_by
cuts o [] n p s = append-nil (map (later n) (joined o p))
cuts o (g ∷ gs) n p s =
    ap (λ (ms : List (Option ℕ)). map (later n) (joined o (before o g p)) ++ ms)
    (ap (λ (k : ℕ). appended o (n + k) (cut_by o gs (behind o g p))) (before_count o g p s) ∙ cuts o gs (n + b o g p s) (behind o g p) (behind_sorted o g p s) ∙ later_later n (b o g p s) (joined o (behind o g p)))
    ∙ sym (map-append (later n) (joined o (before o g p)) (map (later (b o g p s)) (joined o (behind o g p))))
    ∙ ap (map (later n)) (sym (one_cut o g p s))

pub uncut_tables : UncutTables
uncut_tables o gs p s = cuts o gs 0 p s ∙ later_none (joined o p)

-- ---- lists of calls
module _ (o : Options) (allowed : refused_options o ≡ false) where
  -- A job writes what is due for its pair, by the whole-table theorem.
  job_writes : (p : Pair) (j : Job) → Joins o p j → written o j ≡ map (due_over o p.right) p.left
  job_writes p j w =
      (whole_table_theorem o allowed j.left j.right j.calls).whole_table w.finished.declared
      ∙ ap (λ (z : Rows). map (due_over o z) (turned_rows o j.left j.right j.calls)) w.right
      ∙ ap (map (due_over o p.right)) (all_turned o j.left j.right j.calls w.finished ∙ w.left)

  jobs_write : (n : ℕ) {ps : List Pair} {js : List Job} → Each (Joins o) ps js → all_written o n ps js ≡ all_due o n ps
  unfolding all_written all_due
  jobs_write n ends = refl
  jobs_write n (pairs {a} {b} {xs} {ys} w ws) = rw (job_writes a b w, jobs_write (n + length a.right) ws) refl

pub uncut_calls : UncutCalls
uncut_calls o allowed gs p whole w js ws =
    let d = w.finished.declared in
    let s : BothSorted o p = (rw w.left at d.0, rw w.right at d.1) in
    jobs_write o allowed 0 ws ∙ uncut_due o gs p s ∙ sym (job_writes o allowed p whole w)

-- ---- each pair by its schedule
module _ (o : Options) where
  load_writes : (p : Pair) (j : Load) → Fits o p j → scheduled o j ≡ map (due_over o p.right) p.left
  load_writes p j h =
      writes_all o j.left j.right j.lefts j.rights j.outs h.planned h.room
      ∙ ap (λ (z : Rows). map (due_over o z) (rows_in (columns o) j.lefts)) h.right ∙ ap (map (due_over o p.right)) h.left

  loads_write : (n : ℕ) {ps : List Pair} {js : List Load} → Each (Fits o) ps js → all_scheduled o n ps js ≡ all_due o n ps
  unfolding all_scheduled all_due
  loads_write n ends = refl
  loads_write n (pairs {a} {b} {xs} {ys} h hs) = rw (load_writes a b h, loads_write (n + length a.right) hs) refl

pub uncut_scheduled : UncutScheduled
uncut_scheduled o gs p s js hs = loads_write o 0 hs ∙ uncut_due o gs p s
