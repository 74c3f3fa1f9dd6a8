-- The promises of the calls over takings. Assumes nothing.
use Rattle.frames.specs.declared.refusals.Refusal.{Refusal}
use Rattle.std.specs.Prelude.{Result, Err, Ok}
use mathlib.Core.Path.{◌≡◌, refl, ◌∙◌}
use mathlib.Core.Bool.{true, not, ◌&&◌}
use mathlib.Core.List.{List, [], ◌∷◌, map}
use Prim.Native.Nat.{ℕ, ◌+◌, ◌*◌, ◌≤◌}
use native.Mathlib.Omega.{arith}
use lib.Dec.{eqb}
use lib.IntN.{ℤ}
use lib.ListN.{length, drop, length-map, length-drop}
use lib.Seq.{length-take-le}
use Rattle.frames.specs.Cells.{Rows, Words}
use Rattle.frames.specs.Frame.{row_count, frame_words, is_frame, is_table, frame_rows, values_in, marks_in}
use Rattle.frames.proofs.FrameLaws.{table_parts}
use Rattle.frames.proofs.BoolLaws.{and-true}
use Rattle.frames.proofs.WordLaws.{part_behind}
use Rattle.order.specs.options.Options.{columns}
use Rattle.order.specs.declared.options.Options.{Options}
use Rattle.tables.specs.Table.{laid}
use Rattle.tables.proofs.TableLaws.{Wide, table_length}
use Rattle.tables.proofs.CellLaws.{rows_are_wide}
use Rattle.frames.specs.declared.refusals.Refusal.TheVariants.{BadFrame}
use Rattle.takings.specs.Subtotals.{Subtotal, add_all, row_of, subtotals_of}
use Rattle.takings.specs.Sales.{amounts_of}
use Rattle.takings.specs.Calls.{table_width, table_words, any_frame, rows_in, subtotals_in, sales_by, leave, add_answer, add_call, join_answer, join_call}
use Rattle.takings.specs.Promises.{Kept, Promises}
use Rattle.takings.specs.declared.Taken.{Taken}
use Rattle.takings.specs.Calls.{taken_of}
use Rattle.takings.proofs.SubtotalLaws.{Every, every_map, every_all, Unit-fine}
use Rattle.takings.proofs.OrdersLaw.{passed, not-false, past, add_told, join_told, rows_wide, by_fine}

-- The subtotals of rows that are wide enough have groups of `by` cells.
groups_wide : (o : Options) (rs : Rows) → Wide (table_width o) rs → Every (λ t. length t.group ≡ o.by) (subtotals_of o rs)
unfolding subtotals_of
groups_wide o [] h = tt
groups_wide o (r ∷ rs) h = (length-take-le o.by r (omega (arith, h.0)), groups_wide o rs h.1)

module _ (o : Options) (out : Words) where
  -- A call that leaves its answer and, where that is a table, the table's words.
  left_kept : (ts : List Subtotal) (a : Result Taken Refusal)
      → ((n : ℕ) (k : ℤ) → a ≡ Ok (taken_of n k) → (n ≡ length ts) × (frame_words n (table_width o) ≤ length out) × Every (λ t. length t.group ≡ o.by) ts)
      → Kept o out (leave o ts a out)
  unfolding laid
  left_kept ts (Err r) f = record { refused = λ r e. refl; rest = λ n k e. refl }
  left_kept ts (Ok t) f = record {
    refused = λ r e. let z : ◌≡◌ {A = ℕ} 0 1 = cc in absurd (omega arith);
    rest = λ m l e. behind m l e;
  }
    where
      behind : (m : ℕ) (l : ℤ) → ◌≡◌ {A = Result Taken Refusal} (Ok t) (Ok (taken_of m l)) → drop (frame_words m (table_width o)) (laid (table_words o ts) out) ≡ drop (frame_words m (table_width o)) out
      behind m l e =
          let g = f m l e in
          let s : length (map row_of ts) ≡ length ts = length-map ts row_of in
          let w = table_length (table_width o) (map row_of ts) (rows_wide o ts g.2) in
          let same : length (table_words o ts) ≡ frame_words m (table_width o) = w ∙ rw (s, ← g.0) in
          part_behind out 0 (table_words o ts) (length (table_words o ts)) (frame_words m (table_width o)) (omega arith) (omega arith) (omega (arith, same))

-- The rows of a table are as wide as it says.
table_wide : (c : ℕ) (f : Words) → is_table c f ≡ true → Wide c (frame_rows c f)
unfolding frame_rows
table_wide c f h =
    let e = (table_parts c f h).exact in
    let v : length (values_in c f) ≡ row_count f * c = length-take-le (row_count f * c) (drop 2 f) (rw (length-drop 2 f) (omega (arith, e))) in
    let m : length (marks_in c f) ≡ row_count f * c = length-drop (2 + row_count f * c) f ∙ omega (arith, e) in
    rows_are_wide c (row_count f) (values_in c f) (marks_in c f) (omega (arith, v)) (omega (arith, m))

-- The groups of a table that a call took.
table_groups : (o : Options) (t : Words) → is_table (table_width o) t ≡ true → Every (λ t. length t.group ≡ o.by) (subtotals_in o t)
table_groups o t h = groups_wide o (rows_in o t) (table_wide (table_width o) t h)

add_table : (o : Options) (table : Words) (k : ℤ) (left answer out : Words) {n : ℕ} {m : ℤ} → add_answer o table k left answer out ≡ Ok (taken_of n m) → is_table (table_width o) table ≡ true
unfolding add_answer
add_table o table k left answer out e =
    let five = is_table (table_width o) table && is_frame (columns o) left && any_frame answer && eqb (row_count left) (row_count answer) in
    let p = passed (not five) BadFrame _ (past o _ e) in
    let a = and-true (is_table (table_width o) table && is_frame (columns o) left && any_frame answer) (eqb (row_count left) (row_count answer)) (not-false five p.0) in
    let b = and-true (is_table (table_width o) table && is_frame (columns o) left) (any_frame answer) a.0 in
    (and-true (is_table (table_width o) table) (is_frame (columns o) left) b.0).0

join_tables : (o : Options) (table : Words) (k : ℤ) (other : Words) (l : ℤ) (out : Words) {n : ℕ} {m : ℤ} → join_answer o table k other l out ≡ Ok (taken_of n m)
    → (is_table (table_width o) table ≡ true) × (is_table (table_width o) other ≡ true)
unfolding join_answer
join_tables o table k other l out e =
    let p = passed (not (is_table (table_width o) table && is_table (table_width o) other)) BadFrame _ (past o _ e) in
    and-true (is_table (table_width o) table) (is_table (table_width o) other) (not-false (is_table (table_width o) table && is_table (table_width o) other) p.0)

pub promises : (o : Options) (table : Words) (k : ℤ) (out : Words) → Promises o table k out
unfolding add_call join_call
promises o table k out = record {
  add_kept = λ left answer. left_kept o out (add_all o (subtotals_in o table) (amounts_of (sales_by o left answer))) (add_answer o table k left answer out) (λ n m e.
      let r = add_told o table k left answer out e in (
        r.2.rows,
        rw r.2.rows r.2.room,
        every_all o (λ g. length g ≡ o.by) (subtotals_in o table) (amounts_of (sales_by o left answer)) (every_map (Unit-fine o) (λ t. length t.group ≡ o.by) (λ t h. h.1) (amounts_of (sales_by o left answer)) (by_fine o left answer r.0)) (table_groups o table (add_table o table k left answer out e)),
      ));
  join_kept = λ other l. left_kept o out (add_all o (subtotals_in o table) (subtotals_in o other)) (join_answer o table k other l out) (λ n m e.
      let r = join_told o table k other l out e in
      let t = join_tables o table k other l out e in (
        r.rows,
        rw r.rows r.room,
        every_all o (λ g. length g ≡ o.by) (subtotals_in o table) (subtotals_in o other) (table_groups o other t.1) (table_groups o table t.0),
      ));
}
