-- From a fresh join, over any list of calls, sorted or not: a fault at the split comes only together with unsorted held rows. Assumes nothing.
use Rattle.frames.specs.declared.outcomes.Turn.TheVariants.{Wrote, WantsRight, Idle}
use Rattle.frames.specs.declared.outcomes.Turn.{Turn}
use Rattle.std.specs.Prelude.{Result, Ok, Err}
use mathlib.Core.Path.{◌≡◌, refl, sym, ap, ◌∙◌}
use mathlib.Core.Bool.{Bool, true, false, not, ◌&&◌, ◌||◌, or-false}
use mathlib.Core.List.{List, [], ◌∷◌, ◌++◌, append-nil, append_assoc}
use Prim.Native.Nat.{ℕ, ◌+◌, ◌-◌, ◌≤◌}
use native.Mathlib.Omega.{arith}
use lib.ListN.{length, take, drop, take-append-drop}
use lib.Seq.{drop-append-le, drop-drop}
use Rattle.frames.specs.Cells.{Rows, Words}
use Rattle.frames.specs.Frame.{frame_rows}
use Rattle.order.specs.options.Options.{right_columns, refused_options, is_on}
use Rattle.order.specs.Order.{sorted}
use Rattle.order.specs.Keyed.{recall, remember_last}
use Rattle.order.specs.declared.options.Options.{Options}
use Rattle.order.specs.declared.Row.{Row}
use Rattle.order.proofs.SortedLaws.{All, all_cut}
use Rattle.searching.specs.Reach.{prune_by, bad_split}
use Rattle.node.specs.declared.Join.{Join}
use Rattle.frames.specs.declared.outcomes.PortState.{PortState}
use Rattle.frames.proofs.refusals.RefusalLaws.{marked_ind}
use Rattle.frames.specs.declared.refusals.Refusal.{Refusal}
use Rattle.frames.specs.declared.outcomes.Ports.{Ports}
use Rattle.node.specs.State.{ended_right, state_at, marked_failed, held_of}
use Rattle.frames.specs.outcomes.Answers.{is_done}
use Rattle.node.specs.Calls.{left_answer, left_call, queued, right_answer, right_call, pushed_right, end_answer, end_call, ports_answer, ports_call, ports_state, turn_answer, turn_call, turned, dropped, dequeued, spoiled}
use Rattle.matchframe.specs.turnrows.Prunes.{bad_right, first_prune, remembered, kept_rows, last_prune}
use Rattle.matching.specs.Answer.{answered}
use Rattle.lists.specs.Lists.{Call, left, right, end, ports, turn, Event, on_left, on_right, on_end, on_ports, on_turn, World, start, step, events, final, right_in, right_frames, rows_in, left_frames, outputs, is_right_ended}
use Rattle.lists.specs.SplitAlone.{held_after, remembered_after, SplitsAlone}
use Rattle.lists.proofs.ListLaws.{right_append, ended_append, rows_in_append}
use Rattle.lists.proofs.Invariant.{Inv, right_passed}
use Rattle.lists.proofs.Turn.{passed, left_by, matched_by, held, held_is, rows, answer_is, turned_is, no_write}
use Rattle.lists.proofs.Sound.{rows_in_wide}
use Rattle.lists.proofs.Steps.{inv_step, inv_start, inv_list}
use Rattle.lists.proofs.SplitAlone.{Low, split_only, low_push, low_turn}

-- With the check on: what is remembered of right is low.
abbrev pub LowAt : Options → List Event → World → Type 0
LowAt o es w = is_on o.check ≡ true → Low o (is_right_ended es) w.join.last_right (drop w.join.pruned (rows_in (right_columns o) (right_frames es)))

low_more : (o : Options) (ended now : Bool) (m : Row) (held : Rows) → Low o ended m held → (ended ≡ true → now ≡ true) → Low o now m held
low_more o true now m held L q = record { empty = λ z n. absurd (let e : false ≡ true = sym n ∙ q refl in let x : ◌≡◌ {A = ℕ} 0 1 = cc in omega arith); first = L.first }
low_more o false now m held L q = record { empty = λ z n. L.empty z refl; first = L.first }

wide_drop : (c n : ℕ) (rs : Rows) → All (λ r. length r ≡ c) rs → All (λ r. length r ≡ c) (drop n rs)
wide_drop c n rs h = (all_cut (λ r. length r ≡ c) (take n rs) (drop n rs) (rw (take-append-drop n rs) h)).1

-- ---- a turn that writes
not_or : (a b : Bool) → (not a || b) ≡ false → a ≡ true
not_or true b e = refl
not_or false b e = let z : ◌≡◌ {A = ℕ} 0 1 = cc in absurd (omega arith)

sorted_by : (o : Options) (m : Row) (rows held : Rows) → is_on o.check ≡ true → bad_right o m rows held ≡ false → sorted o held ≡ true
unfolding bad_right
sorted_by o m rows held on e = not_or (sorted o held) (bad_split o m (length rows - 1) rows held) (rw on at e)

-- The join that a turn that writes leaves, with the check on.
after_turn : (o : Options) (j : Join) (rows A : Rows) (n : ℕ) (ended : Bool) → is_on o.check ≡ true
    → Low o ended (remember_last o j.last_right (take (prune_by o (length rows - 1) rows (drop j.pruned A)) (drop j.pruned A))) (drop (prune_by o (length rows - 1) rows (drop j.pruned A)) (drop j.pruned A))
    → Low o ended (left_by o j rows (drop j.pruned A) n).last_right (drop (left_by o j rows (drop j.pruned A) n).pruned A)
unfolding left_by dequeued dropped remembered kept_rows last_prune first_prune
after_turn o j xs A n ended on L =
    let h = drop j.pruned A in
    let p = prune_by o (length xs - 1) xs h in
    let n : j.pruned + p ≡ j.pruned + (0 + p) = omega arith in
    let z : drop p (drop j.pruned A) ≡ drop (j.pruned + (0 + p)) A = drop-drop p j.pruned A ∙ ap (λ (k : ℕ). drop k A) n in
    rw on (rw z at L)

module _ (o : Options) (l r : Words) (allowed : refused_options o ≡ false) (es : List Event) (w : World) (i : Inv o l r es w) (S : LowAt o es w) where
  abbrev j : Join
  j = w.join

  quiet : (e : Event) (k : Join) (l' r' : Words) → right_in e ≡ [] → k.pruned ≡ j.pruned → k.last_right ≡ j.last_right
      → LowAt o (es ++ (e ∷ [])) (record { join = k; left = l'; right = r' })
  unfolding right_frames
  quiet e k l' r' er ep em =
      rw (right_append es (e ∷ []), er, append-nil (right_frames es), ended_append es (e ∷ []), ep, em)
      (λ on. low_more o (is_right_ended es) (is_right_ended es || is_right_ended (e ∷ [])) j.last_right _ (S on) (λ t. rw t))

  or_first : (a b : Bool) → (a || b) ≡ false → a ≡ false
  or_first true b e = e
  or_first false b e = refl

  low_left : (f : Words) → LowAt o (es ++ ((step w (left f)).event ∷ [])) (step w (left f)).world
  unfolding step left_call queued
  low_left f = go (left_answer j w.left w.right f) refl
    where
      go : (a : Result Unit Refusal) → left_answer j w.left w.right f ≡ a → LowAt o (es ++ ((step w (left f)).event ∷ [])) (step w (left f)).world
      go (Err n) e = rw (e, left_call) (quiet (on_left f (Err n)) j w.left w.right refl refl refl)
      go (Ok tt) e = rw (e, left_call) (quiet (on_left f (Ok tt)) (queued j w.left w.right f).join (queued j w.left w.right f).left (queued j w.left w.right f).right refl refl refl)

  pushes : (f : Words) → (j.right_ended || is_done j.state) ≡ false
      → LowAt o (es ++ (on_right f (Ok tt) ∷ [])) (record { join = (pushed_right j w.left w.right f).join; left = w.left; right = (pushed_right j w.left w.right f).right })
  unfolding pushed_right right_frames is_right_ended rows_in
  pushes f u =
      let open-still : is_right_ended es ≡ false = sym i.flags.ended ∙ or_first j.right_ended (is_done j.state) u in
      let A = rows_in (right_columns o) (right_frames es) in
      let few : j.pruned ≤ length A = omega (arith, i.stock.rows) in
      rw (right_append es (on_right f (Ok tt) ∷ []), ended_append es (on_right f (Ok tt) ∷ []), or-false (is_right_ended es), rows_in_append (right_columns o) (right_frames es) (f ∷ []), append-nil (frame_rows (right_columns o) f), drop-append-le j.pruned A (frame_rows (right_columns o) f) few, open-still)
      (λ on. low_push o j.last_right (drop j.pruned A) (frame_rows (right_columns o) f) (rw open-still at (S on)))

  low_right : (f : Words) → LowAt o (es ++ ((step w (right f)).event ∷ [])) (step w (right f)).world
  unfolding step right_call pushed_right
  low_right f = go (right_answer j w.left w.right f) refl
    where
      go : (a : Result Unit Refusal) → right_answer j w.left w.right f ≡ a → LowAt o (es ++ ((step w (right f)).event ∷ [])) (step w (right f)).world
      go (Err n) e = rw (e, right_call) (quiet (on_right f (Err n)) j w.left w.right refl refl refl)
      go (Ok tt) e = rw (e, right_call) (pushes f (right_passed o l r allowed es w i f e).unended)

  low_end : LowAt o (es ++ ((step w end).event ∷ [])) (step w end).world
  unfolding step end_call
  low_end = go (end_answer j w.left w.right) refl
    where
      go : (a : Result Unit Refusal) → end_answer j w.left w.right ≡ a → LowAt o (es ++ ((step w end).event ∷ [])) (step w end).world
      go (Err n) e = rw (e, end_call) (quiet (on_end (Err n)) j w.left w.right refl refl refl)
      go (Ok tt) e = rw (e, end_call) (quiet (on_end (Ok tt)) (ended_right j) w.left w.right refl refl refl)

  low_ports : (l' r' s' : PortState) → LowAt o (es ++ ((step w (ports l' r' s')).event ∷ [])) (step w (ports l' r' s')).world
  unfolding step ports_call
  low_ports l' r' s' = go (ports_answer j w.left w.right l' r' s') refl
    where
      go : (a : Result Ports Refusal) → ports_answer j w.left w.right l' r' s' ≡ a → LowAt o (es ++ ((step w (ports l' r' s')).event ∷ [])) (step w (ports l' r' s')).world
      go (Err n) e = rw (e, ports_call) (quiet (on_ports l' r' s' (Err n)) j w.left w.right refl refl refl)
      go (Ok p) e = rw (e, ports_call) (quiet (on_ports l' r' s' (Ok p)) (state_at j (ports_state j l' s')) w.left w.right refl refl refl)

  wrote : (out : Words) (q : ℕ) (f : Words) (rest : List Words) (d : drop (length (outputs es)) (left_frames es) ≡ f ∷ rest) → turn_answer j w.left w.right out ≡ Ok (Wrote q)
      → LowAt o (es ++ (on_turn (Ok (Wrote j.sequence)) (answered o (matched_by o j (rows o l r allowed es w i f rest d) (held o l r allowed es w i)) out) ∷ []))
      (record { join = left_by o j (rows o l r allowed es w i f rest d) (held o l r allowed es w i) (length f); left = w.left; right = w.right })
  unfolding right_frames is_right_ended held
  wrote out q f rest d e =
      let ev = on_turn (Ok (Wrote j.sequence)) (answered o (matched_by o j (rows o l r allowed es w i f rest d) (held o l r allowed es w i)) out) in
      let A = rows_in (right_columns o) (right_frames es) in
      let R = rows o l r allowed es w i f rest d in
      let p = passed o j R (drop j.pruned A) out q (sym (answer_is o l r allowed es w i f rest d out) ∙ e) in
      rw (right_append es (ev ∷ []), append-nil (right_frames es), ended_append es (ev ∷ []), or-false (is_right_ended es))
      (λ on.
      after_turn o j R A (length f) (is_right_ended es) on
      (low_turn o (is_right_ended es) j.last_right R (drop j.pruned A) (S on) (sorted_by o j.last_right R (drop j.pruned A) on p.right_order)
      (wide_drop (right_columns o) j.pruned A (rows_in_wide (right_columns o) (right_frames es) i.stock.right_frames))
      (λ t. p.need (i.flags.ended ∙ t))))

  refuses : (n : Refusal) (out : Words) → LowAt o (es ++ (on_turn (Err n) out ∷ [])) (record { join = spoiled n j; left = w.left; right = w.right })
  refuses n out =
      marked_ind (λ (k : Join). LowAt o (es ++ (on_turn (Err n) out ∷ [])) (record { join = k; left = w.left; right = w.right })) n
      (λ t. quiet (on_turn (Err n) out) (marked_failed j) w.left w.right refl refl refl)
      (λ not8 not9. quiet (on_turn (Err n) out) j w.left w.right refl refl refl)

  low_on_turn : (out : Words) → LowAt o (es ++ ((step w (turn out)).event ∷ [])) (step w (turn out)).world
  unfolding step turn_call
  low_on_turn out = go (turn_answer j w.left w.right out) refl
    where
      by : (q : ℕ) → turn_answer j w.left w.right out ≡ Ok (Wrote q) → (fs : List Words) → drop (length (outputs es)) (left_frames es) ≡ fs
          → LowAt o (es ++ (on_turn (turned j w.left w.right out).answer (turned j w.left w.right out).out ∷ []))
          (record { join = (turned j w.left w.right out).join; left = (turned j w.left w.right out).left; right = (turned j w.left w.right out).right })
      by q e [] d = absurd (no_write o l r allowed es w i out q d e)
      by q e (f ∷ rest) d = rw (turned_is o l r allowed es w i f rest d out) (wrote out q f rest d e)

      go : (a : Result Turn Refusal) → turn_answer j w.left w.right out ≡ a → LowAt o (es ++ ((step w (turn out)).event ∷ [])) (step w (turn out)).world
      go (Ok (Wrote q)) e = rw (e, turn_call) (by q e (drop (length (outputs es)) (left_frames es)) refl)
      go (Ok WantsRight) e = rw (e, turn_call) (quiet (on_turn (Ok WantsRight) out) j w.left w.right refl refl refl)
      go (Ok Idle) e = rw (e, turn_call) (quiet (on_turn (Ok Idle) out) j w.left w.right refl refl refl)
      go (Err n) e = rw (e, turn_call) (refuses n out)

module _ (o : Options) (l r : Words) (allowed : refused_options o ≡ false) where
  low_step : (es : List Event) (w : World) → Inv o l r es w → LowAt o es w → (c : Call) → LowAt o (es ++ ((step w c).event ∷ [])) (step w c).world
  low_step es w i S (left f) = low_left o l r allowed es w i S f
  low_step es w i S (right f) = low_right o l r allowed es w i S f
  low_step es w i S end = low_end o l r allowed es w i S
  low_step es w i S (ports l' r' s') = low_ports o l r allowed es w i S l' r' s'
  low_step es w i S (turn out) = low_on_turn o l r allowed es w i S out

  low_list : (cs : List Call) (es : List Event) (w : World) → Inv o l r es w → LowAt o es w → LowAt o (es ++ events w cs) (final w cs)
  unfolding events final
  low_list [] es w i S = rw (append-nil es) S
  low_list (c ∷ cs) es w i S =
      rw (append_assoc es ((step w c).event ∷ []) (events (step w c).world cs)) at
      (low_list cs (es ++ ((step w c).event ∷ [])) (step w c).world (inv_step o l r allowed es w i c) (low_step es w i S c))

  low_start : LowAt o [] (start o l r)
  unfolding right_frames rows_in recall
  low_start on = record { empty = λ z q. refl; first = λ h. tt }

  -- Over sorted held rows no split is out of order.
  split_never_alone : (calls : List Call) → is_on o.check ≡ true → sorted o (held_after o l r calls) ≡ true → (k : ℕ) (xs : Rows)
      → bad_split o (remembered_after o l r calls) k xs (held_after o l r calls) ≡ false
  unfolding held
  split_never_alone calls on s k xs =
      let w = final (start o l r) calls in
      let es = events (start o l r) calls in
      let i : Inv o l r es w = inv_list o l r allowed calls [] (start o l r) (inv_start o l r allowed) in
      let e : held_of w.join w.right ≡ drop w.join.pruned (rows_in (right_columns o) (right_frames es)) = held_is o l r allowed es w i in
      let L = low_list calls [] (start o l r) (inv_start o l r allowed) low_start on in
      rw e (split_only o (is_right_ended es) w.join.last_right (drop w.join.pruned (rows_in (right_columns o) (right_frames es))) L (rw e at s) k xs)

  -- So what is asked of the right side is whether the held rows are sorted.
  right_fault_is : (calls : List Call) (xs : Rows)
      → bad_right o (remembered_after o l r calls) xs (held_after o l r calls) ≡ (is_on o.check && not (sorted o (held_after o l r calls)))
  unfolding bad_right
  right_fault_is calls xs = go (is_on o.check) refl (sorted o (held_after o l r calls)) refl
    where
      go : (b : Bool) → is_on o.check ≡ b → (s : Bool) → sorted o (held_after o l r calls) ≡ s
          → (b && (not s || bad_split o (remembered_after o l r calls) (length xs - 1) xs (held_after o l r calls))) ≡ (b && not s)
      go false eb s es = refl
      go true eb false es = refl
      go true eb true es = split_never_alone calls eb es (length xs - 1) xs

pub splits_alone : SplitsAlone
splits_alone o allowed l r calls = record { never_alone = split_never_alone o l r allowed calls; fault_is = right_fault_is o l r allowed calls }
