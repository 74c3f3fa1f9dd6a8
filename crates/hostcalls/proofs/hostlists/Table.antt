-- The whole-table theorem, of what a host reads off its calls: it reads what the node's events say. Assumes nothing.
use Rattle.frames.specs.declared.outcomes.Turn.TheVariants.{Wrote, WantsRight, Idle}
use Rattle.frames.specs.declared.outcomes.Turn.{Turn}
use Rattle.frames.specs.declared.refusals.Refusal.{Refusal}
use Rattle.std.specs.Prelude.{Result, Ok, Err, Some}
use mathlib.Core.Path.{◌≡◌, refl, sym, ap, ◌∙◌}
use mathlib.Core.Bool.{Bool, true, false, cond, ◌&&◌}
use mathlib.Core.List.{List, [], ◌∷◌, ◌++◌, append-nil, append_assoc, map}
use Prim.Native.Nat.{ℕ, zero, suc, ◌+◌, ◌*◌, ◌≤◌, ◌<◌}
use native.Mathlib.Omega.{arith}
use lib.Dec.{eqb}
use lib.ListN.{length, take, drop, length-append, take-append-drop, length-drop}
use lib.Seq.{length-take-le}
use Rattle.frames.specs.Cells.{Words}
use Rattle.frames.specs.Frame.{row_count, frame_words}
use Rattle.order.specs.options.Options.{answer_columns, bad_options, many_carried, bad_ranked, refused_options}
use Rattle.order.proofs.options.OptionLaws.{good_allowed}
use Rattle.node.specs.Calls.{left_call, right_call, turn_call}
use Rattle.node.specs.declared.Join.{Join}
use Rattle.callrules.specs.Judged.{open_answer}
use Rattle.node.specs.runs.Run.{turn_words}
use Rattle.node.proofs.runs.RunLaws.{turn_fits, turn_length}
use Rattle.frames.specs.outcomes.Answers.{wrote, is_done}
use Rattle.ffi.specs.codes.Codes.{is_code, took_code, state_of}
use Rattle.ffi.specs.hostoptions.HostOptions.{is_options, options_of, decode_options}
use Rattle.ffi.proofs.convert.ConvertLaws.{decoded}
use Rattle.ffi.specs.declared.hostoptions.HostOptions.{HostOptions}
use Rattle.ffi.specs.declared.convert.HostJoin.{HostJoin}
use Rattle.ffi.specs.results.Results.{turned_host}
use Rattle.ffi.specs.declared.results.HostTook.{HostTook}
use Rattle.hostcalls.specs.Calls.{open_host}
use Rattle.hostcalls.proofs.CallLaws.{open_bad, open_through}
use Rattle.hostcalls.proofs.PromiseLaws.{promises}
use Rattle.frames.specs.declared.refusals.Refusal.TheVariants.{BadOptions, TooManyCarried, BadRanks}
use Rattle.frames.proofs.refusals.RefusalLaws.{number_above}
use Rattle.lists.specs.Lists.{Call, turn as node_turn, World, start, step, events, final, when, left_frames, right_frames, when_wrote, outputs, entries_of, written_in, matches_in, is_right_ended, node_done, back_to_back}
use Rattle.lists.specs.Runs.{answers_of, words_of, lent_by, written_words}
use Rattle.lists.proofs.ListLaws.{events_append, left_append, right_append, outputs_append, matches_append, take_more, drop_more}
use Rattle.lists.proofs.OptionsKept.{step_options, final_options}
use Rattle.lists.proofs.Invariant.{Inv}
use Rattle.lists.proofs.Steps.{inv_list, inv_start}
use Rattle.lists.proofs.WholeTableTheorem.{whole_table_theorem}
use Rattle.hostcalls.specs.hostlists.HostLists.{HostCall, left, right, end, ports, turn, run, calls_for, node_calls, event_for, node_events, Agree}
use Rattle.hostcalls.specs.hostlists.HostTable.{host_start, host_left_in, host_right_in, host_output_in, run_outputs, host_lefts, host_rights, host_outputs, has, HostTables}
use Rattle.hostcalls.proofs.hostlists.Follow.{host_lists}

-- ---- refusal 0 is acceptance, answer 0 is Wrote
taken : (a : Result Unit Refusal) (xs : List Words) → cond (eqb (took_code a) 0) xs [] ≡ when a xs
taken (Ok tt) xs = refl
taken (Err n) xs = rw (number_above n) refl

written_by_lem : (a : Result Turn Refusal) (h : HostJoin) (xs : List Words) → cond (eqb (turned_host a h).answer 0) xs [] ≡ when_wrote a xs
written_by_lem (Ok (Wrote s)) h xs = refl
written_by_lem (Ok WantsRight) h xs = refl
written_by_lem (Ok Idle) h xs = refl
written_by_lem (Err n) h xs = refl

-- ---- the words of a turn tell its rows, whatever stands behind them
count_more : (p q : Words) → 0 < length p → row_count (p ++ q) ≡ row_count p
count_more [] q h = absurd (omega arith)
count_more (x ∷ p) q h = refl

-- n rows of c words do not ask for what stands behind them.
entries_more : (c n : ℕ) (vs ms q : Words) → n * c ≤ length vs → n * c ≤ length ms → entries_of c n (vs ++ q) (ms ++ q) ≡ entries_of c n vs ms
unfolding entries_of
entries_more c zero vs ms q hv hm = refl
entries_more c (suc n) vs ms q hv hm =
    let k : suc n * c ≡ c + n * c = omega arith in
    let lv = length-drop c vs in
    let lm = length-drop c ms in
    rw (take_more c vs q (omega arith), take_more c ms q (omega arith), drop_more c vs q (omega arith), drop_more c ms q (omega arith), entries_more c n (drop c vs) (drop c ms) q (omega arith) (omega arith))

-- Answers of c columns.
module _ (c : ℕ) where
  rows_more : (p q : Words) → turn_words c p ≤ length p → written_in c (p ++ q) ≡ written_in c p
  unfolding written_in
  rows_more p q h =
      let n = row_count p in
      let d : drop 2 (p ++ q) ≡ drop 2 p ++ q = drop_more 2 p q (omega arith) in
      let e : drop (2 + n * c) (p ++ q) ≡ drop (2 + n * c) p ++ q = drop_more (2 + n * c) p q (omega arith) in
      let x = entries_more c n (drop 2 p) (drop (2 + n * c) p) q (omega (arith, length-drop 2 p)) (omega (arith, length-drop (2 + n * c) p)) in
      rw (count_more p q (omega arith), d, e, x)

  -- An output with its words.
  module _ (out : Words) (h : turn_words c out ≤ length out) where
    abbrev p : Words
    p = take (turn_words c out) out

    p_length : length p ≡ turn_words c out
    p_length = length-take-le (turn_words c out) out h

    p_count : row_count p ≡ row_count out
    p_count = sym (count_more p (drop (turn_words c out) out) (omega (arith, p_length))) ∙ ap row_count (take-append-drop (turn_words c out) out)

    p_fits : turn_words c p ≤ length p
    p_fits = rw p_count (omega (arith, p_length))

    front_rows : (q : Words) → written_in c (p ++ q) ≡ written_in c out
    front_rows q = rows_more p q p_fits ∙ sym (rows_more p (drop (turn_words c out) out) p_fits) ∙ ap (written_in c) (take-append-drop (turn_words c out) out)

    front_rest : (q : Words) → drop (turn_words c (p ++ q)) (p ++ q) ≡ q
    front_rest q =
        let e : turn_words c (p ++ q) ≡ length p = ap (λ (n : ℕ). frame_words n c) (count_more p q (omega (arith, p_length)) ∙ p_count) ∙ sym p_length in
        rw e (drop_more (length p) p q (omega arith) ∙ ap (λ (z : Words). z ++ q) (drop_all p))
      where
        drop_all : (ws : Words) → drop (length ws) ws ≡ []
        drop_all [] = refl
        drop_all (x ∷ ws) = drop_all ws

  -- Outputs that each hold the words of their rows.
  abbrev Full : List Words → Type 0
  Full [] = Unit {0}
  Full (out ∷ outs) = (turn_words c out ≤ length out) × Full outs

  run_count : (n : ℕ) (out : Words) → length (run_outputs c n out) ≡ n
  unfolding run_outputs
  run_count zero out = refl
  run_count (suc n) out = ap suc (run_count n _)

  run_matches : (os : List Words) → Full os → (rest : Words) → matches_in c (run_outputs c (length os) (back_to_back (map (written_words c) os) ++ rest)) ≡ matches_in c os
  unfolding run_outputs matches_in back_to_back
  run_matches [] f rest = refl
  run_matches (out ∷ os) f rest =
      let q = back_to_back (map (written_words c) os) ++ rest in
      rw (append_assoc (written_words c out) (back_to_back (map (written_words c) os)) rest, front_rows out f.0 q, front_rest out f.0 q, run_matches os f.1 rest)

-- What a list of turns wrote is such.
full_wrote : (j : Join) (l r out : Words) (os : List Words) → Full (answer_columns j.options) os
    → Full (answer_columns j.options) (when_wrote (turn_call j l r out).answer ((turn_call j l r out).out ∷ []) ++ os)
full_wrote j l r out os f = go (turn_call j l r out).answer refl
  where
    go : (a : Result Turn Refusal) → (turn_call j l r out).answer ≡ a → Full (answer_columns j.options) (when_wrote a ((turn_call j l r out).out ∷ []) ++ os)
    go (Ok (Wrote s)) e = (omega (arith, (turn_fits j l r out (ap wrote e)).room, turn_length j l r out), f)
    go (Ok WantsRight) e = f
    go (Ok Idle) e = f
    go (Err n) e = f

turns_full : (outs : List Words) (w : World) → Full (answer_columns w.join.options) (outputs (events w (map node_turn outs)))
unfolding events outputs step
turns_full [] w = tt
turns_full (out ∷ outs) w =
    full_wrote w.join w.left w.right out _ (rw (step_options w (node_turn out)) at (turns_full outs (step w (node_turn out)).world))

-- Turns take no frame.
turns_left : (outs : List Words) (w : World) → left_frames (events w (map node_turn outs)) ≡ []
unfolding events left_frames step
turns_left [] w = refl
turns_left (out ∷ outs) w = turns_left outs (step w (node_turn out)).world

turns_right : (outs : List Words) (w : World) → right_frames (events w (map node_turn outs)) ≡ []
unfolding events right_frames step
turns_right [] w = refl
turns_right (out ∷ outs) w = turns_right outs (step w (node_turn out)).world

-- ---- what one call says, in numbers and of the node
-- The columns of an answer.
abbrev pub width_of : World → ℕ
width_of w = answer_columns w.join.options

pub record Says (w : World) (c : HostCall) : Type 0 where
  pub lefts : host_left_in (event_for w c) ≡ left_frames (events w (calls_for w c))
  pub rights : host_right_in (event_for w c) ≡ right_frames (events w (calls_for w c))
  pub count : length (host_output_in (width_of w) (event_for w c)) ≡ length (outputs (events w (calls_for w c)))
  pub matches : matches_in (width_of w) (host_output_in (width_of w) (event_for w c)) ≡ matches_in (width_of w) (outputs (events w (calls_for w c)))

says_ports : (w : World) (a b c : ℕ) → Says w (ports a b c)
unfolding events left_frames right_frames outputs step
says_ports w a b c = go (is_code a && is_code b && is_code c) refl
  where
    go : (t : Bool) → (is_code a && is_code b && is_code c) ≡ t → Says w (ports a b c)
    go true e = record { lefts = rw e; rights = rw e; count = rw e; matches = rw e }
    go false e = record { lefts = rw e; rights = rw e; count = rw e; matches = rw e }

says : (w : World) (c : HostCall) → Says w c
unfolding events left_frames right_frames outputs step
says w (left f) = record { lefts = taken (left_call w.join w.left w.right f).answer (f ∷ []) ∙ sym (append-nil _); rights = refl; count = refl; matches = refl }
says w (right f) = record { lefts = refl; rights = taken (right_call w.join w.left w.right f).answer (f ∷ []) ∙ sym (append-nil _); count = refl; matches = refl }
says w end = record { lefts = refl; rights = refl; count = refl; matches = refl }
says w (ports a b c) = says_ports w a b c
says w (turn out) =
    let t = turn_call w.join w.left w.right out in
    let e = written_by_lem t.answer _ (t.out ∷ []) ∙ sym (append-nil (when_wrote t.answer (t.out ∷ []))) in
    record { lefts = refl; rights = refl; count = ap length e; matches = ap (matches_in (width_of w)) e }
says w (run k out) =
    let os = outputs (answers_of k w out) in
    record {
      lefts = sym (turns_left (lent_by k w out) w);
      rights = sym (turns_right (lent_by k w out) w);
      count = run_count (width_of w) (length os) _;
      matches = run_matches (width_of w) os (turns_full (lent_by k w out) w) (drop (length (words_of k w out)) out);
    }

-- ---- what a list says
pub record SaysAll (w : World) (cs : List HostCall) : Type 0 where
  pub lefts : host_lefts (node_events w cs) ≡ left_frames (events w (node_calls w cs))
  pub rights : host_rights (node_events w cs) ≡ right_frames (events w (node_calls w cs))
  pub count : length (host_outputs (width_of w) (node_events w cs)) ≡ length (outputs (events w (node_calls w cs)))
  pub matches : matches_in (width_of w) (host_outputs (width_of w) (node_events w cs)) ≡ matches_in (width_of w) (outputs (events w (node_calls w cs)))

says_none : (w : World) → SaysAll w []
unfolding node_events node_calls host_lefts host_rights host_outputs events left_frames right_frames outputs
says_none w = record { lefts = refl; rights = refl; count = refl; matches = refl }

says_all : (cs : List HostCall) (w : World) → SaysAll w cs
unfolding node_events node_calls host_lefts host_rights host_outputs
says_all [] w = says_none w
says_all (c ∷ cs) w =
    let s = says w c in
    let w' = final w (calls_for w c) in
    let t = says_all cs w' in
    let n : ℕ = width_of w in
    let k : width_of w' ≡ n = ap answer_columns (final_options (calls_for w c) w) in
    let a = events w (calls_for w c) in
    let b = events w' (node_calls w' cs) in
    let e = events_append w (calls_for w c) (node_calls w' cs) in
    record {
      lefts = rw (e, left_append a b, s.lefts, t.lefts);
      rights = rw (e, right_append a b, s.rights, t.rights);
      count =
          rw (e, outputs_append a b, length-append (outputs a) (outputs b), length-append (host_output_in n (event_for w c)) (host_outputs n (node_events w' cs)), s.count, rw k at t.count);
      matches = rw (e, outputs_append a b, matches_append n (outputs a) (outputs b), matches_append n (host_output_in n (event_for w c)) (host_outputs n (node_events w' cs)), s.matches, rw k at t.matches);
    }

-- ---- from the opening on
-- An opening that returned refusal 0 has options, and they are not refused.
opened : (h : HostOptions) → (open_host h).refusal ≡ 0 → (decode_options h ≡ Some (options_of h)) × (refused_options (options_of h) ≡ false)
unfolding decode_options open_answer
opened h z = go (is_options h) refl
  where
    fine : (a b c : Bool) → took_code (cond a (Err BadOptions) (cond b (Err TooManyCarried) (cond c (Err BadRanks) (Ok tt)))) ≡ 0 → (a ≡ false) × (b ≡ false) × (c ≡ false)
    fine true b c e = absurd (omega arith)
    fine false true c e = absurd (omega arith)
    fine false false true e = absurd (omega arith)
    fine false false false e = (refl, refl, refl)

    go : (b : Bool) → is_options h ≡ b → (decode_options h ≡ Some (options_of h)) × (refused_options (options_of h) ≡ false)
    go true e =
        let f = fine (bad_options (options_of h)) (many_carried (options_of h)) (bad_ranked (options_of h)) (sym (ap (λ (t : HostTook). t.refusal) (open_through h e)) ∙ z) in
        (rw e, good_allowed (options_of h) f.0 f.1 f.2)
    go false e = absurd (let x : ◌≡◌ {A = ℕ} 1 0 = sym (ap (λ (t : HostTook). t.refusal) (open_bad h e)) ∙ z in omega arith)

not_done : (x : ℕ) → x < 2 → is_done (state_of x) ≡ false
not_done zero h = refl
not_done (suc zero) h = refl
not_done (suc (suc x)) h = absurd (omega arith)

-- Turns in numbers are the node's turns.
turns_are : (outs : List Words) (w : World) → node_calls w (map turn outs) ≡ map node_turn outs
unfolding node_calls
turns_are [] w = refl
turns_are (out ∷ outs) w = ap (λ (z : List Call). node_turn out ∷ z) (turns_are outs (final w (node_turn out ∷ [])))

pub host_tables : HostTables
host_tables h z l r calls =
    let o = options_of h in
    let w₀ = start o l r in
    let allowed = (opened h z).1 in
    let agree : Agree (host_start h l r) w₀ = record { join = promises.opens h o (opened h z).0; left = refl; right = refl } in
    let F = host_lists (host_start h l r) w₀ agree calls in
    let cs = node_calls w₀ calls in
    let w = final w₀ cs in
    let es = events w₀ cs in
    let s = says_all calls w₀ in
    let i : Inv o l r es w = inv_list o l r allowed cs [] w₀ (inv_start o l r allowed) in
    let D = whole_table_theorem o allowed l r cs in
    let is = decoded (has h l r calls).join w.join F.leaves.join in
    record {
      whole_table = λ d. rw (F.events, s.lefts, s.rights, s.count, s.matches) (D.whole_table (rw (F.events, s.lefts) at d.0, rw (F.events, s.rights) at d.1));
      rest_written = λ d en st outs room few.
          let G = host_lists (has h l r calls) w F.leaves (map turn outs) in
          let t = says_all (map turn outs) w in
          let same : width_of w ≡ answer_columns o = ap answer_columns i.stock.options in
          let count = rw (same, turns_are outs w) at t.count in
          let matches = rw (same, turns_are outs w) at t.matches in
          let ended : is_right_ended es ≡ true = sym i.flags.ended ∙ ap (λ (j : Join). j.right_ended) (sym is.join) ∙ rw en in
          let undone : node_done es ≡ false = sym i.flags.done ∙ ap (λ (j : Join). is_done j.state) (sym is.join) ∙ not_done (has h l r calls).join.state st in
          rw (F.events, G.events, s.lefts, s.rights, s.matches, count, matches)
          (D.rest_written (rw (F.events, s.lefts) at d.0, rw (F.events, s.rights) at d.1) ended undone outs (rw (F.events, s.lefts, s.count) at room) (rw (F.events, s.lefts) at few));
    }
