-- A refused call keeps all, and the join of a refused opening is refused by every call. Assumes nothing.
use Rattle.frames.specs.declared.outcomes.Turn.TheVariants.{Wrote, WantsRight, Idle}
use Rattle.frames.specs.declared.outcomes.Stop.{Stop}
use Rattle.frames.specs.declared.outcomes.Turn.{Turn}
use Rattle.std.specs.Prelude.{Result, Ok, Err, None, Some}
use mathlib.Core.Path.{◌≡◌, refl, sym, ◌∙◌, ap, subst}
use mathlib.Core.Bool.{Bool, true, false, cond, ◌&&◌, ◌||◌}
use mathlib.Core.List.{[]}
use Prim.Native.Nat.{ℕ, zero, suc, ◌<◌}
use native.Mathlib.Omega.{arith}
use borrow.Author.Tests.{not-true}
use lib.Dec.{eqb}
use lib.ListN.{take, drop}
use Rattle.callrules.specs.ports.Ports.{ports_judged}
use Rattle.frames.specs.Cells.{Words}
use Rattle.order.specs.options.Options.{answer_columns, bad_options, many_carried, bad_ranked, refused_options}
use Rattle.order.specs.declared.options.Options.{Options}
use Rattle.node.specs.State.{fresh, bad_join, state_at, ended_right}
use Rattle.frames.specs.outcomes.Answers.{port_code, wrote}
use Rattle.node.specs.Calls.{After, after, left_answer, left_call, queued, right_answer, right_call, pushed_right, end_answer, end_call, ports_answer, ports_state, ports_call, turn_answer, turn_call, turned, dequeued, dropped, spoiled}
use Rattle.callrules.specs.Judged.{open_answer, left_judged, end_judged, right_judged}
use Rattle.node.specs.declared.Join.{Join}
use Rattle.frames.specs.declared.outcomes.PortState.{PortState}
use Rattle.frames.specs.refusals.Refusals.{marks_failed}
use Rattle.frames.specs.declared.refusals.Refusal.{Refusal}
use Rattle.frames.specs.declared.refusals.Refusal.TheVariants.{BadOptions, TooManyCarried, BadRanks, BadJoin}
use Rattle.frames.specs.declared.outcomes.Ports.{Ports}
use Rattle.node.specs.runs.Run.{Ran, ran, and_then, stop_of, turn_words, run_call}
use Rattle.node.proofs.Good.{opened_bad}
use Rattle.node.proofs.runs.RunLaws.{turn_options}
use Rattle.node.specs.moves.Moves.{move_answer, at_front, left_moved, right_moved, move_call}
use Rattle.ffi.specs.codes.Codes.{is_code, port_of, took_code}
use Rattle.ffi.specs.convert.Convert.{layout_now, is_join, join_of, decode}
use Rattle.ffi.specs.hostoptions.HostOptions.{is_options, options_of, decode_options}
use Rattle.ffi.specs.results.Results.{fresh_host, Made, refused_run}
use Rattle.hostcalls.specs.Calls.{HostAfter, after_host, encode_after, by_join, open_host, left_host, right_host, end_host, move_host, ports_host, turn_host, ran_after, run_host}
use Rattle.hostcalls.specs.Promises.{stays, stays_at, no_turn, Shut, NoJoin, Same, Follows, Promises}
use Rattle.ffi.specs.declared.hostoptions.HostOptions.{HostOptions}
use Rattle.ffi.specs.declared.convert.HostJoin.{HostJoin}
use Rattle.ffi.specs.declared.results.HostTook.{HostTook}
use Rattle.ffi.proofs.codes.CodeLaws.{port_is, port_back}
use Rattle.ffi.proofs.convert.ConvertLaws.{join_numbers, join_same, decoded_options, Is, decoded, there_and_back}
use Rattle.ffi.proofs.hostoptions.OptionsLaws.{options_parts}
use Rattle.hostcalls.proofs.CallLaws.{open_bad, open_through, by_none, by_some}

-- ---- the node's calls that change nothing
-- A call by its answer: what it does where it is accepted, or nothing.
abbrev by_took : Result Unit Refusal → After (Result Unit Refusal) → Join → Words → Words → After (Result Unit Refusal)
by_took t done j left right = elim t [ Ok tt ↦ done | Err n ↦ after (Err n) j left right [] ]

took_keeps : (t : Result Unit Refusal) (done : After (Result Unit Refusal)) (j : Join) (left right : Words) (n : Refusal) → done.answer ≡ Ok tt → (by_took t done j left right).answer ≡ Err n
    → by_took t done j left right ≡ after (Err n) j left right []
took_keeps (Ok tt) done j left right n d x = let z : ◌≡◌ {A = ℕ} 0 1 = cc in absurd (omega arith)
took_keeps (Err m) done j left right n d x = ap (λ (t : Result Unit Refusal). after t j left right []) x

-- A port call and a turn likewise.
abbrev ports_by : Result Ports Refusal → Join → Join → Words → Words → After (Result Ports Refusal)
ports_by p k j left right = elim p [ Ok p ↦ after (Ok p) k left right [] | Err n ↦ after (Err n) j left right [] ]

ports_keep : (p : Result Ports Refusal) (k j : Join) (left right : Words) (n : Refusal) → (ports_by p k j left right).answer ≡ Err n → ports_by p k j left right ≡ after (Err n) j left right []
ports_keep (Ok p) k j left right n x = let z : ◌≡◌ {A = ℕ} 0 1 = cc in absurd (omega arith)
ports_keep (Err m) k j left right n x = ap (λ (p : Result Ports Refusal). after p j left right []) x

abbrev turn_by : Result Turn Refusal → After (Result Turn Refusal) → Join → Words → Words → Words → After (Result Turn Refusal)
turn_by a done j left right out =
    elim a [
      | Ok (Wrote s) ↦ done
      | Ok WantsRight ↦ after (Ok WantsRight) j left right out
      | Ok Idle ↦ after (Ok Idle) j left right out
      | Err n ↦ after (Err n) (spoiled n j) left right out
    ]

unspoiled : (n : Refusal) (j : Join) → marks_failed n ≡ false → spoiled n j ≡ j
unspoiled n j e = rw e refl

turn_keeps : (a : Result Turn Refusal) (done : After (Result Turn Refusal)) (s : ℕ) (j : Join) (left right out : Words) (b : Result Turn Refusal) → done.answer ≡ Ok (Wrote s) → stays b ≡ true → (turn_by a done j left right out).answer ≡ b
    → turn_by a done j left right out ≡ after b j left right out
turn_keeps (Ok (Wrote q)) done s j left right out b d k x =
    let f : false ≡ true = subst (λ (y : Result Turn Refusal). stays y ≡ true) (sym x ∙ d) k in
    let z : ◌≡◌ {A = ℕ} 0 1 = cc in
    absurd (omega arith)
turn_keeps (Ok WantsRight) done s j left right out b d k x = ap (λ (p : Result Turn Refusal). after p j left right out) x
turn_keeps (Ok Idle) done s j left right out b d k x = ap (λ (p : Result Turn Refusal). after p j left right out) x
turn_keeps (Err n) done s j left right out b d k x =
    let f = subst (λ (y : Result Turn Refusal). stays y ≡ true) (sym x) k in
    ap (λ (y : Join). after (Err n) y left right out) (unspoiled n j (not-true (marks_failed n) f)) ∙ ap (λ (y : Result Turn Refusal). after y j left right out) x

-- A run that made no turn.
stays_same : (a : Result Turn Refusal) → wrote a ≡ false → stays a ≡ stays_at (stop_of a)
stays_same (Ok (Wrote s)) e = let z : ◌≡◌ {A = ℕ} 0 1 = cc in absurd (omega arith)
stays_same (Ok WantsRight) e = refl
stays_same (Ok Idle) e = refl
stays_same (Err n) e = refl

turn_call_keeps : (j : Join) (left right out : Words) → stays (turn_call j left right out).answer ≡ true
    → turn_call j left right out ≡ after (turn_call j left right out).answer j left right out
unfolding turn_call turned
turn_call_keeps j left right out k = turn_keeps (turn_answer j left right out) (turned j left right out) j.sequence j left right out (turn_call j left right out).answer refl k refl

module _ (left right : Words) (s : Result Stop Refusal) (still : stays_at s ≡ true) where
  run_keeps : (k : ℕ) (j : Join) (out : Words) → (ran_after (run_call k j left right out) left right).answer ≡ no_turn s
      → ran_after (run_call k j left right out) left right ≡ after (no_turn s) j left right out
  unfolding run_call
  run_keeps zero j out x = ap (λ (m : Made). after m j left right out) x
  run_keeps (suc k) j out x = go (wrote t.answer) refl x
    where
      t : After (Result Turn Refusal)
      t = turn_call j left right out

      -- The run by whether its first turn wrote.
      run_by : Bool → Ran
      run_by b = let n = turn_words (answer_columns j.options) t.out in cond b (and_then 1 n (take n t.out) (run_call k t.join left right (drop n t.out))) (ran 0 0 (stop_of t.answer) t.join t.out)

      go : (b : Bool) → wrote t.answer ≡ b → (ran_after (run_by b) left right).answer ≡ no_turn s → ran_after (run_by b) left right ≡ after (no_turn s) j left right out
      go true e x = let z = ap (λ (m : Made). m.turns) x in absurd (omega arith)
      go false e x =
          let y : stop_of t.answer ≡ s = ap (λ (m : Made). m.stop) x in
          let q : stays t.answer ≡ true = stays_same t.answer e ∙ ap stays_at y ∙ still in
          ap (λ (u : After (Result Turn Refusal)). after (no_turn (stop_of t.answer)) u.join left right u.out) (turn_call_keeps j left right out q)
          ∙ ap (λ (m : Made). after m j left right out) x

-- ---- in numbers
-- A call that changes nothing where it answers a, in numbers.
keeps : {A : Type 0} (h : HostJoin) (left right out : Words) (bad a : A) (call : Join → After A) → ((j : Join) → (call j).answer ≡ a → call j ≡ after a j left right out)
    → (by_join h (after_host bad h left right out) call).answer ≡ a → by_join h (after_host bad h left right out) call ≡ after_host a h left right out
keeps {A} h left right out bad a call same = go (is_join h) refl
  where
    go : (b : Bool) → is_join h ≡ b → (by_join h (after_host bad h left right out) call).answer ≡ a → by_join h (after_host bad h left right out) call ≡ after_host a h left right out
    go false e x =
        let n = by_none h (after_host bad h left right out) call e in
        n ∙ ap (λ (y : A). after_host y h left right out) (sym (ap (λ (y : HostAfter A). y.answer) n) ∙ x)
    go true e x =
        let s = by_some h (after_host bad h left right out) call e in
        let k = same (join_of h) (sym (ap (λ (y : HostAfter A). y.answer) s) ∙ x) in
        s ∙ ap encode_after k ∙ ap (λ (y : HostJoin). after_host a y left right out) (join_numbers h e)

module _ (h : HostJoin) (left right : Words) where
  left_kept : (f : Words) (n : Refusal) → (left_host h left right f).answer ≡ Err n → left_host h left right f ≡ after_host (Err n) h left right []
  unfolding left_host left_call queued
  left_kept f n =
      keeps h left right [] (Err BadJoin) (Err n) (λ j. left_call j left right f) (λ j. took_keeps (left_answer j left right f) (queued j left right f) j left right n refl)

  right_kept : (f : Words) (n : Refusal) → (right_host h left right f).answer ≡ Err n → right_host h left right f ≡ after_host (Err n) h left right []
  unfolding right_host right_call pushed_right
  right_kept f n =
      keeps h left right [] (Err BadJoin) (Err n) (λ j. right_call j left right f) (λ j. took_keeps (right_answer j left right f) (pushed_right j left right f) j left right n refl)

  end_kept : (n : Refusal) → (end_host h left right).answer ≡ Err n → end_host h left right ≡ after_host (Err n) h left right []
  unfolding end_host end_call
  end_kept n =
      keeps h left right [] (Err BadJoin) (Err n) (λ j. end_call j left right)
      (λ j. took_keeps (end_answer j left right) (after (Ok tt) (ended_right j) left right []) j left right n refl)

  move_kept : (new_left new_right : Words) (n : Refusal) → (move_host h left right new_left new_right).answer ≡ Err n → move_host h left right new_left new_right ≡ after_host (Err n) h new_left new_right []
  unfolding move_host move_call
  move_kept new_left new_right n =
      keeps h new_left new_right [] (Err BadJoin) (Err n) (λ j. move_call j left right new_left new_right)
      (λ j. took_keeps (move_answer j left right new_left new_right) (after (Ok tt) (at_front j) (left_moved j left new_left) (right_moved j right new_right) []) j new_left new_right n refl)

  -- Where a test fails, the call is refused with everything kept.
  either : (t : Bool) (x : HostAfter (Result Ports Refusal)) (n : Refusal) → (x.answer ≡ Err n → x ≡ after_host (Err n) h left right [])
      → (cond t x (after_host (Err BadJoin) h left right [])).answer ≡ Err n
      → cond t x (after_host (Err BadJoin) h left right []) ≡ after_host (Err n) h left right []
  either true x n k y = k y
  either false x n k y = ap (λ (p : Result Ports Refusal). after_host p h left right []) y

  ports_kept : (l r s : ℕ) (n : Refusal) → (ports_host h left right l r s).answer ≡ Err n → ports_host h left right l r s ≡ after_host (Err n) h left right []
  unfolding ports_host ports_call
  ports_kept l r s n =
      let call : Join → After (Result Ports Refusal) = λ j. ports_call j left right (port_of l) (port_of r) (port_of s) in
      either (is_code l && is_code r && is_code s) (by_join h (after_host (Err BadJoin) h left right []) call) n
      (keeps h left right [] (Err BadJoin) (Err n) call
      (λ j. ports_keep (ports_answer j left right (port_of l) (port_of r) (port_of s)) (state_at j (ports_state j (port_of l) (port_of s))) j left right n))

  turn_kept : (out : Words) (a : Result Turn Refusal) → stays a ≡ true → (turn_host h left right out).answer ≡ a → turn_host h left right out ≡ after_host a h left right out
  unfolding turn_host turn_call turned
  turn_kept out a k =
      keeps h left right out (Err BadJoin) a (λ j. turn_call j left right out)
      (λ j. turn_keeps (turn_answer j left right out) (turned j left right out) j.sequence j left right out a refl k)

  run_kept : (k : ℕ) (out : Words) (s : Result Stop Refusal) → stays_at s ≡ true → (run_host h k left right out).answer ≡ no_turn s → run_host h k left right out ≡ after_host (no_turn s) h left right out
  unfolding run_host
  run_kept k out s still =
      keeps h left right out refused_run (no_turn s) (λ j. ran_after (run_call k j left right out) left right) (λ j. run_keeps left right s still k j out)

-- ---- the join of a refused opening
-- The node's calls of a bad join.
module _ (j : Join) (left right : Words) (e : bad_join j left right ≡ true) where
  left_bad : (f : Words) → (left_call j left right f).answer ≡ Err BadJoin
  unfolding left_call left_judged
  left_bad f = rw (e, left_call)

  right_bad : (f : Words) → (right_call j left right f).answer ≡ Err BadJoin
  unfolding right_call right_judged
  right_bad f = rw (e, right_call)

  end_bad : (end_call j left right).answer ≡ Err BadJoin
  unfolding end_call end_judged
  end_bad = rw (e, end_call)

  move_bad : (new_left new_right : Words) → (move_call j left right new_left new_right).answer ≡ Err BadJoin
  unfolding move_call move_answer
  move_bad new_left new_right = rw (e, move_call)

  ports_bad : (l r s : PortState) → (ports_call j left right l r s).answer ≡ Err BadJoin
  unfolding ports_call ports_judged
  ports_bad l r s = rw (e, ports_call)

  turn_bad : (out : Words) → (turn_call j left right out).answer ≡ Err BadJoin
  unfolding turn_call turn_answer
  turn_bad out = rw (e, turn_call)

  run_bad : (k : ℕ) (out : Words) → (ran_after (run_call (suc k) j left right out) left right).answer ≡ refused_run
  unfolding run_call
  run_bad k out = rw (turn_bad out, run_call)

-- A call of numbers that are no join, or a bad one, is refused as 2.
by_bad : {A : Type 0} (h : HostJoin) (left right out : Words) (bad : A) (call : Join → After A) → (is_join h ≡ true → (call (join_of h)).answer ≡ bad)
    → (by_join h (after_host bad h left right out) call).answer ≡ bad
by_bad {A} h left right out bad call is = go (is_join h) refl
  where
    go : (b : Bool) → is_join h ≡ b → (by_join h (after_host bad h left right out) call).answer ≡ bad
    go false e = ap (λ (y : HostAfter A). y.answer) (by_none h (after_host bad h left right out) call e)
    go true e = ap (λ (y : HostAfter A). y.answer) (by_some h (after_host bad h left right out) call e) ∙ is e

shut_by : (h : HostJoin) (left right : Words) → (is_join h ≡ true → bad_join (join_of h) left right ≡ true) → Shut h left right
unfolding left_host right_host end_host move_host ports_host turn_host run_host
shut_by h left right is = record {
  by_left = λ f. by_bad h left right [] (Err BadJoin) (λ j. left_call j left right f) (λ e. left_bad (join_of h) left right (is e) f);
  by_right = λ f. by_bad h left right [] (Err BadJoin) (λ j. right_call j left right f) (λ e. right_bad (join_of h) left right (is e) f);
  by_end = by_bad h left right [] (Err BadJoin) (λ j. end_call j left right) (λ e. end_bad (join_of h) left right (is e));
  by_move = λ new_left new_right. by_bad h new_left new_right [] (Err BadJoin) (λ j. move_call j left right new_left new_right) (λ e. move_bad (join_of h) left right (is e) new_left new_right);
  by_ports = λ l r s. unsaid (is_code l && is_code r && is_code s)
      (by_join h (after_host (Err BadJoin) h left right []) (λ j. ports_call j left right (port_of l) (port_of r) (port_of s)))
      (by_bad h left right [] (Err BadJoin) (λ j. ports_call j left right (port_of l) (port_of r) (port_of s))
      (λ e. ports_bad (join_of h) left right (is e) (port_of l) (port_of r) (port_of s)));
  by_turn = λ out. by_bad h left right out (Err BadJoin) (λ j. turn_call j left right out) (λ e. turn_bad (join_of h) left right (is e) out);
  by_run = λ k out. by_bad h left right out refused_run (λ j. ran_after (run_call (suc k) j left right out) left right) (λ e. run_bad (join_of h) left right (is e) k out);
}
  where
    unsaid : (t : Bool) (x : HostAfter (Result Ports Refusal)) → x.answer ≡ Err BadJoin → (cond t x (after_host (Err BadJoin) h left right [])).answer ≡ Err BadJoin
    unsaid true x e = e
    unsaid false x e = refl

-- ---- numbers that are no join
-- What is read as none is no join.
none_is : (h : HostJoin) → decode h ≡ None → is_join h ≡ false
unfolding decode
none_is h e = go (is_join h) e
  where
    go : (b : Bool) → cond b (Some (join_of h)) None ≡ None → b ≡ false
    go false x = refl
    go true x = let z : ◌≡◌ {A = ℕ} 0 1 = cc in absurd (omega arith)

foreign : (h : HostJoin) (left right : Words) → is_join h ≡ false → NoJoin h left right
unfolding left_host right_host end_host move_host ports_host turn_host run_host
foreign h left right e = record {
  by_left = λ f. by_none h (after_host (Err BadJoin) h left right []) (λ j. left_call j left right f) e;
  by_right = λ f. by_none h (after_host (Err BadJoin) h left right []) (λ j. right_call j left right f) e;
  by_end = by_none h (after_host (Err BadJoin) h left right []) (λ j. end_call j left right) e;
  by_move = λ new_left new_right. by_none h (after_host (Err BadJoin) h new_left new_right []) (λ j. move_call j left right new_left new_right) e;
  by_ports = λ l r s. either_none (is_code l && is_code r && is_code s)
      (by_none h (after_host (Err BadJoin) h left right []) (λ j. ports_call j left right (port_of l) (port_of r) (port_of s)) e);
  by_turn = λ out. by_none h (after_host (Err BadJoin) h left right out) (λ j. turn_call j left right out) e;
  by_run = λ k out. by_none h (after_host refused_run h left right out) (λ j. ran_after (run_call k j left right out) left right) e;
}
  where
    either_none : {A : Type 0} (t : Bool) {x y : A} → x ≡ y → cond t x y ≡ y
    either_none true p = p
    either_none false p = refl

-- A join of another layout is none.
layout_none : (h : HostJoin) → eqb h.layout layout_now ≡ false → decode h ≡ None
unfolding decode is_join
layout_none h e = rw e

-- Options that opening refuses meet 1, 10 or 11.
refused_bad : (o : Options) → eqb (took_code (open_answer o)) 0 ≡ false → refused_options o ≡ true
unfolding open_answer refused_options
refused_bad o = go (bad_options o) (many_carried o) (bad_ranked o)
  where
    go : (a b c : Bool) → eqb (took_code (cond a (Err BadOptions) (cond b (Err TooManyCarried) (cond c (Err BadRanks) (Ok tt))))) 0 ≡ false → (a || b || c) ≡ true
    go true b c e = refl
    go false true c e = refl
    go false false true e = refl
    go false false false e = let z : ◌≡◌ {A = ℕ} 0 1 = cc in absurd (omega arith)

-- Options that are no options make no join.
fresh_none : (o : HostOptions) → is_options o ≡ false → is_join (fresh_host o) ≡ false
unfolding is_join
fresh_none o e = rw e

-- What stands in the join of an opening that is refused.
opened : (o : HostOptions) (left right : Words) → eqb (open_host o).refusal 0 ≡ false → is_join (open_host o).join ≡ true → bad_join (join_of (open_host o).join) left right ≡ true
opened o left right = go (is_options o) refl
  where
    go : (b : Bool) → is_options o ≡ b → eqb (open_host o).refusal 0 ≡ false → is_join (open_host o).join ≡ true → bad_join (join_of (open_host o).join) left right ≡ true
    go false e r is =
        let f : is_join (fresh_host o) ≡ false = fresh_none o e in
        let g : is_join (fresh_host o) ≡ true = rw (open_bad o e) at is in
        let z : ◌≡◌ {A = ℕ} 0 1 = cc in
        absurd (omega arith)
    go true e r is =
        let b : refused_options (options_of o) ≡ true = refused_bad (options_of o) (rw (open_through o e) at r) in
        rw (open_through o e, join_same (fresh (options_of o))) (opened_bad (options_of o) left right b)

-- ---- a list of calls in numbers follows the node's
-- No call changes the options.
took_options : (t : Result Unit Refusal) (done : After (Result Unit Refusal)) (j : Join) (left right : Words) → done.join.options ≡ j.options → (by_took t done j left right).join.options ≡ j.options
took_options (Ok tt) done j left right e = e
took_options (Err n) done j left right e = refl

ports_options : (p : Result Ports Refusal) (k j : Join) (left right : Words) → k.options ≡ j.options → (ports_by p k j left right).join.options ≡ j.options
ports_options (Ok p) k j left right e = e
ports_options (Err n) k j left right e = refl

run_options : (left right : Words) (k : ℕ) (j : Join) (out : Words) → (run_call k j left right out).join.options ≡ j.options
unfolding run_call
run_options left right zero j out = refl
run_options left right (suc k) j out =
    go (wrote t.answer) (run_options left right k t.join (drop n t.out))
  where
    t : After (Result Turn Refusal)
    t = turn_call j left right out

    n : ℕ
    n = turn_words (answer_columns j.options) t.out

    rest : Ran
    rest = run_call k t.join left right (drop n t.out)

    go : (b : Bool) → rest.join.options ≡ t.join.options → (cond b (and_then 1 n (take n t.out) rest) (ran 0 0 (stop_of t.answer) t.join t.out)).join.options ≡ j.options
    go true ih = ih ∙ turn_options j left right out
    go false ih = turn_options j left right out

-- A call that keeps the options is the node's, and hands back numbers that are its join.
followed : {A : Type 0} (h : HostJoin) (j : Join) (bad : HostAfter A) (call : Join → After A) → Is h j → (call j).join.options ≡ j.options → Same (by_join h bad call) (call j)
followed {A} h j bad call is e =
    let b : (call j).join.options.strategy < 256 = rw e is.byte in
    let w : by_join h bad call ≡ encode_after (call j) = by_some h bad call is.numbers ∙ ap (λ (k : Join). encode_after (call k)) is.join in
    record { whole = w; again = ap (λ (x : HostAfter A). decode x.join) w ∙ there_and_back.join_back (call j).join b }

module _ (h : HostJoin) (j : Join) (left right : Words) (is : Is h j) where
  -- What every port can say is taken.
  said : (l r s : PortState) → ports_host h left right (port_code l) (port_code r) (port_code s) ≡ by_join h (after_host (Err BadJoin) h left right []) (λ k. ports_call k left right l r s)
  unfolding ports_host
  said l r s = simp (port_is, port_back)

  follow : Follows h j left right
  unfolding left_host right_host end_host move_host turn_host run_host left_call queued right_call pushed_right end_call move_call ports_call turn_call turned dequeued dropped
  follow = record {
    by_left = λ f. followed h j (after_host (Err BadJoin) h left right []) (λ k. left_call k left right f) is
        (took_options (left_answer j left right f) (queued j left right f) j left right refl);
    by_right = λ f. followed h j (after_host (Err BadJoin) h left right []) (λ k. right_call k left right f) is
        (took_options (right_answer j left right f) (pushed_right j left right f) j left right refl);
    by_end = followed h j (after_host (Err BadJoin) h left right []) (λ k. end_call k left right) is
        (took_options (end_answer j left right) (after (Ok tt) (ended_right j) left right []) j left right refl);
    by_move = λ new_left new_right. followed h j (after_host (Err BadJoin) h new_left new_right []) (λ k. move_call k left right new_left new_right) is
        (took_options (move_answer j left right new_left new_right) (after (Ok tt) (at_front j) (left_moved j left new_left) (right_moved j right new_right) []) j new_left new_right refl);
    by_ports = λ l r s. rw (said l r s)
        (followed h j (after_host (Err BadJoin) h left right []) (λ k. ports_call k left right l r s) is
        (ports_options (ports_answer j left right l r s) (state_at j (ports_state j l s)) j left right refl));
    by_turn = λ out. followed h j (after_host (Err BadJoin) h left right out) (λ k. turn_call k left right out) is
        (turn_options j left right out);
    by_run = λ k out. followed h j (after_host refused_run h left right out) (λ m. ran_after (run_call k m left right out) left right) is (run_options left right k j out);
  }

-- An opening whose numbers are options o.
opening : (h : HostOptions) (o : Options) → decode_options h ≡ Some o → decode (open_host h).join ≡ Some (fresh o)
opening h o e =
    let p = decoded_options h o e in
    ap (λ (x : HostTook). decode x.join) (open_through h p.0) ∙ there_and_back.join_back (fresh (options_of h)) (options_parts h p.0).byte
    ∙ ap (λ (x : Options). Some (fresh x)) p.1

pub promises : Promises
promises = record {
  kept = λ h left right. record {
    by_left = left_kept h left right;
    by_right = right_kept h left right;
    by_end = end_kept h left right;
    by_move = move_kept h left right;
    by_ports = ports_kept h left right;
    by_turn = turn_kept h left right;
    by_run = run_kept h left right;
  };
  shut = λ o left right e. shut_by (open_host o).join left right (opened o left right e);
  no_join = λ h left right e. foreign h left right (none_is h e);
  other_layout = layout_none;
  opens = opening;
  follows = λ h j left right e. follow h j left right (decoded h j e);
}
