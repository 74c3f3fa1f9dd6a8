-- A call by numbers: refused as a bad join, or the node's call in numbers. One law for each serves all calls. Assumes nothing.
use Rattle.frames.specs.declared.outcomes.Turn.{Turn}
use Rattle.frames.specs.declared.refusals.Refusal.{Refusal}
use Rattle.std.specs.Prelude.{Result, Err, None, Some}
use mathlib.Core.Path.{◌≡◌, refl}
use mathlib.Core.Bool.{true, false, ◌&&◌}
use mathlib.Core.List.{[]}
use Prim.Native.Nat.{ℕ}
use Rattle.frames.specs.Cells.{Words}
use Rattle.node.specs.State.{fresh}
use Rattle.node.specs.Calls.{After, left_call, right_call, end_call, ports_call, turn_call}
use Rattle.callrules.specs.Judged.{open_answer}
use Rattle.node.specs.runs.Run.{run_call}
use Rattle.node.specs.CallContracts.{LeftContract, RightContract, EndContract, PortsContract, TurnContract}
use Rattle.node.specs.runs.RunContract.{RunContract}
use Rattle.node.specs.moves.Moves.{move_call, MoveContract}
use Rattle.node.specs.declared.Join.{Join}
use Rattle.frames.specs.declared.outcomes.PortState.{PortState}
use Rattle.node.specs.declared.TookJoin.{TookJoin}
use Rattle.node.specs.declared.PortedJoin.{PortedJoin}
use Rattle.node.specs.declared.TurnedJoin.{TurnedJoin}
use Rattle.node.specs.declared.runs.RanJoin.{RanJoin}
use Rattle.frames.specs.declared.refusals.Refusal.TheVariants.{BadOptions, BadJoin}
use Rattle.ffi.specs.codes.Codes.{is_code, port_of}
use Rattle.ffi.specs.convert.Convert.{is_join, join_of, encode, decode}
use Rattle.ffi.specs.hostoptions.HostOptions.{is_options, options_of, decode_options}
use Rattle.ffi.specs.results.Results.{took_host, ported_host, turned_host, fresh_host, Made, ran_host, refused_run}
use Rattle.hostcalls.specs.Calls.{HostAfter, after_host, encode_after, by_join, open_host, left_host, right_host, end_host, move_host, ports_host, turn_host, ran_after, run_host}
use Rattle.hostcalls.specs.CallContracts.{HostLeftContract, HostRightContract, HostEndContract, HostMoveContract, HostPortsContract, HostTurnContract, HostRunContract}
use Rattle.ffi.specs.declared.hostoptions.HostOptions.{HostOptions}
use Rattle.ffi.specs.declared.convert.HostJoin.{HostJoin}
use Rattle.ffi.specs.declared.results.HostTook.{HostTook}
use Rattle.ffi.specs.declared.results.HostPorted.{HostPorted}
use Rattle.ffi.specs.declared.results.HostTurned.{HostTurned}
use Rattle.ffi.specs.declared.results.HostRan.{HostRan}

-- ---- what is read
options_none : (h : HostOptions) → is_options h ≡ false → decode_options h ≡ None
unfolding decode_options
options_none h e = rw e

options_some : (h : HostOptions) → is_options h ≡ true → decode_options h ≡ Some (options_of h)
unfolding decode_options
options_some h e = rw e

join_none : (h : HostJoin) → is_join h ≡ false → decode h ≡ None
unfolding decode
join_none h e = rw e

join_some : (h : HostJoin) → is_join h ≡ true → decode h ≡ Some (join_of h)
unfolding decode
join_some h e = rw e

-- ---- opening
pub open_bad : (h : HostOptions) → is_options h ≡ false → open_host h ≡ took_host (Err BadOptions) (fresh_host h)
unfolding open_host
open_bad h e = rw (options_none h e, open_host)

pub open_through : (h : HostOptions) → is_options h ≡ true → open_host h ≡ took_host (open_answer (options_of h)) (encode (fresh (options_of h)))
unfolding open_host
open_through h e = rw (options_some h e, open_host)

-- ---- the calls by a join
module _ {A : Type 0} (h : HostJoin) (refused : HostAfter A) (call : Join → After A) where
  -- Numbers that are no join: the call is refused.
  pub by_none : is_join h ≡ false → by_join h refused call ≡ refused
  unfolding by_join
  by_none e = rw (join_none h e, by_join)

  -- Numbers that are a join: the node's call of it.
  pub by_some : is_join h ≡ true → by_join h refused call ≡ encode_after (call (join_of h))
  unfolding by_join
  by_some e = rw (join_some h e, by_join)

  -- What is made of the refusal is made of the call.
  pub refuses : {R : Type 0} (f : A → HostJoin → R) {r : R} →
      is_join h ≡ false → r ≡ f refused.answer refused.join → r ≡ f (by_join h refused call).answer (by_join h refused call).join
  refuses f e x = rw (by_none e) x

  -- What is made of the answer and the join of the node's call is made of the call.
  pub through : {R : Type 0} (f : A → HostJoin → R) {j k : Join} {a : A} {r : R} →
      is_join h ≡ true → j ≡ join_of h → a ≡ (call j).answer → k ≡ (call j).join → r ≡ f a (encode k) → r ≡ f (by_join h refused call).answer (by_join h refused call).join
  through f e i p q x = rw (by_some e, ← i, ← p, ← q) x

  -- So are the words of an area or of the output.
  pub words_refused : (g : HostAfter A → Words) {ws : Words} → is_join h ≡ false → ws ≡ g refused → ws ≡ g (by_join h refused call)
  words_refused g e x = rw (by_none e) x

  pub words_through : (g : HostAfter A → Words) {j : Join} {ws : Words} → is_join h ≡ true → j ≡ join_of h → ws ≡ g (encode_after (call j)) → ws ≡ g (by_join h refused call)
  words_through g e i x = rw (by_some e, ← i) x

-- ---- frames
module _ (h : HostJoin) (left right f : Words) where
  pub left_bad : (r : HostTook) → is_join h ≡ false → r ≡ took_host (Err BadJoin) h → HostLeftContract h left right f r left
  unfolding left_host
  left_bad r e x =
      let no = after_host (Err BadJoin) h left right [] in
      let call : Join → After (Result Unit Refusal) = λ j. left_call j left right f in
      record { result = refuses h no call took_host e x; words = words_refused h no call (λ y. y.left) e refl }

  pub left_through : (j : Join) (t : TookJoin) (r : HostTook) (ws : Words) → is_join h ≡ true → j ≡ join_of h → LeftContract j left right f t ws → r ≡ took_host t.answer (encode t.join) → HostLeftContract h left right f r ws
  unfolding left_host
  left_through j t r ws e i l x =
      let no = after_host (Err BadJoin) h left right [] in
      let call : Join → After (Result Unit Refusal) = λ j. left_call j left right f in
      record { result = through h no call took_host e i l.answer l.join x; words = words_through h no call (λ y. y.left) e i l.words }

  pub right_bad : (r : HostTook) → is_join h ≡ false → r ≡ took_host (Err BadJoin) h → HostRightContract h left right f r right
  unfolding right_host
  right_bad r e x =
      let no = after_host (Err BadJoin) h left right [] in
      let call : Join → After (Result Unit Refusal) = λ j. right_call j left right f in
      record { result = refuses h no call took_host e x; words = words_refused h no call (λ y. y.right) e refl }

  pub right_through : (j : Join) (t : TookJoin) (r : HostTook) (ws : Words) → is_join h ≡ true → j ≡ join_of h → RightContract j left right f t ws → r ≡ took_host t.answer (encode t.join) → HostRightContract h left right f r ws
  unfolding right_host
  right_through j t r ws e i l x =
      let no = after_host (Err BadJoin) h left right [] in
      let call : Join → After (Result Unit Refusal) = λ j. right_call j left right f in
      record { result = through h no call took_host e i l.answer l.join x; words = words_through h no call (λ y. y.right) e i l.words }

-- ---- the end of right
module _ (h : HostJoin) (left right : Words) where
  pub end_bad : (r : HostTook) → is_join h ≡ false → r ≡ took_host (Err BadJoin) h → HostEndContract h left right r
  unfolding end_host
  end_bad r e x = record { result = refuses h (after_host (Err BadJoin) h left right []) (λ j. end_call j left right) took_host e x }

  pub end_through : (j : Join) (t : TookJoin) (r : HostTook) → is_join h ≡ true → j ≡ join_of h → EndContract j left right t → r ≡ took_host t.answer (encode t.join) → HostEndContract h left right r
  unfolding end_host
  end_through j t r e i l x = record { result = through h (after_host (Err BadJoin) h left right []) (λ j. end_call j left right) took_host e i l.answer l.join x }

-- ---- a move
module _ (h : HostJoin) (left right new_left new_right : Words) where
  pub move_bad : (r : HostTook) → is_join h ≡ false → r ≡ took_host (Err BadJoin) h → HostMoveContract h left right new_left new_right r new_left new_right
  unfolding move_host
  move_bad r e x =
      let no = after_host (Err BadJoin) h new_left new_right [] in
      let call : Join → After (Result Unit Refusal) = λ j. move_call j left right new_left new_right in
      record { result = refuses h no call took_host e x; left_words = words_refused h no call (λ y. y.left) e refl; right_words = words_refused h no call (λ y. y.right) e refl }

  pub move_through : (j : Join) (t : TookJoin) (r : HostTook) (ls rs : Words) → is_join h ≡ true → j ≡ join_of h → MoveContract j left right new_left new_right t ls rs
      → r ≡ took_host t.answer (encode t.join) → HostMoveContract h left right new_left new_right r ls rs
  unfolding move_host
  move_through j t r ls rs e i l x =
      let no = after_host (Err BadJoin) h new_left new_right [] in
      let call : Join → After (Result Unit Refusal) = λ j. move_call j left right new_left new_right in
      record {
        result = through h no call took_host e i l.answer l.join x;
        left_words = words_through h no call (λ y. y.left) e i l.left_words;
        right_words = words_through h no call (λ y. y.right) e i l.right_words;
      }

-- ---- ports
module _ (h : HostJoin) (left right : Words) (l r s : ℕ) where
  pub ports_unsaid : (x : HostPorted) → (is_code l && is_code r && is_code s) ≡ false → x ≡ ported_host (Err BadJoin) h → HostPortsContract h left right l r s x
  unfolding ports_host
  ports_unsaid x e y = record { result = rw e y }

  pub ports_bad : (x : HostPorted) → (is_code l && is_code r && is_code s) ≡ true → is_join h ≡ false → x ≡ ported_host (Err BadJoin) h → HostPortsContract h left right l r s x
  unfolding ports_host
  ports_bad x c e y =
      record { result = rw c (refuses h (after_host (Err BadJoin) h left right []) (λ j. ports_call j left right (port_of l) (port_of r) (port_of s)) ported_host e y) }

  pub ports_through : (j : Join) (a b d : PortState) (t : PortedJoin) (x : HostPorted) → (is_code l && is_code r && is_code s) ≡ true → is_join h ≡ true → j ≡ join_of h →
      a ≡ port_of l → b ≡ port_of r → d ≡ port_of s → PortsContract j left right a b d t → x ≡ ported_host t.answer (encode t.join) → HostPortsContract h left right l r s x
  unfolding ports_host
  ports_through j a b d t x c e i pa pb pd k y =
      let k' : PortsContract j left right (port_of l) (port_of r) (port_of s) t = rw (← pa, ← pb, ← pd) k in
      record { result = rw c (through h (after_host (Err BadJoin) h left right []) (λ j. ports_call j left right (port_of l) (port_of r) (port_of s)) ported_host e i k'.answer k'.join y) }

-- ---- a turn
module _ (h : HostJoin) (left right out : Words) where
  pub turn_bad : (r : HostTurned) → is_join h ≡ false → r ≡ turned_host (Err BadJoin) h → HostTurnContract h left right out r out
  unfolding turn_host
  turn_bad r e x =
      let no = after_host (Err BadJoin) h left right out in
      let call : Join → After (Result Turn Refusal) = λ j. turn_call j left right out in
      record { result = refuses h no call turned_host e x; words = words_refused h no call (λ y. y.out) e refl }

  pub turn_through : (j : Join) (t : TurnedJoin) (r : HostTurned) (ws : Words) → is_join h ≡ true → j ≡ join_of h → TurnContract j left right out t ws → r ≡ turned_host t.answer (encode t.join) → HostTurnContract h left right out r ws
  unfolding turn_host
  turn_through j t r ws e i l x =
      let no = after_host (Err BadJoin) h left right out in
      let call : Join → After (Result Turn Refusal) = λ j. turn_call j left right out in
      record { result = through h no call turned_host e i l.answer l.join x; words = words_through h no call (λ y. y.out) e i l.words }

-- ---- a run
module _ (h : HostJoin) (k : ℕ) (left right out : Words) where
  pub run_bad : (r : HostRan) → is_join h ≡ false → r ≡ ran_host refused_run h → HostRunContract h k left right out r out
  unfolding run_host
  run_bad r e x =
      let no = after_host refused_run h left right out in
      let call : Join → After Made = λ j. ran_after (run_call k j left right out) left right in
      record { result = refuses h no call ran_host e x; words = words_refused h no call (λ y. y.out) e refl }

  pub run_through : (j : Join) (t : RanJoin) (r : HostRan) (ws : Words) → is_join h ≡ true → j ≡ join_of h → RunContract j k left right out t ws
      → r ≡ ran_host (record { turns = t.turns; words = t.words; stop = t.stop }) (encode t.join) → HostRunContract h k left right out r ws
  unfolding run_host
  run_through j t r ws e i l x =
      let no = after_host refused_run h left right out in
      let call : Join → After Made = λ j. ran_after (run_call k j left right out) left right in
      let made : ◌≡◌ {A = Made} (record { turns = t.turns; words = t.words; stop = t.stop }) (call j).answer = rw (l.turns, l.written, l.stop) in
      record { result = through h no call ran_host e i made l.join x; words = words_through h no call (λ y. y.out) e i l.words }
