use Rattle.frames.specs.declared.outcomes.Turn.TheVariants.{Wrote}
use Rattle.std.specs.Prelude.{Ok}
use mathlib.Core.Path.{◌≡◌, sym, ◌∙◌}
use Prim.Native.Nat.{◌+◌, ◌-◌, ◌≤◌}
use native.Mathlib.Omega.{arith}
use borrow.Author.Tests.{not-true, not-false}
use Rattle.frames.specs.Front.{front_of}
use Rattle.order.specs.options.Options.{with_list, columns}
use Rattle.callrules.specs.Judged.{ready_judged}
use Rattle.node.specs.turncall.Queue.{waiting_in, QueueIn}
use Rattle.node.proofs.turncall.QueueLaws.{goes, unbroken, ready_stops, front_stops, front_turns, front_within, frame_in}
use borrow.Author.Rules.{rules}
use Rattle.node.proofs.turncall.turn_queue.Statement.{statement}
use Rattle.node.proofs.turncall.turn_queue.Tie as tie

judge-ready-requires : tie.Need-judge_ready-starts-requires
judge-ready-requires c κs = search rules

goes-on-requires : tie.Need-goes_on-requires
goes-on-requires c κs = search rules

unturned-requires : tie.Need-unturned-requires
unturned-requires c κs = search rules

returns : tie.Need-returns-then-not-goes_on
returns c = let i = c in rw c.unturned.ensures (let a = i.args in ready_stops (with_list a.rules.terms a.rules.codes.now a.rules.rising.now) a.bad a.state a.j a.left.now a.right.now a.out.now _ i.judge_ready-starts.ensures (sym i.goes_on.ensures ∙ not-true i.goes_on.result i.if-not-goes_on.true-raw))

-- The join is not bad and a frame waits.
went : (c : tie.Else-not-goes_on) → let a = c.args in ready_judged a.bad a.j.failed a.state a.j.queue_words a.j.sequence ≡ Ok (Wrote a.j.sequence)
went c = let a = c.args in goes (with_list a.rules.terms a.rules.codes.now a.rules.rising.now) a.bad a.state a.j a.left.now a.right.now a.out.now _ c.judge_ready-starts.ensures (sym c.goes_on.ensures ∙ not-false c.goes_on.result c.if-not-goes_on.false-raw)

sound : (c : tie.Else-not-goes_on) → let a = c.args in QueueIn (with_list a.rules.terms a.rules.codes.now a.rules.rising.now) a.j a.left.now a.right.now
sound c = let a = c.args in c.requires (unbroken (with_list a.rules.terms a.rules.codes.now a.rules.rising.now) a.bad a.state a.j a.left.now a.right.now a.out.now (went c))

left-columns-requires : tie.Need-left_columns-c-requires
left-columns-requires c κs = (sound c.before).few.by

add-end : tie.Need-overflow_add-end
add-end c = let i = c in let x = i in omega (arith, (sound i.before.before.before).left_room, x.well_formed.1.1.1.1.0.0)

mul-front-words : tie.Need-offset_bounds-left-start
mul-front-words c = let i = c in let x = i in omega (arith, (sound i.before.before.before).left_room, x.well_formed.1.1.1.1.1.1.0.1)

sub-front-words : tie.Need-slice_bounds-front_words-count
sub-front-words c = search rules

part-front-words-start : tie.Need-slice_bounds-front_words-start
part-front-words-start c = search rules

part-front-words-end : tie.Need-slice_bounds-front_words-end
part-front-words-end c = omega (arith, (sound c.before.before.before).left_room)

front-words-requires : tie.Need-front_words-front-requires
front-words-requires c κs = search rules

enum-known-front : tie.Need-enum_known-front
enum-known-front c = search rules

enum_told : tie.Need-enum_told-1
enum_told c = search rules

unturned-requires-2 : tie.Need-unturned-requires-in_default
unturned-requires-2 c κs = search rules

-- What was told of the front, by the definitions' names.
told : (c : tie.After-front_words-front) → let a = c.args in c.front_words-front.result ≡ front_of (columns (with_list a.rules.terms a.rules.codes.now a.rules.rising.now)) (waiting_in a.j a.left.now)
told c =
    let a = c.args in
    let z : a.j.queue_start + a.j.queue_words - a.j.queue_start ≡ a.j.queue_words = omega arith in
    rw (c.left_columns-c.ensures, z) at c.front_words-front.ensures

returns-2 : tie.Need-returns-in_default
returns-2 c =
    let q = c in
    let i = q in
    rw c.unturned-in_default.ensures (let a = i.args in front_stops (with_list a.rules.terms a.rules.codes.now a.rules.rising.now) a.bad a.state a.j a.left.now a.right.now a.out.now (went i.before.before.before.before.before.before.before) (sym (told q.before.before) ∙ c.in_default.is))

within : (c : tie.In-Some) → let a = c.args in c.in-Some.k ≤ a.j.queue_words
within c =
    let q = c in
    let i = q in
    (let a = i.args in front_within (with_list a.rules.terms a.rules.codes.now a.rules.rising.now) a.j a.left.now a.right.now _ (sym (told q.before) ∙ c.in-Some.is))

add-e : tie.Need-overflow_add-e
add-e c = let i = c in let x = i in omega (arith, within c, (sound i.before.before.before.before.before.before).left_room, x.well_formed.1.1.1.1.0.0)

mul-turn-listed : tie.Need-offset_bounds-left-start-2
mul-turn-listed c = let i = c in let x = i in omega (arith, (sound i.before.before.before.before.before.before).left_room, x.well_formed.1.1.1.1.1.1.0.1)

sub-turn-listed : tie.Need-slice_bounds-turn_listed-count
sub-turn-listed c = search rules

part-turn-listed-start : tie.Need-slice_bounds-turn_listed-start
part-turn-listed-start c = search rules

part-turn-listed-end : tie.Need-slice_bounds-turn_listed-end
part-turn-listed-end c = let i = c in omega (arith, within c, (sound i.before.before.before.before.before.before).left_room)

turn-listed-requires : tie.Need-turn_listed-requires
turn-listed-requires c κs =
    let t = c in
    let q = t in
    let i = q in
    let x = i in
    let z : x.args.j.queue_start + t.in-Some.k - x.args.j.queue_start ≡ t.in-Some.k = omega arith in
    let s = q.struct_known-1.given.1.1.1.1.1.1.1.0 in
    let a = x.args in
    rw z (frame_in (with_list a.rules.terms a.rules.codes.now a.rules.rising.now) a.j a.left.now a.right.now _ (sym (told q.before.before.before) ∙ t.in-Some.is) (sound i.before.before.before.before.before.before.before.before) (omega (arith, s)) x.well_formed.1.1.1.1.0.0 x.well_formed.1.1.1.1.1.0.0)

same_length : tie.Need-shape_of-out
same_length c = search rules

returns-3 : tie.Need-returns
returns-3 c =
    let t = c in
    let q = t in
    let i = q in
    let x = i in
    let z : x.args.j.queue_start + t.in-Some.k - x.args.j.queue_start ≡ t.in-Some.k = omega arith in
    let a = x.args in
    front_turns (with_list a.rules.terms a.rules.codes.now a.rules.rising.now) a.bad a.state a.j a.left.now a.right.now a.out.now (went i.before.before.before.before.before.before.before.before.before.before) _ (sym (told q.before.before.before.before.before) ∙ t.in-Some.is) _ _ (rw z at c.turn_listed.ensures)

pub turn_queue_spec : {M : Type 1} → statement M
turn_queue_spec =
    tie.close
    (tie.spec judge-ready-requires goes-on-requires unturned-requires returns left-columns-requires add-end mul-front-words sub-front-words part-front-words-start part-front-words-end front-words-requires enum-known-front enum_told unturned-requires-2 returns-2 add-e mul-turn-listed sub-turn-listed part-turn-listed-start part-turn-listed-end turn-listed-requires same_length returns-3)
