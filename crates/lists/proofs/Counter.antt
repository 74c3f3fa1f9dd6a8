-- SCOPE 21: the worked cases of calls, as one list that holds by computation, and those of openings. Assumes nothing.
use Rattle.std.specs.Prelude.{Option, None, Some}
use mathlib.Core.Path.{◌≡◌, refl}
use mathlib.Core.Bool.{true, false}
use mathlib.Core.List.{List, [], ◌∷◌, ◌++◌, map}
use Prim.Native.Nat.{ℕ, ◌-◌, ◌*◌, ◌^◌}
use lib.IntN.{pos, negsuc}
use lib.ListN.{length, replicate}
use Rattle.frames.specs.Cells.{Cell, null, value, Words}
use Rattle.order.specs.ranks.Ranks.{bad_ranks}
use Rattle.order.specs.options.Options.{bad_options}
use Rattle.order.proofs.Samples.{options, plain, carrying, checking, distancing, row, keys, frame_of}
use Rattle.order.specs.declared.options.Options.{Options}
use Rattle.order.specs.declared.options.Check.TheVariants.{Strict}
use Rattle.callrules.specs.Judged.{open_answer}
use Rattle.lists.specs.Lists.{Call, left, right, end, turn, start, final}
use Rattle.lists.proofs.Script.{Said, ok, refused, wrote, wants, left_area, right_area, space, say_took, says}

-- A frame of keys alone; of rows of one by-value and a key.
abbrev frame1 : List ℕ → Words
frame1 ks = frame_of 1 (keys ks)

abbrev frame2 : List (List ℕ) → Words
frame2 rs = frame_of 2 (map row rs)

-- A row of the least key that there is.
abbrev least : List Cell
least = value (negsuc (2 ^ 63 - 1)) ∷ []

-- A match: none, or a right number.
abbrev numbers : List (Option ℕ) → Words
numbers [] = []
numbers (None ∷ ms) = pos 0 ∷ numbers ms
numbers (Some n ∷ ms) = pos n ∷ numbers ms

abbrev marks : List (Option ℕ) → Words
marks [] = []
marks (None ∷ ms) = pos 0 ∷ marks ms
marks (Some n ∷ ms) = pos 1 ∷ marks ms

-- Turn number t wrote these matches.
abbrev matched : ℕ → List (Option ℕ) → Said
matched t ms = wrote (2 * t) (pos (length ms) ∷ pos 1 ∷ numbers ms ++ marks ms)

-- What a case comes to: what the calls say, and then pruned and held.
pub data Outcome : Type 0 where
  outcome : List Said → ℕ → ℕ → Outcome

-- A case: options, the words of the right area, the calls, and what is awaited.
pub record Case : Type 0 where
  pub opened : Options
  pub words : ℕ
  pub calls : List Call
  pub awaited : Outcome

unfoldable pub comes_to : Case → Outcome
unfolding says final
comes_to k =
    let w = final (start k.opened (left_area 40) (right_area k.words)) k.calls in
    outcome (says k.opened (left_area 40) (right_area k.words) k.calls) w.join.pruned w.join.held

abbrev case : Options → ℕ → List Call → List Said → ℕ → ℕ → Case
case o r cs said pruned held = record { opened = o; words = r; calls = cs; awaited = outcome said pruned held }

-- Unless said: no by-columns, no tolerance, check off, equality on, right 10, 20, 20, 30.
abbrev usual : Call
usual = right (frame1 (10 ∷ 20 ∷ 20 ∷ 30 ∷ []))

-- Right 10, 20, 20, 30 with a price behind each key, of which one is null.
abbrev priced : Call
priced = right (frame_of 2 (row (10 ∷ 1800 ∷ []) ∷ row (20 ∷ 2200 ∷ []) ∷ (value (pos 20) ∷ null ∷ []) ∷ row (30 ∷ 2500 ∷ []) ∷ []))

-- One by-column, right (2, 1), (2, 7), (3, 1), (4, 1), for the order check between left frames; a frame of a row without a key.
abbrev grouped : Call
grouped = right (frame2 ((2 ∷ 1 ∷ []) ∷ (2 ∷ 7 ∷ []) ∷ (3 ∷ 1 ∷ []) ∷ (4 ∷ 1 ∷ []) ∷ []))

abbrev keyless : ℕ → Words
keyless n = frame_of 2 ((value (pos n) ∷ null ∷ []) ∷ [])

abbrev strict : Options
strict = checking Strict (options 1 0 true (negsuc 0) false [] [])

abbrev long : ℕ → Words
long n = pos n ∷ pos 1 ∷ replicate n (pos 7) ++ replicate n (pos 1)

abbrev go : Call
go = turn (space 20)

pub cases : List Case
cases =
    -- SCOPE 21.1
    case (plain 0 true) 40 (usual ∷ left (frame1 (5 ∷ 20 ∷ 25 ∷ [])) ∷ go ∷ []) (ok ∷ ok ∷ matched 0 (None ∷ Some 2 ∷ Some 2 ∷ []) ∷ []) 2 2
    -- SCOPE 21.2
    ∷ case (plain 0 true) 40 (right (frame1 (10 ∷ 20 ∷ 20 ∷ [])) ∷ left (frame1 (5 ∷ 20 ∷ 25 ∷ [])) ∷ go ∷ end ∷ go ∷ [])
    (ok ∷ ok ∷ wants ∷ ok ∷ matched 0 (None ∷ Some 2 ∷ Some 2 ∷ []) ∷ []) 2 1
    -- SCOPE 21.3, Backward without equality
    ∷ case (plain 0 false) 40 (usual ∷ left (frame1 (20 ∷ [])) ∷ go ∷ []) (ok ∷ ok ∷ matched 0 (Some 0 ∷ []) ∷ []) 0 4
    -- SCOPE 21.3, Forward
    ∷ case (plain 1 true) 40 (usual ∷ left (frame1 (20 ∷ [])) ∷ go ∷ []) (ok ∷ ok ∷ matched 0 (Some 1 ∷ []) ∷ []) 1 3
    -- SCOPE 21.3, Forward without equality
    ∷ case (plain 1 false) 40 (usual ∷ left (frame1 (20 ∷ [])) ∷ go ∷ []) (ok ∷ ok ∷ matched 0 (Some 3 ∷ []) ∷ []) 1 3
    -- SCOPE 21.4
    ∷ case (plain 2 true) 40 (usual ∷ end ∷ left (frame1 (14 ∷ 15 ∷ 25 ∷ [])) ∷ go ∷ []) (ok ∷ ok ∷ ok ∷ matched 0 (Some 0 ∷ Some 2 ∷ Some 3 ∷ []) ∷ []) 2 2
    -- SCOPE 21.5
    ∷ case (plain 2 true) 40 (right (frame1 (10 ∷ 20 ∷ 30 ∷ [])) ∷ left (frame1 (25 ∷ [])) ∷ go ∷ right (frame1 (31 ∷ [])) ∷ go ∷ [])
    (ok ∷ ok ∷ wants ∷ ok ∷ matched 0 (Some 2 ∷ []) ∷ []) 1 3
    -- SCOPE 21.6
    ∷ case (options 0 0 true (pos 4) false [] []) 40 (usual ∷ left (frame1 (25 ∷ [])) ∷ go ∷ []) (ok ∷ ok ∷ matched 0 (None ∷ []) ∷ []) 2 2
    ∷ case (options 0 0 true (pos 5) false [] []) 40 (usual ∷ left (frame1 (25 ∷ [])) ∷ go ∷ []) (ok ∷ ok ∷ matched 0 (Some 2 ∷ []) ∷ []) 2 2
    -- SCOPE 21.7
    ∷ case (options 1 0 true (negsuc 0) false [] []) 40
    (right (frame2 ((1 ∷ 10 ∷ []) ∷ (1 ∷ 20 ∷ []) ∷ (2 ∷ 5 ∷ []) ∷ [])) ∷ end ∷ left (frame2 ((1 ∷ 15 ∷ []) ∷ (2 ∷ 4 ∷ []) ∷ (3 ∷ 9 ∷ []) ∷ [])) ∷ go ∷ [])
    (ok ∷ ok ∷ ok ∷ matched 0 (Some 0 ∷ None ∷ None ∷ []) ∷ []) 3 0
    -- SCOPE 21.8
    ∷ case (options 1 0 true (negsuc 0) true [] []) 40
    (grouped ∷ left (frame2 ((2 ∷ 5 ∷ []) ∷ [])) ∷ go ∷ left (keyless 3) ∷ go ∷ left (frame2 ((2 ∷ 8 ∷ []) ∷ [])) ∷ go ∷ [])
    (ok ∷ ok ∷ matched 0 (Some 0 ∷ []) ∷ ok ∷ matched 1 (None ∷ []) ∷ ok ∷ matched 2 (None ∷ []) ∷ []) 2 2
    -- SCOPE 21.12
    ∷ case strict 40
    (grouped ∷ left (frame2 ((2 ∷ 5 ∷ []) ∷ [])) ∷ go ∷ left (keyless 3) ∷ go ∷ left (frame2 ((2 ∷ 8 ∷ []) ∷ [])) ∷ go ∷ [])
    (ok ∷ ok ∷ matched 0 (Some 0 ∷ []) ∷ ok ∷ matched 1 (None ∷ []) ∷ ok ∷ refused 8 ∷ []) 2 2
    -- SCOPE 8.9: a frame without rows between them neither compares nor forgets
    ∷ case strict 40 (grouped ∷ left (keyless 3) ∷ go ∷ left (frame2 []) ∷ go ∷ left (frame2 ((2 ∷ 8 ∷ []) ∷ [])) ∷ go ∷ left (frame2 []) ∷ [])
    (ok ∷ ok ∷ matched 0 (None ∷ []) ∷ ok ∷ matched 1 [] ∷ ok ∷ refused 8 ∷ refused 3 ∷ []) 2 2
    -- SCOPE 21.9
    ∷ case (plain 0 true) 8192 (right (long 4096) ∷ []) (ok ∷ []) 0 4096
    ∷ case (plain 0 true) 8194 (right (long 4097) ∷ []) (refused 5 ∷ []) 0 0
    ∷ case (plain 0 true) 9 (usual ∷ right (frame1 []) ∷ right (frame1 (40 ∷ [])) ∷ []) (ok ∷ ok ∷ refused 6 ∷ []) 0 4
    -- SCOPE 21.10
    ∷ case (carrying 1 (plain 0 true)) 40 (priced ∷ end ∷ left (frame1 (5 ∷ 10 ∷ 20 ∷ 35 ∷ [])) ∷ turn (space 17) ∷ turn (space 18) ∷ [])
    (ok ∷ ok ∷ ok ∷ refused 6
    ∷ wrote 0 (map pos (4 ∷ 2 ∷ 0 ∷ 0 ∷ 0 ∷ 1800 ∷ 2 ∷ 0 ∷ 3 ∷ 2500 ∷ 0 ∷ 0 ∷ 1 ∷ 1 ∷ 1 ∷ 0 ∷ 1 ∷ 1 ∷ [])) ∷ []) 3 1
    -- SCOPE 21.13
    ∷ case (distancing (carrying 1 (plain 0 true))) 40 (priced ∷ end ∷ left (frame1 (5 ∷ 10 ∷ 20 ∷ 35 ∷ [])) ∷ turn (space 25) ∷ turn (space 26) ∷ [])
    (ok ∷ ok ∷ ok ∷ refused 6
    ∷ wrote 0 (map pos (4 ∷ 3 ∷ 0 ∷ 0 ∷ 0 ∷ 0 ∷ 1800 ∷ 0 ∷ 2 ∷ 0 ∷ 0 ∷ 3 ∷ 2500 ∷ 5 ∷ 0 ∷ 0 ∷ 0 ∷ 1 ∷ 1 ∷ 1 ∷ 1 ∷ 0 ∷ 1 ∷ 1 ∷ 1 ∷ 1 ∷ [])) ∷ []) 3 1
    -- SCOPE 21.14
    ∷ case (distancing (plain 0 true)) 40 (right (frame_of 1 (least ∷ [])) ∷ end ∷ left (frame_of 1 ((value (negsuc 0) ∷ []) ∷ keys (0 ∷ []))) ∷ turn (space 10) ∷ [])
    (ok ∷ ok ∷ ok ∷ wrote 0 (map pos (2 ∷ 2 ∷ 0 ∷ (2 ^ 63 - 1) ∷ 0 ∷ 0 ∷ 1 ∷ 1 ∷ 1 ∷ 0 ∷ [])) ∷ []) 0 1
    ∷ []

pub counter : map comes_to cases ≡ map (λ k. k.awaited) cases
unfolding cases comes_to
counter = refl

-- SCOPE 21.11; 8 columns may be carried.
pub opened : map (λ o. say_took (open_answer o)) (carrying 9 (plain 0 true) ∷ carrying 9 (options 5 0 true (negsuc 0) false [] []) ∷ carrying 8 (plain 0 true) ∷ []) ≡ refused 10 ∷ refused 1 ∷ ok ∷ []
unfolding open_answer bad_options bad_ranks
opened = refl
