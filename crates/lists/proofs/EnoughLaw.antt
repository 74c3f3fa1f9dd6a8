-- Rows behind the held ones, once these settle the matches up to a left row, change no match of a left row up to it. Assumes nothing.
use mathlib.Core.Path.{◌≡◌, refl, ap}
use mathlib.Core.Bool.{Bool, true, false, not}
use mathlib.Core.List.{List, [], ◌++◌}
use mathlib.Core.Logic.{inl, inr}
use Prim.Native.Nat.{ℕ, ◌<◌}
use native.Mathlib.Omega.{arith}
use lib.ListN.{length, get_or}
use Rattle.frames.specs.Cells.{Cell, Rows}
use Rattle.order.specs.options.Options.{strategy_of}
use Rattle.order.specs.Order.{cmp_group, cmp_row, key_of, distance}
use Rattle.order.proofs.OrderLaws.{AtMost, cmp_group_is, cmp_row_is, cmp_key_is, cmp_key, less_greater, less_at_most, equal_at_most, not_both, then_less, equal_flip, at_most, group_at_most}
use Rattle.order.proofs.SortedLaws.{All, all_map}
use Rattle.order.proofs.KeyLaws.{Inside, inside, key_at_most, key_less, key_up, farther_above}
use Rattle.order.specs.declared.options.Options.{Options}
use Rattle.std.specs.declared.cmp.Ordering.TheVariants.{Equal}
use Rattle.order.specs.declared.options.Strategy.{Strategy}
use Rattle.order.specs.declared.options.Strategy.TheVariants.{Backward, Forward, Nearest}
use Rattle.searching.proofs.Promise.{Past, Enough, Settled}
use Rattle.matching.specs.Match.{Hit, nobody, hit, on_side, takes_over, choose, tolerate, match_table}
use Rattle.matching.proofs.ChoiceLaws.{Has, Keeps, keeps_dead, choose_best, choose_wait}
use Rattle.matching.proofs.MayLaws.{may, May, may_out, may_too, never, is_false, back_side, back_less, side_fore, nearer_least, over_then, over_or}

-- What is past l is past every row up to l.
past_up : (o : Options) (strict : Bool) (x l r : List Cell) → AtMost (cmp_row o) x l → Past o strict l r → Past o strict x r
past_up o true x l r xl h = then_less (cmp_row_is o) x l r xl h
past_up o false x l r xl h = at_most (cmp_row_is o) x l r xl h

past_at_most : (o : Options) (strict : Bool) (x r : List Cell) → Past o strict x r → AtMost (cmp_row o) x r
past_at_most o true x r h = less_at_most (cmp_row_is o) x r h
past_at_most o false x r h = h

-- By keys, in one group: what is past x is not on Backward's side of x, and is on Forward's.
not_back : (o : Options) (q : Bool) (x r : List Cell) → cmp_group o x r ≡ Equal → Past o q x r → on_side Backward q (cmp_key o r x) ≡ true → ⊥
not_back o true x r e h s = back_side true (cmp_key o r x) s (less_greater (cmp_key_is o) x r (key_less o x r e h))
not_back o false x r e h s = key_at_most o x r e h (less_greater (cmp_key_is o) r x (back_less (cmp_key o r x) s))

on_fore : (o : Options) (q : Bool) (x r : List Cell) → cmp_group o x r ≡ Equal → Past o (not q) x r → on_side Forward q (cmp_key o r x) ≡ true
on_fore o true x r e h = side_fore (cmp_key o r x) (λ l. key_at_most o x r e h (less_greater (cmp_key_is o) r x l))
on_fore o false x r e h = rw (less_greater (cmp_key_is o) x r (key_less o x r e h))

module _ (o : Options) (x : List Cell) where
  -- A row h between x and a row f that may be chosen: it may be chosen if it is on the side.
  module _ (h f : List Cell) (xh : AtMost (cmp_row o) x h) (hf : AtMost (cmp_row o) h f) (m : May o x f) where
    between : Inside o x h f
    between = inside o x h f xh hf (equal_flip (cmp_group_is o) f x m.group)

    may_between : on_side (strategy_of o) o.allow_eq (cmp_key o h x) ≡ true → may o x h ≡ true
    may_between s = may_too o x f h m (equal_flip (cmp_group_is o) x h between.before) (key_up (key_of o x) (key_of o h) between.from m.left) s

  -- A held row between x and f that is on x's side and that f does not take over.
  record Rival (w : Strategy) (held : Rows) (f : List Cell) : Type 0 where
    at : ℕ
    there : at < length held
    from : AtMost (cmp_row o) x (get_or held at [])
    to : AtMost (cmp_row o) (get_or held at []) f
    side : on_side w o.allow_eq (cmp_key o (get_or held at []) x) ≡ true
    kept : takes_over o w x f (get_or held at []) ≡ false

  -- Forward's held row is such a row, and Nearest's, since f is farther; Backward leaves f no side.
  rival : (w : Strategy) (l : List Cell) (held : Rows) (f : List Cell) → AtMost (cmp_row o) x l → May o x f
      → on_side w o.allow_eq (cmp_key o f x) ≡ true → Enough o w l held f → Rival w held f
  unfolding takes_over
  rival Backward l held f xl m s e = absurd (not_back o o.allow_eq x f (equal_flip (cmp_group_is o) f x m.group) (past_up o o.allow_eq x l f xl e) s)
  rival Forward l held f xl m s e =
      let h = get_or held e.at [] in
      let p : Past o (not o.allow_eq) x h = past_up o (not o.allow_eq) x l h xl e.past in
      let a : AtMost (cmp_row o) x h = past_at_most o (not o.allow_eq) x h p in
      record { at = e.at; there = e.there; from = a; to = e.later; side = on_fore o o.allow_eq x h (between h f a e.later m).before p; kept = refl }
  rival Nearest l held f xl m s e =
      let h = get_or held e.at [] in
      let a : AtMost (cmp_row o) x h = less_at_most (cmp_row_is o) x h (then_less (cmp_row_is o) x l h xl e.past) in
      let b : AtMost (cmp_row o) h f = less_at_most (cmp_row_is o) h f e.later in
      let i : Inside o x h f = between h f a b m in
      let d : distance (key_of o h) (key_of o x) < distance (key_of o f) (key_of o x) =
      farther_above (key_of o x) (key_of o h) (key_of o f) m.left i.from (key_less o h f i.behind e.later) in
      record {
        at = e.at;
        there = e.there;
        from = a;
        to = b;
        side = refl;
        kept = is_false _ (λ t. omega (arith, nearer_least (key_of o x) (key_of o f) (key_of o h) t));
      }

  -- The choice among the held rows is not worse than that row, so f does not take it over either.
  abbrev Kept : List Cell → List Cell → Type 0
  Kept f c = takes_over o (strategy_of o) x f c ≡ false

  has_keeps : (f : List Cell) (c : Hit) → Has (Kept f) c → Keeps o x (may o x) c f
  has_keeps f nobody h = absurd h
  has_keeps f (hit n c) h = λ t. h

  rival_keeps : (held : Rows) (f : List Cell) (i : ℕ) → May o x f → Rival (strategy_of o) held f → Keeps o x (may o x) (choose o x (may o x) nobody i held) f
  rival_keeps held f i m r =
      has_keeps f (choose o x (may o x) nobody i held)
      (choose_best o x (may o x) (Kept f)
      (λ s c t k. is_false _ (λ u. never _ (over_then o x f s c (strategy_of o) u t) k))
      nobody i held r.at r.there (may_between (get_or held r.at []) f r.from r.to m r.side) r.kept
      (λ c t. is_false _ (λ u. never _ (over_or o x f c (get_or held r.at []) (strategy_of o) u t) r.kept)))

  settled_keeps : (l : List Cell) (held : Rows) (i : ℕ) → AtMost (cmp_row o) x l → (f : List Cell) → Settled o l held f
      → Keeps o x (may o x) (choose o x (may o x) nobody i held) f
  settled_keeps l held i xl f (inl g) = keeps_dead o x (may o x) (choose o x (may o x) nobody i held) f
      (is_false (may o x f)
      (λ t. not_both (cmp_group_is o) x f (then_less (cmp_group_is o) x l f (group_at_most o x l xl) g) (equal_at_most (cmp_group_is o) f x (may_out o x f t).group)))
  settled_keeps l held i xl f (inr e) = by (may o x f) refl
    where
      by : (t : Bool) → may o x f ≡ t → Keeps o x (may o x) (choose o x (may o x) nobody i held) f
      by true t = let m = may_out o x f t in rival_keeps held f i m (rival (strategy_of o) l held f xl m m.side e)
      by false t = keeps_dead o x (may o x) (choose o x (may o x) nobody i held) f t

pub enough_keeps : (o : Options) (l : List Cell) (held F : Rows) → All (Settled o l held) F → (x : List Cell) → AtMost (cmp_row o) x l → (i : ℕ)
    → match_table o i (held ++ F) x ≡ match_table o i held x
unfolding match_table
enough_keeps o l held F s x xl i = ap (tolerate o x) (choose_wait o x (may o x) nobody i held F (all_map (Settled o l held) _ (settled_keeps o x l held i xl) F s))
