-- Where a left row needs no more, whatever row comes behind the held ones changes no match up to it. Assumes nothing.
use mathlib.Core.Path.{◌≡◌, refl}
use mathlib.Core.Bool.{Bool, true, false, not, cond}
use mathlib.Core.List.{List, [], ◌++◌}
use mathlib.Core.Logic.{inl, inr}
use Prim.Native.Nat.{ℕ, ◌≤◌, ◌<◌}
use native.Mathlib.Omega.{arith}
use borrow.Author.Tests.{ltb-true, ltb-false, leb-false}
use lib.Dec.{ltb, leb, eqb}
use lib.ListN.{length, get_or}
use Rattle.frames.specs.Cells.{Cell, Rows}
use Rattle.order.specs.options.Options.{key_rule, strategy_of}
use Rattle.order.specs.Order.{cmp_group, cmp_row, key_of, sorted}
use Rattle.order.proofs.OrderLaws.{AtMost, greater_less, less_then, at_most, cmp_group_is, cmp_row_is, group_at_most}
use Rattle.order.proofs.SortedLaws.{All, all_at, all_by, sorted_at, sorted_cut}
use Rattle.order.specs.declared.options.Options.{Options}
use Rattle.order.specs.declared.options.Strategy.{Strategy}
use Rattle.order.specs.declared.options.Strategy.TheVariants.{Backward, Forward, Nearest}
use Rattle.searching.specs.Search.{meets}
use Rattle.searching.specs.Reach.{narrowed, find_key, seek_of, key_needs_more, row_needs_more}
use Rattle.searching.specs.declared.Seek.{Seek}
use Rattle.searching.specs.declared.Seek.TheVariants.{AtLeast, Above}
use Rattle.searching.proofs.Promise.{Past, Enough, Settled}
use Rattle.searching.proofs.Bounds.{Climbs, Bounds, find_within, above_is_greater, at_least_not_less, group_bounds, key_cut, beyond_cut}

-- ---- a chain of tests that answers no
no_first : (b c : Bool) → cond b true c ≡ false → (b ≡ false) × (c ≡ false)
no_first true c e = ((cc), (cc))
no_first false c e = (refl, e)

-- ---- past a row
-- A find of what is past l seeks what is above l, or where equal is enough what is at least l.
abbrev seek_past : Bool → Seek
seek_past strict = cond strict Above AtLeast

forward_seek : (eq : Bool) → seek_of Forward eq ≡ seek_past (not eq)
forward_seek true = refl
forward_seek false = refl

module _ (o : Options) (l : List Cell) where
  met_past : (strict : Bool) (r : List Cell) → meets (seek_past strict) (cmp_row o r l) ≡ true → Past o strict l r
  met_past true r e = greater_less (cmp_row_is o) r l (above_is_greater (cmp_row o r l) e)
  met_past false r e = λ g. at_least_not_less (cmp_row o r l) e (greater_less (cmp_row_is o) l r g)

  past_later : (strict : Bool) (r f : List Cell) → Past o strict l r → AtMost (cmp_row o) r f → Past o strict l f
  past_later true r f p h = less_then (cmp_row_is o) l r f p h
  past_later false r f p h = at_most (cmp_row_is o) l r f p h

-- ---- a row f behind the held rows
module _ (o : Options) (l : List Cell) (held : Rows) (up : Climbs (cmp_row o) held)
    (f : List Cell) (behind : (i : ℕ) → i < length held → AtMost (cmp_row o) (get_or held i []) f) where
  bounds : Bounds (cmp_group o) held l (narrowed o held l)
  bounds = group_bounds o l held up

  -- The first row past l, by the key.
  abbrev at : Bool → ℕ
  at strict = find_key o (seek_past strict) (key_of o l) held (narrowed o held l).start (narrowed o held l).end

  found : (strict : Bool) → at strict < length held → Past o strict l (get_or held (at strict) [])
  found strict h = met_past o l strict (get_or held (at strict) []) ((key_cut o l held up (seek_past strict)).after (at strict) (omega arith) h)

  -- By the key, where l's group is the last one held.
  by_key : (s : Strategy) → length held ≤ (narrowed o held l).end → key_needs_more o s (key_of o l) held (narrowed o held l) ≡ false → Enough o s l held f
  unfolding key_needs_more
  by_key Backward w e =
      let h : at o.allow_eq < length held = leb-false (length held) _ e in
      past_later o l o.allow_eq (get_or held (at o.allow_eq) []) f (found o.allow_eq h) (behind _ h)
  by_key Forward w e =
      let h : at (not o.allow_eq) < length held = leb-false (length held) _ (rw (forward_seek o.allow_eq) at e) in
      record { at = at (not o.allow_eq); there = h; past = found (not o.allow_eq) h; later = behind _ h }
  by_key Nearest w e =
      let n = no_first (leb (length held) (at true)) _ e in
      let h : at true < length held = leb-false (length held) (at true) n.0 in
      let b = find_within Above key_rule o.by (key_of o l) held (narrowed o held l).start (narrowed o held l).end bounds.inside.ordered in
      let c = beyond_cut o l held up (at true) b.0 (omega arith) in
      let k = leb-false (length held) _ n.1 in
      record {
        at = at true;
        there = h;
        past = found true h;
        later = less_then (cmp_row_is o) (get_or held (at true) []) _ f (greater_less (cmp_row_is o) _ (get_or held (at true) []) (above_is_greater _ (c.after _ (omega arith) k))) (behind _ k);
      }

  settled : row_needs_more o l held ≡ false → Settled o l held f
  unfolding row_needs_more
  settled e = by (ltb (narrowed o held l).end (length held)) refl
      (no_first (eqb (narrowed o held l).start (length held)) _ (no_first (eqb (length held) 0) _ e).1).1
    where
      by : (b : Bool) → ltb (narrowed o held l).end (length held) ≡ b
          → cond (ltb (narrowed o held l).end (length held)) false (key_needs_more o (strategy_of o) (key_of o l) held (narrowed o held l)) ≡ false → Settled o l held f
      by true t n =
          let h : (narrowed o held l).end < length held = ltb-true (narrowed o held l).end (length held) t in
          let r = get_or held (narrowed o held l).end [] in
          inl (less_then (cmp_group_is o) l r f (greater_less (cmp_group_is o) r l (bounds.after (narrowed o held l).end (omega arith) h)) (group_at_most o r f (behind (narrowed o held l).end h)))
      by false t n = inr (by_key (strategy_of o) (ltb-false (narrowed o held l).end (length held) t) (rw t at n))

pub enough : (o : Options) (l : List Cell) (held F : Rows) → sorted o (held ++ F) ≡ true → row_needs_more o l held ≡ false → All (Settled o l held) F
enough o l held F e n =
    let c = sorted_cut o held F e in
    all_by (Settled o l held) F (λ i h.
    settled o l held (sorted_at o held c.0) (get_or F i [])
    (λ m k. all_at (AtMost (cmp_row o) (get_or held m [])) F (all_at (λ a. All (AtMost (cmp_row o) a) F) held c.2 m k) i h) n)
