-- What a split drops changes no match of a left row from the splitting one on. Assumes nothing.
use mathlib.Core.Path.{◌≡◌, refl, sym, ap, ◌∙◌}
use mathlib.Core.Bool.{true}
use mathlib.Core.List.{List, [], ◌++◌, append_assoc}
use mathlib.Core.Logic.{inl, inr}
use Prim.Native.Nat.{ℕ, ◌+◌, ◌<◌}
use native.Mathlib.Omega.{arith}
use lib.ListN.{length, get_or, take, drop, take-append-drop}
use lib.Seq.{drop-cons, get_or-take, length-take-le}
use Rattle.frames.specs.Cells.{Cell, Rows}
use Rattle.order.specs.options.Options.{strategy_of}
use Rattle.order.specs.Order.{cmp_group, cmp_row, key_of, sorted}
use Rattle.order.proofs.OrderLaws.{AtMost, cmp_group_is, cmp_row_is, cmp_key_is, cmp_key, less_at_most, equal_at_most, equal_flip, not_both, less_then, group_at_most, row_by_key}
use Rattle.order.proofs.SortedLaws.{all_by, sorted_cut, sorted_at}
use Rattle.order.proofs.KeyLaws.{Inside, inside, key_less, key_up, nearer_below}
use Rattle.order.specs.declared.options.Options.{Options}
use Rattle.std.specs.declared.cmp.Ordering.TheVariants.{Less, Equal}
use Rattle.order.specs.declared.options.Strategy.{Strategy}
use Rattle.order.specs.declared.options.Strategy.TheVariants.{Backward, Forward, Nearest}
use Rattle.searching.proofs.Promise.{Covered, Dropped, Split}
use Rattle.matching.specs.Match.{on_side, takes_over, choose, nobody, tolerate, match_table}
use Rattle.matching.proofs.ChoiceLaws.{Wins, choose_skip}
use Rattle.matching.proofs.MayLaws.{may, May, may_out, may_too, fore_side, nearer_by}

-- Left rows t ≤ x, and a dropped row a that may be chosen for x.
module _ (o : Options) (t x a : List Cell) (tx : AtMost (cmp_row o) t x) (m : May o x a) where
  -- It is not of an earlier group.
  same_group_lem : cmp_group o a t ≡ Less → ⊥
  same_group_lem l =
      not_both (cmp_group_is o) a x (less_then (cmp_group_is o) a t x l (group_at_most o t x tx))
      (equal_at_most (cmp_group_is o) x a (equal_flip (cmp_group_is o) a x m.group))

  -- So it is covered; and by every strategy that may drop it, a row b with keys a ≤ b < x is on x's side and beats it.
  abbrev Beaten : Strategy → Type 0
  Beaten w =
      (b : List Cell) → AtMost (cmp_key o) a b → cmp_key o b x ≡ Less → (on_side w o.allow_eq (cmp_key o b x) ≡ true) × (takes_over o w x b a ≡ true)

  beaten : (w : Strategy) (held : Rows) (p : ℕ) → Dropped o w t held p a → on_side w o.allow_eq (cmp_key o a x) ≡ true → Covered o t held p × Beaten w
  unfolding takes_over
  beaten Backward held p (inl g) s = absurd (same_group_lem g)
  beaten Backward held p (inr c) s = (c, λ b h l. (rw l, refl))
  beaten Forward held p l s = absurd (fore_side o.allow_eq (cmp_key o a x) s (key_less o a x m.group (less_then (cmp_row_is o) a t x l tx)))
  beaten Nearest held p (inl g) s = absurd (same_group_lem g)
  beaten Nearest held p (inr c) s =
      (c, λ b h l. (refl, nearer_by (key_of o x) (key_of o b) (key_of o a) (nearer_below (key_of o x) (key_of o b) (key_of o a) m.right h (less_at_most (cmp_key_is o) b x l)) h))

  -- The row b that covers it may be chosen too, and beats it.
  cover : (b : List Cell) → AtMost (cmp_row o) a b → cmp_group o b t ≡ Equal → cmp_key o b t ≡ Less → Beaten (strategy_of o)
      → (may o x b ≡ true) × (takes_over o (strategy_of o) x b a ≡ true)
  cover b ab g l w =
      let bx : cmp_row o b x ≡ Less = less_then (cmp_row_is o) b t x (row_by_key o b t g ∙ l) tx in
      let i : Inside o a b x = inside o a b x ab (less_at_most (cmp_row_is o) b x bx) m.group in
      let v = w b i.from (key_less o b x i.behind bx) in
      (may_too o x a b m i.behind (key_up (key_of o a) (key_of o b) i.from m.right) v.0, v.1)

pub prune_keeps : (o : Options) (t : List Cell) (held F : Rows) (p : ℕ) → Split o t held p → sorted o (held ++ F) ≡ true → (x : List Cell)
    → AtMost (cmp_row o) t x → (i : ℕ) → match_table o i (held ++ F) x ≡ match_table o (i + p) (drop p held ++ F) x
unfolding match_table
prune_keeps o t held F p s e x tx i =
    ap (tolerate o x) (ap (choose o x (may o x) nobody i) parts ∙ choose_skip o x (may o x) i (take p held) rest (all_by _ (take p held) wins)
    ∙ ap (λ (n : ℕ). choose o x (may o x) nobody (i + n) rest) (length-take-le p held s.within))
  where
    rest : Rows
    rest = drop p held ++ F

    parts : held ++ F ≡ take p held ++ rest
    parts = ap (λ (z : Rows). z ++ F) (sym (take-append-drop p held)) ∙ append_assoc (take p held) (drop p held) F

    wins : (k : ℕ) → k < length (take p held) → may o x (get_or (take p held) k []) ≡ true → Wins o x (may o x) rest (get_or (take p held) k [])
    wins k l u =
        let kp : k < p = rw (length-take-le p held s.within) at l in
        let a = get_or held k [] in
        let q : get_or (take p held) k [] ≡ a = get_or-take p held k [] kp in
        let m : May o x a = may_out o x a (rw q at u) in
        let c = beaten o t x a tx m (strategy_of o) held p (s.dropped k kp) m.side in
        rw (q, drop-cons held p [] c.0.there)
        (cover o t x a tx m (get_or held p []) (sorted_at o held (sorted_cut o held F e).0 k p (omega arith) c.0.there) c.0.group c.0.key c.1)
