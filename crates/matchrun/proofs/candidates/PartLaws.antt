-- The parts that the code finds are candidates: by strategy for the left keys from f to l, then for all rows of a sorted left run. Assumes nothing.
use mathlib.Core.Path.{◌≡◌, refl, sym, ◌∙◌}
use mathlib.Core.Bool.{true, false, not}
use mathlib.Core.List.{List}
use mathlib.Core.Logic.{◌⊎◌, inl, inr}
use Prim.Native.Nat.{ℕ, ◌+◌, ◌-◌, ◌*◌, ◌≤◌, ◌<◌}
use native.Mathlib.Omega.{arith}
use native.Mathlib.Decide.{dec_lt}
use borrow.Author.Tests.{not-true}
use lib.IntN.{ℤ, pos}
use lib.ListN.{get_or}
use lib.Signed.{lt_z}
use Rattle.frames.specs.Cells.{Cell, value, is_null, Words, row_from}
use Rattle.order.specs.options.Options.{strategy_of, key_rule}
use Rattle.order.specs.Order.{cmp_cell, key_of}
use Rattle.order.specs.Requires.{RowsIn}
use Rattle.order.proofs.OrderLaws.{cmp_cell_is, cell_equal, three, three_less, not_less, at_most, at_most_equal}
use Rattle.order.proofs.KeyLaws.{key_up}
use Rattle.frames.proofs.BoolLaws.{and-true}
use Rattle.order.specs.declared.options.Options.{Options}
use Rattle.std.specs.declared.cmp.Ordering.TheVariants.{Less, Equal, Greater}
use Rattle.order.specs.declared.options.Strategy.TheVariants.{Backward, Forward, Nearest}
use Rattle.matching.specs.Match.{on_side, match_in}
use Rattle.matching.specs.Stretches.{between}
use Rattle.matching.specs.Moves.{FirstKey, key_at, NotAbove, fits_key}
use Rattle.matching.proofs.ScanLaws.{present}
use Rattle.matching.proofs.MayLaws.{never, back_side}
use Rattle.matching.proofs.GroupLaws.{map_same}
use Rattle.matching.proofs.BestLaws.{key_at_lem, none_null}
use Rattle.matching.proofs.RestLaws.{all_between, sorted_rising}
use Rattle.matchrun.specs.look.Fit.{LastFit, FirstFit}
use Rattle.matchrun.specs.candidates.Part.{Cut, LeftRun, Candidates}
use Rattle.matchrun.specs.declared.candidates.Part.{Part}
use Rattle.matchrun.proofs.candidates.CutLaws.{backward_cut, backward_whole, forward_cut, forward_whole, nearest_cut}

module _ (o : Options) (w at end : ℕ) (vs ms : Words) (rows : RowsIn o w end vs ms) (run : at ≤ end) where
  -- The whole run.
  pub whole : (f l : ℤ) → Cut o w at end vs ms f l (record { from = at; to = end })
  whole f l = record { start = omega arith; upward = run; within = omega arith; same = λ first x u ex fu ul. refl }

  module _ (told : strategy_of o ≡ Backward) (f l : ℤ) (hi : ℕ) (b : LastFit o.allow_eq (key_at o w vs ms) at end (value l) hi) (m : ℕ)
      (c : LastFit o.allow_eq (key_at o w vs ms) at hi (value f) m) where
    pub back_all : m ≡ at → Cut o w at end vs ms f l (record { from = at; to = hi })
    back_all e =
        record {
          start = omega arith;
          upward = b.start;
          within = b.within;
          same = λ first x u ex fu ul. backward_whole o w at end vs ms rows first x u ex told f l fu ul hi b;
        }

    pub back_from : at < m → Cut o w at end vs ms f l (record { from = m - 1; to = hi })
    back_from h =
        record {
          start = omega arith;
          upward = omega (arith, c.within);
          within = b.within;
          same = λ first x u ex fu ul. backward_cut o w at end vs ms rows first x u ex told f l fu ul hi b (m - 1) (omega (arith, h)) (omega (arith, h, c.within)) (c.fit h);
        }

  module _ (told : strategy_of o ≡ Forward) (f l : ℤ) (lo : ℕ) (b : FirstFit o.allow_eq (key_at o w vs ms) at end (value f) lo) (j : ℕ)
      (c : FirstFit o.allow_eq (key_at o w vs ms) lo end (value l) j) where
    pub fore_all : Cut o w at end vs ms f l (record { from = lo; to = end })
    fore_all =
        record {
          start = b.start;
          upward = b.within;
          within = omega arith;
          same = λ first x u ex fu ul. forward_whole o w at end vs ms rows first x u ex told f l fu ul lo b;
        }

    pub fore_to : j < end → Cut o w at end vs ms f l (record { from = lo; to = j + 1 })
    fore_to h =
        record {
          start = b.start;
          upward = omega (arith, c.start);
          within = omega (arith, h);
          same = λ first x u ex fu ul. forward_cut o w at end vs ms rows first x u ex told f l fu ul lo b j c.start h (c.fit h);
        }

  -- The row before hi fits v for Backward and its value is not below v: its key is v.
  last_key : (v : ℤ) (k : ℕ) → fits_key Backward true (value v) (key_at o w vs ms k) ≡ true → lt_z (get_or vs (k * w + o.by) (pos 0)) v ≡ false → key_at o w vs ms k ≡ value v
  last_key v k t n =
      let a = get_or vs (k * w + o.by) (pos 0) in
      let p = and-true (not (is_null (key_at o w vs ms k))) (on_side Backward true (cmp_cell key_rule (key_at o w vs ms k) (value v))) t in
      let e = present a (get_or ms (k * w + o.by) (pos 0)) (not-true (is_null (key_at o w vs ms k)) p.0) in
      by a e (rw e at p.1) n (three (cmp_cell_is key_rule) (value a) (value v))
    where
      by : (a : ℤ) → key_at o w vs ms k ≡ value a → on_side Backward true (cmp_cell key_rule (value a) (value v)) ≡ true → lt_z a v ≡ false
          → (cmp_cell key_rule (value a) (value v) ≡ Less) ⊎ ((cmp_cell key_rule (value a) (value v) ≡ Equal) ⊎ (cmp_cell key_rule (value a) (value v) ≡ Greater))
          → key_at o w vs ms k ≡ value v
      by a e s m (inl l) = never (lt_z a v) (three_less (lt_z a v) (lt_z v a) l) m
      by a e s m (inr (inl q)) = e ∙ cell_equal key_rule (value a) (value v) q
      by a e s m (inr (inr q)) = absurd (back_side true (cmp_cell key_rule (value a) (value v)) s q)

  pub near_one : strategy_of o ≡ Nearest → (v : ℤ) (hi : ℕ) → LastFit true (key_at o w vs ms) at end (value v) hi → at < hi
      → lt_z (get_or vs ((hi - 1) * w + o.by) (pos 0)) v ≡ false → Cut o w at end vs ms v v (record { from = hi - 1; to = hi })
  near_one told v hi b h n =
      let z : hi - 1 + 1 ≡ hi = omega arith in
      record {
        start = omega arith;
        upward = omega arith;
        within = b.within;
        same = λ first x u ex fu ul.
            let e : value v ≡ value u = cell_equal key_rule (value v) (value u) (at_most_equal (cmp_cell_is key_rule) (value v) (value u) fu ul) in
            rw z at
            (nearest_cut o w at end vs ms rows first x u ex told (hi - 1) (omega arith) (omega (arith, b.within)) (last_key v (hi - 1) (b.fit h) n ∙ e)
            (λ k g q. rw e at (b.behind k (omega (arith, g)) q)));
      }

-- The keys from f to l are f alone where l is not above f.
pub one_key : (o : Options) (w at end : ℕ) (vs ms : Words) (f l : ℤ) (r : Part) → lt_z f l ≡ false → Cut o w at end vs ms f f r → Cut o w at end vs ms f l r
one_key o w at end vs ms f l r n c =
    record {
      start = c.start;
      upward = c.upward;
      within = c.within;
      same = λ first x u ex fu ul. c.same first x u ex fu (at_most (cmp_cell_is key_rule) (value u) (value l) (value f) ul (not_less (cmp_cell_is key_rule) (value f) (value l) (λ e. never (lt_z f l) (three_less (lt_z f l) (lt_z l f) e) n)));
    }

-- ---- the rows of a sorted left run: null keys find nothing anywhere, the others lie between the first key and the last
module _ (o : Options) (wl from to : ℕ) (lv lm : Words) (left : LeftRun o wl from to lv lm) (wr at end : ℕ) (rv rm : Words) (run : at ≤ end) (i : ℕ)
    (q : FirstKey o wl from to lm i) where
  abbrev lkey : ℕ → Cell
  lkey k = key_at o wl lv lm k

  abbrev lval : ℕ → ℤ
  lval k = get_or lv (k * wl + o.by) (pos 0)

  abbrev lrow : ℕ → List Cell
  lrow k = row_from wl (k * wl) lv lm

  -- A null key finds nothing.
  null_row : (k a b : ℕ) (rs ss : List (List Cell)) → k < to → is_null (lkey k) ≡ true → match_in o a rs (lrow k) ≡ match_in o b ss (lrow k)
  null_row k a b rs ss h n =
      let e : is_null (key_of o (lrow k)) ≡ true = rw (key_at_lem o wl to lv lm left.rows k h) n in
      none_null o (lrow k) a rs e ∙ sym (none_null o (lrow k) b ss e)

  pub no_keys : i ≡ to → Candidates o wl from to lv lm wr at end rv rm (record { from = at; to = at })
  no_keys e =
      record {
        start = omega arith;
        upward = omega arith;
        within = run;
        same = λ first. map_same _ _ (between wl from to lv lm) (all_between wl lv lm _ from to (λ k g h. null_row k (first + at) (first + at) (between wr at end rv rm) (between wr at at rv rm) h (q.before lv k g (omega (arith, e, h)))));
      }

  module _ (r : Part) (h : i < to) (c : Cut o wr at end rv rm (lval i) (lval (to - 1)) r) where
    keyed : (k : ℕ) → i ≤ k → k < to → is_null (lkey k) ≡ false
    keyed k g l = key_up (lkey i) (lkey k) (sorted_rising o wl lv lm from to left.rows left.sorted i k q.start g l) (q.keyed lv h)

    is_value : (k : ℕ) → i ≤ k → k < to → lkey k ≡ value (lval k)
    is_value k g l = present (lval k) (get_or lm (k * wl + o.by) (pos 0)) (keyed k g l)

    not_above : (j k : ℕ) → i ≤ j → j ≤ k → k < to → NotAbove (value (lval j)) (value (lval k))
    not_above j k g m l = rw (is_value j g (omega (arith, m, l)), is_value k (omega (arith, g, m)) l) at (sorted_rising o wl lv lm from to left.rows left.sorted j k (omega (arith, q.start, g)) m l)

    row_same : (first k : ℕ) → from ≤ k → k < to → match_in o (first + at) (between wr at end rv rm) (lrow k) ≡ match_in o (first + r.from) (between wr r.from r.to rv rm) (lrow k)
    row_same first k g l = by (dec_lt k i)
      where
        by : Dec (k < i) → match_in o (first + at) (between wr at end rv rm) (lrow k) ≡ match_in o (first + r.from) (between wr r.from r.to rv rm) (lrow k)
        by (yes d) = null_row k (first + at) (first + r.from) (between wr at end rv rm) (between wr r.from r.to rv rm) l (q.before lv k g d)
        by (no d) =
            c.same first (lrow k) (lval k) (key_at_lem o wl to lv lm left.rows k l ∙ is_value k (omega (arith, d)) l)
            (not_above i k (omega arith) (omega (arith, d)) l) (not_above k (to - 1) (omega (arith, d)) (omega (arith, l)) (omega (arith, l)))

    pub from_keys : Candidates o wl from to lv lm wr at end rv rm r
    from_keys =
        record {
          start = c.start;
          upward = c.upward;
          within = c.within;
          same = λ first. map_same _ _ (between wl from to lv lm) (all_between wl lv lm _ from to (row_same first));
        }
