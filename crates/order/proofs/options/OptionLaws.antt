-- What is known of options that are not refused. Assumes nothing.
use mathlib.Core.Path.{◌≡◌, refl}
use mathlib.Core.Bool.{Bool, true, false, ◌&&◌, ◌||◌}
use mathlib.Core.List.{[]}
use Prim.Native.Nat.{ℕ, ◌≤◌}
use native.Mathlib.Omega.{arith}
use borrow.Author.Tests.{ltb-false}
use lib.Dec.{ltb, eqb}
use lib.ListN.{length, get_or}
use lib.Signed.{lt_z}
use Rattle.order.specs.ranks.Ranks.{codes_of}
use Rattle.order.proofs.ranks.KeptLaws.{Kept, kept}
use Rattle.order.specs.options.Options.{bad_options, many_carried, bad_ranked, refused_options, Few, Rule, is_ranked, by_rule}
use Rattle.order.specs.declared.options.Options.{Options}

-- Of an `||` that is false each side is.
pub or_both : (a b : Bool) → (a || b) ≡ false → (a ≡ false) × (b ≡ false)
or_both true b e = let z : ◌≡◌ {A = ℕ} 0 1 = cc in absurd (omega arith)
or_both false b e = (refl, e)

-- At most four by-columns.
pub few_columns : (o : Options) → bad_options o ≡ false → o.by ≤ 4
unfolding bad_options
few_columns o e =
    let p = or_both (ltb 4 o.by || ltb 2 o.strategy || lt_z o.tolerance _) _ e in
    let q = or_both (ltb 4 o.by || ltb 2 o.strategy) _ p.0 in
    ltb-false 4 o.by (or_both (ltb 4 o.by) _ q.0).0

-- Options that opening does not refuse: SCOPE 3.6, 3.8 and 3.10 hold of them, so their columns are few.
pub record Allowed (o : Options) : Type 0 where
  pub options : bad_options o ≡ false
  pub by : o.by ≤ 4
  pub list : bad_ranked o ≡ false
  pub carried : o.carried ≤ 8

pub allowed_parts : (o : Options) → refused_options o ≡ false → Allowed o
unfolding refused_options
allowed_parts o e =
    let p = or_both (bad_options o || many_carried o) (bad_ranked o) e in
    let q = or_both (bad_options o) (many_carried o) p.0 in
    record { options = q.0; by = few_columns o q.0; list = p.1; carried = ltb-false 8 o.carried q.1 }

-- By them rows can be compared, if all words of the list are there.
pub allowed_few : (o : Options) → Allowed o → 64 ≤ length o.ranks.codes → 64 ≤ length o.ranks.rising → Few o
allowed_few o a codes rising = record { by = a.by; list = a.list; there = λ e. (codes, rising) }

-- Invalid options are refused.
pub bad_refused : (o : Options) → bad_options o ≡ true → refused_options o ≡ true
unfolding refused_options
bad_refused o e = rw e

-- Options that are valid, carry few columns and have no bad list are not refused.
pub good_allowed : (o : Options) → bad_options o ≡ false → many_carried o ≡ false → bad_ranked o ≡ false → refused_options o ≡ false
unfolding refused_options
good_allowed o e f g = rw (e, f, g)

-- ---- the rules of by-columns
-- A column that has the list: a list is given.
pub ranked_given : (o : Options) (j : ℕ) → is_ranked o j ≡ true → o.ranks.given ≡ true
ranked_given o j e = first o.ranks.given (eqb j o.ranks.column) e
  where
    first : (a b : Bool) → (a && b) ≡ true → a ≡ true
    first true b e = refl
    first false b e = e

-- So rows can be compared by its list.
pub ranked_list : (o : Options) (j : ℕ) → is_ranked o j ≡ true → Few o → Kept o.ranks
ranked_list o j e few =
    let g = ranked_given o j e in
    kept o.by o.ranks g few.list (few.there g).0 (few.there g).1

-- Its rule has the list's codes; that of every other by-column has none.
pub ranked_rule : (o : Options) (j : ℕ) → is_ranked o j ≡ true
    → ◌≡◌ {A = Rule} (record { descending = get_or o.descending j false; nulls_last = get_or o.nulls_last j false; codes = codes_of o.ranks }) (by_rule o j)
ranked_rule o j e = rw e

pub plain_rule : (o : Options) (j : ℕ) → is_ranked o j ≡ false
    → ◌≡◌ {A = Rule} (record { descending = get_or o.descending j false; nulls_last = get_or o.nulls_last j false; codes = [] }) (by_rule o j)
plain_rule o j e = rw e
