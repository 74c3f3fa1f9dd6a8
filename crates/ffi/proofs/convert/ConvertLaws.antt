-- Options and joins there and back. Assumes nothing.
use Rattle.std.specs.Prelude.{None, Some}
use mathlib.Core.Path.{◌≡◌, refl}
use mathlib.Core.Bool.{Bool, true, false, cond, ◌&&◌}
use Prim.Native.Nat.{ℕ, ◌<◌}
use native.Mathlib.Omega.{arith}
use borrow.Author.Tests.{eqb-true}
use lib.Dec.{eqb}
use Rattle.order.specs.declared.options.Options.{Options}
use Rattle.order.specs.declared.Row.{Row}
use Rattle.node.specs.declared.Join.{Join}
use Rattle.ffi.specs.codes.Codes.{is_flag, is_code}
use Rattle.ffi.specs.convert.Convert.{layout_now, row_of, encode_row, is_join, join_of, encode, decode, ThereAndBack}
use Rattle.ffi.specs.hostoptions.HostOptions.{is_options, kept_ranks, given_ranks, options_of, encode_options, decode_options}
use Rattle.ffi.specs.declared.hostoptions.HostOptions.{HostOptions}
use Rattle.ffi.proofs.hostoptions.OptionsLaws.{options_parts, options_is, ranks_same, ranks_numbers, options_same, numbers_same, given_numbers}
use Rattle.ffi.specs.declared.convert.HostRow.{HostRow}
use Rattle.ffi.specs.declared.convert.HostJoin.{HostJoin}
use Rattle.ffi.proofs.codes.CodeLaws.{and_both, flag_is, flag_back, flag_there, state_is, state_back, state_there}

-- ---- a remembered row
pub row_same : (r : Row) → row_of (encode_row r) ≡ r
row_same r = rw (flag_back r.some)

pub row_numbers : (h : HostRow) → is_flag h.some ≡ true → encode_row (row_of h) ≡ h
row_numbers h e = rw (flag_there h.some e)

-- ---- the join
pub record JoinParts (h : HostJoin) : Type 0 where
  pub layout : h.layout ≡ layout_now
  pub options : is_options h.options ≡ true
  pub state : is_code h.state ≡ true
  pub ended : is_flag h.right_ended ≡ true
  pub failed : is_flag h.failed ≡ true
  pub left : is_flag h.last_left.some ≡ true
  pub right : is_flag h.last_right.some ≡ true

pub join_parts : (h : HostJoin) → is_join h ≡ true → JoinParts h
unfolding is_join
join_parts h e =
    let flags = is_flag h.right_ended && is_flag h.failed in
    let rows = is_flag h.last_left.some && is_flag h.last_right.some in
    let l = and_both (eqb h.layout layout_now) ((is_options h.options && is_code h.state) && (flags && rows)) e in
    let p = and_both (is_options h.options && is_code h.state) (flags && rows) l.1 in
    let q = and_both (is_options h.options) (is_code h.state) p.0 in
    let r = and_both flags rows p.1 in
    let f = and_both (is_flag h.right_ended) (is_flag h.failed) r.0 in
    let s = and_both (is_flag h.last_left.some) (is_flag h.last_right.some) r.1 in
    record { layout = eqb-true h.layout layout_now l.0; options = q.0; state = q.1; ended = f.0; failed = f.1; left = s.0; right = s.1 }

pub join_is : (j : Join) → j.options.strategy < 256 → is_join (encode j) ≡ true
unfolding is_join
join_is j b =
    rw (options_is j.options b, state_is j.state, flag_is j.right_ended, flag_is j.failed, flag_is j.last_left.some, flag_is j.last_right.some)

pub join_same : (j : Join) → join_of (encode j) ≡ j
join_same j =
    rw (options_same j.options (kept_ranks (encode_options j.options).ranks j.options.ranks.rising) (ranks_same j.options.ranks), state_back j.state, flag_back j.right_ended, flag_back j.failed, row_same j.last_left, row_same j.last_right)

pub join_numbers : (h : HostJoin) → is_join h ≡ true → encode (join_of h) ≡ h
join_numbers h e =
    let p = join_parts h e in
    let k = kept_ranks h.options.ranks h.rising in
    rw (← p.layout, numbers_same h.options k p.options (ranks_numbers h.options.ranks k (options_parts h.options p.options).given refl), state_there h.state p.state, flag_there h.right_ended p.ended, flag_there h.failed p.failed, row_numbers h.last_left p.left, row_numbers h.last_right p.right)

-- ---- there and back
-- What a test lets pass is what stands behind it.
passed : {A : Type 0} (t : Bool) (x y : A) → cond t (Some x) None ≡ Some y → (t ≡ true) × (x ≡ y)
passed true x y e = (refl, cc)
passed false x y e = let z : ◌≡◌ {A = ℕ} 0 1 = cc in absurd (omega arith)

-- Numbers that are options o.
pub decoded_options : (h : HostOptions) (o : Options) → decode_options h ≡ Some o → (is_options h ≡ true) × (options_of h ≡ o)
unfolding decode_options
decoded_options h o e = passed (is_options h) (options_of h) o e

-- Numbers that are join j.
pub record Is (h : HostJoin) (j : Join) : Type 0 where
  pub numbers : is_join h ≡ true
  pub join : join_of h ≡ j
  pub byte : j.options.strategy < 256

pub decoded : (h : HostJoin) (j : Join) → decode h ≡ Some j → Is h j
unfolding decode
decoded h j e =
    let p = passed (is_join h) (join_of h) j e in
    record { numbers = p.0; join = p.1; byte = rw (← p.1) (options_parts h.options (join_parts h p.0).options).byte }

pub there_and_back : ThereAndBack
unfolding decode_options decode
there_and_back = record {
  options_back = λ o b s. rw (options_is o b, options_same o (given_ranks (encode_options o).ranks) s);
  options_there = λ h o e. let p = passed (is_options h) (options_of h) o e in rw (← p.1) (numbers_same h (given_ranks h.ranks) p.0 (given_numbers h.ranks (options_parts h p.0).given));
  join_back = λ j b. rw (join_is j b, join_same j);
  join_there = λ h j e. let p = passed (is_join h) (join_of h) j e in rw (← p.1) (join_numbers h p.0);
}
