-- That the order of adding and joining does not matter: the account is what the sales add up to. The statement. Assumes nothing.
use Rattle.frames.specs.declared.refusals.Refusal.{Refusal}
use Rattle.std.specs.Prelude.{◌≡◌, true, false, List, [], ◌∷◌, ◌++◌, ℤ, pos, take, Result, Err, Option, None, Some, Ok}
use Rattle.frames.specs.Cells.{Words}
use Rattle.frames.specs.Frame.{frame_words, is_table}
use Rattle.order.specs.declared.options.Options.{Options}
use Rattle.takings.specs.Subtotals.{Subtotal, beyond_rows, beyond_number, Tells}
use Rattle.takings.specs.Sales.{Sale, amounts_of, nulls_of}
use Rattle.takings.specs.Calls.{After, table_width, table_words, rows_in, fine_subtotals, sales_by, add_call, join_call}
use Rattle.takings.specs.declared.Taken.{Taken}
use Rattle.takings.specs.Calls.{taken_of}

-- A table and the number beside it.
pub record Account : Type 0 where
  pub table : Words
  pub number : ℤ

-- An order of calls: from an empty table; a left frame with its answer frame added to what an order of calls gave; or what two orders of calls gave, joined.
-- Each call is lent an output of any words.
pub data Calls : Type 0 where
  fresh : Calls
  adding : Calls → Words → Words → Words → Calls
  joining : Calls → Calls → Words → Calls

-- An empty table, with nothing left out.
abbrev pub empty_account : Options → Account
empty_account o = record { table = table_words o []; number = pos 0 }

-- What a call that was not refused wrote.
abbrev pub took_by : Options → Words → Result Taken Refusal → Option Account
took_by o out (Ok t) = Some (record { table = take (frame_words t.rows (table_width o)) out; number = t.number })
took_by o out (Err r) = None

abbrev pub took : Options → After → Option Account
took o a = took_by o a.out a.answer

-- From what came before, if no call of it was refused.
abbrev pub after : Option Account → (Account → Option Account) → Option Account
after None f = None
after (Some a) f = f a

-- What an order of calls gives; none where a call is refused.
unfoldable pub given : Options → Calls → Option Account
given o fresh = Some (empty_account o)
given o (adding c left answer out) = after (given o c) (λ a. took o (add_call o a.table a.number left answer out))
given o (joining c d out) = after (given o c) (λ a. after (given o d) (λ b. took o (join_call o a.table a.number b.table b.number out)))

-- The sales themselves: all matched sales of its frames.
unfoldable pub all_sales : Options → Calls → List Sale
all_sales o fresh = []
all_sales o (adding c left answer out) = all_sales o c ++ sales_by o left answer
all_sales o (joining c d out) = all_sales o c ++ all_sales o d

-- The same sales in another order.
pub data Permuted : List Sale → List Sale → Type 0 where
  empty : Permuted [] []
  next : {x : Sale} {xs ys : List Sale} → Permuted xs ys → Permuted (x ∷ xs) (x ∷ ys)
  swap : {x y : Sale} {xs : List Sale} → Permuted (x ∷ y ∷ xs) (y ∷ x ∷ xs)
  then : {xs ys zs : List Sale} → Permuted xs ys → Permuted ys zs → Permuted xs zs

-- The account is what the sales add up to.
pub record Sums (o : Options) (sales : List Sale) (a : Account) : Type 0 where
  pub rows : List Subtotal
  pub words : a.table ≡ table_words o rows
  pub tells : Tells o rows (amounts_of sales)
  pub left_out : a.number ≡ pos (nulls_of sales)

-- The account can be handed on: no call refuses it by 5 or 14, nor by 15 for its own rows and its own number.
pub record HandedOn (o : Options) (a : Account) : Type 0 where
  pub table : is_table (table_width o) a.table ≡ true
  pub subtotals : fine_subtotals o a.table ≡ true
  pub rows : beyond_rows o (rows_in o a.table) ≡ false
  pub number : beyond_number a.number ≡ false

-- The statement: calls of which none is refused give what the sales add up to; and any two of them over the same
-- sales, whatever the frames, their order and the tree of joins, give the same table and number.
pub record AllOrders (o : Options) : Type 0 where
  pub sums : (c : Calls) (a : Account) → given o c ≡ Some a → Sums o (all_sales o c) a
  pub handed_on : (c : Calls) (a : Account) → given o c ≡ Some a → HandedOn o a
  pub same : (c d : Calls) (a b : Account) → given o c ≡ Some a → given o d ≡ Some b → Permuted (all_sales o c) (all_sales o d) → a ≡ b
