-- Refusals of a refresh, as they are printed.
use Rattle.std.specs.Prelude.{ℕ, List, codes}
use Rattle.base_refusals.specs.declared.refresh.RefreshFile.{RefreshFile}
use Rattle.base_refusals.specs.declared.refresh.RefreshFile.TheVariants.{Orders, Lineitem, Delete}
use Rattle.base_refusals.specs.declared.refresh.Cause.{Cause}
use Rattle.base_refusals.specs.declared.refresh.Cause.TheVariants.{OrderExists, OrderTwice, LineTwice}
use Rattle.base_refusals.specs.declared.refresh.Cause.TheVariants.{StrayLine, UnknownOrder, KeyTwice}
use Rattle.base_refusals.specs.declared.refresh.Cause.TheVariants.{Malformed, LineExists}

-- what stands before the set's number in the name of a refresh file
abbrev pub file_prefix : RefreshFile → List ℕ
file_prefix Orders = codes "orders.tbl.u"
file_prefix Lineitem = codes "lineitem.tbl.u"
file_prefix Delete = codes "delete."

-- the number of a refresh's cause
abbrev pub cause_number : Cause → ℕ
cause_number (OrderExists key) = 1
cause_number (OrderTwice key) = 2
cause_number (LineTwice key line) = 3
cause_number (StrayLine key) = 4
cause_number (UnknownOrder key) = 5
cause_number (KeyTwice key) = 6
cause_number (Malformed file set refusal) = 7
cause_number (LineExists key line) = 8

-- the name of a refresh's cause
abbrev pub cause_name : Cause → List ℕ
cause_name (OrderExists key) = codes "OrderExists"
cause_name (OrderTwice key) = codes "OrderTwice"
cause_name (LineTwice key line) = codes "LineTwice"
cause_name (StrayLine key) = codes "StrayLine"
cause_name (UnknownOrder key) = codes "UnknownOrder"
cause_name (KeyTwice key) = codes "KeyTwice"
cause_name (Malformed file set refusal) = codes "Malformed"
cause_name (LineExists key line) = codes "LineExists"
