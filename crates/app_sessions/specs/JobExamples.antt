-- Reports of jobs, worked out by hand over two orders.
use Rattle.std.specs.Prelude.{◌≡◌, List, [], ◌∷◌, ◌++◌, true, false, pos, codes, Some}
use Rattle.base_value.specs.declared.value.Value.{Value}
use Rattle.base_value.specs.declared.value.Value.TheVariants.{Date, Number, Text}
use Rattle.store_snapshots.specs.Turns.{from_nobody}
use Rattle.store_state.specs.Refresh.{Change, DeleteKeys, InsertRows}
use Rattle.sql_bound_query.specs.Examples.{small, whole}
use Rattle.app_sessions.specs.Jobs.{are_refreshes_accepted, job_text, refreshes_text}
use Rattle.app_sessions.specs.Orders.{RefreshOrder, changes_of}

-- a third order, and its lineitem
abbrev pub order_nine : List Value
order_nine =
    whole 9 ∷ whole 2 ∷ Text (codes "O") ∷ Number 2 (pos 500) ∷ Date 19960104
    ∷ Text (codes "5-LOW") ∷ Text (codes "K") ∷ whole 0 ∷ Text (codes "z") ∷ []

-- the lineitem of that order
abbrev pub line_nine : List Value
line_nine =
    whole 9 ∷ whole 1 ∷ whole 1 ∷ whole 1 ∷ Number 2 (pos 100) ∷ Number 2 (pos 500)
    ∷ Number 2 (pos 0) ∷ Number 2 (pos 0) ∷ Text (codes "N") ∷ Text (codes "O") ∷ Date 19960201
    ∷ Date 19960202 ∷ Date 19960203 ∷ Text (codes "NONE") ∷ Text (codes "MAIL") ∷ Text (codes "w")
    ∷ []

-- they are inserted
abbrev pub insert_nine : Change
insert_nine = InsertRows (order_nine ∷ []) (line_nine ∷ [])

-- the order 7 is deleted
abbrev pub delete_seven : Change
delete_seven = DeleteKeys (pos 7 ∷ [])

-- each of two senders sends one of these, and one or the other is tried first
abbrev pub delete_first : RefreshOrder
delete_first = (Some 1, delete_seven) ∷ (Some 2, insert_nine) ∷ []

-- the other one first
abbrev pub insert_first : RefreshOrder
insert_first = (Some 2, insert_nine) ∷ (Some 1, delete_seven) ∷ []

-- one sender sends the insert twice
abbrev pub insert_twice : RefreshOrder
insert_twice = (Some 1, insert_nine) ∷ (Some 1, insert_nine) ∷ []

-- a list without senders
abbrev pub three_listed : RefreshOrder
three_listed = from_nobody (insert_nine ∷ insert_nine ∷ delete_seven ∷ [])

-- what the definitions say of these
pub record JobExamples : Type 0 where
  pub deleted_first : job_text small delete_first 0 [] []
      ≡ codes "refresh 1 from 1 version 1\nrefresh 2 from 2 version 2\nclosing version 2\n"
      ++ codes "region rows 5\nnation rows 0\npart rows 0\nsupplier rows 0\npartsupp rows 0\n"
      ++ codes "customer rows 2\norders rows 2\nlineitem rows 1\n"
  pub inserted_first : refreshes_text small insert_first 0
      ≡ codes "refresh 1 from 2 version 1\nrefresh 2 from 1 version 2\n"
  pub none_refused : are_refreshes_accepted small insert_first 0 ≡ true
  pub refused : refreshes_text small insert_twice 0
      ≡ codes "refresh 1 from 1 version 1\nrefresh 2 from 1 refused 41 OrderExists 9\n"
  pub not_clean : are_refreshes_accepted small insert_twice 0 ≡ false
  -- without senders
  pub listed : refreshes_text small three_listed 0
      ≡ codes "refresh 1 version 1\nrefresh 2 refused 41 OrderExists 9\nrefresh 3 version 2\n"
  -- the first one was done before the job began
  pub kept : refreshes_text small three_listed 1
      ≡ codes "refresh 1 refused 41 OrderExists 9\nrefresh 2 version 2\n"
  pub changes : changes_of three_listed ≡ insert_nine ∷ insert_nine ∷ delete_seven ∷ []
