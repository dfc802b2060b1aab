-- The places of rows that a limit may ask for, row by row and batch by batch.
use Rattle.std.proofs.Common.{◌≡◌, ℕ, ◌+◌, ◌<◌, ◌≤◌, List, [], ◌∷◌, ◌++◌, sym, ◌∙◌, ap, subst, length, take, get_or, map}
use Rattle.std.specs.Prelude.{Option}
use Rattle.std.proofs.lemmas.List.{take_more, take_all, map-append, append_assoc, append-nil, get_or_default}
use Rattle.base_row_laws.specs.Ranked.{Ranked, ranked, Relation, relation}
use Rattle.base_value.specs.declared.value.Value.{Value}
use Rattle.base_columns.specs.declared.column_builder.ColumnForm.{ColumnForm}
use Rattle.base_columns.specs.Batches.{row_at}
use Rattle.base_columns.specs.Bags.{bag_rows}
use Rattle.base_columns.proofs.BagLists.{bag_rows-more}
use Rattle.base_order_limit.specs.declared.key.OrderKey.{OrderKey}
use Rattle.base_order_limit.specs.Answers.{row_values}
use Rattle.exec_ordered_rows.specs.Limits.{AreEnough}
use Rattle.exec_ordered_rows.specs.Places.{placed_row, placed_rows, rows_of}
use Rattle.exec_ordered_rows.specs.Sketches.{AreSketched, IsSketched}
use Rattle.exec_ordered_rows.specs.declared.place.RowPlace.{RowPlace}
use Rattle.exec_ordered_rows.proofs.CellReads.{all_push}
use Rattle.exec_ordered_rows.proofs.Limits.{all_are_enough, enough_more}

-- places that stand for a start and the values of rows
pub record Put (keys : List OrderKey) (limit : Option ℕ) (form : ColumnForm)
    (batches : List (Relation Value)) (start : List (List Value)) (rows : List (Ranked Value))
    (places : List RowPlace) : Type 0 where
  pub enough : AreEnough keys limit (placed_rows batches places) (start ++ map row_values rows)
  pub sketched : AreSketched keys form batches places

module _ (keys : List OrderKey) (limit : Option ℕ) (form : ColumnForm)
    (bs : List (Relation Value)) where
  pub put_none : (places : List RowPlace) (start : List (List Value))
      → AreSketched keys form bs places → placed_rows bs places ≡ start
      → Put keys limit form bs start [] places
  put_none places start a e = record {
    enough = subst (AreEnough keys limit (placed_rows bs places)) (e ∙ sym (append-nil start))
        (all_are_enough keys limit (placed_rows bs places));
    sketched = a;
  }

  -- more rows
  put_after : (start : List (List Value)) (xs ys : List (Ranked Value))
      (places places' : List RowPlace) → Put keys limit form bs start xs places
      → Put keys limit form bs (placed_rows bs places) ys places'
      → Put keys limit form bs start (xs ++ ys) places'
  put_after start xs ys places places' a b = record {
    enough =
        let all : (start ++ map row_values xs) ++ map row_values ys
        ≡ start ++ map row_values (xs ++ ys) =
        append_assoc start (map row_values xs) (map row_values ys)
        ∙ ap (λ l. start ++ l) (sym (map-append row_values xs ys)) in
        subst (AreEnough keys limit (placed_rows bs places')) all
        (enough_more keys limit (start ++ map row_values xs) (placed_rows bs places)
        (map row_values ys) (placed_rows bs places') a.enough b.enough);
    sketched = b.sketched;
  }

  -- a place more
  pub push_sketched : (places pushed : List RowPlace) (p : RowPlace)
      → AreSketched keys form bs places → IsSketched keys form bs p → pushed ≡ places ++ p ∷ []
      → AreSketched keys form bs pushed
  push_sketched places pushed p a one e =
      subst (AreSketched keys form bs) (sym e) (all_push (IsSketched keys form bs) places p a one)

  -- one row more
  pub put_more : (start : List (List Value)) (xs : List (Ranked Value)) (i : ℕ)
      (places pushed places' : List RowPlace) (p : RowPlace) → i < length xs
      → placed_row bs p ≡ (row_at xs i).values → pushed ≡ places ++ p ∷ []
      → AreEnough keys limit (placed_rows bs places') (placed_rows bs pushed)
      → AreSketched keys form bs places' → Put keys limit form bs start (take i xs) places
      → Put keys limit form bs start (take (i + 1) xs) places'
  put_more start xs i places pushed places' p lt is push enough sketched before =
      let longer : take (i + 1) xs ≡ take i xs ++ row_at xs i ∷ [] =
      take_more xs i (ranked [] 5) lt in
      let one : Put keys limit form bs (placed_rows bs places) (row_at xs i ∷ []) places' = record {
        enough = subst (AreEnough keys limit (placed_rows bs places'))
            (ap (placed_rows bs) push ∙ map-append (placed_row bs) places (p ∷ [])
            ∙ ap (λ v. placed_rows bs places ++ v ∷ []) is) enough;
        sketched = sketched;
      } in
      subst (λ l. Put keys limit form bs start l places') (sym longer)
      (put_after start (take i xs) (row_at xs i ∷ []) places places' before one)

  pub put_all : (start : List (List Value)) (xs : List (Ranked Value)) (i : ℕ)
      (places : List RowPlace) → length xs ≤ i → Put keys limit form bs start (take i xs) places
      → Put keys limit form bs start xs places
  put_all start xs i places e p =
      subst (λ l. Put keys limit form bs start l places) (take_all i xs e) p

  -- one batch more
  pub put_batch : (start : List (List Value)) (i : ℕ) (places places' : List RowPlace)
      → i < length bs
      → AreEnough keys limit (placed_rows bs places')
      (placed_rows bs places ++ map row_values (rows_of bs i))
      → AreSketched keys form bs places'
      → Put keys limit form bs start (bag_rows (take i bs)) places
      → Put keys limit form bs start (bag_rows (take (i + 1) bs)) places'
  put_batch start i places places' lt enough sketched before =
      let b = get_or bs i (relation 0 []) in
      let more : bag_rows (take (i + 1) bs) ≡ bag_rows (take i bs) ++ b.rows =
      bag_rows-more bs i b lt (get_or_default bs i (relation 0 []) b lt) in
      subst (λ l. Put keys limit form bs start l places') (sym more)
      (put_after start (bag_rows (take i bs)) b.rows places places' before
      (record { enough = enough; sketched = sketched }))

  -- all batches
  pub put_end : (start : List (List Value)) (i : ℕ) (places : List RowPlace) → length bs ≤ i
      → Put keys limit form bs start (bag_rows (take i bs)) places
      → Put keys limit form bs start (bag_rows bs) places
  put_end start i places e p =
      subst (λ l. Put keys limit form bs start l places) (ap bag_rows (take_all i bs e)) p
