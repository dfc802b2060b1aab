-- What an item of FROM binds is typed.
use Rattle.std.proofs.Common.{◌≡◌, ℕ, ◌+◌, ◌-◌, ◌<◌, ◌≤◌, ◌==◌, List, [], ◌∷◌, length, map}
use Rattle.std.proofs.Common.{zero, suc, Bool, true, false, if◌then◌else◌, refl, sym, ap, ◌∙◌}
use Rattle.std.proofs.Common.{subst, arith}
use Rattle.std.specs.Prelude.{Option, Some, None, Ok, Err, slice_get, slice_index_or}
use Rattle.std.specs.Str.{bytes_eq}
use Rattle.std.proofs.lemmas.Bool.Decides.{Decides-eqb}
use Rattle.sql_bound_query.proofs.TypingOpened.{kinds_Table, kinds_Derived, kinds_Lateral}
use Rattle.sql_bound_query.specs.declared.query.BoundBlock.{BoundBlock}
use Rattle.sql_bound_query.specs.declared.query.BoundSource.{BoundSource}
use Rattle.sql_bound_query.specs.declared.query.BoundSource.TheVariants as source
use Rattle.sql_bound_query.specs.Typing.{EnvKinds, FromKinds}
use Rattle.sql_bound_query.specs.Typing.{column_kinds, block_kinds, from_kinds}
use Rattle.base_refusals.specs.declared.bind.BindRefusal.{BindRefusal}
use Rattle.base_refusals.specs.declared.bind.BindRefusal.TheVariants.{TooManyTables}
use Rattle.expr_scalar.specs.declared.kind.Kind.{Kind}
use Rattle.base_schema.specs.declared.table.TableName.{TableName}
use Rattle.base_schema.specs.declared.table.TableName.TheVariants.{Region, Nation, Part, Supplier}
use Rattle.base_schema.specs.declared.table.TableName.TheVariants.{Partsupp, Customer, Orders}
use Rattle.base_schema.specs.declared.table.TableName.TheVariants.{Lineitem}
use Rattle.base_schema.specs.Tables.{table_of}
use Rattle.sql_binder_steps.specs.declared.collected.Collected.{Collected}
use Rattle.sql_binder_steps.specs.declared.collected.FromRows.{FromRows}
use Rattle.sql_binder_steps.specs.declared.from.NamedItem.{NamedItem}
use Rattle.sql_binder_steps.specs.declared.scope.ScopeColumn.{ScopeColumn}
use Rattle.sql_binder_steps.specs.declared.view.Header.{Header}
use Rattle.sql_binder_steps.specs.declared.view.View.{View}
use Rattle.sql_binder.specs.Meanings.{FromItemMeaning}
use Rattle.sql_binder.specs.Meanings.{BlockMeaning}
use Rattle.sql_binder_steps.specs.Names.{Around, Sight}
use Rattle.sql_binder_steps.specs.Parts.{inside, hiding, table_headers, view_named, view_or_table}
use Rattle.sql_binder_steps.specs.Parts.{named_item, unused, column_of, under_names, renamed_headers}
use Rattle.sql_binder_steps.specs.Parts.{distinct_names, listed_headers, table_rows, named_rows}
use Rattle.sql_binder_steps.specs.Parts.{derived_rows, lateral_rows}
use Rattle.sql_binder_steps.specs.Steps.{Name, Checked, ◌>>=◌, lift}
use Rattle.sql_binder_steps.specs.Steps.{counted}
use Rattle.sql_binder_laws.specs.WellTyped.{header_kinds, ViewsAreTyped}
use Rattle.sql_binder_laws.proofs.TypedOperands.{went, ok_is}
use Rattle.sql_binder_laws.proofs.TypedSteps.{Ready, row_kinds, RowFits, Fits, same_pair}
use Rattle.sql_binder_laws.proofs.TypedQueries.{BlockMeaningIs}

-- ---- steps that only pass on or refuse

-- a value that was passed on
pub record Lifted {A : Type 0} (r : Checked A) (s : Collected) (a : A) (t : Collected) : Type 0
  where
    pub is : r ≡ Ok a
    pub same : t ≡ s

pub lifted : {A : Type 0} (r : Checked A) (s : Collected) (a : A) (t : Collected)
    → lift r s ≡ Ok (a, t) → Lifted r s a t
lifted r s a t h =
    let w = went r (λ x. Ok (x, s)) (a, t) h in
    let e = same_pair (w.it, s) a t (ok_is (w.it, s) (a, t) w.gives) in
    record { is = w.is ∙ ap Ok e.0; same = sym e.1 }

-- FROM items more
record Added (s t : Collected) : Type 0 where
  inputs : t.inputs ≡ s.inputs
  aggregates : t.aggregates ≡ s.aggregates

added_by : (b : Bool) (s u t : Collected) (x : Unit {0}) → Added s u
    → (let r : Checked (Unit {0} × Collected) = if b then Ok (tt, u) else Err TooManyTables in
    r ≡ Ok (x, t)) → Added s t
added_by true s u t x a h = let e = same_pair (tt, u) x t (ok_is (tt, u) (x, t) h) in
    subst (Added s) e.1 a
added_by false s u t x a h = cc

added : (n : ℕ) (s t : Collected) (x : Unit {0}) → counted n s ≡ Ok (x, t) → Added s t
unfolding counted
added n s t x h = added_by _ s (record s { items = s.items + n }) t x
    (record { inputs = refl; aggregates = refl }) h

-- ---- columns

row_of_item : (alias : Name) (headers : List Header)
    → row_kinds (map (column_of alias) headers) ≡ header_kinds headers
unfolding column_of
row_of_item alias [] = refl
row_of_item alias (h ∷ headers) = ap (λ ks. h.kind ∷ ks) (row_of_item alias headers)

table_kinds : (t : TableName) → column_kinds t ≡ header_kinds (table_headers t)
unfolding table_headers
table_kinds Region = refl
table_kinds Nation = refl
table_kinds Part = refl
table_kinds Supplier = refl
table_kinds Partsupp = refl
table_kinds Customer = refl
table_kinds Orders = refl
table_kinds Lineitem = refl

kinds_under_names : (names : List Name) (headers : List Header) → length names ≡ length headers
    → header_kinds (under_names names headers) ≡ header_kinds headers
kinds_under_names [] [] e = refl
kinds_under_names [] (h ∷ headers) e = absurd (omega (arith, e))
kinds_under_names (n ∷ names) [] e = absurd (omega (arith, e))
kinds_under_names (n ∷ names) (h ∷ headers) e =
    ap (λ ks. h.kind ∷ ks) (kinds_under_names names headers (omega (arith, e)))

chosen_headers : (b : Bool) (why : BindRefusal) (new made : List Header)
    → (let r : Checked (List Header) = if b then Ok new else Err why in r ≡ Ok made)
    → (b ≡ true) × (new ≡ made)
chosen_headers true why new made h = (refl, ok_is new made h)
chosen_headers false why new made h = cc

pub renamed_kinds : (names : List Name) (headers made : List Header)
    → renamed_headers names headers ≡ Ok made → header_kinds made ≡ header_kinds headers
unfolding renamed_headers
renamed_kinds [] headers made h = ap header_kinds (sym (ok_is headers made h))
renamed_kinds (n ∷ names) headers made h =
    let c = chosen_headers (length (n ∷ names) == length headers) _
    (under_names (n ∷ names) headers) made h in
    ap header_kinds (sym c.1)
    ∙ kinds_under_names (n ∷ names) headers
    ((Decides-eqb (length (n ∷ names)) (length headers)).0 c.0)

listed_kinds_are : (names : List Name) (headers made : List Header)
    → listed_headers names headers ≡ Ok made → header_kinds made ≡ header_kinds headers
unfolding listed_headers
listed_kinds_are names headers made h = let w = went (distinct_names names) _ made h in
    renamed_kinds names headers made w.gives

-- ---- one query more around

some_is : {A : Type 0} (a b : A) → Some a ≡ Some b → a ≡ b
some_is a b h = cc

-- rows under one more query
pub fits_inner : (sight : Sight) (columns : List ScopeColumn) (keys : Option (List ℕ))
    (env : EnvKinds) (row : List Kind) → Fits sight env → RowFits keys columns row
    → (level : ℕ) (q : Around) → level < suc (length sight.levels) - sight.hidden
    → slice_get (record { columns = columns; keys = keys } ∷ sight.levels) level ≡ Some q
    → RowFits q.keys q.columns (slice_index_or (row ∷ env) level [])
fits_inner sight columns keys env row f own zero q below at =
    let made : Around = record { columns = columns; keys = keys } in
    subst (λ (x : Around). RowFits x.keys x.columns row) (some_is made q at) own
fits_inner sight columns keys env row f own (suc level) q below at =
    f.row level q (omega (arith, below)) at

pub ready_inside : (sight : Sight) (columns : List ScopeColumn) (keys : Option (List ℕ))
    → Ready sight
    → Ready (inside sight columns keys)
unfolding inside
ready_inside sight columns keys r =
    record {
      views = r.views;
      hidden = let h = r.hidden in
          let more : sight.hidden ≤ suc (length sight.levels) = omega (arith, h) in more;
    }

pub fits_inside : (sight : Sight) (columns : List ScopeColumn) (keys : Option (List ℕ))
    (env : EnvKinds)
    (row : List Kind) → Fits sight env → RowFits keys columns row
    → Fits (inside sight columns keys) (row ∷ env)
unfolding inside
fits_inside sight columns keys env row f own =
    record { row = fits_inner sight columns keys env row f own }

-- ---- items of FROM

-- an item that was bound behind the columns to its left
pub record FromIs (sight : Sight) (left : List ScopeColumn) (s t : Collected) (f : FromRows) :
    Type 0 where
  pub inputs : t.inputs ≡ s.inputs
  pub aggregates : t.aggregates ≡ s.aggregates
  pub kinds : (env : EnvKinds) → Fits sight env
      → from_kinds f.source (row_kinds left) env ≡ Some (row_kinds f.columns)

-- an item of FROM is typed wherever it stands
abbrev pub FromItemMeaningIs : FromItemMeaning → Type 0
FromItemMeaningIs m = (sight : Sight) (left : List ScopeColumn) (s : Collected) → Ready sight
    → (f : FromRows) (t : Collected) → m sight left s ≡ Ok (f, t) → FromIs sight left s t f

-- what a name stands for is typed
abbrev ItemIs : NamedItem → Type 0
ItemIs i = (js : List Kind) (env : EnvKinds)
    → from_kinds i.source js env ≡ Some (header_kinds i.headers)

table_is : (t : TableName) (js : List Kind) (env : EnvKinds)
    → from_kinds (source.Table t) js env ≡ Some (header_kinds (table_headers t))
table_is t js env = ap (λ (m : FromKinds). m js env) (kinds_Table t) ∙ ap Some (table_kinds t)

derived_is : (kept : Option ℕ) (q : BoundBlock) (ks js : List Kind) (env : EnvKinds)
    → block_kinds q [] ≡ Some ks → from_kinds (source.Derived kept q) js env ≡ Some ks
derived_is kept q ks js env h = ap (λ (m : FromKinds). m js env) (kinds_Derived kept q) ∙ h

lateral_is : (q : BoundBlock) (ks js : List Kind) (env : EnvKinds)
    → block_kinds q (js ∷ env) ≡ Some ks → from_kinds (source.Lateral q) js env ≡ Some ks
lateral_is q ks js env h = ap (λ (m : FromKinds). m js env) (kinds_Lateral q) ∙ h

view_step : (b : Bool) (v : View) (r : Option NamedItem) (i : NamedItem)
    → (let x : Option NamedItem =
    if b then Some (record {
      source = source.Derived v.kept v.block;
      headers = v.columns;
      items = v.items + 1;
    }) else r in x ≡ Some i)
    → block_kinds v.block [] ≡ Some (header_kinds v.columns) → (r ≡ Some i → ItemIs i) → ItemIs i
view_step true v r i h is other =
    let made : NamedItem = record {
      source = source.Derived v.kept v.block;
      headers = v.columns;
      items = v.items + 1;
    } in
    subst ItemIs (some_is made i h)
    (λ js env. derived_is v.kept v.block (header_kinds v.columns) js env is)
view_step false v r i h is other = other h

view_is : (name : Name) (views : List View) (i : NamedItem) → ViewsAreTyped views
    → view_named name views ≡ Some i → ItemIs i
view_is name [] i are h = cc
view_is name (v ∷ views) i are h =
    view_step (bytes_eq v.name name) v (view_named name views) i h are.0
    (λ g. view_is name views i are.1 g)

view_or_table_is : (o : Option NamedItem) (t : Option TableName) (i : NamedItem)
    → ((j : NamedItem) → o ≡ Some j → ItemIs j) → view_or_table o t ≡ Ok i → ItemIs i
view_or_table_is (Some j) t i is h = subst ItemIs (ok_is j i h) (is j refl)
view_or_table_is None (Some t) i is h =
    let made : NamedItem = record {
      source = source.Table t;
      headers = table_headers t;
      items = 1;
    } in
    subst ItemIs (ok_is made i h) (λ js env. table_is t js env)
view_or_table_is None None i is h = cc

named_is : (name : Name) (views : List View) (i : NamedItem) → ViewsAreTyped views
    → named_item name views ≡ Ok i → ItemIs i
unfolding named_item
named_is name views i are h =
    view_or_table_is (view_named name views) (table_of name) i
    (λ j e. view_is name views j are e) h

-- a table or a view
pub table_rows_is : (name alias : Name)
    → FromItemMeaningIs (λ sight left. table_rows sight name alias left)
unfolding table_rows
table_rows_is name alias sight left s ready f t h =
    let w = went (lift (named_item name sight.views) s) _ (f, t) h in
    let i = w.it.0 in
    let l = lifted (named_item name sight.views) s i w.it.1 w.is in
    let v = went (counted i.items w.it.1) _ (f, t) w.gives in
    let a = added i.items w.it.1 v.it.1 v.it.0 v.is in
    let x = went (lift (unused left alias) v.it.1) _ (f, t) v.gives in
    let y = lifted (unused left alias) v.it.1 x.it.0 x.it.1 x.is in
    let made : FromRows = record { source = i.source; columns = map (column_of alias) i.headers } in
    let e = same_pair (made, x.it.1) f t (ok_is (made, x.it.1) (f, t) x.gives) in
    let is = named_is name sight.views i ready.views l.is in
    subst (λ (g : FromRows). FromIs sight left s t g) e.0 (record {
      inputs = ap (λ (c : Collected). c.inputs) (sym e.1 ∙ y.same) ∙ a.inputs
          ∙ ap (λ (c : Collected). c.inputs) l.same;
      aggregates = ap (λ (c : Collected). c.aggregates) (sym e.1 ∙ y.same) ∙ a.aggregates
          ∙ ap (λ (c : Collected). c.aggregates) l.same;
      kinds = λ env fits. is (row_kinds left) env ∙ ap Some (sym (row_of_item alias i.headers));
    })

ready_hidden : (sight : Sight) (left : List ScopeColumn) → Ready sight → Ready (hiding sight left)
unfolding hiding
ready_hidden sight left r =
    record {
      views = r.views;
      hidden = let all : length sight.levels + 1 ≤ suc (length sight.levels) = omega arith in all;
    }

-- under no rows, since all are hidden
fits_hidden : (sight : Sight) (left : List ScopeColumn) → Fits (hiding sight left) []
unfolding hiding
fits_hidden sight left =
    record {
      row = λ level q below at.
          absurd (let b : level < suc (length sight.levels) - (length sight.levels + 1) = below in
          omega (arith, b));
    }

-- what a query's rows are as an item of FROM
record NamedRows (b : BoundSource) (headers : List Header) (f : FromRows) : Type 0 where
  source : f.source ≡ b
  kinds : row_kinds f.columns ≡ header_kinds headers

named_rows_are : (b : BoundSource) (headers : List Header) (alias : Name) (names : List Name)
    (left : List ScopeColumn) (f : FromRows) → named_rows b headers alias names left ≡ Ok f
    → NamedRows b headers f
unfolding named_rows
named_rows_are b headers alias names left f h =
    let x = went (unused left alias) _ f h in
    let y = went (listed_headers names headers) _ f x.gives in
    let made : FromRows = record { source = b; columns = map (column_of alias) y.it } in
    let e : made ≡ f = ok_is made f y.gives in
    subst (NamedRows b headers) e (record {
      source = refl;
      kinds = row_of_item alias y.it ∙ listed_kinds_are names headers y.it y.is;
    })

-- a sight in which an item's query is bound, and what makes a source of the query
record InnerSight (inner : Sight → List ScopeColumn → Sight) (made : BoundBlock → BoundSource) : Type 0
  where
    ready : (sight : Sight) (left : List ScopeColumn) → Ready sight → Ready (inner sight left)
    kinds : (sight : Sight) (left : List ScopeColumn) (b : BoundBlock) (ks : List Kind)
        → ((env : EnvKinds) → Fits (inner sight left) env → block_kinds b env ≡ Some ks)
        → (env : EnvKinds) → Fits sight env → from_kinds (made b) (row_kinds left) env ≡ Some ks

query_rows_is : (inner : Sight → List ScopeColumn → Sight) (made : BoundBlock → BoundSource)
    → InnerSight inner made → (q : BlockMeaning) (alias : Name) (names : List Name) → BlockMeaningIs q
    → FromItemMeaningIs (λ sight left.
    counted 1 >>= (λ u. q (inner sight left) >>=
    (λ t. lift (named_rows (made t.block) t.headers alias names left))))
query_rows_is inner made placed q alias names is sight left s ready f t h =
    let w = went (counted 1 s) _ (f, t) h in
    let a = added 1 s w.it.1 w.it.0 w.is in
    let v = went (q (inner sight left) w.it.1) _ (f, t) w.gives in
    let b = is (inner sight left) w.it.1 (placed.ready sight left ready) v.it.0 v.it.1 v.is in
    let table = v.it.0 in
    let l = lifted (named_rows (made table.block) table.headers alias names left) v.it.1 f t
    v.gives in
    let n = named_rows_are (made table.block) table.headers alias names left f l.is in
    record {
      inputs = ap (λ (c : Collected). c.inputs) l.same ∙ b.inputs ∙ a.inputs;
      aggregates = ap (λ (c : Collected). c.aggregates) l.same ∙ b.aggregates ∙ a.aggregates;
      kinds = λ env fits.
          ap (λ (x : BoundSource). from_kinds x (row_kinds left) env) n.source
          ∙ placed.kinds sight left table.block (header_kinds table.headers) b.kinds env fits
          ∙ ap Some (sym n.kinds);
    }

-- a derived table
pub derived_rows_is : (q : BlockMeaning) (alias : Name) (names : List Name) → BlockMeaningIs q
    → FromItemMeaningIs (λ sight left.
    counted 1 >>= (λ u. q (hiding sight left) >>= (λ t. lift (derived_rows t alias names left))))
derived_rows_is = query_rows_is hiding (source.Derived None) (record {
  ready = ready_hidden;
  kinds = λ sight left b ks is env fits.
      derived_is None b ks (row_kinds left) env (is [] (fits_hidden sight left));
})

-- a lateral item
pub lateral_rows_is : (q : BlockMeaning) (alias : Name) (names : List Name) → BlockMeaningIs q
    → FromItemMeaningIs (λ sight left.
    counted 1 >>= (λ u. q (inside sight left None) >>=
    (λ t. lift (lateral_rows t alias names left))))
lateral_rows_is = query_rows_is (λ sight left. inside sight left None) source.Lateral (record {
  ready = λ sight left. ready_inside sight left None;
  kinds = λ sight left b ks is env fits.
      lateral_is b ks (row_kinds left) env
      (is (row_kinds left ∷ env) (fits_inside sight left None env (row_kinds left) fits refl));
})
