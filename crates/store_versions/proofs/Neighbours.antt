-- Segments that are joined to their neighbours.
use Rattle.std.proofs.Common.{◌≡◌, ℕ, zero, suc, ◌+◌, ◌-◌, ◌<◌, ◌≤◌, List, [], ◌∷◌, ◌++◌, length}
use Rattle.std.proofs.Common.{take, get_or, refl, sym, ap, ◌∙◌, subst, arith}
use Rattle.std.proofs.Common.{length-append, map, Bool}
use Rattle.std.specs.List.{All}
use Rattle.std.proofs.lemmas.List.{append-nil, get_or-append_right, get_or_append_left, length-map}
use Rattle.std.proofs.lemmas.List.{map-append, nil_from_length, take_more}
use Rattle.std.proofs.lemmas.List.Elements.{All-map, All-push}
use Rattle.base_row_laws.specs.Ranked.{Ranked, ranked, Relation, true_rank}
use Rattle.base_value.specs.declared.value.Value.{Value}
use Rattle.base_schema.specs.Kinds.{RowsAreOf}
use Rattle.base_schema.proofs.Columns.{row_long}
use Rattle.base_schema.specs.State.{State, table_rows}
use Rattle.base_schema.specs.Tables.{all_tables, kinds_of}
use Rattle.base_schema.specs.declared.table.TableName.TheVariants.{Region, Nation, Part, Supplier}
use Rattle.base_schema.specs.declared.table.TableName.TheVariants.{Partsupp, Customer, Orders}
use Rattle.base_schema.specs.declared.table.TableName.TheVariants.{Lineitem}
use Rattle.base_schema.specs.declared.table.TableName.{TableName}
use Rattle.base_columns.specs.Lists.{one_list}
use Rattle.base_columns.specs.Tables.{plain_rows, standing_rows}
use Rattle.base_columns.proofs.RowLists.{one_list-push}
use Rattle.store_versions.specs.Segments.{AreApart, AreJoined, IsShort}
use Rattle.store_versions.specs.Joining.{HasRoom, IsJoining}
use Rattle.store_state.specs.Lists.{IsOfKinds, state_of}
use Rattle.store_versions.proofs.Rest.{open_joined, plain_standing}

-- the last segment grows
pub apart-grows : (segments : List (List (List Value))) (last more : List (List Value))
    → AreApart (segments ++ last ∷ []) → length last ≤ length more
    → AreApart (segments ++ more ∷ [])
apart-grows [] last more apart grown = (tt, tt)
apart-grows (x ∷ []) last more apart grown =
    let next : 4096 < length x + length last = apart.0 in (omega (arith, next, grown), (tt, tt))
apart-grows (x ∷ y ∷ segments) last more apart grown =
    (apart.0, apart-grows (y ∷ segments) last more apart.1 grown)

-- one segment more, that does not fit with the last one
pub apart-more : (segments : List (List (List Value))) (last more : List (List Value))
    → AreApart (segments ++ last ∷ []) → 4096 < length last + length more
    → AreApart ((segments ++ last ∷ []) ++ more ∷ [])
apart-more [] last more apart over = (over, (tt, tt))
apart-more (x ∷ []) last more apart over = (apart.0, (over, (tt, tt)))
apart-more (x ∷ y ∷ segments) last more apart over =
    (apart.0, apart-more (y ∷ segments) last more apart.1 over)

-- the segments before the last one
pub apart-front : (segments : List (List (List Value))) (last : List (List Value))
    → AreApart (segments ++ last ∷ []) → AreApart segments
apart-front [] last apart = tt
apart-front (x ∷ []) last apart = (tt, tt)
apart-front (x ∷ y ∷ segments) last apart =
    (apart.0, apart-front (y ∷ segments) last apart.1)

-- nothing is under way
pub joining-none : (rest : Relation Value) → rest.rows ≡ [] → IsJoining [] rest
joining-none rest none = record {
  is_open = record {
    most = let e : length rest.rows ≡ 0 = ap length none in omega (arith, e);
    stand = λ k d less. let e : length rest.rows ≡ 0 = ap length none in absurd (omega (arith, e, less));
    wide = λ k d less. let e : length rest.rows ≡ 0 = ap length none in absurd (omega (arith, e, less));
  };
  short = λ k d less. absurd (omega (arith, less));
  apart = (tt, tt);
}

-- there is room for more rows in the next segment
pub room-apart : (full : List (List (List Value))) (rest : Relation Value)
    (more : List (List Value)) → IsJoining full rest
    → AreApart (full ++ (plain_rows rest.rows ++ more) ∷ [])
room-apart full rest more joining =
    let long : length (plain_rows rest.rows ++ more) ≡ length (plain_rows rest.rows) + length more =
    length-append (plain_rows rest.rows) more in
    apart-grows full (plain_rows rest.rows) (plain_rows rest.rows ++ more) joining.apart
    (omega (arith, long))

-- the rows under way became a segment, since n more did not fit with them
pub full-apart : (full new : List (List (List Value))) (rest after : Relation Value)
    (more : List (List Value)) (count : ℕ) → IsJoining full rest
    → 4096 < length rest.rows + count → length more ≡ count
    → new ≡ full ++ plain_rows rest.rows ∷ [] → after.rows ≡ []
    → AreApart (new ++ (plain_rows after.rows ++ more) ∷ [])
full-apart full new rest after more count joining over long is none =
    let rows : length (plain_rows rest.rows) ≡ length rest.rows =
    length-map rest.rows (λ (r : Ranked Value). r.values) in
    let apart : AreApart ((full ++ plain_rows rest.rows ∷ []) ++ more ∷ []) =
    apart-more full (plain_rows rest.rows) more joining.apart (omega (arith, over, long, rows)) in
    subst (λ (xs : List (List (List Value))). AreApart (xs ++ (plain_rows after.rows ++ more) ∷ []))
    (sym is)
    (subst (λ (r : List (Ranked Value)). AreApart ((full ++ plain_rows rest.rows ∷ []) ++ (plain_rows r ++ more) ∷ []))
    (sym none) apart)

pub full-rows : (full new : List (List (List Value))) (rest after : List (Ranked Value))
    → new ≡ full ++ plain_rows rest ∷ [] → after ≡ []
    → one_list new ++ plain_rows after ≡ one_list full ++ plain_rows rest
full-rows full new rest after is none =
    ap (λ r. one_list new ++ plain_rows r) none ∙ append-nil (one_list new)
    ∙ ap one_list is ∙ one_list-push full (plain_rows rest)

pub full-short : (full : List (List (List Value))) (rest : List (Ranked Value))
    → All IsShort full → 0 < length rest → length rest ≤ 4096
    → All IsShort (full ++ plain_rows rest ∷ [])
full-short full rest short some most =
    let rows : length (plain_rows rest) ≡ length rest =
    length-map rest (λ (r : Ranked Value). r.values) in
    All-push IsShort full (plain_rows rest) short (omega (arith, rows, some), omega (arith, rows, most))

-- rows of one width
pub same-width : (rows : List (List Value)) (m n : ℕ) → 0 < length rows
    → All (λ row. length row ≡ m) rows → All (λ row. length row ≡ n) rows → m ≡ n
same-width [] m n some are be = absurd (omega (arith, some))
same-width (row ∷ rows) m n some are be =
    sym (are 0 row (omega arith)) ∙ be 0 row (omega arith)

pub standing-wide : (rows : List (List Value)) (n : ℕ) → All (λ row. length row ≡ n) rows
    → All (λ r. length r.values ≡ n) (standing_rows rows)
standing-wide rows n wide =
    All-map (λ (r : Ranked Value). length r.values ≡ n) (λ values. ranked values true_rank) rows wide

All-front : {A : Type 0} (P : A → Type 0) (xs ys : List A) → All P (xs ++ ys) → All P xs
All-front P xs ys all k d less =
    let long : length (xs ++ ys) ≡ length xs + length ys = length-append xs ys in
    subst P (get_or_append_left xs ys d k less) (all k d (omega (arith, less, long)))

All-back : {A : Type 0} (P : A → Type 0) (xs ys : List A) → All P (xs ++ ys) → All P ys
All-back P xs ys all k d less =
    let long : length (xs ++ ys) ≡ length xs + length ys = length-append xs ys in
    let back : (length xs + k) - length xs ≡ k = omega arith in
    subst P
    (get_or-append_right xs ys (length xs) (length xs + k) d refl (omega arith)
    ∙ ap (λ i. get_or ys i d) back)
    (all (length xs + k) d (omega (arith, less, long)))

-- the elements of one of some lists
pub All-part : {A : Type 0} (P : A → Type 0) (xss : List (List A)) (k : ℕ) (xs : List A)
    → k < length xss → xs ≡ get_or xss k xs → All P (one_list xss) → All P xs
All-part P [] k xs less is all = absurd (omega (arith, less))
All-part P (ys ∷ xss) zero xs less is all =
    subst (All P) (sym is) (All-front P ys (one_list xss) all)
All-part P (ys ∷ xss) (suc k) xs less is all =
    All-part P xss k xs (omega (arith, less)) is (All-back P ys (one_list xss) all)

-- a table's rows are as wide as the table
pub kinds-wide : (table : TableName) (rows : List (List Value)) → RowsAreOf table rows
    → All (λ row. length row ≡ length (kinds_of table)) rows
kinds-wide table rows kinds k d less = row_long table (get_or rows k d) (kinds k d less)

-- there is room already
pub has-room : (count : ℕ) (full : List (List (List Value))) (rest : Relation Value)
    → IsJoining full rest → length rest.rows + count ≤ 4096 → HasRoom count full rest full rest
has-room count full rest joining room = record {
  is_open = joining.is_open;
  width = refl;
  room = room;
  rows = refl;
  short = joining.short;
  apart = λ more long. room-apart full rest more joining;
}

-- room was made
pub made-room : (count : ℕ) (full : List (List (List Value))) (rest : Relation Value)
    (new : List (List (List Value))) (next : Relation Value) → IsJoining full rest → count ≤ 4096
    → 4096 < length rest.rows + count → new ≡ full ++ plain_rows rest.rows ∷ []
    → next.rows ≡ [] → next.width ≡ rest.width → HasRoom count full rest new next
made-room count full rest new next joining most over is none width =
    let start = joining.is_open in
    let some : 0 < length rest.rows = omega (arith, most, over) in
    let none_length : length next.rows ≡ 0 = ap length none in
    record {
      is_open = (joining-none next none).is_open;
      width = width;
      room = omega (arith, most, none_length);
      rows = full-rows full new rest.rows next.rows is none;
      short = subst (All IsShort) (sym is)
          (full-short full rest.rows joining.short some start.most);
      apart = λ more long. full-apart full new rest next more count joining over long is none;
    }

-- a part's rows were put after those that are not stored yet
pub part-joined : (count : ℕ) (full new : List (List (List Value)))
    (rest next batch after : Relation Value) (part : List (List Value))
    → HasRoom count full rest new next → count ≡ length part
    → batch.rows ≡ standing_rows part → next.width ≡ batch.width
    → All (λ row. length row ≡ batch.width) part → after.width ≡ next.width
    → after.rows ≡ next.rows ++ batch.rows → IsJoining new after
part-joined count full new rest next batch after part has long stand width wide same rows =
    let room = has.room in
    record {
      is_open = open_joined next batch after part has.is_open same width rows stand
          (subst (λ (r : List (Ranked Value)). All (λ x. length x.values ≡ batch.width) r) (sym stand)
          (standing-wide part batch.width wide)) (omega (arith, room, long));
      short = has.short;
      apart = subst (λ (r : List (List Value)). AreApart (new ++ r ∷ []))
          (sym (ap plain_rows rows
          ∙ map-append (λ (r : Ranked Value). r.values) next.rows batch.rows
          ∙ ap (λ (r : List (Ranked Value)). plain_rows next.rows ++ plain_rows r) stand
          ∙ ap (λ (r : List (List Value)). plain_rows next.rows ++ r) (plain_standing part)))
          (has.apart part (sym long));
    }

-- all parts are joined: what is not stored yet is the last segment, or there is nothing of it
pub joined-none : (full : List (List (List Value))) (rest : Relation Value) → IsJoining full rest
    → AreJoined full
joined-none full rest joining = record {
  short = joining.short;
  apart = apart-front full (plain_rows rest.rows) joining.apart;
}

pub joined-last : (full new : List (List (List Value))) (rest : Relation Value)
    → IsJoining full rest → 0 < length rest.rows → new ≡ full ++ plain_rows rest.rows ∷ []
    → AreJoined new
joined-last full new rest joining some is =
    subst AreJoined (sym is) (record {
      short = full-short full rest.rows joining.short some joining.is_open.most;
      apart = joining.apart;
    })

pub last-rows : (full new : List (List (List Value))) (rest : List (Ranked Value))
    → new ≡ full ++ plain_rows rest ∷ [] → one_list new ≡ one_list full ++ plain_rows rest
last-rows full new rest is = ap one_list is ∙ one_list-push full (plain_rows rest)

pub no-rows : (full : List (List (List Value))) (rest : List (Ranked Value)) → length rest ≡ 0
    → one_list full ≡ one_list full ++ plain_rows rest
no-rows full rest none =
    sym (append-nil (one_list full))
    ∙ ap (λ (r : List (Ranked Value)). one_list full ++ plain_rows r) (sym (nil_from_length rest none))

-- tables that are joined one by one
pub rows-joined : {S : Type 0} (f : S → List (List Value)) (state : State) (tables new : List S)
    (segments : S) (names : List TableName) (k : ℕ) (d : TableName) → k < length names
    → new ≡ tables ++ segments ∷ []
    → map f tables ≡ map (table_rows state) (take k names)
    → f segments ≡ table_rows state (get_or names k d)
    → map f new ≡ map (table_rows state) (take (k + 1) names)
rows-joined f state tables new segments names k d less is so_far same =
    ap (map f) is ∙ map-append f tables (segments ∷ [])
    ∙ ap (λ m. m ++ f segments ∷ []) so_far
    ∙ ap (λ r. map (table_rows state) (take k names) ++ r ∷ []) same
    ∙ sym (map-append (table_rows state) (take k names) (get_or names k d ∷ []))
    ∙ ap (map (table_rows state)) (sym (take_more names k d less))

-- tables of their kinds, seen one by one
abbrev pub AreOfKinds : State → List TableName → Type 0
AreOfKinds state names = All (λ table. RowsAreOf table (table_rows state table)) names

pub kinds-more : (state : State) (names : List TableName) (k : ℕ) (d : TableName)
    → k < length names → AreOfKinds state (take k names)
    → RowsAreOf (get_or names k d) (table_rows state (get_or names k d))
    → AreOfKinds state (take (k + 1) names)
kinds-more state names k d less so_far this =
    subst (AreOfKinds state) (sym (take_more names k d less))
    (All-push (λ t. RowsAreOf t (table_rows state t)) (take k names) (get_or names k d) so_far this)

pub all-of-kinds : (state : State) → AreOfKinds state all_tables → IsOfKinds state
all-of-kinds state all Region = all 0 Region (omega arith)
all-of-kinds state all Nation = all 1 Region (omega arith)
all-of-kinds state all Part = all 2 Region (omega arith)
all-of-kinds state all Supplier = all 3 Region (omega arith)
all-of-kinds state all Partsupp = all 4 Region (omega arith)
all-of-kinds state all Customer = all 5 Region (omega arith)
all-of-kinds state all Orders = all 6 Region (omega arith)
all-of-kinds state all Lineitem = all 7 Region (omega arith)

pub fused : {S T U : Type 0} (f : S → T) (g : T → U) (xs : List S)
    → map g (map f xs) ≡ map (λ x. g (f x)) xs
fused f g [] = refl
fused f g (x ∷ xs) = ap (λ l. g (f x) ∷ l) (fused f g xs)

-- the state of all tables' rows
pub state-of-tables : (state : State) → state_of (map (table_rows state) all_tables) ≡ state
state-of-tables state = refl

pub ruleset neighbours =
    (has-room, made-room, joined-none, joined-last, last-rows, no-rows)
