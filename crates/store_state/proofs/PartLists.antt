-- Lists of parts, one part after the other.
use Rattle.std.proofs.Common.{◌≡◌, ℕ, ◌+◌, ◌<◌, ℤ, List, [], ◌∷◌, ◌++◌, length, take, get_or, sym, ap, ◌∙◌, append_assoc}
use Rattle.std.proofs.lemmas.List.{get_or_default, length-append, map-append, take_more}
use Rattle.std.proofs.lemmas.List.Elements.{filter-append}
use Rattle.std.specs.Prelude.{not}
use Rattle.base_value.specs.declared.value.Value.{Value}
use Rattle.base_columns.specs.Lists.{one_list}
use Rattle.base_columns.proofs.RowLists.{one_list-more, one_list-push}
use Rattle.store_state.specs.Keys.{has_key, line_key, line_keys, order_key, order_keys}
use Rattle.store_state.specs.Refresh.{without_keys}

pub rows_more : (parts : List (List (List Value))) (k : ℕ) (part : List (List Value)) → k < length parts → part ≡ get_or parts k part
    → one_list (take (k + 1) parts) ≡ one_list (take k parts) ++ part
rows_more parts k part less is =
    one_list-more parts k less ∙ ap (λ rows. one_list (take k parts) ++ rows) (get_or_default parts k [] part less ∙ sym is)

pub order_keys_more : (parts : List (List (List Value))) (k : ℕ) (part : List (List Value)) → k < length parts → part ≡ get_or parts k part
    → order_keys (one_list (take (k + 1) parts)) ≡ order_keys (one_list (take k parts)) ++ order_keys part
order_keys_more parts k part less is = ap order_keys (rows_more parts k part less is) ∙ map-append order_key (one_list (take k parts)) part

pub line_keys_more : (parts : List (List (List Value))) (k : ℕ) (part : List (List Value)) → k < length parts → part ≡ get_or parts k part
    → line_keys (one_list (take (k + 1) parts)) ≡ line_keys (one_list (take k parts)) ++ line_keys part
line_keys_more parts k part less is = ap line_keys (rows_more parts k part less is) ∙ map-append line_key (one_list (take k parts)) part

pub without_keys_more : (keys : List ℤ) (parts : List (List (List Value))) (k : ℕ) (part : List (List Value)) → k < length parts → part ≡ get_or parts k part
    → without_keys keys (one_list (take (k + 1) parts)) ≡ without_keys keys (one_list (take k parts)) ++ without_keys keys part
without_keys_more keys parts k part less is =
    ap (without_keys keys) (rows_more parts k part less is) ∙ filter-append (λ row. not (has_key keys (order_key row))) (one_list (take k parts)) part

pub appended_more : (rows : List (List Value)) (parts : List (List (List Value))) (k : ℕ) (part : List (List Value)) → k < length parts → part ≡ get_or parts k part
    → rows ++ one_list (take (k + 1) parts) ≡ (rows ++ one_list (take k parts)) ++ part
appended_more rows parts k part less is = ap (λ more. rows ++ more) (rows_more parts k part less is) ∙ sym (append_assoc rows (one_list (take k parts)) part)

pub taken_more : {A : Type 0} (before xs : List A) (i : ℕ) (d : A) → i < length xs → before ++ take (i + 1) xs ≡ (before ++ take i xs) ++ get_or xs i d ∷ []
taken_more before xs i d less = ap (λ more. before ++ more) (take_more xs i d less) ∙ sym (append_assoc before (take i xs) (get_or xs i d ∷ []))

pub ruleset lists = (length-append, one_list-more, one_list-push, rows_more, order_keys_more, line_keys_more, without_keys_more, appended_more)
