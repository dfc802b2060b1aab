-- The name that a word is.
use Rattle.std.proofs.Common.{◌≡◌, ℕ, List, map, true, Option, Some, None, refl, sym, ap, ◌∙◌}
use Rattle.std.specs.Char.{to_ascii_lowercase}
use Rattle.sql_lexer.specs.declared.kind.Kind.{Kind}
use Rattle.sql_lexer.specs.declared.token.Content.{Content}
use Rattle.sql_lexer.specs.declared.token.Content.TheVariants as content
use Rattle.sql_lexer.specs.Forms.{word_made}
use Rattle.sql_lexer.specs.Names.{is_whole_word, name_made, name_of}
use Rattle.sql_lexer.specs.Words.{reserved_kind}

made_content : (r : Option Kind) (word : List ℕ) (kind : Kind) (it : Content) → (let made : Kind × Content = (kind, it) in made ≡ word_made r word) → it ≡ (word_made r word).1
made_content r word kind it is = ap (λ (x : Kind × Content). x.1) is

some_made : (r : Option Kind) (word name : List ℕ) → content.Text name ≡ (word_made r word).1 → Some name ≡ name_made r word
some_made (Some kind) word name is = cc
some_made None word name is = cc

none_made : (r : Option Kind) (word : List ℕ) → ((name : List ℕ) → (word_made r word).1 ≡ content.Text name → ⊥) → None ≡ name_made r word
none_made (Some kind) word other = refl
none_made None word other = absurd (other word refl)

module _ (bytes : List ℕ) (is_word : is_whole_word bytes ≡ true) (kind : Kind) (it : Content)
    (is : let made : Kind × Content = (kind, it) in made ≡ word_made (reserved_kind (map to_ascii_lowercase bytes)) (map to_ascii_lowercase bytes)) where
  content_is : it ≡ (word_made (reserved_kind (map to_ascii_lowercase bytes)) (map to_ascii_lowercase bytes)).1
  content_is = made_content (reserved_kind (map to_ascii_lowercase bytes)) (map to_ascii_lowercase bytes) kind it is

  pub name_found : (name : List ℕ) → it ≡ content.Text name → Some name ≡ name_of bytes
  name_found name text =
      rw is_word (some_made (reserved_kind (map to_ascii_lowercase bytes)) (map to_ascii_lowercase bytes) name (sym text ∙ content_is))

  pub no_name : ((name : List ℕ) → it ≡ content.Text name → ⊥) → None ≡ name_of bytes
  no_name other =
      rw is_word (none_made (reserved_kind (map to_ascii_lowercase bytes)) (map to_ascii_lowercase bytes) (λ name text. other name (content_is ∙ text)))
