-- A token has one kind.
use Rattle.std.proofs.Common.{◌≡◌, true, refl, sym, subst, ◌∙◌, rules}
use denote.Enum.Bare.{same_true, true_same}
use Rattle.sql_lexer.specs.contracts.kind.Kind.{the_type}
use Rattle.sql_lexer.specs.declared.kind.Kind.{Kind}
use Rattle.sql_lexer.specs.declared.token.Token.{Token}
use Rattle.sql_lexer.specs.declared.token.Content.TheVariants.{Nothing}
use Rattle.sql_lexer.specs.Kinds.{is, same}

pub is_kind : (k : Kind) (t : Token) → is k t ≡ true → t.kind ≡ k
unfolding is
is_kind k t h = same_true the_type (search rules) _ _ h

pub same_kind : (j k : Kind) → same j k ≡ true → j ≡ k
same_kind j k h = same_true the_type (search rules) _ _ h

pub alike : (j k : Kind) (t : Token) → same j k ≡ true → is k t ≡ true → is j t ≡ true
alike j k t s h = let P : Kind → Type 0 = λ x. is x t ≡ true in subst P (sym (same_kind j k s)) h

pub one_kind : (j k : Kind) (t : Token) → is j t ≡ true → is k t ≡ true → same j k ≡ true
one_kind j k t h g = true_same the_type j k (sym (is_kind j t h) ∙ is_kind k t g)

-- a token of a kind
abbrev pub token_of : Kind → Token
token_of k = record { kind = k; content = Nothing; start = 0; len = 0 }

pub token_is : (k : Kind) → is k (token_of k) ≡ true
unfolding is
token_is k = true_same the_type k k refl
