-- Where tokens are read, so are those that may stand for them, and what is left may stand for what was left.
use Rattle.std.proofs.Common.{◌≡◌, ℕ, zero, suc, Bool, true, false, cond, ◌||◌, List, [], ◌∷◌, Result, Ok, Err, refl, ap, ◌∙◌}
use denote.Enum.Bare.{sameb}
use Rattle.sql_grammar_laws.specs.declared.fault.SyntaxFault.{SyntaxFault}
use Rattle.sql_grammar_laws.specs.declared.fault.SyntaxFault.TheVariants.{Unexpected, TooWide}
use Rattle.sql_grammar_laws.specs.Kinds.{among}
use Rattle.sql_grammar_laws.specs.Readings.{Outcome, Reading, and_then, starts, one, opens, nothing, never, both, mapped, either, crowded, crowd, links}
use Rattle.sql_grammar_laws.specs.Scripts.{statements}
use Rattle.sql_lexer.specs.contracts.kind.Kind.{the_type}
use Rattle.sql_lexer.specs.declared.kind.Kind.{Kind}
use Rattle.sql_lexer.specs.declared.token.Token.{Token}
use Rattle.sql_lexer.specs.Kinds.{is}
use Rattle.sql_parser_steps.specs.Kinds.{kinds}
use Rattle.sql_parser_steps.specs.Values.{is_count, is_digits}
use Rattle.sql_templates.specs.Standing.{Beside}

-- A token may stand for another: it is of the same kind, and passes each test of what tokens hold that the other passes.
pub record StandsFor (t u : Token) : Type 0 where
  pub kind : u.kind ≡ t.kind
  pub count : is_count t ≡ true → is_count u ≡ true
  pub digits : is_digits t ≡ true → is_digits u ≡ true

-- tokens that may stand for others, each for the one at its place
abbrev pub StandFor : List Token → List Token → Type 0
StandFor = Beside StandsFor

-- where the first outcome is a value, so is the second, and what is left of it may stand for what was left
abbrev pub Follow : {A : Type 0} → Outcome Token A → Outcome Token A → Type 0
Follow (Ok a, ts) (Ok b, us) = StandFor ts us
Follow (Ok a, ts) (Err q, us) = ⊥
Follow (Err r, ts) o = Unit {0}

-- such is what comes of reading tokens and those that may stand for them
pub record Follows {A : Type 0} (p : List Token → Outcome Token A) : Type 0 where
  pub at : (ts us : List Token) → StandFor ts us → Follow (p ts) (p us)

-- a test that tells of the kind alone
pub record SameTest (test : Token → Bool) : Type 0 where
  pub at : (t u : Token) → StandsFor t u → test u ≡ test t

-- a test that is passed for what passes it
pub record KeptTest (test : Token → Bool) : Type 0 where
  pub at : (t u : Token) → StandsFor t u → test t ≡ true → test u ≡ true

pub same_is : (j : Kind) → SameTest (is j)
unfolding is
same_is j = record { at = λ t u h. ap (λ x. sameb the_type x j) h.kind }

same_either : (a b c d : Bool) → a ≡ b → c ≡ d → a || c ≡ b || d
same_either a b c d e f = cc

pub same_among : (ks : List Kind) → SameTest (among kinds ks)
same_among [] = record { at = λ t u h. refl }
same_among (j ∷ ks) = record { at = λ t u h. same_either _ _ _ _ ((same_is j).at t u h) ((same_among ks).at t u h) }

pub tests_is : (j : Kind) → KeptTest (is j)
tests_is j = record { at = λ t u h e. (same_is j).at t u h ∙ e }

pub tests_count : KeptTest is_count
tests_count = record { at = λ t u h. h.count }

pub tests_digits : KeptTest is_digits
tests_digits = record { at = λ t u h. h.digits }

abbrev out : {A : Type 0} → Result A SyntaxFault → List Token → Outcome Token A
out r ts = (r, ts)

by_same : {A : Type 0} (p q s t : Outcome Token A) (b c : Bool) → c ≡ b → Follow p s → Follow q t → Follow (cond b p q) (cond c s t)
by_same p q s t true true e h g = h
by_same p q s t false false e h g = g
by_same p q s t true false e h g = absurd (let no : false ≡ true = e in cc)
by_same p q s t false true e h g = absurd (let no : true ≡ false = e in cc)

by_kept : {A : Type 0} (p s t : Outcome Token A) (r : SyntaxFault) (ts : List Token) (b c : Bool) → (b ≡ true → c ≡ true) → Follow p s → Follow (cond b p (out (Err r) ts)) (cond c s t)
by_kept p s t r ts true true e h = h
by_kept p s t r ts true false e h = absurd (let no : false ≡ true = e refl in cc)
by_kept p s t r ts false c e h = tt

pub follow_nothing : {A : Type 0} (a : A) → Follows (nothing {T = Token} a)
follow_nothing a = record { at = λ ts us h. h }

pub follow_never : {A : Type 0} → Follows (never {T = Token} {A = A})
follow_never = record { at = λ ts us h. tt }

pub follow_one : {test : Token → Bool} → KeptTest test → Follows (one test)
follow_one {test} s = record { at = at }
  where
    at : (ts us : List Token) → StandFor ts us → Follow (one test ts) (one test us)
    at [] us h = tt
    at (t ∷ ts) [] h = absurd h
    at (t ∷ ts) (u ∷ us) h = by_kept _ _ _ Unexpected (t ∷ ts) (test t) (test u) (s.at t u h.0) h.1

pub follow_opens : (room : ℕ) {test : Token → Bool} → KeptTest test → Follows (opens room test)
follow_opens room {test} s = record { at = at room }
  where
    at : (room : ℕ) (ts us : List Token) → StandFor ts us → Follow (opens room test ts) (opens room test us)
    at room [] us h = tt
    at room (t ∷ ts) [] h = absurd h
    at zero (t ∷ ts) (u ∷ us) h = by_kept _ _ _ Unexpected (t ∷ ts) (test t) (test u) (s.at t u h.0) tt
    at (suc room) (t ∷ ts) (u ∷ us) h = by_kept _ _ _ Unexpected (t ∷ ts) (test t) (test u) (s.at t u h.0) h.1

pub follow_mapped : {A B : Type 0} {p : Reading Token A} (f : A → B) → Follows p → Follows (mapped f p)
follow_mapped {A} {B} {p} f s = record { at = λ ts us h. by (p ts) (p us) (s.at ts us h) }
  where
    by : (o q : Outcome Token A) → Follow o q → Follow (and_then o (λ a us. out {A = B} (Ok (f a)) us)) (and_then q (λ a us. out {A = B} (Ok (f a)) us))
    by (Ok a, ts) (Ok b, us) h = h
    by (Ok a, ts) (Err q, us) h = absurd h
    by (Err r, ts) q h = tt

pub follow_both : {A B C : Type 0} {p : Reading Token A} {q : Reading Token B} (f : A → B → C) → Follows p → Follows q → Follows (both f p q)
follow_both {A} {B} {C} {p} {q} f s t = record { at = λ ts us h. by (p ts) (p us) (s.at ts us h) }
  where
    last : A → Outcome Token B → Outcome Token C
    last a o = and_then o (λ b vs. out {A = C} (Ok (f a b)) vs)

    after_last : (a c : A) (o r : Outcome Token B) → Follow o r → Follow (last a o) (last c r)
    after_last a c (Ok b, ts) (Ok d, us) h = h
    after_last a c (Ok b, ts) (Err r, us) h = absurd h
    after_last a c (Err r, ts) o h = tt

    by : (o r : Outcome Token A) → Follow o r → Follow (and_then o (λ a us. last a (q us))) (and_then r (λ a us. last a (q us)))
    by (Ok a, ts) (Ok c, us) h = after_last a c (q ts) (q us) (t.at ts us h)
    by (Ok a, ts) (Err v, us) h = absurd h
    by (Err v, ts) o h = tt

starts_same : {test : Token → Bool} → SameTest test → (ts us : List Token) → StandFor ts us → starts test us ≡ starts test ts
starts_same s [] [] h = refl
starts_same s [] (u ∷ us) h = absurd h
starts_same s (t ∷ ts) [] h = absurd h
starts_same s (t ∷ ts) (u ∷ us) h = s.at t u h.0

pub follow_either : {A : Type 0} {test : Token → Bool} {p q : Reading Token A} → SameTest test → Follows p → Follows q → Follows (either test p q)
follow_either {A} {test} s t v = record { at = λ ts us h. by_same _ _ _ _ (starts test ts) (starts test us) (starts_same s ts us h) (t.at ts us h) (v.at ts us h) }

-- one element too many is refused
follow_crowd : {A : Type 0} (p : Reading Token A) → Follows (crowd p)
follow_crowd {A} p = record { at = λ ts us h. by ts (p ts) (crowd p us) }
  where
    refused : (b : Bool) (r q : SyntaxFault) (ts us : List Token) (o : Outcome Token A) → Follow (cond b (out {A = A} (Err r) ts) (out {A = A} (Err q) us)) o
    refused true r q ts us o = tt
    refused false r q ts us o = tt

    by : (ts : List Token) (o r : Outcome Token A) → Follow (crowded ts o) r
    by ts (Ok a, vs) r = tt
    by ts (Err q, vs) r = refused _ q TooWide ts ts r

pub follow_links : {A B D : Type 0} {test : Token → Bool} {join : Reading Token D} {p : Reading Token A} (link : D → A → B)
    → SameTest test → Follows join → Follows p → (room : ℕ) → Follows (links test join link p room)
unfolding links
follow_links {p} link s j f zero = follow_either s (follow_both (λ b bs. b ∷ bs) (follow_both link j (follow_crowd p)) (follow_nothing [])) (follow_nothing [])
follow_links link s j f (suc room) = follow_either s (follow_both (λ b bs. b ∷ bs) (follow_both link j f) (follow_links link s j f room)) (follow_nothing [])

-- one more statement
more_statements : {S : Type 0} {p : Reading Token S} → Follows p → (n : ℕ) → Follows (statements p n) → (ts us : List Token) → StandFor ts us → Follow (statements p (suc n) ts) (statements p (suc n) us)
unfolding statements
more_statements s n m [] [] h = h
more_statements s n m [] (u ∷ us) h = absurd h
more_statements s n m (t ∷ ts) [] h = absurd h
more_statements s n m (t ∷ ts) (u ∷ us) h = (follow_both (λ x xs. x ∷ xs) s m).at (t ∷ ts) (u ∷ us) h

pub follow_statements : {S : Type 0} {p : Reading Token S} → Follows p → (n : ℕ) → Follows (statements p n)
unfolding statements
follow_statements s zero = record { at = λ ts us h. h }
follow_statements s (suc n) = record { at = more_statements s n (follow_statements s n) }
