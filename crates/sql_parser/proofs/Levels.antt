-- All levels of the parts that lead back to themselves, and the laws of a statement.
use Rattle.std.proofs.Common.{◌≡◌, ℕ, zero, suc, ◌≤◌, List, [], ◌∷◌, length, Err, refl, arith, inr}
use Rattle.sql_lexer.specs.declared.token.Token.{Token}
use Rattle.sql_lexer.specs.declared.kind.Kind.{Kind}
use Rattle.sql_lexer.specs.declared.kind.Kind.TheVariants as k
use Rattle.sql_lexer.specs.Kinds.{is}
use Rattle.sql_ast.specs.declared.tree.Expr.{Expr}
use Rattle.sql_ast.specs.declared.tree.Block.{Block}
use Rattle.sql_ast.specs.declared.tree.Clause.TheVariants as clause
use Rattle.sql_ast.specs.declared.tree.Selected.TheVariants as selected
use Rattle.sql_ast.specs.declared.statement.Statement.{Statement}
use Rattle.sql_parser_steps.specs.declared.test.Test.TheVariants as t
use Rattle.sql_grammar_laws.specs.declared.SyntaxFault.TheVariants.{Unexpected}
use Rattle.sql_grammar_laws.specs.Marks.{Mark}
use Rattle.sql_grammar_laws.specs.Lines.{Never, One, less, Links, none}
use Rattle.sql_grammar_laws.specs.Readings.{Outcome, never}
use Rattle.sql_grammar_laws.specs.Laws.{Sample, Stable, IsReadBy}
use Rattle.sql_grammar_laws.specs.Lifting.{Lifts}
use Rattle.sql_grammar_laws.specs.Scripts.{IsScript}
use Rattle.sql_grammar_laws.proofs.Stable.{Stable-fixed}
use Rattle.sql_grammar_laws.proofs.Complete.{Complete-narrower}
use Rattle.sql_grammar_laws.proofs.Lift.{Below, Lifts-never, always}
use Rattle.sql_grammar_laws.proofs.Lawful.{Line, Deeper, Sample-then, Sample-map, Sample-left, Sample-right, line_kind, line_never, line_nothing, line_nonempty, ends_nil}
use Rattle.sql_grammar_laws.proofs.OneMeaning.{one_meaning}
use Rattle.sql_parser_steps.specs.Kinds.{kinds}
use Rattle.sql_parser_steps.specs.Values.{product, sum, tested, second, pair, cons, constant, plain_selection, joined, filters, block, combined}
use Rattle.sql_parser.specs.Expressions.{UnaryLine, PartLine, TestTail}
use Rattle.sql_parser.specs.Grammar.{BlockLine, QueryLine, SelectLine, JoinedLine, WhereTail, GroupTail, HavingTail, Unary, NotPart, Query, InnerQuery, Ended}
use Rattle.sql_parser_steps.specs.ExpressionReadings.{read_unary_line, read_part_line}
use Rattle.sql_parser_steps.specs.Readings.{read_query_line, unary_at, part_at, query_at, inner_unary, inner_part, inner_query, ended_at}
use Rattle.sql_parser.proofs.KindLists.{leaf_first, unary_first, part_first, on_unary, on_part, on_query, alias_words, statement_words}
use Rattle.sql_parser.proofs.WordLaws.{law-TableLine, law-Leaf}
use Rattle.sql_parser.proofs.LineLaws.{law-UnaryLine, law-PartLine, law-QueryLine, law-EndedLine}
use Rattle.sql_parser.proofs.LiftLaws.{lift-UnaryLine, lift-PartLine, lift-QueryLine, lift-EndedLine}

-- a text may nest deeper than there is room for
abbrev pub Higher : ℕ → ℕ → Type 0
Higher zero room = ⊥
Higher (suc h) zero = Unit {0}
Higher (suc h) (suc room) = Higher h room

pub higher : (room : ℕ) → Higher (suc room) room
higher zero = tt
higher (suc room) = higher room

-- ---- some text of each part

abbrev P : Type 1
P = List (Mark Token) → Expr → Type 0

abbrev Q : Type 1
Q = List (Mark Token) → Block → Type 0

Sample-unary_line : (wide room : ℕ) (U N : P) (B : Q) → Sample (UnaryLine wide room U N B)
Sample-unary_line wide room U N B =
    let leaf : Line kinds (Unit {0}) (Unit {0}) leaf_first on_unary _ _ = law-Leaf room in
    Sample-right (Sample-right (Sample-right (Sample-right (Sample-right (leaf.sample tt)))))

no_links : {A B C : Type 0} {J : List (Mark Token) → C → Type 0} {link : C → A → B} {G : List (Mark Token) → A → Type 0} (room : ℕ) → Sample (Links J link G room)
no_links room = record { marks = []; value = []; part = none }

Sample-part_line : (wide room : ℕ) (U N : P) (B : Q) → Sample U → Sample (PartLine wide room U N B)
Sample-part_line wide room U N B s = Sample-right (Sample-then tested (Sample-then sum (Sample-then product s (no_links wide)) (no_links wide)) no_test)
  where
    no_test : Sample (TestTail wide room U N B)
    no_test = record { marks = []; value = t.Absent; part = inr (inr (inr (inr (refl, refl)))) }

-- select * from a name
Sample-block_line : (wide room : ℕ) (N : P) (B : Q) → Sample (BlockLine wide room N B)
Sample-block_line wide room N B = Sample-then block select_star (Sample-then pair (Sample-then second from_word (Sample-then cons table (no_links wide))) (Sample-then filters no_where (Sample-then pair no_group no_having)))
  where
    word : (kind : Kind) → Sample (One (is kind))
    word kind = let l : Line kinds (Unit {0}) (Unit {0}) (kind ∷ []) [] _ _ = line_kind kinds kind in l.sample tt

    select_star : Sample (SelectLine wide N)
    select_star = Sample-then second (word k.Select) (Sample-right (Sample-map plain_selection (Sample-left (Sample-map (constant selected.All) (word k.Star)))))

    from_word : Sample (One (is k.From))
    from_word = word k.From

    table : Sample (JoinedLine wide room N B)
    table =
        let l : Line kinds (Unit {0}) (Unit {0}) (k.Name ∷ []) alias_words _ _ = law-TableLine in
        Sample-then joined (Sample-right (Sample-right (l.sample tt))) (no_links wide)

    no_where : Sample (WhereTail wide N)
    no_where = record { marks = []; value = clause.Absent; part = inr (refl, refl) }

    no_group : Sample (GroupTail wide)
    no_group = record { marks = []; value = []; part = inr (refl, refl) }

    no_having : Sample (HavingTail wide N)
    no_having = record { marks = []; value = clause.Absent; part = inr (refl, refl) }

Sample-query_line : (wide room : ℕ) (N : P) (B : Q) → Sample (QueryLine wide room N B)
Sample-query_line wide room N B = Sample-then combined (Sample-then combined (Sample-block_line wide room N B) (no_links wide)) (no_links wide)

Sample-unary : (h wide room : ℕ) → Sample (Unary h wide room)
unfolding Unary
Sample-unary zero wide room = Sample-unary_line wide room Never Never Never
Sample-unary (suc h) wide room = Sample-unary_line wide room (Unary h wide (less room)) (NotPart h wide (less room)) (Query h wide (less room))

Sample-part : (h wide room : ℕ) → Sample (NotPart h wide room)
unfolding Unary
Sample-part zero wide room = Sample-part_line wide room (UnaryLine wide room Never Never Never) Never Never (Sample-unary_line wide room Never Never Never)
Sample-part (suc h) wide room =
    let U = UnaryLine wide room (Unary h wide (less room)) (NotPart h wide (less room)) (Query h wide (less room)) in
    Sample-part_line wide room U (NotPart h wide (less room)) (Query h wide (less room)) (Sample-unary_line wide room (Unary h wide (less room)) (NotPart h wide (less room)) (Query h wide (less room)))

Sample-query : (h wide room : ℕ) → Sample (Query h wide room)
unfolding Unary
Sample-query zero wide room = Sample-query_line wide room (PartLine wide room (UnaryLine wide room Never Never Never) Never Never) Never
Sample-query (suc h) wide room =
    let U = UnaryLine wide room (Unary h wide (less room)) (NotPart h wide (less room)) (Query h wide (less room)) in
    Sample-query_line wide room (PartLine wide room U (NotPart h wide (less room)) (Query h wide (less room))) (Query h wide (less room))

-- ---- levels

pub record Parts (P S : Type 0) (U N : List (Mark Token) → Expr → Type 0) (B : List (Mark Token) → Block → Type 0) (u n : List Token → Outcome Token Expr) (b : List Token → Outcome Token Block) : Type 0 where
  pub unary : Line kinds P S unary_first on_unary U u
  pub part : Line kinds P S part_first on_part N n
  pub query : Line kinds P S (k.Select ∷ []) on_query B b

-- one level, from the level further in
Parts-of : {P S : Type 0} {U N : List (Mark Token) → Expr → Type 0} {B : List (Mark Token) → Block → Type 0} {u n : List Token → Outcome Token Expr} {b : List Token → Outcome Token Block} (wide room : ℕ) → Parts (Deeper room) S U N B u n b
    → Parts P S (UnaryLine wide room U N B) (PartLine wide room (UnaryLine wide room U N B) N B) (QueryLine wide room (PartLine wide room (UnaryLine wide room U N B) N B) B)
    (read_unary_line wide room u n b) (read_part_line wide room (read_unary_line wide room u n b) n b) (read_query_line wide room (read_part_line wide room (read_unary_line wide room u n b) n b) b)
Parts-of {P} {S} {U} {N} {B} {u} {n} {b} wide room i =
    let unary : Line kinds P S unary_first on_unary (UnaryLine wide room U N B) (read_unary_line wide room u n b) = law-UnaryLine wide room i.unary i.part i.query in
    let part : Line kinds P S part_first on_part (PartLine wide room (UnaryLine wide room U N B) N B) (read_part_line wide room (read_unary_line wide room u n b) n b) = law-PartLine wide room unary i.part i.query in
    record { unary = unary; part = part; query = law-QueryLine wide room part i.query }

stable_never : {A : Type 0} → Stable {T = Token} {A = A} never
stable_never = Stable-fixed (Err Unexpected)

nothing_inside : {P : Type 0} {u n : List Token → Outcome Token Expr} {b : List Token → Outcome Token Block} → Stable u → Stable n → Stable b → Parts P ⊥ Never Never Never u n b
nothing_inside s t v = record { unary = line_nothing s; part = line_nothing t; query = line_nothing v }

no_room : {S : Type 0} (h wide : ℕ) → Parts (Unit {0}) S (Unary h wide 0) (NotPart h wide 0) (Query h wide 0) (unary_at wide 0) (part_at wide 0) (query_at wide 0) → {R : Type 0} → Parts ⊥ R (Unary h wide 0) (NotPart h wide 0) (Query h wide 0) never never never
no_room h wide p = record {
  unary = line_never (λ x. x) p.unary.heads (λ _. Sample-unary h wide 0);
  part = line_never (λ x. x) p.part.heads (λ _. Sample-part h wide 0);
  query = line_never (λ x. x) p.query.heads (λ _. Sample-query h wide 0);
}

level_zero : (h wide : ℕ) → Parts (Unit {0}) (Higher h 0) (Unary h wide 0) (NotPart h wide 0) (Query h wide 0) (unary_at wide 0) (part_at wide 0) (query_at wide 0)
unfolding Unary unary_at
level_zero zero wide = Parts-of wide 0 (nothing_inside stable_never stable_never stable_never)
level_zero (suc h) wide = Parts-of wide 0 (no_room h wide (level_zero h wide))

pub level : (room h wide : ℕ) → Parts (Unit {0}) (Higher h room) (Unary h wide room) (NotPart h wide room) (Query h wide room) (unary_at wide room) (part_at wide room) (query_at wide room)
unfolding Unary unary_at
level zero h wide = level_zero h wide
level (suc room) zero wide = let p = level room 0 wide in Parts-of wide (suc room) (nothing_inside p.unary.stable p.part.stable p.query.stable)
level (suc room) (suc h) wide = let p = level room h wide in Parts-of wide (suc room) (record { unary = p.unary; part = p.part; query = p.query })

-- what stands inside
inside : (room h wide : ℕ) → Parts (Deeper room) (Higher (suc h) room) (Unary h wide (less room)) (NotPart h wide (less room)) (Query h wide (less room)) (inner_unary wide room) (inner_part wide room) (inner_query wide room)
inside zero h wide = no_room h wide (level_zero h wide)
inside (suc room) h wide = let p = level room h wide in record { unary = p.unary; part = p.part; query = p.query }

stable_inner : (wide room : ℕ) → Stable (inner_query wide room)
stable_inner wide zero = stable_never
stable_inner wide (suc room) = (level room 0 wide).query.stable

-- a query between parentheses
inner : (h wide room : ℕ) → Line kinds (Deeper room) (Higher h room) (k.Select ∷ []) on_query (InnerQuery h wide room) (inner_query wide room)
inner zero wide room = line_nothing (stable_inner wide room)
inner (suc h) wide room = (inside room h wide).query

-- a statement of any height
ended : (h wide room : ℕ) → Line kinds (Unit {0}) (Higher h room) statement_words [] (Ended wide room h) (ended_at wide room)
ended h wide room = law-EndedLine wide room (level room h wide).query (inner h wide room)

pub is_read : (wide room : ℕ) → IsReadBy (Ended wide room) (ended_at wide room)
is_read wide room = record {
  height = suc room;
  sound = (ended (suc room) wide room).sound (higher room);
  stable = (ended 0 wide room).stable;
  complete = λ h. Complete-narrower (λ ms a x. x) (λ ts x. ends_nil kinds ts) ((ended h wide room).complete tt);
  nonempty = λ h. line_nonempty (ended h wide room);
}

-- ---- larger limits

record Larger (n : ℕ) (U N : List (Mark Token) → Expr → Type 0) (B : List (Mark Token) → Block → Type 0) (V M : List (Mark Token) → Expr → Type 0) (C : List (Mark Token) → Block → Type 0) : Type 0 where
  unary : Lifts n U V
  part : Lifts n N M
  query : Lifts n B C

Larger-of : {S : Type 0} {U N V M : List (Mark Token) → Expr → Type 0} {B C : List (Mark Token) → Block → Type 0} {u w : List Token → Outcome Token Expr} {b : List Token → Outcome Token Block} (n many : ℕ) → n ≤ many → (wide room : ℕ)
    → Parts (Deeper room) S U N B u w b → Below n U V → Below n N M → Below n B C
    → Larger n (UnaryLine wide room U N B) (PartLine wide room (UnaryLine wide room U N B) N B) (QueryLine wide room (PartLine wide room (UnaryLine wide room U N B) N B) B)
    (UnaryLine many n V M C) (PartLine many n (UnaryLine many n V M C) M C) (QueryLine many n (PartLine many n (UnaryLine many n V M C) M C) C)
Larger-of {S} n many le wide room i v d c =
    let here : Parts (Unit {0}) S _ _ _ _ _ _ = Parts-of wide room i in
    let unary = lift-UnaryLine n many le wide room i.part v d c in
    let part = lift-PartLine n many le wide room here.unary i.part unary d c in
    record { unary = unary; part = part; query = lift-QueryLine n many le wide room here.part i.query part c }

larger : (h n many : ℕ) → n ≤ many → (wide room : ℕ) → Larger n (Unary h wide room) (NotPart h wide room) (Query h wide room) (Unary h many n) (NotPart h many n) (Query h many n)
unfolding Unary
larger zero n many le wide room = Larger-of n many le wide room (nothing_inside {P = Deeper room} stable_never stable_never stable_never) (always n (λ m. Lifts-never m)) (always n (λ m. Lifts-never m)) (always n (λ m. Lifts-never m))
larger (suc h) zero many le wide room = Larger-of 0 many le wide room (inside room h wide) tt tt tt
larger (suc h) (suc n) many le wide room =
    let i = larger h n many (omega arith) wide (less room) in
    Larger-of (suc n) many le wide room (inside room h wide) i.unary i.part i.query

larger_inner : (h n many : ℕ) → n ≤ many → (wide room : ℕ) → Below n (InnerQuery h wide room) (InnerQuery h many n)
larger_inner zero n many le wide room = always n (λ m. Lifts-never m)
larger_inner (suc h) zero many le wide room = tt
larger_inner (suc h) (suc n) many le wide room = (larger h n many (omega arith) wide (less room)).query

pub only_one : (wide room : ℕ) (ts : List Token) (ss us : List Statement) → IsScript (Ended wide room) ts ss → IsScript (Ended wide room) ts us → ss ≡ us
only_one wide room ts ss us s t =
    let n = length ts in
    one_meaning (Ended wide room) (Ended n n) (ended_at n n) (is_read n n) n (λ h. lift-EndedLine n n (omega arith) wide room (level room h wide).query (inner h wide room) (larger h n n (omega arith) wide room).query (larger_inner h n n (omega arith) wide room)) ts ss us (omega arith) s t
