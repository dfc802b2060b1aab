use Rattle.std.proofs.Common.{◌∙◌, sym, subst, List, arith, ◌≡◌, ap, ◌++◌, ◌∷◌, []}
use Rattle.std.proofs.lemmas.Result.{err_from_is_err_and}
use Rattle.sql_grammar_laws.specs.Kinds.{among}
use Rattle.sql_grammar_laws.specs.Readings.{Reads, crowded, is_err}
use Rattle.sql_grammar_laws.proofs.Loop.{loop_ends, loop_goes_on, full_reads, fails_reads, joins_reads}
use Rattle.sql_lexer.specs.declared.kind.Kind.TheVariants as k
use Rattle.sql_lexer.specs.declared.token.Token.{Token}
use Rattle.sql_ast.specs.declared.tree.Block.{Block}
use Rattle.sql_parser_steps.specs.Kinds.{kinds}
use Rattle.sql_parser_steps.specs.Readings as readings
use Rattle.sql_parser_steps.specs.Readings.{part_at, inner_query}
use Rattle.sql_parser_steps.specs.Values as values
use Rattle.sql_parser.proofs.blocks.Blocks.more_terms.Goals as goal

pub returns-then-width-eq0 : goal.returns-then-width-eq0
returns-then-width-eq0 g c =
    let crowds : List Token → Type 0 = λ x. Reads (crowded x ((readings.read_term 1023 c.args.self.now.room (part_at 1023 c.args.self.now.room) (inner_query 1023 c.args.self.now.room)) c.set_words.new.self)) (is_err {A = Block} c.one_too_many.result) c.one_too_many.new.self in
    full_reads (among kinds (k.Union ∷ k.Except ∷ [])) readings.read_set_words values.set_part (readings.read_term 1023 c.args.self.now.room (part_at 1023 c.args.self.now.room) (inner_query 1023 c.args.self.now.room)) _ c.more.found c.more.width c.more.parser c.more.invariant (sym c.starts_any.ensures ∙ c.more-test.true) (omega arith) _ _ c.in_ok-words.ensures _ _ (subst crowds c.rest-here.ensures (c.one_too_many.ensures _ c.term-element.ensures))

pub returns : goal.returns
returns g c = loop_ends (among kinds (k.Union ∷ k.Except ∷ [])) readings.read_set_words values.set_part (readings.read_term 1023 c.args.self.now.room (part_at 1023 c.args.self.now.room) (inner_query 1023 c.args.self.now.room)) _ c.more.found c.more.width c.more.parser c.more.invariant (sym c.starts_any.ensures ∙ c.more-test.false)

pub more-preserved : goal.more-preserved
more-preserved g c =
    let pushed : c.push.new.self ≡ c.more.found ++ values.set_part c.in_ok-words.words c.in_ok-element.field-0 ∷ [] = c.in_ok-push.ensures.ok ∙ ap (λ x. c.more.found ++ x ∷ []) c.set_part.ensures in
    rw pushed (loop_goes_on (among kinds (k.Union ∷ k.Except ∷ [])) readings.read_set_words values.set_part (readings.read_term 1023 c.args.self.now.room (part_at 1023 c.args.self.now.room) (inner_query 1023 c.args.self.now.room)) _ c.more.found c.more.width c.more.parser c.more.invariant (sym c.starts_any.ensures ∙ c.more-test.true) (omega arith) _ _ c.in_ok-words.ensures _ _ c.in_ok-element.ensures)

pub returns-in_err-element : goal.returns-in_err-element
returns-in_err-element g c =
    let p = err_from_is_err_and c.from_residual-in_err-element.result c.from_residual-in_err-element.ensures.1 in
    rw (p.1, p.2) (fails_reads (among kinds (k.Union ∷ k.Except ∷ [])) readings.read_set_words values.set_part (readings.read_term 1023 c.args.self.now.room (part_at 1023 c.args.self.now.room) (inner_query 1023 c.args.self.now.room)) _ c.more.found c.more.width c.more.parser c.more.invariant (sym c.starts_any.ensures ∙ c.more-test.true) (omega arith) _ _ c.in_ok-words.ensures _ _ c.in_err-element.ensures)

pub returns-in_err-words : goal.returns-in_err-words
returns-in_err-words g c =
    let p = err_from_is_err_and c.from_residual.result c.from_residual.ensures.1 in
    rw (p.1, p.2) (joins_reads (among kinds (k.Union ∷ k.Except ∷ [])) readings.read_set_words values.set_part (readings.read_term 1023 c.args.self.now.room (part_at 1023 c.args.self.now.room) (inner_query 1023 c.args.self.now.room)) _ c.more.found c.more.width c.more.parser c.more.invariant (sym c.starts_any.ensures ∙ c.more-test.true) _ _ c.in_err-words.ensures)
