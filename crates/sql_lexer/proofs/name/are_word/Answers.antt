use Rattle.std.proofs.Common.{◌&&◌, ◌∙◌, refl, rules, tests}
use Rattle.std.specs.List.{list_all}
use Rattle.std.proofs.lemmas.Iterator.{YieldsList-from_slice}
use Rattle.std.proofs.lemmas.Iterator.Search.{all_from_yields_List}
use Rattle.std.proofs.lemmas.List.Recursion.{same_from_clauses}
use Rattle.sql_lexer.specs.Bytes.{is_word}
use Rattle.sql_lexer.specs.Forms.{all_are}
use Rattle.sql_lexer.proofs.name.are_word.Goals as goal

pub returns : goal.returns
returns c =
    all_from_yields_List is_word _ _ _ c.all.ensures.ran (YieldsList-from_slice c.args.bytes.now cc) (λ x b q k. search (rules, tests))
    ∙ same_from_clauses (list_all is_word) (all_are is_word) (λ b rest. is_word b && rest) refl (λ b bs. refl) (λ b bs. refl) c.args.bytes.now
