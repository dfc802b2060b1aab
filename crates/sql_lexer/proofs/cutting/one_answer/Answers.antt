use Rattle.sql_lexer.proofs.Answered.{answered}
use Rattle.sql_lexer.proofs.OneAnswer.{one_tokens, one_refusal, never_both}
use Rattle.sql_lexer.proofs.cutting.one_answer.Goals as goal

pub returns-clause-some : goal.returns-clause-some
returns-clause-some c = answered

pub returns-clause-tokens : goal.returns-clause-tokens
returns-clause-tokens c = one_tokens

pub returns-clause-refusal : goal.returns-clause-refusal
returns-clause-refusal c = one_refusal

pub returns-clause-never : goal.returns-clause-never
returns-clause-never c = never_both
