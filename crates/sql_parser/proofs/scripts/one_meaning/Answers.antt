use Rattle.sql_parser.proofs.Answered.{tokens_answered, bytes_answered}
use Rattle.sql_parser.proofs.Whole.{tokens_once, bytes_once, read_or_refused}
use Rattle.sql_parser.proofs.scripts.one_meaning.Goals as goal

pub returns-clause-tokens : goal.returns-clause-tokens
returns-clause-tokens c = tokens_once

pub returns-clause-bytes : goal.returns-clause-bytes
returns-clause-bytes c = bytes_once

pub returns-clause-never : goal.returns-clause-never
returns-clause-never c = read_or_refused

pub returns-clause-some_tokens : goal.returns-clause-some_tokens
returns-clause-some_tokens c = tokens_answered

pub returns-clause-some_bytes : goal.returns-clause-some_bytes
returns-clause-some_bytes c = bytes_answered
