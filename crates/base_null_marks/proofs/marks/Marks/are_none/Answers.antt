use Rattle.std.proofs.Common.{◌∙◌, sym, arith}
use Rattle.base_null_marks.proofs.Words.{empty_words}
use Rattle.base_null_marks.proofs.marks.Marks.are_none.Goals as goal

pub returns : goal.returns
returns c t = sym c.self.view_is ∙ empty_words c.self.inside.words.items (omega (arith, c.if-len-gt0.false, c.len.ensures, c.self.inside.words.ok.0))
