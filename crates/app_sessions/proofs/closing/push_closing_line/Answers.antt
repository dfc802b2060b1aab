use Rattle.std.proofs.Common.{rules, ◌≡◌, ◌∙◌, ◌++◌, ◌∷◌, [], ap, codes}
use Rattle.std.specs.Prelude.{decimal}
use Rattle.app_sessions.proofs.JobTexts.{parts_joined}
use Rattle.app_sessions.proofs.closing.push_closing_line.Goals as goal

pub returns : goal.returns
returns c =
    let before = c.args.text.now.items in
    let one : c.extend_from_slice.new.self.items ≡ before ++ codes "closing version " = c.in_ok-extend_from_slice.ensures.items in
    let two : c.extend_from_slice-2.new.self.items ≡ c.extend_from_slice.new.self.items ++ decimal c.args.version = search rules in
    let three : c.push.new.self.items ≡ c.extend_from_slice-2.new.self.items ++ 10 ∷ [] = search rules in
    three ∙ ap (λ t. t ++ 10 ∷ []) (two ∙ ap (λ t. t ++ decimal c.args.version) one)
    ∙ parts_joined before (codes "closing version ") (decimal c.args.version) (10 ∷ [])
