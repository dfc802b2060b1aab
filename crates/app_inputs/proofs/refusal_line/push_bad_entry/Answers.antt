use Rattle.std.proofs.Common.{rules, ◌≡◌, ◌∙◌, ◌++◌, ap, append_assoc, codes}
use Rattle.std.specs.Prelude.{decimal}
use Rattle.app_inputs.proofs.refusal_line.push_bad_entry.Goals as goal

pub returns : goal.returns
returns c =
    let before = c.args.line.now.items in
    let digits = decimal c.args.place in
    let one : c.extend_from_slice.new.self.items ≡ before ++ codes " place " = search rules in
    let two : c.extend_from_slice-2.new.self.items ≡ c.extend_from_slice.new.self.items ++ digits = search rules in
    let three : c.extend_from_slice-3.new.self.items ≡ c.extend_from_slice-2.new.self.items ++ codes " 1 BadEntry\n" = c.in_ok-extend_from_slice-3.ensures.items in
    three ∙ ap (λ t. t ++ codes " 1 BadEntry\n") (two ∙ ap (λ t. t ++ digits) one)
    ∙ append_assoc (before ++ codes " place ") digits (codes " 1 BadEntry\n") ∙ append_assoc before (codes " place ") (digits ++ codes " 1 BadEntry\n")
