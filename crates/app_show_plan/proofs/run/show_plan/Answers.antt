use Rattle.std.proofs.Common.{◌≡◌, Some, map, rules}
use Rattle.std.specs.String.{string_bytes}
use Rattle.app_show_plan.specs.Asked.{asked, asked_view}
use Rattle.app_show_plan.proofs.Printing.{answered}
use Rattle.app_show_plan.proofs.run.show_plan.Goals as goal

pub returns-in-Ok-clause-answer : goal.returns-in-Ok-clause-answer
returns-in-Ok-clause-answer g c =
    let is : asked (map string_bytes c.args.words.now) ≡ Some (asked_view c.in-Some.request) = search rules in
    answered (asked (map string_bytes c.args.words.now)) (asked_view c.in-Some.request) (g.F.Files.held c.args.files.now) c.in-Ok.text.items c.as_slice.result.now c.in-Ok.status c.write_text-in-Ok.result (g.S.Sink.taken c.args.out.now) (g.S.Sink.taken c.write_text-in-Ok.new.out)
    is c.in-Ok.ensures.prints.1 c.as_slice.ensures.value c.write_text-in-Ok.ensures.whole
