use Rattle.std.proofs.Common.{◌≡◌, ◌≤◌, [], ◌++◌, length, drop, ap, subst, sym, ◌∙◌}
use Rattle.std.proofs.lemmas.List.{drop_all}
use Rattle.store_versions.specs.Trials.{Trials}
use Rattle.store_versions.proofs.directory.Directory.begins_with.Goals as goal

pub returns-then-short-from-clause-begins : goal.returns-then-short-from-clause-begins
returns-then-short-from-clause-begins g c _ =
    let short = c.args.other.now.list in
    let long = c.args.self.now.list in
    let same : c.as_slice-short.result.now ≡ short =
    c.as_slice-short.ensures.value ∙ ap (λ v. v.items) c.deref-2.ensures
    ∙ ap (λ (t : Trials). t.list) c.other.view_is in
    let few : length short ≤ c.args.from = subst (λ l. length l ≤ c.args.from) same c.if-short-from.true in
    let none : drop c.args.from short ≡ [] = drop_all c.args.from short few in
    (drop c.args.from long, sym (ap (λ l. l ++ drop c.args.from long) none))
