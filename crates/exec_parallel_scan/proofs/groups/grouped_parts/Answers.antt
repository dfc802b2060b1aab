use Rattle.std.proofs.Common.{rules, ◌≡◌, ◌<◌, ℕ, List, map, sym, ap, subst, ◌∙◌, arith, length, get_or}
use Rattle.std.specs.Prelude.{IfOk, Ok}
use Rattle.std.specs.Fork.{slice_chunk}
use Rattle.std.proofs.lemmas.List.{length-map}
use Rattle.base_columns.specs.Bags.{bag_rows}
use Rattle.exec_hash_group.specs.declared.part.GroupedPart.{GroupedPart}
use Rattle.exec_hash_group.specs.PartGroups.{IsGrouped}
use Rattle.exec_threads.proofs.MadeParts.{made_at}
use Rattle.exec_parallel_scan.proofs.MergedParts.{all_rows}
use Rattle.exec_parallel_scan.proofs.groups.grouped_parts.Goals as goal

pub returns-clause-rows : goal.returns-clause-rows
returns-clause-rows g c =
    let batches = c.batches-batches.result.now in
    let size = c.args.size in
    let by = c.args.by.now in
    let made = c.in_ok-made.made.items in
    let xs = c.in_ok-parts.parts.items in
    let is : made ≡ map (λ x. Ok x) xs = c.in_ok-parts.ensures in
    let long : length made ≡ length xs = ap length is ∙ length-map xs (λ x. Ok x) in
    all_rows size batches xs c.requires (sym long ∙ c.in_ok-made.ensures.len)
    (λ n d l. (made_at (λ p. (p.rows.rows ≡ bag_rows (slice_chunk batches size n)) × IsGrouped by p) made xs n d is l
    (λ e. let k = (c.in_ok-made.ensures.each n e (omega (arith, l, long))).1 in
    let m = k.call in
    let h : IfOk (get_or made n e) (λ p. (p.rows.rows ≡ bag_rows k.argument.now) × IsGrouped by p) = search rules in
    subst (λ bs. IfOk (get_or made n e) (λ p. (p.rows.rows ≡ bag_rows bs) × IsGrouped by p)) k.argument_is.value h)).0)
    ∙ sym c.batches-batches.ensures.rows

pub returns-clause-groups : goal.returns-clause-groups
returns-clause-groups g c = λ n d l.
    let by = c.args.by.now in
    let made = c.in_ok-made.made.items in
    let xs = c.in_ok-parts.parts.items in
    let is : made ≡ map (λ x. Ok x) xs = c.in_ok-parts.ensures in
    let long : length made ≡ length xs = ap length is ∙ length-map xs (λ x. Ok x) in
    let k = (c.in_ok-made.ensures.each n (Ok d) (omega (arith, l, long))).1 in
    (made_at (λ p. (p.rows.rows ≡ bag_rows k.argument.now) × IsGrouped by p) made xs n d is l
    (λ e. let j = (c.in_ok-made.ensures.each n e (omega (arith, l, long))).1 in
    let m = j.call in
    let h : IfOk (get_or made n e) (λ p. (p.rows.rows ≡ bag_rows j.argument.now) × IsGrouped by p) = search rules in
    subst (λ bs. IfOk (get_or made n e) (λ p. (p.rows.rows ≡ bag_rows bs) × IsGrouped by p)) (j.argument_is.value ∙ sym k.argument_is.value) h)).1
