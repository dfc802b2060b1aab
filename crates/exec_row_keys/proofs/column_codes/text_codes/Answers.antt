use Rattle.std.proofs.Common.{List, map, get_or, ap, subst, ◌∙◌, arith}
use Rattle.std.specs.Prelude.{pos}
use Rattle.std.proofs.lemmas.List.{take_all}
use Rattle.base_value.specs.declared.value.Value.{Value}
use Rattle.base_value.specs.declared.value.Value.TheVariants.{Text}
use Rattle.exec_row_keys.specs.Keys.{AreCodes}
use Rattle.exec_row_keys.proofs.CodeLists.{text_codes}
use Rattle.exec_row_keys.proofs.column_codes.text_codes.Goals as goal

pub returns : goal.returns
returns c =
    let A : List Value → Type 0 = λ vs. AreCodes vs c.in_ok-numbered.numbered.items in
    let are = subst A (c.as_slice.ensures.value ∙ c.in_ok-texts.ensures ∙ ap (map Text) c.texts.ensures) c.in_ok-numbered.ensures in
    text_codes c.args.dictionary.now c.args.places.now c.in_ok-numbered.numbered.items c.loop-place.codes.items c.requires are
    (c.loop-place.invariant ∙ ap (map (λ p. get_or c.in_ok-numbered.numbered.items p (pos 0))) (take_all c.loop-place.place-index c.args.places.now (omega arith)))
