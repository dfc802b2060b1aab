use Rattle.std.proofs.Common.{◌∙◌, Some, ap, length, refl, sym}
use Rattle.std.proofs.lemmas.Option.{slice_get_read}
use Rattle.store_groups.proofs.EntryLists.{key_identity}
use Rattle.store_groups.proofs.key.place_of.Goals as goal

pub returns-then-is_of : goal.returns-then-is_of
returns-then-is_of c =
    slice_get_read c.args.keys.now (length c.args.keys.now) c.loop-i.i c.index-keys-i.result refl c.loop-i-test.true c.index-keys-i.is
    ∙ ap (λ k. Some k) (sym (key_identity.tells c.args.key.now c.index-keys-i.result (sym c.is_of.ensures ∙ c.if-is_of.true)))
