use Rattle.std.proofs.Common.{◌≡◌, not, ap, sym, ◌∙◌}
use Rattle.base_row_laws.specs.Bags.{has}
use Rattle.base_row_laws.specs.Numbers.{place_in}
use Rattle.base_key_tables.specs.Distinct.{added}
use Rattle.base_key_tables.proofs.NumberSteps.{any_is_has}
use Rattle.base_key_tables.proofs.SetLists.{put_keys, put_place}
use Rattle.base_key_tables.proofs.key_set.KeySet.put.Goals as goal

pub returns-clause-keys : goal.returns-clause-keys
returns-clause-keys g c =
    let old : c.self.inside.keys.keys ≡ c.args.self.now = c.self.view_is ∙ c.look_at_sample.ensures in
    c.in_ok-put.ensures.keys ∙ put_keys g.K.PartialEq.eq c.args.key c.self.inside.keys.keys ∙ ap (λ l. added g.K.PartialEq.eq l c.args.key) old

pub returns-clause-place : goal.returns-clause-place
returns-clause-place g c =
    let keys = c.in_ok-put.ensures.keys ∙ put_keys g.K.PartialEq.eq c.args.key c.self.inside.keys.keys in
    c.in_ok-put.ensures.index ∙ put_place g.K.PartialEq.eq c.requires c.args.key c.self.inside.keys.keys
    ∙ ap (λ l. place_in g.K.PartialEq.eq l c.args.key) (sym keys)

pub returns-clause-is_new : goal.returns-clause-is_new
returns-clause-is_new g c =
    let old : c.self.inside.keys.keys ≡ c.args.self.now = c.self.view_is ∙ c.look_at_sample.ensures in
    c.in_ok-put.ensures.added ∙ ap not (any_is_has g.K.PartialEq.eq c.args.key c.self.inside.keys.keys ∙ ap (has g.K.PartialEq.eq c.args.key) old)
