use Rattle.std.proofs.Common.{[], ap, ◌∙◌}
use Rattle.indexmap.specs.IndexSet.{insert_all}
use Rattle.indexmap.proofs.SetLemmas.{set_all_distinct}
use Rattle.base_key_tables.proofs.key_set.KeySet.hash_anew.Goals as goal

pub returns : goal.returns
returns g c =
    c.in_ok-append.ensures.keys ∙ ap (λ l. insert_all g.K.PartialEq.eq l c.self.inside.keys.keys) c.in_ok-anew.ensures.empty
    ∙ set_all_distinct g.met.K.Eq.laws [] c.self.inside.keys.keys c.len-count.ensures.unique ∙ c.self.view_is
