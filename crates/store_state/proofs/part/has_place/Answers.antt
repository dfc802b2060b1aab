use Rattle.std.proofs.Common.{◌∙◌}
use Rattle.store_state.proofs.LeftRows.{place_found}
use Rattle.store_state.proofs.part.has_place.Goals as goal

pub returns : goal.returns
returns c = c.is_ok.ensures.value ∙ place_found c.args.places.now c.args.place c.binary_search.result c.requires c.binary_search.ensures.position
