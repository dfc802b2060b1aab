use Rattle.std.proofs.lemmas.List.Elements.{All-filter}
use Rattle.store_versions.specs.Older.{IsVersionOf, is_kept_at}
use Rattle.store_versions.proofs.directory.Directory.kept.Goals as goal

pub sharing-requires-clause-earlier : goal.sharing-requires-clause-earlier
sharing-requires-clause-earlier g c =
    rw c.in_ok-earlier.ensures
    (All-filter (is_kept_at c.kept.inside.number)
    (IsVersionOf c.args.self.now) c.earlier.result.now c.earlier.ensures)
