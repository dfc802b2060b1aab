use Rattle.std.proofs.Common.{◌≡◌, take}
use Rattle.std.specs.List.{filter}
use Rattle.store_versions.specs.Older.{is_kept_at}
use Rattle.store_versions.proofs.kept.kept_at.Given as goal

abbrev pub invariant-loop-version : goal.invariant-loop-version
invariant-loop-version g l =
    l.kept.items ≡ filter (is_kept_at l.number) (take l.version-index l.earlier)
