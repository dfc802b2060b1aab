-- What comes of a refresh that is given to a publisher.
use Rattle.std.specs.Prelude.{◌≡◌}
use Rattle.store_versions.specs.Trials.{Trials}
use Rattle.store_versions.specs.declared.attachment.Attachment.{Ghosts}
use Rattle.store_snapshots.specs.Publishers.{AcceptsNext, Edition, RefusesNext}
use Rattle.store_snapshots.specs.declared.publisher.Given.{Given}
use Rattle.store_snapshots.specs.declared.publisher.Given.TheVariants.{Published, Refused}
use Rattle.store_snapshots.specs.declared.publisher.Given.TheVariants.{OutOfMemory}

-- the next refresh of these trials is tried: it is accepted or refused; or out of memory, and all
-- stays
abbrev pub TriesNext : {A : Type 0} {g : Ghosts A} → Trials → Edition → Edition → Given A g → Type 0
TriesNext trials old new (Published note) = AcceptsNext trials new note
TriesNext trials old new (Refused cause) = RefusesNext trials cause old.shown new
TriesNext trials old new OutOfMemory = new ≡ old
