-- What an entry and a note under the rule mean.
use Rattle.std.specs.Prelude.{◌≡◌, false, List}
use Rattle.std.specs.Option.{ForSome}
use Rattle.std.specs.Arc.{arc_value}
use Rattle.store_state.specs.Refresh.{Change}
use Rattle.store_state.specs.Prefixes.{IsPrefix}
use Rattle.store_versions.specs.Trials.{Trials}
use Rattle.store_versions.specs.declared.attachment.Attachment.{Ghosts}
use Rattle.left_right.specs.Sides.{view}
use Rattle.store_snapshots.specs.Openings.{Opening}
use Rattle.store_snapshots.specs.declared.ruled.RuledEntry.{RuledEntry}
use Rattle.store_snapshots.specs.declared.note.Note.{Note}

-- the opening of the versions that an entry gives
abbrev pub opening_of : {A : Type 0} → RuledEntry A → Opening
opening_of entry = (view entry.reader.place).opening

-- the list begins with the one that the entry saw last, and with the one that it was told of
abbrev pub list_fits : {A : Type 0} → RuledEntry A → List Change → Type 0
list_fits entry list = IsPrefix (view entry.reader.place).list list
    × ForSome entry.told (λ told. IsPrefix (arc_value told).list list) × (entry.is_stuck ≡ false)

-- the version that a note tells of
abbrev pub note_version : {A : Type 0} {g : Ghosts A} → Note A g → Trials
note_version note = arc_value note.share
