use Rattle.store_file_reader.proofs.Keys.{key_identity}
use Rattle.store_file_reader.proofs.key.insert_key.Goals as goal

pub insert-requires : goal.insert-requires
insert-requires c = key_identity
