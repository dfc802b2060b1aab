use Rattle.store_groups.proofs.key.hash_of.Goals as goal

pub returns : goal.returns
returns c = record { is = c.hashed.ensures }
