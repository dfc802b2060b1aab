use Rattle.std.proofs.Common.{◌≡◌, ◌++◌, drop}
use Rattle.store_refresh_text.specs.Text.{keys_text}
use Rattle.store_refresh_text.proofs.text.push_keys.Given as goal

abbrev pub invariant-loop-key : goal.invariant-loop-key
invariant-loop-key l = l.text.items ++ keys_text (drop l.key-index l.keys) ≡ l.fn.text.items ++ keys_text l.keys
