use Rattle.std.proofs.Common.{◌≡◌, length}
use Rattle.base_text.specs.Pattern.{some_rest, is_like}
use Rattle.base_text.proofs.pattern.like_some_rest.Given as goal

abbrev pub invariant-parts : goal.invariant-parts
invariant-parts l = some_rest (is_like l.fn.pattern) l.fn.text ≡ some_rest (is_like l.pattern) l.text

abbrev pub decreases-parts : goal.decreases-parts
decreases-parts l = length l.pattern
