-- The front of a file, from what was read of it.
use Rattle.std.proofs.Common.{◌≡◌, ◌∙◌, ℕ, ◌≤◌, ◌<◌, ◌+◌, List, ◌++◌, Option, None, Some, length, ap, sym, arith}
use Rattle.std.proofs.lemmas.List.{append-nil, length-append}
use Rattle.std.specs.Io.KnownBytes.{Consumes, IsAtEnd}
use Rattle.base_io.specs.Outside.{IsAll, IsLonger}
use Rattle.app_inputs.specs.Front.{IsFrontOf}

-- at the end all was read
pub front_ended : (limit : ℕ) (left later : Option (List ℕ)) (bytes : List ℕ) → Consumes left later bytes → IsAtEnd later → IsFrontOf limit left bytes
front_ended limit None later bytes read ended = tt
front_ended limit (Some text) None bytes read ended = absurd read
front_ended limit (Some text) (Some rest) bytes read ended = record { rest = rest; is = read; whole = λ _. ended }

-- past the limit nothing is said of the rest
pub front_longer : (limit : ℕ) (left later : Option (List ℕ)) (bytes : List ℕ) → Consumes left later bytes → limit < length bytes → IsFrontOf limit left bytes
front_longer limit None later bytes read long = tt
front_longer limit (Some text) None bytes read long = absurd read
front_longer limit (Some text) (Some rest) bytes read long = record { rest = rest; is = read; whole = λ short. absurd (omega arith) }

-- a front of no more bytes than the limit is all
pub front_all : (limit : ℕ) (left : Option (List ℕ)) (bytes : List ℕ) → IsFrontOf limit left bytes → length bytes ≤ limit → IsAll left bytes
front_all limit None bytes front short = tt
front_all limit (Some text) bytes front short = sym (front.is ∙ ap (λ rest. bytes ++ rest) (front.whole short) ∙ append-nil bytes)

-- a front of more bytes than the limit is of a text of more
pub front_more : (limit : ℕ) (left : Option (List ℕ)) (bytes : List ℕ) → IsFrontOf limit left bytes → limit < length bytes → IsLonger left limit
front_more limit None bytes front long = tt
front_more limit (Some text) bytes front long =
    let lengths : length text ≡ length bytes + length front.rest = ap length front.is ∙ length-append bytes front.rest in
    omega arith
