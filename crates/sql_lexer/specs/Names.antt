-- Names outside a script.
use Rattle.std.specs.Prelude.{ℕ, Bool, false, ◌&&◌, List, [], ◌∷◌, map}
use Rattle.std.specs.Prelude.{Option, None, Some, if◌then◌else◌}
use Rattle.std.specs.Char.{to_ascii_lowercase}
use Rattle.sql_lexer.specs.Bytes.{is_letter, is_word}
use Rattle.sql_lexer.specs.Forms.{all_are}
use Rattle.sql_lexer.specs.Words.{reserved_kind}
use Rattle.sql_lexer.specs.declared.kind.Kind.{Kind}

-- bytes of which each can stand in a word, the first at its front
abbrev pub is_whole_word : List ℕ → Bool
is_whole_word [] = false
is_whole_word (b ∷ bs) = is_letter b && all_are is_word (b ∷ bs)

-- the name that a word is, if it isn't reserved
abbrev pub name_made : Option Kind → List ℕ → Option (List ℕ)
name_made (Some kind) word = None
name_made None word = Some word

-- the name that bytes are, in lower case, where they are a word that isn't reserved
abbrev pub name_of : List ℕ → Option (List ℕ)
name_of bytes =
    if is_whole_word bytes
    then name_made (reserved_kind (map to_ascii_lowercase bytes)) (map to_ascii_lowercase bytes)
    else None
