-- Lines of statements. Each has the statement's number in its script, and the version over which it
-- was asked.
use Rattle.std.specs.Prelude.{ℕ, List, ◌++◌, codes, decimal}
use Rattle.base_refusals.specs.declared.statement.Refusal.{Refusal}
use Rattle.app_result_text.specs.Refusal.{refusal_written}

-- the beginning of a statement's line
abbrev pub line_start : ℕ → ℕ → List ℕ
line_start statement version = codes "[" ++ decimal statement ++ codes "] version "
    ++ decimal version

-- a view was made or dropped
abbrev pub done_text : ℕ → ℕ → List ℕ
done_text statement version = line_start statement version ++ codes " done\n"

-- a refresh was accepted and made the version after it
abbrev pub accepted_text : ℕ → ℕ → ℕ → List ℕ
accepted_text statement version after =
    line_start statement version ++ codes " accepted " ++ decimal after ++ codes "\n"

-- a statement was refused
abbrev pub refusal_text : ℕ → ℕ → Refusal → List ℕ
refusal_text statement version refusal =
    line_start statement version ++ codes " " ++ refusal_written refusal ++ codes "\n"
