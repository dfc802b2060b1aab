-- Refusals of a statement that names the version over which it is asked, as lines say them.
use Rattle.std.specs.Prelude.{ℕ, List, ◌++◌, codes, decimal}
use Rattle.app_result_text.specs.Lines.{line_start}
use Rattle.app_result_text.specs.Refusal.{tagged}
use Rattle.app_result_text.specs.declared.version.VersionRefusal.{VersionRefusal}
use Rattle.app_result_text.specs.declared.version.VersionRefusal.TheVariants.{Unknown, Gone}

-- the number of a refusal
abbrev pub version_refusal_number : VersionRefusal → ℕ
version_refusal_number (Unknown version) = 23
version_refusal_number (Gone version) = 24

-- its name
abbrev pub version_refusal_name : VersionRefusal → List ℕ
version_refusal_name (Unknown version) = codes "VersionUnknown"
version_refusal_name (Gone version) = codes "VersionGone"

-- the version that the refused statement names
abbrev pub named_version : VersionRefusal → ℕ
named_version (Unknown version) = version
named_version (Gone version) = version

-- the word, the refusal's number and name, and the version that the statement names
abbrev pub version_refusal_written : VersionRefusal → List ℕ
version_refusal_written refusal =
    codes "refused" ++ tagged (version_refusal_number refusal) (version_refusal_name refusal)
    ++ codes " " ++ decimal (named_version refusal)

-- a statement of this number, which began over this version, was refused for the version it names
abbrev pub version_refusal_text : ℕ → ℕ → VersionRefusal → List ℕ
version_refusal_text statement version refusal =
    line_start statement version ++ codes " " ++ version_refusal_written refusal ++ codes "\n"
