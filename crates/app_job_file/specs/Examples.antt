-- Jobs worked out by hand.
use Rattle.std.specs.List.{flat_map}
use Rattle.std.specs.Prelude.{◌≡◌, ℕ, List, [], ◌∷◌, ◌++◌, codes, Option, None, Some, Result, Ok, Err}
use Rattle.sql_ast.specs.declared.statement.RefreshKind.TheVariants.{Insert, Delete}
use Rattle.store_gateway.specs.declared.message.SenderId.TheVariants.{First, Second}
use Rattle.app_job_file.specs.Files.{JobParts, KeepParts, job_of, refused_line}
use Rattle.app_job_file.specs.Lines.{mention}
use Rattle.app_job_file.specs.declared.refusal.JobRefusal.{JobRefusal}
use Rattle.app_job_file.specs.declared.refusal.JobRefusal.TheVariants.{BadLine, LateBefore}
use Rattle.app_job_file.specs.declared.refusal.JobRefusal.TheVariants.{MixedSenders, TooMany, KeepTwice}
use Rattle.app_job_file.specs.declared.refusal.RefusedLine.{RefusedLine}

-- a job of one session with these further lines
abbrev pub job_with : List ℕ → Result JobParts RefusedLine
job_with lines = job_of (codes "session a\n" ++ lines)

-- such a job is refused at the last of three lines
abbrev pub at_third : JobRefusal → Result JobParts RefusedLine
at_third refusal = Err (refused_line refusal 3)

-- a kept view
abbrev pub keep_at : List ℕ → List ℕ → ℕ → KeepParts
keep_at name file line = record { name = name; file = file; line = line }

-- a line for each of so many kept views, named a, b and so on
abbrev pub keep_lines : List ℕ → List ℕ
keep_lines letters = flat_map (λ letter. codes "keep " ++ letter ∷ codes " q\n") letters

-- what the definitions say of these
pub record Examples : Type 0 where
  -- two senders after a refresh before the sessions
  pub sent : job_with (codes "before insert 1\nsend2 insert 2\nsend1 delete 1\n") ≡ Ok (record {
    keeps = [];
    scripts = codes "a" ∷ [];
    refreshes = mention Insert 1 ∷ mention Insert 2 ∷ mention Delete 1 ∷ [];
    before = 1;
    senders = Second ∷ First ∷ [];
    journal = None;
  })
  -- one journal, and a second one
  pub kept : job_with (codes "journal j\n") ≡ Ok (record {
    keeps = [];
    scripts = codes "a" ∷ [];
    refreshes = [];
    before = 0;
    senders = [];
    journal = Some (codes "j");
  })
  pub second_journal : job_with (codes "journal j\njournal k\n") ≡ at_third BadLine
  -- kept views, whose names are in lower case; a name that is reserved, one of a table, and one that
  -- is kept above
  pub views : job_with (codes "keep Per_cust q\n\nkeep b r\n") ≡ Ok (record {
    keeps = keep_at (codes "per_cust") (codes "q") 2 ∷ keep_at (codes "b") (codes "r") 4 ∷ [];
    scripts = codes "a" ∷ [];
    refreshes = [];
    before = 0;
    senders = [];
    journal = None;
  })
  pub reserved_name : job_with (codes "\nkeep Select q\n") ≡ at_third BadLine
  pub digit_first : job_with (codes "\nkeep 1st q\n") ≡ at_third BadLine
  pub no_file : job_with (codes "\nkeep a\n") ≡ at_third BadLine
  pub table_name : job_with (codes "\nkeep ORDERS q\n") ≡ at_third KeepTwice
  pub twice : job_with (codes "keep a q\nkeep A r\n") ≡ at_third KeepTwice
  -- the 17th is one too many, before its name counts
  pub most : job_with (keep_lines (codes "abcdefghijklmnopa")) ≡ Err (refused_line TooMany 18)
  -- a refresh that is sent after one beside the sessions that nobody sends, and the other way round
  pub sent_late : job_with (codes "beside insert 1\nsend1 insert 2\n") ≡ at_third MixedSenders
  pub beside_late : job_with (codes "send2 insert 1\nbeside insert 2\n") ≡ at_third MixedSenders
  -- none comes before the sessions after one that is sent
  pub before_late : job_with (codes "send1 insert 1\nbefore delete 1\n") ≡ at_third LateBefore
  -- no third sender, and no refresh without a number
  pub no_third : job_with (codes "\nsend3 insert 1\n") ≡ at_third BadLine
  pub no_number : job_with (codes "\nsend1 insert\n") ≡ at_third BadLine
