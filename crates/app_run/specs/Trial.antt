-- The trial: a job over the data that is made for a number.
use Rattle.std.specs.Prelude.{◌≡◌, ℕ, List, [], ◌∷◌, ◌++◌, codes, false, map, None}
use Rattle.app_sample_data.specs.Texts.{made}
use Rattle.base_io.specs.Outside.{Folder}
use Rattle.app_run.specs.JobMeaning.{DiskTold, IsFirstOfJob, PrintsJob}
use Rattle.app_inputs.specs.declared.status.Status.{Status}

-- the trial's job
abbrev pub trial_job : List ℕ
trial_job =
    codes "session queries\nsession queries\nbefore insert 1\nbefore delete 1\n"

-- the script of both of its sessions: the 22 queries with their validation values
abbrev pub trial_queries : List ℕ
trial_queries =
    codes "run 1 (90);\n"
    ++ codes "run 2 (15, 'BRASS', 'EUROPE');\n"
    ++ codes "run 3 ('BUILDING', '1995-03-15');\n"
    ++ codes "run 4 ('1993-07-01');\n"
    ++ codes "run 5 ('ASIA', '1994-01-01');\n"
    ++ codes "run 6 ('1994-01-01', 0.06, 24);\n"
    ++ codes "run 7 ('FRANCE', 'GERMANY');\n"
    ++ codes "run 8 ('BRAZIL', 'AMERICA', 'ECONOMY ANODIZED STEEL');\n"
    ++ codes "run 9 ('green');\n"
    ++ codes "run 10 ('1993-10-01');\n"
    ++ codes "run 11 ('GERMANY', 0.0001);\n"
    ++ codes "run 12 ('MAIL', 'SHIP', '1994-01-01');\n"
    ++ codes "run 13 ('special', 'requests');\n"
    ++ codes "run 14 ('1995-09-01');\n"
    ++ codes "run 15 ('1996-01-01');\n"
    ++ codes "run 16 ('Brand#45', 'MEDIUM POLISHED', 49, 14, 23, 45, 19, 3, 36, 9);\n"
    ++ codes "run 17 ('Brand#23', 'MED BOX');\n"
    ++ codes "run 18 (300);\n"
    ++ codes "run 19 (1, 10, 20, 'Brand#12', 'Brand#23', 'Brand#34');\n"
    ++ codes "run 20 ('forest', '1994-01-01', 'CANADA');\n"
    ++ codes "run 21 ('SAUDI ARABIA');\n"
    ++ codes "run 22 ('13', '31', '23', '29', '30', '18', '17');\n"

-- a file of the made data in the folder of the tables
abbrev pub in_made : List ℕ × List ℕ → List ℕ × List ℕ
in_made file = (codes "made/" ++ file.0, file.1)

-- the files of the trial
abbrev pub trial_files : ℕ → Folder
trial_files number =
    (codes "job", trial_job) ∷ (codes "queries", trial_queries) ∷ map in_made (made number)

-- what the trial prints: its job's text over these files, without the rows of answers; the job
-- names no journal, so any disk will do
abbrev pub PrintsTrial : ℕ → List ℕ → Status → Type 0
PrintsTrial number text s = (disk : DiskTold)
    × PrintsJob false (codes "made") (codes "job") (trial_files number) disk text s

-- each of these files is there and of its form
abbrev pub IsTrialAccepted : ℕ → Type 0
IsTrialAccepted number =
    IsFirstOfJob (codes "made") (codes "job") (trial_files number) None None
