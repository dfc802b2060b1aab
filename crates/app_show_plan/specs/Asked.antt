-- What the words after the program's name ask for.
use Rattle.std.specs.Prelude.{ℕ, List, [], ◌∷◌, Bool, Option, None, Some, option_map, codes, nat_eq}
use Rattle.std.specs.Prelude.{if◌then◌else◌}
use Rattle.std.specs.List.{starts_with}
use Rattle.std.specs.Str.{bytes_eq}
use Rattle.app_show_plan.specs.declared.script.PlanForm.{PlanForm}
use Rattle.app_show_plan.specs.declared.script.PlanForm.TheVariants.{Lines, Objects}
use Rattle.app_show_plan.specs.declared.words.Request.{Request}

-- how plans are written, the name of the script, and the folder of the tables, where one is named
pub record Asked : Type 0 where
  pub form : PlanForm
  pub script : List ℕ
  pub folder : Option (List ℕ)

-- a word is written as an option
abbrev pub is_option : List ℕ → Bool
is_option word = starts_with nat_eq word (codes "--")

-- a script, and a folder where one is named; the script's name isn't written as an option
abbrev pub asked_for : PlanForm → List ℕ → Option (List ℕ) → Option Asked
asked_for form script folder =
    if is_option script then None
    else Some (record { form = form; script = script; folder = folder })

-- one word or two
abbrev pub asked_in : PlanForm → List (List ℕ) → Option Asked
asked_in form [] = None
asked_in form (script ∷ []) = asked_for form script None
asked_in form (script ∷ folder ∷ []) = asked_for form script (Some folder)
asked_in form (script ∷ folder ∷ word ∷ words) = None

-- the same, `--json` before them where plans are to be objects
abbrev pub asked : List (List ℕ) → Option Asked
asked [] = None
asked (word ∷ words) =
    if bytes_eq word (codes "--json") then asked_in Objects words else asked_in Lines (word ∷ words)

-- what a request asks for
abbrev pub asked_view : Request → Asked
asked_view request = record {
  form = request.form;
  script = request.script.now;
  folder = option_map (λ folder. folder.now) request.folder;
}
