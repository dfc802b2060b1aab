-- Facts of files with known contents, from one step of reading to the next.
use Rattle.std.proofs.Common.{◌≡◌, ◌∙◌, ℕ, List, Option, None, Some, ap, subst, sym}
use Rattle.std.specs.declared.result.Result.{Result}
use Rattle.std.specs.declared.result.Result.TheVariants.{Ok, Err}
use Rattle.base_io.specs.Outside.{Folder}
use Rattle.app_inputs.specs.Inputs.{BadInput, and_then}
use Rattle.app_inputs.specs.Views.{Explains, Refuses, IfKnown, refused_view}
use Rattle.app_inputs.specs.declared.input_error.InputFault.{InputFault}
use Rattle.app_inputs.specs.declared.input_error.InputError.{InputError}
use Rattle.app_inputs.specs.declared.input_error.InputError.TheVariants as error
use Rattle.app_inputs.specs.declared.input_error.ReadError.TheVariants as read

-- a fact that follows from another one of any files
pub told_map : (held : Option Folder) (P Q : Folder → Type 0) → ((folder : Folder) → P folder → Q folder) → IfKnown held P → IfKnown held Q
told_map None P Q step told = tt
told_map (Some folder) P Q step told = step folder told

-- what is read on from an input, and what is refused of it
pub told_further : {A B : Type 0} → (held : Option Folder) (input : Folder → Result A BadInput) (further : A → Result B BadInput) (read : A) (result : Result B BadInput) → further read ≡ result → IfKnown held (λ folder. input folder ≡ Ok read) → IfKnown held (λ folder. and_then (input folder) further ≡ result)
told_further None input further read result is told = tt
told_further (Some folder) input further read result is told = ap (λ i. and_then i further) told ∙ is

pub told_refused : {A B : Type 0} → (held : Option Folder) (input : Folder → Result A BadInput) (further : A → Result B BadInput) (refused : BadInput) → IfKnown held (λ folder. input folder ≡ Err refused) → IfKnown held (λ folder. and_then (input folder) further ≡ Err refused)
told_refused None input further refused told = tt
told_refused (Some folder) input further refused told = ap (λ i. and_then i further) told

-- a refusal that was made of an input explains it
pub refusal_explains : {A : Type 0} → (held : Option Folder) (input : Folder → Result A BadInput) (name : List ℕ) (why : InputFault) (made : InputError) → Refuses name why made → IfKnown held (λ folder. input folder ≡ Err (record { name = name; fault = why })) → Explains held input made
refusal_explains held input name why (error.Unread read.Fault) refuses told = absurd refuses
refusal_explains held input name why (error.Unread read.OutOfMemory) refuses told = tt
refusal_explains held input name why (error.Refused refusal) refuses told =
    told_map held (λ folder. input folder ≡ Err (record { name = name; fault = why })) (λ folder. input folder ≡ Err (refused_view refusal)) (λ folder is. is ∙ ap Err (sym refuses)) told

-- what is read of one input and then of the next
pub told_both : {A B C : Type 0} → (held later : Option Folder) (first : Folder → Result A BadInput) (second : Folder → Result B BadInput) (make : A → B → C) (a : A) (b : B) → later ≡ held
    → IfKnown held (λ folder. first folder ≡ Ok a) → IfKnown later (λ folder. second folder ≡ Ok b)
    → IfKnown held (λ folder. and_then (first folder) (λ x. and_then (second folder) (λ y. Ok (make x y))) ≡ Ok (make a b))
told_both held later first second make a b same one two = at held one (subst (λ (k : Option Folder). IfKnown k (λ folder. second folder ≡ Ok b)) same two)
  where
    at : (h : Option Folder) → IfKnown h (λ folder. first folder ≡ Ok a) → IfKnown h (λ folder. second folder ≡ Ok b) → IfKnown h (λ folder. and_then (first folder) (λ x. and_then (second folder) (λ y. Ok (make x y))) ≡ Ok (make a b))
    at None one two = tt
    at (Some folder) one two = rw (one, two)

-- the second one's error explains the lack of both
pub both_refused : {A B C : Type 0} → (held later : Option Folder) (first : Folder → Result A BadInput) (second : Folder → Result B BadInput) (make : A → B → C) (a : A) (made : InputError) → later ≡ held
    → IfKnown held (λ folder. first folder ≡ Ok a) → Explains later second made
    → Explains held (λ folder. and_then (first folder) (λ x. and_then (second folder) (λ y. Ok (make x y)))) made
both_refused held later first second make a (error.Unread unread) same one two = tt
both_refused held later first second make a (error.Refused refusal) same one two = at held one (subst (λ (k : Option Folder). IfKnown k (λ folder. second folder ≡ Err (refused_view refusal))) same two)
  where
    at : (h : Option Folder) → IfKnown h (λ folder. first folder ≡ Ok a) → IfKnown h (λ folder. second folder ≡ Err (refused_view refusal)) → IfKnown h (λ folder. and_then (first folder) (λ x. and_then (second folder) (λ y. Ok (make x y))) ≡ Err (refused_view refusal))
    at None one two = tt
    at (Some folder) one two = rw (one, two)

-- an input that was read answers by what it means
pub told_answer : {A : Type 0} → (Means : A → List ℕ → Type 0) (held : Option Folder) (input : Folder → Result A BadInput) (read : A) (text : List ℕ) → IfKnown held (λ folder. input folder ≡ Ok read) → Means read text
    → IfKnown held (λ folder. (r : A) × (input folder ≡ Ok r) × Means r text)
told_answer Means None input read text told means = tt
told_answer Means (Some folder) input read text told means = (read, told, means)
