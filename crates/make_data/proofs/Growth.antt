-- How what is told grows.
use Rattle.std.proofs.Common.{◌≡◌, ℕ, ◌+◌, ◌<◌, List, [], ◌∷◌, ◌++◌, length, take, get_or, Option, None, Some, add-one, append-nil, append_assoc, ap, refl, subst, sym, ◌∙◌}
use Rattle.std.proofs.lemmas.List.{map-append, take-map}
use Rattle.std.proofs.Math.Seq.{take-suc}
use Rattle.std.specs.String.{string_bytes}
use Rattle.std.specs.Fmt.{decimal}
use Rattle.std.specs.Str.Parse.{digits_value}
use Rattle.app_sample_data.specs.Texts.{made, named}
use Rattle.app_sample_data.specs.declared.text.NamedText.{NamedText}
use Rattle.make_data.specs.Target.{Grows, GrowsInPart, Written, files_in}
use Rattle.make_data.specs.Words.{Asks}
use Rattle.make_data.proofs.Numbers.{decimal_value}

pub grows_none : {A : Type 0} (told : Option (List A)) → Grows told told []
grows_none None = tt
grows_none (Some before) = sym (append-nil before)

pub grows_further : {A : Type 0} (first middle last : Option (List A)) (more further : List A) → Grows first middle more → Grows middle last further → Grows first last (more ++ further)
grows_further None middle last more further g h = tt
grows_further (Some a) None last more further g h = absurd g
grows_further (Some a) (Some b) None more further g h = absurd h
grows_further (Some a) (Some b) (Some c) more further g h = h ∙ ap (λ l. l ++ further) g ∙ append_assoc a more further

-- nothing more
pub grows_still : {A : Type 0} (first middle last : Option (List A)) (more : List A) → Grows first middle more → Grows middle last [] → Grows first last more
grows_still None middle last more g h = tt
grows_still (Some a) None last more g h = absurd g
grows_still (Some a) (Some b) None more g h = absurd h
grows_still (Some a) (Some b) (Some c) more g h = h ∙ append-nil b ∙ g

-- a text more is a file more
file_more : (folder : List ℕ) (texts : List NamedText) (i : ℕ) (text : NamedText) → i < length texts → text ≡ get_or texts i text → files_in folder (named (take (i + 1) texts)) ≡ files_in folder (named (take i texts)) ++ (folder ++ 47 ∷ string_bytes text.name, text.bytes.items) ∷ []
unfolding named
file_more folder texts i text h e =
    let more : take (i + 1) texts ≡ take i texts ++ text ∷ [] = rw (add-one, take-suc texts i text h, ← e) refl in
    rw more (simp map-append)

pub file_written : (first middle last : Option Written) (folder : List ℕ) (texts : List NamedText) (i : ℕ) (text : NamedText) (path bytes : List ℕ) → i < length texts → text ≡ get_or texts i text → path ≡ folder ++ 47 ∷ string_bytes text.name → bytes ≡ text.bytes.items → Grows first middle (files_in folder (named (take i texts))) → Grows middle last ((path, bytes) ∷ []) → Grows first last (files_in folder (named (take (i + 1) texts)))
file_written first middle last folder texts i text path bytes h e p b g k =
    let file : ◌≡◌ {A = Written} ((path, bytes) ∷ []) ((folder ++ 47 ∷ string_bytes text.name, text.bytes.items) ∷ []) = cc in
    rw (file_more folder texts i text h e) (grows_further _ _ _ _ _ g (rw file at k))

-- the files of the first texts are the first of the files
first_files : (folder : List ℕ) (texts : List NamedText) (i : ℕ) → files_in folder (named (take i texts)) ≡ take i (files_in folder (named texts))
unfolding named
first_files folder texts i = simp take-map

pub in_part : (before now : Option Written) (folder : List ℕ) (texts : List NamedText) (i : ℕ) → Grows before now (files_in folder (named (take i texts))) → GrowsInPart before now (files_in folder (named texts))
in_part before now folder texts i g = (i, rw (first_files folder texts i) at g)

-- words ask for one number and one folder
asks_once : (words : List (List ℕ)) (n m : ℕ) (folder other : List ℕ) → Asks words n folder → Asks words m other → (m ≡ n) × (other ≡ folder)
asks_once words n m folder other h k =
    let lists : decimal m ∷ other ∷ [] ≡ decimal n ∷ folder ∷ [] = sym k.2 ∙ h.2 in
    let same : decimal m ≡ decimal n = cc in
    (sym (decimal_value m k.1) ∙ ap (digits_value 10) same ∙ decimal_value n h.1, cc)

pub first_asked : (words : List (List ℕ)) (n m : ℕ) (folder other : List ℕ) (before now : Option Written) → Asks words n folder → Asks words m other → GrowsInPart before now (files_in other (made m)) → GrowsInPart before now (files_in folder (made n))
first_asked words n m folder other before now h k g =
    let same = asks_once words n m folder other h k in
    subst (λ (r : ℕ × List ℕ). GrowsInPart before now (files_in r.1 (made r.0))) (let pair : ◌≡◌ {A = ℕ × List ℕ} (m, other) (n, folder) = cc in pair) g
