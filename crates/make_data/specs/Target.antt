-- What a run writes.
use Rattle.std.specs.Prelude.{◌≡◌, ℕ, List, [], ◌∷◌, ◌++◌, map, take, ⊤, Option, None, Some}
use Rattle.app_sample_data.specs.Texts.{made}
use Rattle.make_data.specs.Words.{Asks}

-- files by their paths, then their bytes
abbrev pub Written : Type 0
Written = List (List ℕ × List ℕ)

-- what is told stays at the front, and so much is added after it
abbrev pub Grows : {A : Type 0} → Option (List A) → Option (List A) → List A → Type 0
Grows None now more = ⊤
Grows (Some before) None more = ⊥
Grows (Some before) (Some now) more = now ≡ before ++ more

-- a part of it, from its front, is added
abbrev pub GrowsInPart : {A : Type 0} → Option (List A) → Option (List A) → List A → Type 0
GrowsInPart before now more = (n : ℕ) × Grows before now (take n more)

-- texts as files of a folder: the path is the folder, a slash and the name
abbrev pub files_in : List ℕ → Written → Written
files_in folder texts = map (λ t. (folder ++ 47 ∷ t.0, t.1)) texts

-- all files that the words ask for were written, in their order
abbrev pub WritesAll : List (List ℕ) → Option Written → Option Written → Type 0
WritesAll words before now =
    (n : ℕ) × (folder : List ℕ) × Asks words n folder × Grows before now (files_in folder (made n))

-- where the words ask for data, the first of its files were written, each whole, and no others
abbrev pub WritesFirst : List (List ℕ) → Option Written → Option Written → Type 0
WritesFirst words before now =
    (n : ℕ) → (folder : List ℕ) → Asks words n folder
    → GrowsInPart before now (files_in folder (made n))

-- where the words ask for data, nothing was printed
abbrev pub IsSilent : List (List ℕ) → Option (List ℕ) → Option (List ℕ) → Type 0
IsSilent words before now = (n : ℕ) → (folder : List ℕ) → Asks words n folder → Grows before now []
