-- The words of the command line.
use Rattle.std.specs.Prelude.{◌≡◌, ℕ, ◌≤◌, List, [], ◌∷◌, codes, decimal}

-- the word writes the number, from 1 to 1000, in decimal digits without a sign or a leading zero
abbrev pub IsNumber : List ℕ → ℕ → Type 0
IsNumber word n = (1 ≤ n) × (n ≤ 1000) × (word ≡ decimal n)

-- the words ask for the data of the number in the folder: they are the number and the folder
abbrev pub Asks : List (List ℕ) → ℕ → List ℕ → Type 0
Asks words n folder = (1 ≤ n) × (n ≤ 1000) × (words ≡ decimal n ∷ folder ∷ [])

-- the words ask for no data
abbrev pub AsksNothing : List (List ℕ) → Type 0
AsksNothing words = (n : ℕ) → (folder : List ℕ) → ¬ Asks words n folder

-- the line for words that ask for no data
abbrev pub usage_line : List ℕ
usage_line = codes "usage: make_data NUMBER FOLDER, with a number from 1 to 1000\n"
