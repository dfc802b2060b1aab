-- What grammar lines are made of. A part of the grammar says which marked tokens spell which value.
use Rattle.std.specs.Prelude.{◌≡◌, ℕ, zero, suc, Bool, true, List, [], ◌∷◌, ◌++◌, ◌⊎◌}
use Rattle.sql_grammar_laws.specs.Marks.{Mark, plain, opening, element}

-- A part of the grammar, or all of it: it says which marked tokens spell which values.
abbrev pub Part : Type 0 → Type 0 → Type 1
Part T A = List (Mark T) → A → Type 0

-- one token that passes the test
abbrev pub One : {T : Type 0} → (T → Bool) → Part T T
One test ms t = (test t ≡ true) × (ms ≡ plain t ∷ [])

-- one token that opens a level
abbrev pub Opens : {T : Type 0} → ℕ → (T → Bool) → Part T T
Opens room test ms t = (test t ≡ true) × (ms ≡ opening room t ∷ [])

-- no token, which means this value
abbrev pub Empty : {T A : Type 0} → A → Part T A
Empty a ms b = (ms ≡ []) × (b ≡ a)

-- nothing at all
abbrev pub Never : {T A : Type 0} → Part T A
Never ms a = ⊥

-- one after the other
pub record Then {T A B C : Type 0} (f : A → B → C) (G : List (Mark T) → A → Type 0)
    (H : List (Mark T) → B → Type 0) (ms : List (Mark T)) (c : C) : Type 0 where
  pub front : List (Mark T)
  pub back : List (Mark T)
  pub a : A
  pub b : B
  pub first : G front a
  pub second : H back b
  pub text : ms ≡ front ++ back
  pub value : c ≡ f a b

-- what one part or the other spells
abbrev pub Or : {T A : Type 0} → Part T A → Part T A → Part T A
Or G H ms a = G ms a ⊎ H ms a

-- a value of it, seen by f
pub record Map {T A B : Type 0} (f : A → B) (G : List (Mark T) → A → Type 0) (ms : List (Mark T))
    (b : B) : Type 0 where
  pub a : A
  pub part : G ms a
  pub value : b ≡ f a

-- one level less of room
abbrev pub less : ℕ → ℕ
less zero = zero
less (suc n) = n

-- an element of a list that has room for n more
pub record Element {T A : Type 0} (room : ℕ) (G : List (Mark T) → A → Type 0) (ms : List (Mark T))
    (a : A) : Type 0 where
  pub inner : List (Mark T)
  pub part : G inner a
  pub text : ms ≡ element room inner

-- elements, each after what joins it to those before
pub data Links {T A B D : Type 0} (J : List (Mark T) → D → Type 0) (link : D → A → B)
    (G : List (Mark T) → A → Type 0) : ℕ → List (Mark T) → List B → Type 0 where
  none : {room : ℕ} → Links J link G room [] []
  more : {room : ℕ} (js ms ns : List (Mark T)) (d : D) (a : A) (bs : List B) → J js d → G ms a
      → Links J link G (less room) ns bs
      → Links J link G room (js ++ (element room ms ++ ns)) (link d a ∷ bs)
