-- Pairs with a part for each sender.
use Rattle.std.proofs.Common.{◌≡◌, false, refl}
use Rattle.store_gateway.specs.declared.message.SenderId.{SenderId}
use Rattle.store_gateway.specs.declared.message.SenderId.TheVariants.{First, Second}
use Rattle.store_gateway.specs.Queue.{pick, place, is_same_sender}

-- what holds of the new part of one sender, and of the old part of the other, holds of both
pub placed : {A : Type 0} (Q : SenderId → A → Type 0) (s : SenderId) (x : A) (p : A × A) → Q s x → ((t : SenderId) → is_same_sender t s ≡ false → Q t (pick t p)) → (t : SenderId) → Q t (pick t (place s x p))
placed Q First x p here there First = here
placed Q First x p here there Second = there Second refl
placed Q Second x p here there First = there First refl
placed Q Second x p here there Second = here

-- the same of two pairs
pub placed_both : {A B : Type 0} (Q : SenderId → A → B → Type 0) (s : SenderId) (x : A) (p : A × A) (y : B) (r : B × B) → Q s x y → ((t : SenderId) → is_same_sender t s ≡ false → Q t (pick t p) (pick t r)) → (t : SenderId) → Q t (pick t (place s x p)) (pick t (place s y r))
placed_both Q First x p y r here there First = here
placed_both Q First x p y r here there Second = there Second refl
placed_both Q Second x p y r here there First = there First refl
placed_both Q Second x p y r here there Second = here
