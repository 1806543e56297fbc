-- The new numbers of a keep-list, read from the places.
use Rattle.std.proofs.Common.{◌≡◌, ℕ, ◌+◌, ◌≤◌, List, [], ◌∷◌, map, length, refl, ap₂}
use mathlib.Core.List.{Memᴰ}
use Rattle.ledger.specs.Gather.{renumber}
use Rattle.memory.specs.declared.work.Place.{Place}
use Rattle.memory.specs.Marks.{noted}
use Rattle.memory.specs.Shelves.{marks_in, Renumbered}
use Rattle.memory.proofs.Marking.{noted_of}

-- what is done to each member
map_each : {A B : Type 0} (f g : A → B) (xs : List A) → ((x : A) → Memᴰ x xs → f x ≡ g x) → map f xs ≡ map g xs
map_each f g [] h = refl
map_each f g (x ∷ xs) h = ap₂ (λ y ys. y ∷ ys) (h x (Memᴰ.head refl)) (map_each f g xs (λ y i. h y (Memᴰ.tail i)))

pub all_noted : (ps qs : List Place) (ns : List ℕ) → length qs ≡ length ps → Renumbered ps qs → ((n : ℕ) → Memᴰ n ns → n ≤ length ps + 1) →
    map (noted qs) ns ≡ map (renumber (marks_in ps)) ns
all_noted ps qs ns l r good = map_each (noted qs) (renumber (marks_in ps)) ns (λ n i. noted_of ps qs n l r (good n i))
