-- Laying the records of a dispatch down, one after another.
use Rattle.std.specs.Prelude.{◌≡◌, ℕ, ◌+◌, ◌<◌, Bool, List, [], ◌∷◌, ◌++◌, length, take, Ok, Err, Result}
use Rattle.ledger.specs.declared.Vertex.{Vertex}
use Rattle.ledger.specs.Lists.{Codes}
use Rattle.ledger.specs.Diagrams.{Good, Sound}
use Rattle.ledger.specs.Laid.{Laid}
use Rattle.ledger.specs.Ledger.{lay, lists, codes}
use Rattle.memory.specs.declared.shelf.Full.{Full}
use Rattle.memory.specs.declared.work.Place.{Place}
use Rattle.memory.specs.Marks.{noted}

-- lists laid down one after another
abbrev pub lay_all : {S : Type 0} → (S → S → Bool) → List (Codes S) → List (Codes S) → List (Codes S)
lay_all before row [] = row
lay_all before row (t ∷ ts) = lay_all before (lay before row t) ts

-- the first k records were laid down over the vertices vs, which are ws now; their places have the numbers of their lists
pub record Laying {S : Type 0} (before : S → S → Bool) (ds vs : List (Vertex S)) (k : ℕ) (ws : List (Vertex S)) (work : List Place) : Type 0 where
  pub sound : Sound before ws
  pub more : List (Vertex S)
  pub extends : ws ≡ vs ++ more
  pub row : lists ws ≡ lay_all before (lists vs) (take k (lists ds))
  pub numbers : (n : ℕ) → n < k + 2 → Good ws (noted work n) × (codes ws (noted work n) ≡ codes ds n)

-- the goal is laid down over the vertices vs; or it does not fit, and part of it may stand after them
abbrev pub Settled : {S : Type 0} → (S → S → Bool) → ℕ → List (Vertex S) → Codes S → Result ℕ Full → List (Vertex S) → Type 0
Settled before capacity vs goal (Ok n) ws = Laid before vs goal ws n
Settled {S} before capacity vs goal (Err e) ws = (capacity < length (lay before (lists vs) goal)) × ((more : List (Vertex S)) × (ws ≡ vs ++ more))
