-- Laying down on vertices, step by step: a means of the proofs. A vertex is found or appended, outer list first, then
-- the inner list, then the list itself; on sound vertices this is what the ledger says.
use Rattle.std.specs.Prelude.{◌≡◌, ℕ, suc, ◌<◌, Bool, cond, ◌&&◌, List, [], ◌∷◌, ◌++◌, length, Some, None, Option, ◌==◌, ◌≢◌}
use Rattle.symbols.specs.Order.{same_symbol}
use Rattle.ledger.specs.Lists.{Codes, none, blank, begun}
use Rattle.ledger.specs.declared.Vertex.{Vertex}
use Rattle.ledger.specs.Diagrams.{Sound, Good, look}
use Rattle.ledger.specs.Ledger.{lay, lists, codes}

-- vertices vs become ws, and the list t has the number r there
pub record Laid {S : Type 0} (before : S → S → Bool) (vs : List (Vertex S)) (t : Codes S) (ws : List (Vertex S)) (r : ℕ) : Type 0 where
  pub sound : Sound before ws
  pub row : lists ws ≡ lay before (lists vs) t
  pub good : Good ws r
  pub is : codes ws r ≡ t

-- the lowest number of an equal vertex, or nothing
abbrev pub First : {S : Type 0} → List (Vertex S) → Vertex S → Option ℕ → Type 0
First vs v None = (n : ℕ) → look vs n ≢ Some v
First vs v (Some n) = (look vs n ≡ Some v) × ((m : ℕ) → m < n → look vs m ≢ Some v)

-- whether two vertices are equal
abbrev pub same_vertex : {S : Type 0} → (S → S → Bool) → Vertex S → Vertex S → Bool
same_vertex before v w = same_symbol before v.label w.label && (v.zero == w.zero && v.one == w.one)

-- the lowest number, counted from n, of an equal vertex
unfoldable pub found : {S : Type 0} → (S → S → Bool) → ℕ → List (Vertex S) → Vertex S → Option ℕ
found before n [] v = None
found before n (w ∷ vs) v = cond (same_vertex before w v) (Some n) (found before (suc n) vs v)

-- vertices and a number
abbrev pub Placed : Type 0 → Type 0
Placed S = List (Vertex S) × ℕ

abbrev pub or_new : {S : Type 0} → List (Vertex S) → Vertex S → Option ℕ → Placed S
or_new vs v None = (vs ++ v ∷ [], suc (suc (length vs)))
or_new vs v (Some n) = (vs, n)

-- an equal vertex, old or new
unfoldable pub placed : {S : Type 0} → (S → S → Bool) → List (Vertex S) → Vertex S → Placed S
placed before vs v = or_new vs v (found before 2 vs v)

-- a list laid down over vertices, with its number
unfoldable pub laying : {S : Type 0} → (S → S → Bool) → List (Vertex S) → Codes S → Placed S
laying before vs none = (vs, 0)
laying before vs blank = (vs, 1)
laying before vs (begun a z o) =
    let outer = laying before vs z in
    let inner = laying before outer.0 o in
    placed before inner.0 (record { label = a; zero = outer.1; one = inner.1 })
