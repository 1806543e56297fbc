-- The ledger: a row of different lists, numbered from 2; 0 and 1 are always there. Laying a list down, and the vertices
-- that draw a row of lists.
use Rattle.std.specs.Prelude.{◌≡◌, ℕ, zero, suc, ◌<◌, ◌≤◌, Bool, true, false, cond, List, [], ◌∷◌, ◌++◌, length, Ok, Err, Result, slice_index_or}
use Rattle.ledger.specs.Lists.{Codes, none, blank, begun, same}
use Rattle.ledger.specs.declared.Vertex.{Vertex}

-- whether a list stands in the row
abbrev pub listed : {S : Type 0} → (S → S → Bool) → List (Codes S) → Codes S → Bool
listed before [] t = false
listed before (u ∷ row) t = cond (same before u t) true (listed before row t)

abbrev pub position : {S : Type 0} → (S → S → Bool) → List (Codes S) → Codes S → ℕ
position before [] t = 0
position before (u ∷ row) t = cond (same before u t) 0 (suc (position before row t))

-- the number of a list in the row; the next number, if it has none there
abbrev pub number : {S : Type 0} → (S → S → Bool) → List (Codes S) → Codes S → ℕ
number before row none = 0
number before row blank = 1
number before row (begun a outer inner) = suc (suc (position before row (begun a outer inner)))

-- laying a list down: nothing if it has a number; else its outer list, then its inner list, then itself
abbrev pub lay : {S : Type 0} → (S → S → Bool) → List (Codes S) → Codes S → List (Codes S)
lay before row none = row
lay before row blank = row
lay before row (begun a outer inner) =
    cond (listed before row (begun a outer inner)) row (lay before (lay before row outer) inner ++ begun a outer inner ∷ [])

-- the list with a number in a row
abbrev pub list_in : {S : Type 0} → List (Codes S) → ℕ → Codes S
list_in row zero = none
list_in row (suc zero) = blank
list_in row (suc (suc k)) = slice_index_or row k none

-- the lists that vertices draw, one after another
abbrev pub draw : {S : Type 0} → List (Codes S) → List (Vertex S) → List (Codes S)
draw row [] = row
draw row (v ∷ vs) = draw (row ++ begun v.label (list_in row v.zero) (list_in row v.one) ∷ []) vs

abbrev pub lists : {S : Type 0} → List (Vertex S) → List (Codes S)
lists vs = draw [] vs

-- the list with a number, in the row that vertices draw
abbrev pub codes : {S : Type 0} → List (Vertex S) → ℕ → Codes S
codes vs n = list_in (lists vs) n

-- the vertices that draw the lists of a row
abbrev pub vertices_in : {S : Type 0} → (S → S → Bool) → List (Codes S) → List (Codes S) → List (Vertex S)
vertices_in before row [] = []
vertices_in before row (none ∷ ts) = vertices_in before row ts
vertices_in before row (blank ∷ ts) = vertices_in before row ts
vertices_in before row (begun a outer inner ∷ ts) =
    record { label = a; zero = number before row outer; one = number before row inner } ∷ vertices_in before row ts

abbrev pub vertices_of : {S : Type 0} → (S → S → Bool) → List (Codes S) → List (Vertex S)
vertices_of before row = vertices_in before row row

-- the vertices after a list is laid down, and its number there
abbrev pub down : {S : Type 0} → (S → S → Bool) → List (Vertex S) → Codes S → List (Vertex S)
down before vs t = vertices_of before (lay before (lists vs) t)

abbrev pub down_number : {S : Type 0} → (S → S → Bool) → List (Vertex S) → Codes S → ℕ
down_number before vs t = number before (lay before (lists vs) t) t

-- a list is laid down where there may be `capacity` vertices: it is there then, and the answer is its number; or there
-- are too few numbers for it, and nothing changes
abbrev pub Lays : {S F : Type 0} → (S → S → Bool) → ℕ → List (Vertex S) → Codes S → Result ℕ F → List (Vertex S) → Type 0
Lays before capacity vs t (Ok n) ws =
    (length (lay before (lists vs) t) ≤ capacity) × (ws ≡ down before vs t) × (n ≡ down_number before vs t)
Lays before capacity vs t (Err e) ws = (capacity < length (lay before (lists vs) t)) × (ws ≡ vs)

-- what is written of a list: the vertices that laying it down in an empty ledger gives, and its number there
pub record Drawing (S : Type 0) : Type 0 where
  pub drawn : List (Vertex S)
  pub root : ℕ

abbrev pub fresh : {S : Type 0} → (S → S → Bool) → Codes S → Drawing S
fresh before t = record { drawn = vertices_of before (lay before [] t); root = number before (lay before [] t) t }
