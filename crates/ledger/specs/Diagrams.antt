-- Vertices, the codes of a number in a row of vertices, what is reached from it, and diagrams in general.
use Rattle.std.specs.Prelude.{◌≡◌, ℕ, zero, suc, ◌+◌, ◌<◌, ◌≤◌, Bool, true, ◌≢◌, ◌↔◌, List, [], ◌∷◌, length, Some, None, Option}
use mathlib.Core.List.{Memᴰ}
use Rattle.std.specs.List.{slice_get}
use Rattle.ledger.specs.declared.Vertex.{Vertex}

-- the label, the zero link and the one link together
abbrev pub parts : {S : Type 0} → Vertex S → S × ℕ × ℕ
parts v = (v.label, v.zero, v.one)

-- the vertex with a number: the first is number 2, and 0 and 1 are the terminals
abbrev pub look : {S : Type 0} → List (Vertex S) → ℕ → Option (Vertex S)
look vs zero = None
look vs (suc zero) = None
look vs (suc (suc k)) = slice_get vs k

-- a list number is good up to used + 1
abbrev pub Good : {S : Type 0} → List (Vertex S) → ℕ → Type 0
Good vs n = n ≤ length vs + 1

-- the codes of a number: terminal 0 has none, terminal 1 has the empty code, and a vertex has those of its zero link,
-- and its label followed by each code of its one link
pub data Has {S : Type 0} (vs : List (Vertex S)) : ℕ → List S → Type 0 where
  ends : {n : ℕ} {c : List S} → n ≡ 1 → c ≡ [] → Has vs n c
  passes : {n : ℕ} {c : List S} (v : Vertex S) → look vs n ≡ Some v → Has vs v.zero c → Has vs n c
  takes : {n : ℕ} {c : List S} (v : Vertex S) (rest : List S) → look vs n ≡ Some v → c ≡ v.label ∷ rest → Has vs v.one rest → Has vs n c

abbrev pub SameCodes : {S : Type 0} → List (Vertex S) → ℕ → List (Vertex S) → ℕ → Type 0
SameCodes {S} vs m ws n = (c : List S) → Has vs m c ↔ Has ws n c

-- reached from a number: its vertex, if it has one, and every vertex that links lead to from there
pub data Reached {S : Type 0} (vs : List (Vertex S)) : ℕ → ℕ → Type 0 where
  itself : {n k : ℕ} (v : Vertex S) → look vs n ≡ Some v → n ≡ k → Reached vs n k
  over_zero : {n k : ℕ} (v : Vertex S) → look vs n ≡ Some v → Reached vs v.zero k → Reached vs n k
  over_one : {n k : ℕ} (v : Vertex S) → look vs n ≡ Some v → Reached vs v.one k → Reached vs n k

-- the vertex at a zero link has the later label
abbrev pub Later : {S : Type 0} → (S → S → Bool) → List (Vertex S) → Type 0
Later {S} before vs =
    (n : ℕ) (v w : Vertex S) → look vs n ≡ Some v → look vs v.zero ≡ Some w → before v.label w.label ≡ true

-- what vertices keep one by one: links lead to lower numbers, no one link is 0, zero links lead to later labels
pub record Formed {S : Type 0} (before : S → S → Bool) (vs : List (Vertex S)) : Type 0 where
  pub zero_below : (n : ℕ) (v : Vertex S) → look vs n ≡ Some v → v.zero < n
  pub one_below : (n : ℕ) (v : Vertex S) → look vs n ≡ Some v → v.one < n
  pub one_not_0 : (n : ℕ) (v : Vertex S) → look vs n ≡ Some v → v.one ≢ 0
  pub later : Later before vs

-- no two vertices are equal
abbrev pub Different : {S : Type 0} → List (Vertex S) → Type 0
Different {S} vs = (m n : ℕ) (v : Vertex S) → look vs m ≡ Some v → look vs n ≡ Some v → m ≡ n

-- what a store's vertices keep
pub record Sound {S : Type 0} (before : S → S → Bool) (vs : List (Vertex S)) : Type 0 where
  pub formed : Formed before vs
  pub different : Different vs

-- a vertex leads to another over at least one link
pub data LeadsTo {S : Type 0} (ds : List (Vertex S)) : ℕ → ℕ → Type 0 where
  zero_step : {n k : ℕ} (v : Vertex S) → look ds n ≡ Some v → v.zero ≡ k → LeadsTo ds n k
  one_step : {n k : ℕ} (v : Vertex S) → look ds n ≡ Some v → v.one ≡ k → LeadsTo ds n k
  then : {n k j : ℕ} → LeadsTo ds n k → LeadsTo ds k j → LeadsTo ds n j

-- a diagram in general. The vertices are numbered in any order, equal vertices and unreached ones are allowed, and a one
-- link may be 0; links lead to vertices of the diagram or to terminals, and never back.
pub record IsDiagram {S : Type 0} (before : S → S → Bool) (ds : List (Vertex S)) : Type 0 where
  pub zero_good : (n : ℕ) (v : Vertex S) → look ds n ≡ Some v → Good ds v.zero
  pub one_good : (n : ℕ) (v : Vertex S) → look ds n ≡ Some v → Good ds v.one
  pub no_cycle : (n : ℕ) → LeadsTo ds n n → ⊥
  pub later : Later before ds

-- things that are all different
abbrev pub Apart : {A : Type 0} → List A → Type 0
Apart [] = Unit {0}
Apart (k ∷ ks) = (Memᴰ k ks → ⊥) × Apart ks

-- r is how many things, numbers or codes, have the property
pub record Counts {A : Type 0} (P : A → Type 0) (r : ℕ) : Type 0 where
  pub them : List A
  pub apart : Apart them
  pub sound : (k : A) → Memᴰ k them → P k
  pub whole : (k : A) → P k → Memᴰ k them
  pub many : length them ≡ r
