-- What is proved of every row of vertices, every diagram and every dispatch.
use Rattle.std.specs.Prelude.{◌≡◌, ℕ, ◌≤◌, Bool, ◌⊎◌, ◌↔◌, List, [], ◌++◌, length}
use mathlib.Core.List.{Memᴰ}
use Rattle.symbols.specs.Wire.{Travel}
use Rattle.ledger.specs.Lists.{Codes, Member, Proper, Part}
use Rattle.ledger.specs.declared.Vertex.{Vertex}
use Rattle.ledger.specs.Diagrams.{Has, SameCodes, Good, Formed, Different, Sound, IsDiagram, Reached, Counts}
use Rattle.ledger.specs.Ledger.{lay, lists, codes, down, down_number, fresh}
use Rattle.ledger.specs.Laid.{laying}
use Rattle.ledger.specs.Gather.{keep, renumber, gather, Marked, Gatherable, Keeps}
use Rattle.ledger.specs.Dispatch.{dispatch}
use Rattle.ledger.specs.Visits.{Visits}

-- two good numbers are equal exactly when they have the same codes
abbrev pub Canonical : {S : Type 0} → (S → S → Bool) → Type 0
Canonical {S} before =
    (vs : List (Vertex S)) → Sound before vs → (m n : ℕ) → Good vs m → Good vs n → (m ≡ n) ↔ SameCodes vs m vs n

-- the codes read off the vertices are the codes of the number's list
abbrev pub ReadOff : {S : Type 0} → (S → S → Bool) → Type 0
ReadOff {S} before =
    (vs : List (Vertex S)) → Sound before vs → (n : ℕ) → Good vs n →
    Proper before (codes vs n) × ((c : List S) → Has vs n c ↔ Member (codes vs n) c)

-- every diagram of a good number's codes has at least as many vertices as are reached from that number
abbrev pub Minimal : {S : Type 0} → (S → S → Bool) → Type 0
Minimal {S} before =
    (vs : List (Vertex S)) → Sound before vs → (n : ℕ) → Good vs n → (r : ℕ) → Counts (Reached vs n) r →
    (ds : List (Vertex S)) → IsDiagram before ds → (d : ℕ) → Good ds d → SameCodes vs n ds d →
    r ≤ length ds

-- and one has just as many: what is written of the list
pub record LeastDiagram {S : Type 0} (before : S → S → Bool) (vs : List (Vertex S)) (n : ℕ) (ds : List (Vertex S)) (d : ℕ) : Type 0 where
  pub diagram : IsDiagram before ds
  pub good : Good ds d
  pub same : SameCodes vs n ds d
  pub reached : Counts (Reached vs n) (length ds)

abbrev pub Attained : {S : Type 0} → (S → S → Bool) → Type 0
Attained {S} before =
    (vs : List (Vertex S)) → Sound before vs → (n : ℕ) → Good vs n →
    LeastDiagram before vs n (fresh before (codes vs n)).drawn (fresh before (codes vs n)).root

-- the vertices of a fresh ledger are sound
abbrev pub FreshSound : {S : Type 0} → (S → S → Bool) → Type 0
FreshSound {S} before = Sound {S = S} before []

-- the list has a number
abbrev pub Numbered : {S : Type 0} → List (Vertex S) → Codes S → Type 0
Numbered vs t = (m : ℕ) × Good vs m × (codes vs m ≡ t)

-- a list t has been laid down on vertices vs: they are ws now, and t has number n
pub record LaidDown {S : Type 0} (before : S → S → Bool) (vs : List (Vertex S)) (t : Codes S) (ws : List (Vertex S)) (n : ℕ) : Type 0 where
  pub sound : Sound before ws
  -- the row of lists is what the ledger says, in its order
  pub row : lists ws ≡ lay before (lists vs) t
  -- a list has a number then exactly if it had one before, or is a part of t
  pub numbered : (u : Codes S) → Numbered ws u ↔ (Numbered vs u ⊎ Part t u)
  -- vertices are only appended, and no old number changes its codes
  pub appended : (more : List (Vertex S)) × (ws ≡ vs ++ more)
  pub old : (m : ℕ) → Good vs m → SameCodes vs m ws m
  -- the number has the list's codes
  pub good : Good ws n
  pub codes_are : (c : List S) → Has ws n c ↔ Member t c
  -- a list that has a number keeps it, and nothing is appended
  pub already : (m : ℕ) → Good vs m → ((c : List S) → Has vs m c ↔ Member t c) → (ws ≡ vs) × (n ≡ m)

-- laying down as the ledger says it, and step by step: one and the same
abbrev pub LayingDown : {S : Type 0} → (S → S → Bool) → Type 0
LayingDown {S} before =
    (vs : List (Vertex S)) → Sound before vs → (t : Codes S) → Proper before t →
    LaidDown before vs t (down before vs t) (down_number before vs t) × (laying before vs t ≡ (down before vs t, down_number before vs t))

-- clearing out by marks that keep just what is reached from the numbers ks
pub record ClearedOut {S : Type 0} (before : S → S → Bool) (vs : List (Vertex S)) (ks : List ℕ) (ms : List Bool) : Type 0 where
  -- a shelf gathers by such marks
  pub gatherable : Gatherable ms vs
  pub sound : Sound before (gather ms vs)
  -- exactly the marked lists stay, in their order
  pub row : lists (gather ms vs) ≡ keep ms (lists vs)
  -- each that is kept has its codes under its new number
  pub kept : (k : ℕ) → Memᴰ k ks → Good vs k → Marked ms k
  pub renumbered : (n : ℕ) → Good vs n → Marked ms n → Good (gather ms vs) (renumber ms n) × SameCodes vs n (gather ms vs) (renumber ms n)

pub record ClearingOut {S : Type 0} (before : S → S → Bool) : Type 0 where
  pub leaves : (vs : List (Vertex S)) → Sound before vs → (ks : List ℕ) (ms : List Bool) → Keeps vs ks ms → ClearedOut before vs ks ms
  -- there are such marks, and only one row of them
  pub some : (vs : List (Vertex S)) → Sound before vs → (ks : List ℕ) → (ms : List Bool) × Keeps vs ks ms
  pub only : (vs : List (Vertex S)) (ks : List ℕ) (ms ns : List Bool) → Keeps vs ks ms → Keeps vs ks ns → ms ≡ ns

-- what is written of a list is read back as that list
abbrev pub ReadBack : {S : Type 0} → (S → S → Bool) → Type 0
ReadBack {S} before =
    (t : Codes S) → Proper before t →
    Sound before (fresh before t).drawn × Good (fresh before t).drawn (fresh before t).root × (codes (fresh before t).drawn (fresh before t).root ≡ t)

-- vertices that are formed one by one are those that writing their root's list gives exactly when no two are equal and
-- the walk that lays the root's list down comes by all of them, in their order
abbrev pub Accepted : {S : Type 0} → (S → S → Bool) → Type 0
Accepted {S} before =
    (vs : List (Vertex S)) → Formed before vs → (root : ℕ) → Good vs root →
    (Different vs × Visits vs 0 root (length vs)) ↔ (fresh before (codes vs root) ≡ record { drawn = vs; root = root })

-- so of the bytes: those of formed vertices and a root are what writing the root's list gives under the same conditions
abbrev pub Received : {S : Type 0} → (S → S → Bool) → Travel S → Type 0
Received {S} before travel =
    (vs : List (Vertex S)) → Formed before vs → length vs ≤ 1000000 → (root : ℕ) → Good vs root →
    (Different vs × Visits vs 0 root (length vs)) ↔
    (dispatch travel.kind travel.width travel.bytes (fresh before (codes vs root)) ≡
    dispatch travel.kind travel.width travel.bytes (record { drawn = vs; root = root }))

-- a list written from one row and a list written from another give equal bytes exactly when they have the same codes
abbrev pub WrittenAlike : {S : Type 0} → (S → S → Bool) → Travel S → Type 0
WrittenAlike {S} before travel =
    (vs ws : List (Vertex S)) → Sound before vs → Sound before ws → length vs ≤ 1000000 → length ws ≤ 1000000 →
    (m n : ℕ) → Good vs m → Good ws n →
    (dispatch travel.kind travel.width travel.bytes (fresh before (codes vs m)) ≡
    dispatch travel.kind travel.width travel.bytes (fresh before (codes ws n))) ↔ SameCodes vs m ws n
