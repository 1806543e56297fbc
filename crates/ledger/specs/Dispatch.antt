-- The dispatch: what is written of a list, in bytes.
use Rattle.std.specs.Prelude.{ℕ, ◌+◌, ◌*◌, ◌/◌, ◌%◌, List, [], ◌∷◌, ◌++◌, length}
use Rattle.ledger.specs.declared.Vertex.{Vertex}
use Rattle.ledger.specs.Ledger.{Drawing}

abbrev pub be4 : ℕ → List ℕ
be4 n = n / 16777216 % 256 ∷ n / 65536 % 256 ∷ n / 256 % 256 ∷ n % 256 ∷ []

abbrev pub records : {S : Type 0} → (S → List ℕ) → List (Vertex S) → List ℕ
records bytes [] = []
records bytes (v ∷ vs) = bytes v.label ++ (be4 v.zero ++ (be4 v.one ++ records bytes vs))

abbrev pub dispatch : {S : Type 0} → ℕ → ℕ → (S → List ℕ) → Drawing S → List ℕ
dispatch kind width bytes d =
    be4 (14 + length d.drawn * (width + 8)) ++ (1 ∷ kind ∷ be4 (length d.drawn) ++ (be4 d.root ++ records bytes d.drawn))
