-- What is written reads back.
use Rattle.std.specs.Prelude.{◌≡◌, ◌≤◌, Bool, List, [], length, Ok}
use Rattle.symbols.specs.Wire.{Travel}
use Rattle.ledger.specs.declared.Vertex.{Vertex}
use Rattle.ledger.specs.Diagrams.{Formed}
use Rattle.ledger.specs.Dispatch.{records}
use Rattle.wire.specs.Records.{records_in}

-- the records of formed vertices read as those vertices
abbrev pub RecordsBack : {S : Type 0} → (S → S → Bool) → Travel S → Type 0
RecordsBack {S} before t =
    (vs : List (Vertex S)) → Formed before vs → length vs ≤ 1000000 → records_in before t (length vs) [] (records t.bytes vs) ≡ Ok vs
