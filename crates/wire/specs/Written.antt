-- What is written of a list.
use Rattle.std.specs.Prelude.{ℕ, Bool, List}
use Rattle.symbols.specs.Wire.{Travel}
use Rattle.ledger.specs.Lists.{Codes}
use Rattle.ledger.specs.Ledger.{fresh}
use Rattle.ledger.specs.Dispatch.{dispatch}

-- the dispatch of the vertices that laying the list down in an empty ledger gives, and of its number there
abbrev pub written : {S : Type 0} → (S → S → Bool) → Travel S → Codes S → List ℕ
written before t codes = dispatch t.kind t.width t.bytes (fresh before codes)
