-- How a refusal is told.
use Rattle.std.specs.Prelude.{ℕ, None}
use Rattle.symbols.specs.declared.Refusal.{Refusal}
use Rattle.symbols.specs.declared.SymbolFault.{SymbolFault}

-- a number and what it carries
abbrev pub carrying : ℕ → ℕ → Refusal
carrying n d = record { number = n; detail = d; symbol = None }

-- a number that carries 0
abbrev pub plain : ℕ → Refusal
plain n = carrying n 0

abbrev pub symbol_refusal : SymbolFault → Refusal
symbol_refusal f = carrying 1 f.byte
