-- How the refusal of a text is told.
use Rattle.symbols.specs.Refusals.{plain, symbol_refusal}
use Rattle.symbols.specs.declared.Refusal.{Refusal}
use Rattle.texts.specs.declared.TextFault.{TextFault}
use Rattle.texts.specs.declared.TextFault.TheVariants.{Unreadable, Symbol}

abbrev pub refusal : TextFault → Refusal
refusal Unreadable = plain 18
refusal (Symbol fault) = symbol_refusal fault
