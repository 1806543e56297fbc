-- The law of the bytes of symbols that travel.
use Rattle.std.specs.Prelude.{◌≡◌, ℕ, ◌<◌, ◌≤◌, List, length, Ok, Result, slice_index}
use Rattle.symbols.specs.declared.SymbolFault.{SymbolFault}

-- each element is a byte
abbrev pub Bytes : List ℕ → Type 0
Bytes bs = (k : ℕ) → k < length bs → slice_index bs k < 256

-- what a kind of symbols that travel tells: its number, its width, the bytes of a symbol, and what bytes read as
pub record Travel (S : Type 0) : Type 0 where
  pub kind : ℕ
  pub width : ℕ
  pub bytes : S → List ℕ
  pub reads : List ℕ → Result S SymbolFault

-- the law of what a kind tells
pub record WireLaws {S : Type 0} (travel : Travel S) : Type 0 where
  pub one_byte : travel.kind < 256
  pub some : 1 ≤ travel.width
  pub few : travel.width ≤ 8
  pub long : (s : S) → length (travel.bytes s) ≡ travel.width
  -- the bytes of a symbol read back as that symbol
  pub back : (s : S) → travel.reads (travel.bytes s) ≡ Ok s
  -- bytes that read as a symbol are that symbol's own
  pub own : (bs : List ℕ) (s : S) → length bs ≡ travel.width → Bytes bs → travel.reads bs ≡ Ok s → travel.bytes s ≡ bs
