-- The symbols that a line holds. Assumes nothing.
use Rattle.std.proofs.Common.{◌≡◌, length, arith, length-take-le}
use Rattle.positions.specs.declared.symbols.Symbols.{Symbols}
use Rattle.positions.specs.Masks.{held}

pub length-held : (s : Symbols) → length s.array ≡ 63 → length (held s) ≡ s.len
length-held s e = let few = s.few in length-take-le s.len s.array (omega arith)
