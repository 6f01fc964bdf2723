-- What a plate stands for, and what a call keeps of it. Assumes nothing.
use Rattle.std.specs.Prelude.{◌≡◌, List}
use Rattle.meaning.specs.Doers.{Given}
use Rattle.meaning.specs.Runs.{Account}
use Rattle.plate.specs.declared.open.Plate.{Plate}
use Rattle.plate.specs.Desks.{account_of}

-- what is known of a plate whose doer was given `history`
abbrev pub account : Plate → (history : List Given) → Account
account p history = account_of p.desk p.moves.now p.sets.now history

-- every cell as it was
abbrev pub SameCells : (before after : Plate) → Type 0
SameCells before after = (after.moves.now ≡ before.moves.now) × (after.sets.now ≡ before.sets.now)

-- the same lent memory, whatever its cells hold
abbrev pub SameMemory : (before after : Plate) → Type 0
SameMemory before after = (after.moves.ghost_name ≡ before.moves.ghost_name) × (after.sets.ghost_name ≡ before.sets.ghost_name)
