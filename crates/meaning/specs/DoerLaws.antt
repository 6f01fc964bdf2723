-- What is proved of the tape and the slip: their states stay what they are said to be, and they turn a code away just where their rule says. Assumes nothing.
use Rattle.std.specs.Prelude.{◌≡◌, ℕ, ◌<◌, ◌≤◌, ◌↔◌, List, [], ◌∷◌, ◌++◌, length, Some, None, slice_index}
use Rattle.meaning.specs.Bounds.{most_registers, most_register}
use Rattle.meaning.specs.Doers.{Given, Tape, tape_rule, tape_first, slip_rule, slip_first, Leads}

-- a tape that holds no more codes than it has cells
abbrev pub Within : Tape → Type 0
Within t = length t.held ≤ t.room

-- the tape keeps every code it is given, in order, in no more cells than it was lent, and turns a code away exactly when it is full
pub record TapeLaw : Type 0 where
  pub fresh : (room : ℕ) → Within (tape_first room)
  pub within : (t u : Tape) (code mark : ℕ) → tape_rule t code mark ≡ Some u → Within u
  pub full : (t : Tape) (code mark : ℕ) → Within t → (tape_rule t code mark ≡ None) ↔ (length t.held ≡ t.room)
  pub keeps : (t u : Tape) (code mark : ℕ) → tape_rule t code mark ≡ Some u → (u.room ≡ t.room) × (u.held ≡ t.held ++ code ∷ [])

-- eight registers, none above the highest value
abbrev pub Registers : List ℕ → Type 0
Registers rs = (length rs ≡ most_registers) × ((r : ℕ) → r < most_registers → slice_index rs r ≤ most_register)

-- the slip has eight registers, none above the highest value, at first and wherever its rule leads
pub record SlipLaw : Type 0 where
  pub fresh : Registers slip_first
  pub stays : (rs qs : List ℕ) (code mark : ℕ) → Registers rs → slip_rule rs code mark ≡ Some qs → Registers qs
  pub leads : (rs qs : List ℕ) (gs : List Given) → Registers rs → Leads slip_rule rs gs qs → Registers qs
