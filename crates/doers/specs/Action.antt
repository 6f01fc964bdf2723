-- The codes of the slip's actions. Assumes nothing.
use Rattle.std.specs.Prelude.{◌≡◌, ◌≢◌, ℕ, ◌+◌, ◌<◌, Result, MatchResult}
use Rattle.meaning.specs.Bounds.{most_registers}
use Rattle.doers.specs.declared.action.Action.{Action}
use Rattle.doers.specs.declared.action.Action.TheVariants.{Keep, Clear, Append, Count}
use Rattle.doers.specs.declared.action.UnknownCode.{UnknownCode}

-- the code that asks for an action
abbrev pub code_of : Action → ℕ
code_of Keep = 0
code_of (Clear r) = 16 + r
code_of (Append r) = 32 + r
code_of (Count r) = 48 + r

-- the register that an action is for, if it is for one, is one of the slip's
abbrev pub IsOnSlip : Action → Type 0
IsOnSlip Keep = Unit {0}
IsOnSlip (Clear r) = r < most_registers
IsOnSlip (Append r) = r < most_registers
IsOnSlip (Count r) = r < most_registers

-- the result is the action that the code asks for, or an error with the code, which asks for none
abbrev pub Decodes : ℕ → Result Action UnknownCode → Type 0
Decodes code r =
    MatchResult r (λ a. (code_of a ≡ code) × IsOnSlip a) (λ e. (e.0 ≡ code) × ((a : Action) → IsOnSlip a → code_of a ≢ code))
