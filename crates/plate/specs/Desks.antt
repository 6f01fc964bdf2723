-- What a plate's desk stands for: the account of its calls. Assumes nothing.
use Rattle.std.specs.Prelude.{ℕ, Bool, List, map, take, Option, Ok, Err, Result}
use Rattle.meaning.specs.Doers.{Given}
use Rattle.meaning.specs.Runs.{Account, Answer, refused, numbered}
use Rattle.sheet.specs.declared.refusal.Refusal.{Refusal}
use Rattle.sheet.specs.Entries.{text_of}
use Rattle.sheet.specs.Refusals.{reported}
use Rattle.plate.specs.declared.desk.Desk.{Desk}

-- the texts of the standing lines, in the order taken
abbrev pub texts_of : Desk → List (List ℕ)
texts_of d = map text_of (take d.standing d.entries)

-- whether the plate is built
abbrev pub is_built : Desk → Bool
is_built d = d.built

-- for each state of the table that was built last, the line that is taken there
abbrev pub accepts_of : Desk → List (Option ℕ)
accepts_of d = d.accepts

-- what is known of a plate with these cells, whose doer was given `history`
abbrev pub account_of : Desk → (moves sets : List ℕ) → (history : List Given) → Account
account_of d moves sets history = record { texts = texts_of d; built = is_built d; history = history; moves = moves; sets = sets }

-- what take, strike and build answer: a number, or a refusal
abbrev pub answer_of : Result ℕ Refusal → Answer
answer_of (Ok n) = numbered n
answer_of (Err f) = refused (reported f)
