-- The number, the layer and the two details of each refusal. Assumes nothing.
use Rattle.sheet.specs.declared.refusal.Refusal.{Refusal}
use Rattle.sheet.specs.declared.refusal.Refusal.TheVariants.{LineSize, BadForm, TooDeep, OutOfRange, TooManySymbols, Clash, TooLittleMemory, ExtentTooLong, NoSuchLine, TooFewCodeCells, EightLines, NoLine, TooManyStates, NotBuilt, NotOpen}
use Rattle.std.specs.Prelude.{ℕ}
use Rattle.meaning.specs.Runs.{Refusal as Report, plain}

-- a refusal of the text layer, which names a byte
abbrev at_byte : ℕ → ℕ → Report
at_byte number byte = record { number = number; layer = 1; one = byte; two = 0 }

-- what a refusal tells: text is layer 1, expression 2, plate 3 and run 4
abbrev pub reported : Refusal → Report
reported LineSize = plain 1 1
reported (BadForm byte) = at_byte 2 byte
reported (TooDeep byte) = at_byte 3 byte
reported (OutOfRange byte) = at_byte 4 byte
reported (TooManySymbols byte) = at_byte 5 byte
reported (Clash p q) = record { number = 6; layer = 2; one = p; two = q }
reported TooLittleMemory = plain 7 3
reported ExtentTooLong = plain 8 4
reported NoSuchLine = plain 9 4
reported TooFewCodeCells = plain 10 4
reported EightLines = plain 21 3
reported NoLine = plain 22 3
reported TooManyStates = plain 23 3
reported NotBuilt = plain 24 3
reported NotOpen = plain 25 3
