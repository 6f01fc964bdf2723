-- The text that the record of a line keeps. Assumes nothing.
use Rattle.std.specs.Prelude.{ℕ, List, take}
use Rattle.sheet.specs.declared.entry.Entry.{Entry}

-- the text as it was taken
abbrev pub text_of : Entry → List ℕ
text_of e = take e.len e.text
