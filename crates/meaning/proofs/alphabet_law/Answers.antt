use Rattle.meaning.proofs.Classes.{alphabets}
use Rattle.meaning.proofs.alphabet_law.Goals as goal

pub returns : goal.returns
returns c = alphabets
