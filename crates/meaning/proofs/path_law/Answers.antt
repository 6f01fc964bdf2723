use Rattle.meaning.proofs.Paths.{path_law_lem}
use Rattle.meaning.proofs.path_law.Goals as goal

pub returns : goal.returns
returns c = path_law_lem
