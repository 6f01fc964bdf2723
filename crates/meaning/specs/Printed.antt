-- The bytes that programs print for a piece and for a refusal: numbers in decimal, a blank (32) between them. Assumes nothing.
use Rattle.std.specs.Prelude.{ℕ, List, ◌∷◌, ◌++◌}
use Rattle.std.specs.Fmt.{decimal}
use Rattle.meaning.specs.declared.Piece.{Piece}
use Rattle.meaning.specs.Runs.{Refusal}

-- line, place and length
abbrev pub piece_text : Piece → List ℕ
piece_text p = decimal p.line ++ (32 ∷ (decimal p.place ++ (32 ∷ decimal p.len)))

-- number, layer and the two details
abbrev pub refusal_text : Refusal → List ℕ
refusal_text f = decimal f.number ++ (32 ∷ (decimal f.layer ++ (32 ∷ (decimal f.one ++ (32 ∷ decimal f.two)))))
