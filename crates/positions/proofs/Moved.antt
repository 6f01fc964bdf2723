-- The union of what follows the fitting positions of a set is the set's move. Assumes nothing.
use Rattle.std.proofs.Common.{◌≡◌, ℕ, ◌≤◌, true, List, length, sym, ap, ◌∙◌, arith}
use Rattle.std.proofs.lemmas.Bool.Decides.{same_from_decides}
use Rattle.meaning.specs.declared.Symbol.{Symbol}
use Rattle.meaning.specs.Words.{Line}
use Rattle.meaning.specs.Positions.{has, move}
use Rattle.meaning.proofs.Masks.{same_mask}
use Rattle.meaning.proofs.Moves.{move_parts, in_move}
use Rattle.positions.specs.Masks.{Position, Union, InUnion, LineSets}
use Rattle.positions.specs.Of.{Fitting}
use Rattle.positions.proofs.Fitting.{length_is}

module _ (l : Line) (symbols : List Symbol) (first : ℕ) (follow : List ℕ) (set c fit : ℕ) (few : length symbols ≤ 63) (s : LineSets l symbols first follow) (f : Fitting l set c fit) where
  to_union : (q : ℕ) → 1 ≤ q → has (move l set c) q ≡ true → InUnion follow fit q
  to_union q h e =
      let (p, i, g, n) = move_parts l set c q (h, e) in
      let o : Position p = (i.0, omega (arith, length_is l symbols s.symbols_are, g.1)) in
      (p, o, (f p i.0).1 (i.1, g), ap (λ x. has x q) (s.follow_is p o) ∙ n.1)

  from_union : (q : ℕ) → 1 ≤ q → InUnion follow fit q → has (move l set c) q ≡ true
  from_union q h (p, o, e, n) =
      let (i, g) = (f p o.0).0 e in
      (in_move l set c q p (o.0, i) g (h, ap (λ x. has x q) (sym (s.follow_is p o)) ∙ n)).1

  pub moved : (r : ℕ) → Union follow fit r → r ≡ move l set c
  moved r u = same_mask r (move l set c) (λ q h. same_from_decides (has r q) (has (move l set c) q) (u q h) (to_union q h, from_union q h))
