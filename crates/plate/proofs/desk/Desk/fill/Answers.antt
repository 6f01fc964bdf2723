use Rattle.std.proofs.Common.{◌≡◌, ℕ, ◌*◌, ◌<◌, length, get_or, refl, ap, ◌∙◌, arith}
use Rattle.plate.specs.Filling.{met_of}
use Rattle.plate.proofs.Standing.{beyond_more, cleared_at, cleared_written, cleared_again}
use Rattle.plate.proofs.Made.{table_made}
use Rattle.plate.proofs.desk.Desk.fill.Goals as goal

pub returns-clause-table : goal.returns-clause-table
returns-clause-table c =
    let n = c.in-Some.numbering in
    let zero : (i : ℕ) → i < 512 → get_or c.clear.new.sets i 0 ≡ 0 = λ i h. ap (λ xs. get_or xs i 0) c.clear.ensures.sets ∙ cleared_at c.args.sets.now 512 i h in
    let (b, e) = table_made c.args.self.now (met_of n) c.fill_moves.new.moves c.clear.new.sets c.fill_sets.new.sets c.accepting_lines.result c.requires.some n.few
    c.in-Some.ensures.filled c.fill_sets.ensures zero c.accepting_lines.ensures in
    (b, c.len.ensures.value ∙ e)

pub returns-clause-sets : goal.returns-clause-sets
returns-clause-sets c =
    let n = c.in-Some.numbering in
    cleared_written c.args.sets.now c.clear.new.sets c.fill_sets.new.sets 512 c.requires.sets c.clear.ensures.sets
    (beyond_more c.clear.new.sets c.fill_sets.new.sets (length (met_of n) * 8) 512 (omega (arith, n.few)) c.fill_sets.ensures.beyond)

pub returns-in_default-clause-many : goal.returns-in_default-clause-many
returns-in_default-clause-many c =
    let count = c.args.self.now.count in (
      refl,
      c.in_default.ensures.filled,
      c.clear-in_default.ensures.moves
          ∙ cleared_again c.args.moves.now c.fill_moves.new.moves (64 * count)
          (cleared_written c.args.moves.now c.clear.new.moves c.fill_moves.new.moves (64 * count) c.requires.moves c.clear.ensures.moves c.in_default.ensures.beyond),
      c.clear-in_default.ensures.sets
          ∙ cleared_again c.args.sets.now c.clear.new.sets 512 (cleared_written c.args.sets.now c.clear.new.sets c.clear.new.sets 512 c.requires.sets c.clear.ensures.sets (refl, refl)),
    )
