use Rattle.std.proofs.Common.{◌≡◌, ◌++◌, drop, replicate, ap, ◌∙◌, length-take-le, rules}
use Rattle.plate.proofs.cells.clear.Goals as goal

pub returns-clause-sets : goal.returns-clause-sets
returns-clause-sets c =
    let zeros : c.fill-2.new.self ≡ replicate 512 0 = c.fill-2.ensures.after (λ y k. search rules) ∙ ap (λ n. replicate n 0) (length-take-le 512 c.args.sets.now c.requires.sets) in
    ap (λ r. r ++ drop 512 c.args.sets.now) zeros
