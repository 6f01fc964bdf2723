use Rattle.std.proofs.Common.{◌≡◌, get_or, ap, ap₂, ◌∙◌, arith, rules}
use lib.Count.{count_trailing_zeros}
use Rattle.meaning.specs.Positions.{no_symbol}
use Rattle.positions.proofs.Coded.{lowest_is}
use Rattle.positions.proofs.sets.Sets.code.Goals as goal

pub returns : goal.returns
returns c l p o h m =
    let e = lowest_is l c.args.set c.args.class c.fitting-fit.result p (omega arith) (c.fitting-fit.ensures l o h) m in
    let f : c.map_or.result ≡ (get_or c.as_slice-symbols.result.now (count_trailing_zeros 64 c.fitting-fit.result) no_symbol).code = search rules in
    f ∙ ap (λ x. x.code) (ap₂ (λ xs k. get_or xs k no_symbol) (c.as_slice-symbols.ensures.value ∙ o.symbols_are) (omega arith))
