use Rattle.std.proofs.Common.{◌≡◌, [], get_or, sym, ap, arith}
use Rattle.mv_gen.specs.ParameterSets.{parameter_sets}
use Rattle.mv_gen.proofs.parameter_sets.parameter_set.Goals as goal

pub returns-in-0 : goal.returns-in-0
returns-in-0 c = ap (λ p. get_or parameter_sets p []) (sym c.in-0.is)

pub returns-in-1 : goal.returns-in-1
returns-in-1 c = ap (λ p. get_or parameter_sets p []) (sym c.in-1.is)

pub returns-in-2 : goal.returns-in-2
returns-in-2 c = ap (λ p. get_or parameter_sets p []) (sym c.in-2.is)

pub returns-in-3 : goal.returns-in-3
returns-in-3 c = ap (λ p. get_or parameter_sets p []) (sym c.in-3.is)

pub returns-in_default : goal.returns-in_default
returns-in_default c =
    let last : 4 ≡ c.args.place = grind (arith) in
    ap (λ p. get_or parameter_sets p []) last
