use Rattle.std.proofs.Common.{ℕ, List, string_bytes, MatchOption, subst, arith}
use Rattle.mv_cli.specs.Words.{IsExtract}
use Rattle.mv_cli.proofs.Two.{pair, two}
use Rattle.mv_cli.proofs.command.set_of.Goals as goal

pub returns-in-len2 : goal.returns-in-len2
returns-in-len2 c =
    subst (λ (ws : List (List ℕ)). MatchOption c.number_behind.result ((n : ℕ) → ¬ IsExtract ws n) (λ n. IsExtract ws n))
    (pair _ _ _ _ _ (two string_bytes c.args.words.now c.command-item.result c.set-item.result (omega (arith, c.in-len2.len_at_least)) (omega (arith, c.in-len2.len_below)) c.command-item.is c.set-item.is) c.as_str.ensures.value c.as_str-in-len2.ensures.value)
    c.number_behind.ensures
