use Rattle.std.proofs.Common.{◌≡◌, rules, subst}
use Rattle.mv_syntax.specs.Printed.{printed}
use Rattle.mv_pps.specs.Tiles.{tiles}
use Rattle.mv_pps.proofs.tiles.print_tiles.Goals as goal

pub returns : goal.returns
unfolding tiles
returns c = subst (λ v. c.flag-2.new.self ≡ printed tiles v c.args.out.now) c.v.view_is (search rules)
