use Rattle.std.proofs.Common.{◌≡◌, ◌-◌, rules, length, arith, refl}
use Rattle.std.proofs.lemmas.List.{length-drop, drop-drop}
use Rattle.mv_io.specs.MemSource.{supply_gives}
use Rattle.mv_io.specs.contracts.mem_source.MemSource.{the_view}
use Rattle.mv_io.proofs.Supply.{supply_tells}
use Rattle.mv_io.proofs.mem_source.MemSourceSource.read.Goals as goal

pub returns-clause-tells : goal.returns-clause-tells
returns-clause-tells c =
    let left : length (the_view c.self.inside).left ≡ c.len.result - c.self.inside.at = grind (arith, length-drop, c.self.inside.bytes.ok.0, c.len.ensures) in
    let count : c.min-count.result ≡ supply_gives (the_view c.self.inside) (length c.args.into.now) =
    rw (c.min-count.ensures, c.piece_size-most.ensures.size, c.deref-2.ensures.value, left) refl in
    rw (← c.self.view_is)
    (supply_tells (the_view c.self.inside) _ _ c.args.into.now _ c.min-count.result c.requires count (search rules) (search (rules, drop-drop)) refl)
