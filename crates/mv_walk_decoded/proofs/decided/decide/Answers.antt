use Rattle.std.proofs.Common.{◌≡◌, Option, Some, None, refl}
use Rattle.std.specs.Prelude.{IsSome}
use Rattle.mv_slice.specs.declared.slice.SliceFull.{SliceFull}
use Rattle.mv_walk_decoded.proofs.Deciding.{tried-decides}
use Rattle.mv_walk_decoded.proofs.Directs.{directs-few}
use Rattle.mv_walk_decoded.proofs.decided.decide.Goals as goal

there : (o : Option SliceFull) → IsSome o → (full : SliceFull) × (o ≡ Some full)
there (Some full) h = (full, refl)
there None h = absurd (cc)

pub returns : goal.returns
returns g c =
    let found = there c.args.header.now.full c.requires.full in
    λ past p asked. tried-decides (record { layers = c.args.layers.now; order = c.args.order.now; vps = c.args.vps.now; active = c.args.active.now; ctx = c.args.ctx.now; header = c.args.header.now; first = c.args.first }) past p asked
    c.requires.layer c.requires.layers c.requires.fits c.requires.valid (directs-few c.args.vps.now c.args.first.head.layer c.requires.vps c.requires.layer) found.0 found.1 _ _ _ c.made.ensures
