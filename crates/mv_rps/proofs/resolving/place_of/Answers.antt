use Rattle.std.proofs.Common.{ℕ, pos, false, ap, sym, ◌∙◌, arith}
use Rattle.std.specs.Prelude.{option_map}
use Rattle.mv_dpb.specs.declared.held.Held.{Held}
use Rattle.mv_rps.specs.Resolving.{fits}
use Rattle.mv_rps.specs.Matched.{entry_to, set_of}
use Rattle.mv_rps.proofs.MatchLaws.{latest_before, find_next, find_here}
use Rattle.mv_rps.proofs.resolving.place_of.Goals as goal

pub returns-then-fits : goal.returns-then-fits
returns-then-fits c =
    let d : Held = record { count = pos 0; au = 0; long = false } in
    let more = latest_before c.args.held.now c.loop-left.left d c.loop-left-test.true c.loop-left.invariant.0 in
    ap (option_map (λ (p : ℕ × Held). p.0)) (sym (find_here (fits (set_of c.args.origin) c.args.longs.now (entry_to c.args.aim)) _ _ _ more (sym c.fits.ensures ∙ c.if-fits.true)) ∙ c.loop-left.invariant.1)

pub loop-left-preserved : goal.loop-left-preserved
loop-left-preserved c =
    let d : Held = record { count = pos 0; au = 0; long = false } in
    let more = latest_before c.args.held.now c.loop-left.left d c.loop-left-test.true c.loop-left.invariant.0 in (
      omega (arith, c.loop-left.invariant.0),
      sym (find_next (fits (set_of c.args.origin) c.args.longs.now (entry_to c.args.aim)) _ _ _ more (sym c.fits.ensures ∙ c.if-fits.false)) ∙ c.loop-left.invariant.1,
    )
