use Rattle.std.proofs.Common.{◌≡◌, ◌∙◌, true, false, ap, sym, subst}
use Rattle.std.specs.Prelude.{bytes_eq}
use Rattle.mv_walk_sets.specs.InForce.{VpsInForceValue}
use Rattle.mv_walk_sets.specs.Taken.{TakesVps}
use Rattle.mv_walk_sets.proofs.VpsLaws.{again_taken, changed_refused, changed_taken}
use Rattle.mv_walk_sets.proofs.vps.behind.Goals as goal

pub returns-then-eq-clause-takes : goal.returns-then-eq-clause-takes
returns-then-eq-clause-takes c = λ i h read.
    let equal : bytes_eq c.args.old.now.payload c.args.payload.items ≡ true = ap (λ (v : VpsInForceValue). bytes_eq v.payload c.args.payload.items) (sym c.old.view_is) ∙ sym c.if-eq.ensures in
    subst (TakesVps c.args.asked i) (sym c.again.ensures) (again_taken c.args.asked i c.args.old.now c.args.tid c.args.payload.items h read equal)

pub returns-in-Ok-clause-takes : goal.returns-in-Ok-clause-takes
returns-in-Ok-clause-takes c = λ i h read.
    let apart : bytes_eq c.args.old.now.payload c.args.payload.items ≡ false = ap (λ (v : VpsInForceValue). bytes_eq v.payload c.args.payload.items) (sym c.old.view_is) ∙ sym c.if-eq.ensures in
    changed_taken c.args.asked i c.args.old.now c.args.tid c.args.payload.items c.in-Ok.new h apart c.in-Ok.ensures.reads c.in-Ok.ensures.read

pub returns-in-Err-clause-takes : goal.returns-in-Err-clause-takes
returns-in-Err-clause-takes c = λ i h read.
    let apart : bytes_eq c.args.old.now.payload c.args.payload.items ≡ false = ap (λ (v : VpsInForceValue). bytes_eq v.payload c.args.payload.items) (sym c.old.view_is) ∙ sym c.if-eq.ensures in
    changed_refused c.args.asked i c.args.old.now c.args.tid c.args.payload.items c.in-Err.fault h apart c.in-Err.ensures.reads
