use Rattle.std.proofs.Common.{◌≡◌, Option, sym, subst, ◌∙◌}
use Rattle.mv_pictures.specs.Facts.{named_sets, sets_of}
use Rattle.mv_tried.specs.Finer.{facts_in}
use Rattle.mv_walk_segment.specs.Open.{Stands}
use Rattle.mv_walk_segment.specs.OpenValue.{OpenValue}
use Rattle.mv_walk_segment.proofs.OpenLaws.{named-alone, named-by, served-by}
use Rattle.mv_walk_segment.proofs.opened.read_later.Goals as goal
use Rattle.mv_walk_segment.proofs.opened.read_later.Goals.{in_default-via-in-Some+else-serves, in_default-via-in_default}

pub returns-in-Some : goal.returns-in-Some
returns-in-Some c = λ past q stands kept segment bytes later.
    c.read.ensures (facts_in past) q c.args.pps_id segment bytes
    (served-by c.args.vps.now c.in-Some.picture past q c.args.head c.args.pps_id (subst (λ (o : Option OpenValue). Stands c.args.vps.now o past q.au) c.in-Some.is stands) segment later
    (sym c.serves.ensures ∙ c.if-serves.true))

pub returns-in_default : goal.returns-in_default
returns-in_default c = λ past q stands kept segment bytes later.
    let named : sets_of (facts_in past) q ≡ named_sets (facts_in past) q =
    elim c.in_default.branch [
      | in_default-via-in-Some+else-serves w ↦ named-by c.args.vps.now w.in-Some.picture past q c.args.head c.args.pps_id (subst (λ (o : Option OpenValue). Stands c.args.vps.now o past q.au) w.in-Some.is stands) segment later (sym w.serves.ensures ∙ w.if-serves.false)
      | in_default-via-in_default w ↦ named-alone past q segment.slice (subst (λ (o : Option OpenValue). Stands c.args.vps.now o past q.au) w.in_default.is stands)
    ] in
    c.read_named.ensures (facts_in past) q kept segment bytes named
