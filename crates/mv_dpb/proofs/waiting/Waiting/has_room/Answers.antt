use Rattle.std.proofs.Common.{◌≡◌, ◌∙◌, ◌<◌, ap, sym, arith, map, length}
use Rattle.std.proofs.lemmas.Bool.{ltb-true, lt-ltb}
use Rattle.std.proofs.lemmas.List.{length-map}
use Rattle.mv_dpb.proofs.StoredLaws.{length-stored}
use Rattle.mv_dpb.proofs.waiting.Waiting.has_room.Goals as goal

pub returns : goal.returns
returns g c =
    let pictures = map (λ p. p.value) c.self.inside.pictures.items in
    let same : length c.self.inside.waits.items ≡ length pictures = c.self.invariant.0 ∙ sym (length-map c.self.inside.pictures.items (λ p. p.value)) in
    let count : length c.args.self.now.pictures ≡ c.len.result =
    sym (ap (λ w. length w.pictures) c.self.view_is) ∙ length-stored c.self.inside.waits.items pictures same ∙ sym c.self.inside.waits.ok.0 ∙ sym c.len.ensures in
    let room : c.args.self.now.room ≡ c.capacity.result = sym (ap (λ w. w.room) c.self.view_is) ∙ sym c.capacity.ensures in (
      (λ t. let h : c.len.result < c.capacity.result = ltb-true c.len.result c.capacity.result t in omega (arith, count, room, h)),
      (λ h. lt-ltb c.len.result c.capacity.result (omega (arith, count, room, h))),
    )
