use Rattle.std.proofs.Common.{◌≡◌, ◌≤◌, ◌∙◌, ap, sym, map, length, arith}
use Rattle.std.proofs.lemmas.List.{length-map}
use Rattle.mv_dpb.specs.Stored.{stored}
use Rattle.mv_dpb.specs.Buffer.{kept, marks, picked}
use Rattle.mv_dpb.proofs.StoredLaws.{length-stored, picked-map, stored-kept}
use Rattle.mv_dpb.proofs.Picking.{length-marks, named_few}
use Rattle.mv_dpb.proofs.buffer.Buffer.apply.Goals as goal

pub pick-requires-clause-within : goal.pick-requires-clause-within
pick-requires-clause-within g c = λ k d h.
    let same : length c.self.inside.held.items ≡ length (map (λ p. p.value) c.self.inside.pictures.items) = c.self.invariant.0 ∙ sym (length-map c.self.inside.pictures.items (λ p. p.value)) in
    omega (arith, c.requires.within k d h, length-stored c.self.inside.held.items (map (λ p. p.value) c.self.inside.pictures.items) same, ap length c.self.view_is)

pub pick-requires-2-clause-within : goal.pick-requires-2-clause-within
pick-requires-2-clause-within g c = λ k d h.
    let same : length c.self.inside.held.items ≡ length (map (λ p. p.value) c.self.inside.pictures.items) = c.self.invariant.0 ∙ sym (length-map c.self.inside.pictures.items (λ p. p.value)) in
    omega (arith, c.self.invariant.0, c.requires.within k d h, length-stored c.self.inside.held.items (map (λ p. p.value) c.self.inside.pictures.items) same, ap length c.self.view_is)

pub invariant_of-self : goal.invariant_of-self
invariant_of-self g c =
    let same : length c.self.inside.held.items ≡ length (map (λ p. p.value) c.self.inside.pictures.items) = c.self.invariant.0 ∙ sym (length-map c.self.inside.pictures.items (λ p. p.value)) in
    let count : length c.self.inside.held.items ≡ length c.args.self.now =
    sym (length-stored c.self.inside.held.items (map (λ p. p.value) c.self.inside.pictures.items) same) ∙ ap length c.self.view_is in
    let few : length c.args.keep.now ≤ length c.args.self.now = named_few c.args.keep.now c.args.self.now c.requires.rising c.requires.within in
    let marked : length c.mark.new.held.items ≡ length c.args.keep.now =
    ap length c.mark.ensures.items ∙ length-marks c.args.keep.now c.pick.new.items.items (sym c.pick.ensures.count) ∙ c.pick.ensures.count in (
      marked ∙ sym c.pick-2.ensures.count,
      omega (arith, c.self.invariant.1),
      c.mark.ensures.capacity ∙ c.pick.ensures.capacity ∙ c.self.invariant.2,
      c.pick-2.ensures.capacity ∙ c.self.invariant.3,
    )

pub returns : goal.returns
returns g c =
    let same : length c.self.inside.held.items ≡ length (map (λ p. p.value) c.self.inside.pictures.items) = c.self.invariant.0 ∙ sym (length-map c.self.inside.pictures.items (λ p. p.value)) in
    ap (λ held. stored held (map (λ p. p.value) c.pick-2.new.items.items)) (c.mark.ensures.items ∙ ap (marks c.args.keep.now) c.pick.ensures.items)
    ∙ ap (λ xs. stored (marks c.args.keep.now (picked c.args.keep.now c.self.inside.held.items)) xs)
    (ap (map (λ p. p.value)) c.pick-2.ensures.items ∙ sym (picked-map (λ p. p.value) c.args.keep.now c.self.inside.pictures.items))
    ∙ stored-kept c.args.keep.now c.self.inside.held.items (map (λ p. p.value) c.self.inside.pictures.items) same
    (λ k d h. omega (arith, c.requires.within k d h, length-stored c.self.inside.held.items (map (λ p. p.value) c.self.inside.pictures.items) same, ap length c.self.view_is))
    ∙ ap (kept c.args.keep.now) c.self.view_is
