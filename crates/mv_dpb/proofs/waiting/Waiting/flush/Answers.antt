use Rattle.std.proofs.Common.{◌≡◌, ◌∙◌, ◌-◌, ◌<◌, ap, subst, sym, arith, map, length, drop, cond, suc}
use Rattle.std.specs.List.{list_any}
use Rattle.std.proofs.lemmas.List.{length-drop, length-map}
use Rattle.mv_dpb.specs.Stored.{stored}
use Rattle.mv_dpb.specs.Waits.{access_units, begun_with, is_of}
use Rattle.mv_dpb.specs.Waiting.{FirstIsLeast, without_first}
use Rattle.mv_dpb.proofs.WaitsLaws.{order-begun}
use Rattle.mv_dpb.proofs.WaitingLaws.{first-least, map-rest, order-rest, rest-is, units-rest}
use Rattle.mv_dpb.proofs.waiting.Waiting.flush.Goals as goal

pub units_without-self-inside-requires : goal.units_without-self-inside-requires
units_without-self-inside-requires g c =
    let some : 0 < length c.self.inside.waits.items = omega (arith, c.remove-first.ensures.len, c.self.inside.waits.ok.0) in
    let rest = c.deref.ensures.value ∙ c.begin.ensures.items ∙ ap (map (begun_with c.remove-first.result.au)) c.remove-first.ensures.items in
    c.self.invariant.2
    ∙ units-rest c.self.inside.waits.items c.remove-first.result some c.remove-first.ensures.value
    ∙ ap (λ ws. cond (list_any (is_of c.remove-first.result.au) ws) (access_units ws) (suc (access_units ws))) (sym rest)

pub invariant_of-self : goal.invariant_of-self
invariant_of-self g c =
    let rest : c.begin.new.waits.items ≡ map (begun_with c.remove-first.result.au) (drop 1 c.self.inside.waits.items) =
    c.begin.ensures.items ∙ ap (map (begun_with c.remove-first.result.au)) c.remove-first.ensures.items in (
      ap length rest
          ∙ length-map (drop 1 c.self.inside.waits.items) (begun_with c.remove-first.result.au)
          ∙ length-drop 1 c.self.inside.waits.items
          ∙ ap (λ n. n - 1) c.self.invariant.0
          ∙ sym (ap length c.remove-picture.ensures.items ∙ length-drop 1 c.self.inside.pictures.items),
      c.begin.ensures.capacity ∙ c.remove-first.ensures.capacity ∙ c.self.invariant.1 ∙ sym c.remove-picture.ensures.capacity,
      c.units_without-self-inside.ensures ∙ ap access_units c.deref.ensures.value,
      rw rest (order-begun c.remove-first.result.au (drop 1 c.self.inside.waits.items) (order-rest c.self.inside.waits.items c.self.invariant.3)),
    )

pub returns-clause-rest : goal.returns-clause-rest
returns-clause-rest g c =
    let pictures = map (λ p. p.value) c.self.inside.pictures.items in
    let same : length c.self.inside.waits.items ≡ length pictures = c.self.invariant.0 ∙ sym (length-map c.self.inside.pictures.items (λ p. p.value)) in
    let some : 0 < length c.self.inside.waits.items = omega (arith, c.remove-first.ensures.len, c.self.inside.waits.ok.0) in
    let rest : c.begin.new.waits.items ≡ map (begun_with c.remove-first.result.au) (drop 1 c.self.inside.waits.items) =
    c.begin.ensures.items ∙ ap (map (begun_with c.remove-first.result.au)) c.remove-first.ensures.items in
    ap (λ n. record { reorder = c.self.inside.reorder; room = n; pictures = stored c.begin.new.waits.items (map (λ p. p.value) c.remove-picture.new.self.items) }) (c.begin.ensures.capacity ∙ c.remove-first.ensures.capacity)
    ∙ ap (λ xs. record { reorder = c.self.inside.reorder; room = c.self.inside.waits.cap; pictures = stored xs (map (λ p. p.value) c.remove-picture.new.self.items) }) rest
    ∙ ap (λ xs. record { reorder = c.self.inside.reorder; room = c.self.inside.waits.cap; pictures = stored (map (begun_with c.remove-first.result.au) (drop 1 c.self.inside.waits.items)) xs })
    (ap (map (λ p. p.value)) c.remove-picture.ensures.items ∙ map-rest (λ p. p.value) c.self.inside.pictures.items)
    ∙ rest-is c.self.inside.reorder c.self.inside.waits.cap c.self.inside.waits.items pictures c.remove-first.result same some c.remove-first.ensures.value
    ∙ ap without_first c.self.view_is

pub returns-clause-least : goal.returns-clause-least
returns-clause-least g c =
    subst (λ w. FirstIsLeast w.pictures) c.self.view_is
    (first-least c.self.inside.waits.items (map (λ p. p.value) c.self.inside.pictures.items) c.self.invariant.3)
