use Rattle.std.proofs.Common.{◌≡◌, ◌∙◌, ◌≤◌, ap, sym, arith, map, length, cond, suc}
use Rattle.std.specs.Prelude.{insert}
use Rattle.std.specs.List.{list_any, position_or_len}
use Rattle.std.proofs.lemmas.List.{length-map}
use Rattle.mv_history.specs.Order.{put}
use Rattle.mv_dpb.specs.declared.waits.Waits.{Waits}
use Rattle.mv_dpb.specs.Stored.{stored}
use Rattle.mv_dpb.specs.Waits.{access_units, comes_first, is_begun_of, is_of}
use Rattle.mv_dpb.specs.Waiting.{told, with_picture}
use Rattle.mv_dpb.proofs.PutLaws.{length-put, position-within, put-position}
use Rattle.mv_dpb.proofs.StoredLaws.{length-stored}
use Rattle.mv_dpb.proofs.WaitsLaws.{order-put, units-put}
use Rattle.mv_dpb.proofs.WaitingLaws.{length-insert-two, map-insert, push-is}
use Rattle.mv_dpb.proofs.waiting.Waiting.push.Goals as goal

pub units_with-self-inside-requires-clause-room : goal.units_with-self-inside-requires-clause-room
units_with-self-inside-requires-clause-room g c = omega (arith, ap length c.deref-3.ensures.value, c.self.inside.waits.ok.0, c.self.inside.waits.ok.1, c.self.inside.waits.small)

pub put_in-requires-clause-within : goal.put_in-requires-clause-within
put_in-requires-clause-within g c =
    omega (
      arith,
      c.place_of-place.ensures,
      ap length c.deref-2.ensures.value,
      position-within (comes_first (record { shown = c.args.shown; au = c.args.au; begun = c.any_begun_of-begun.result })) c.deref-2.result.now,
    )

pub put_in-requires-clause-room : goal.put_in-requires-clause-room
put_in-requires-clause-room g c =
    let pictures = map (λ p. p.value) c.self.inside.pictures.items in
    let same : length c.self.inside.waits.items ≡ length pictures = c.self.invariant.0 ∙ sym (length-map c.self.inside.pictures.items (λ p. p.value)) in
    omega (arith, c.requires, length-stored c.self.inside.waits.items pictures same, ap (λ w. length w.pictures) c.self.view_is, ap (λ w. w.room) c.self.view_is)

pub invariant_of-self : goal.invariant_of-self
invariant_of-self g c =
    let w : Waits = record { shown = c.args.shown; au = c.args.au; begun = c.any_begun_of-begun.result } in
    let place : c.place_of-place.result ≡ position_or_len (comes_first w) c.self.inside.waits.items = c.place_of-place.ensures ∙ ap (position_or_len (comes_first w)) c.deref-2.ensures.value in
    let within : c.place_of-place.result ≤ length c.self.inside.waits.items = omega (arith, place, position-within (comes_first w) c.self.inside.waits.items) in
    let added : c.put_in.new.items.items ≡ put comes_first w c.self.inside.waits.items =
    c.put_in.ensures.items ∙ ap (λ i. insert c.self.inside.waits.items i w) place ∙ put-position comes_first w c.self.inside.waits.items in (
      ap length c.put_in.ensures.items ∙ length-insert-two c.self.inside.waits.items c.self.inside.pictures.items c.place_of-place.result w c.args.pic c.self.invariant.0 within ∙ sym (ap length c.put_in-2.ensures.items),
      c.put_in.ensures.capacity ∙ c.self.invariant.1 ∙ sym c.put_in-2.ensures.capacity,
      c.units_with-self-inside.ensures
          ∙ ap (λ ws. cond (list_any (is_of c.args.au) ws) c.self.inside.units (suc c.self.inside.units)) c.deref-3.ensures.value
          ∙ ap (λ n. cond (list_any (is_of c.args.au) c.self.inside.waits.items) n (suc n)) c.self.invariant.2
          ∙ sym (ap access_units added ∙ units-put w c.self.inside.waits.items),
      rw added (order-put w c.self.inside.waits.items c.self.invariant.3),
    )

pub returns-clause-added : goal.returns-clause-added
returns-clause-added g c =
    let pictures = map (λ p. p.value) c.self.inside.pictures.items in
    let same : length c.self.inside.waits.items ≡ length pictures = c.self.invariant.0 ∙ sym (length-map c.self.inside.pictures.items (λ p. p.value)) in
    let w : Waits = record { shown = c.args.shown; au = c.args.au; begun = c.any_begun_of-begun.result } in
    let place : c.place_of-place.result ≡ position_or_len (comes_first w) c.self.inside.waits.items = c.place_of-place.ensures ∙ ap (position_or_len (comes_first w)) c.deref-2.ensures.value in
    ap (λ n. record { reorder = c.self.inside.reorder; room = n; pictures = stored c.put_in.new.items.items (map (λ p. p.value) c.put_in-2.new.items.items) }) c.put_in.ensures.capacity
    ∙ ap (λ xs. record { reorder = c.self.inside.reorder; room = c.self.inside.waits.cap; pictures = stored xs (map (λ p. p.value) c.put_in-2.new.items.items) }) c.put_in.ensures.items
    ∙ ap (λ xs. record { reorder = c.self.inside.reorder; room = c.self.inside.waits.cap; pictures = stored (insert c.self.inside.waits.items c.place_of-place.result w) xs })
    (ap (map (λ p. p.value)) c.put_in-2.ensures.items ∙ map-insert (λ p. p.value) c.self.inside.pictures.items c.place_of-place.result c.args.pic)
    ∙ push-is c.self.inside.reorder c.self.inside.waits.cap c.self.inside.waits.items pictures c.args.shown c.args.au c.any_begun_of-begun.result c.args.pic.value c.place_of-place.result same
    (c.any_begun_of-begun.ensures ∙ ap (list_any (is_begun_of c.args.au)) c.deref.ensures.value) place
    ∙ ap (with_picture c.args.shown c.args.au c.args.pic.value) c.self.view_is

pub returns-clause-few : goal.returns-clause-few
returns-clause-few g c =
    let w : Waits = record { shown = c.args.shown; au = c.args.au; begun = list_any (is_begun_of c.args.au) (told c.args.self.now) } in
    omega (
      arith,
      c.requires,
      ap (λ v. length v.pictures) (returns-clause-added g c),
      ap (λ v. v.room) (returns-clause-added g c),
      length-put (λ a b. comes_first a.told b.told) (record { told = w; picture = c.args.pic.value }) c.args.self.now.pictures,
    )
