-- Parameter sets that a store may keep.
use Rattle.std.proofs.Common.{◌≡◌, ℕ, ◌+◌, ◌<◌, ◌≤◌, ◌^◌, Bool, List, length, Option, Some, refl, arith}
use Rattle.std.specs.List.{filter_map}
use Rattle.mv_history.specs.History.{since}
use Rattle.mv_syntax.specs.Payload.{ValidPayload}
use Rattle.mv_units.specs.declared.head.UnitHead.{UnitHead}
use Rattle.mv_sps.specs.Sps.{sps_payload}
use Rattle.mv_pps.specs.Pps.{pps}
use Rattle.mv_pictures.specs.Facts.{Fact, turned}
use Rattle.mv_pictures.specs.History.{facts_of}
use Rattle.mv_commuting.specs.OneMore.{fact_behind}
use Rattle.mv_sets.proofs.Valid.{pps-kept, sps-kept}
use Rattle.mv_walk_sets.specs.InForce.{CarriedPpsValue, CarriedSpsValue, pps_carried, sps_carried}
use Rattle.mv_walk_sets.specs.declared.roles.Role.{Role}
use Rattle.mv_walk_laws.specs.Streams.{item_behind}
use Rattle.mv_walk_laws.proofs.CarriedSets.{pps-valid, sps-valid}
use Rattle.mv_walk_laws.proofs.Lengths.{received-few}
use Rattle.mv_walk.specs.Courses.{Stood}
use Rattle.mv_walk.specs.Taking.{CanKeepPps, CanKeepSps, IsRole}
use Rattle.mv_walk.specs.declared.course.Course.{Course}

pub can-keep_sps : {R W P : Type 0} (c : Course R W P) (us : List (List ℕ)) (u : List ℕ) (h : UnitHead) (carried : CarriedSpsValue) → Stood c us → length us + 1 < 2 ^ 64 → IsRole us u h Role.Sps →
    (fact_behind us u).sps_unit ≡ Some (sps_carried h.layer carried) → CanKeepSps c.sets h.layer carried
unfolding sps_payload
can-keep_sps c us u h carried s few r carries =
    let valid : (vps_sub_layers : ℕ) × (tail : Option (List Bool)) × ValidPayload (sps_payload (item_behind us u).head.layer vps_sub_layers) (carried.value.0, tail) =
    sps-valid us u (sps_carried h.layer carried) carried.value.0 carries refl in
    let kept = sps-kept (item_behind us u).head.layer valid.0 carried.value.0 valid.2.fields in
    let count : c.sets.sps.count ≡ length (filter_map (λ (f : Fact). f.sps_unit) (since turned (facts_of us))) = s.sets_are.sps.count_is in
    let most : length (filter_map (λ (f : Fact). f.sps_unit) (since turned (facts_of us))) ≤ length us = received-few (λ (f : Fact). f.sps_unit) us in
    record { in_layers = r.low; id_is = kept.0; fits = kept.1; few = omega (arith, count, most, few) }

pub can-keep_pps : {R W P : Type 0} (c : Course R W P) (us : List (List ℕ)) (u : List ℕ) (h : UnitHead) (carried : CarriedPpsValue) → Stood c us → length us + 1 < 2 ^ 64 → IsRole us u h Role.Pps →
    (fact_behind us u).pps_unit ≡ Some (pps_carried h.layer carried) → CanKeepPps c.sets h.layer carried
can-keep_pps c us u h carried s few r carries =
    let valid : (tail : Option (List Bool)) × ValidPayload pps (carried.value.0, tail) = pps-valid us u (pps_carried h.layer carried) carried.value.0 carries refl in
    let count : c.sets.pps.count ≡ length (filter_map (λ (f : Fact). f.pps_unit) (since turned (facts_of us))) = s.sets_are.pps.count_is in
    let most : length (filter_map (λ (f : Fact). f.pps_unit) (since turned (facts_of us))) ≤ length us = received-few (λ (f : Fact). f.pps_unit) us in
    record { in_layers = r.low; id_is = pps-kept carried.value.0 valid.1.fields; few = omega (arith, count, most, few) }
