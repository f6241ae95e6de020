-- What is kept for an output layer set by the video parameter set in force has with a layer all those that it refers to.
use Rattle.std.proofs.Common.{◌≡◌, ℕ, ◌<◌, Bool, true, false, cond, List, [], ◌∷◌, Option, None, Some, Result, Ok, Err, refl, sym, subst}
use Rattle.std.specs.Prelude.{All, option_and_then, option_map, slice_get}
use Rattle.std.specs.List.{find}
use Rattle.std.proofs.lemmas.List.Elements.{All-nil, All-cons}
use Rattle.mv_units.specs.declared.head.UnitHead.{UnitHead}
use Rattle.mv_units.specs.Head.{head}
use Rattle.mv_units.specs.Escapes.{payload}
use Rattle.mv_syntax.specs.Bits.{Fault, byte_bits}
use Rattle.mv_syntax.specs.Table.{Valid, when}
use Rattle.mv_syntax.specs.inner.PayloadReader.{read_payload}
use Rattle.mv_syntax.specs.Words.{◌otherwise◌, is_set}
use Rattle.mv_syntax.proofs.PayloadLaws.{reads-read_payload}
use Rattle.mv_layers.specs.LayerInfos.{directs_of, closure_of}
use Rattle.mv_layers.specs.OutputLayers.{is_among}
use Rattle.mv_vpsext.specs.VpsExt.{VpsExtValue, vps_extension}
use Rattle.mv_vps.specs.Base.{args_of}
use Rattle.mv_vps.specs.Vps.{VpsValue, WholeVps, described, vps, vps_fields}
use Rattle.mv_history.specs.History.{run}
use Rattle.mv_pictures.specs.Carried.{carried_vps, value_of, whole_vps}
use Rattle.mv_pictures.specs.Layers.{InForce, closure, directs, keeps, layers_at, set_at, sets_at, whole}
use Rattle.mv_pictures.specs.Items.{Item, is_vps, is_vps_head, item, items, vps_behind}
use Rattle.mv_commuting.proofs.Closures.{Orderly, find_all, keeps_set, orderly_alone, orderly_ext, set_closes}

extension_valid : (v : VpsValue) → Valid vps_fields v → Valid (when (is_set v.base.vps_extension_flag) (vps_extension (args_of v.base))) v.extension
unfolding vps_fields
extension_valid v h = h.0.1.0

described_orderly : (v : VpsValue) → Valid vps_fields v → Orderly (described (args_of v.base) v.extension)
described_orderly v h = go v.extension (extension_valid v h)
  where
    go : (ext : Option VpsExtValue) → Valid (when (is_set v.base.vps_extension_flag) (vps_extension (args_of v.base))) ext → Orderly (described (args_of v.base) ext)
    go None valid = orderly_alone
    go (Some ext) valid = orderly_ext (args_of v.base) ext valid.1

carried_orderly : (h : UnitHead) (bytes : List ℕ) (v : WholeVps) → value_of (carried_vps h bytes) ≡ Some v → Orderly v.derived
unfolding carried_vps
carried_orderly h bytes v is = go (read_payload vps (byte_bits (payload bytes))) refl is
  where
    go : (r : Result (VpsValue × Option (List Bool)) Fault) → read_payload vps (byte_bits (payload bytes)) ≡ r →
        value_of (record { layer = h.layer; payload = payload bytes; reading = elim r [ Ok v ↦ Ok (whole_vps v) | Err fault ↦ Err fault ] }) ≡ Some v → Orderly v.derived
    go (Err fault) reads is = absurd (cc)
    go (Ok x) reads is =
        let same : whole_vps x ≡ v = cc in
        subst (λ (v : WholeVps). Orderly v.derived) same (described_orderly x.0 (reads-read_payload vps (byte_bits (payload bytes)) x reads).valid.fields)

-- what is said by the video parameter set in force is orderly
pub record IsOrderlyAt (at : InForce) : Type 0 where
  pub orderly : (v : WholeVps) → whole at ≡ Some v → Orderly v.derived

none_orderly : IsOrderlyAt None
none_orderly = record { orderly = λ v is. absurd (cc) }

behind_orderly : (past : List Item) → All (λ (i : Item). IsOrderlyAt i.at) past → IsOrderlyAt (vps_behind past)
unfolding vps_behind
behind_orderly past h = go (find is_vps past) refl
  where
    go : (o : Option Item) → find is_vps past ≡ o → IsOrderlyAt (option_and_then (λ (i : Item). i.at) o)
    go None is = none_orderly
    go (Some i) is = (find_all (λ (i : Item). IsOrderlyAt i.at) is_vps past i h is).0

pub items_orderly : (us : List (List ℕ)) → All (λ (i : Item). IsOrderlyAt i.at) (items us)
unfolding items run item
items_orderly [] = All-nil (λ (i : Item). IsOrderlyAt i.at)
items_orderly (u ∷ us) = All-cons (λ (i : Item). IsOrderlyAt i.at) (item (items us) u) (items us) (go (is_vps_head (head u)) (items_orderly us)) (items_orderly us)
  where
    go : (b : Bool) → All (λ (i : Item). IsOrderlyAt i.at) (items us) → IsOrderlyAt (cond b (Some (carried_vps (head u) u)) (vps_behind (items us)))
    go true rest = record { orderly = carried_orderly (head u) u }
    go false rest = behind_orderly (items us) rest

-- direct reference layers, and closures, of what is kept
pub directs_kept : (o : ℕ) (at : InForce) → IsOrderlyAt at → (layer direct : ℕ) → keeps o at layer ≡ true → is_among (directs at layer) direct ≡ true → keeps o at direct ≡ true
unfolding keeps directs layers_at sets_at set_at
directs_kept o None h layer direct kept refers = refl
directs_kept o (Some c) h layer direct kept refers = go (value_of c) refl kept refers
  where
    go : (v : Option WholeVps) → value_of c ≡ v → keeps_set (slice_get (option_map (λ (v : WholeVps). v.derived.sets) v otherwise []) o) layer ≡ true →
        is_among (directs_of (option_map (λ (v : WholeVps). v.derived.layers) v otherwise []) layer) direct ≡ true → keeps_set (slice_get (option_map (λ (v : WholeVps). v.derived.sets) v otherwise []) o) direct ≡ true
    go None is kept refers = absurd (let wrong : true ≡ false = sym refers in cc)
    go (Some v) is kept refers = set_closes v.derived (h.orderly v is) o layer direct kept refers

pub closure_kept : (o : ℕ) (at : InForce) → IsOrderlyAt at → (layer other : ℕ) → keeps o at layer ≡ true → is_among (closure at layer) other ≡ true → keeps o at other ≡ true
unfolding keeps closure layers_at sets_at set_at
closure_kept o None h layer other kept refers = refl
closure_kept o (Some c) h layer other kept refers = go (value_of c) refl kept refers
  where
    go : (v : Option WholeVps) → value_of c ≡ v → keeps_set (slice_get (option_map (λ (v : WholeVps). v.derived.sets) v otherwise []) o) layer ≡ true →
        is_among (closure_of (option_map (λ (v : WholeVps). v.derived.layers) v otherwise []) layer) other ≡ true → keeps_set (slice_get (option_map (λ (v : WholeVps). v.derived.sets) v otherwise []) o) other ≡ true
    go None is kept refers = absurd (let wrong : true ≡ false = sym refers in cc)
    go (Some v) is kept refers =
        (h.orderly v is).closures.least (keeps_set (slice_get v.derived.sets o)) (set_closes v.derived (h.orderly v is) o) layer other kept refers

-- a direct reference goes to a lower layer
pub directs_below : (at : InForce) → IsOrderlyAt at → (layer direct : ℕ) → is_among (directs at layer) direct ≡ true → direct < layer
unfolding directs layers_at
directs_below None h layer direct refers = absurd (let wrong : true ≡ false = sym refers in cc)
directs_below (Some c) h layer direct refers = go (value_of c) refl refers
  where
    go : (v : Option WholeVps) → value_of c ≡ v → is_among (directs_of (option_map (λ (v : WholeVps). v.derived.layers) v otherwise []) layer) direct ≡ true → direct < layer
    go None is refers = absurd (let wrong : true ≡ false = sym refers in cc)
    go (Some v) is refers = (h.orderly v is).below layer direct refers
