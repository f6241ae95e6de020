-- The lists of layers at a unit rise.
use Rattle.std.proofs.Common.{◌≡◌, ℕ, ◌<◌, true, false, List, [], ◌∷◌, reverse, Option, None, Some, refl, sym, subst, arith}
use Rattle.std.specs.Prelude.{All, nat_eq, option_map, slice_get, slice_index_or}
use Rattle.std.specs.List.{find}
use Rattle.std.specs.List.Sorted.{IsStrictlyIncreasing}
use Rattle.std.proofs.lemmas.Bool.{eqb-true}
use Rattle.std.proofs.lemmas.List.Elements.{All-cons, All-nil, All-weaker}
use Rattle.std.proofs.lemmas.Option.{get_or_from_slice_get, slice_get_within}
use Rattle.mv_syntax.specs.Words.{◌otherwise◌}
use Rattle.mv_layers.specs.Derived.{IsOrderly, IsOrderlyLayer, IsOrderlySet, OlsValue, is_kept}
use Rattle.mv_layers.specs.LayerInfos.{LayerInfoValue, is_layer}
use Rattle.mv_layers.specs.OutputLayers.{is_among}
use Rattle.mv_vps.specs.Vps.{WholeVps}
use Rattle.mv_history.specs.History.{run}
use Rattle.mv_pictures.specs.AccessUnits.{all_placed, placed}
use Rattle.mv_pictures.specs.Carried.{value_of}
use Rattle.mv_pictures.specs.Facts.{fact, facts}
use Rattle.mv_pictures.specs.History.{facts_of, history, history_of, judged, judgement}
use Rattle.mv_pictures.specs.Items.{Item, items}
use Rattle.mv_pictures.specs.Judged.{Judged, vps_at}
use Rattle.mv_pictures.specs.Layers.{InForce, closure, directs, keeps, layers_at, set_at, sets_at}
use Rattle.mv_pictures.specs.Output.{outputs}
use Rattle.mv_commuting.specs.InOrder.{described_at}
use Rattle.mv_commuting.proofs.Closures.{find_all}
use Rattle.mv_commuting.specs.Kept.{KeepsOutputsOf}
use Rattle.mv_commuting.proofs.KeptLayers.{IsOrderlyAt, items_orderly}
use Rattle.mv_commuting.proofs.Steady.{hist, item_orderly, this_judged}

none_rises : IsStrictlyIncreasing []
none_rises k low = absurd (omega (arith, low))

none_described : IsOrderly (record { layers = []; sets = [] })
none_described = record {
  layers_rise = none_rises;
  each_layer = All-nil (IsOrderlyLayer []);
  each_set = All-nil (IsOrderlySet []);
}

described : (at : InForce) → IsOrderlyAt at → IsOrderly (described_at at)
unfolding layers_at sets_at
described None h = none_described
described (Some c) h = go (value_of c) refl
  where
    go : (v : Option WholeVps) → value_of c ≡ v →
        IsOrderly (record { layers = option_map (λ (v : WholeVps). v.derived.layers) v otherwise []; sets = option_map (λ (v : WholeVps). v.derived.sets) v otherwise [] })
    go None is = none_described
    go (Some v) is = (h.orderly v is).all

pub each_described : (us : List (List ℕ)) → All (λ (d : Judged). IsOrderly (described_at (vps_at d.fact))) (hist us)
unfolding items run all_placed facts history
each_described [] = All-nil (λ (d : Judged). IsOrderly (described_at (vps_at d.fact)))
each_described (u ∷ us) = All-cons (λ (d : Judged). IsOrderly (described_at (vps_at d.fact))) (this_judged us u) (hist us)
    (unfold judged judgement fact placed in described (this_judged us u).fact.placed.item.at (item_orderly us u)) (each_described us)

-- ---- One fact of it

-- what holds of the lists of each layer holds of those of any nuh_layer_id
of_found : (P : LayerInfoValue → Type 0) (Q : List ℕ → Type 0) (part : LayerInfoValue → List ℕ) (infos : List LayerInfoValue) (id : ℕ) →
    All P infos → Q [] → ((info : LayerInfoValue) → P info → info.layer ≡ id → Q (part info)) → Q (option_map part (find (is_layer id) infos) otherwise [])
of_found P Q part infos id each none one = go (find (is_layer id) infos) refl
  where
    go : (o : Option LayerInfoValue) → find (is_layer id) infos ≡ o → Q (option_map part o otherwise [])
    go None is = none
    go (Some info) is = let found = find_all P (is_layer id) infos info each is in one info found.0 (eqb-true info.layer id found.1)

pub directs-rise : (at : InForce) → IsOrderly (described_at at) → (n : ℕ) → IsStrictlyIncreasing (directs at n)
unfolding directs
directs-rise at h n =
    of_found (IsOrderlyLayer (layers_at at)) IsStrictlyIncreasing (λ (info : LayerInfoValue). info.directs) (layers_at at) n h.each_layer none_rises (λ info one is. one.directs_rise)

pub closures-rise : (at : InForce) → IsOrderly (described_at at) → (n : ℕ) → IsStrictlyIncreasing (closure at n)
unfolding closure
closures-rise at h n =
    of_found (IsOrderlyLayer (layers_at at)) IsStrictlyIncreasing (λ (info : LayerInfoValue). info.closure) (layers_at at) n h.each_layer none_rises (λ info one is. one.closure_rises)

pub directs-below : (at : InForce) → IsOrderly (described_at at) → (n direct : ℕ) → is_among (directs at n) direct ≡ true → direct < n
unfolding directs
directs-below at h n direct =
    of_found (IsOrderlyLayer (layers_at at)) (λ ids. is_among ids direct ≡ true → direct < n) (λ (info : LayerInfoValue). info.directs) (layers_at at) n h.each_layer
    (λ refers. absurd (let wrong : true ≡ false = sym refers in cc))
    (λ info one is refers. subst (λ m. direct < m) is (one.directs_below direct refers))

pub outputs-rise : (at : InForce) → IsOrderly (described_at at) → (o : ℕ) → IsStrictlyIncreasing (outputs at o)
unfolding outputs set_at
outputs-rise at h o = go (slice_get (sets_at at) o) refl
  where
    go : (found : Option OlsValue) → slice_get (sets_at at) o ≡ found → IsStrictlyIncreasing (option_map (λ (s : OlsValue). s.outputs) found otherwise [])
    go None is = none_rises
    go (Some set) is =
        let here : slice_index_or (sets_at at) o set ≡ set = get_or_from_slice_get (sets_at at) o set set is in
        let one : IsOrderlySet (layers_at at) set = subst (IsOrderlySet (layers_at at)) here (h.each_set o set (slice_get_within (sets_at at) o set is)) in
        one.outputs_rise

-- the outputs of a set are kept for it
own-outputs : (at : InForce) → IsOrderly (described_at at) → (o layer : ℕ) → is_among (outputs at o) layer ≡ true → keeps o at layer ≡ true
unfolding outputs set_at keeps
own-outputs None h o layer refers = refl
own-outputs (Some vps) h o layer refers = go (slice_get (sets_at (Some vps)) o) refl refers
  where
    go : (found : Option OlsValue) → slice_get (sets_at (Some vps)) o ≡ found → is_among (option_map (λ (s : OlsValue). s.outputs) found otherwise []) layer ≡ true
        → (option_map (λ set. is_kept set layer) found otherwise nat_eq layer 0) ≡ true
    go None is among = absurd (let wrong : true ≡ false = sym among in cc)
    go (Some set) is among =
        let here : slice_index_or (sets_at (Some vps)) o set ≡ set = get_or_from_slice_get (sets_at (Some vps)) o set set is in
        let one : IsOrderlySet (layers_at (Some vps)) set = subst (IsOrderlySet (layers_at (Some vps))) here (h.each_set o set (slice_get_within (sets_at (Some vps)) o set is)) in
        one.outputs_kept layer among

pub own-kept : (us : List (List ℕ)) (o : ℕ) → KeepsOutputsOf us o o
own-kept us o =
    All-weaker (λ (i : Item). IsOrderlyAt i.at) (λ (i : Item). (layer : ℕ) → is_among (outputs i.at o) layer ≡ true → keeps o i.at layer ≡ true)
    (λ i h. own-outputs i.at (described i.at h) o) (items (reverse us)) (items_orderly (reverse us))

-- ---- In the order of the stream

pub described-of : (us : List (List ℕ)) → All (λ (d : Judged). IsOrderly (described_at (vps_at d.fact))) (history_of us)
unfolding history_of facts_of
described-of us = each_described (reverse us)

pub fact-of : (P : InForce → Type 0) → ((at : InForce) → IsOrderly (described_at at) → P at) → (us : List (List ℕ)) → All (λ (d : Judged). P (vps_at d.fact)) (history_of us)
fact-of P one us =
    All-weaker (λ (d : Judged). IsOrderly (described_at (vps_at d.fact))) (λ (d : Judged). P (vps_at d.fact)) (λ d. one (vps_at d.fact)) (history_of us) (described-of us)
