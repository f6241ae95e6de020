-- The closure of a layer is the least set with it and with the direct reference layers of each member; so what is kept for an
-- output layer set has with a layer all those that it refers to, directly or indirectly.
use Rattle.std.proofs.Common.{◌≡◌, ◌⊎◌, inl, inr, ℕ, zero, suc, ◌+◌, ◌<◌, ◌≤◌, Bool, true, false, cond, ◌&&◌, ◌||◌, List, [], ◌∷◌, map, length, get_or, Option, None, Some, refl, ap, sym, subst, ◌∙◌, arith}
use Rattle.std.specs.Prelude.{nat_eq, nat_le, option_map, All, slice_get, slice_index_or}
use Rattle.std.specs.List.{find, range_with_len}
use Rattle.std.specs.List.Sorted.{IsStrictlyIncreasing}
use Rattle.std.proofs.lemmas.Bool.{cases_lt, and_from, or_right, and_parts, le-leb, leb-true, eqb-true, eq-eqb, ne_eqb}
use Rattle.std.proofs.lemmas.Option.{get_or_from_slice_get, slice_get_within}
use Rattle.std.proofs.lemmas.List.Elements.{All-nil, All-cons, All-head, All-tail}
use Rattle.std.proofs.lemmas.List.FromFn.{get_or-map-range_with_len, length-map-range_with_len}
use Rattle.mv_syntax.specs.Table.{Valid}
use Rattle.mv_syntax.specs.Words.{◌otherwise◌}
use Rattle.mv_layers.specs.References.{depends, reaches}
use Rattle.mv_layers.specs.LayerInfos.{LayerInfoValue, CodedLayers, nuh_layer_id, layer_info, layer_infos, is_known, is_layer, directs_of, closure_of}
use Rattle.mv_layers.specs.OutputLayers.{is_among}
use Rattle.mv_layers.specs.Derived.{OlsValue, DerivedValue, IsOrderly, IsOrderlyLayer, IsOrderlySet, is_kept}
use Rattle.mv_vpsext.specs.Args.{VpsArgsValue}
use Rattle.mv_vpslayers.specs.Layers.{coded_layers, layers_described, nuh_layer_id as vps_layer_id}
use Rattle.mv_vpsext.specs.VpsExt.{VpsExtValue, vps_extension}
use Rattle.mv_vpsext.specs.Derived.{derived}
use Rattle.mv_vpsext.proofs.Orderly.{orderly}
use Rattle.mv_vps.specs.Vps.{layer_0_alone}
use Rattle.mv_layers.proofs.ClosureLaws.{least}
use Rattle.mv_layers.proofs.LayerLaws.{of_infos}
use Rattle.mv_layers.proofs.Members.{picked, pick}
use Rattle.mv_layers.proofs.Rising.{rises_at}

-- a set of layers that has with a layer its direct reference layers has with a layer its closure
abbrev pub ClosesDirects : List LayerInfoValue → (ℕ → Bool) → Type 0
ClosesDirects infos members = (id direct : ℕ) → members id ≡ true → is_among (directs_of infos id) direct ≡ true → members direct ≡ true

pub record IsLeast (infos : List LayerInfoValue) : Type 0 where
  pub least : (members : ℕ → Bool) → ClosesDirects infos members → (id other : ℕ) → members id ≡ true → is_among (closure_of infos id) other ≡ true → members other ≡ true

-- the first that passes of those made from a range
find_first : {X : Type 0} (p : X → Bool) (f : ℕ → X) (a n i : ℕ) → a ≤ i → i < a + n → p (f i) ≡ true → ((k : ℕ) → a ≤ k → k < i → p (f k) ≡ false) →
    find p (map f (range_with_len a n)) ≡ Some (f i)
find_first p f a zero i low high is none = absurd (omega arith)
find_first p f a (suc n) i low high is none = go (cases_lt a i) (λ more. find_first p f (a + 1) n i (omega (arith, more)) (omega arith) is (λ k after before. none k (omega (arith, after)) before))
  where
    go : (a < i) ⊎ (i ≤ a) → (a < i → find p (map f (range_with_len (a + 1) n)) ≡ Some (f i)) → cond (p (f a)) (Some (f a)) (find p (map f (range_with_len (a + 1) n))) ≡ Some (f i)
    go (inl more) rest = ap (λ b. cond b (Some (f a)) (find p (map f (range_with_len (a + 1) n)))) (none a (omega arith) more) ∙ rest more
    go (inr least) rest =
        let same : a ≡ i = omega arith in
        ap (λ k. cond (p (f k)) (Some (f k)) (find p (map f (range_with_len (a + 1) n)))) same
        ∙ ap (λ b. cond b (Some (f i)) (find p (map f (range_with_len (a + 1) n)))) is

-- what is found among those made from a range
found_some : {X : Type 0} (p : X → Bool) (f : ℕ → X) (a n : ℕ) (x : X) → find p (map f (range_with_len a n)) ≡ Some x → (i : ℕ) × ((i < a + n) × ((p (f i) ≡ true) × (x ≡ f i)))
found_some p f a zero x h = absurd (cc)
found_some p f a (suc n) x h = go (p (f a)) refl h (found_some p f (a + 1) n x)
  where
    go : (b : Bool) → p (f a) ≡ b → cond b (Some (f a)) (find p (map f (range_with_len (a + 1) n))) ≡ Some x →
        (find p (map f (range_with_len (a + 1) n)) ≡ Some x → (i : ℕ) × ((i < (a + 1) + n) × ((p (f i) ≡ true) × (x ≡ f i)))) →
        (i : ℕ) × ((i < a + suc n) × ((p (f i) ≡ true) × (x ≡ f i)))
    go true e h rest = (a, (omega arith, (e, let same : x ≡ f a = cc in same)))
    go false e h rest =
        let found = rest h in
        let low : found.0 < (a + 1) + n = found.1.0 in
        (found.0, (omega (arith, low), found.1.1))

directs_at : (coded : CodedLayers) → IsStrictlyIncreasing coded.layer_id_in_nuh → (j : ℕ) → j < length coded.layer_id_in_nuh →
    directs_of (layer_infos coded) (nuh_layer_id coded j) ≡ (layer_info coded j).directs
unfolding layer_infos
directs_at coded rise j low =
    ap (λ found. option_map (λ (info : LayerInfoValue). info.directs) found otherwise [])
    (find_first (is_layer (nuh_layer_id coded j)) (layer_info coded) 0 (length coded.layer_id_in_nuh) j (omega arith) (omega (arith, low))
    (eq-eqb (nuh_layer_id coded j) (nuh_layer_id coded j) refl)
    (λ k after before. ne_eqb (nuh_layer_id coded k) (nuh_layer_id coded j)
    (λ same. let less : nuh_layer_id coded k < nuh_layer_id coded j = rises_at coded.layer_id_in_nuh rise k j before low in omega (arith, less, same))))

-- the closures of layers whose nuh_layer_id rise are least
pub least_infos : (coded : CodedLayers) → IsStrictlyIncreasing coded.layer_id_in_nuh → IsLeast (layer_infos coded)
unfolding layer_infos
least_infos coded rise = record { least = λ members closes id other own h. go members closes id other own (find (is_layer id) (layer_infos coded)) refl h }
  where
    at : (members : ℕ → Bool) → ClosesDirects (layer_infos coded) members → (i other : ℕ) → i < length coded.layer_id_in_nuh → members (nuh_layer_id coded i) ≡ true →
        is_among (layer_info coded i).closure other ≡ true → members other ≡ true
    at members closes i other low own h =
        let here = picked (nuh_layer_id coded) (reaches coded.direct_dependency_flag i) (i + 1) other h in
        let within : (nat_le here.0 i && members (nuh_layer_id coded here.0)) ≡ true =
        least coded.direct_dependency_flag (λ j. nat_le j i && members (nuh_layer_id coded j))
        (λ j k passes below refers.
        let parts : (nat_le j i ≡ true) × (members (nuh_layer_id coded j) ≡ true) = and_parts (nat_le j i) (members (nuh_layer_id coded j)) passes in
        let up : j ≤ i = leb-true j i parts.0 in
        and_from (nat_le k i) (members (nuh_layer_id coded k)) (le-leb k i (omega (arith, up, below)))
        (closes (nuh_layer_id coded j) (nuh_layer_id coded k) parts.1
        (ap (λ ids. is_among ids (nuh_layer_id coded k)) (directs_at coded rise j (omega (arith, up, low)))
        ∙ pick (nuh_layer_id coded) (depends coded.direct_dependency_flag j) j (nuh_layer_id coded k) k below refers refl)))
        i i here.0
        (and_from (nat_le i i) (members (nuh_layer_id coded i)) (le-leb i i (omega arith)) own) here.1.1.0 in
        subst (λ id. members id ≡ true) here.1.1.1 (and_parts (nat_le here.0 i) (members (nuh_layer_id coded here.0)) within).1

    go : (members : ℕ → Bool) → ClosesDirects (layer_infos coded) members → (id other : ℕ) → members id ≡ true → (o : Option LayerInfoValue) → find (is_layer id) (layer_infos coded) ≡ o →
        is_among (option_map (λ (info : LayerInfoValue). info.closure) o otherwise []) other ≡ true → members other ≡ true
    go members closes id other own None is h = absurd (let wrong : true ≡ false = sym h in cc)
    go members closes id other own (Some info) is h =
        let found = found_some (is_layer id) (layer_info coded) 0 (length coded.layer_id_in_nuh) info is in
        let low : found.0 < 0 + length coded.layer_id_in_nuh = found.1.0 in
        at members closes found.0 other (omega (arith, low))
        (subst (λ id. members id ≡ true) (sym (eqb-true (nuh_layer_id coded found.0) id found.1.1.0)) own)
        (subst (λ (info : LayerInfoValue). is_among info.closure other ≡ true) found.1.1.1 h)

-- layer 0 alone
least_alone : (members : ℕ → Bool) (id other : ℕ) → members id ≡ true → is_among (closure_of layer_0_alone.layers id) other ≡ true → members other ≡ true
least_alone members id other own h = go (nat_eq 0 id) refl h
  where
    go : (b : Bool) → nat_eq 0 id ≡ b → is_among (option_map (λ (info : LayerInfoValue). info.closure) (cond b (Some (record { layer = 0; view_order = 0; view_id = 0; directs = []; closure = 0 ∷ [] })) None) otherwise []) other ≡ true → members other ≡ true
    go false is h = absurd (let wrong : true ≡ false = sym h in cc)
    go true is h = subst (λ k. members k ≡ true) (sym (eqb-true 0 id is) ∙ eqb-true 0 other (first (nat_eq 0 other) h)) own
      where
        first : (b : Bool) → (b || false) ≡ true → b ≡ true
        first true e = refl
        first false e = e

-- ---- what is described
pub record Orderly (derived : DerivedValue) : Type 0 where
  pub all : IsOrderly derived
  pub base : is_known derived.layers 0 ≡ true
  pub closures : IsLeast derived.layers
  pub below : (id direct : ℕ) → is_among (directs_of derived.layers id) direct ≡ true → direct < id
  pub each_set : All (IsOrderlySet derived.layers) derived.sets

pub find_all : {X : Type 0} (P : X → Type 0) (p : X → Bool) (xs : List X) (x : X) → All P xs → find p xs ≡ Some x → P x × (p x ≡ true)
find_all P p [] x h is = absurd (cc)
find_all P p (y ∷ ys) x h is = go (p y) refl is (find_all P p ys x (All-tail P y ys h))
  where
    go : (b : Bool) → p y ≡ b → cond b (Some y) (find p ys) ≡ Some x → (find p ys ≡ Some x → P x × (p x ≡ true)) → P x × (p x ≡ true)
    go true e is rest = let same : y ≡ x = cc in (subst P same (All-head P y ys h), ap p (sym same) ∙ e)
    go false e is rest = rest is

directs_below : (infos : List LayerInfoValue) → All (IsOrderlyLayer infos) infos → (id direct : ℕ) → is_among (directs_of infos id) direct ≡ true → direct < id
directs_below infos each id direct h = go (find (is_layer id) infos) refl h
  where
    go : (o : Option LayerInfoValue) → find (is_layer id) infos ≡ o → is_among (option_map (λ (info : LayerInfoValue). info.directs) o otherwise []) direct ≡ true → direct < id
    go None is h = absurd (let wrong : true ≡ false = sym h in cc)
    go (Some info) is h =
        let found = find_all (IsOrderlyLayer infos) (is_layer id) infos info each is in
        subst (λ n. direct < n) (eqb-true info.layer id found.1) (found.0.directs_below direct h)

ids_of : (coded : CodedLayers) (a n : ℕ) → map (λ (info : LayerInfoValue). info.layer) (map (layer_info coded) (range_with_len a n)) ≡ map (nuh_layer_id coded) (range_with_len a n)
ids_of coded a zero = refl
ids_of coded a (suc n) = ap (λ ids. nuh_layer_id coded a ∷ ids) (ids_of coded (a + 1) n)

ids_rise : (coded : CodedLayers) → IsStrictlyIncreasing (map (λ (info : LayerInfoValue). info.layer) (layer_infos coded)) → IsStrictlyIncreasing coded.layer_id_in_nuh
unfolding layer_infos
ids_rise coded h k low =
    let n : ℕ = length coded.layer_id_in_nuh in
    let all : length (map (nuh_layer_id coded) (range_with_len 0 n)) ≡ n = length-map-range_with_len (nuh_layer_id coded) 0 n in
    let rises : IsStrictlyIncreasing (map (nuh_layer_id coded) (range_with_len 0 n)) = subst IsStrictlyIncreasing (ids_of coded 0 n) h in
    let one : get_or (map (nuh_layer_id coded) (range_with_len 0 n)) k 0 ≡ get_or coded.layer_id_in_nuh k 0 = get_or-map-range_with_len (nuh_layer_id coded) 0 n k k 0 (omega (arith, low)) (omega arith) in
    let two : get_or (map (nuh_layer_id coded) (range_with_len 0 n)) (k + 1) 0 ≡ get_or coded.layer_id_in_nuh (k + 1) 0 = get_or-map-range_with_len (nuh_layer_id coded) 0 n (k + 1) (k + 1) 0 low (omega arith) in
    let less : get_or (map (nuh_layer_id coded) (range_with_len 0 n)) k 0 < get_or (map (nuh_layer_id coded) (range_with_len 0 n)) (k + 1) 0 = rises k (omega (arith, all, low)) in
    omega (arith, one, two, less)

orderly_coded : (coded : CodedLayers) (sets : List OlsValue) → is_known (layer_infos coded) 0 ≡ true → IsOrderly (record { layers = layer_infos coded; sets = sets }) → Orderly (record { layers = layer_infos coded; sets = sets })
orderly_coded coded sets base h = record {
  all = h;
  base = base;
  closures = least_infos coded (ids_rise coded h.layers_rise);
  below = directs_below (layer_infos coded) h.each_layer;
  each_set = h.each_set;
}

pub orderly_ext : (args : VpsArgsValue) (ext : VpsExtValue) → Valid (vps_extension args) ext → Orderly (derived args ext)
unfolding layers_described
orderly_ext args ext valid =
    orderly_coded
    (coded_layers args.vps_max_layers_minus1 ext.dimensions.layers ext.dimensions.view_id_val ext.dependencies.direct_dependency_flag)
    (derived args ext).sets
    (of_infos (is_layer 0) (coded_layers args.vps_max_layers_minus1 ext.dimensions.layers ext.dimensions.view_id_val ext.dependencies.direct_dependency_flag) 0
    (let all : length (map (vps_layer_id ext.dimensions.layers) (range_with_len 0 (args.vps_max_layers_minus1 + 1))) ≡ args.vps_max_layers_minus1 + 1 = length-map-range_with_len (vps_layer_id ext.dimensions.layers) 0 (args.vps_max_layers_minus1 + 1) in omega (arith, all))
    (eq-eqb (get_or (map (vps_layer_id ext.dimensions.layers) (range_with_len 0 (args.vps_max_layers_minus1 + 1))) 0 0) 0
    (get_or-map-range_with_len (vps_layer_id ext.dimensions.layers) 0 (args.vps_max_layers_minus1 + 1) 0 0 0 (omega arith) (omega arith))))
    (orderly args ext valid)

alone_directs : (id direct : ℕ) → is_among (directs_of layer_0_alone.layers id) direct ≡ true → ⊥
alone_directs id direct h = go (nat_eq 0 id) h
  where
    go : (b : Bool) → is_among (option_map (λ (info : LayerInfoValue). info.directs) (cond b (Some (record { layer = 0; view_order = 0; view_id = 0; directs = []; closure = 0 ∷ [] })) None) otherwise []) direct ≡ true → ⊥
    go true h = let wrong : true ≡ false = sym h in cc
    go false h = let wrong : true ≡ false = sym h in cc

base_alone : OlsValue
base_alone = record { layers = 0 ∷ []; outputs = 0 ∷ []; necessary = 0 ∷ []; reorder = None }

one_rises : IsStrictlyIncreasing (0 ∷ [])
one_rises k low = absurd (omega (arith, low))

base_orderly : IsOrderlySet layer_0_alone.layers base_alone
unfolding base_alone
base_orderly = record {
  layers_rise = one_rises;
  outputs_rise = one_rises;
  necessary_rises = one_rises;
  outputs_within = λ id h. h;
  necessary_within = λ id h. h;
  outputs_kept = λ id h. or_right (nat_eq id 0) (is_among (0 ∷ []) id) h;
  kept_closed = λ id direct kept refers. absurd (alone_directs id direct refers);
}

infos_alone : LayerInfoValue
infos_alone = record { layer = 0; view_order = 0; view_id = 0; directs = []; closure = 0 ∷ [] }

none_rises : IsStrictlyIncreasing []
none_rises k low = absurd (omega (arith, low))

layer_orderly : IsOrderlyLayer layer_0_alone.layers infos_alone
unfolding infos_alone
layer_orderly = record {
  directs_rise = none_rises;
  closure_rises = one_rises;
  directs_below = λ id h. absurd (let wrong : true ≡ false = sym h in cc);
  itself = refl;
  closed = λ id direct h refers. absurd (alone_directs id direct refers);
}

all_alone : IsOrderly layer_0_alone
unfolding base_alone infos_alone
all_alone = record {
  layers_rise = one_rises;
  each_layer = All-cons (IsOrderlyLayer layer_0_alone.layers) infos_alone [] layer_orderly (All-nil (IsOrderlyLayer layer_0_alone.layers));
  each_set = All-cons (IsOrderlySet layer_0_alone.layers) base_alone [] base_orderly (All-nil (IsOrderlySet layer_0_alone.layers));
}

pub orderly_alone : Orderly layer_0_alone
unfolding base_alone
orderly_alone = record {
  all = all_alone;
  base = refl;
  closures = record { least = λ members closes. least_alone members };
  below = λ id direct h. absurd (alone_directs id direct h);
  each_set = All-cons (IsOrderlySet layer_0_alone.layers) base_alone [] base_orderly (All-nil (IsOrderlySet layer_0_alone.layers));
}

-- ---- what is kept for an output layer set
abbrev pub keeps_set : Option OlsValue → ℕ → Bool
keeps_set set layer = option_map (λ set. is_kept set layer) set otherwise nat_eq layer 0

pub set_closes : (derived : DerivedValue) → Orderly derived → (o : ℕ) → ClosesDirects derived.layers (keeps_set (slice_get derived.sets o))
set_closes derived h o = go (slice_get derived.sets o) refl
  where
    go : (set : Option OlsValue) → slice_get derived.sets o ≡ set → ClosesDirects derived.layers (keeps_set set)
    go None is id direct kept refers =
        let base : id ≡ 0 = eqb-true id 0 kept in
        let less : direct < id = h.below id direct refers in
        absurd (omega (arith, base, less))
    go (Some set) is id direct kept refers =
        let here : slice_index_or derived.sets o set ≡ set = get_or_from_slice_get derived.sets o set set is in
        let orderly_set : IsOrderlySet derived.layers set = subst (IsOrderlySet derived.layers) here (h.each_set o set (slice_get_within derived.sets o set is)) in
        orderly_set.kept_closed id direct kept refers
