-- One output layer set more, of those that are coded.
use Rattle.std.proofs.Common.{◌≡◌, ℕ, suc, ◌+◌, ◌<◌, ◌≤◌, List, [], ◌∷◌, ◌++◌, get_or, length, map, take, refl, sym, ap, ap₂, ◌∙◌, arith, length-append}
use Rattle.std.specs.List.{enumerate_from}
use Rattle.std.proofs.lemmas.List.{take_more, take_all, map-append, length-map, length-take-le}
use Rattle.std.proofs.lemmas.List.FromFn.{length-enumerate_from}
use Rattle.mv_layers.specs.LayerInfos.{LayerInfoValue}
use Rattle.mv_layers.specs.Derived.{OlsValue}
use Rattle.mv_vpssets.specs.DpbSizes.{DpbSetValue}
use Rattle.mv_layers.specs.OutputLayers.{OlsLayers}
use Rattle.mv_vpssets.specs.OutputSets.{OutputLayerSetValue}
use Rattle.mv_vpssets.specs.Sets.{base_set, coded_set, coded_sets}

-- one item more, with its number
pub numbered_more : {X : Type 0} (n : ℕ) (xs : List X) (x : X) (j : ℕ) → n + length xs ≡ j → enumerate_from n (xs ++ x ∷ []) ≡ enumerate_from n xs ++ (j, x) ∷ []
numbered_more n [] x j e = let same : n ≡ j = omega (arith, e) in ap (λ k. (k, x) ∷ []) same
numbered_more n (y ∷ xs) x j e = ap (λ l. (n, y) ∷ l) (numbered_more (n + 1) xs x j (omega (arith, e)))

pub coded_more : (infos : List LayerInfoValue) (sets : List (List ℕ)) (idc : ℕ) (coded : List OutputLayerSetValue) (set : OutputLayerSetValue) (i : ℕ) → 1 + length coded ≡ i
    → coded_sets infos sets idc (coded ++ set ∷ []) ≡ coded_sets infos sets idc coded ++ coded_set infos sets idc i set ∷ []
unfolding coded_sets
coded_more infos sets idc coded set i e =
    ap (map (λ numbered. coded_set infos sets idc numbered.0 numbered.1)) (numbered_more 1 coded set i e)
    ∙ map-append (λ numbered. coded_set infos sets idc numbered.0 numbered.1) (enumerate_from 1 coded) ((i, set) ∷ [])

none_coded : (infos : List LayerInfoValue) (sets : List (List ℕ)) (idc : ℕ) → coded_sets infos sets idc [] ≡ []
unfolding coded_sets
none_coded infos sets idc = refl

pub first_set : (infos : List LayerInfoValue) (sets : List (List ℕ)) (idc : ℕ) (all : List OlsLayers) → all ≡ base_set infos ∷ []
    → all ≡ base_set infos ∷ coded_sets infos sets idc []
first_set infos sets idc all e = e ∙ ap (λ l. base_set infos ∷ l) (sym (none_coded infos sets idc))

pub first_sets : (infos : List LayerInfoValue) (sets : List (List ℕ)) (idc : ℕ) (all : List OlsLayers) (none : List OutputLayerSetValue) → all ≡ base_set infos ∷ [] → none ≡ []
    → all ≡ base_set infos ∷ coded_sets infos sets idc none
first_sets infos sets idc all none e empty = first_set infos sets idc all e ∙ ap (λ l. base_set infos ∷ coded_sets infos sets idc l) (sym empty)

pub one_more : {X : Type 0} (before after : List X) (x : X) (i : ℕ) → after ≡ before ++ x ∷ [] → 1 + length before ≡ i → 1 + length after ≡ i + 1
one_more before after x i e count =
    let more : length after ≡ length before + 1 = ap length e ∙ length-append before (x ∷ []) in
    omega (arith, more, count)

pub some_sets : {X : Type 0} (all rest : List X) (x : X) → all ≡ x ∷ rest → 1 ≤ length all
some_sets all rest x e = let count : length all ≡ suc (length rest) = ap length e in omega (arith, count)

-- behind those so far, which are the first k, or all that were read
pub set_behind : (infos : List LayerInfoValue) (sets : List (List ℕ)) (idc : ℕ) (coded after : List OutputLayerSetValue) (one : OutputLayerSetValue) (i : ℕ) (all new : List OlsLayers) (set : OlsLayers)
    → 1 + length coded ≡ i → after ≡ coded ++ one ∷ [] → all ≡ base_set infos ∷ coded_sets infos sets idc coded → set ≡ coded_set infos sets idc i one → new ≡ all ++ set ∷ []
    → new ≡ base_set infos ∷ coded_sets infos sets idc after
set_behind infos sets idc coded after one i all new set count gives so_far is e =
    e ∙ ap₂ (λ l s. l ++ s ∷ []) so_far is
    ∙ ap (λ l. base_set infos ∷ l) (sym (coded_more infos sets idc coded one i count))
    ∙ ap (λ l. base_set infos ∷ coded_sets infos sets idc l) (sym gives)

pub set_at_place : (infos : List LayerInfoValue) (sets : List (List ℕ)) (idc : ℕ) (coded : List OutputLayerSetValue) (k : ℕ) (one : OutputLayerSetValue) (all new : List OlsLayers) (set : OlsLayers)
    → k < length coded → one ≡ get_or coded k one → all ≡ base_set infos ∷ coded_sets infos sets idc (take k coded) → set ≡ coded_set infos sets idc (k + 1) one → new ≡ all ++ set ∷ []
    → new ≡ base_set infos ∷ coded_sets infos sets idc (take (k + 1) coded)
set_at_place infos sets idc coded k one all new set h at so_far is e =
    let count : length (take k coded) ≡ k = length-take-le k coded (omega (arith, h)) in
    set_behind infos sets idc (take k coded) (take (k + 1) coded) one (k + 1) all new set (omega (arith, count))
    (take_more coded k one h ∙ ap (λ s. take k coded ++ s ∷ []) (sym at)) so_far is e

pub sets_of_all : (infos : List LayerInfoValue) (sets : List (List ℕ)) (idc : ℕ) (coded : List OutputLayerSetValue) (k : ℕ) (all : List OlsLayers) → length coded ≤ k
    → all ≡ base_set infos ∷ coded_sets infos sets idc (take k coded) → all ≡ base_set infos ∷ coded_sets infos sets idc coded
sets_of_all infos sets idc coded k all h so_far = so_far ∙ ap (λ l. base_set infos ∷ coded_sets infos sets idc l) (take_all k coded h)

pub ruleset set_steps = (first_set, sets_of_all)
