-- The inter-layer reference pictures of a picture, from its active reference layers.
use Rattle.std.proofs.Common.{◌≡◌, ℕ, Bool, true, false, cond, not, ◌||◌, List, [], ◌∷◌, map, Option, Some, None, refl, sym, ap₂, subst}
use Rattle.std.specs.Prelude.{is_some, is_none, option_map}
use Rattle.std.specs.List.{filter, filter_map, cons_option, find, list_any}
use Rattle.std.proofs.lemmas.Bool.{eqb-true}
use Rattle.mv_pictures.specs.Facts.{Fact}
use Rattle.mv_pictures.specs.Judged.{Judged, layer, of_layer}
use Rattle.mv_pictures.specs.Look.{in_sequence, sequence}
use Rattle.mv_pictures.specs.References.{decoded_in, with_term, term_in}
use Rattle.mv_pictures.specs.Terms.{Term}
use Rattle.mv_reflists.specs.declared.inter_layer_sets.Active2.{Active2}
use Rattle.mv_reflists.specs.InterLayer.{layers_where, missing_inter_layer}
use Rattle.mv_reflists.specs.Stands.{active2}

-- what is found among those that pass a test passes it
found_passes : {A : Type 0} (p q : A → Bool) (xs : List A) (x : A) → find p (filter q xs) ≡ Some x → q x ≡ true
found_passes p q [] x e = absurd (cc)
found_passes {A} p q (y ∷ ys) x e = by_test (q y) refl e (found_passes p q ys x)
  where
    passes : Option A → Type 0
    passes None = Unit {0}
    passes (Some z) = q z ≡ true

    by_found : (b : Bool) → q y ≡ true → cond b (Some y) (find p (filter q ys)) ≡ Some x → (find p (filter q ys) ≡ Some x → q x ≡ true) → q x ≡ true
    by_found true t e behind = subst passes e t
    by_found false t e behind = behind e

    by_test : (b : Bool) → q y ≡ b → find p (cond b (y ∷ filter q ys) (filter q ys)) ≡ Some x → (find p (filter q ys) ≡ Some x → q x ≡ true) → q x ≡ true
    by_test true t e behind = by_found (p y) t e behind
    by_test false t e behind = behind e

-- the picture that is found in a layer is of the layer
of_its_layer : (past : List Judged) (p : Fact) (n : ℕ) (d : Judged) → decoded_in p (in_sequence past n) ≡ Some d → layer d.fact ≡ n
unfolding decoded_in
of_its_layer past p n d e = eqb-true (layer d.fact) n (found_passes _ (of_layer n) (sequence past) d e)

none_is : {A : Type 0} (o : Option A) → is_none o ≡ not (is_some o)
none_is None = refl
none_is (Some x) = refl

pub missing_across : (past : List Judged) (p : Fact) (layers : List ℕ)
    → list_any (λ (units : List Judged). is_none (decoded_in p units)) (map (in_sequence past) layers) ≡ missing_inter_layer (map (active2 past p) layers)
unfolding active2
missing_across past p [] = refl
missing_across past p (n ∷ more) = ap₂ (λ a b. a || b) (none_is (decoded_in p (in_sequence past n))) (missing_across past p more)

-- those that pass a test, where the test of the layer is that of its picture
pub those_across : (past : List Judged) (p : Fact) (test : Active2 → Bool) (own : Judged → Bool) (layers : List ℕ)
    → ((n : ℕ) (d : Judged) → layer d.fact ≡ n → test (active2 past p n) ≡ own d)
    → missing_inter_layer (map (active2 past p) layers) ≡ false
    → layers_where test (map (active2 past p) layers)
    ≡ map (λ (r : Judged × Term). layer r.0.fact) (filter (λ (r : Judged × Term). own r.0) (filter_map (with_term p) (map (in_sequence past) layers)))
unfolding active2
those_across past p test own [] same here = refl
those_across past p test own (n ∷ more) same here = by_found (decoded_in p (in_sequence past n)) refl here (those_across past p test own more same)
  where
    rest : List Active2
    rest = map (active2 past p) more

    others : List (Judged × Term)
    others = filter_map (with_term p) (map (in_sequence past) more)

    by_test : (b c : Bool) (d : Judged) (t : Term) → b ≡ c → layer d.fact ≡ n
        → map (λ (a : Active2). a.layer) (filter test rest) ≡ map (λ (r : Judged × Term). layer r.0.fact) (filter (λ (r : Judged × Term). own r.0) others)
        → map (λ (a : Active2). a.layer) (cond b (active2 past p n ∷ filter test rest) (filter test rest))
        ≡ map (λ (r : Judged × Term). layer r.0.fact) (cond c ((d, t) ∷ filter (λ (r : Judged × Term). own r.0) others) (filter (λ (r : Judged × Term). own r.0) others))
    by_test true true d t e l h = ap₂ (λ a b. a ∷ b) (sym l) h
    by_test false false d t e l h = h
    by_test true false d t e l h = absurd (cc)
    by_test false true d t e l h = absurd (cc)

    by_found : (o : Option Judged) → decoded_in p (in_sequence past n) ≡ o
        → (not (is_some o) || missing_inter_layer rest) ≡ false
        → (missing_inter_layer rest ≡ false → layers_where test rest ≡ map (λ (r : Judged × Term). layer r.0.fact) (filter (λ (r : Judged × Term). own r.0) others))
        → layers_where test (active2 past p n ∷ rest)
        ≡ map (λ (r : Judged × Term). layer r.0.fact) (filter (λ (r : Judged × Term). own r.0) (cons_option (option_map (λ d. (d, term_in (in_sequence past n) d)) o) others))
    by_found (Some d) e here h =
        let l : layer d.fact ≡ n = of_its_layer past p n d e in
        by_test (test (active2 past p n)) (own d) d (term_in (in_sequence past n) d) (same n d l) l (h here)
    by_found None e here h = absurd (cc)
