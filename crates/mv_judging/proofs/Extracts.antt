-- What units more change of the facts and of the extract.
use Rattle.std.proofs.Common.{◌≡◌, Bool, true, false, cond, List, [], ◌∷◌, ◌++◌, filter, map, refl, ap, sym, ◌∙◌, append_assoc, append-nil, if◌then◌else◌}
use Rattle.std.proofs.lemmas.List.Elements.{filter-append}
use Rattle.std.proofs.lemmas.List.{map-append}
use Rattle.mv_units.specs.Units.{NalUnit}
use Rattle.mv_judging.specs.Facts.{Fact, fact, facts, facts_behind}
use Rattle.mv_judging.specs.Extract.{extract}

-- facts of units in two parts: the second stands behind the first
facts_behind-append : (before us vs : List NalUnit) → facts_behind before (us ++ vs) ≡ facts_behind before us ++ facts_behind (before ++ us) vs
unfolding facts_behind
facts_behind-append before [] vs = ap (λ b. facts_behind b vs) (sym (append-nil before))
facts_behind-append before (u ∷ us) vs =
    ap (λ rest. fact before u ∷ rest)
    (facts_behind-append (before ++ u ∷ []) us vs
    ∙ ap (λ b. facts_behind (before ++ u ∷ []) us ++ facts_behind b vs) (append_assoc before (u ∷ []) us))

pub facts-append : (us vs : List NalUnit) → facts (us ++ vs) ≡ facts us ++ facts_behind us vs
facts-append us vs = facts_behind-append [] us vs

pub facts-push : (us : List NalUnit) (u : NalUnit) → facts (us ++ u ∷ []) ≡ facts us ++ fact us u ∷ []
unfolding facts_behind
facts-push us u = facts-append us (u ∷ [])

-- the facts are of the units
bytes_of : (before us : List NalUnit) → map (λ (f : Fact). f.bytes) (facts_behind before us) ≡ map (λ (u : NalUnit). u.bytes) us
unfolding facts_behind
bytes_of before [] = refl
bytes_of before (u ∷ us) = ap (λ rest. u.bytes ∷ rest) (bytes_of (before ++ u ∷ []) us)

pub facts-bytes : (us : List NalUnit) → map (λ (f : Fact). f.bytes) (facts us) ≡ map (λ (u : NalUnit). u.bytes) us
facts-bytes us = bytes_of [] us

-- units more add to the extract, and one more where it is kept
pub extract-append : (kept : Fact → Bool) (us vs : List NalUnit) → extract kept (us ++ vs) ≡ extract kept us ++ map (λ (f : Fact). f.bytes) (filter kept (facts_behind us vs))
extract-append kept us vs =
    ap (λ fs. map (λ (f : Fact). f.bytes) (filter kept fs)) (facts-append us vs)
    ∙ ap (map (λ (f : Fact). f.bytes)) (filter-append kept (facts us) (facts_behind us vs))
    ∙ map-append (λ (f : Fact). f.bytes) (filter kept (facts us)) (filter kept (facts_behind us vs))

pub extract-push : (kept : Fact → Bool) (us : List NalUnit) (u : NalUnit) → extract kept (us ++ u ∷ []) ≡ extract kept us ++ (if kept (fact us u) then u.bytes ∷ [] else [])
unfolding facts_behind
extract-push kept us u = extract-append kept us (u ∷ []) ∙ ap (λ more. extract kept us ++ more) (alone (kept (fact us u)))
  where
    alone : (b : Bool) → map (λ (f : Fact). f.bytes) (cond b (fact us u ∷ []) []) ≡ cond b (u.bytes ∷ []) []
    alone true = refl
    alone false = refl
