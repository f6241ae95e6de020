-- Judged and then kept is kept and then judged.
use Rattle.std.proofs.Common.{◌≡◌, Bool, true, false, cond, List, [], ◌∷◌, filter, map, refl, ap, sym, ◌∙◌}
use Rattle.mv_history.specs.History.{IsAlone, Tells, Throughout, run}
use Rattle.mv_history.proofs.Kept.{filter_twice, filter-map}

pub run_source : {A B : Type 0} (judge : List B → A → B) (source : B → A) → Tells judge source → (xs : List A) → map source (run judge xs) ≡ xs
unfolding run
run_source judge source tells [] = refl
run_source judge source tells (a ∷ past) =
    ap (λ x. x ∷ map source (run judge past)) (tells (run judge past) a) ∙ ap (λ xs. a ∷ xs) (run_source judge source tells past)

pub run_keep : {A B : Type 0} (judge : List B → A → B) (source : B → A) (kept : B → Bool) → Tells judge source → (xs : List A) →
    Throughout (IsAlone judge kept) xs → run judge (map source (filter kept (run judge xs))) ≡ filter kept (run judge xs)
unfolding run
run_keep judge source kept tells [] h = refl
run_keep judge source kept tells (a ∷ past) h = go (kept (judge (run judge past) a)) refl (run_keep judge source kept tells past h.1)
  where
    go : (b : Bool) → kept (judge (run judge past) a) ≡ b → run judge (map source (filter kept (run judge past))) ≡ filter kept (run judge past) →
        run judge (map source (cond b (judge (run judge past) a ∷ filter kept (run judge past)) (filter kept (run judge past)))) ≡ cond b (judge (run judge past) a ∷ filter kept (run judge past)) (filter kept (run judge past))
    go true e rest =
        ap (λ ys. judge ys (source (judge (run judge past) a)) ∷ ys) rest
        ∙ ap (λ x. judge (filter kept (run judge past)) x ∷ filter kept (run judge past)) (tells (run judge past) a)
        ∙ ap (λ y. y ∷ filter kept (run judge past)) (h.0 e)
    go false e rest = rest

-- kept twice is kept once
pub run_keep_twice : {A B : Type 0} (judge : List B → A → B) (source : B → A) (kept : B → Bool) → Tells judge source → (xs : List A) →
    Throughout (IsAlone judge kept) xs →
    map source (filter kept (run judge (map source (filter kept (run judge xs))))) ≡ map source (filter kept (run judge xs))
run_keep_twice judge source kept tells xs h =
    ap (λ ys. map source (filter kept ys)) (run_keep judge source kept tells xs h) ∙ ap (map source) (filter_twice kept (run judge xs))

-- the same where what is kept is told by what is judged
pub run-filter : {A B : Type 0} (judge : List B → A → B) (source : B → A) (keeps : A → Bool) → Tells judge source → (xs : List A) →
    Throughout (IsAlone judge (λ b. keeps (source b))) xs → run judge (filter keeps xs) ≡ filter (λ b. keeps (source b)) (run judge xs)
run-filter judge source keeps tells xs h =
    ap (run judge)
    (ap (filter keeps) (sym (run_source judge source tells xs)) ∙ filter-map source keeps (run judge xs))
    ∙ run_keep judge source (λ b. keeps (source b)) tells xs h
