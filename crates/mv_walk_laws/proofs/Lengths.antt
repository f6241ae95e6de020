-- As many items, facts and judgements as units, and no more sets in reach.
use Rattle.std.proofs.Common.{◌≡◌, ℕ, ◌≤◌, Bool, true, false, cond, suc, List, [], ◌∷◌, length, reverse, Option, None, Some, refl, ap, ◌∙◌, arith}
use Rattle.std.specs.List.{cons_option, filter_map}
use Rattle.std.proofs.lemmas.List.{length-reverse}
use Rattle.mv_history.specs.History.{run, since}
use Rattle.mv_pictures.specs.AccessUnits.{all_placed}
use Rattle.mv_pictures.specs.Facts.{Fact, facts, turned}
use Rattle.mv_pictures.specs.History.{facts_of, history, history_of}
use Rattle.mv_pictures.specs.Items.{items}

length-run : {A B : Type 0} (judge : List B → A → B) (xs : List A) → length (run judge xs) ≡ length xs
unfolding run
length-run judge [] = refl
length-run judge (x ∷ xs) = ap suc (length-run judge xs)

pub items-length : (us : List (List ℕ)) → length (items (reverse us)) ≡ length us
unfolding items
items-length us = length-run _ (reverse us) ∙ length-reverse us

pub facts-length : (us : List (List ℕ)) → length (facts_of us) ≡ length us
unfolding facts_of facts all_placed
facts-length us = length-run _ (all_placed (items (reverse us))) ∙ length-run _ (items (reverse us)) ∙ items-length us

pub history-length : (us : List (List ℕ)) → length (history_of us) ≡ length us
unfolding history_of history
history-length us = length-run _ (facts_of us) ∙ facts-length us

fewer : {A B : Type 0} (f : A → Option B) (xs : List A) → length (filter_map f xs) ≤ length xs
fewer f [] = omega arith
fewer f (x ∷ xs) = go (f x) (fewer f xs)
  where
    go : (o : Option _) → length (filter_map f xs) ≤ length xs → length (cons_option o (filter_map f xs)) ≤ suc (length xs)
    go None low = omega (arith, low)
    go (Some y) low = omega (arith, low)

few-since : {A : Type 0} (test : A → Bool) (xs : List A) → length (since test xs) ≤ length xs
unfolding since
few-since test [] = omega arith
few-since test (x ∷ xs) = go (test x) (few-since test xs)
  where
    go : (b : Bool) → length (since test xs) ≤ length xs → length (cond b [] (x ∷ since test xs)) ≤ suc (length xs)
    go true low = omega arith
    go false low = omega (arith, low)

pub received-few : {A : Type 0} (unit : Fact → Option A) (us : List (List ℕ)) → length (filter_map unit (since turned (facts_of us))) ≤ length us
received-few unit us =
    let found = fewer unit (since turned (facts_of us)) in
    let left = few-since turned (facts_of us) in
    let all = facts-length us in
    omega (arith, found, left, all)
