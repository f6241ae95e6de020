-- Marks that a loop puts: what passes a test of the elements so far is marked, beside what was marked before.
use Rattle.std.proofs.Common.{◌≡◌, ℕ, zero, suc, ◌+◌, ◌<◌, ◌≤◌, Bool, true, false, not, ◌||◌, List, [], ◌∷◌, get_or, length, take, replicate, refl, sym, ap, ap₂, ◌∙◌}
use Rattle.std.specs.List.{list_any}
use Rattle.std.proofs.lemmas.List.{take_all}
use Rattle.std.proofs.lemmas.List.Folds.{list_any_more}
use Rattle.mv_layers.specs.LayerSets.{layers_in}

moved : (a b c : Bool) → (a || (b || c)) ≡ ((b || a) || c)
moved true true c = refl
moved true false c = refl
moved false true c = refl
moved false false c = refl

pub nothing_more : (b : Bool) → (b || false) ≡ b
nothing_more true = refl
nothing_more false = refl

-- one element more
pub more_marked : {X : Type 0} (p : X → Bool) (xs : List X) (i : ℕ) (x d : X) (old now new : Bool) → i < length xs → x ≡ get_or xs i d
    → new ≡ (p x || now) → now ≡ (list_any p (take i xs) || old) → new ≡ (list_any p (take (i + 1) xs) || old)
more_marked p xs i x d old now new h is step so_far =
    step ∙ ap (λ b. p x || b) so_far ∙ moved (p x) (list_any p (take i xs)) old
    ∙ ap (λ b. b || old) (ap (λ y. list_any p (take i xs) || p y) is ∙ sym (list_any_more p xs i d h))

-- all of them
pub all_marked : {X : Type 0} (p : X → Bool) (xs : List X) (i : ℕ) (old now : Bool) → length xs ≤ i → now ≡ (list_any p (take i xs) || old)
    → now ≡ (list_any p xs || old)
all_marked p xs i old now h so_far = so_far ∙ ap (λ ys. list_any p ys || old) (take_all i xs h)

-- tests that agree
pub any_agree : {X : Type 0} (p q : X → Bool) → ((x : X) → p x ≡ q x) → (xs : List X) → list_any p xs ≡ list_any q xs
any_agree p q same [] = refl
any_agree p q same (x ∷ xs) = ap₂ (λ a b. a || b) (same x) (any_agree p q same xs)

-- a layer without a mark is one that isn't known
pub unknown_agree : (marks : List Bool) (known : ℕ → Bool) (sets : List (List ℕ)) → ((k : ℕ) → get_or marks k false ≡ known k)
    → list_any (λ set. list_any (λ id. not (get_or marks id false)) (layers_in set)) sets ≡ list_any (λ set. list_any (λ id. not (known id)) (layers_in set)) sets
unknown_agree marks known sets same =
    any_agree (λ set. list_any (λ id. not (get_or marks id false)) (layers_in set)) (λ set. list_any (λ id. not (known id)) (layers_in set))
    (λ set. any_agree (λ id. not (get_or marks id false)) (λ id. not (known id)) (λ id. ap not (same id)) (layers_in set)) sets

-- no marks
pub none_marked : (n k : ℕ) → get_or (replicate n false) k false ≡ false
none_marked zero k = refl
none_marked (suc n) zero = refl
none_marked (suc n) (suc k) = none_marked n k
