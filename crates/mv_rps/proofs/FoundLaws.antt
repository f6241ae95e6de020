-- Lists in reverse order and with their places, what is found in them, and options.
use Rattle.std.proofs.Common.{◌≡◌, ℕ, ◌+◌, Bool, true, false, cond, ◌&&◌, List, [], ◌∷◌, ◌++◌, map, reverse, Option, Some, None, refl, sym, ap, ap₂, ◌∙◌, subst}
use Rattle.std.specs.Prelude.{is_none, option_map}
use Rattle.std.specs.List.{All, cons_option, enumerate_from, filter_map, find}
use Rattle.std.proofs.lemmas.List.{map-append, reverse-append}
use Rattle.std.proofs.lemmas.List.Elements.{All-append, All-cons, All-head, All-nil, All-tail}

pub reverse_map : {A B : Type 0} (f : A → B) (xs : List A) → reverse (map f xs) ≡ map f (reverse xs)
reverse_map f [] = refl
reverse_map f (x ∷ xs) =
    reverse-append (f x ∷ []) (map f xs) ∙ ap (λ l. l ++ f x ∷ []) (reverse_map f xs) ∙ sym (map-append f (reverse xs) (x ∷ []))
    ∙ ap (map f) (sym (reverse-append (x ∷ []) xs))

pub All_reverse : {A : Type 0} (P : A → Type 0) (xs : List A) → All P xs → All P (reverse xs)
All_reverse P [] h = h
All_reverse P (x ∷ xs) h =
    subst (All P) (sym (reverse-append (x ∷ []) xs))
    (All-append P (reverse xs) (x ∷ []) (All_reverse P xs (All-tail P x xs h)) (All-cons P x [] (All-head P x xs h) (All-nil P)))

pub filter_map_agree : {A B : Type 0} (f g : A → Option B) (xs : List A) → All (λ x. f x ≡ g x) xs → filter_map f xs ≡ filter_map g xs
filter_map_agree f g [] h = refl
filter_map_agree f g (x ∷ xs) h = ap₂ cons_option (All-head (λ x. f x ≡ g x) x xs h) (filter_map_agree f g xs (All-tail (λ x. f x ≡ g x) x xs h))

pub filter_map_behind : {A B C : Type 0} (g : B → C) (f : A → Option B) (xs : List A) → filter_map (λ x. option_map g (f x)) xs ≡ map g (filter_map f xs)
filter_map_behind g f [] = refl
filter_map_behind g f (x ∷ xs) = go (f x) (filter_map_behind g f xs)
  where
    go : (o : Option _) → filter_map (λ x. option_map g (f x)) xs ≡ map g (filter_map f xs) → cons_option (option_map g o) (filter_map (λ x. option_map g (f x)) xs) ≡ map g (cons_option o (filter_map f xs))
    go None rest = rest
    go (Some y) rest = ap (λ l. g y ∷ l) rest

pub enumerate_map : {A B : Type 0} (f : A → B) (n : ℕ) (xs : List A) → enumerate_from n (map f xs) ≡ map (λ (x : ℕ × A). (x.0, f x.1)) (enumerate_from n xs)
enumerate_map f n [] = refl
enumerate_map f n (x ∷ xs) = ap (λ l. (n, f x) ∷ l) (enumerate_map f (n + 1) xs)

pub enumerate_seconds : {A : Type 0} (n : ℕ) (xs : List A) → map (λ (x : ℕ × A). x.1) (enumerate_from n xs) ≡ xs
enumerate_seconds n [] = refl
enumerate_seconds n (x ∷ xs) = ap (λ l. x ∷ l) (enumerate_seconds (n + 1) xs)

pub found : {A : Type 0} (P : A → Type 0) (test : A → Bool) (xs : List A) (y : A) → All P xs → find test xs ≡ Some y → P y
found P test [] y h is = absurd (let wrong : None ≡ Some y = is in cc)
found P test (x ∷ xs) y h is = go (test x) is (found P test xs y (All-tail P x xs h))
  where
    go : (b : Bool) → cond b (Some x) (find test xs) ≡ Some y → (find test xs ≡ Some y → P y) → P y
    go true is rest = let same : x ≡ y = cc in subst P same (All-head P x xs h)
    go false is rest = rest is

pub all_found : {A B : Type 0} (P : A → Type 0) (test : B → A → Bool) (xs : List A) (es : List B) → All P xs → All P (filter_map (λ e. find (test e) xs) es)
all_found P test xs [] h = All-nil P
all_found P test xs (e ∷ es) h = go (find (test e) xs) refl (all_found P test xs es h)
  where
    go : (o : Option _) → find (test e) xs ≡ o → All P (filter_map (λ e. find (test e) xs) es) → All P (cons_option o (filter_map (λ e. find (test e) xs) es))
    go None is rest = rest
    go (Some y) is rest = All-cons P y (filter_map (λ e. find (test e) xs) es) (found P (test e) xs y h is) rest

pub and_both : (a b c : Bool) → (a && (b && c)) ≡ (a && b && c)
and_both true b c = refl
and_both false b c = refl

pub none_either : {A B C : Type 0} (f : A → B) (g : A → C) (o : Option A) → is_none (option_map f o) ≡ is_none (option_map g o)
none_either f g None = refl
none_either f g (Some x) = refl
