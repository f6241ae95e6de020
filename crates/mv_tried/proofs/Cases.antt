-- The first of some cases that holds, of joined lists.
use Rattle.std.proofs.Common.{◌≡◌, Bool, true, false, cond, List, [], ◌∷◌, ◌++◌, Option, None, Some, refl, ap, ◌∙◌, map, ◌&&◌, if◌then◌else◌}
use Rattle.std.specs.Prelude.{option_map, ℕ}
use Rattle.std.specs.List.{find}
use Rattle.std.specs.Option.{option_or}
use Rattle.std.proofs.lemmas.List.Folds.{find-append}
use Rattle.mv_rules.specs.declared.rule.Rule.{Rule}
use Rattle.mv_pictures.specs.Rules.{Case, case}
use Rattle.mv_tried.specs.Tried.{first_of}

-- ---- Booleans

pub off : (a b : Bool) → a ≡ false → (a && b) ≡ false
off a b h = ap (λ a. a && b) h

pub never : (a b : Bool) → b ≡ false → (a && b) ≡ false
never a b h = ap (λ b. a && b) h ∙ go a
  where
    go : (a : Bool) → (a && false) ≡ false
    go true = refl
    go false = refl

-- ---- Lists of cases

pub first_append : (xs ys : List Case) → first_of (xs ++ ys) ≡ option_or (first_of xs) (first_of ys)
unfolding first_of
first_append xs ys = ap (option_map (λ (c : Case). c.rule)) (find-append (λ (c : Case). c.holds) xs ys) ∙ go (find (λ (c : Case). c.holds) xs)
  where
    go : (x : Option Case) →
        option_map (λ (c : Case). c.rule) (option_or x (find (λ (c : Case). c.holds) ys))
        ≡ option_or (option_map (λ (c : Case). c.rule) x) (option_map (λ (c : Case). c.rule) (find (λ (c : Case). c.holds) ys))
    go None = refl
    go (Some c) = refl

pub first_nothing : first_of [] ≡ None
unfolding first_of
first_nothing = refl

pub first_next : (c : Case) (cs : List Case) → first_of (c ∷ cs) ≡ (if c.holds then Some c.rule else first_of cs)
unfolding first_of
first_next c cs = go (c.holds)
  where
    go : (b : Bool) →
        option_map (λ (c : Case). c.rule) (cond b (Some c) (find (λ (c : Case). c.holds) cs)) ≡ cond b (Some c.rule) (option_map (λ (c : Case). c.rule) (find (λ (c : Case). c.holds) cs))
    go true = refl
    go false = refl

-- a case that doesn't hold is passed over
pub skip : (c : Case) (cs : List Case) → c.holds ≡ false → first_of (c ∷ cs) ≡ first_of cs
unfolding first_of
skip c cs h = ap (λ b. option_map (λ (c : Case). c.rule) (cond b (Some c) (find (λ (c : Case). c.holds) cs))) h

-- of none that holds
pub none_of : (rule : ℕ → Rule) (test : ℕ → Bool) → ((n : ℕ) → test n ≡ false) → (ns : List ℕ) → first_of (map (λ n. case (rule n) (test n)) ns) ≡ None
unfolding first_of
none_of rule test never [] = refl
none_of rule test never (n ∷ ns) = skip (case (rule n) (test n)) (map (λ n. case (rule n) (test n)) ns) (never n) ∙ none_of rule test never ns

-- ---- Answers joined

-- of four lists, one behind the other
pub first_four : (a b c d : List Case) → first_of (((a ++ b) ++ c) ++ d) ≡ option_or (option_or (option_or (first_of a) (first_of b)) (first_of c)) (first_of d)
first_four a b c d =
    first_append ((a ++ b) ++ c) d
    ∙ ap (λ x. option_or x (first_of d)) (first_append (a ++ b) c ∙ ap (λ x. option_or x (first_of c)) (first_append a b))

-- of six lists, one behind the other
abbrev pub joined : Option Rule → Option Rule → Option Rule → Option Rule → Option Rule → Option Rule → Option Rule
joined a b c d e f = option_or (option_or (option_or (option_or (option_or a b) c) d) e) f

pub first_joined : (a b c d e f : List Case) → first_of (((((a ++ b) ++ c) ++ d) ++ e) ++ f) ≡ joined (first_of a) (first_of b) (first_of c) (first_of d) (first_of e) (first_of f)
first_joined a b c d e f =
    first_append ((((a ++ b) ++ c) ++ d) ++ e) f
    ∙ ap (λ x. option_or x (first_of f)) (first_append (((a ++ b) ++ c) ++ d) e
    ∙ ap (λ x. option_or x (first_of e)) (first_append ((a ++ b) ++ c) d
    ∙ ap (λ x. option_or x (first_of d)) (first_append (a ++ b) c
    ∙ ap (λ x. option_or x (first_of c)) (first_append a b))))

pub or_none : (a : Option Rule) → option_or a None ≡ a
or_none None = refl
or_none (Some r) = refl

-- of two, where the other four say nothing
pub joined_two : (a b : Option Rule) → joined a b None None None None ≡ option_or a b
joined_two None None = refl
joined_two None (Some r) = refl
joined_two (Some r) b = refl

-- each by what it is
pub joined_are : (a b c d e f a' b' c' d' e' f' : Option Rule) → a ≡ a' → b ≡ b' → c ≡ c' → d ≡ d' → e ≡ e' → f ≡ f' → joined a b c d e f ≡ joined a' b' c' d' e' f'
joined_are a b c d e f a' b' c' d' e' f' ha hb hc hd he hf =
    ap (λ x. joined x b c d e f) ha
    ∙ ap (λ x. joined a' x c d e f) hb
    ∙ ap (λ x. joined a' b' x d e f) hc
    ∙ ap (λ x. joined a' b' c' x e f) hd
    ∙ ap (λ x. joined a' b' c' d' x f) he
    ∙ ap (λ x. joined a' b' c' d' e' x) hf
