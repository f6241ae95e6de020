-- A list of one or two texts, by its elements.
use Rattle.std.proofs.Common.{◌≡◌, ℕ, ◌<◌, ◌≤◌, Bool, List, [], ◌∷◌, length, get_or, map, ap, ◌∙◌, sym, arith}
use Rattle.std.specs.Prelude.{◌↔◌, IsTrue}
use Rattle.std.specs.Str.{bytes_eq}
use Rattle.std.proofs.lemmas.Slice.Eq.{bytes_eq-Decides}

pub two : {A : Type 0} (f : A → List ℕ) (xs : List A) (x y : A) → 2 ≤ length xs → length xs < 3 → x ≡ get_or xs 0 x → y ≡ get_or xs 1 y → map f xs ≡ f x ∷ f y ∷ []
two f [] x y low high ex ey = absurd (omega arith)
two f (a ∷ []) x y low high ex ey = absurd (omega arith)
two f (a ∷ b ∷ []) x y low high ex ey = ap (λ v. f v ∷ f b ∷ []) (sym ex) ∙ ap (λ v. f x ∷ f v ∷ []) (sym ey)
two f (a ∷ b ∷ c ∷ xs) x y low high ex ey = absurd (omega arith)

-- the same by other names of the two
pub pair : (ws : List (List ℕ)) (x y xn yn : List ℕ) → ws ≡ x ∷ y ∷ [] → xn ≡ x → yn ≡ y → xn ∷ yn ∷ [] ≡ ws
pair ws x y xn yn two ex ey = ap (λ v. v ∷ yn ∷ []) ex ∙ ap (λ v. x ∷ v ∷ []) ey ∙ sym two

-- a list of one
pub one : {A : Type 0} (f : A → List ℕ) (xs : List A) (x : A) → 1 ≤ length xs → length xs < 2 → x ≡ get_or xs 0 x → map f xs ≡ f x ∷ []
one f [] x low high e = absurd (omega arith)
one f (a ∷ []) x low high e = ap (λ v. f v ∷ []) (sym e)
one f (a ∷ b ∷ xs) x low high e = absurd (omega arith)

-- the test of a text decides whether it is the only one
pub alone : (ws : List (List ℕ)) (x xn p : List ℕ) (r : Bool) → ws ≡ x ∷ [] → xn ≡ x → r ≡ bytes_eq xn p → IsTrue r ↔ (ws ≡ p ∷ [])
alone ws x xn p r one ex test = (
  λ h. one ∙ ap (λ v. v ∷ []) (sym ex ∙ (bytes_eq-Decides xn p).0 (sym test ∙ h)),
  λ same. let parts : x ∷ [] ≡ p ∷ [] = sym one ∙ same in let last : x ≡ p = cc in test ∙ (bytes_eq-Decides xn p).1 (ex ∙ last),
)
