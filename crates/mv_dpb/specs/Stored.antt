-- Pictures that are kept: each as what is told of it, and the picture.
use Rattle.std.specs.Prelude.{List, [], ◌∷◌, refl}
use Rattle.std.specs.Coded.{Coded, code_by, coded×}

-- a picture that is kept, and what is told of it
pub record Stored (K P : Type 0) : Type 0 where
  pub told : K
  pub picture : P

-- it is coded as the pair of its parts
abbrev pub stored_code : {K P : Type 0} → Coded K → Coded P → Coded (Stored K P)
stored_code {K} {P} told picture = code_by (K × P) (coded× told picture) (λ s. (s.told, s.picture)) (λ p. record { told = p.0; picture = p.1 }) (λ _. refl)

-- what is told of pictures, beside the pictures
abbrev pub stored : {K P : Type 0} → List K → List P → List (Stored K P)
stored [] pictures = []
stored (k ∷ told) [] = []
stored (k ∷ told) (p ∷ pictures) = record { told = k; picture = p } ∷ stored told pictures
