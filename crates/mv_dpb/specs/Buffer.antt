-- What stays in a layer's buffer, and what is added to it.
use Rattle.std.specs.Prelude.{ℕ, ℤ, Bool, false, List, [], ◌∷◌, filter_map, slice_get, option_map, refl}
use Rattle.std.specs.Coded.{Coded, code_by, coded×, coded_ℕ, coded_ℤ, coded_bool}
use Rattle.mv_dpb.specs.declared.held.Held.{Held}
use Rattle.mv_dpb.specs.declared.held.Keep.{Keep}
use Rattle.mv_dpb.specs.Stored.{Stored}

-- what is told of a picture is coded as the tuple of its parts
abbrev pub held_code : Coded Held
held_code =
    code_by (ℤ × (ℕ × Bool)) (coded× coded_ℤ (coded× coded_ℕ coded_bool)) (λ h. (h.count, (h.au, h.long))) (λ p. record { count = p.0; au = p.1.0; long = p.1.1 }) (λ _. refl)

-- what is told of a picture that is marked as used for long-term reference or not (8.3.2)
abbrev pub marked : Bool → Held → Held
marked long held = record { count = held.count; au = held.au; long = long }

-- the pictures at the places that are named, each with the mark that it is given; all others are unused for reference and
-- are removed (8.3.2, C.5.2.2)
abbrev pub kept : {P : Type 0} → List Keep → List (Stored Held P) → List (Stored Held P)
kept keep pictures =
    filter_map (λ k. option_map (λ s. record { told = marked k.long s.told; picture = s.picture }) (slice_get pictures k.place)) keep

-- a picture that was just decoded, which is marked as used for short-term reference (8.1.3)
abbrev pub inserted : {P : Type 0} → ℤ → ℕ → P → Stored Held P
inserted count au picture = record { told = record { count = count; au = au; long = false }; picture = picture }

-- the items at the places that are named
abbrev pub picked : {A : Type 0} → List Keep → List A → List A
picked keep items = filter_map (λ k. slice_get items k.place) keep

-- what is told of pictures, each with the mark that it is given
abbrev pub marks : List Keep → List Held → List Held
marks [] held = []
marks (k ∷ keep) [] = []
marks (k ∷ keep) (h ∷ held) = marked k.long h ∷ marks keep held
