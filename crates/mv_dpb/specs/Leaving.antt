-- The access units of the pictures that wait, and what leaves by one bump after another (C.5.2.4).
use Rattle.std.specs.Prelude.{◌≡◌, ℕ, zero, suc, ℤ, Bool, false, List, [], ◌∷◌, ◌++◌, map, if◌then◌else◌, ⊤}
use Rattle.std.specs.List.{list_any}
use Rattle.mv_history.specs.Order.{by_both, put}
use Rattle.mv_dpb.specs.declared.shown.Shown.{Shown}
use Rattle.mv_dpb.specs.declared.waits.Waits.{Waits}
use Rattle.mv_dpb.specs.Stored.{Stored}
use Rattle.mv_dpb.specs.Waits.{comes_first, is_of}
use Rattle.mv_dpb.specs.Waiting.{WaitingValue, given, may_leave, without_first}

-- an access unit whose pictures wait: the first in output order, and the others
pub record WaitingUnit (P : Type 0) : Type 0 where
  pub first : Stored Waits P
  pub others : List (Stored Waits P)

-- the pictures of access units, one access unit behind the other
abbrev pub pictures_of : {P : Type 0} → List (WaitingUnit P) → List (Stored Waits P)
pictures_of [] = []
pictures_of (unit ∷ units) = unit.first ∷ (unit.others ++ pictures_of units)

-- pictures are of an access unit and have its count, and none of it has left
abbrev pub AreOf : {P : Type 0} → ℕ → ℤ → List (Stored Waits P) → Type 0
AreOf au count [] = ⊤
AreOf au count (s ∷ pictures) = (s.told.au ≡ au) × (s.told.begun ≡ false) × (s.told.shown.count ≡ count) × AreOf au count pictures

-- no picture is of an access unit
abbrev pub NoneOf : {P : Type 0} → ℕ → List (Stored Waits P) → Type 0
NoneOf au pictures = list_any (is_of au) (map (λ s. s.told) pictures) ≡ false

-- the pictures of each access unit stand together and have one count, and none of it has left
abbrev pub AreWhole : {P : Type 0} → List (WaitingUnit P) → Type 0
AreWhole [] = ⊤
AreWhole (unit ∷ units) = AreOf unit.first.told.au unit.first.told.shown.count (unit.first ∷ unit.others) × NoneOf unit.first.told.au (pictures_of units) × AreWhole units

-- what is given of the first picture, if there is one
abbrev pub first_given : {P : Type 0} → List (Stored Waits P) → List (Shown × P)
first_given [] = []
first_given (s ∷ pictures) = given s ∷ []

-- what so many bumps at most give, and what waits then
abbrev pub bumps : {P : Type 0} → ℕ → WaitingValue P → List (Shown × P) × WaitingValue P
bumps zero w = ([], w)
bumps (suc n) w = if may_leave w then (first_given w.pictures ++ (bumps n (without_first w)).0, (bumps n (without_first w)).1) else ([], w)

-- output order of access units: by count, then by number
abbrev pub unit_first : {P : Type 0} → WaitingUnit P → WaitingUnit P → Bool
unit_first = by_both (λ unit. unit.first.told.shown.count) (λ unit. unit.first.told.au)

-- an access unit with another picture in its place
abbrev pub with_other : {P : Type 0} → Stored Waits P → WaitingUnit P → WaitingUnit P
with_other s unit =
    if comes_first s.told unit.first.told then record { first = s; others = unit.first ∷ unit.others } else record { first = unit.first; others = put (λ a b. comes_first a.told b.told) s unit.others }
