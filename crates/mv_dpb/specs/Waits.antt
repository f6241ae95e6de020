-- Pictures that wait for their output, by what is told of them.
use Rattle.std.specs.Prelude.{ℕ, ℤ, suc, Bool, List, [], ◌∷◌, nat_eq, nat_lt, int_lt, ◌&&◌, ◌||◌, if◌then◌else◌, ◌≡◌, false, ⊤, refl}
use Rattle.std.specs.Ordering.{int_eq}
use Rattle.std.specs.List.{list_any}
use Rattle.std.specs.Coded.{Coded, code_by, coded×, coded_ℕ, coded_ℤ, coded_bool}
use Rattle.mv_dpb.specs.declared.waits.Waits.{Waits}

-- what is told of a picture is coded as the tuple of its parts
abbrev pub waits_code : Coded Waits
waits_code =
    code_by ((ℕ × (ℤ × (ℕ × ℕ))) × (ℕ × Bool)) (coded× (coded× coded_ℕ (coded× coded_ℤ (coded× coded_ℕ coded_ℕ))) (coded× coded_ℕ coded_bool))
    (λ w. ((w.shown.sequence, (w.shown.count, (w.shown.layer, w.shown.view))), (w.au, w.begun)))
    (λ p. record { shown = record { sequence = p.0.0; count = p.0.1.0; layer = p.0.1.1.0; view = p.0.1.1.1 }; au = p.1.0; begun = p.1.1 })
    (λ _. refl)

-- output order in a sequence (C.5.2.4): by PicOrderCntVal, then by access unit, then by layer
abbrev pub comes_first : Waits → Waits → Bool
comes_first a b =
    int_lt a.shown.count b.shown.count
    || (int_eq a.shown.count b.shown.count && (nat_lt a.au b.au || (nat_eq a.au b.au && nat_lt a.shown.layer b.shown.layer)))

-- a picture is of an access unit
abbrev pub is_of : ℕ → Waits → Bool
is_of au w = nat_eq w.au au

-- another picture of its access unit has left
abbrev pub is_begun : Waits → Bool
is_begun w = w.begun

-- a picture is of an access unit that has begun to leave
abbrev pub is_begun_of : ℕ → Waits → Bool
is_begun_of au w = is_of au w && is_begun w

-- how many access units the pictures are of
abbrev pub access_units : List Waits → ℕ
access_units [] = 0
access_units (w ∷ waits) = if list_any (is_of w.au) waits then access_units waits else suc (access_units waits)

-- a picture once an access unit has begun to leave
abbrev pub begun_with : ℕ → Waits → Waits
begun_with au w = record { shown = w.shown; au = w.au; begun = is_of au w || w.begun }

-- no picture stands before one that it is listed behind
abbrev pub AreInOrder : List Waits → Type 0
AreInOrder [] = ⊤
AreInOrder (w ∷ waits) = (list_any (λ other. comes_first other w) waits ≡ false) × AreInOrder waits
