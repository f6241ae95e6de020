-- The pictures that wait for their output (C.5.2.4, the "bumping" process), in output order.
use Rattle.std.specs.Prelude.{⊤, ◌≡◌, false, All, ℕ, Bool, List, [], ◌∷◌, map, nat_lt, ◌||◌, refl}
use Rattle.std.specs.List.{list_any}
use Rattle.std.specs.Coded.{Coded, code_by, coded×, coded_ℕ, coded_list}
use Rattle.mv_history.specs.Order.{put}
use Rattle.mv_dpb.specs.declared.shown.Shown.{Shown}
use Rattle.mv_dpb.specs.declared.waits.Waits.{Waits}
use Rattle.mv_dpb.specs.Stored.{Stored, stored_code}
use Rattle.mv_dpb.specs.Waits.{access_units, begun_with, comes_first, is_begun, is_begun_of, waits_code}

-- how many access units may wait, for how many pictures there is room, and the pictures that wait, in output order
pub record WaitingValue (P : Type 0) : Type 0 where
  pub reorder : ℕ
  pub room : ℕ
  pub pictures : List (Stored Waits P)

-- it is coded as the tuple of its parts
abbrev pub waiting_code : {P : Type 0} → Coded P → Coded (WaitingValue P)
waiting_code {P} code =
    code_by (ℕ × (ℕ × List (Stored Waits P))) (coded× coded_ℕ (coded× coded_ℕ (coded_list (stored_code waits_code code))))
    (λ w. (w.reorder, (w.room, w.pictures))) (λ p. record { reorder = p.0; room = p.1.0; pictures = p.1.1 }) (λ _. refl)

-- what is told of the pictures
abbrev pub told : {P : Type 0} → WaitingValue P → List Waits
told w = map (λ s. s.told) w.pictures

-- the pictures with another in its place in output order; where its access unit has begun to leave, this is noted at it
abbrev pub with_picture : {P : Type 0} → Shown → ℕ → P → WaitingValue P → WaitingValue P
with_picture shown au picture w =
    record {
      reorder = w.reorder;
      room = w.room;
      pictures = put (λ a b. comes_first a.told b.told) (record { told = record { shown = shown; au = au; begun = list_any (is_begun_of au) (told w) }; picture = picture }) w.pictures;
    }

-- the pictures without the first, whose access unit has begun to leave
abbrev pub behind_first : {P : Type 0} → List (Stored Waits P) → List (Stored Waits P)
behind_first [] = []
behind_first (s ∷ pictures) = map (λ t. record { told = begun_with s.told.au t.told; picture = t.picture }) pictures

abbrev pub without_first : {P : Type 0} → WaitingValue P → WaitingValue P
without_first w = record { reorder = w.reorder; room = w.room; pictures = behind_first w.pictures }

-- a picture leaves: more access units wait than may, or one has begun to leave
abbrev pub may_leave : {P : Type 0} → WaitingValue P → Bool
may_leave w = nat_lt w.reorder (access_units (told w)) || list_any is_begun (told w)

-- what is given of a picture that leaves
abbrev pub given : {P : Type 0} → Stored Waits P → Shown × P
given s = (s.told.shown, s.picture)

-- no picture stands before the first
abbrev pub FirstIsLeast : {P : Type 0} → List (Stored Waits P) → Type 0
FirstIsLeast [] = ⊤
FirstIsLeast (s ∷ pictures) = All (λ t. comes_first t.told s.told ≡ false) (s ∷ pictures)
