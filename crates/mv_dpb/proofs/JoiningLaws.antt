-- A picture is put among the pictures of its own access unit.
use Rattle.std.proofs.Common.{◌≡◌, ℕ, Bool, true, false, cond, ◌||◌, ◌&&◌, List, [], ◌∷◌, ◌++◌, map, refl, ap, sym, ◌∙◌}
use Rattle.std.specs.Prelude.{ℤ, int_lt, nat_lt}
use Rattle.std.specs.Ordering.{int_eq}
use Rattle.std.specs.List.{list_any}
use Rattle.std.proofs.lemmas.Bool.{or_from, or_parts}
use Rattle.mv_history.specs.Order.{put}
use Rattle.mv_dpb.specs.declared.waits.Waits.{Waits}
use Rattle.mv_dpb.specs.Stored.{Stored}
use Rattle.mv_dpb.specs.Waits.{comes_first, is_begun, is_begun_of, is_of}
use Rattle.mv_dpb.specs.Leaving.{AreOf, AreWhole, NoneOf, WaitingUnit, pictures_of, unit_first, with_other}
use Rattle.mv_dpb.proofs.LeavingLaws.{none-begun, or_false}
use Rattle.mv_dpb.proofs.WaitsLaws.{same}

and_false : (a : Bool) → (a && false) ≡ false
and_false true = refl
and_false false = refl

module _ {P : Type 0} where
  abbrev before : Stored Waits P → Stored Waits P → Bool
  before a b = comes_first a.told b.told

  -- no access unit has begun to leave where all are whole
  pub whole-unbegun : (au : ℕ) (units : List (WaitingUnit P)) → AreWhole units → list_any (is_begun_of au) (map (λ s. s.told) (pictures_of units)) ≡ false
  whole-unbegun au units whole = each (map (λ s. s.told) (pictures_of units)) (none-begun units whole)
    where
      each : (waits : List Waits) → list_any is_begun waits ≡ false → list_any (is_begun_of au) waits ≡ false
      each [] none = refl
      each (w ∷ waits) none =
          let parts = or_parts (is_begun w) (list_any is_begun waits) none in
          or_from (is_begun_of au w) (list_any (is_begun_of au) waits) (ap (λ b. is_of au w && b) parts.0 ∙ and_false (is_of au w)) (each waits parts.1)

  module _ (s : Stored Waits P) where
    -- where the picture stands before another access unit
    abbrev at : ℤ → ℕ → Bool
    at count au = int_lt s.told.shown.count count || (int_eq s.told.shown.count count && nat_lt s.told.au au)

    -- it stands alike before each picture of that access unit
    alike : (t : Stored Waits P) (count : ℤ) (au : ℕ) → t.told.shown.count ≡ count → t.told.au ≡ au → is_of s.told.au t.told ≡ false → before s t ≡ at count au
    alike t count au e f other =
        ap (λ b. int_lt s.told.shown.count t.told.shown.count || (int_eq s.told.shown.count t.told.shown.count && (nat_lt s.told.au t.told.au || (b && nat_lt s.told.shown.layer t.told.shown.layer)))) (same s.told.au t.told.au ∙ other)
        ∙ ap (λ b. int_lt s.told.shown.count t.told.shown.count || (int_eq s.told.shown.count t.told.shown.count && b)) (or_false (nat_lt s.told.au t.told.au))
        ∙ ap (λ z. int_lt s.told.shown.count z || (int_eq s.told.shown.count z && nat_lt s.told.au t.told.au)) e
        ∙ ap (λ n. int_lt s.told.shown.count count || (int_eq s.told.shown.count count && nat_lt s.told.au n)) f

    -- a picture that stands before none of the first ones is put behind them
    put-over : (xs rest : List (Stored Waits P)) → list_any (before s) xs ≡ false → put before s (xs ++ rest) ≡ xs ++ put before s rest
    unfolding put
    put-over [] rest none = refl
    put-over (x ∷ xs) rest none =
        let parts = or_parts (before s x) (list_any (before s) xs) none in
        ap (λ b. cond b (s ∷ x ∷ (xs ++ rest)) (x ∷ put before s (xs ++ rest))) parts.0 ∙ ap (λ ys. x ∷ ys) (put-over xs rest parts.1)

    -- one that stands before all the last ones is put among the first
    put-within : (xs rest : List (Stored Waits P)) → put before s rest ≡ s ∷ rest → put before s (xs ++ rest) ≡ put before s xs ++ rest
    unfolding put
    put-within [] rest e = e
    put-within (x ∷ xs) rest e = go (before s x) (put-within xs rest e)
      where
        go : (b : Bool) → put before s (xs ++ rest) ≡ put before s xs ++ rest → cond b (s ∷ x ∷ (xs ++ rest)) (x ∷ put before s (xs ++ rest)) ≡ cond b (s ∷ x ∷ xs) (x ∷ put before s xs) ++ rest
        go true f = refl
        go false f = ap (λ ys. x ∷ ys) f

    put-head : (x : Stored Waits P) (xs : List (Stored Waits P)) (b : Bool) → before s x ≡ b → put before s (x ∷ xs) ≡ cond b (s ∷ x ∷ xs) (x ∷ put before s xs)
    unfolding put
    put-head x xs b e = ap (λ c. cond c (s ∷ x ∷ xs) (x ∷ put before s xs)) e

    put-none : put before s [] ≡ s ∷ []
    unfolding put
    put-none = refl

    abbrev joined : WaitingUnit P → Bool → WaitingUnit P
    joined unit b = cond b (record { first = s; others = unit.first ∷ unit.others }) (record { first = unit.first; others = put before s unit.others })

    with-other-is : (unit : WaitingUnit P) (rest : List (Stored Waits P)) → put before s rest ≡ s ∷ rest →
        put before s (unit.first ∷ (unit.others ++ rest)) ≡ (with_other s unit).first ∷ ((with_other s unit).others ++ rest)
    with-other-is unit rest e =
        put-within (unit.first ∷ unit.others) rest e
        ∙ ap (λ xs. xs ++ rest) (put-head unit.first unit.others (before s unit.first) refl)
        ∙ go (before s unit.first)
      where
        go : (b : Bool) → cond b (s ∷ unit.first ∷ unit.others) (unit.first ∷ put before s unit.others) ++ rest ≡ (joined unit b).first ∷ ((joined unit b).others ++ rest)
        go true = refl
        go false = refl

    -- none of another access unit's pictures is stood before where that access unit isn't
    unit-over : (count : ℤ) (au : ℕ) (pictures rest : List (Stored Waits P)) → at count au ≡ false → AreOf au count pictures → NoneOf s.told.au (pictures ++ rest) →
        (list_any (before s) pictures ≡ false) × NoneOf s.told.au rest
    unit-over count au [] rest behind are none = (refl, none)
    unit-over count au (t ∷ pictures) rest behind are none =
        let parts = or_parts (is_of s.told.au t.told) (list_any (is_of s.told.au) (map (λ x. x.told) (pictures ++ rest))) none in
        let others = unit-over count au pictures rest behind are.3 parts.1 in
        (or_from (before s t) (list_any (before s) pictures) (alike t count au are.2 are.0 parts.0 ∙ behind) others.0, others.1)

    module _ (unit : WaitingUnit P) (counted : unit.first.told.shown.count ≡ s.told.shown.count) (of : unit.first.told.au ≡ s.told.au) where
      order-is : (v : WaitingUnit P) → unit_first unit v ≡ at v.first.told.shown.count v.first.told.au
      order-is v =
          ap (λ z. int_lt z v.first.told.shown.count || (int_eq z v.first.told.shown.count && nat_lt unit.first.told.au v.first.told.au)) counted
          ∙ ap (λ n. int_lt s.told.shown.count v.first.told.shown.count || (int_eq s.told.shown.count v.first.told.shown.count && nat_lt n v.first.told.au)) of

      order-with-other : (v : WaitingUnit P) → unit_first (with_other s unit) v ≡ at v.first.told.shown.count v.first.told.au
      order-with-other v = go (before s unit.first)
        where
          go : (b : Bool) → unit_first (cond b (record { first = s; others = unit.first ∷ unit.others }) (record { first = unit.first; others = put before s unit.others })) v ≡ at v.first.told.shown.count v.first.told.au
          go true = refl
          go false = order-is v

      -- the picture joins those of its access unit
      pub put-joins : (units : List (WaitingUnit P)) → AreWhole units → NoneOf s.told.au (pictures_of units) →
          put before s (pictures_of (put unit_first unit units)) ≡ pictures_of (put unit_first (with_other s unit) units)
      unfolding put
      put-joins [] whole none = with-other-is unit [] put-none
      put-joins (v ∷ units) whole none =
          ap (λ b. put before s (pictures_of (cond b (unit ∷ v ∷ units) (v ∷ put unit_first unit units)))) (order-is v)
          ∙ go (at v.first.told.shown.count v.first.told.au) refl (put-joins units whole.2)
          ∙ sym (ap (λ b. pictures_of (cond b (with_other s unit ∷ v ∷ units) (v ∷ put unit_first (with_other s unit) units))) (order-with-other v))
        where
          go : (b : Bool) → at v.first.told.shown.count v.first.told.au ≡ b →
              (NoneOf s.told.au (pictures_of units) → put before s (pictures_of (put unit_first unit units)) ≡ pictures_of (put unit_first (with_other s unit) units)) →
              put before s (pictures_of (cond b (unit ∷ v ∷ units) (v ∷ put unit_first unit units))) ≡ pictures_of (cond b (with_other s unit ∷ v ∷ units) (v ∷ put unit_first (with_other s unit) units))
          go true e rest =
              let parts = or_parts (is_of s.told.au v.first.told) (list_any (is_of s.told.au) (map (λ x. x.told) (v.others ++ pictures_of units))) none in
              with-other-is unit (pictures_of (v ∷ units)) (put-head v.first (v.others ++ pictures_of units) true (alike v.first v.first.told.shown.count v.first.told.au refl refl parts.0 ∙ e))
          go false e rest =
              let over = unit-over v.first.told.shown.count v.first.told.au (v.first ∷ v.others) (pictures_of units) e whole.0 none in
              put-over (v.first ∷ v.others) (pictures_of (put unit_first unit units)) over.0
              ∙ ap (λ xs. v.first ∷ (v.others ++ xs)) (rest over.1)

    -- the first picture of an access unit
    pub put-begins : (units : List (WaitingUnit P)) → AreWhole units → NoneOf s.told.au (pictures_of units) →
        put before s (pictures_of units) ≡ pictures_of (put unit_first (record { first = s; others = [] }) units)
    unfolding put
    put-begins [] whole none = refl
    put-begins (v ∷ units) whole none = go (at v.first.told.shown.count v.first.told.au) refl (put-begins units whole.2)
      where
        go : (b : Bool) → at v.first.told.shown.count v.first.told.au ≡ b →
            (NoneOf s.told.au (pictures_of units) → put before s (pictures_of units) ≡ pictures_of (put unit_first (record { first = s; others = [] }) units)) →
            put before s (pictures_of (v ∷ units)) ≡ pictures_of (cond b (record { first = s; others = [] } ∷ v ∷ units) (v ∷ put unit_first (record { first = s; others = [] }) units))
        go true e rest =
            let parts = or_parts (is_of s.told.au v.first.told) (list_any (is_of s.told.au) (map (λ x. x.told) (v.others ++ pictures_of units))) none in
            put-head v.first (v.others ++ pictures_of units) true (alike v.first v.first.told.shown.count v.first.told.au refl refl parts.0 ∙ e)
        go false e rest =
            let over = unit-over v.first.told.shown.count v.first.told.au (v.first ∷ v.others) (pictures_of units) e whole.0 none in
            put-over (v.first ∷ v.others) (pictures_of units) over.0 ∙ ap (λ xs. v.first ∷ (v.others ++ xs)) (rest over.1)
