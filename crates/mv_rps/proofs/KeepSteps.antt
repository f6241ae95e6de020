-- What is kept of a buffer, and where it stands.
use Rattle.std.proofs.Common.{◌≡◌, ℕ, ◌+◌, ◌-◌, ◌<◌, ◌≤◌, nat_lt, Bool, true, false, cond, List, [], ◌∷◌, ◌++◌, length, take, get_or, Option, Some, None, refl, sym, ap, ◌∙◌, subst, arith}
use Rattle.std.specs.Prelude.{◌||◌}
use Rattle.std.specs.List.{cons_option, enumerate_from, filter, filter_map}
use Rattle.std.proofs.lemmas.Bool.{ltb-true}
use Rattle.std.proofs.lemmas.List.{length-take-le, take_more}
use Rattle.std.proofs.lemmas.List.Elements.{filter_map-append}
use Rattle.mv_layers.specs.OutputLayers.{is_among}
use Rattle.mv_vpssets.proofs.SetSteps.{numbered_more}
use Rattle.mv_dpb.specs.declared.held.Held.{Held}
use Rattle.mv_dpb.specs.declared.held.Keep.{Keep}
use Rattle.mv_rps.specs.Resolving.{index_of, kept_at}

pub kept_more : (f : ℕ × Held → Option Keep) (held : List Held) (i : ℕ) (d : Held) → i < length held
    → filter_map f (enumerate_from 0 (take (i + 1) held)) ≡ filter_map f (enumerate_from 0 (take i held)) ++ cons_option (f (i, get_or held i d)) []
kept_more f held i d less =
    ap (λ xs. filter_map f (enumerate_from 0 xs)) (take_more held i d less)
    ∙ ap (filter_map f) (numbered_more 0 (take i held) (get_or held i d) i (omega (arith, length-take-le i held (omega arith))))
    ∙ filter_map-append f (enumerate_from 0 (take i held)) ((i, get_or held i d) ∷ [])

-- before a place stand at most as many as there are places before it
pub few_before : (matched longs : List ℕ) (n : ℕ) (held : List Held) (place : ℕ) → length (filter (λ (k : Keep). nat_lt k.place place) (filter_map (kept_at matched longs) (enumerate_from n held))) ≤ place - n
few_before matched longs n [] place = omega arith
few_before matched longs n (h ∷ held) place = go (is_among matched n) (nat_lt n place) refl (few_before matched longs (n + 1) held place)
  where
    rest : List Keep
    rest = filter_map (kept_at matched longs) (enumerate_from (n + 1) held)

    go : (m t : Bool) → nat_lt n place ≡ t → length (filter (λ (k : Keep). nat_lt k.place place) rest) ≤ place - (n + 1)
        → length (filter (λ (k : Keep). nat_lt k.place place) (cons_option (cond m (Some (record { place = n; long = h.long || is_among longs n })) None) rest)) ≤ place - n
    go false t e few = omega (arith, few)
    go true true e few =
        let less : n < place = ltb-true n place e in
        subst (λ b. length (cond b (record { place = n; long = h.long || is_among longs n } ∷ filter (λ (k : Keep). nat_lt k.place place) rest) (filter (λ (k : Keep). nat_lt k.place place) rest)) ≤ place - n) (sym e) (omega (arith, few, less))
    go true false e few =
        subst (λ b. length (cond b (record { place = n; long = h.long || is_among longs n } ∷ filter (λ (k : Keep). nat_lt k.place place) rest) (filter (λ (k : Keep). nat_lt k.place place) rest)) ≤ place - n) (sym e) (omega (arith, few))

pub few_kept : (matched longs : List ℕ) (held : List Held) (keep : List Keep) → keep ≡ filter_map (kept_at matched longs) (enumerate_from 0 held) → (place : ℕ) → index_of keep place ≤ place
few_kept matched longs held keep are place = subst (λ keep. index_of keep place ≤ place) (sym are) (omega (arith, few_before matched longs 0 held place))
