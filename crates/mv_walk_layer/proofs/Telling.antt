-- What is asked of what is kept of a layer is what the definitions of pictures tell.
use Rattle.std.proofs.Common.{◌≡◌, ◌⊎◌, inl, inr, ℕ, ◌<◌, ◌≤◌, ℤ, nat_eq, Bool, true, false, cond, not, ◌&&◌, List, [], ◌∷◌, filter, get_or, Option, Some, None, refl, sym, ap, ap₂, ◌∙◌, subst, arith}
use Rattle.std.specs.Prelude.{bytes_eq, option_and_then, option_map}
use Rattle.std.specs.List.{All, find}
use Rattle.std.proofs.lemmas.Bool.{cases_lt, eq-eqb, ne_eqb}
use Rattle.std.proofs.lemmas.List.{append-nil}
use Rattle.std.proofs.lemmas.List.Elements.{All-cons, All-head, All-nil, All-tail}
use Rattle.mv_syntax.specs.Words.{◌otherwise◌}
use Rattle.mv_history.specs.History.{Throughout, from}
use Rattle.mv_pictures.specs.Facts.{Fact}
use Rattle.mv_pictures.specs.Judged.{Judged, au, begins, in_au, is_base, layer, of_layer}
use Rattle.mv_pictures.specs.Look.{in_sequence, look, sequence}
use Rattle.mv_pictures.specs.Starts.{is_decoded, is_start}
use Rattle.mv_pictures.specs.Counts.{count}
use Rattle.mv_pictures.specs.Held.{held}
use Rattle.mv_pictures.specs.References.{decoded_in, payload_of}
use Rattle.mv_pictures.specs.PictureRules.{decoded_before, missing_ref, other_sps, sps_changed}
use Rattle.mv_commuting.specs.HeldOneMore.{held_of}
use Rattle.mv_commuting.proofs.HeldMore.{start-finds}
use Rattle.mv_commuting.proofs.Alive.{start_decoded}
use Rattle.mv_rps.specs.Asked.{counted, within_range}
use Rattle.mv_rps.specs.Resolving.{is_missing}
use Rattle.mv_rps.specs.Standing.{AreApart, AreCounted, set_for, told}
use Rattle.mv_rps.proofs.StandLaws.{missing_told, missing_where}
use Rattle.mv_walk_layer.specs.LayerValue.{LatestValue, LayerValue, found, is_other_sps, latest_here, latest_in, told_held}
use Rattle.mv_walk_layer.specs.Standing.{IsInOrder, IsSound, Stands, Told, answer, asked_within, latest_decoded, told_of, told_of_kept}
use Rattle.mv_walk_layer.proofs.Counting.{counted-base, counted-decoded, counted-start}
use Rattle.mv_walk_layer.proofs.Holding.{apart-held, counted-held}
use Rattle.mv_walk_layer.proofs.Stepping.{held-past}

-- ---- Another sequence parameter set

other : List ℕ → Option Told → Bool
other payload t = option_map (λ (t : Told). not (bytes_eq payload t.payload)) t otherwise false

other_kept : (payload : List ℕ) (o : Option LatestValue) → (option_map (λ (latest : LatestValue). not (bytes_eq payload latest.payload)) o otherwise false) ≡ other payload (option_map told_of_kept o)
unfolding other
other_kept payload None = refl
other_kept payload (Some latest) = refl

other_judged : (p : Fact) (o : Option Judged) → (option_map (other_sps p) o otherwise false) ≡ other (payload_of p.sets.sps) (option_map told_of o)
unfolding other
other_judged p None = refl
other_judged p (Some d) = refl

before_is : (past : List Judged) (p : Fact) → decoded_before (look past p) ≡ latest_decoded past (layer p)
unfolding decoded_before look
before_is past p = refl

pub sps-told : {P : Type 0} (l : LayerValue P) (past : List Judged) (p : Fact) (making : Option (ℤ × ℕ)) → Stands l past (layer p) making → is_decoded (look past p) p ≡ true → is_start (look past p) p ≡ false →
    is_other_sps (payload_of p.sets.sps) l ≡ sps_changed (look past p) p
unfolding sps_changed
sps-told l past p making stands decoded start =
    other_kept (payload_of p.sets.sps) l.latest
    ∙ ap (other (payload_of p.sets.sps)) (sym stands.latest)
    ∙ sym (other_judged p (latest_decoded past (layer p)))
    ∙ ap (λ o. option_map (other_sps p) o otherwise false) (sym (before_is past p))
    ∙ sym (ap₂ (λ a b. a && not b && (option_map (other_sps p) (decoded_before (look past p)) otherwise false)) decoded start)

-- ---- The decoded picture of an access unit

told_in : ℕ → Told → Option Told
told_in unit t = cond (nat_eq t.au unit) (Some t) None

here_kept : (unit : ℕ) (o : Option LatestValue) → option_map told_of_kept (option_and_then (latest_in unit) o) ≡ option_and_then (told_in unit) (option_map told_of_kept o)
unfolding told_in
here_kept unit None = refl
here_kept unit (Some latest) = go (nat_eq latest.au unit)
  where
    go : (b : Bool) → option_map told_of_kept (cond b (Some latest) None) ≡ cond b (Some (told_of_kept latest)) None
    go true = refl
    go false = refl

abbrev NoneAbove : ℕ → List Judged → Type 0
NoneAbove m ds = All (λ (e : Judged). au e.fact ≤ m) ds

-- of units of access units that don't fall none is of a later one than the latest that is decoded, nor then decoded
none_here : (unit : ℕ) (ds : List Judged) → All (λ (e : Judged). au e.fact < unit) ds → find (λ (d : Judged). d.decoded && in_au unit d) ds ≡ None
none_here unit [] below = refl
none_here unit (d ∷ ds) below =
    let less : au d.fact < unit = All-head (λ (e : Judged). au e.fact < unit) d ds below in
    ap (λ b. cond (d.decoded && b) (Some d) (find (λ (d : Judged). d.decoded && in_au unit d) ds)) (ne_eqb (au d.fact) unit (λ same. omega (arith, less, same)))
    ∙ go d.decoded
    ∙ none_here unit ds (All-tail (λ (e : Judged). au e.fact < unit) d ds below)
  where
    go : (a : Bool) → cond (a && false) (Some d) (find (λ (d : Judged). d.decoded && in_au unit d) ds) ≡ find (λ (d : Judged). d.decoded && in_au unit d) ds
    go true = refl
    go false = refl

All_lower : (m unit : ℕ) (ds : List Judged) → NoneAbove m ds → m < unit → All (λ (e : Judged). au e.fact < unit) ds
All_lower m unit ds below less = λ k d low. let within : au (get_or ds k d).fact ≤ m = below k d low in omega (arith, within, less)

decoded_here : (unit : ℕ) (ds : List Judged) → Throughout (λ before (d : Judged). NoneAbove (au d.fact) before) ds → NoneAbove unit ds →
    option_map told_of (find (λ (d : Judged). d.decoded && in_au unit d) ds) ≡ option_and_then (told_in unit) (option_map told_of (find (λ (d : Judged). d.decoded) ds))
unfolding told_in
decoded_here unit [] rises below = refl
decoded_here unit (d ∷ ds) rises below = go d.decoded (nat_eq (au d.fact) unit) refl (decoded_here unit ds rises.1 (All-tail (λ (e : Judged). au e.fact ≤ unit) d ds below))
  where
    lower : nat_eq (au d.fact) unit ≡ false → au d.fact < unit
    lower is =
        let within : au d.fact ≤ unit = All-head (λ (e : Judged). au e.fact ≤ unit) d ds below in
        strictly (cases_lt (au d.fact) unit) within
      where
        strictly : (au d.fact < unit) ⊎ (unit ≤ au d.fact) → au d.fact ≤ unit → au d.fact < unit
        strictly (inl less) within = less
        strictly (inr above) within =
            absurd (let same : au d.fact ≡ unit = omega (arith, above, within) in let wrong : true ≡ false = sym (eq-eqb (au d.fact) unit same) ∙ is in cc)

    go : (a b : Bool) → nat_eq (au d.fact) unit ≡ b →
        option_map told_of (find (λ (d : Judged). d.decoded && in_au unit d) ds) ≡ option_and_then (λ (t : Told). cond (nat_eq t.au unit) (Some t) None) (option_map told_of (find (λ (d : Judged). d.decoded) ds)) →
        option_map told_of (cond (a && b) (Some d) (find (λ (d : Judged). d.decoded && in_au unit d) ds))
        ≡ option_and_then (λ (t : Told). cond (nat_eq t.au unit) (Some t) None) (option_map told_of (cond a (Some d) (find (λ (d : Judged). d.decoded) ds)))
    go false b is rest = rest
    go true true is rest = sym (ap (λ b. cond b (Some (told_of d)) None) is)
    go true false is rest =
        ap (option_map told_of) (none_here unit ds (All_lower (au d.fact) unit ds rises.0 (lower is)))
        ∙ sym (ap (λ b. cond b (Some (told_of d)) None) is)

-- in the sequence, and of the layer
All_own : (m n : ℕ) (ds : List Judged) → NoneAbove m ds → NoneAbove m (filter (of_layer n) (from begins ds))
unfolding from
All_own m n [] below = below
All_own m n (d ∷ ds) below = go (begins d) (of_layer n d) refl (All_own m n ds (All-tail (λ (e : Judged). au e.fact ≤ m) d ds below))
  where
    this : au d.fact ≤ m
    this = All-head (λ (e : Judged). au e.fact ≤ m) d ds below

    go : (b o : Bool) → of_layer n d ≡ o → NoneAbove m (filter (of_layer n) (from begins ds)) → NoneAbove m (filter (of_layer n) (cond b (d ∷ []) (d ∷ from begins ds)))
    go true true is rest = subst (λ o. NoneAbove m (cond o (d ∷ []) [])) (sym is) (All-cons (λ (e : Judged). au e.fact ≤ m) d [] this (All-nil (λ (e : Judged). au e.fact ≤ m)))
    go true false is rest = subst (λ o. NoneAbove m (cond o (d ∷ []) [])) (sym is) (All-nil (λ (e : Judged). au e.fact ≤ m))
    go false true is rest =
        subst (λ o. NoneAbove m (cond o (d ∷ filter (of_layer n) (from begins ds)) (filter (of_layer n) (from begins ds)))) (sym is)
        (All-cons (λ (e : Judged). au e.fact ≤ m) d (filter (of_layer n) (from begins ds)) this rest)
    go false false is rest = subst (λ o. NoneAbove m (cond o (d ∷ filter (of_layer n) (from begins ds)) (filter (of_layer n) (from begins ds)))) (sym is) rest

abbrev Rises : List Judged → Type 0
Rises = Throughout (λ before (d : Judged). NoneAbove (au d.fact) before)

rises_own : (n : ℕ) (ds : List Judged) → Throughout (λ before (d : Judged). NoneAbove (au d.fact) before) ds → Throughout (λ before (d : Judged). NoneAbove (au d.fact) before) (filter (of_layer n) (from begins ds))
unfolding from
rises_own n [] rises = tt
rises_own n (d ∷ ds) rises = go (begins d) (of_layer n d) refl (rises_own n ds rises.1)
  where
    go : (b o : Bool) → of_layer n d ≡ o → Rises (filter (of_layer n) (from begins ds)) → Rises (filter (of_layer n) (cond b (d ∷ []) (d ∷ from begins ds)))
    go true true is rest = subst (λ o. Rises (cond o (d ∷ []) [])) (sym is) (All-nil (λ (e : Judged). au e.fact ≤ au d.fact), tt)
    go true false is rest = subst (λ o. Rises (cond o (d ∷ []) [])) (sym is) tt
    go false true is rest =
        subst (λ o. Rises (cond o (d ∷ filter (of_layer n) (from begins ds)) (filter (of_layer n) (from begins ds)))) (sym is)
        (All_own (au d.fact) n ds rises.0, rest)
    go false false is rest = subst (λ o. Rises (cond o (d ∷ filter (of_layer n) (from begins ds)) (filter (of_layer n) (from begins ds)))) (sym is) rest

pub here-told : {P : Type 0} (l : LayerValue P) (past : List Judged) (p : Fact) (n : ℕ) (making : Option (ℤ × ℕ)) → Stands l past n making → IsInOrder past p →
    option_map told_of_kept (latest_here (au p) l) ≡ option_map told_of (decoded_in p (in_sequence past n))
unfolding decoded_in sequence
here-told l past p n making stands order =
    here_kept (au p) l.latest
    ∙ ap (option_and_then (told_in (au p))) (sym stands.latest)
    ∙ sym (decoded_here (au p) (filter (of_layer n) (from begins past)) (rises_own n past order.rises) (All_own (au p) n past order.behind))

-- ---- Pictures that are held

pub found-told : {P : Type 0} (l : LayerValue P) (past : List Judged) (p : Fact) → Stands l past (layer p) None → found (is_start (look past p) p) l ≡ told (held (look past p) p)
found-told l past p stands = go (is_start (look past p) p) refl
  where
    go : (s : Bool) → is_start (look past p) p ≡ s → cond s [] (told_held l) ≡ told (held (look past p) p)
    go true start = sym (ap told (start-finds (look past p) p start))
    go false start = sym (append-nil (told_held l)) ∙ sym stands.held ∙ sym (ap told (held-past past p start))

sound_found : (past : List Judged) (p : Fact) → IsSound (held_of past (layer p)) → IsSound (held (look past p) p)
sound_found past p sound = go (is_start (look past p) p) refl
  where
    none : IsSound []
    none = record { counted = All-nil _; falls = tt; few = omega arith }

    go : (s : Bool) → is_start (look past p) p ≡ s → IsSound (held (look past p) p)
    go true start = subst IsSound (sym (start-finds (look past p) p start)) none
    go false start = subst IsSound (sym (held-past past p start)) sound

pub found-counted : (past : List Judged) (p : Fact) → IsSound (held_of past (layer p)) → AreCounted (held (look past p) p)
found-counted past p sound = counted-held (held (look past p) p) (sound_found past p sound)

pub found-apart : (past : List Judged) (p : Fact) → IsSound (held_of past (layer p)) → AreApart (told (held (look past p) p))
found-apart past p sound = let found_sound = sound_found past p sound in apart-held (held (look past p) p) found_sound.falls

pub missing-told : {P : Type 0} (l : LayerValue P) (past : List Judged) (p : Fact) → Stands l past (layer p) None → is_decoded (look past p) p ≡ true →
    is_missing (set_for (look past p) p) (found (is_start (look past p) p) l) ≡ missing_ref (look past p) p
missing-told l past p stands decoded =
    ap (is_missing (set_for (look past p) p)) (found-told l past p stands)
    ∙ missing_told (look past p) p (found-counted past p stands.sound) (found-apart past p stands.sound)
    ∙ missing_where (look past p) p decoded

-- ---- Counts

pub counts-decoded : {P : Type 0} (l : LayerValue P) (past : List Judged) (p : Fact) (making : Option (ℤ × ℕ)) → Stands l past (layer p) making → is_decoded (look past p) p ≡ true →
    counted l.counts (asked_within (look past p) p) ≡ answer (look past p) p
counts-decoded l past p making stands decoded =
    ap (λ a. counted a (asked_within (look past p) p)) (sym (stands.counts p refl)) ∙ counted-decoded (look past p) p decoded

pub counts-start : (a : Option ℤ) (past : List Judged) (p : Fact) → is_start (look past p) p ≡ true → counted a (asked_within (look past p) p) ≡ answer (look past p) p
counts-start a past p start = counted-start a (look past p) p start (start_decoded (look past p) p start)

pub counts-base : {P : Type 0} (l : LayerValue P) (past : List Judged) (p : Fact) (making : Option (ℤ × ℕ)) → Stands l past (layer p) making → is_base p ≡ true →
    counted l.counts (asked_within (look past p) p) ≡ within_range (count (look past p) p)
counts-base l past p making stands base =
    ap (λ a. counted a (asked_within (look past p) p)) (sym (stands.counts p refl)) ∙ counted-base (look past p) p base
