-- What units more change of a judge's verdict.
use Rattle.std.proofs.Common.{◌≡◌, List, [], ◌∷◌, ◌++◌, length, Option, None, Some, refl, ap, sym, ◌∙◌, append_assoc, append-nil}
use Rattle.std.specs.Option.{option_map, option_or}
use Rattle.mv_units.specs.Shown.{StartsWith}
use Rattle.mv_units.specs.Units.{NalUnit}
use Rattle.mv_judging.specs.declared.stop.Objection.{Objection}
use Rattle.mv_judging.specs.declared.stop.Stop.{Stop}
use Rattle.mv_judging.specs.Judge.{Judge, judged, judged_behind, stop_at}
use Rattle.mv_units.proofs.Starts.{starts}

or_assoc : (x y z : Option Stop) → option_or (option_or x y) z ≡ option_or x (option_or y z)
or_assoc None y z = refl
or_assoc (Some r) y z = refl

pub or_none : (x : Option Stop) → option_or x None ≡ x
or_none None = refl
or_none (Some r) = refl

judged_behind-append : (j : Judge) (before us vs : List NalUnit) → judged_behind j before (us ++ vs) ≡ option_or (judged_behind j before us) (judged_behind j (before ++ us) vs)
unfolding judged_behind
judged_behind-append j before [] vs = ap (λ b. judged_behind j b vs) (sym (append-nil before))
judged_behind-append j before (u ∷ us) vs =
    ap (option_or (option_map (stop_at (length before) u.place) (j.late before u)))
    (judged_behind-append j (before ++ u ∷ []) us vs ∙ ap (λ b. option_or (judged_behind j (before ++ u ∷ []) us) (judged_behind j b vs)) (append_assoc before (u ∷ []) us))
    ∙ sym (or_assoc _ (judged_behind j (before ++ u ∷ []) us) (judged_behind j (before ++ u ∷ us) vs))

-- a unit more is objected to only where no unit before it was
pub judged-push : (j : Judge) (us : List NalUnit) (u : NalUnit) → judged j (us ++ u ∷ []) ≡ option_or (judged j us) (option_map (stop_at (length us) u.place) (j.late us u))
unfolding judged_behind
judged-push j us u = judged_behind-append j [] us (u ∷ []) ∙ ap (option_or (judged j us)) (or_none _)

-- an objection stays, whatever follows
pub judged-stays : (j : Judge) (us vs : List NalUnit) (e : Stop) → judged j us ≡ Some e → judged j (us ++ vs) ≡ Some e
judged-stays j us vs e h = judged_behind-append j [] us vs ∙ ap (λ v. option_or v (judged_behind j us vs)) h

pub judged-starts : (j : Judge) (us vs : List NalUnit) (e : Stop) → StartsWith us vs → judged j vs ≡ Some e → judged j us ≡ Some e
judged-starts j us vs e h is = let found = starts us vs h in ap (judged j) found.1 ∙ judged-stays j vs found.0 e is

pub judged-none : (j : Judge) (us vs : List NalUnit) → StartsWith us vs → judged j us ≡ None → judged j vs ≡ None
judged-none j us vs h none = go (judged j vs) refl
  where
    go : (o : Option Stop) → judged j vs ≡ o → o ≡ None
    go None is = refl
    go (Some e) is = absurd (let no : None ≡ Some e = sym none ∙ judged-starts j us vs e h is in cc)

-- no units are objected to
pub judged-nothing : (j : Judge) → judged j [] ≡ None
unfolding judged_behind
judged-nothing j = refl

-- what a judge stops for it said of a unit
pub record Said (j : Judge) (e : Stop) : Type 0 where
  pub before : List NalUnit
  pub unit : NalUnit
  pub said : j.late before unit ≡ Some e.why

said_behind : (j : Judge) (before us : List NalUnit) (e : Stop) → judged_behind j before us ≡ Some e → Said j e
unfolding judged_behind
said_behind j before [] e h = absurd (cc)
said_behind j before (u ∷ us) e h = go (j.late before u) refl h (said_behind j (before ++ u ∷ []) us e)
  where
    go : (o : Option Objection) → j.late before u ≡ o → option_or (option_map (stop_at (length before) u.place) o) (judged_behind j (before ++ u ∷ []) us) ≡ Some e → (judged_behind j (before ++ u ∷ []) us ≡ Some e → Said j e) → Said j e
    go None is eq rest = rest eq
    go (Some w) is eq rest =
        let same : stop_at (length before) u.place w ≡ e = cc in
        record { before = before; unit = u; said = is ∙ ap (λ (e : Stop). Some e.why) same }

pub judged-said : (j : Judge) (us : List NalUnit) (e : Stop) → judged j us ≡ Some e → Said j e
judged-said j us e h = said_behind j [] us e h
