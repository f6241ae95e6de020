-- What is packed is unpacked again, and what is unpacked packed, in the words of what the two calls accept and write.
use Rattle.std.proofs.Common.{◌≡◌, ℕ, Bool, true, List, [], ◌∷◌, ◌++◌, take, Option, None, Some, All, refl, ap, sym, ◌∙◌, false, if◌then◌else◌}
use Rattle.std.specs.Option.{option_map, option_or}
use Rattle.mv_rules.specs.declared.refusal.Refusal.{Refusal}
use Rattle.mv_units.specs.Framing.{frame}
use Rattle.mv_units.specs.Units.{NalUnit, units}
use Rattle.mv_units.proofs.Framed.{bytes_of}
use Rattle.mv_judging.specs.Event.{end_stop, event, refused_at, seen}
use Rattle.mv_judging.specs.Format.{Format, byte_stream}
use Rattle.mv_judging.specs.Judge.{judged_behind}
use Rattle.mv_judging.proofs.Seen.{seen-quiet, seen-refused}
use Rattle.mv_prefixed.specs.Form.{length_form}
use Rattle.mv_prefixed.specs.LenForm.{IsPlain, lenform}
use Rattle.mv_prefixed.specs.Reading.{len_units}
use Rattle.mv_prefixed.proofs.Packed.{accepted-form, accepted-plain, form-accepted, form-units, framed-accepted, read-plain}
use Rattle.mv_prefixed.proofs.Spelling.{units-back}
use Rattle.mv_lenform.specs.Carrying.{nobody, text}
use Rattle.mv_lenform.specs.declared.carrier.Target.TheVariants.{Prefixed, Framed}

-- where nobody objects, what is seen of a string is what its form shows
accepts-all : (before us : List NalUnit) → judged_behind nobody before us ≡ None
unfolding judged_behind
accepts-all before [] = refl
accepts-all before (u ∷ us) = accepts-all (before ++ u ∷ []) us

pub seen-shown : (f : Format) (ended : Bool) (s : List ℕ) → seen f nobody ended s ≡ option_map refused_at (f.shown ended s)
seen-shown f ended s = go (f.shown ended s) refl
  where
    last : (b : Bool) → (if b then end_stop f nobody s else None) ≡ None
    last true = refl
    last false = refl

    go : (o : Option Refusal) → f.shown ended s ≡ o → seen f nobody ended s ≡ option_map refused_at (f.shown ended s)
    go (Some r) is =
        seen-refused f nobody ended s r is
        ∙ ap (λ v. option_or v (Some (refused_at r))) (accepts-all [] (take r.unit (f.whole ended s)))
        ∙ sym (ap (option_map refused_at) is)
    go None is =
        seen-quiet f nobody ended s is
        ∙ ap (λ v. option_or v (if ended then end_stop f nobody s else None)) (accepts-all [] (f.whole ended s))
        ∙ last ended ∙ sym (ap (option_map refused_at) is)

shown-event : (f : Format) (s : List ℕ) → f.shown true s ≡ None → event f nobody s ≡ None
shown-event f s quiet = seen-shown f true s ∙ ap (option_map refused_at) quiet

event-shown : (f : Format) (s : List ℕ) → event f nobody s ≡ None → f.shown true s ≡ None
event-shown f s none = go (f.shown true s) refl
  where
    go : (o : Option Refusal) → f.shown true s ≡ o → o ≡ None
    go None is = refl
    go (Some r) is = absurd (let h : None ≡ Some (refused_at r) = sym none ∙ seen-shown f true s ∙ ap (option_map refused_at) is in cc)

-- pack, and then unpack
pub packed-accepted : (s : List ℕ) → event byte_stream nobody s ≡ None → event length_form nobody (text Prefixed (units s)) ≡ None
packed-accepted s none =
    shown-event length_form (text Prefixed (units s)) (form-accepted (bytes_of (units s)) (accepted-plain s (event-shown byte_stream s none)))

pub packed-unpacked : (s : List ℕ) → event byte_stream nobody s ≡ None → text Framed (len_units (text Prefixed (units s))) ≡ frame (bytes_of (units s))
packed-unpacked s none = ap frame (form-units (bytes_of (units s)) (accepted-plain s (event-shown byte_stream s none)))

-- unpack, and then pack
pub unpacked-accepted : (s : List ℕ) → event length_form nobody s ≡ None → event byte_stream nobody (text Framed (len_units s)) ≡ None
unpacked-accepted s none = shown-event byte_stream (text Framed (len_units s)) (framed-accepted (bytes_of (len_units s)) (read-plain s))

pub unpacked-packed : (s : List ℕ) → event length_form nobody s ≡ None → text Prefixed (units (text Framed (len_units s))) ≡ s
unpacked-packed s none = ap lenform (units-back (bytes_of (len_units s)) (read-plain s)) ∙ sym (accepted-form s (event-shown length_form s none))

-- what unpack accepts
pub form-event : (us : List (List ℕ)) → All IsPlain us → event length_form nobody (lenform us) ≡ None
form-event us plain = shown-event length_form (lenform us) (form-accepted us plain)

pub event-form : (s : List ℕ) → event length_form nobody s ≡ None → All IsPlain (bytes_of (len_units s)) × (s ≡ lenform (bytes_of (len_units s)))
event-form s none = (read-plain s, accepted-form s (event-shown length_form s none))
