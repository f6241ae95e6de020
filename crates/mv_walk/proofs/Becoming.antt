-- The first segment of a picture of which it is known what becomes of it: what is answered of it.
use Rattle.std.proofs.Common.{◌≡◌, ℤ, Bool, true, false, cond, not, ◌&&◌, List, Option, None, Some, refl, ap, sym, ◌∙◌}
use Rattle.std.specs.Prelude.{◌||◌, nat_eq, Result, Ok, Err}
use Rattle.std.specs.Option.{option_or}
use Rattle.mv_rules.specs.declared.rule.Rule.{Rule}
use Rattle.mv_units.specs.declared.head.UnitHead.{UnitHead}
use Rattle.mv_pictures.specs.Facts.{Fact}
use Rattle.mv_pictures.specs.Judged.{Judged, is_picture, layer}
use Rattle.mv_pictures.specs.Look.{Look, look}
use Rattle.mv_pictures.specs.Starts.{is_anew, is_decoded, is_idr_or_bla, is_sequence_start, is_skipped, is_start, starts_layer}
use Rattle.mv_au.specs.States.{state_of}
use Rattle.mv_au.specs.declared.states.PicState.{PicState}
use Rattle.mv_walk_segment.specs.OpenValue.{DecodedValue}
use Rattle.mv_walk_sets.specs.InForce.{VpsInForceValue}
use Rattle.mv_walk.specs.Firsts.{Decodes, IsDecoded, IsFirst, TakesPicture, mid_rule, taken_rule, unchanged}
use Rattle.mv_walk.specs.declared.decoder.Decoder.{Decoder}
use Rattle.mv_walk.specs.declared.ending.Stop.{Stop}
use Rattle.mv_walk.specs.declared.first.FirstSegment.{FirstSegment}
use Rattle.mv_walk.proofs.Decoded.{no-sequence}
use Rattle.mv_walk.proofs.Tried.{mid-goes, mid-started, taken-decoded}

-- ---- What its state says

abbrev by : Bool → Bool → PicState
by start skipped = cond start PicState.Start (cond skipped PicState.Skipped PicState.Decoded)

of-start : (a b : Bool) → PicState.Start ≡ by a b → a ≡ true
of-start true b h = refl
of-start false true h = absurd (let w : PicState.Start ≡ PicState.Skipped = h in cc)
of-start false false h = absurd (let w : PicState.Start ≡ PicState.Decoded = h in cc)

of-skipped : (a b : Bool) → PicState.Skipped ≡ by a b → b ≡ true
of-skipped true b h = absurd (let w : PicState.Skipped ≡ PicState.Start = h in cc)
of-skipped false true h = refl
of-skipped false false h = absurd (let w : PicState.Skipped ≡ PicState.Decoded = h in cc)

of-decoded : (a b : Bool) → PicState.Decoded ≡ by a b → (a ≡ false) × (b ≡ false)
of-decoded true b h = absurd (let w : PicState.Decoded ≡ PicState.Start = h in cc)
of-decoded false true h = absurd (let w : PicState.Decoded ≡ PicState.Skipped = h in cc)
of-decoded false false h = (refl, refl)

off : (b : Bool) → (b && false) ≡ false
off true = refl
off false = refl

pub state-start : (l : Look) (p : Fact) → PicState.Start ≡ state_of l p → is_start l p ≡ true
unfolding state_of
state-start l p h = of-start _ _ h

pub state-skipped : (l : Look) (p : Fact) → PicState.Skipped ≡ state_of l p → is_decoded l p ≡ false
unfolding state_of is_decoded
state-skipped l p h = ap (λ b. is_picture p && not b) (of-skipped _ _ h) ∙ off (is_picture p)

pub state-decoded : (past : List Judged) (p : Fact) → is_picture p ≡ true → PicState.Decoded ≡ state_of (look past p) p → IsDecoded false past p
unfolding state_of is_decoded
state-decoded past p picture h =
    let e = of-decoded _ _ h in
    record { decoded = ap (λ b. is_picture p && not b) e.1 ∙ ap (λ b. b && true) picture; start_is = e.0 }

pub start-decoded : (past : List Judged) (p : Fact) → is_picture p ≡ true → is_start (look past p) p ≡ true → IsDecoded true past p
unfolding is_decoded is_skipped
start-decoded past p picture start = record { decoded = go (is_start (look past p) p) _ start ∙ picture; start_is = start }
  where
    go : (a b : Bool) → a ≡ true → (is_picture p && not (not a && b)) ≡ is_picture p
    go true b h = both (is_picture p)
      where
        both : (x : Bool) → (x && true) ≡ x
        both true = refl
        both false = refl
    go false b wrong = absurd (let w : false ≡ true = wrong in cc)

-- ---- It is decoded

pub decoded-refused : {R W P : Type 0} (new : Decoder R W P) (past : List Judged) (p : Fact) (stop : Stop) → is_decoded (look past p) p ≡ true → Decodes past p new (Err stop) → TakesPicture past p new (Err stop)
decoded-refused new past p (Stop.Breaks rule) decoded h = taken-decoded past p decoded ∙ ap (λ r. option_or r (mid_rule past p)) h
decoded-refused new past p (Stop.Lacks asked count) decoded h = h
decoded-refused new past p Stop.View decoded h = tt
decoded-refused new past p Stop.Memory decoded h = tt

-- a start of its layer
pub started-takes : {R W P : Type 0} (new : Decoder R W P) (past : List Judged) (p : Fact) (answer : Result (Option ℤ × Option DecodedValue) Stop) → IsDecoded true past p → Decodes past p new answer → TakesPicture past p new answer
started-takes new past p (Ok told) d h =
    (taken-decoded past p d.decoded ∙ ap (λ r. option_or r (mid_rule past p)) h.0 ∙ mid-started past p d.start_is, h.1, h.2 ∙ sym d.decoded, h.3)
started-takes new past p (Err stop) d h = decoded-refused new past p stop d.decoded h

-- and another picture
pub decoded-takes : {R W P : Type 0} (new : Decoder R W P) (vps : VpsInForceValue) (s : FirstSegment) (past : List Judged) (p : Fact) (told : Option ℤ × Option DecodedValue) → IsFirst vps s past p → IsDecoded false past p →
    Decodes past p new (Ok told) → TakesPicture past p new (unchanged s told)
decoded-takes {R} {W} {P} new vps s past p told f d h = go (nat_eq s.head.layer 0 && s.behind_change) refl
  where
    tried : taken_rule past p ≡ cond (nat_eq s.head.layer 0 && s.behind_change) (Some Rule.VpsMidCvs) None
    tried = taken-decoded past p d.decoded ∙ ap (λ r. option_or r (mid_rule past p)) h.0 ∙ mid-goes vps s past p f (no-sequence past p d.start_is)

    go : (b : Bool) → (nat_eq s.head.layer 0 && s.behind_change) ≡ b → TakesPicture past p new (cond b (Err (Stop.Breaks Rule.VpsMidCvs)) (Ok told))
    go true e = tried ∙ ap (λ b. cond b (Some Rule.VpsMidCvs) None) e
    go false e = (tried ∙ ap (λ b. cond b (Some Rule.VpsMidCvs) None) e, h.1, h.2 ∙ sym d.decoded, h.3)

-- what a changed video parameter set breaks is no matter of a viewer
pub unchanged-unseen : {T : Type 0} (s : FirstSegment) (taken : T) → unchanged s taken ≡ Err Stop.View → ⊥
unchanged-unseen {T} s taken h = go (nat_eq s.head.layer 0 && s.behind_change) h
  where
    go : (b : Bool) → Path (Result T Stop) (cond b (Err (Stop.Breaks Rule.VpsMidCvs)) (Ok taken)) (Err Stop.View) → ⊥
    go true wrong = cc
    go false wrong = cc

-- ---- It starts its layer

-- where that is layer 0, a sequence, else none
pub starts-sequence : (vps : VpsInForceValue) (s : FirstSegment) (past : List Judged) (p : Fact) → IsFirst vps s past p → nat_eq s.head.layer 0 ≡ true → is_start (look past p) p ≡ true → is_sequence_start (look past p) p ≡ true
unfolding is_start
starts-sequence vps s past p f zero start =
    let base : nat_eq (layer p) 0 ≡ true = ap (λ (h : UnitHead). nat_eq h.layer 0) f.head_is ∙ zero in
    ap (λ b. cond b (is_sequence_start (look past p) p) (is_picture p && starts_layer (look past p) p)) (sym base) ∙ start

pub starts-none : (vps : VpsInForceValue) (s : FirstSegment) (past : List Judged) (p : Fact) → IsFirst vps s past p → nat_eq s.head.layer 0 ≡ false → is_sequence_start (look past p) p ≡ false
unfolding is_sequence_start
starts-none vps s past p f above =
    ap (λ b. (b && is_picture p) && (is_idr_or_bla p || is_anew (look past p))) (ap (λ (h : UnitHead). nat_eq h.layer 0) f.head_is ∙ above)
