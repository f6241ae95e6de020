-- What is answered of the end of a stream, by what is kept.
use Rattle.std.proofs.Common.{◌≡◌, ℕ, false, List, length, filter, None, Some, refl, ap, sym, ◌∙◌, ne_eqb}
use Rattle.std.specs.Prelude.{nat_eq, Ok, Err}
use Rattle.mv_rules.specs.declared.rule.Rule.{Rule}
use Rattle.mv_pictures.specs.Decoding.{decode}
use Rattle.mv_pictures.specs.Extract.{last_vps}
use Rattle.mv_pictures.specs.History.{history_of}
use Rattle.mv_pictures.specs.Judged.{begins}
use Rattle.mv_pictures.specs.Layers.{layers_at, sets_at}
use Rattle.mv_walk_sets.specs.InForce.{VpsInForceValue, in_force}
use Rattle.mv_walk_laws.proofs.Counting.{decoded-counted, no_picture-decoded}
use Rattle.mv_walk_laws.proofs.Unset.{unset-no_picture}
use Rattle.mv_walk.specs.Courses.{Stood}
use Rattle.mv_walk.specs.Decoders.{BreaksNothing, IsClosed}
use Rattle.mv_walk.specs.Stepping.{Ends, counted_totals}
use Rattle.mv_walk.specs.declared.course.Course.{Course}
use Rattle.mv_walk.specs.declared.decoder.Decoder.{Decoder}
use Rattle.mv_walk.specs.declared.ending.Stop.{Stop}
use Rattle.mv_walk.specs.declared.step.Totals.{Totals}

no-vps : in_force None ≡ None
unfolding in_force
no-vps = refl

pub unset-ends : {R W P : Type 0} (c : Course R W P) (us : List (List ℕ)) (units kept : ℕ) → Stood c us → c.vps ≡ None → Ends us units kept (Err (Stop.Breaks Rule.NoPicture))
unset-ends c us units kept s none = (unset-no_picture us s.sound.breaks (s.vps_is ∙ ap in_force none ∙ no-vps), refl)

-- how many were decoded
pub decoded-is : {R W P : Type 0} (c : Course R W P) (us : List (List ℕ)) → Stood c us → c.decoder.pictures ≡ length (decode us)
decoded-is c us s = s.decoder_is.keeps.pictures.pictures_are ∙ sym (decoded-counted us)

pub none-ends : {R W P : Type 0} (c : Course R W P) (us : List (List ℕ)) (units kept : ℕ) → Stood c us → c.decoder.pictures ≡ 0 → Ends us units kept (Err (Stop.Breaks Rule.NoPicture))
none-ends c us units kept s none = (no_picture-decoded us s.sound.breaks ∙ ap (λ n. nat_eq n 0) (sym (decoded-is c us s) ∙ none), refl)

-- a fault of the viewer and want of memory say nothing
pub ends-err : (T : Type 0) (us : List (List ℕ)) (units kept : ℕ) (stop : Stop) → BreaksNothing {T = T} (Err stop) → Ends us units kept (Err stop)
ends-err T us units kept (Stop.Breaks rule) h = absurd h
ends-err T us units kept (Stop.Lacks asked count) h = absurd h
ends-err T us units kept Stop.View h = tt
ends-err T us units kept Stop.Memory h = tt

layers-in : (v : VpsInForceValue) → layers_at (in_force (Some v)) ≡ v.value.derived.layers
unfolding in_force layers_at
layers-in v = refl

sets-in : (v : VpsInForceValue) → sets_at (in_force (Some v)) ≡ v.value.derived.sets
unfolding in_force sets_at
sets-in v = refl

-- totals by their parts
totals : ℕ → ℕ → ℕ → ℕ → ℕ → ℕ → Totals
totals units kept pictures sequences layers sets = record { units = units; kept = kept; pictures = pictures; sequences = sequences; layers = layers; sets = sets }

same-parts : (a b c d e f a' b' c' d' e' f' : ℕ) → a ≡ a' → b ≡ b' → c ≡ c' → d ≡ d' → e ≡ e' → f ≡ f' → totals a b c d e f ≡ totals a' b' c' d' e' f'
same-parts a b c d e f a' b' c' d' e' f' ha hb hc hd he hf = cc

same-totals : (t u : Totals) → t.units ≡ u.units → t.kept ≡ u.kept → t.pictures ≡ u.pictures → t.sequences ≡ u.sequences → t.layers ≡ u.layers → t.sets ≡ u.sets → t ≡ u
unfolding totals
same-totals t u a b c d e f = same-parts t.units t.kept t.pictures t.sequences t.layers t.sets u.units u.kept u.pictures u.sequences u.layers u.sets a b c d e f

-- the last picture is whole, and totals are told
pub totals-end : {R W P : Type 0} (c : Course R W P) (us : List (List ℕ)) (units kept : ℕ) (v : VpsInForceValue) (t : Totals) (d : Decoder R W P) {n : ℕ} → Stood c us → IsClosed d (history_of us) →
    c.decoder.pictures ≡ n → (n ≡ 0 → ⊥) → c.vps ≡ Some v → t.pictures ≡ d.pictures → t.sequences ≡ d.sequences → t.layers ≡ length v.value.derived.layers → t.sets ≡ length v.value.derived.sets →
    t.units ≡ units → t.kept ≡ kept → Ends us units kept (Ok t)
totals-end c us units kept v t d {n} s closed counted some vps pictures sequences layers sets units_is kept_is =
    let at : last_vps us ≡ in_force (Some v) = s.vps_is ∙ ap in_force vps in
    let all_layers : t.layers ≡ length (layers_at (last_vps us)) = layers ∙ sym (ap (λ x. length (layers_at x)) at ∙ ap length (layers-in v)) in
    let all_sets : t.sets ≡ length (sets_at (last_vps us)) = sets ∙ sym (ap (λ x. length (sets_at x)) at ∙ ap length (sets-in v)) in
    let all_pictures : t.pictures ≡ length (decode us) = pictures ∙ closed.keeps.pictures.pictures_are ∙ sym (decoded-counted us) in
    let all_sequences : t.sequences ≡ length (filter begins (history_of us)) = sequences ∙ closed.keeps.pictures.sequences_are in
    let found : nat_eq (length (decode us)) 0 ≡ false = ap (λ k. nat_eq k 0) (sym (decoded-is c us s) ∙ counted) ∙ ne_eqb n 0 some in
    (no_picture-decoded us s.sound.breaks ∙ found, same-totals t (counted_totals us units kept) units_is kept_is all_pictures all_sequences all_layers all_sets)
