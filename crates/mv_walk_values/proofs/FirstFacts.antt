-- What is judged of a decoded picture by its first segment.
use Rattle.std.proofs.Common.{◌≡◌, ℕ, ◌-◌, Bool, true, false, cond, not, ◌&&◌, ◌||◌, List, [], ◌∷◌, filter, length, map, Some, refl, sym, ap, ap₂, ◌∙◌, arith}
use Rattle.std.specs.Prelude.{nat_eq, option_and_then}
use Rattle.std.specs.List.{find}
use Rattle.std.proofs.lemmas.Bool.{and_parts, eq-eqb}
use Rattle.mv_pictures.specs.Decoding.{decoded_of}
use Rattle.mv_pictures.specs.Facts.{Fact}
use Rattle.mv_pictures.specs.Held.{held, held_behind, longs, names}
use Rattle.mv_pictures.specs.History.{judged, judgement}
use Rattle.mv_pictures.specs.Items.{is_first_segment}
use Rattle.mv_pictures.specs.Judged.{Judged, begins, is_picture, is_slice, layer, vps_at}
use Rattle.mv_pictures.specs.Layers.{view}
use Rattle.mv_pictures.specs.Look.{Look, asked, in_sequence, look}
use Rattle.mv_pictures.specs.Output.{count_of, is_output, outputs}
use Rattle.mv_pictures.specs.SliceFields.{is_put_out}
use Rattle.mv_layers.specs.OutputLayers.{is_among}
use Rattle.mv_pictures.specs.References.{references}
use Rattle.mv_pictures.specs.Starts.{is_anew, is_decoded, is_idr_or_bla, is_sequence_start, is_skipped, is_start, sequence_number, sequence_sps, sequence_vps, starts_layer}
use Rattle.mv_pictures.specs.Terms.{references_of}
use Rattle.mv_commuting.specs.HeldOneMore.{held_of, marked_by, names_held, unmarked}
use Rattle.mv_commuting.proofs.HeldMore.{layer-held, layers-held}
use Rattle.mv_rebuild.specs.Value.{shown_of}
use Rattle.mv_dpb.specs.declared.shown.Shown.{Shown}
use Rattle.mv_walk_order.specs.OrderSteps.{puts_out}
use Rattle.mv_walk_order.specs.Orders.{Stands, sets_of}
use Rattle.mv_walk_order.specs.OrderValues.{OrdersValue}
use Rattle.mv_walk_order.proofs.OrderLaws.{outputs-are}
use Rattle.mv_walk_values.specs.Showing.{latest_sequence}
use Rattle.mv_walk_values.proofs.Standing.{fact_is}

pub picture_slice : (p : Fact) → is_picture p ≡ true → is_slice p ≡ true
picture_slice p h = (and_parts (is_slice p) (is_first_segment p.placed.item.opening) h).0

pub decoded_picture : (l : Look) (p : Fact) → is_decoded l p ≡ true → is_picture p ≡ true
unfolding is_decoded
decoded_picture l p h = (and_parts (is_picture p) (not (is_skipped l p)) h).0

pub starts_both : (l : Look) (p : Fact) → is_sequence_start l p ≡ true → (nat_eq (layer p) 0 ≡ true) × (is_start l p ≡ true)
unfolding is_sequence_start is_start
starts_both l p h =
    let base : nat_eq (layer p) 0 ≡ true = (and_parts (nat_eq (layer p) 0) (is_picture p) (and_parts (nat_eq (layer p) 0 && is_picture p) (is_idr_or_bla p || is_anew l) h).0).0 in
    (base, ap (λ b. cond b (is_sequence_start l p) (is_picture p && starts_layer l p)) base ∙ h)

pub no_start_calm : (l : Look) (p : Fact) → is_start l p ≡ false → is_sequence_start l p ≡ false
no_start_calm l p h = go (is_sequence_start l p) refl
  where
    go : (b : Bool) → is_sequence_start l p ≡ b → b ≡ false
    go false is = refl
    go true is = absurd (let wrong : true ≡ false = sym (starts_both l p is).1 ∙ h in cc)

-- a start finds none
pub start_finds : (l : Look) (p : Fact) → is_start l p ≡ true → held l p ≡ []
unfolding held
start_finds l p h = ap (λ b. cond b [] (held_behind [] l.own)) h

pub own_units : (past : List Judged) (p : Fact) → (look past p).own ≡ in_sequence past (layer p)
unfolding look
own_units past p = refl

module _ (past : List Judged) (p : Fact) (new : is_picture p ≡ true) where
  e : Judged
  e = judged past p

  pub judged_by : judged past p ≡ judgement (look past p) p
  unfolding judged asked
  judged_by = ap (λ b. judgement (look (cond b past []) p) p) (picture_slice p new)

  pub new_slice : is_slice (judged past p).fact ≡ true
  new_slice = ap is_slice (fact_is past p) ∙ picture_slice p new

  pub new_picture : is_picture (judged past p).fact ≡ true
  new_picture = ap is_picture (fact_is past p) ∙ new

  pub decoded_by : (judged past p).decoded ≡ is_decoded (look past p) p
  unfolding judgement
  decoded_by = ap (λ (d : Judged). d.decoded) judged_by

  pub start_by : (judged past p).start ≡ is_start (look past p) p
  unfolding judgement
  start_by = ap (λ (d : Judged). d.start) judged_by

  pub names_by : (judged past p).names ≡ names (look past p) p
  unfolding judgement
  names_by = ap (λ (d : Judged). d.names) judged_by

  pub longs_by : (judged past p).longs ≡ longs (look past p) p
  unfolding judgement
  longs_by = ap (λ (d : Judged). d.longs) judged_by

  pub references_by : (judged past p).references ≡ references_of (references (look past p) p)
  unfolding judgement
  references_by = ap (λ (d : Judged). d.references) judged_by

  pub begins_by : begins (judged past p) ≡ is_sequence_start (look past p) p
  unfolding judgement
  begins_by =
      ap₂ (λ (f : Fact) (s : Bool). nat_eq (layer f) 0 && s) (fact_is past p) (ap (λ (d : Judged). d.seq) judged_by)
      ∙ go (is_sequence_start (look past p) p) refl
    where
      go : (s : Bool) → is_sequence_start (look past p) p ≡ s → (nat_eq (layer p) 0 && s) ≡ s
      go true is = ap (λ b. b && true) (starts_both (look past p) p is).0
      go false is = never (nat_eq (layer p) 0)
        where
          never : (b : Bool) → (b && false) ≡ false
          never true = refl
          never false = refl

  -- its sequence is the latest one
  pub sequence_by : (judged past p).sequence ≡ latest_sequence (judged past p ∷ past)
  unfolding judgement sequence_number look
  sequence_by =
      ap (λ (d : Judged). d.sequence) judged_by
      ∙ go (is_sequence_start (look past p) p)
      ∙ ap (λ b. length (cond b (judged past p ∷ filter begins past) (filter begins past)) - 1) (sym begins_by)
    where
      go : (s : Bool) → cond s (length (filter begins past)) (length (filter begins past) - 1) ≡ length (cond s (judged past p ∷ filter begins past) (filter begins past)) - 1
      go true = omega arith
      go false = refl

  -- what is told where it is shown
  pub shown_by : shown_of (decoded_of (judged past p ∷ past) (judged past p))
      ≡ record { sequence = latest_sequence (judged past p ∷ past); count = count_of (judged past p); layer = layer p; view = view (vps_at p) (layer p) }
  unfolding decoded_of
  shown_by =
      ap₂ (λ (s : ℕ) (f : Fact). let it : Shown = record { sequence = s; count = count_of (judged past p); layer = layer f; view = view (vps_at f) (layer f) } in it) sequence_by (fact_is past p)

  -- its sequence is that of the latest base picture that starts one
  root_vps : (judged past p).seq_vps ≡ option_and_then (λ (d : Judged). vps_at d.fact) (find begins (judged past p ∷ past))
  unfolding judgement sequence_vps look
  root_vps =
      ap (λ (d : Judged). d.seq_vps) judged_by ∙ go (is_sequence_start (look past p) p)
      ∙ ap (λ b. option_and_then (λ (d : Judged). vps_at d.fact) (cond b (Some (judged past p)) (find begins past))) (sym begins_by)
    where
      go : (b : Bool) → cond b (vps_at p) (option_and_then (λ (d : Judged). vps_at d.fact) (find begins past)) ≡ option_and_then (λ (d : Judged). vps_at d.fact) (cond b (Some (judged past p)) (find begins past))
      go true = ap vps_at (sym (fact_is past p))
      go false = refl

  root_sps : (judged past p).seq_sps ≡ option_and_then (λ (d : Judged). d.fact.sets.sps) (find begins (judged past p ∷ past))
  unfolding judgement sequence_sps look
  root_sps =
      ap (λ (d : Judged). d.seq_sps) judged_by ∙ go (is_sequence_start (look past p) p)
      ∙ ap (λ b. option_and_then (λ (d : Judged). d.fact.sets.sps) (cond b (Some (judged past p)) (find begins past))) (sym begins_by)
    where
      go : (b : Bool) → cond b p.sets.sps (option_and_then (λ (d : Judged). d.fact.sets.sps) (find begins past)) ≡ option_and_then (λ (d : Judged). d.fact.sets.sps) (cond b (Some (judged past p)) (find begins past))
      go true = ap (λ (f : Fact). f.sets.sps) (sym (fact_is past p))
      go false = refl

  -- whether a set puts it out, by what is kept of the sets
  pub output_by : (s : OrdersValue) (o : ℕ) → is_decoded (look past p) p ≡ true → Stands s (judged past p ∷ past) → (is_put_out p && puts_out s.sets o (layer p)) ≡ is_output o (judged past p)
  unfolding is_output
  output_by s o decoded stands =
      ap (λ ls. is_put_out p && is_among ls (layer p)) (outputs-are s.sets (judged past p) (stands.sets_are ∙ ap₂ sets_of (sym root_vps) (sym root_sps)) o)
      ∙ either (is_put_out p) (is_among (outputs (judged past p).seq_vps o) (layer p))
      ∙ ap (λ (f : Fact). is_among (outputs (judged past p).seq_vps o) (layer f) && is_put_out f) (sym (fact_is past p))
      ∙ sym (ap (λ b. b && is_among (outputs (judged past p).seq_vps o) (layer (judged past p).fact) && is_put_out (judged past p).fact) (decoded_by ∙ decoded))
    where
      either : (a b : Bool) → (a && b) ≡ (b && a)
      either true true = refl
      either true false = refl
      either false true = refl
      either false false = refl

  -- ---- What is held behind it

  pub held_own : (s : Bool) → is_decoded (look past p) p ≡ true → is_start (look past p) p ≡ s →
      held_of (judged past p ∷ past) (layer p) ≡ unmarked (judged past p) ∷ cond s [] (map (marked_by (judged past p)) (filter (names_held (judged past p)) (held_of past (layer p))))
  held_own s decoded start =
      layer-held past p (layer p) (ap (λ (f : Fact). nat_eq (layer f) (layer p)) (fact_is past p) ∙ eq-eqb (layer p) (layer p) refl)
      ∙ ap₂ (λ a b. cond a (unmarked (judged past p) ∷ cond b [] (map (marked_by (judged past p)) (filter (names_held (judged past p)) (held_of past (layer p))))) (held_of past (layer p)))
      (decoded_by ∙ decoded) (start_by ∙ start)

  pub held_other : (n : ℕ) → nat_eq (layer p) n ≡ false → held_of (judged past p ∷ past) n ≡ cond (is_sequence_start (look past p) p) [] (held_of past n)
  held_other n other =
      layers-held past p n (ap (λ (f : Fact). nat_eq (layer f) n) (fact_is past p) ∙ other)
      ∙ ap (λ b. cond b [] (held_of past n)) begins_by
