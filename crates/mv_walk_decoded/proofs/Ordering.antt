-- The order of output behind a picture (C.5.2).
use Rattle.std.proofs.Common.{◌≡◌, ℕ, ◌<◌, ℤ, Bool, true, false, cond, not, ◌&&◌, ◌||◌, List, [], ◌∷◌, length, map, Option, Some, None, Result, Ok, Err, refl, ap, sym, subst, ◌∙◌}
use Rattle.std.specs.Prelude.{is_ok, nat_eq, nat_lt, option_and_then, option_map, ⊤}
use Rattle.std.specs.List.{find, range_with_len}
use Rattle.mv_syntax.specs.Words.{◌otherwise◌, is_set}
use Rattle.mv_rules.specs.declared.rule.Rule.{Rule}
use Rattle.mv_slice.specs.declared.slice.SliceFull.{SliceFull}
use Rattle.mv_slice.specs.declared.slice.SliceHead.{SliceHead}
use Rattle.mv_layers.specs.OutputLayers.{is_among}
use Rattle.mv_pictures.specs.Facts.{Fact}
use Rattle.mv_pictures.specs.History.{judged, judgement}
use Rattle.mv_pictures.specs.Judged.{Judged, au, is_picture, layer}
use Rattle.mv_pictures.specs.Layers.{sets_at}
use Rattle.mv_pictures.specs.Look.{Look, asked as seen, look}
use Rattle.mv_pictures.specs.Starts.{is_start}
use Rattle.mv_pictures.specs.Counts.{count}
use Rattle.mv_pictures.specs.Output.{is_late, is_output, outputs, reorder, sequence_before, units_ahead}
use Rattle.mv_pictures.specs.PictureRules.{has_base_count, has_low_bits, poc_mismatch}
use Rattle.mv_pictures.specs.Rules.{Case, case, output_cases}
use Rattle.mv_pictures.specs.SliceFields.{full_of, is_put_out}
use Rattle.mv_tried.specs.Decoded.{is_mismatched}
use Rattle.mv_tried.specs.Tried.{first_of}
use Rattle.mv_walk_order.specs.OrderValues.{OrdersValue}
use Rattle.mv_walk_order.specs.OrderSteps.{counted_with, late_set, refusal}
use Rattle.mv_walk_order.specs.Orders.{AreSteady, IsShown, Stands, answer}
use Rattle.mv_walk_decoded.specs.Asked.{put_out_in}
use Rattle.mv_walk_decoded.specs.Decided.{IsAsked}
use Rattle.mv_walk_decoded.specs.Made.{Given}
use Rattle.mv_walk_decoded.specs.Making.{order_after, order_refuses, rule_of}
use Rattle.mv_walk_decoded.proofs.Counting.{layer-is}
use Rattle.mv_walk_decoded.proofs.Listing.{judged-is}
use Rattle.mv_walk_decoded.proofs.Lower.{answer-is, first_next, first_nothing, holds-more, none_of, picture-slice, stands-of, unshown}

first-mapped : (test : ℕ → Bool) (ns : List ℕ) → first_of (map (λ o. case (Rule.Reorder o) (test o)) ns) ≡ option_map Rule.Reorder (find test ns)
first-mapped test [] = first_nothing
first-mapped test (n ∷ ns) =
    first_next (case (Rule.Reorder n) (test n)) (map (λ o. case (Rule.Reorder o) (test o)) ns)
    ∙ ap (cond (test n) (Some (Rule.Reorder n))) (first-mapped test ns)
    ∙ go (test n)
  where
    go : (b : Bool) → cond b (Some (Rule.Reorder n)) (option_map Rule.Reorder (find test ns)) ≡ option_map Rule.Reorder (cond b (Some n) (find test ns))
    go true = refl
    go false = refl

rule-is : (o : Option ℕ) → rule_of (refusal o) ≡ option_map Rule.Reorder o
rule-is None = refl
rule-is (Some o) = refl

ok-where : (r : Result ⊤ Rule) → rule_of r ≡ None → is_ok r ≡ true
ok-where (Ok v) h = refl
ok-where (Err rule) h = absurd (cc)

none-and : (a b c : Bool) → c ≡ false → (a && b && c) ≡ false
none-and true true c h = h
none-and true false c h = refl
none-and false b c h = refl

off-and : (a b : Bool) → a ≡ false → (a && b) ≡ false
off-and a b h = ap (λ a. a && b) h

module _ {P : Type 0} (g : Given P) (past : List Judged) (p : Fact) (asked : IsAsked g past p) (few : g.first.head.layer < 64) (c : ℤ) (counts : count (look past p) p ≡ Some c) where
  full-is : full_of p ≡ g.header.full
  full-is = ap (option_and_then (λ (h : SliceHead). h.full)) asked.header_is

  pub put-is : put_out_in g.header.full ≡ is_put_out p
  unfolding is_put_out
  put-is = go g.header.full ∙ sym (ap (λ f. is_set (option_and_then (λ (full : SliceFull). full.picture.pic_output_flag) f otherwise 1)) full-is)
    where
      go : (o : Option SliceFull) → put_out_in o ≡ is_set (option_and_then (λ (full : SliceFull). full.picture.pic_output_flag) o otherwise 1)
      go None = refl
      go (Some full) = refl

  fact-is : (judged past p).fact ≡ p
  unfolding judged judgement
  fact-is = refl

  decoded-is : (judged past p).decoded ≡ true
  unfolding judgement
  decoded-is = ap (λ (d : Judged). d.decoded) (judged-is past p asked.picture) ∙ asked.decoded

  shown : is_put_out p ≡ true → IsShown g.first.head.layer g.first.au c (judged past p)
  unfolding judgement
  shown out = record {
    decoded = decoded-is;
    put_out = ap is_put_out fact-is ∙ out;
    layer_is = ap layer fact-is ∙ layer-is g past p asked few;
    unit_is = ap au fact-is ∙ asked.au_is;
    count_is = ap (λ (d : Judged). d.count) (judged-is past p asked.picture) ∙ counts;
  }

  not-late : is_put_out p ≡ false → (o : ℕ) → is_late o past (judged past p) ≡ false
  unfolding is_late is_output
  not-late out o =
      off-and ((judged past p).decoded && is_among (outputs (judged past p).seq_vps o) (layer (judged past p).fact) && is_put_out (judged past p).fact) (nat_lt (reorder o (judged past p)) (length (units_ahead o past (judged past p))))
      (none-and (judged past p).decoded (is_among (outputs (judged past p).seq_vps o) (layer (judged past p).fact)) (is_put_out (judged past p).fact) (ap is_put_out fact-is ∙ out))

  -- behind the rule on the counts of one access unit
  module _ (on : is_mismatched (look past p) p ≡ false) where
    steady : AreSteady (judged past p ∷ past)
    unfolding poc_mismatch
    steady = asked.steady (ap (λ b. b && not (nat_eq (layer p) 0) && (not (has_base_count (look past p) p) || (is_start (look past p) p && not (has_low_bits (look past p) p)))) asked.decoded ∙ on)

    late-by : (b : Bool) → is_put_out p ≡ b → order_refuses b g.order g.first.head.layer c ≡ first_of (output_cases past (judged past p))
    unfolding output_cases
    late-by true out =
        ap rule_of (answer-is g.order past (judged past p) g.first.head.layer g.first.au c asked.order_stands steady (shown out))
        ∙ rule-is (find (λ o. is_late o past (judged past p)) (range_with_len 0 (length (sets_at (judged past p).seq_vps))))
        ∙ sym (first-mapped (λ o. is_late o past (judged past p)) (range_with_len 0 (length (sets_at (judged past p).seq_vps))))
    late-by false out = sym (none_of Rule.Reorder (λ o. is_late o past (judged past p)) (not-late out) (range_with_len 0 (length (sets_at (judged past p).seq_vps))))

    pub order-refuses-is : order_refuses (put_out_in g.header.full) g.order g.first.head.layer c ≡ first_of (output_cases past (judged past p))
    order-refuses-is = ap (λ b. order_refuses b g.order g.first.head.layer c) put-is ∙ late-by (is_put_out p) refl

    stands-by : (b : Bool) → is_put_out p ≡ b → order_refuses b g.order g.first.head.layer c ≡ None → Stands (order_after b g.order g.first.head.layer g.first.au c) (judged past p ∷ past)
    stands-by true out none =
        stands-of (counted_with g.first.head.layer g.first.au c g.order) past p (picture-slice p asked.picture)
        (holds-more g.order past (judged past p) g.first.head.layer g.first.au c asked.order_stands steady (shown out) (counted_with g.first.head.layer g.first.au c g.order) refl
        (ok-where (refusal (late_set g.order.sets g.order.check g.first.head.layer c (length g.order.sets))) none))
    stands-by false out none = unshown g.order past p (picture-slice p asked.picture) (ap (λ b. (judged past p).decoded && b) out ∙ none-and true (judged past p).decoded false refl) asked.order_stands

    pub order-stands : order_refuses (put_out_in g.header.full) g.order g.first.head.layer c ≡ None → Stands (order_after (put_out_in g.header.full) g.order g.first.head.layer g.first.au c) (judged past p ∷ past)
    order-stands none =
        subst (λ b. Stands (order_after b g.order g.first.head.layer g.first.au c) (judged past p ∷ past)) (sym put-is)
        (stands-by (is_put_out p) refl (sym (ap (λ b. order_refuses b g.order g.first.head.layer c) put-is) ∙ none))
