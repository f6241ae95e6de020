-- The rules of slice segments of skipped and of decoded pictures.
use Rattle.std.proofs.Common.{◌≡◌, true, false, cond, List, [], ◌∷◌, ◌++◌, ap, sym, ◌∙◌}
use Rattle.std.specs.Prelude.{option_map}
use Rattle.std.specs.Option.{option_or}
use Rattle.std.proofs.lemmas.Bool.{and_parts}
use Rattle.mv_syntax.specs.Words.{◌otherwise◌}
use Rattle.mv_rules.specs.declared.rule.Rule.{Rule}
use Rattle.mv_pictures.specs.AccessUnits.{Placed}
use Rattle.mv_pictures.specs.Facts.{Fact, fact}
use Rattle.mv_pictures.specs.History.{judged, judgement}
use Rattle.mv_pictures.specs.Items.{is_first_segment}
use Rattle.mv_pictures.specs.Judged.{Judged, is_picture, is_slice}
use Rattle.mv_pictures.specs.Lists.{picture_before}
use Rattle.mv_pictures.specs.Look.{Look, asked, look}
use Rattle.mv_pictures.specs.PictureRules.{no_irap}
use Rattle.mv_pictures.specs.Rules.{Case, case, least_rule, output_cases, picture_cases}
use Rattle.mv_pictures.specs.Starts.{is_decoded}
use Rattle.mv_tried.specs.Decoded.{decoded_cases, decoded_list_cases}
use Rattle.mv_tried.specs.Finer.{before_lists, before_pictures, placed_in}
use Rattle.mv_tried.specs.Tried.{first, first_of, later, list_cases, mid_cases, tried_as}
use Rattle.mv_tried.proofs.Cases.{first_append, first_four, or_none}
use Rattle.mv_tried.proofs.Pictures.{lists-decoded, lists-skipped, outputs-other, pictures-decoded, pictures-skipped}
use Rattle.mv_tried.proofs.Units.{first-rule, later-rule, of_unit}

asked_is : (past : List Judged) (p : Fact) → is_slice p ≡ true → asked past p ≡ past
unfolding asked
asked_is past p h = ap (λ b. cond b past []) h

first_slice : (p : Fact) → is_picture p ≡ true → is_slice p ≡ true
first_slice p h = (and_parts (is_slice p) (is_first_segment p.placed.item.opening) h).0

decoded_is : (past : List Judged) (p : Fact) → is_slice p ≡ true → (judged past p).decoded ≡ is_decoded (look past p) p
unfolding judged judgement
decoded_is past p h = ap (λ ds. is_decoded (look ds p) p) (asked_is past p h)

-- ---- First segments

first-seen : (past : List Judged) (p : Fact) → is_picture p ≡ true →
    first_of (tried_as first past (judged past p))
    ≡ first_of (((before_pictures past p ++ picture_cases (look past p) p) ++ output_cases past (judged past p)) ++ mid_cases (placed_in past) (look past p) p)
unfolding tried_as judged judgement
first-seen past p h =
    ap (λ ds. first_of (((before_pictures past p ++ picture_cases (look ds p) p) ++ output_cases past (judged past p)) ++ mid_cases (placed_in past) (look ds p) p))
    (asked_is past p (first_slice p h))

pub first-decoded : (past : List Judged) (before : List Fact) (q : Placed) → is_picture (fact before q) ≡ true → is_decoded (look past (fact before q)) (fact before q) ≡ true →
    least_rule past (judged past (fact before q))
    ≡ first_of (((before_pictures past (fact before q) ++ decoded_cases (look past (fact before q)) (fact before q)) ++ output_cases past (judged past (fact before q)))
    ++ mid_cases (placed_in past) (look past (fact before q)) (fact before q))
first-decoded past before q picture here =
    let p : Fact = fact before q in
    let l : Look = look past p in
    let outputs : List Case = output_cases past (judged past p) in
    let mid : List Case = mid_cases (placed_in past) l p in
    first-rule past p (of_unit before q) picture
    ∙ first-seen past p picture
    ∙ first_four (before_pictures past p) (picture_cases l p) outputs mid
    ∙ ap (λ x. option_or (option_or (option_or (first_of (before_pictures past p)) x) (first_of outputs)) (first_of mid)) (pictures-decoded l p picture here)
    ∙ sym (first_four (before_pictures past p) (decoded_cases l p) outputs mid)

pub first-skipped : (past : List Judged) (before : List Fact) (q : Placed) → is_picture (fact before q) ≡ true → is_decoded (look past (fact before q)) (fact before q) ≡ false →
    least_rule past (judged past (fact before q))
    ≡ first_of ((before_pictures past (fact before q) ++ (case Rule.NoIrap (no_irap (look past (fact before q)) (fact before q)) ∷ []))
    ++ mid_cases (placed_in past) (look past (fact before q)) (fact before q))
first-skipped past before q picture skipped =
    let p : Fact = fact before q in
    let l : Look = look past p in
    let outputs : List Case = output_cases past (judged past p) in
    let mid : List Case = mid_cases (placed_in past) l p in
    let left : List Case = case Rule.NoIrap (no_irap l p) ∷ [] in
    first-rule past p (of_unit before q) picture
    ∙ first-seen past p picture
    ∙ first_four (before_pictures past p) (picture_cases l p) outputs mid
    ∙ ap (λ x. option_or (option_or (option_or (first_of (before_pictures past p)) x) (first_of outputs)) (first_of mid)) (pictures-skipped l p picture skipped)
    ∙ ap (λ x. option_or (option_or (option_or (first_of (before_pictures past p)) (first_of left)) x) (first_of mid)) (outputs-other past (judged past p) (decoded_is past p (first_slice p picture) ∙ skipped))
    ∙ ap (λ x. option_or x (first_of mid)) (or_none (option_or (first_of (before_pictures past p)) (first_of left)))
    ∙ ap (λ x. option_or x (first_of mid)) (sym (first_append (before_pictures past p) left))
    ∙ sym (first_append (before_pictures past p ++ left) mid)

-- ---- Later segments

later-seen : (past : List Judged) (p : Fact) → is_slice p ≡ true → first_of (tried_as later past (judged past p)) ≡ first_of (before_lists past p ++ list_cases (look past p) p)
unfolding tried_as judged judgement
later-seen past p h = ap (λ ds. first_of (before_lists past p ++ list_cases (look ds p) p)) (asked_is past p h)

pub later-decoded : (past : List Judged) (before : List Fact) (q : Placed) → is_slice (fact before q) ≡ true → is_picture (fact before q) ≡ false →
    (option_map (λ (d : Judged). d.decoded) (picture_before (look past (fact before q)) (fact before q)) otherwise false) ≡ true →
    least_rule past (judged past (fact before q)) ≡ first_of (before_lists past (fact before q) ++ decoded_list_cases (fact before q))
later-decoded past before q slice none here =
    let p : Fact = fact before q in
    let l : Look = look past p in
    later-rule past p (of_unit before q) slice none
    ∙ later-seen past p slice
    ∙ first_append (before_lists past p) (list_cases l p)
    ∙ ap (λ x. option_or (first_of (before_lists past p)) x) (lists-decoded l p none here)
    ∙ sym (first_append (before_lists past p) (decoded_list_cases p))

pub later-skipped : (past : List Judged) (before : List Fact) (q : Placed) → is_slice (fact before q) ≡ true → is_picture (fact before q) ≡ false →
    (option_map (λ (d : Judged). d.decoded) (picture_before (look past (fact before q)) (fact before q)) otherwise false) ≡ false →
    least_rule past (judged past (fact before q)) ≡ first_of (before_lists past (fact before q))
later-skipped past before q slice none skipped =
    let p : Fact = fact before q in
    let l : Look = look past p in
    later-rule past p (of_unit before q) slice none
    ∙ later-seen past p slice
    ∙ first_append (before_lists past p) (list_cases l p)
    ∙ ap (λ x. option_or (first_of (before_lists past p)) x) (lists-skipped l p none skipped)
    ∙ or_none (first_of (before_lists past p))
