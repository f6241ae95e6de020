-- Fields that agree: `==` on slices, and the answer by what is asked.
use Rattle.std.proofs.Common.{◌≡◌, ℕ, Bool, true, false, not, ◌&&◌, ◌||◌, List, [], ◌∷◌, Option, Some, None, refl, ap, sym, ◌∙◌, if◌then◌else◌}
use Rattle.std.specs.Prelude.{⊤, nat_eq, nat_le, nat_lt, is_some, option_map, Result, Ok, Err}
use Rattle.std.specs.Option.{option_eq}
use Rattle.std.specs.Cmp.Lexicographic.{pointwise}
use Rattle.std.proofs.lemmas.Option.{same_Some}
use Rattle.mv_syntax.specs.Words.{◌otherwise◌, is_set, or_zero}
use Rattle.mv_rules.specs.declared.rule.Rule.{Rule}
use Rattle.mv_units.specs.declared.head.UnitHead.{UnitHead}
use Rattle.mv_slice.specs.declared.slice.SliceHead.{SliceHead}
use Rattle.mv_slice.specs.declared.long_terms.LongTerm.{LongTerm}
use Rattle.mv_slice.specs.Context.{SliceContextValue}
use Rattle.mv_pictures.specs.AccessUnits.{tid}
use Rattle.mv_pictures.specs.Facts.{Fact, own_picture}
use Rattle.mv_pictures.specs.Judged.{kind}
use Rattle.mv_pictures.specs.SliceFields.{full_of}
use Rattle.mv_pictures.specs.SliceRules.{address, address_order, agrees, follows, full_agrees, is_bad_address, same_field, same_list, same_long_term, same_opening, same_option, segment_before, slice_differs}
use Rattle.mv_au.specs.Agreement.{IsLater, IsSegment, agrees_by, answer, is_bad_by}

pub same_list-is : {A : Type 0} (f g : A → A → Bool) → ((a b : A) → f a b ≡ g a b) → (xs ys : List A) → pointwise f xs ys ≡ same_list g xs ys
unfolding same_list
same_list-is f g h [] [] = refl
same_list-is f g h [] (y ∷ ys) = refl
same_list-is f g h (x ∷ xs) [] = refl
same_list-is f g h (x ∷ xs) (y ∷ ys) = ap (λ b. b && pointwise f xs ys) (h x y) ∙ ap (λ b. g x y && b) (same_list-is f g h xs ys)

-- what is answered by whether the segment differs and its address is bad
abbrev pub told : Bool → Bool → Result ⊤ Rule
told differs bad = if differs then Err Rule.SliceDiffers else if bad then Err Rule.AddressOrder else Ok tt

module _ (first_head next_head : UnitHead) (first next : SliceHead) (last_address : ℕ) (ctx : SliceContextValue) (past : List Fact) (f p : Fact)
    (first_is : IsSegment first_head first f) (next_is : IsSegment next_head next p) (later : IsLater last_address ctx past f p) where
  agrees-is : agrees_by first first_head next_head next ≡ agrees p f
  unfolding agrees same_option
  agrees-is =
      ap (λ (h : UnitHead). nat_eq h.kind first_head.kind && nat_eq h.tid first_head.tid && same_opening next.opening first.opening && full_agrees next.full first.full) next_is.head_is
      ∙ ap (λ (h : UnitHead). nat_eq (kind p) h.kind && nat_eq (tid p.placed) h.tid && same_opening next.opening first.opening && full_agrees next.full first.full) first_is.head_is
      ∙ sym (
      ap (λ o. nat_eq (kind p) (kind f) && nat_eq (tid p.placed) (tid f.placed) && same_option same_opening o f.placed.item.opening && full_agrees (full_of p) (full_of f)) next_is.opening_is
      ∙ ap (λ o. nat_eq (kind p) (kind f) && nat_eq (tid p.placed) (tid f.placed) && same_option same_opening (Some next.opening) o && full_agrees (full_of p) (full_of f)) first_is.opening_is
      ∙ ap (λ o. nat_eq (kind p) (kind f) && nat_eq (tid p.placed) (tid f.placed) && same_opening next.opening first.opening && full_agrees o (full_of f)) (full-is next_head next p next_is)
      ∙ ap (λ o. nat_eq (kind p) (kind f) && nat_eq (tid p.placed) (tid f.placed) && same_opening next.opening first.opening && full_agrees next.full o) (full-is first_head first f first_is)
      )
    where
      full-is : (head : UnitHead) (v : SliceHead) (q : Fact) → IsSegment head v q → full_of q ≡ v.full
      full-is head v q seen = ap (λ (o : Option SliceHead). elim o [ Some h ↦ h.full | None ↦ None ]) seen.header_is

  differs-is : not (agrees_by first first_head next_head next) ≡ slice_differs past p
  unfolding slice_differs
  differs-is =
      ap not agrees-is
      ∙ sym (ap (λ b. b && (option_map (λ first. not (agrees p first)) (own_picture past p.placed) otherwise false)) later.slice ∙ ap (λ o. option_map (λ first. not (agrees p first)) o otherwise false) later.picture)

  address-is : address p ≡ or_zero next.address.slice_segment_address
  unfolding address
  address-is = ap (λ o. option_map (λ (h : SliceHead). or_zero h.address.slice_segment_address) o otherwise 0) next_is.header_is

  bad-is : is_bad_by last_address next ctx ≡ is_bad_address past p ctx
  unfolding is_bad_address
  bad-is =
      let a : ℕ = or_zero next.address.slice_segment_address in
      let flag : Bool = not (is_set ctx.tiles_enabled_flag) in
      sym (ap (λ b. nat_eq (address p) 0 || nat_le ctx.ctbs (address p) || (flag && not b)) (before-is (segment_before past p) later.before)
      ∙ ap (λ n. nat_eq n 0 || nat_le ctx.ctbs n || (flag && not (nat_lt last_address n))) address-is)
    where
      before-is : (o : Option Fact) → option_map address o ≡ Some last_address → (option_map (follows p) o otherwise true) ≡ nat_lt last_address (address p)
      before-is None h = absurd (let wrong : None ≡ Some last_address = h in cc)
      before-is (Some e) h = ap (λ n. nat_lt n (address p)) (same_Some (address e) last_address h)

  order-is : is_bad_by last_address next ctx ≡ address_order past p
  unfolding address_order
  order-is =
      bad-is
      ∙ sym (
      ap (λ b. b && is_some (own_picture past p.placed) && (option_map (is_bad_address past p) p.context otherwise false)) later.slice
      ∙ ap (λ o. is_some o && (option_map (is_bad_address past p) p.context otherwise false)) later.picture
      ∙ ap (λ o. option_map (is_bad_address past p) o otherwise false) later.context
      )

  pub answer-is : told (not (agrees_by first first_head next_head next)) (is_bad_by last_address next ctx) ≡ answer past p
  unfolding answer
  answer-is =
      ap (λ b. told b (is_bad_by last_address next ctx)) differs-is ∙ ap (told (slice_differs past p)) order-is

-- ---- `==` at the entries

pub same_coded : (a b : Option ℕ) → option_eq nat_eq a b ≡ same_field a b
unfolding same_option
same_coded None None = refl
same_coded None (Some b) = refl
same_coded (Some a) None = refl
same_coded (Some a) (Some b) = refl

leftwards : (a b c d e : Bool) → (a && (b && (c && (d && e)))) ≡ (a && b && c && d && e)
leftwards true true true d e = refl
leftwards true true false d e = refl
leftwards true false c d e = refl
leftwards false b c d e = refl

pub same_entry : (a b : LongTerm) →
    (option_eq nat_eq a.lt_idx_sps b.lt_idx_sps
    && (option_eq nat_eq a.poc_lsb_lt b.poc_lsb_lt
    && (option_eq nat_eq a.used_by_curr_pic_lt_flag b.used_by_curr_pic_lt_flag
    && (nat_eq a.delta_poc_msb_present_flag b.delta_poc_msb_present_flag && option_eq nat_eq a.delta_poc_msb_cycle_lt b.delta_poc_msb_cycle_lt)))) ≡ same_long_term a b
unfolding same_long_term
same_entry a b =
    let present : Bool = nat_eq a.delta_poc_msb_present_flag b.delta_poc_msb_present_flag in
    let lsb : Bool = option_eq nat_eq a.poc_lsb_lt b.poc_lsb_lt in
    let used : Bool = option_eq nat_eq a.used_by_curr_pic_lt_flag b.used_by_curr_pic_lt_flag in
    let cycle : Bool = option_eq nat_eq a.delta_poc_msb_cycle_lt b.delta_poc_msb_cycle_lt in
    leftwards (option_eq nat_eq a.lt_idx_sps b.lt_idx_sps) lsb used present cycle
    ∙ ap (λ x. x && lsb && used && present && cycle) (same_coded a.lt_idx_sps b.lt_idx_sps)
    ∙ ap (λ x. same_field a.lt_idx_sps b.lt_idx_sps && x && used && present && cycle) (same_coded a.poc_lsb_lt b.poc_lsb_lt)
    ∙ ap (λ x. same_field a.lt_idx_sps b.lt_idx_sps && same_field a.poc_lsb_lt b.poc_lsb_lt && x && present && cycle) (same_coded a.used_by_curr_pic_lt_flag b.used_by_curr_pic_lt_flag)
    ∙ ap (λ x. same_field a.lt_idx_sps b.lt_idx_sps && same_field a.poc_lsb_lt b.poc_lsb_lt && same_field a.used_by_curr_pic_lt_flag b.used_by_curr_pic_lt_flag && present && x) (same_coded a.delta_poc_msb_cycle_lt b.delta_poc_msb_cycle_lt)
