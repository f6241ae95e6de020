-- What the latest picture of an access unit stands for behind its first segment, and behind units that are no slice segments.
use Rattle.std.proofs.Common.{◌≡◌, ℕ, ◌<◌, Bool, true, false, cond, ◌&&◌, List, [], ◌∷◌, Option, Some, None, option_map, Result, Ok, Err, refl, sym, ap, ◌∙◌, if◌then◌else◌, arith}
use Rattle.std.specs.Prelude.{All, nat_eq, option_and_then}
use Rattle.std.specs.List.{find}
use Rattle.std.proofs.lemmas.Bool.{and_from, and_left, and_right, eq-eqb, ne_eqb}
use Rattle.std.proofs.lemmas.List.Elements.{All-head, All-tail}
use Rattle.mv_syntax.specs.Bits.{Fault}
use Rattle.mv_syntax.specs.Words.{◌otherwise◌, or_zero}
use Rattle.mv_slice.specs.declared.slice.SliceHead.{SliceHead}
use Rattle.mv_vps.specs.Vps.{WholeVps}
use Rattle.mv_pictures.specs.Facts.{Fact}
use Rattle.mv_pictures.specs.History.{judged, judgement}
use Rattle.mv_pictures.specs.Items.{is_first_segment}
use Rattle.mv_pictures.specs.Judged.{Judged, au, begins, in_au, is_base, is_picture, is_slice, layer, of_layer}
use Rattle.mv_pictures.specs.Look.{asked, in_sequence, look}
use Rattle.mv_pictures.specs.SliceRules.{address}
use Rattle.mv_pictures.specs.Starts.{is_sequence_start}
use Rattle.mv_walk_segment.specs.OpenValue.{OpenValue}
use Rattle.mv_walk_segment.specs.Open.{IsFirst, IsOpen, Stands, is_segment_of}
use Rattle.mv_walk_segment.proofs.ListLaws.{in_sequence-more}

-- ---- A unit that is no slice segment

module _ (past : List Judged) (p : Fact) (other : is_slice p ≡ false) where
  abbrev j : Judged
  j = judged past p

  other_picture : is_picture p ≡ false
  other_picture = and_left (is_slice p) (is_first_segment p.placed.item.opening) other

  other_begins : begins j ≡ false
  unfolding judged judgement is_sequence_start
  other_begins =
      and_right (of_layer 0 j) (is_sequence_start (look (asked past p) p) p) (and_left (is_base p) _ (and_right (nat_eq (layer p) 0) (is_picture p) other_picture))

  other-own : (test : Judged → Bool) (n : ℕ) → test j ≡ false → find test (in_sequence (j ∷ past) n) ≡ find test (in_sequence past n)
  other-own test n no_test =
      ap (find test) (in_sequence-more j past n)
      ∙ ap (λ (b : Bool). find test (if of_layer n j then j ∷ (if b then [] else in_sequence past n) else (if b then [] else in_sequence past n))) other_begins
      ∙ go (of_layer n j)
    where
      go : (b : Bool) → find test (if b then j ∷ in_sequence past n else in_sequence past n) ≡ find test (in_sequence past n)
      go true = ap (λ (b : Bool). cond b (Some j) (find test (in_sequence past n))) no_test
      go false = refl

  other-find : (test : Judged → Bool) → test j ≡ false → find test (j ∷ past) ≡ find test past
  other-find test no_test = ap (λ (b : Bool). cond b (Some j) (find test past)) no_test

  pub other-stands : (vps : WholeVps) (picture : Option OpenValue) (current : ℕ) → Stands vps picture past current → Stands vps picture (j ∷ past) current
  unfolding judged judgement
  other-stands vps None current h =
      ap (λ (o : Option Judged). option_map (in_au current) o otherwise false) (other-find (λ (d : Judged). is_picture d.fact) other_picture) ∙ h
  other-stands vps (Some opened) current h =
      let n : ℕ = layer h.first.fact in
      record {
        first = h.first;
        last = h.last;
        picture = other-find (λ (d : Judged). is_picture d.fact) other_picture ∙ h.picture;
        au_is = h.au_is;
        segment = other-find (is_segment_of n current) (and_left (is_slice p) _ other) ∙ h.segment;
        own_picture = other-own (λ (d : Judged). is_picture d.fact && in_au current d) n (and_left (is_picture p) _ other_picture) ∙ h.own_picture;
        own_segment = other-own (λ (d : Judged). is_slice d.fact && in_au current d) n (and_left (is_slice p) _ other) ∙ h.own_segment;
        vps_is = h.vps_is;
        head_is = h.head_is;
        sets_are = h.sets_are;
        context_is = h.context_is;
        opening_is = h.opening_is;
        header_is = h.header_is;
        address_is = h.address_is;
        decoded_is = h.decoded_is;
        lists_are = h.lists_are;
      }

-- ---- A new access unit has no picture

pub none-stands : (vps : WholeVps) (past : List Judged) (current : ℕ) → All (λ (d : Judged). au d.fact < current) past → Stands vps None past current
none-stands vps [] current h = refl
none-stands vps (d ∷ past) current h = go (is_picture d.fact) (none-stands vps past current (All-tail (λ (e : Judged). au e.fact < current) d past h))
  where
    below : au d.fact < current
    below = All-head (λ (e : Judged). au e.fact < current) d past h

    go : (b : Bool) → (option_map (in_au current) (find (λ (e : Judged). is_picture e.fact) past) otherwise false) ≡ false
        → (option_map (in_au current) (cond b (Some d) (find (λ (e : Judged). is_picture e.fact) past)) otherwise false) ≡ false
    go true rest = ne_eqb (au d.fact) current (λ e. let less : au d.fact < current = below in omega (arith, less, e))
    go false rest = rest

-- ---- The first segment of a picture

pub first-stands : (vps : WholeVps) (opened : OpenValue) (past : List Judged) (p : Fact) → IsFirst vps opened past p → IsOpen vps opened (judged past p ∷ past) (au p)
unfolding judged judgement address
first-stands vps opened past p first =
    let j : Judged = judged past p in
    let n : ℕ = layer p in
    let here : nat_eq (au p) (au p) ≡ true = eq-eqb (au p) (au p) refl in
    let same : nat_eq n n ≡ true = eq-eqb n n refl in
    let rest : List Judged = if begins j then [] else in_sequence past n in
    let mine : in_sequence (j ∷ past) n ≡ j ∷ rest = in_sequence-more j past n ∙ ap (λ (b : Bool). if b then j ∷ rest else rest) same in
    let of_picture : Judged → Bool = λ d. is_picture d.fact && in_au (au p) d in
    let of_slice : Judged → Bool = λ d. is_slice d.fact && in_au (au p) d in
    record {
      first = j;
      last = j;
      picture = ap (λ (b : Bool). cond b (Some j) (find (λ (d : Judged). is_picture d.fact) past)) first.picture;
      au_is = refl;
      segment =
          ap (λ (b : Bool). cond b (Some j) (find (is_segment_of n (au p)) past))
          (and_from (is_slice p) (nat_eq n n && nat_eq (au p) (au p)) first.slice (and_from (nat_eq n n) (nat_eq (au p) (au p)) same here));
      own_picture = ap (find of_picture) mine ∙ ap (λ (b : Bool). cond b (Some j) (find of_picture rest)) (and_from (is_picture p) (nat_eq (au p) (au p)) first.picture here);
      own_segment = ap (find of_slice) mine ∙ ap (λ (b : Bool). cond b (Some j) (find of_slice rest)) (and_from (is_slice p) (nat_eq (au p) (au p)) first.slice here);
      vps_is = first.vps_is;
      head_is = first.head_is;
      sets_are = first.sets_are;
      context_is = first.context_is;
      opening_is = first.opening_is;
      header_is = first.header_is;
      address_is =
          first.address_is
          ∙ sym (ap (λ (o : Option (Result SliceHead Fault)). option_map (λ (h : SliceHead). or_zero h.address.slice_segment_address) (option_and_then (λ (r : Result SliceHead Fault). elim r [ Ok v ↦ Some v | Err fault ↦ None ]) o) otherwise 0) first.header_is);
      decoded_is = first.decoded_is;
      lists_are = first.lists_are;
    }
