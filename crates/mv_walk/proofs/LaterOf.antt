-- The next unit of a stream, a segment that isn't the first one of its picture, as what is kept of pictures is asked of it.
use Rattle.std.proofs.Common.{◌≡◌, ℕ, true, false, List, Option, None, Some, refl, ap, sym, subst, ◌∙◌}
use Rattle.std.specs.Prelude.{option_map, Ok}
use Rattle.std.specs.List.{find}
use Rattle.std.proofs.lemmas.Bool.{eq-eqb}
use Rattle.mv_syntax.specs.Words.{◌otherwise◌}
use Rattle.mv_units.specs.declared.head.UnitHead.{UnitHead}
use Rattle.mv_slice.specs.declared.slice.SliceHead.{SliceHead}
use Rattle.mv_vps.specs.Vps.{WholeVps}
use Rattle.mv_pictures.specs.AccessUnits.{Placed, begins, number, placed}
use Rattle.mv_pictures.specs.Facts.{Fact}
use Rattle.mv_pictures.specs.History.{history_of}
use Rattle.mv_pictures.specs.Items.{is_picture, is_slice}
use Rattle.mv_pictures.specs.Judged as judgements
use Rattle.mv_pictures.specs.Judged.{Judged, au, in_au}
use Rattle.mv_pictures.specs.Layers.{whole}
use Rattle.mv_commuting.specs.OneMore.{fact_behind}
use Rattle.mv_au.specs.Tracker.{broken}
use Rattle.mv_walk_segment.specs.Open as open_picture
use Rattle.mv_walk_segment.specs.OpenValue.{OpenValue}
use Rattle.mv_walk_segment.specs.Serving.{IsHeader}
use Rattle.mv_walk_sets.specs.InForce.{VpsInForceValue}
use Rattle.mv_walk_laws.specs.Streams.{item_behind, placed_behind, placed_units}
use Rattle.mv_walk_laws.specs.Parts.{HasPicture}
use Rattle.mv_walk_laws.proofs.Laters.{later-picture}
use Rattle.mv_walk_laws.proofs.OneMore.{fact-told, placed-of}
use Rattle.mv_walk_laws.proofs.Steps.{joins-same}
use Rattle.mv_walk.specs.Courses.{Stood}
use Rattle.mv_walk.specs.Decoders.{DecoderStands, IsOpen}
use Rattle.mv_walk.specs.Laters.{CanAdd, IsNextOf}
use Rattle.mv_walk.specs.declared.course.Course.{Course}

-- ---- The open picture

-- where the latest picture is of the access unit, one is open
open-there : (v : WholeVps) (picture : Option OpenValue) (past : List Judged) (n k : ℕ) → HasPicture past k n → open_picture.Stands v picture past n → picture ≡ None → ⊥
open-there v None past n k has h none =
    let here : (option_map (in_au n) (find (λ (d : Judged). judgements.is_picture d.fact) past) otherwise false) ≡ true =
    ap (λ o. option_map (in_au n) o otherwise false) has.latest ∙ eq-eqb (au has.it.fact) n has.here in
    let wrong : true ≡ false = sym here ∙ h in cc
open-there v (Some it) past n k has h none = let wrong : Some it ≡ None = none in cc

-- it is of the segment's layer
open-layer : (v : WholeVps) (it : OpenValue) (past : List Judged) (n k : ℕ) → HasPicture past k n → open_picture.IsOpen v it past n → it.head.layer ≡ k
open-layer v it past n k has h =
    let same : h.first ≡ has.it = (let e : Some h.first ≡ Some has.it = sym h.picture ∙ has.latest in cc) in
    ap (λ (i : UnitHead). i.layer) (sym h.head_is) ∙ ap (λ (d : Judged). judgements.layer d.fact) same ∙ has.layer_is

pub next-is : (v : WholeVps) (it : OpenValue) (us : List (List ℕ)) (u : List ℕ) (h : UnitHead) (header : SliceHead) → open_picture.IsOpen v it (history_of us) (number (placed_units us) (item_behind us u)) →
    is_slice (item_behind us u) ≡ true → is_picture (item_behind us u) ≡ false → whole (item_behind us u).at ≡ Some v → (item_behind us u).head ≡ h → IsHeader header (fact_behind us u) →
    broken (placed_units us) (placed_behind us u) ≡ None → open_picture.IsNext v it h header (history_of us) (placed_behind us u)
unfolding placed
next-is v it us u h header opened slice later vps head is unit =
    let has : HasPicture (history_of us) (item_behind us u).head.layer (number (placed_units us) (item_behind us u)) = later-picture us u slice later unit in
    record {
      stands = opened;
      slice = slice;
      later = later;
      vps_is = vps;
      head_is = head;
      layer_is = ap (λ (i : UnitHead). i.layer) (sym head) ∙ sym (open-layer v it (history_of us) (number (placed_units us) (item_behind us u)) (item_behind us u).head.layer has opened);
      opening_is = subst (λ (q : Placed). q.item.opening ≡ Some header.opening) (placed-of us u) is.opening_is;
      header_is = subst (λ (p : Fact). p.header ≡ Some (Ok header)) (fact-told us u) is.header_is;
    }

-- what is kept of pictures at the segment
pub decoder-here : {R W P : Type 0} (c : Course R W P) (us : List (List ℕ)) (u : List ℕ) → Stood c us → begins (placed_units us) (item_behind us u) ≡ false →
    DecoderStands c.decoder c.vps (history_of us) (number (placed_units us) (item_behind us u))
decoder-here c us u s goes = subst (DecoderStands c.decoder c.vps (history_of us)) (sym (joins-same us u goes)) s.decoder_is

-- ---- All that is asked

-- what may be asked, and what is, whether a picture is open or not: one is
pub can-add : (v : VpsInForceValue) (picture : Option OpenValue) (us : List (List ℕ)) (u : List ℕ) (h : UnitHead) (header : SliceHead) → IsOpen v.value picture (history_of us) (number (placed_units us) (item_behind us u)) →
    is_slice (item_behind us u) ≡ true → is_picture (item_behind us u) ≡ false → whole (item_behind us u).at ≡ Some v.value → (item_behind us u).head ≡ h → IsHeader header (fact_behind us u) →
    broken (placed_units us) (placed_behind us u) ≡ None → CanAdd v.value picture h header × IsNextOf v.value picture h header (history_of us) (placed_behind us u)
can-add v None us u h header opened slice later vps head is unit =
    absurd (open-there v.value None (history_of us) (number (placed_units us) (item_behind us u)) (item_behind us u).head.layer (later-picture us u slice later unit) opened.stands refl)
can-add v (Some it) us u h header opened slice later vps head is unit =
    let next : open_picture.IsNext v.value it h header (history_of us) (placed_behind us u) = next-is v.value it us u h header opened.stands slice later vps head is unit in
    ((record { past = history_of us; placed = placed_behind us u; next = next }, opened.serving, opened.few), next)
