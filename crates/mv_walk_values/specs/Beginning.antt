-- A decoded picture is begun with its start, its references and its first segment (8.3.2, F.8.1.6; this project's profile).
-- Histories have the latest first.
use Rattle.std.specs.Prelude.{◌≡◌, ◌<◌, ℕ, ℤ, Bool, true, false, not, List, [], ◌∷◌, ◌++◌, map, length, get_or, Option, Some, None, option_map}
use Rattle.std.specs.List.{filter, filter_map}
use Rattle.mv_dpb.specs.declared.held.Keep.{Keep}
use Rattle.mv_dpb.specs.declared.shown.Shown.{Shown}
use Rattle.mv_dpb.specs.Waiting.{WaitingValue}
use Rattle.mv_pictures.specs.Facts.{Fact}
use Rattle.mv_pictures.specs.Held.{Held, held, match_of}
use Rattle.mv_pictures.specs.History.{judged}
use Rattle.mv_pictures.specs.Judged.{Judged, au, layer, vps_at}
use Rattle.mv_pictures.specs.Layers.{view}
use Rattle.mv_pictures.specs.Look.{Look, look}
use Rattle.mv_pictures.specs.Output.{count_of, is_output}
use Rattle.mv_pictures.specs.References.{inter_layer, is_used, is_zero_side, segment, start_of}
use Rattle.mv_pictures.specs.SliceFields.{entries}
use Rattle.mv_pictures.specs.Starts.{is_sequence_start, is_start}
use Rattle.mv_pictures.specs.Terms.{Segment, Start, Tag, Term, before, after, long, inter_zero, inter_one}
use Rattle.mv_commuting.specs.HeldOneMore.{held_of}
use Rattle.mv_rebuild.specs.Parts.{Making, Part, begins, has}
use Rattle.mv_rps.specs.Resolving.{kept_of}
use Rattle.mv_rps.specs.Standing.{au_kept, set_for, told}
use Rattle.mv_walk_layer.specs.LayerValue.{LayerValue, last_picture, no_pictures, referred, told_held}
use Rattle.mv_walk_layer.specs.Standing.{IsSound}
use Rattle.mv_walk_order.specs.Queue.{pictures_in}
use Rattle.mv_walk_values.specs.Holding.{HoldsValues}
use Rattle.mv_walk_values.specs.InMaking.{MadeValue}
use Rattle.mv_walk_values.specs.Showing.{ShowsValues, latest_sequence}

-- ---- Its references

-- the pictures of its layer that stay held, the parts of its reference picture set by their indexes among these, and the parts of
-- its inter-layer set by their layers
pub record Referring : Type 0 where
  pub keep : List Keep
  pub before : List ℕ
  pub after : List ℕ
  pub long : List ℕ
  pub zero : List ℕ
  pub one : List ℕ

-- indexes stand for the pictures that the used entries of a part match, by their access units
abbrev pub ArePart : Look → Fact → List Keep → Tag → List ℕ → Type 0
ArePart l p keep tag indexes =
    map (au_kept (told (held l p)) keep) indexes ≡ map (λ (h : Held). Some (au h.it.fact)) (filter_map (match_of l p) (filter (is_used tag) (entries p)))

-- the layers of the inter-layer reference pictures that pass a test
abbrev pub layers_between : Look → Fact → (Judged → Bool) → List ℕ
layers_between l p test = map (λ (r : Judged × Term). layer r.0.fact) (filter (λ (r : Judged × Term). test r.0) (inter_layer l p))

-- they are those of a picture of a stream
pub record AreReferences (past : List Judged) (p : Fact) (r : Referring) : Type 0 where
  pub keep : r.keep ≡ kept_of (set_for (look past p) p) (told (held (look past p) p))
  pub befores : ArePart (look past p) p r.keep before r.before
  pub afters : ArePart (look past p) p r.keep after r.after
  pub longs : ArePart (look past p) p r.keep long r.long
  pub zeros : r.zero ≡ layers_between (look past p) p (is_zero_side p)
  pub ones : r.one ≡ layers_between (look past p) p (λ d. not (is_zero_side p d))

-- ---- Its parts

-- a part of its reference picture set, and one of its inter-layer set
abbrev pub own_parts : {P : Type 0} → LayerValue P → List Keep → Tag → List ℕ → List (Part P)
own_parts {P} l keep tag indexes = filter_map (λ i. option_map (λ (q : ℤ × P). Part.refers tag q.1) (referred keep i l)) indexes

abbrev pub inter_parts : {P : Type 0} → List (LayerValue P) → Tag → List ℕ → List (Part P)
inter_parts {P} layers tag ns = filter_map (λ n. option_map (λ (q : ℤ × P). Part.refers tag q.1) (last_picture (get_or layers n no_pictures))) ns

-- all that a picture of layer n is begun with, in order
abbrev pub begun_parts : {P : Type 0} → List (LayerValue P) → ℕ → Referring → Start → Segment → List (Part P)
begun_parts layers n r start segment =
    (begins start ∷ []) ++ own_parts (get_or layers n no_pictures) r.keep before r.before ++ own_parts (get_or layers n no_pictures) r.keep after r.after ++ own_parts (get_or layers n no_pictures) r.keep long r.long
    ++ inter_parts layers inter_zero r.zero ++ inter_parts layers inter_one r.one ++ (has segment ∷ [])

-- ---- Before and behind it

-- all is ready for a picture of a stream: none is in the making; where it starts a sequence, none is held and none waits; and else
-- what is held of its layer is told and sound, unless it is a start
pub record ValuesReady {P : Type 0} (rebuild : List (Part P) → P) (o : ℕ) (past : List Judged) (p : Fact) (layers : List (LayerValue P)) (q : Option (WaitingValue P)) (shown : List (Shown × P)) : Type 0 where
  pub all : length layers ≡ 64
  pub forgotten : is_sequence_start (look past p) p ≡ true → (n : ℕ) → n < 64 → (get_or layers n no_pictures).buffer ≡ []
  pub held : is_sequence_start (look past p) p ≡ false → (n : ℕ) → n < 64 → HoldsValues rebuild (get_or layers n no_pictures) past n None
  pub told_is : is_start (look past p) p ≡ false → told_held (get_or layers (layer p) no_pictures) ≡ told (held_of past (layer p))
  pub sound : is_start (look past p) p ≡ false → IsSound (held_of past (layer p))
  pub none_wait : is_sequence_start (look past p) p ≡ true → pictures_in q ≡ []
  pub output : ShowsValues rebuild o past false q shown

-- a picture is in the making that was begun with these references
pub record IsBegunWith {W P : Type 0} (meaning : Making W P) (o : ℕ) (past : List Judged) (p : Fact) (layers : List (LayerValue P)) (r : Referring) (m : MadeValue W) : Type 0 where
  pub work_stands : meaning.stands m.work (begun_parts layers (layer p) r (start_of (judged past p)) (segment (judged past p)))
  pub shown_is : m.shown ≡ record { sequence = latest_sequence (judged past p ∷ past); count = count_of (judged past p); layer = layer p; view = view (vps_at p) (layer p) }
  pub au_is : m.au ≡ au p
  pub output_is : m.output ≡ is_output o (judged past p)
