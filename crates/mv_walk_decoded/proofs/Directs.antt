-- The direct reference layers of a layer are below it, and so below 64.
use Rattle.std.proofs.Common.{◌≡◌, ℕ, ◌<◌, Bool, true, ◌||◌, All, List, [], ◌∷◌, Option, None, Some, refl, sym, subst, arith}
use Rattle.std.specs.Prelude.{nat_eq}
use Rattle.std.proofs.lemmas.Bool.{eq-eqb, or_left, or_right}
use Rattle.std.proofs.lemmas.List.Elements.{All-cons, All-nil}
use Rattle.mv_syntax.specs.Table.{Valid, when}
use Rattle.mv_syntax.specs.Words.{is_set}
use Rattle.mv_layers.specs.LayerInfos.{directs_of}
use Rattle.mv_layers.specs.OutputLayers.{is_among}
use Rattle.mv_vpsext.specs.VpsExt.{VpsExtValue, vps_extension}
use Rattle.mv_vps.specs.Base.{args_of}
use Rattle.mv_vps.specs.Vps.{ValidVps, VpsValue, WholeVps, described, vps_fields}
use Rattle.mv_pictures.specs.Layers.{directs, layers_at}
use Rattle.mv_walk_decoded.specs.Actives.{in_place}
use Rattle.mv_walk_decoded.proofs.Lower.{Orderly, orderly_alone, orderly_ext}

extension-valid : (v : VpsValue) → Valid vps_fields v → Valid (when (is_set v.base.vps_extension_flag) (vps_extension (args_of v.base))) v.extension
unfolding vps_fields
extension-valid v h = h.0.1.0

described-orderly : (v : VpsValue) → Valid vps_fields v → Orderly (described (args_of v.base) v.extension)
described-orderly v h = go v.extension (extension-valid v h)
  where
    go : (ext : Option VpsExtValue) → Valid (when (is_set v.base.vps_extension_flag) (vps_extension (args_of v.base))) ext → Orderly (described (args_of v.base) ext)
    go None valid = orderly_alone
    go (Some ext) valid = orderly_ext (args_of v.base) ext valid.1

all-among : (m : ℕ) (xs : List ℕ) → ((n : ℕ) → is_among xs n ≡ true → n < m) → All (λ n. n < m) xs
all-among m [] h = All-nil (λ n. n < m)
all-among m (x ∷ xs) h =
    All-cons (λ n. n < m) x xs (h x (or_left (nat_eq x x) (is_among xs x) (eq-eqb x x refl)))
    (all-among m xs (λ n e. h n (or_right (nat_eq x n) (is_among xs n) e)))

pub directs-few : (v : WholeVps) (layer : ℕ) → ValidVps v → layer < 64 → All (λ n. n < 64) (directs (in_place v) layer)
unfolding directs layers_at
directs-few v layer h few =
    let orderly : Orderly v.derived = subst (λ d. Orderly d) (sym h.derived) (described-orderly v.coded.0 h.payload.fields) in
    all-among 64 (directs_of v.derived.layers layer) (λ n e. let lower : n < layer = orderly.below layer n e in omega (arith, lower, few))
