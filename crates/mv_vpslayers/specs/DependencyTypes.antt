-- vps_extension (F.7.3.2.1.1), eighth part, up to direct_dependency_type: the types of references.
use Rattle.std.specs.Prelude.{ℕ, ◌+◌, not, List, Option, refl}
use Rattle.mv_syntax.specs.Table.{Table, ◌>>=◌, u, ue, named, when, shaped}
use Rattle.mv_syntax.specs.Words.{◌▸◌, ◌>>◌, ◌!◌∶◌, over, is_set}
use Rattle.mv_syntax.specs.Loops.{items}
use Rattle.mv_rules.specs.declared.rule.Rule.TheVariants.{DependencyType, VpsLimit}
use Rattle.mv_layers.specs.References.{depends}

-- a type of reference is at most 2, or else breaks DependencyType (25). for i = 1 to vps_max_layers_minus1, for j = 0 to i-1,
-- where layer i refers directly to layer j
unfoldable pub dependency_type : ℕ → List (List ℕ) → ℕ → ℕ → Table (Option ℕ)
dependency_type width flags i j = named "direct_dependency_type" (when (depends flags i j) (u width ! DependencyType ∶ over 2))

unfoldable pub layer_dependency_types : ℕ → List (List ℕ) → ℕ → Table (List (Option ℕ))
layer_dependency_types width flags i = items 0 i (dependency_type width flags i)

unfoldable pub dependency_types : ℕ → ℕ → List (List ℕ) → Table (List (List (Option ℕ)))
dependency_types vps_max_layers_minus1 width flags = items 1 vps_max_layers_minus1 (layer_dependency_types width flags)

pub record VpsDependencyTypesValue : Type 0 where
  pub direct_dep_type_len_minus2 : ℕ
  pub direct_dependency_all_layers_flag : ℕ
  pub direct_dependency_all_layers_type : Option ℕ
  pub direct_dependency_type : Option (List (List (Option ℕ)))

unfoldable pub types : ℕ → List (List ℕ) → Table VpsDependencyTypesValue
types vps_max_layers_minus1 flags = shaped
    (λ (direct_dep_type_len_minus2, (direct_dependency_all_layers_flag, (direct_dependency_all_layers_type, direct_dependency_type))). record {
      direct_dep_type_len_minus2 = direct_dep_type_len_minus2;
      direct_dependency_all_layers_flag = direct_dependency_all_layers_flag;
      direct_dependency_all_layers_type = direct_dependency_all_layers_type;
      direct_dependency_type = direct_dependency_type;
    })
    (λ v.
    v.direct_dep_type_len_minus2
    ▸ v.direct_dependency_all_layers_flag
    ▸ v.direct_dependency_all_layers_type
    ▸ v.direct_dependency_type)
    (λ _. refl)
    do
      direct_dep_type_len_minus2 ← named "direct_dep_type_len_minus2" (ue ! VpsLimit ∶ over 30)
      direct_dependency_all_layers_flag ← named "direct_dependency_all_layers_flag" (u 1)
      named "direct_dependency_all_layers_type" (when (is_set direct_dependency_all_layers_flag) (u (direct_dep_type_len_minus2 + 2) ! DependencyType ∶ over 2))
      when (not (is_set direct_dependency_all_layers_flag)) (dependency_types vps_max_layers_minus1 (direct_dep_type_len_minus2 + 2) flags)
