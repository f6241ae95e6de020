-- vps_extension (F.7.3.2.1.1), part by part: each part is a run of its lines.
use Rattle.std.specs.Prelude.{List, refl}
use Rattle.mv_syntax.specs.Table.{Table, ◌>>=◌, shaped}
use Rattle.mv_syntax.specs.Words.{◌▸◌, ◌>>◌}
use Rattle.mv_vpsext.specs.Args.{VpsArgsValue}
use Rattle.mv_layers.specs.LayerInfos.{LayerInfoValue}
use Rattle.mv_layers.specs.OutputLayers.{OlsLayers}
use Rattle.mv_vpslayers.specs.Layers.{layers_described}
use Rattle.mv_vpslayers.specs.Dimensions.{VpsDimensionsValue, dimensions}
use Rattle.mv_vpslayers.specs.Dependencies.{VpsDependenciesValue, dependencies}
use Rattle.mv_vpsext.specs.Profiles.{VpsProfilesValue, profiles}
use Rattle.mv_vpssets.specs.OutputSets.{VpsOutputSetsValue, output_sets}
use Rattle.mv_vpsext.specs.Formats.{VpsFormatsValue, formats}
use Rattle.mv_vpssets.specs.DpbSizes.{DpbSetValue, dpb_size}
use Rattle.mv_vpsext.specs.Pictures.{VpsPicturesValue, pictures}
use Rattle.mv_vpslayers.specs.DependencyTypes.{VpsDependencyTypesValue, types}
use Rattle.mv_vpsext.specs.ExtEnding.{VpsExtEndingValue, ext_ending}
use Rattle.mv_vpssets.specs.Sets.{all_sets, all_dpb_layers}

-- the fields in coded order, in parts
pub record VpsExtValue : Type 0 where
  pub dimensions : VpsDimensionsValue
  pub dependencies : VpsDependenciesValue
  pub profiles : VpsProfilesValue
  pub output_sets : VpsOutputSetsValue
  pub formats : VpsFormatsValue
  pub pictures : VpsPicturesValue
  pub dpb_size : List DpbSetValue
  pub dependency_types : VpsDependencyTypesValue
  pub ending : VpsExtEndingValue

-- what the first two parts say of each layer
abbrev pub ext_layers : VpsArgsValue → VpsDimensionsValue → VpsDependenciesValue → List LayerInfoValue
ext_layers args scalability references =
    layers_described args.vps_max_layers_minus1 scalability.layers scalability.view_id_val references.direct_dependency_flag

-- dpb_size, of the output layer sets that the parts before it give
unfoldable pub dpb_sizes : VpsArgsValue → List LayerInfoValue → VpsDependenciesValue → List OlsLayers → Table (List DpbSetValue)
dpb_sizes args infos references sets = dpb_size (all_dpb_layers infos args.vps_max_sub_layers_minus1 references.sub_layers_vps_max_minus1 sets)

unfoldable pub vps_extension : VpsArgsValue → Table VpsExtValue
vps_extension args = shaped
    (λ (dimensions, (dependencies, (profiles, (output_sets, (formats, (pictures, (dpb_size, (dependency_types, ending)))))))). record {
      dimensions = dimensions;
      dependencies = dependencies;
      profiles = profiles;
      output_sets = output_sets;
      formats = formats;
      pictures = pictures;
      dpb_size = dpb_size;
      dependency_types = dependency_types;
      ending = ending;
    })
    (λ v.
    v.dimensions
    ▸ v.dependencies
    ▸ v.profiles
    ▸ v.output_sets
    ▸ v.formats
    ▸ v.pictures
    ▸ v.dpb_size
    ▸ v.dependency_types
    ▸ v.ending)
    (λ _. refl)
    do
      scalability ← dimensions args.vps_max_layers_minus1 args.vps_max_sub_layers_minus1
      references ← dependencies args.vps_max_layers_minus1 scalability args.layer_id_included_flag
      levels ← profiles args.vps_max_sub_layers_minus1
      outputs ← output_sets (ext_layers args scalability references) args.layer_id_included_flag levels.vps_num_profile_tier_level_minus1
      formats args.vps_max_layers_minus1
      pictures args.vps_max_layers_minus1 references.direct_dependency_flag
      dpb_sizes args (ext_layers args scalability references) references (all_sets (ext_layers args scalability references) args.layer_id_included_flag outputs)
      types args.vps_max_layers_minus1 references.direct_dependency_flag
      ext_ending
