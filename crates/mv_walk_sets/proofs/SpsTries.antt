-- Which rules the table of sequence parameter sets tries.
use Rattle.std.proofs.Common.{ℕ, Bool, List}
use Rattle.mv_rules.specs.declared.rule.Rule.{Rule}
use Rattle.mv_syntax.specs.Loops.{columns, each, items_after}
use Rattle.mv_pictures.specs.UnitRules.{sps_rules}
use Rattle.std.specs.Prelude.{◌∷◌}
use Rattle.mv_short_sets.specs.ShortSetValue.{ShortSetValue}
use Rattle.mv_sps.specs.Blocks.{blocks}
use Rattle.mv_sps.specs.Coding.{coding}
use Rattle.mv_sps.specs.Extension.{extension}
use Rattle.mv_sps.specs.Format.{picture_format, rep_format}
use Rattle.mv_sps.specs.Opening.{SpsOpeningValue, opening}
use Rattle.mv_sps.specs.Pictures.{pictures}
use Rattle.mv_sps.specs.References.{candidate, candidates, references, short_set, short_sets}
use Rattle.mv_sps.specs.Scaling.{scaling}
use Rattle.mv_sps.specs.Sps.{behind_opening, ending, sps_fields}
use Rattle.mv_sps.specs.Tools.{tools}
use Rattle.mv_sps.specs.Usability.{usability}
use Rattle.mv_walk_sets.specs.Cuts.{is_of}
use Rattle.mv_walk_sets.proofs.Trying.{Tries}

abbrev ok : ℕ → Bool
ok = is_of (Rule.SpsLimit ∷ sps_rules)

tries_opening : (layer : ℕ) (subs : ℕ) → Tries ok (opening layer subs)
unfolding opening
tries_opening layer subs = search depth 40 fits 4000

tries_rep_format : Tries ok rep_format
unfolding rep_format
tries_rep_format = search depth 40 fits 4000

tries_picture_format : Tries ok picture_format
unfolding picture_format
tries_picture_format = search depth 40 fits 4000

tries_pictures : (ext : Bool) (subs : ℕ) → Tries ok (pictures ext subs)
unfolding pictures
tries_pictures ext subs = search (tries_rep_format, tries_picture_format) depth 40 fits 4000

tries_blocks : Tries ok blocks
unfolding blocks
tries_blocks = search depth 40 fits 4000

tries_scaling : (ext : Bool) → Tries ok (scaling ext)
unfolding scaling
tries_scaling ext = search depth 40 fits 4000

tries_tools : Tries ok tools
unfolding tools
tries_tools = search depth 40 fits 4000

tries_short_set : (num : ℕ) (i : ℕ) (before : List ShortSetValue) → Tries ok (short_set num i before)
unfolding short_set
tries_short_set num i before = search depth 40 fits 4000

tries_short_sets : (num : ℕ) → Tries ok (short_sets num)
unfolding short_sets items_after
tries_short_sets num = search (tries_short_set) depth 40 fits 4000

tries_candidate : (lsb_bits : ℕ) → Tries ok (candidate lsb_bits)
unfolding candidate
tries_candidate lsb_bits = search depth 40 fits 4000

tries_candidates : (lsb_bits : ℕ) (n : ℕ) → Tries ok (candidates lsb_bits n)
unfolding candidates columns each
tries_candidates lsb_bits n = search (tries_candidate) depth 40 fits 4000

tries_references : (lsb_bits : ℕ) → Tries ok (references lsb_bits)
unfolding references
tries_references lsb_bits = search (tries_short_sets, tries_candidates) depth 40 fits 4000

tries_coding : (ext : Bool) (lsb_bits : ℕ) → Tries ok (coding ext lsb_bits)
unfolding coding
tries_coding ext lsb_bits = search (tries_blocks, tries_scaling, tries_tools, tries_references) depth 40 fits 4000

tries_usability : (subs : ℕ) → Tries ok (usability subs)
unfolding usability
tries_usability subs = search depth 40 fits 4000

tries_extension : Tries ok extension
unfolding extension
tries_extension = search depth 40 fits 4000

tries_ending : (subs : ℕ) → Tries ok (ending subs)
unfolding ending
tries_ending subs = search (tries_usability, tries_extension) depth 40 fits 4000

tries_behind_opening : (layer : ℕ) (subs : ℕ) (first : SpsOpeningValue) → Tries ok (behind_opening layer subs first)
unfolding behind_opening
tries_behind_opening layer subs first = search (tries_pictures, tries_coding, tries_ending) depth 40 fits 4000

pub tries_sps_fields : (layer : ℕ) (subs : ℕ) → Tries ok (sps_fields layer subs)
unfolding sps_fields
tries_sps_fields layer subs = search (tries_opening, tries_behind_opening) depth 40 fits 4000
