-- Laws of the crates below.
pub use Rattle.mv_commuting.proofs.Closures.{Orderly, orderly_alone, orderly_ext}
pub use Rattle.mv_commuting.proofs.HeldMore.{start-finds}
pub use Rattle.mv_reflists.proofs.Across.{missing_across, those_across}
pub use Rattle.mv_reflists.proofs.Agreeing.{same_collocated, same_list_entry, same_lists, same_no_refs}
pub use Rattle.mv_reflists.proofs.Fields.{full_valid, lists_listed, segment_all_l0, segment_all_l1, segment_few_l0, segment_few_l1}
pub use Rattle.mv_rps.proofs.EntryLaws.{entries_coded}
pub use Rattle.mv_rps.proofs.StandLaws.{missing_told, part_after, part_before, part_long}
pub use Rattle.mv_tried.proofs.Cases.{first_append, first_next, first_nothing, none_of}
pub use Rattle.mv_tried.proofs.Pictures.{of_decoded-full}
pub use Rattle.mv_slice.proofs.Totals.{active_few, full_parts}
pub use Rattle.mv_walk_layer.proofs.Sums.{as_many, sums-total}
pub use Rattle.mv_walk_layer.proofs.Telling.{counts-decoded, counts-start, found-apart, found-counted, found-told, here-told, sps-told}
pub use Rattle.mv_walk_order.proofs.OrderLaws.{answer-is, holds-more, picture-slice, stands-of, unshown}
