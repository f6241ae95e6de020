-- The judgement of each unit by those of the units before it. Histories have the latest first.
use Rattle.std.specs.Prelude.{ℕ, List, reverse}
use Rattle.mv_history.specs.History.{run}
use Rattle.mv_pictures.specs.Items.{items}
use Rattle.mv_pictures.specs.AccessUnits.{all_placed}
use Rattle.mv_pictures.specs.Facts.{Fact, facts}
use Rattle.mv_pictures.specs.Terms.{references_of}
use Rattle.mv_pictures.specs.Judged.{Judged}
use Rattle.mv_pictures.specs.Look.{Look, look, asked}
use Rattle.mv_pictures.specs.Starts.{is_sequence_start, is_start, is_reset, is_decoded, sequence_number, sequence_vps, sequence_sps}
use Rattle.mv_pictures.specs.Counts.{count}
use Rattle.mv_pictures.specs.Held.{names, longs}
use Rattle.mv_pictures.specs.References.{references, tags}
use Rattle.mv_pictures.specs.Lists.{lists}

unfoldable pub judgement : Look → Fact → Judged
judgement l p = record {
  fact = p;
  seq = is_sequence_start l p;
  start = is_start l p;
  reset = is_reset l p;
  decoded = is_decoded l p;
  count = count l p;
  names = names l p;
  longs = longs l p;
  tags = tags l p;
  references = references_of (references l p);
  lists = lists l p;
  sequence = sequence_number l p;
  seq_vps = sequence_vps l p;
  seq_sps = sequence_sps l p;
}

unfoldable pub judged : List Judged → Fact → Judged
judged past p = judgement (look (asked past p) p) p

unfoldable pub history : List Fact → List Judged
history fs = run judged fs

-- the facts and the history of the units of a stream, given by their bytes in the order of the stream
unfoldable pub facts_of : List (List ℕ) → List Fact
facts_of us = facts (all_placed (items (reverse us)))

unfoldable pub history_of : List (List ℕ) → List Judged
history_of us = history (facts_of us)
