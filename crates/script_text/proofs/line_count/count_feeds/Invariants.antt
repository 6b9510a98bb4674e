use Rattle.std.proofs.Common.{◌≡◌, ◌+◌}
use Rattle.std.specs.List.{count_by}
use Rattle.std.specs.Slice.Iter.{chunks_rest, chunks_size}
use Rattle.script_text.specs.Lines.{is_feed}
use Rattle.script_text.proofs.line_count.count_feeds.Given as goal

abbrev pub invariant-loop-piece : goal.invariant-loop-piece
invariant-loop-piece l = record {
  size : chunks_size l.piece-iterator ≡ 224;
  count : l.count + count_by is_feed (chunks_rest l.piece-iterator) ≡ count_by is_feed l.text;
}
