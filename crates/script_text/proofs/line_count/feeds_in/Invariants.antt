use Rattle.std.proofs.Common.{◌≡◌, take}
use Rattle.std.specs.List.{count_by}
use Rattle.script_text.specs.Lines.{is_feed}
use Rattle.script_text.proofs.line_count.feeds_in.Given as goal

abbrev pub invariant-loop-b : goal.invariant-loop-b
invariant-loop-b l = l.count ≡ count_by is_feed (take l.b-index l.piece)
