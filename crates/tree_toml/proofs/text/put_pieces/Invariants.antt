use Rattle.std.proofs.Common.{◌≡◌, ◌++◌, ◌≤◌, drop, take, length}
use Rattle.tree_toml.specs.Texts.{pieces_text}
use Rattle.tree_toml.proofs.text.put_pieces.Given as goal

abbrev pub invariant-loop-piece : goal.invariant-loop-piece
invariant-loop-piece l = record {
  front : take l.start l.out.items ≡ l.initial.out.items;
  long : l.start ≤ length l.out.items;
  rest : l.out.items ++ pieces_text (drop l.piece-index l.pieces) ≡ l.initial.out.items ++ pieces_text l.pieces;
}
