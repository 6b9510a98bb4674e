use Rattle.script_text.proofs.Wholes.{line_ends}
use Rattle.script_text.proofs.text.word.put_line.Goals as goal

pub returns : goal.returns
returns c = line_ends _ _ _ _ _ _ _ c.in_ok-put_text.ensures c.in_ok-put_words.ensures c.put_feed.ensures
