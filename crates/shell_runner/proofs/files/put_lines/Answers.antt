use Rattle.shell_runner.proofs.Brought.{lines_put}
use Rattle.shell_runner.proofs.files.put_lines.Goals as goal

pub returns : goal.returns
returns c = lines_put c.deref-2.result.now c.args.reader.now c.put_ahead.new.self c.put_ahead.result c.put_ahead.ensures.ok
