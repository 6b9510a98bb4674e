use Rattle.std.proofs.Common.{refl}
use Rattle.shell_lines.proofs.waits.Waits.new.Goals as goal

pub returns : goal.returns
returns c = refl
