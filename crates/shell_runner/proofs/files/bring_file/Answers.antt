use Rattle.std.proofs.Common.{refl}
use Rattle.shell_runner.proofs.Brought.{file_read, no_file}
use Rattle.shell_runner.proofs.files.bring_file.Goals as goal

pub returns-in-Read : goal.returns-in-Read
returns-in-Read g c = file_read c.args.asks c.args.reader.now c.read_named.new.reader c.read_named.result c.in-Read.is c.read_named.ensures

pub returns-in_default : goal.returns-in_default
returns-in_default g c = no_file c.args.asks c.args.reader.now c.args.reader.now refl
