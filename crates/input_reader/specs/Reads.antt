-- Why not all bytes were read, as a fault of the input.
use Rattle.teb_io.specs.declared.source.ReadError.{ReadError}
use Rattle.teb_io.specs.declared.source.ReadError.TheVariants as read
use Rattle.input_reader.specs.declared.error.InputError.{InputError}
use Rattle.input_reader.specs.declared.error.InputError.TheVariants.{ReadFault, TooLong, OutOfMemory}

abbrev pub read_error : ReadError → InputError
read_error read.ReadFault = ReadFault
read_error read.TooLong = TooLong
read_error read.OutOfMemory = OutOfMemory
