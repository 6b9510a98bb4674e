-- The stream of std under a source or a sink, and how often it failed.
use Rattle.std.specs.Prelude.{ℕ}
use Rattle.teb_io.specs.declared.streams.StdSource.{StdSource}
use Rattle.teb_io.specs.declared.streams.StdSink.{StdSink}

abbrev pub source_faults : {R : Type 0} → StdSource R → ℕ
source_faults s = s.faults

abbrev pub reader_of : {R : Type 0} → StdSource R → R
reader_of s = s.inner

abbrev pub sink_faults : {W : Type 0} → StdSink W → ℕ
sink_faults s = s.faults

abbrev pub writer_of : {W : Type 0} → StdSink W → W
writer_of s = s.inner
