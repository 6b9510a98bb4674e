-- For how much a disk in memory has memory.
use Rattle.std.specs.Prelude.{◌-◌, max, length, vec_capacity}
use Rattle.crash_disk.specs.Log.{byte_count}
use Rattle.crash_disk.specs.Spare.{Spare, raised}
use Rattle.crash_disk.specs.declared.memory.MemDisk.{MemDisk}
use Rattle.crash_disk.specs.declared.spare.Memory.{Memory}

abbrev pub spare_of : MemDisk → Spare
spare_of m = record { calls = m.log.sure_calls - length m.log.steps; bytes = m.log.sure_bytes - byte_count m.log.steps; end = vec_capacity m.image }

-- and once it has taken this
abbrev pub spare_with : MemDisk → Memory → Spare
spare_with m more = record {
  calls = raised m.log.room m.log.sure_calls (vec_capacity more.calls) - length m.log.steps;
  bytes = raised m.log.room m.log.sure_bytes (vec_capacity more.bytes) - byte_count m.log.steps;
  end = max (vec_capacity m.image) (vec_capacity more.image);
}
