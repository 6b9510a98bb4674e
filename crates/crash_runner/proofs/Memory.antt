-- A disk in memory at the start of a run.
use Rattle.std.proofs.Common.{◌≡◌, ℕ, List, [], sym, ap, subst, arith}
use Rattle.teb_rules.specs.Setup.{Setup}
use Rattle.teb_rules.specs.Accepted.{IsSound}
use Rattle.crash_disk.specs.declared.memory.MemDisk.{MemDisk}
use Rattle.crash_disk.specs.declared.room.Room.{Room}
use Rattle.crash_disk.specs.declared.room.Room.TheVariants.{Reserved}
use Rattle.crash_disk.specs.Calls.{Tally, memory_tally}
use Rattle.crash_disk.specs.Log.{Step, byte_count, safe_contents, MayLeave}
use Rattle.crash_disk.specs.LogLaws.{safe_is_left}
use Rattle.store_setup.specs.SetupView.{SetupView}
use Rattle.store_setup.specs.Sound.{IsWhole}
use Rattle.store_setup.specs.Stores.{store_of_view}
use Rattle.crash_runner.specs.Underway.{IsRoomy}

abbrev pub tally_of : MemDisk → Tally
tally_of m = memory_tally m.counter.made (byte_count m.log.steps) m.counter.stop m.log.room

abbrev pub safe_of : MemDisk → List ℕ
safe_of m = safe_contents m.log.steps

abbrev pub MayBeLeft : MemDisk → List ℕ → Type 0
MayBeLeft m image = MayLeave m.log.steps image

pub is_left : (m : MemDisk) → MayBeLeft m (safe_of m)
is_left m = safe_is_left m.log.steps

pub roomy : (made written stop : ℕ) (room : Room) → room ≡ Reserved → IsRoomy (memory_tally made written stop room).promise
roomy made written stop room is = subst (λ (r : Room). IsRoomy (memory_tally made written stop r).promise) (sym is) (record { reads = omega arith; writes = omega arith; bytes = omega arith })

pub unwritten : (log : List Step) → log ≡ [] → byte_count log ≡ 0
unwritten log is = ap byte_count is

pub nothing_safe : (log : List Step) → log ≡ [] → safe_contents log ≡ []
nothing_safe log is = ap safe_contents is

pub sound_of : (m : SetupView) → IsWhole m → IsSound (store_of_view m).setup
sound_of m whole = subst (λ (types : ℕ). let S : Setup = record { types = types; profiles = m.profiles; tree = m.tree.rows } in IsSound S) (sym whole.types) whole.sound
