use Rattle.std.proofs.Common.{arith}
use Rattle.crash_disk.proofs.mem_disk.MemDiskDisk.read_at.Goals as goal

pub invariant_of-self : goal.invariant_of-self
invariant_of-self c =
    let m = c.args.self.now in
    record { within = m.within; some = m.some; small = m.small; told = m.told; made = λ is. omega (arith, m.made is, c.call.ensures.kept); reserved = m.reserved }
