use Rattle.std.proofs.Common.{arith, ap, ◌∙◌, ◌++◌, ◌-◌, take, replicate, None}
use Rattle.cell_index.specs.Blocks.{slots, slot_of}
use Rattle.cell_index.proofs.Slots.{owner_made, paged_made}
use Rattle.cell_index.proofs.blocks.Blocks.reserve.Goals as goal

pub returns-in_ok-resize-clause-owners : goal.returns-in_ok-resize-clause-owners
returns-in_ok-resize-clause-owners c x =
    owner_made c.args.self.now.owners.items c.resize.new.self.items slots _ (slot_of x) (omega (arith, c.if-len-lt-SLOTS.true, c.args.self.now.owners.ok.0)) c.in_ok-resize.ensures.items

pub returns-in_ok-resize-clause-paged : goal.returns-in_ok-resize-clause-paged
returns-in_ok-resize-clause-paged c =
    paged_made c.args.self.now (record { owners = c.resize.new.self; numbers = c.reserve.new.self }) c.requires c.requires.few
    (c.in_ok-resize.ensures.items ∙ ap (λ n. take slots c.args.self.now.owners.items ++ replicate (slots - n) None) c.args.self.now.owners.ok.0) c.reserve.ensures.items
    (omega (arith, c.in_ok-reserve.ensures.ok))
