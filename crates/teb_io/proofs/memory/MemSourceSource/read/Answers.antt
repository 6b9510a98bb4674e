use Rattle.std.proofs.Common.{◌≡◌, ◌+◌, ◌-◌, ◌≤◌, ◌∙◌, sym, ap, arith, length, take, drop, drop_of_length-le, length-append, length-drop}
use Rattle.teb_io.specs.Memory.{SourceState}
use Rattle.teb_io.proofs.Taking.{read_front}
use Rattle.teb_io.proofs.memory.MemSourceSource.read.Goals as goal

pub returns-clause-bytes : goal.returns-clause-bytes
returns-clause-bytes c =
    let b = c.self.inside.bytes.items in
    let at = c.self.inside.at in
    let n = c.min-count.result in
    let left : c.args.self.now.left ≡ drop at b = sym (ap (λ (s : SourceState). s.left) c.self.view_is) in
    let within : at + n ≤ length b = omega arith in
    let copied : c.copy_from_slice.new.self ≡ take (at + n - at) (drop at b) = c.copy_from_slice.ensures.after ∙ ap (λ l. take (at + n - at) (drop at l)) c.deref-2.ensures.value in (
      read_front _ b _ _ at n (at + n - at) left copied (omega arith) within,
      λ none some. drop_of_length-le b {i = at + n} (omega (arith, length-append c.copy_from_slice.new.self (drop n c.args.buf.now), length-drop n c.args.buf.now, c.copy_from_slice.ensures.len)),
    )
