use Rattle.std.proofs.Common.{rules, ◌≡◌, ◌≤◌, List, ℕ, length, Some, slice_get, ◌∙◌, ap, subst, arith}
use Rattle.crash_disk.specs.Log.{Logged, Step, steps, step_of}
use Rattle.crash_disk.proofs.Logged.{sizes}
use Rattle.crash_disk.proofs.log.Log.call.Goals as goal

pub returns-then-place-len : goal.returns-then-place-len
returns-then-place-len c =
    let m = c.self.inside in
    let calls : c.len.result ≡ length m.calls.items = search rules in
    let few : c.len.result ≤ c.args.place = search rules in
    omega (arith, calls, few, (sizes m.calls.items m.bytes.items c.args.self.now.steps (ap (λ (l : Logged). l.steps) c.self.view_is) c.self.invariant.counted).0)

pub returns : goal.returns
returns c =
    let m = c.self.inside in
    let calls = c.deref.ensures.value in
    let bytes = c.deref-2.ensures.value in
    subst (λ (xs : List Step). slice_get xs c.args.place ≡ Some (step_of c.index-call.result.now c.bytes_of.result.now))
    (ap (λ (cs : List _). steps cs c.deref-2.result.now) calls ∙ ap (λ (b : List ℕ). steps m.calls.items b) bytes ∙ ap (λ (l : Logged). l.steps) c.self.view_is)
    c.bytes_of.ensures
