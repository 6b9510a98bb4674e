use Rattle.std.proofs.Common.{◌∙◌, sym}
use Rattle.store_setup.specs.profile.Steps.{steps_of}
use Rattle.store_setup.proofs.lemmas.profile.Faultless.{profile_from}
use Rattle.store_setup.proofs.profile.profile.Profile.new.Goals as goal

pub invariant_of-result : goal.invariant_of-result
invariant_of-result c = rw c.deref.ensures.value at (profile_from (steps_of c.deref.result.now) (sym c.steps_fault.ensures ∙ c.in-None.is))
