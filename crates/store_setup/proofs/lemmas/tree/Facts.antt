-- An accepted tree has the properties that the laws require of a tree.
use Rattle.std.proofs.Common.{◌≡◌, ℕ, ◌<◌, [], length, None, arith}
use Rattle.teb_rules.specs.Setup.{Setup}
use Rattle.teb_rules.specs.Accepted.{HasProfiles, IsSound, tree_fault}
use Rattle.teb_rules.specs.Tree.{row}
use Rattle.teb_rules.specs.laws.TreeFacts.{TreeFacts}
use Rattle.teb_rules.proofs.lemmas.laws.Sound.{tree_facts}
use Rattle.store_setup.specs.tree.Grown.{Grown}
use Rattle.store_setup.specs.tree.Sound.{IsAccepted}

-- a setup with this tree
abbrev pub setup_of_tree : Grown → Setup
setup_of_tree T = record { types = T.types; profiles = []; tree = T.rows }

no_profiles : (T : Grown) → HasProfiles (setup_of_tree T)
no_profiles T = record { filled = λ k i h l. absurd (omega arith) }

pub sound_of : (T : Grown) → 0 < length T.rows → ((n : ℕ) → n < length T.rows → (row T.rows n).part < (row T.rows n).parts) → tree_fault T.rows T.types ≡ None → IsSound (setup_of_tree T)
sound_of T some parts faultless = record { some = some; parts = parts; accepted = faultless; profiles = no_profiles T }

pub facts_of : (T : Grown) → IsAccepted T → TreeFacts (setup_of_tree T)
facts_of T a = tree_facts (setup_of_tree T) (sound_of T a.some a.parts a.faultless)
