-- Worked runs, by computation, that show the limits of the guarantees.
use Rattle.std.proofs.Common.{◌≡◌, ℕ, zero, suc, ◌<◌, lit<, List, [], ◌∷◌, length, get_or, None, refl, ap, inl, inr, arith}
use Rattle.teb_rules.specs.declared.names.ControlKind.{ControlKind}
use Rattle.teb_rules.specs.declared.names.ControlKind.TheVariants.{Locks, Pipeline, Timestamp, Snapshot}
use Rattle.teb_rules.specs.Setup.{profile}
use Rattle.teb_rules.specs.Tree.{row}
use Rattle.teb_rules.specs.Accepted.{IsSound, tree_fault}
use Rattle.teb_rules.specs.Serializes.{StandsBefore}
use Rattle.teb_rules.specs.Open.{all_rules}
use Rattle.guarantees.specs.Shapes.{Breaks, Shows, one_node, two_sides}
use Rattle.guarantees.specs.Runs.{cell, early_reader, late_joiner, writer_underway}
use Rattle.guarantees.specs.Time.{FollowsCommits, KeepsRealTime}
use Rattle.guarantees.specs.Reading.{HasWaitingRead, ReadsAreServed}
use Rattle.std.proofs.lemmas.Bool.{false≢true}
use Rattle.guarantees.specs.Cascades.{HasCascade, HasNoCascade}

-- these stores are sound
two_sound : (c : ControlKind) → tree_fault (two_sides c).setup.tree 2 ≡ None → IsSound (two_sides c).setup
two_sound c f = record { some = omega arith; parts = parts; accepted = f; profiles = record { filled = filled } }
  where
    parts : (n : ℕ) → n < 3 → (row (two_sides c).setup.tree n).part < (row (two_sides c).setup.tree n).parts
    parts zero h = omega arith
    parts (suc zero) h = omega arith
    parts (suc (suc zero)) h = omega arith
    parts (suc (suc (suc n))) h = absurd (omega arith)

    filled : (k i : ℕ) → k < 2 → i < length (profile (two_sides c).setup k) → 0 < length (get_or (profile (two_sides c).setup k) i [])
    filled zero zero h g = omega arith
    filled zero (suc i) h g = absurd (omega arith)
    filled (suc zero) zero h g = omega arith
    filled (suc zero) (suc i) h g = absurd (omega arith)
    filled (suc (suc k)) i h g = absurd (omega arith)

one_sound : (c : ControlKind) → tree_fault (one_node c).setup.tree 1 ≡ None → IsSound (one_node c).setup
one_sound c f = record { some = omega arith; parts = parts; accepted = f; profiles = record { filled = filled } }
  where
    parts : (n : ℕ) → n < 1 → (row (one_node c).setup.tree n).part < (row (one_node c).setup.tree n).parts
    parts zero h = omega arith
    parts (suc n) h = absurd (omega arith)

    filled : (k i : ℕ) → k < 1 → i < length (profile (one_node c).setup k) → 0 < length (get_or (profile (one_node c).setup k) i [])
    filled zero zero h g = omega arith
    filled zero (suc zero) h g = omega arith
    filled zero (suc (suc i)) h g = absurd (omega arith)
    filled (suc k) i h g = absurd (omega arith)

-- 2 is not before 3 in the order 3, 2
not_behind : StandsBefore (3 ∷ 2 ∷ []) 2 3 → ⊥
not_behind s = elim s [ inl p ↦ (let e : ◌≡◌ {A = ℕ} 3 2 = p.0 in omega arith) | inr q ↦ elim q [ inl p ↦ p.1 | inr z ↦ z ] ]

pub stamps_lose_time : Breaks (λ X H. KeepsRealTime X.setup H) (two_sides Timestamp) late_joiner
unfolding all_rules
stamps_lose_time = record {
  sound = two_sound Timestamp refl;
  fails = λ f. not_behind (f 2 3 refl refl (lit< tt));
}

pub snapshots_lose_time : Breaks (λ X H. KeepsRealTime X.setup H) (two_sides Snapshot) late_joiner
unfolding all_rules
snapshots_lose_time = record {
  sound = two_sound Snapshot refl;
  fails = λ f. not_behind (f 2 3 refl refl (lit< tt));
}

swapped : ◌≡◌ {A = List ℕ} (3 ∷ 2 ∷ []) (2 ∷ 3 ∷ []) → ⊥
swapped e = let k : ◌≡◌ {A = ℕ} 3 2 = ap (λ (us : List ℕ). get_or us 0 0) e in omega arith

pub commits_swapped : Breaks (λ X H. FollowsCommits X.setup H) (two_sides Timestamp) late_joiner
unfolding all_rules
commits_swapped = record { sound = two_sound Timestamp refl; fails = λ f. swapped f }

fallen : (u : ℕ) (us : List ℕ) → u ∷ us ≡ [] → ⊥
fallen u us e = cc

pub pipelines_cascade : Breaks HasNoCascade (one_node Pipeline) early_reader
unfolding all_rules
pipelines_cascade = record { sound = one_sound Pipeline refl; fails = λ f. fallen 2 [] (f.alone 1 refl) }

pub stamps_cascade : Breaks HasNoCascade (one_node Timestamp) early_reader
unfolding all_rules
stamps_cascade = record { sound = one_sound Timestamp refl; fails = λ f. fallen 2 [] (f.alone 1 refl) }

pub pipelines_take_another : Shows HasCascade (one_node Pipeline) early_reader
unfolding all_rules
pipelines_take_another = record {
  sound = one_sound Pipeline refl;
  holds = record { session = record { 0 = 1 }; own = 1; reader = 2; holds = refl; reads = refl; running = refl; falls = refl };
}

pub stamps_take_another : Shows HasCascade (one_node Timestamp) early_reader
unfolding all_rules
stamps_take_another = record {
  sound = one_sound Timestamp refl;
  holds = record { session = record { 0 = 1 }; own = 1; reader = 2; holds = refl; reads = refl; running = refl; falls = refl };
}

pub locks_block : Breaks ReadsAreServed (one_node Locks) early_reader
unfolding all_rules
locks_block = record { sound = one_sound Locks refl; fails = λ f. false≢true (f (record { 0 = 2 }) 2 (cell 0) refl refl) }

pub pipelines_block : Breaks ReadsAreServed (one_node Pipeline) writer_underway
unfolding all_rules
pipelines_block = record { sound = one_sound Pipeline refl; fails = λ f. false≢true (f (record { 0 = 2 }) 2 (cell 0) refl refl) }

pub locks_wait : Shows HasWaitingRead (one_node Locks) early_reader
unfolding all_rules
locks_wait = record {
  sound = one_sound Locks refl;
  holds = record { session = record { 0 = 2 }; cell = cell 0; writer = record { 0 = 1 }; node = record { 0 = 0 }; running = refl; put = refl; waits = refl };
}

pub pipelines_wait : Shows HasWaitingRead (one_node Pipeline) writer_underway
unfolding all_rules
pipelines_wait = record {
  sound = one_sound Pipeline refl;
  holds = record { session = record { 0 = 2 }; cell = cell 0; writer = record { 0 = 1 }; node = record { 0 = 0 }; running = refl; put = refl; waits = refl };
}
