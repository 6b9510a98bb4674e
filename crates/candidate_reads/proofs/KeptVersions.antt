-- Chains that hold the versions of a history: they are empty at the start, and unchanged after an event that changes no version.
use Rattle.std.proofs.Common.{ℕ, ◌≡◌, true, false, List, [], ◌∷◌, refl, sym, subst, ◌∙◌}
use Rattle.teb_rules.specs.declared.names.Cell.{Cell}
use Rattle.teb_rules.specs.declared.history.Event.{Event}
use Rattle.teb_rules.specs.declared.history.Event.TheVariants.{Began, Got, Put, Ready, Done, Gone, Told}
use Rattle.teb_rules.specs.history.Phases.{is_gone}
use Rattle.teb_rules.specs.history.Accesses.{is_put, put_at, wrote}
use Rattle.teb_rules.specs.history.Positions.{first, first_event}
use Rattle.teb_rules.specs.Setup.{Setup}
use Rattle.teb_rules.specs.Serializes.{In, Pairs}
use Rattle.teb_rules.specs.laws.TreeFacts.{TreeFacts}
use Rattle.teb_rules.specs.laws.Lawful.{Lawful}
use Rattle.version_chain.specs.Lists.{Version, writers_of, is_writer}
use Rattle.phase_api.specs.Versions.{HoldsVersions, HaveLastValues, has_version}
use Rattle.candidate_reads.specs.Kept.{LeavesVersions}
use Rattle.candidate_reads.proofs.InOrder.{In_among}
use Rattle.candidate_reads.proofs.Sources.{Strict}
use Rattle.candidate_reads.proofs.OneMore.{version_same, values_same, order_stays}

-- the list vs holds the versions of cell x
pub record HoldsCell (S : Setup) (H : List Event) (x : Cell) (vs : List Version) : Type 0 where
  pub writers : (w : ℕ) → is_writer vs w ≡ has_version H x w
  pub values : HaveLastValues H x vs
  pub order : Pairs (Strict S H x) (writers_of vs)

pub cell_of : (S : Setup) (H : List Event) (L : Cell → List Version) (x : Cell) → HoldsVersions S H L → HoldsCell S H x (L x)
cell_of S H L x h = record { writers = h.writers x; values = h.values x; order = h.order x }

pub all_cells : (S : Setup) (H : List Event) (L : Cell → List Version) → ((x : Cell) → HoldsCell S H x (L x)) → HoldsVersions S H L
all_cells S H L f = record { writers = λ x. (f x).writers; values = λ x. (f x).values; order = λ x. (f x).order }

-- the empty history has no versions
nobody : (x : Cell) (w : ℕ) → wrote [] w x ≡ false
unfolding wrote put_at first_event first
nobody x w = refl

pub versions_none : (S : Setup) (L : Cell → List Version) → ((x : Cell) → L x ≡ []) → HoldsVersions S [] L
versions_none S L f = all_cells S [] L (λ x. subst (λ (vs : List Version). HoldsCell S [] x vs) (sym (f x)) (record { writers = λ w. rw (nobody x w) refl; values = tt; order = tt }))

pub have : (S : Setup) (H : List Event) (x : Cell) (vs : List Version) → HoldsCell S H x vs → (w : ℕ) → In w (writers_of vs) → has_version H x w ≡ true
have S H x vs h w i = sym (h.writers w) ∙ In_among w (writers_of vs) i

-- an event that neither puts the cell nor is a Gone keeps the cell's versions
pub cell_kept : (S : Setup) (a : TreeFacts S) (e : Event) (P : List Event) (x : Cell) (vs : List Version) → Lawful S (e ∷ P) → ((u : ℕ) → is_put u x e ≡ false) → ((u : ℕ) → is_gone u e ≡ false)
    → HoldsCell S P x vs → HoldsCell S (e ∷ P) x vs
cell_kept S a e P x vs l p g h = record {
  writers = λ w. h.writers w ∙ sym (version_same e P x w (p w) (g w));
  values = values_same e P x vs (λ u i. p u) h.values;
  order = order_stays S a e P x (writers_of vs) l (have S P x vs h) h.order;
}

puts_nothing : (e : Event) → LeavesVersions e → (u : ℕ) (x : Cell) → is_put u x e ≡ false
puts_nothing (Put t y v) q u x = absurd q
puts_nothing (Gone t c) q u x = absurd q
puts_nothing (Began t s k i) q u x = refl
puts_nothing (Got t y w v) q u x = refl
puts_nothing (Ready t) q u x = refl
puts_nothing (Done t) q u x = refl
puts_nothing (Told t) q u x = refl

takes_nobody : (e : Event) → LeavesVersions e → (u : ℕ) → is_gone u e ≡ false
takes_nobody (Put t y v) q u = absurd q
takes_nobody (Gone t c) q u = absurd q
takes_nobody (Began t s k i) q u = refl
takes_nobody (Got t y w v) q u = refl
takes_nobody (Ready t) q u = refl
takes_nobody (Done t) q u = refl
takes_nobody (Told t) q u = refl

-- an event that changes no version keeps the versions of every cell
pub versions_kept : (S : Setup) (a : TreeFacts S) (e : Event) (P : List Event) (L : Cell → List Version) → Lawful S (e ∷ P) → LeavesVersions e → HoldsVersions S P L → HoldsVersions S (e ∷ P) L
versions_kept S a e P L l q h = all_cells S (e ∷ P) L (λ x. cell_kept S a e P x (L x) l (λ u. puts_nothing e q u x) (takes_nobody e q) (cell_of S P L x h))
