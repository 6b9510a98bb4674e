-- Chains that hold the versions of a history hold those of the history with one more Gone if the aborted transaction's versions are removed.
use Rattle.std.proofs.Common.{ℕ, ◌≡◌, ◌⊎◌, Bool, true, false, cond, not, ◌||◌, ◌&&◌, eqb, List, [], ◌∷◌, refl, sym, ap, subst, ◌∙◌, inl, inr, eq-eqb, eqb-true}
use Rattle.std.proofs.lemmas.Bool.{both_ways, false_from_ne_true}
use Rattle.teb_rules.specs.declared.names.Cell.{Cell}
use Rattle.teb_rules.specs.declared.names.Txn.{Txn}
use Rattle.teb_rules.specs.declared.names.Cause.{Cause}
use Rattle.teb_rules.proofs.lemmas.names.Bools.{and_false}
use Rattle.teb_rules.specs.declared.history.Event.{Event}
use Rattle.teb_rules.specs.declared.history.Event.TheVariants.{Gone}
use Rattle.teb_rules.specs.Setup.{Setup}
use Rattle.teb_rules.specs.Serializes.{In, Pairs}
use Rattle.teb_rules.specs.laws.TreeFacts.{TreeFacts}
use Rattle.teb_rules.specs.laws.Lawful.{Lawful}
use Rattle.version_chain.specs.Lists.{Version, writers_of, is_writer, without}
use Rattle.phase_api.specs.Versions.{HoldsVersions, HaveLastValues}
use Rattle.candidate_reads.proofs.Sources.{Strict}
use Rattle.candidate_reads.proofs.OneMore.{version_gone, values_same, order_stays}
use Rattle.candidate_reads.proofs.KeptVersions.{HoldsCell, cell_of, all_cells, have}

among-without : (w t : ℕ) (vs : List Version) → is_writer (without t vs) w ≡ (not (eqb t w) && is_writer vs w)
among-without w t [] = sym (and_false (not (eqb t w)))
among-without w t (v ∷ vs) = go (eqb v.0.0 t) refl (among-without w t vs)
  where
    same : (a b c : Bool) → (b ≡ true → a ≡ false) → (b || (not a && c)) ≡ (not a && (b || c))
    same true true c f = absurd (let z = f refl in cc)
    same true false c f = refl
    same false b c f = refl

    go : (b : Bool) → eqb v.0.0 t ≡ b → is_writer (without t vs) w ≡ (not (eqb t w) && is_writer vs w)
        → is_writer (cond (not b) (v ∷ without t vs) (without t vs)) w ≡ (not (eqb t w) && (eqb v.0.0 w || is_writer vs w))
    go true e ih = ih ∙ subst (λ (z : ℕ). (not (eqb t w) && is_writer vs w) ≡ (not (eqb t w) && (eqb z w || is_writer vs w))) (sym (eqb-true v.0.0 t e)) (gone (eqb t w))
      where
        gone : (a : Bool) → (not a && is_writer vs w) ≡ (not a && (a || is_writer vs w))
        gone true = refl
        gone false = refl
    go false e ih = ap (λ (b : Bool). eqb v.0.0 w || b) ih ∙ same (eqb t w) (eqb v.0.0 w) (is_writer vs w)
        (λ q. false_from_ne_true _ (λ r. both_ways _ e (eq-eqb v.0.0 t (eqb-true v.0.0 w q ∙ sym (eqb-true t w r)))))

values-without : (H : List Event) (x : Cell) (t : ℕ) (vs : List Version) → HaveLastValues H x vs → HaveLastValues H x (without t vs)
values-without H x t [] h = tt
values-without H x t (v ∷ vs) h = go (not (eqb v.0.0 t)) (values-without H x t vs h.1)
  where
    go : (b : Bool) → HaveLastValues H x (without t vs) → HaveLastValues H x (cond b (v ∷ without t vs) (without t vs))
    go true k = (h.0, k)
    go false k = k

In-without : (w t : ℕ) (vs : List Version) → In w (writers_of (without t vs)) → In w (writers_of vs)
In-without w t [] i = i
In-without w t (v ∷ vs) i = go (not (eqb v.0.0 t)) i (In-without w t vs)
  where
    go : (b : Bool) → In w (writers_of (cond b (v ∷ without t vs) (without t vs))) → (In w (writers_of (without t vs)) → In w (writers_of vs)) → (v.0.0 ≡ w) ⊎ In w (writers_of vs)
    go true j ih = elim j [ inl e ↦ inl e | inr k ↦ inr (ih k) ]
    go false j ih = inr (ih j)

Pairs-without : (R : ℕ → ℕ → Type 0) (t : ℕ) (vs : List Version) → Pairs R (writers_of vs) → Pairs R (writers_of (without t vs))
Pairs-without R t [] h = tt
Pairs-without R t (v ∷ vs) h = go (not (eqb v.0.0 t)) (Pairs-without R t vs h.1)
  where
    go : (b : Bool) → Pairs R (writers_of (without t vs)) → Pairs R (writers_of (cond b (v ∷ without t vs) (without t vs)))
    go true k = ((λ u i. h.0 u (In-without u t vs i)), k)
    go false k = k

cell_removed : (S : Setup) (a : TreeFacts S) (t : Txn) (c : Cause) (P : List Event) (x : Cell) (vs : List Version) → Lawful S (Gone t c ∷ P) → HoldsCell S P x vs
    → HoldsCell S (Gone t c ∷ P) x (without t.0 vs)
cell_removed S a t c P x vs l h = record {
  writers = λ w. among-without w t.0 vs ∙ ap (λ (b : Bool). not (eqb t.0 w) && b) (h.writers w) ∙ sym (version_gone t c P x w);
  values = values_same (Gone t c) P x (without t.0 vs) (λ u i. refl) (values-without P x t.0 vs h.values);
  order = Pairs-without (Strict S (Gone t c ∷ P) x) t.0 vs (order_stays S a (Gone t c) P x (writers_of vs) l (have S P x vs h) h.order);
}

-- a Gone of t, after which t's versions are removed
pub versions_removed : (S : Setup) (a : TreeFacts S) (t : Txn) (c : Cause) (P : List Event) (L M : Cell → List Version) → Lawful S (Gone t c ∷ P) → HoldsVersions S P L
    → ((x : Cell) → M x ≡ without t.0 (L x)) → HoldsVersions S (Gone t c ∷ P) M
versions_removed S a t c P L M l h f = all_cells S (Gone t c ∷ P) M (λ x.
    subst (λ (vs : List Version). HoldsCell S (Gone t c ∷ P) x vs) (sym (f x)) (cell_removed S a t c P x (L x) l (cell_of S P L x h)))
