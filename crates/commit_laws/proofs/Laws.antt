-- The laws of a history's first k commits.
use Rattle.std.proofs.Common.{◌≡◌, ◌≤◌, ℕ, Bool, false, List, [], ◌∷◌, length, refl, sym, ap, subst, ◌∙◌, arith, le_refl, le-ltb, lt-ltb}
use Rattle.teb_rules.specs.declared.names.Cell.{Cell}
use Rattle.teb_rules.specs.names.Rows.{row_of}
use Rattle.teb_rules.specs.declared.history.Event.{Event}
use Rattle.teb_rules.specs.declared.history.Event.TheVariants.{Began, Got, Put, Ready, Done, Gone, Told}
use Rattle.teb_rules.specs.history.Phases.{committed, done_at, is_done, txns, numbers, begun_count}
use Rattle.teb_rules.specs.history.Positions.{first_event, newest}
use Rattle.teb_rules.specs.Setup.{Setup, Store}
use Rattle.teb_rules.specs.Serializes.{final_table, value_of}
use Rattle.teb_rules.specs.Versions.{latest}
use Rattle.teb_rules.specs.laws.Lawful.{Lawful}
use Rattle.teb_rules.specs.laws.TreeFacts.{TreeFacts}
use Rattle.teb_rules.proofs.lemmas.laws.Positions.{upto_all, upto_cons, first_cases, before, now, later}
use Rattle.teb_rules.proofs.lemmas.laws.Sound.{tree_facts}
use Rattle.teb_rules.proofs.lemmas.laws.Theorem.{lawful_serializes}
use Rattle.teb_rules.proofs.lemmas.laws.Timeline.{Lawful-upto}
use Rattle.std.proofs.lemmas.Bool.{both_ways}
use Rattle.record_journal.specs.Format.{Record}
use Rattle.record_journal.specs.Journal.{after_records}
use Rattle.commit_laws.specs.Commits.{up_to_commit, rows_after}
use Rattle.commit_laws.specs.Records.{records_of, record_of}
use Rattle.commit_laws.specs.Laws.{RecordsLeaveTheRows, FirstCommitsSerialize}
use Rattle.commit_laws.proofs.Latest.{counted, same_latest}
use Rattle.commit_laws.proofs.OneCommit.{after_commit}
use Rattle.commit_laws.proofs.Lookup.{record_at, records_push, changes_alike}
use Rattle.commit_laws.proofs.Prefixes.{prefix_is, prefix_records, reads_prefix}

-- the table in which only the first k commits count is the final table of the history up to the k-th commit
pub rows_are_final : (X : Store) (a : TreeFacts X.setup) (H : List Event) → Lawful X.setup H → (k : ℕ) (x : Cell) → rows_after X H k x ≡ final_table X (up_to_commit k H) x
unfolding rows_after final_table
rows_are_final X a H l k x =
    let p = prefix_is k H in
    subst (λ (Q : List Event). value_of X H x (latest X.setup H x (counted (committed Q) H x)) ≡ value_of X Q x (latest X.setup Q x (counted (committed Q) Q x))) (sym p.is)
    (same_latest X.setup a H l p.at p.within x X)

-- an event other than a Done commits no transaction
not_done : (e : Event) (P : List Event) (w : ℕ) → is_done w e ≡ false → committed (e ∷ P) w ≡ committed P w
unfolding committed done_at first_event
not_done e P w f = elim (first_cases (newest (is_done w)) e P) [
  | before a b ↦ lt-ltb _ _ (omega arith) ∙ sym (lt-ltb _ _ a)
  | now a b c ↦ absurd (both_ways _ f b)
  | later a b c ↦ le-ltb _ _ (omega arith) ∙ sym (le-ltb _ _ (omega arith))
]

-- an event other than a Done does not change the final table
same_table : (X : Store) (a : TreeFacts X.setup) (e : Event) (P : List Event) → Lawful X.setup (e ∷ P) → ((w : ℕ) → is_done w e ≡ false) → (x : Cell) → final_table X (e ∷ P) x ≡ final_table X P x
unfolding final_table
same_table X a e P l f x =
    ap (λ (c : ℕ → Bool). value_of X (e ∷ P) x (latest X.setup (e ∷ P) x (counted c (e ∷ P) x))) (λ j w. not_done e P w (f w) j)
    ∙ subst (λ (Q : List Event). value_of X (e ∷ P) x (latest X.setup (e ∷ P) x (counted (committed Q) (e ∷ P) x)) ≡ value_of X Q x (latest X.setup Q x (counted (committed Q) Q x)))
    (upto_cons (length P) e P (le_refl _) ∙ upto_all (length P) P (le_refl _))
    (same_latest X.setup a (e ∷ P) l (length P) (let z : length P ≤ length (e ∷ P) = omega arith in z) x X)

-- applying the records to the starting rows gives the final table
pub records_final : (X : Store) (a : TreeFacts X.setup) (H : List Event) → Lawful X.setup H → (x : Cell) → after_records (records_of X.setup H) (row_of X.rows) x ≡ final_table X H x
unfolding records_of Lawful
records_final X a [] l x = unfold final_table latest txns numbers begun_count in refl
records_final X a (Done t ∷ P) l x =
    ap (λ T. T x) (records_push (records_of X.setup P) (record_of X.setup P t.0) (row_of X.rows))
    ∙ changes_alike (record_of X.setup P t.0) (after_records (records_of X.setup P) (row_of X.rows)) (final_table X P) x (records_final X a P l.1 x)
    ∙ record_at X.setup P t.0 (final_table X P) x
    ∙ sym (after_commit X a t P l x)
records_final X a (Began t s j i ∷ P) l x = records_final X a P l.1 x ∙ sym (same_table X a (Began t s j i) P l (λ w. refl) x)
records_final X a (Got t y w v ∷ P) l x = records_final X a P l.1 x ∙ sym (same_table X a (Got t y w v) P l (λ w. refl) x)
records_final X a (Put t y v ∷ P) l x = records_final X a P l.1 x ∙ sym (same_table X a (Put t y v) P l (λ w. refl) x)
records_final X a (Ready t ∷ P) l x = records_final X a P l.1 x ∙ sym (same_table X a (Ready t) P l (λ w. refl) x)
records_final X a (Gone t c ∷ P) l x = records_final X a P l.1 x ∙ sym (same_table X a (Gone t c) P l (λ w. refl) x)
records_final X a (Told t ∷ P) l x = records_final X a P l.1 x ∙ sym (same_table X a (Told t) P l (λ w. refl) x)

lawful_prefix : (S : Setup) (k : ℕ) (H : List Event) → Lawful S H → Lawful S (up_to_commit k H)
lawful_prefix S k H l = let p = prefix_is k H in subst (Lawful S) (sym p.is) (Lawful-upto S H p.at l)

pub records_leave_the_rows : RecordsLeaveTheRows
records_leave_the_rows X H s l k le x =
    let a = tree_facts X.setup s in
    ap (λ (rs : List Record). after_records rs (row_of X.rows) x) (sym (prefix_records X.setup k H))
    ∙ records_final X a (up_to_commit k H) (lawful_prefix X.setup k H l) x
    ∙ sym (rows_are_final X a H l k x)

pub first_commits_serialize : FirstCommitsSerialize
first_commits_serialize X H s l r k =
    let a = tree_facts X.setup s in
    record {
      serializes = lawful_serializes X a s.profiles (up_to_commit k H) (lawful_prefix X.setup k H l) (reads_prefix X.rows k H r);
      rows = λ x. rows_are_final X a H l k x;
    }
