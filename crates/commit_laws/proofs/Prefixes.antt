-- The history up to a commit, and the records of its commits.
use Rattle.std.proofs.Common.{◌≡◌, ◌≤◌, ℕ, Bool, true, false, cond, leb, List, [], ◌∷◌, ◌++◌, length, take, refl, sym, ap, ◌∙◌, arith, le_refl, length-append, ℤ}
use Rattle.std.proofs.lemmas.List.{take_all, take-append-le}
use Rattle.std.proofs.lemmas.Bool.{leb-true, leb-false}
use Rattle.teb_rules.specs.declared.names.Cell.{Cell}
use Rattle.teb_rules.specs.declared.history.Event.{Event}
use Rattle.teb_rules.specs.declared.history.Event.TheVariants.{Began, Got, Put, Ready, Done, Gone, Told}
use Rattle.teb_rules.specs.history.Positions.{upto}
use Rattle.teb_rules.specs.Setup.{Setup}
use Rattle.teb_rules.specs.laws.Lawful.{ReadsRows}
use Rattle.teb_rules.proofs.lemmas.laws.Positions.{upto_all, upto_cons}
use Rattle.commit_laws.specs.Commits.{commit_count, up_to_commit}
use Rattle.commit_laws.specs.Records.{record_of, records_of}

-- `up_to_commit` k H is H up to some position
pub record IsPrefix (k : ℕ) (H : List Event) : Type 0 where
  pub at : ℕ
  pub within : at ≤ length H
  pub is : up_to_commit k H ≡ upto at H

same_prefix : (k : ℕ) (e : Event) (P : List Event) → IsPrefix k P → up_to_commit k (e ∷ P) ≡ up_to_commit k P → IsPrefix k (e ∷ P)
same_prefix k e P p same = record { at = p.at; within = omega (arith, p.within); is = same ∙ p.is ∙ sym (upto_cons p.at e P p.within) }

pub prefix_is : (k : ℕ) (H : List Event) → IsPrefix k H
unfolding up_to_commit
prefix_is k [] = record { at = 0; within = omega arith; is = unfold upto in refl }
prefix_is k (Done t ∷ P) = go (leb k (commit_count P)) refl (prefix_is k P)
  where
    go : (b : Bool) → leb k (commit_count P) ≡ b → IsPrefix k P → IsPrefix k (Done t ∷ P)
    go true e before = same_prefix k (Done t) P before (ap (λ (b : Bool). cond b (up_to_commit k P) (Done t ∷ P)) e)
    go false e before = record {
      at = length (Done t ∷ P);
      within = omega arith;
      is = ap (λ (b : Bool). cond b (up_to_commit k P) (Done t ∷ P)) e ∙ sym (upto_all (length (Done t ∷ P)) (Done t ∷ P) (le_refl _));
    }
prefix_is k (Began t s j i ∷ P) = same_prefix k (Began t s j i) P (prefix_is k P) refl
prefix_is k (Got t x w v ∷ P) = same_prefix k (Got t x w v) P (prefix_is k P) refl
prefix_is k (Put t x v ∷ P) = same_prefix k (Put t x v) P (prefix_is k P) refl
prefix_is k (Ready t ∷ P) = same_prefix k (Ready t) P (prefix_is k P) refl
prefix_is k (Gone t c ∷ P) = same_prefix k (Gone t c) P (prefix_is k P) refl
prefix_is k (Told t ∷ P) = same_prefix k (Told t) P (prefix_is k P) refl

-- one record for each commit
pub length-records : (S : Setup) (H : List Event) → length (records_of S H) ≡ commit_count H
unfolding records_of commit_count
length-records S [] = refl
length-records S (Done t ∷ P) = omega (arith, length-append (records_of S P) (record_of S P t.0 ∷ []), length-records S P)
length-records S (Began t s j i ∷ P) = length-records S P
length-records S (Got t x w v ∷ P) = length-records S P
length-records S (Put t x v ∷ P) = length-records S P
length-records S (Ready t ∷ P) = length-records S P
length-records S (Gone t c ∷ P) = length-records S P
length-records S (Told t ∷ P) = length-records S P

-- the records of the first commits are the first records
pub prefix_records : (S : Setup) (k : ℕ) (H : List Event) → records_of S (up_to_commit k H) ≡ take k (records_of S H)
unfolding records_of up_to_commit
prefix_records S k [] = sym (take_all k [] (omega arith))
prefix_records S k (Done t ∷ P) = go (leb k (commit_count P)) refl (prefix_records S k P)
  where
    go : (b : Bool) → leb k (commit_count P) ≡ b → records_of S (up_to_commit k P) ≡ take k (records_of S P) → records_of S (up_to_commit k (Done t ∷ P)) ≡ take k
        (records_of S P ++ record_of S P t.0 ∷ [])
    go true e ih =
        ap (λ (b : Bool). records_of S (cond b (up_to_commit k P) (Done t ∷ P))) e
        ∙ ih
        ∙ sym (take-append-le k (records_of S P) (record_of S P t.0 ∷ []) (omega (arith, leb-true _ _ e, length-records S P)))
    go false e ih =
        ap (λ (b : Bool). records_of S (cond b (up_to_commit k P) (Done t ∷ P))) e
        ∙ sym (take_all k (records_of S P ++ record_of S P t.0 ∷ []) (omega (arith, leb-false _ _ e, length-records S P, length-append (records_of S P) (record_of S P t.0 ∷ []))))
prefix_records S k (Began t s j i ∷ P) = prefix_records S k P
prefix_records S k (Got t x w v ∷ P) = prefix_records S k P
prefix_records S k (Put t x v ∷ P) = prefix_records S k P
prefix_records S k (Ready t ∷ P) = prefix_records S k P
prefix_records S k (Gone t c ∷ P) = prefix_records S k P
prefix_records S k (Told t ∷ P) = prefix_records S k P

-- if the reads from starting rows are right in a history, they are right in its prefix
pub reads_prefix : (R : List (Cell × ℤ)) (k : ℕ) (H : List Event) → ReadsRows R H → ReadsRows R (up_to_commit k H)
unfolding ReadsRows up_to_commit
reads_prefix R k [] r = r
reads_prefix R k (Done t ∷ P) r = go (leb k (commit_count P)) (reads_prefix R k P r)
  where
    go : (b : Bool) → ReadsRows R (up_to_commit k P) → ReadsRows R (cond b (up_to_commit k P) (Done t ∷ P))
    go true before = before
    go false before = r
reads_prefix R k (Began t s j i ∷ P) r = reads_prefix R k P r
reads_prefix R k (Got t x w v ∷ P) r = reads_prefix R k P r.1
reads_prefix R k (Put t x v ∷ P) r = reads_prefix R k P r
reads_prefix R k (Ready t ∷ P) r = reads_prefix R k P r
reads_prefix R k (Gone t c ∷ P) r = reads_prefix R k P r
reads_prefix R k (Told t ∷ P) r = reads_prefix R k P r
