-- A transaction's reads in a multimap: a Got adds one, and the transaction's own events remove them again.
use Rattle.std.proofs.Common.{◌≡◌, ℤ, suc, Bool, true, false, cond, not, eqb, List, [], ◌∷◌, ◌++◌, length, filter, is_some, Option, Some, None, refl, sym, ◌∙◌, ap, arith}
use Rattle.teb_rules.specs.declared.names.Txn.{Txn}
use Rattle.teb_rules.specs.declared.names.Cell.{Cell}
use Rattle.teb_rules.specs.names.Cells.{same_cell}
use Rattle.teb_rules.specs.declared.history.Event.{Event}
use Rattle.teb_rules.specs.declared.history.Event.TheVariants.{Got}
use Rattle.teb_rules.specs.history.OwnEvents.{is_of, own_events, got_in}
use Rattle.sorted_multimap.specs.LastMatches.{without_last}
use Rattle.timestamp_node.specs.Reads.{all_reads, is_by}
use Rattle.sorted_multimap.proofs.TakenMatches.{filter_last, fewer_pass, none_left}

-- the event is a Got of x
abbrev pub gets : Cell → Event → Bool
gets x e = is_some (got_in x e)

module _ (t : Txn) (x : Cell) where
  -- for cell x: as many reads of t are left as Gots are, and the reads of others are unchanged
  pub record IsForgetting (es : List Event) (all rs : List (Txn × Txn)) : Type 0 where
    pub left : length (filter (is_by t) rs) ≡ length (filter (gets x) es)
    pub others : filter (λ r. not (is_by t r)) rs ≡ filter (λ r. not (is_by t r)) all

  -- a Got removes the last of t's reads
  pub forget_got : (es : List Event) (all rs now : List (Txn × Txn)) (s : Txn) (y : Cell) (w : Txn) (v : Option ℤ) → IsForgetting (Got s y w v ∷ es) all rs
      → now ≡ cond (same_cell y x) (without_last (is_by t) rs) rs → IsForgetting es all now
  forget_got es all rs now s y w v was is = record {
    left = ap (λ (l : List (Txn × Txn)). length (filter (is_by t) l)) is ∙ fewer (same_cell y x) was.left;
    others = ap (filter (λ r. not (is_by t r))) is ∙ same (same_cell y x) ∙ was.others;
  }
    where
      fewer : (b : Bool) → length (filter (is_by t) rs) ≡ length (cond (is_some (cond b (Some v) None)) (Got s y w v ∷ filter (gets x) es) (filter (gets x) es))
          → length (filter (is_by t) (cond b (without_last (is_by t) rs) rs)) ≡ length (filter (gets x) es)
      fewer true e = fewer_pass (is_by t) rs (length (filter (gets x) es)) (omega arith)
      fewer false e = e

      same : (b : Bool) → filter (λ r. not (is_by t r)) (cond b (without_last (is_by t) rs) rs) ≡ filter (λ r. not (is_by t r)) rs
      same true = filter_last (is_by t) rs
      same false = refl

  filter_end : (p : Txn × Txn → Bool) (rs : List (Txn × Txn)) (r : Txn × Txn) → length (filter p (rs ++ r ∷ [])) ≡ cond (p r) (suc (length (filter p rs))) (length (filter p rs))
  filter_end p [] r = go (p r)
    where
      go : (b : Bool) → length (cond b (r ∷ []) []) ≡ cond b 1 0
      go true = refl
      go false = refl
  filter_end p (q ∷ rs) r = go (p q) (p r) (filter_end p rs r)
    where
      go : (b c : Bool) → length (filter p (rs ++ r ∷ [])) ≡ cond c (suc (length (filter p rs))) (length (filter p rs))
          → length (cond b (q ∷ filter p (rs ++ r ∷ [])) (filter p (rs ++ r ∷ []))) ≡ cond c (suc (length (cond b (q ∷ filter p rs) (filter p rs)))) (length (cond b (q ∷ filter p rs) (filter p rs)))
      go true true h = omega arith
      go true false h = omega arith
      go false c h = h

  no_get : (e : Event) (es : List Event) (b : Bool) → gets x e ≡ false → length (filter (gets x) (cond b (e ∷ es) es)) ≡ length (filter (gets x) es)
  no_get e es true h = ap (λ (o : Bool). length (cond o (e ∷ filter (gets x) es) (filter (gets x) es))) h
  no_get e es false h = refl

  -- t has as many reads of x as Gots
  pub own_reads : (H : List Event) → length (filter (is_by t) (all_reads H x)) ≡ length (filter (gets x) (own_events H t.0))
  unfolding all_reads own_events
  own_reads [] = refl
  own_reads (Got s y w v ∷ P) = go (same_cell y x) (eqb s.0 t.0) refl refl (own_reads P)
    where
      ended : (c : Bool) → eqb s.0 t.0 ≡ c → length (filter (is_by t) (all_reads P x ++ (s, w) ∷ [])) ≡ cond c (suc (length (filter (is_by t) (all_reads P x))))
          (length (filter (is_by t) (all_reads P x)))
      ended c h = filter_end (is_by t) (all_reads P x) (s, w) ∙ ap (λ (o : Bool). cond o (suc (length (filter (is_by t) (all_reads P x)))) (length (filter (is_by t) (all_reads P x)))) h

      newest : (b : Bool) → same_cell y x ≡ b → length (filter (gets x) (Got s y w v ∷ filter (is_of t.0) P)) ≡ cond b (suc (length (filter (gets x) (filter (is_of t.0) P))))
          (length (filter (gets x) (filter (is_of t.0) P)))
      newest true h = ap (λ (o : Bool). length (cond (is_some (cond o (Some v) None)) (Got s y w v ∷ filter (gets x) (filter (is_of t.0) P)) (filter (gets x) (filter (is_of t.0) P)))) h
      newest false h = ap (λ (o : Bool). length (cond (is_some (cond o (Some v) None)) (Got s y w v ∷ filter (gets x) (filter (is_of t.0) P)) (filter (gets x) (filter (is_of t.0) P)))) h

      go : (b c : Bool) → same_cell y x ≡ b → eqb s.0 t.0 ≡ c → length (filter (is_by t) (all_reads P x)) ≡ length (filter (gets x) (filter (is_of t.0) P))
          → length (filter (is_by t) (cond b (all_reads P x ++ (s, w) ∷ []) (all_reads P x))) ≡ length (filter (gets x) (cond c (Got s y w v ∷ filter (is_of t.0) P) (filter (is_of t.0) P)))
      go true true q e h = ended true e ∙ ap suc h ∙ sym (newest true q)
      go true false q e h = ended false e ∙ h
      go false true q e h = h ∙ sym (newest false q)
      go false false q e h = h
  own_reads (e ∷ P) = own_reads P ∙ sym (no_get e (filter (is_of t.0) P) (is_of t.0 e) refl)

  -- if the multimap has t's reads of the cell, none has been removed yet
  pub forget_none : (H : List Event) (all : List (Txn × Txn)) → filter (is_by t) all ≡ filter (is_by t) (all_reads H x) → IsForgetting (own_events H t.0) all all
  forget_none H all h = record { left = ap (λ (l : List (Txn × Txn)). length l) h ∙ own_reads H; others = refl }

  -- any other event removes none
  pub forget_other : (e : Event) (es : List Event) (all rs : List (Txn × Txn)) → ((s : Txn) (y : Cell) (w : Txn) (v : Option ℤ) → e ≡ Got s y w v → ⊥) → IsForgetting (e ∷ es) all rs
      → IsForgetting es all rs
  forget_other e es all rs h was = record { left = was.left ∙ no_get e es true (no_got e h); others = was.others }
    where
      no_got : (e : Event) → ((s : Txn) (y : Cell) (w : Txn) (v : Option ℤ) → e ≡ Got s y w v → ⊥) → gets x e ≡ false
      no_got (Got s y w v) h = absurd (h s y w v refl)
      no_got e h = refl

  -- at the end all of t's reads are removed
  pub forget_all : (all rs : List (Txn × Txn)) → IsForgetting [] all rs → rs ≡ filter (λ r. not (is_by t r)) all
  forget_all all rs was = sym (none_left (is_by t) rs was.left) ∙ was.others
