-- A writer without an entry: the links are sound with the list that was taken out, and without it once it is empty.
use Rattle.std.proofs.Common.{true, false, Bool, cond, ◌≡◌, ◌<◌, List, refl, sym, ◌∙◌, ap, subst, inl, inr, if◌then◌else◌, Option, Some, None, unwrap_or, IfSome}
use Rattle.std.specs.Map.{lookup}
use Rattle.teb_rules.specs.declared.names.Cell.{Cell}
use Rattle.teb_rules.specs.declared.names.Txn.{Txn}
use Rattle.chain_pool.specs.declared.places.Place.{Place}
use Rattle.chain_pool.specs.declared.places.Head.{Head}
use Rattle.chain_pool.specs.Threads.{Thread}
use Rattle.chain_pool.specs.Places.{sibling_at, IsOwned}
use Rattle.chain_pool.specs.Heads.{empty, IsBusy, writer_head, same_txn, with_head}
use Rattle.chain_pool.specs.Linked.{Linked}
use Rattle.chain_pool.proofs.Keys.{same_txn-itself, same_txn-exact, key_cases}
use Rattle.chain_pool.proofs.Lookups.{with_head-here}
use Rattle.chain_pool.proofs.Threads.{thread-none}

module _ (ps : List Place) (chain : Cell → Head) (unused : Head) (t : Txn) where
  -- the heads are unchanged if t is given the head that was taken out
  pub taken_out : (was now : List (Txn × Head)) (h : Head) → Linked ps chain (writer_head was) unused → lookup (same_txn t) was ≡ Some h
      → ((u : Txn) → lookup (same_txn u) now ≡ cond (same_txn t u) None (lookup (same_txn u) was)) → Linked ps chain (with_head t h (writer_head now)) unused
  taken_out was now h S had gone = subst (λ (own : Txn → Head). Linked ps chain own unused) (λ i u. same u i) S
    where
      other : (u : Txn) → same_txn t u ≡ false → writer_head was u ≡ with_head t h (writer_head now) u
      other u off =
          ap (λ (o : Option Head). unwrap_or o empty) (sym (gone u ∙ ap (λ (b : Bool). cond b None (lookup (same_txn u) was)) off))
          ∙ ap (λ (b : Bool). if b then h else writer_head now u) (sym off)

      same : (u : Txn) → writer_head was u ≡ with_head t h (writer_head now) u
      same u = elim (key_cases same_txn same_txn-itself same_txn-exact t u) [
        | inl e ↦ subst (λ (v : Txn). writer_head was v ≡ with_head t h (writer_head now) v) e (ap (λ (o : Option Head). unwrap_or o empty) had ∙ sym (with_head-here t h (writer_head now)))
        | inr off ↦ other u off
      ]

  -- an empty list needs no entry
  pub emptied : (own : Txn → Head) (h : Head) → Linked ps chain (with_head t h own) unused → h.len ≡ 0 → own t ≡ empty → Linked ps chain own unused
  emptied own h S none no_entry = record { chains = S.chains; owners = owners; frees = S.frees; short = S.short; once = S.once }
    where
      mine : Thread (IsOwned ps t) (sibling_at ps) h.first h.len
      mine = subst (λ (g : Head). Thread (IsOwned ps t) (sibling_at ps) g.first g.len) (with_head-here t h own) (S.owners t)

      owners : (u : Txn) → Thread (IsOwned ps u) (sibling_at ps) (own u).first (own u).len
      owners u = elim (key_cases same_txn same_txn-itself same_txn-exact t u) [
        | inl e ↦ subst (λ (v : Txn). Thread (IsOwned ps v) (sibling_at ps) (own v).first (own v).len) e
            (subst (λ (g : Head). Thread (IsOwned ps t) (sibling_at ps) g.first g.len) (sym no_entry) (thread-none _ _ _ 0 _ mine none))
        | inr off ↦ subst (λ (g : Head). Thread (IsOwned ps u) (sibling_at ps) g.first g.len) (ap (λ (b : Bool). if b then h else own u) off) (S.owners u)
      ]

-- t has no entry after its head was taken out
pub no_entry : (was now : List (Txn × Head)) (t : Txn) → ((u : Txn) → lookup (same_txn u) now ≡ cond (same_txn t u) None (lookup (same_txn u) was)) → writer_head now t ≡ empty
no_entry was now t gone = ap (λ (o : Option Head). unwrap_or o empty) (gone t ∙ ap (λ (b : Bool). cond b None (lookup (same_txn t) was)) (same_txn-itself t))

pub busy_without : (was now : List (Txn × Head)) (t : Txn) → ((u : Txn) → lookup (same_txn u) now ≡ cond (same_txn t u) None (lookup (same_txn u) was)) → IsBusy was → IsBusy now
busy_without was now t gone busy u = subst (λ (o : Option Head). IfSome o (λ h. 0 < h.len)) (sym (gone u)) (left (same_txn t u) (lookup (same_txn u) was) (busy u))
  where
    left : (b : Bool) (o : Option Head) → IfSome o (λ h. 0 < h.len) → IfSome (cond b None o) (λ h. 0 < h.len)
    left true o some = tt
    left false o some = some

pub none_there : (o : Option Head) → ((h : Head) → o ≡ Some h → ⊥) → o ≡ None
none_there None not_some = refl
none_there (Some h) not_some = absurd (not_some h refl)
