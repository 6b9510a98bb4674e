-- Nobody is unfinished if none of the live transactions is.
use Rattle.std.proofs.Common.{◌≡◌, ℕ, Bool, true, false, cond, not, ◌&&◌, ◌||◌, List, [], ◌∷◌, Option, Some, None, is_some, find, refl, sym, ◌∙◌, ap}
use Rattle.std.specs.List.{list_any, list_all}
use Rattle.std.proofs.lemmas.Bool.{or_left}
use Rattle.teb_rules.specs.declared.names.Txn.{Txn}
use Rattle.teb_rules.specs.declared.history.Event.{Event}
use Rattle.teb_rules.specs.history.Phases.{unfinished, untold, txns}
use Rattle.teb_rules.specs.history.Written.{txn_of}
use Rattle.teb_rules.specs.history.Live.{live_txns, is_numbered}
use Rattle.teb_rules.proofs.lemmas.history.FirstLive.{first_live}
use Rattle.teb_rules.specs.Alone.{is_quiet}

any_found : {X : Type 0} (p : X → Bool) (xs : List X) → list_any p xs ≡ is_some (find p xs)
any_found p [] = refl
any_found p (x ∷ xs) = go (p x) (any_found p xs)
  where
    go : (b : Bool) → list_any p xs ≡ is_some (find p xs) → b || list_any p xs ≡ is_some (cond b (Some x) (find p xs))
    go true h = refl
    go false h = h

none_found : {X : Type 0} (p : X → Bool) (xs : List X) → list_all (λ x. not (p x)) xs ≡ not (is_some (find p xs))
none_found p [] = refl
none_found p (x ∷ xs) = go (p x) (none_found p xs)
  where
    go : (b : Bool) → list_all (λ y. not (p y)) xs ≡ not (is_some (find p xs)) → not b && list_all (λ y. not (p y)) xs ≡ not (is_some (cond b (Some x) (find p xs)))
    go true h = refl
    go false h = h

same_some : (o : Option ℕ) → is_some (txn_of o) ≡ is_some o
same_some None = refl
same_some (Some t) = refl

pub quiet_live : (H : List Event) → not (list_any (λ (t : Txn). is_numbered H t && unfinished H t.0) (live_txns H)) ≡ is_quiet H
unfolding is_quiet
quiet_live H =
    ap not (any_found (λ (t : Txn). is_numbered H t && unfinished H t.0) (live_txns H)
    ∙ ap is_some (first_live H (unfinished H) (λ t h. or_left (unfinished H t) (untold H t) h)) ∙ same_some (find (unfinished H) (txns H)))
    ∙ sym (none_found (unfinished H) (txns H))
