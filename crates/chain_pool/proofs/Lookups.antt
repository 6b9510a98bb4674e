-- Lookups of a key's head as entries change.
use Rattle.std.proofs.Common.{true, false, Bool, cond, ◌≡◌, ◌<◌, List, [], ◌∷◌, map, refl, sym, ap, subst, if◌then◌else◌, Option, Some, unwrap_or, IfSome}
use Rattle.std.specs.Map.{lookup}
use Rattle.teb_rules.specs.declared.names.Txn.{Txn}
use Rattle.chain_pool.specs.declared.places.Head.{Head}
use Rattle.chain_pool.specs.Heads.{IsBusy, same_txn, with_head}
use Rattle.chain_pool.proofs.Keys.{same_txn-itself}

-- a lookup after a function is applied to each value
pub lookup_map : {K V W : Type 0} (f : V → W) (test : K → Bool) (entries : List (K × V)) (d : V) → unwrap_or (lookup test (map (λ e. (e.0, f e.1)) entries)) (f d) ≡ f
    (unwrap_or (lookup test entries) d)
lookup_map f test [] d = refl
lookup_map {K} {V} {W} f test (e ∷ entries) d = at (test e.0) (lookup test (map (λ e. (e.0, f e.1)) entries)) (lookup test entries) (lookup_map f test entries d)
  where
    at : (b : Bool) (o : Option W) (p : Option V) → unwrap_or o (f d) ≡ f (unwrap_or p d) → unwrap_or (cond b (Some (f e.1)) o) (f d) ≡ f (unwrap_or (cond b (Some e.1) p) d)
    at true o p h = refl
    at false o p h = h

-- a second choice for the same writer hides the first
pub with_head-twice : (t : Txn) (h g : Head) (own : Txn → Head) (u : Txn) → with_head t g own u ≡ (if same_txn t u then g else with_head t h own u)
with_head-twice t h g own u = at (same_txn t u)
  where
    at : (b : Bool) → (if b then g else own u) ≡ (if b then g else (if b then h else own u))
    at true = refl
    at false = refl

pub with_head-here : (t : Txn) (h : Head) (own : Txn → Head) → with_head t h own t ≡ h
with_head-here t h own = ap (λ (b : Bool). if b then h else own t) (same_txn-itself t)

-- every entry is nonempty after t is given a nonempty list
pub busy_with : (was now : List (Txn × Head)) (t : Txn) (h : Head) → ((u : Txn) → lookup (same_txn u) now ≡ cond (same_txn t u) (Some h) (lookup (same_txn u) was)) → 0 < h.len → IsBusy was
    → IsBusy now
busy_with was now t h put some busy u = subst (λ (o : Option Head). IfSome o (λ g. 0 < g.len)) (sym (put u)) (at (same_txn t u) (lookup (same_txn u) was) (busy u))
  where
    at : (b : Bool) (o : Option Head) → IfSome o (λ g. 0 < g.len) → IfSome (cond b (Some h) o) (λ g. 0 < g.len)
    at true o rest = some
    at false o rest = rest
